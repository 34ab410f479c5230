use Rattle.std.proofs.Common.{◌-◌, ◌<◌, ◌≤◌, length, refl, sym, ◌∙◌, arith}
use Rattle.nf_routes_read.proofs.Common.{slice_get_read, entry}
use Rattle.nf_routes_read.proofs.Pairs.{pairs_end, pairs_taken, pairs_other}
use Rattle.nf_routes_read.proofs.order.may_follow.Goals.{else-eq-via-then-eq+else-not-is_taken, else-eq-via-else-eq}
use Rattle.nf_routes_read.proofs.order.may_follow.Goals as goal

pub loop-i-preserved : goal.loop-i-preserved
loop-i-preserved c =
    let inside : c.loop-i.i < length c.args.links.now = omega arith in
    let before : c.loop-i.i - 1 < length c.args.links.now = omega arith in
    let here = slice_get_read c.args.links.now _ c.loop-i.i c.index-links-i.result refl inside c.index-links-i.is in
    elim c.else-eq.branch [
      | else-eq-via-then-eq+else-not-is_taken w ↦ (
        pairs_taken c.args.links.now c.args.taken.now c.args.link c.loop-i.i c.loop-i.invariant.1 c.loop-i.invariant.0 w.index-links-i-then-eq.result c.index-links-i.result
            (slice_get_read c.args.links.now _ (c.loop-i.i - 1) w.index-links-i-then-eq.result refl before w.index-links-i-then-eq.is) here
            (sym w.is_taken.ensures ∙ w.if-not-is_taken.false),
        omega arith,
      )
      | else-eq-via-else-eq w ↦
          let one = entry c.args.links.now (c.loop-i.i - 1) before in (
            pairs_other c.args.links.now c.args.taken.now c.args.link c.loop-i.i c.loop-i.invariant.1 c.loop-i.invariant.0 one.0 c.index-links-i.result
                one.1 here (sym c.eq.ensures ∙ w.if-eq.false),
            omega arith,
          )
    ]

pub returns : goal.returns
returns c =
    let past : length c.args.links.now ≤ c.loop-i.i = omega arith in
    pairs_end c.args.links.now c.args.taken.now c.args.link c.loop-i.i c.loop-i.invariant.1 c.loop-i.invariant.0 past
