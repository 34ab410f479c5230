use Rattle.std.proofs.Common.{◌+◌, ◌-◌, ◌<◌, ◌≤◌, drop, length, refl, sym, ap, ◌∙◌, arith}
use Rattle.nf_routes_links.proofs.Common.{slice_get_read, ℚ, entry, pairs_of, end_by, max_ℚ}
use Rattle.nf_routes_links.proofs.Greatest.{along_end, along_here, along_other}
use Rattle.nf_routes_links.proofs.ends.end_along.Goals.{then-eq, else-eq}
use Rattle.nf_routes_links.proofs.ends.end_along.Goals as goal

pub loop-i-preserved : goal.loop-i-preserved
loop-i-preserved c =
    let inside : c.loop-i.i < length c.args.along.now = omega arith in
    let before : c.loop-i.i - 1 < length c.args.along.now = omega arith in
    let here = slice_get_read c.args.along.now _ c.loop-i.i c.index-along-i.result refl inside c.index-along-i.is in
    elim c.if-eq.branch [
      | then-eq w ↦ rw w.end-is (
        ap (λ (z : ℚ). end_by z (pairs_of (drop (c.loop-i.i + 1 - 1) c.args.along.now)) c.args.links.now c.args.link) (w.greater-end.ensures ∙ ap (max_ℚ c.loop-i.end) w.exit_end.ensures)
            ∙ along_here c.args.along.now c.args.links.now c.args.link c.loop-i.i c.loop-i.end _ c.loop-i.invariant.1 c.loop-i.invariant.0
            w.index-along-i-then-eq.result c.index-along-i.result
            (slice_get_read c.args.along.now _ (c.loop-i.i - 1) w.index-along-i-then-eq.result refl before w.index-along-i-then-eq.is) here (sym c.eq.ensures ∙ w.if-eq.true),
        omega arith,
      )
      | else-eq w ↦
          let one = entry c.args.along.now (c.loop-i.i - 1) before in
          rw w.end-is (
            along_other c.args.along.now c.args.links.now c.args.link c.loop-i.i c.loop-i.end _ c.loop-i.invariant.1 c.loop-i.invariant.0 one.0
                c.index-along-i.result one.1 here (sym c.eq.ensures ∙ w.if-eq.false),
            omega arith,
          )
    ]

pub returns : goal.returns
returns c =
    let past : length c.args.along.now ≤ c.loop-i.i = omega arith in
    along_end c.args.along.now c.args.links.now c.args.link c.loop-i.i c.loop-i.end _ c.loop-i.invariant.1 c.loop-i.invariant.0 past
