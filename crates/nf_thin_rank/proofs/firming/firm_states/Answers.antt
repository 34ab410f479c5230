use Rattle.std.proofs.Common.{List, length, not, sym, ap, subst, ◌∙◌, arith}
use Rattle.nf_thin_rank.proofs.Common.{Link, EachEntry, each_pushed, length_pushed, Firm}
use Rattle.nf_thin_rank.proofs.Keepers.{IsFirmBy, firm_by, firm_of, none_some}
use Rattle.nf_thin_rank.proofs.firming.firm_states.Goals as goal

pub loop-e-preserved : goal.loop-e-preserved
loop-e-preserved c =
    let y : Firm = record { tight = c.may_have-tight.result; full = c.may_have-full.result; zero = not c.is_keeper-zero.result } in
    record {
      count = ap (λ (l : List Firm). length l) c.in_ok-push.ensures.items ∙ length_pushed c.loop-e.firm.items y c.loop-e.e c.loop-e.invariant.count;
      each = subst (λ (l : List Firm). EachEntry (IsFirmBy c.args.ranking.now.net.now.net c.args.listed.now c.args.keepers.now c.args.out) l) (sym c.in_ok-push.ensures.items)
          (each_pushed (IsFirmBy c.args.ranking.now.net.now.net c.args.listed.now c.args.keepers.now c.args.out) c.loop-e.firm.items y c.loop-e.e
          c.loop-e.invariant.count c.loop-e.invariant.each (
            firm_of c.args.ranking.now.net.now.net c.args.listed.now c.args.keepers.now c.loop-e.e c.link-here.result c.link-here.ensures.link c.here.inside.head
                (sym (ap (λ (l : Link). l.head) c.here.view_is)) c.state.result c.state.ensures c.may_have-tight.result c.may_have-full.result c.is_keeper-zero.result
                (λ on. c.is_tight.ensures (c.may_have-tight.ensures.may on))
                (λ on none. none_some c.here.inside.capacity c.link-here.result.capacity c.is_some.result (ap (λ (l : Link). l.capacity) c.here.view_is) (sym c.is_some.ensures)
                (c.may_have-full.ensures.may on) none)
                c.is_keeper-zero.ensures,
            λ is. (λ on. c.may_have-tight.ensures.out on (c.is_out-zeroed.ensures is), λ on. c.may_have-full.ensures.out on (c.is_out-zeroed.ensures is)),
          ));
    }

pub returns : goal.returns
returns c =
    firm_by c.args.ranking.now.net.now.net c.args.ranking.now.sets.now c.args.listed.now c.args.keepers.now c.args.out c.loop-e.firm.items
    c.requires.ranking.sets c.requires.listed c.requires.keepers
    (let n = c.loop-e.invariant.count in let e = c.loop-e.auto.e-end in let t = c.loop-e-test.false in let k = c.link_count-e-end.ensures in omega arith) c.loop-e.invariant.each
