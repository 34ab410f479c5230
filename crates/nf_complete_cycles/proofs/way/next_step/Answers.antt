use Rattle.std.proofs.Common.{ℕ, Bool, below_more, subst, arith}
use Rattle.nf_complete_cycles.proofs.Common.{Hop, Has_from_read, not_Has_from_read, IsHop-read, IsHop-unique, StepsOut, Crosses}
use Rattle.nf_complete_cycles.proofs.Growing.{none_out}
use Rattle.nf_complete_cycles.proofs.way.next_step.Goals as goal
use Rattle.nf_complete_cycles.proofs.way.next_step.Goals.{then-chosen-e+in_default, else-chosen-e}

pub crossing-requires-clause-tail : goal.crossing-requires-clause-tail
crossing-requires-clause-tail c =
    c.requires.ends.tails c.loop-e.e c.index-hops-e.result (IsHop-read c.args.hops.now c.loop-e.e c.index-hops-e.result c.loop-e-test.true c.index-hops-e.is)

pub crossing-requires-clause-head : goal.crossing-requires-clause-head
crossing-requires-clause-head c =
    c.requires.ends.heads c.loop-e.e c.index-hops-e.result (IsHop-read c.args.hops.now c.loop-e.e c.index-hops-e.result c.loop-e-test.true c.index-hops-e.is)

pub returns-in-Some : goal.returns-in-Some
returns-in-Some c = record {
  hop = c.index-hops-e.result;
  is_hop = IsHop-read c.args.hops.now c.loop-e.e c.index-hops-e.result (omega arith) c.index-hops-e.is;
  chosen_is = Has_from_read c.args.chosen.now c.loop-e.e c.if-chosen-e.true;
  crosses = c.in-Some.ensures;
}

pub loop-e-preserved : goal.loop-e-preserved
loop-e-preserved c = below_more (λ (k : ℕ). (forward : Bool) → StepsOut c.args.hops.now c.args.chosen.now c.args.flags.now (k, forward) → ⊥) c.loop-e.e c.loop-e.invariant
    (elim c.if-chosen-e.branch [
      | then-chosen-e+in_default w ↦ λ forward x.
          w.in_default.ensures forward (subst (λ (h : Hop). Crosses c.args.flags.now h forward)
          (IsHop-unique c.args.hops.now c.loop-e.e _ _ x.is_hop (IsHop-read c.args.hops.now c.loop-e.e c.index-hops-e.result (omega arith) c.index-hops-e.is)) x.crosses)
      | else-chosen-e w ↦ λ forward x. not_Has_from_read c.args.chosen.now c.loop-e.e w.if-chosen-e.false x.chosen_is
    ])

pub returns : goal.returns
returns c = none_out c.args.hops.now c.args.chosen.now c.args.flags.now c.loop-e.e c.loop-e.invariant (omega arith)
