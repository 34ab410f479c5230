use Rattle.std.proofs.Common.{List, length, sym, subst, ap, ◌∙◌}
use Rattle.nf_thin_balance.proofs.Common.{true≢false, none-some, Range, AreFlowsWithin, scaled_flow}
use Rattle.nf_thin_balance.proofs.Solutions.{can_flow, conserved}
use Rattle.nf_thin_balance.proofs.ruling.ruled_out_at.Goals as goal

pub fails_at-requires : goal.fails_at-requires
fails_at-requires c = record {
  network = c.recall.ensures.network;
  sets = c.requires.sets;
  full = ap (λ (l : List Range). length l) c.deref.ensures.value ∙ c.requires.scaled;
  states = c.requires.states;
}

pub link_ranges-requires : goal.link_ranges-requires
link_ranges-requires c = record {
  network = c.recall.ensures.network;
  sets = c.requires.sets;
  full = ap (λ (l : List Range). length l) c.deref.ensures.value ∙ c.requires.scaled;
  states = c.requires.states;
}

pub first_unbalanced-requires : goal.first_unbalanced-requires
first_unbalanced-requires c = ap (λ (l : List Range). length l) c.deref-2.ensures.value ∙ c.in_ok-ranges.ensures.count

pub returns-then-fails_at : goal.returns-then-fails_at
returns-then-fails_at c rate slopes flows is solves meets = absurd (c.fails_at.ensures c.if-fails_at.true c.args.scaled.now.scale rate flows is.supply
    (can_flow c.args.net.now.net c.args.sets.now rate c.args.pattern.now c.args.scaled.now c.deref.result.now c.deref.ensures.value slopes flows is solves meets))

pub returns-in-Some : goal.returns-in-Some
returns-in-Some c rate slopes flows is solves meets = absurd (none-some c.in-Some.node (sym (c.in_ok-node.ensures (scaled_flow c.args.scaled.now.scale flows)
    (subst (λ (l : List Range). AreFlowsWithin l (scaled_flow c.args.scaled.now.scale flows)) (sym c.deref-2.ensures.value) (c.in_ok-ranges.ensures.carry c.args.scaled.now.scale rate flows
    (can_flow c.args.net.now.net c.args.sets.now rate c.args.pattern.now c.args.scaled.now c.deref.result.now c.deref.ensures.value slopes flows is solves meets)))
    (conserved c.args.net.now.net c.args.sets.now rate c.args.pattern.now c.args.scaled.now c.deref.result.now c.deref.ensures.value slopes flows is solves
    meets c.recall.ensures.network))
    ∙ c.in-Some.is))

pub returns : goal.returns
returns c rate slopes flows is solves meets = absurd (true≢false (sym (c.in_ok-comes_out.ensures (scaled_flow c.args.scaled.now.scale flows)
    (c.in_ok-ranges.ensures.carry c.args.scaled.now.scale rate flows
    (can_flow c.args.net.now.net c.args.sets.now rate c.args.pattern.now c.args.scaled.now c.deref.result.now c.deref.ensures.value slopes flows is solves meets))
    (conserved c.args.net.now.net c.args.sets.now rate c.args.pattern.now c.args.scaled.now c.deref.result.now c.deref.ensures.value slopes flows is solves
    meets c.recall.ensures.network))
    ∙ c.if-branch.false))
