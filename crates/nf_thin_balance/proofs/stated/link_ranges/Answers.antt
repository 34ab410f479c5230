use Rattle.std.proofs.Common.{ℕ, List, length, sym, ap, subst, ◌∙◌, arith}
use Rattle.nf_thin_balance.proofs.Common.{each_none, each_pushed, length_pushed, Range, IsInRange, AreFlowsWithin, scaled_flow}
use Rattle.nf_thin_balance.proofs.stated.link_ranges.Goals as goal

pub range_of-requires-clause-link : goal.range_of-requires-clause-link
range_of-requires-clause-link c = let t = c.loop-e-test.true in let n = c.link_count-e-end.ensures in omega arith

pub loop-e-init : goal.loop-e-init
loop-e-init c = record {
  count = ap (λ (l : List Range). length l) c.in_ok-ranges.ensures.items;
  carry = λ scale rate flows can. each_none (λ (e : ℕ) (range : Range). IsInRange range (scaled_flow scale flows e)) c.in_ok-ranges.ranges.items c.in_ok-ranges.ensures.items;
}

pub loop-e-preserved : goal.loop-e-preserved
loop-e-preserved c = record {
  count = ap (λ (l : List Range). length l) c.in_ok-push.ensures.items ∙ length_pushed c.loop-e.ranges.items c.range_of.result c.loop-e.e c.loop-e.invariant.count;
  carry = λ scale rate flows can. subst (λ (l : List Range). AreFlowsWithin l (scaled_flow scale flows)) (sym c.in_ok-push.ensures.items)
      (each_pushed (λ (e : ℕ) (range : Range). IsInRange range (scaled_flow scale flows e)) c.loop-e.ranges.items c.range_of.result c.loop-e.e c.loop-e.invariant.count
      (c.loop-e.invariant.carry scale rate flows can) (c.range_of.ensures scale rate flows can));
}
