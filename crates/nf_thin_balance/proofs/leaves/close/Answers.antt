use Rattle.std.proofs.Common.{◌≡◌, ◌<◌, List, length, refl, sym, ap, subst, ◌∙◌, arith, slice_get, slice_set, Some}
use Rattle.nf_thin_balance.proofs.Common.{length-map, 0ℚ, Hop, hop_of, Range, length_set, IsInRange, AreFlowsWithin, needed_at}
use Rattle.nf_thin_balance.proofs.Conserving.{link_read, end_test}
use Rattle.nf_thin_balance.proofs.Closing.{but, needs_link, within_but, within_again}
use Rattle.nf_thin_balance.proofs.leaves.close.Goals as goal

pub bounds-hops-index : goal.bounds-hops-index
bounds-hops-index c =
    let count : length c.hops.result.now ≡ length c.args.net.now.net.links = ap (λ (l : List Hop). length l) c.hops.ensures.value ∙ length-map c.args.net.now.net.links hop_of in
    let index = c.index.ensures in
    let link = c.requires.link in
    omega arith

pub returns-then-leaves-enters-clause-keeps : goal.returns-then-leaves-enters-clause-keeps
returns-then-leaves-enters-clause-keeps c flow within conserves = (refl, within)

pub returns-clause-count : goal.returns-clause-count
returns-clause-count c = ap (λ (l : List Range). length l) c.put_range-2.ensures ∙ (length_set c.put_range.new.ranges.items c.args.link c.left_for-flow.result
    ∙ (ap (λ (l : List Range). length l) c.put_range.ensures ∙ (length_set c.args.ranges.now.items c.args.link c.zero.result ∙ c.requires.ranges)))

pub returns-clause-keeps : goal.returns-clause-keeps
returns-clause-keeps c flow within conserved =
    let f = link_read c.args.net.now.net c.hops.result.now c.args.link c.index.result c.index-hops-index.result c.hops.ensures.value c.index.ensures
    c.requires.link c.index-hops-index.is in
    let below : c.args.link < length c.args.ranges.now.items = (let n = c.requires.ranges in let l = c.requires.link in omega arith) in
    let none : IsInRange c.zero.result 0ℚ = c.zero.ensures in
    let others = c.surplus_range-others.ensures (but c.args.link flow)
    (subst (λ (l : List Range). AreFlowsWithin l (but c.args.link flow)) (sym (c.deref-2.ensures.value ∙ c.put_range.ensures))
    (within_but c.args.ranges.now.items c.args.link c.zero.result flow below within none)) in
    let fits : IsInRange c.left_for-flow.result (flow c.args.link) = c.left_for-flow.ensures (flow c.args.link) _ _ others
    (c.needed.ensures conserved.0 conserved.1)
    (needs_link c.args.net.now.net flow c.args.node c.args.link f.0 f.1 (needed_at c.args.net.now.net conserved.0 c.args.node) (conserved.2 c.args.node c.requires.node)
    c.eq-leaves.result c.eq-enters.result
    (end_test c.eq-leaves.result c.hop.inside.tail c.index-hops-index.result.tail (f.0).tail c.args.node c.eq-leaves.ensures (ap (λ (h : Hop). h.tail) c.hop.view_is) f.2)
    (end_test c.eq-enters.result c.hop.inside.head c.index-hops-index.result.head (f.0).head c.args.node c.eq-enters.ensures (ap (λ (h : Hop). h.head) c.hop.view_is) f.3)
    c.if-leaves-enters.false) in (
      c.meets-fits.ensures (flow c.args.link) (within c.args.link c.range_at-own.result
          (subst (λ (l : List Range). slice_get l c.args.link ≡ Some c.range_at-own.result) c.deref.ensures.value c.range_at-own.ensures)) fits,
      subst (λ (l : List Range). AreFlowsWithin l flow) (sym (c.put_range-2.ensures ∙ ap (λ (l : List Range). slice_set l c.args.link c.left_for-flow.result) c.put_range.ensures))
          (within_again c.args.ranges.now.items c.args.link c.zero.result c.left_for-flow.result flow
          (let e = length_set c.args.ranges.now.items c.args.link c.zero.result in omega arith) within fits),
    )

pub range_at-own-requires : goal.range_at-own-requires
range_at-own-requires c = let n = ap (λ (l : List Range). length l) c.deref.ensures.value ∙ c.requires.ranges in let l = c.requires.link in omega arith

pub put_range-requires : goal.put_range-requires
put_range-requires c = let n = c.requires.ranges in let l = c.requires.link in omega arith

pub surplus_range-others-requires : goal.surplus_range-others-requires
surplus_range-others-requires c = record {
  links = c.requires.links;
  node = c.requires.node;
  ranges = ap (λ (l : List Range). length l) (c.deref-2.ensures.value ∙ c.put_range.ensures) ∙ (length_set c.args.ranges.now.items c.args.link c.zero.result ∙ c.requires.ranges);
}
