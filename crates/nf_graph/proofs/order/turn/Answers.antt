use Rattle.std.proofs.Common.{◌≡◌, ℕ, ◌<◌, length, Some, slice_get, refl, below_more, add-one, sym, subst, ap, ◌∙◌, arith}
use Rattle.nf_graph.proofs.Common.{slice_get_within, slice_get_read, Hop, IsHop}
use borrow.Author.Rules.{scaled_Fits}
use Rattle.nf_graph.proofs.Walks.{IsHop-read, IsHop-unique, same_from_test, apart_from_test}
use Rattle.nf_graph.proofs.order.turn.Goals as goal

pub returns-then-eq : goal.returns-then-eq
returns-then-eq c = record {
  place = c.loop-place.place;
  number = c.index-walk-place.result;
  hop = c.index-hops-index.result;
  at_place = slice_get_read c.args.walk.now (length c.args.walk.now) c.loop-place.place c.index-walk-place.result refl c.loop-place-test.true c.index-walk-place.is;
  is_hop = subst (λ (n : ℕ). IsHop c.args.hops.now n c.index-hops-index.result) c.index.ensures (IsHop-read c.args.hops.now c.index.result c.index-hops-index.result
      (subst (λ (n : ℕ). n < length c.args.hops.now) (sym c.index.ensures)
      (c.requires c.loop-place.place c.index-walk-place.result (slice_get_read c.args.walk.now
      (length c.args.walk.now) c.loop-place.place c.index-walk-place.result refl c.loop-place-test.true c.index-walk-place.is))) c.index-hops-index.is);
  head = ap (λ (h : Hop). h.head) (sym c.hop.view_is) ∙ same_from_test _ _ c.if-eq.ensures;
  is_count = add-one c.loop-place.place;
}

pub loop-place-preserved : goal.loop-place-preserved
loop-place-preserved c =
    below_more (λ (k : ℕ). (e : ℕ) (hop : Hop) → slice_get c.args.walk.now k ≡ Some e → IsHop c.args.hops.now e hop → hop.head ≡ c.args.node → ⊥)
    c.loop-place.place c.loop-place.invariant
    (λ e hop p q h.
    let read : slice_get c.args.walk.now c.loop-place.place ≡ Some c.index-walk-place.result =
    slice_get_read c.args.walk.now (length c.args.walk.now) c.loop-place.place c.index-walk-place.result refl c.loop-place-test.true
    c.index-walk-place.is in
    let number : e ≡ c.index.result = cc in
    let within : e < length c.args.hops.now = slice_get_within c.args.hops.now e hop q in
    let same : hop ≡ c.index-hops-index.result = IsHop-unique c.args.hops.now c.index.result _ _ (subst (λ (n : ℕ). IsHop c.args.hops.now n hop) number q)
    (IsHop-read c.args.hops.now c.index.result c.index-hops-index.result (subst (λ (n : ℕ). n < length c.args.hops.now) number within) c.index-hops-index.is) in
    apart_from_test _ _ c.if-eq.ensures (ap (λ (h : Hop). h.head) (c.hop.view_is ∙ sym same) ∙ h))

pub returns : goal.returns
returns c =
    λ count t. let h : t.place < length c.args.walk.now = slice_get_within c.args.walk.now t.place t.number t.at_place in
    c.loop-place.invariant t.place (omega arith) t.number t.hop t.at_place t.is_hop t.head

pub bounds-hops-index : goal.bounds-hops-index
bounds-hops-index c =
    subst (λ (n : ℕ). n < length c.args.hops.now) (sym c.index.ensures)
    (c.requires c.loop-place.place c.index-walk-place.result (slice_get_read c.args.walk.now
    (length c.args.walk.now) c.loop-place.place c.index-walk-place.result refl c.loop-place-test.true c.index-walk-place.is))

pub offset_bounds-hops-index : goal.offset_bounds-hops-index
offset_bounds-hops-index c =
    let below = bounds-hops-index c in search scaled_Fits
