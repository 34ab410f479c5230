-- The rank of a listed pattern is greater than the number of listed assignments before it.
use Rattle.std.proofs.Common.{◌≡◌, ◌⊎◌, inl, inr, ℕ, zero, suc, ◌<◌, ◌≤◌, Bool, List, length, refl, sym, ap, subst, ◌∙◌, arith, Some, slice_get}
use Rattle.nf_thin_laws.proofs.Common.{same_Some, Hop, Sets, Pattern, IsListed, IsBefore, HasPlace, IsListing, compared, Choices, AreIn, ways_before}
use Rattle.nf_thin_laws.proofs.Common.{AllAscend, firm_before}
use Rattle.nf_thin_laws.proofs.Listings.{IsBefore-asymmetric}
use Rattle.nf_thin_laws.proofs.Counting.{AreIn-length, before_less}
use Rattle.nf_thin_laws.proofs.Unranking.{number_before}

module _ (nodes source : ℕ) (hops : List Hop) (sets : Sets) (unbounded : List Bool) (base : Pattern) (choices : Choices) (listing : List Pattern)
    (is : IsListing nodes source hops sets unbounded base listing) (all : (q : Pattern) → AreIn choices q → IsListed nodes source hops sets unbounded q) (up : AllAscend choices)
    (count : length base ≡ length sets.active) where
  in_listing : (i j : ℕ) (p r : Pattern) → i < j → slice_get listing i ≡ Some p → slice_get listing j ≡ Some r → IsBefore base p r
  in_listing i j p r less at_p at_r = is.ordered (suc i) (suc j) p r (omega arith) (i, refl, at_p) (j, refl, at_r)

  pub there : (q : Pattern) → AreIn choices q → (i : ℕ) × (slice_get listing i ≡ Some q)
  there q in_q = let w = is.whole q (all q in_q) in (w.1.0, w.1.2)

  same_at : (i j : ℕ) (p r : Pattern) → i ≡ j → slice_get listing i ≡ Some p → slice_get listing j ≡ Some r → p ≡ r
  same_at i j p r same at_p at_r = same_Some p r (sym at_p ∙ (ap (slice_get listing) same ∙ at_r))

  -- An assignment with fewer assignments before it has a lower index.
  pub fewer_lower : (q w : Pattern) → AreIn choices q → AreIn choices w → ways_before choices base w < ways_before choices base q
      → (i j : ℕ) → slice_get listing i ≡ Some w → slice_get listing j ≡ Some q → i < j
  fewer_lower q w in_q in_w fewer i j at_w at_q = go (compared i j)
    where
      counts : length base ≡ length choices
      counts = count ∙ (sym (all q in_q).states.count ∙ sym (AreIn-length choices q in_q))

      go : (i < j) ⊎ ((i ≡ j) ⊎ (j < i)) → i < j
      go (inl h) = h
      go (inr (inl same)) = let e : ways_before choices base w ≡ ways_before choices base q = ap (ways_before choices base) (same_at i j w q same at_w at_q) in absurd (omega arith)
      go (inr (inr more)) = let l = before_less choices base q w in_q in_w counts (in_listing j i q w more at_q at_w) in absurd (omega arith)

  -- A pattern before another one has a lower index.
  pub before_lower : (p q : Pattern) → IsBefore base q p → (i j : ℕ) → slice_get listing i ≡ Some q → slice_get listing j ≡ Some p → i < j
  before_lower p q before i j at_q at_p = go (compared i j)
    where
      go : (i < j) ⊎ ((i ≡ j) ⊎ (j < i)) → i < j
      go (inl h) = h
      go (inr (inl same)) =
          let e : q ≡ p = same_at i j q p same at_q at_p in
          let itself : IsBefore base p p = subst (λ (x : Pattern). IsBefore base x p) e before in absurd (IsBefore-asymmetric base p p itself itself)
      go (inr (inr more)) = absurd (IsBefore-asymmetric base q p before (in_listing j i p q more at_p at_q))

  module _ (p : Pattern) where
    at_least : (k : ℕ) → k < firm_before choices base p → (q : Pattern) → AreIn choices q → ways_before choices base q ≡ k → (j : ℕ) → slice_get listing j ≡ Some q → k ≤ j
    at_least zero less q in_q number j at = omega arith
    at_least (suc k) less q in_q number j at =
        let w = number_before choices base p k up (omega arith) in
        let t = there w.q w.in_choices in
        let h : k ≤ t.0 = at_least k (omega arith) w.q w.in_choices w.number t.0 t.1 in
        let l : t.0 < j = fewer_lower q w.q in_q w.in_choices (let f = w.number in omega arith) t.0 j t.1 at in omega arith

    so_many : (j n : ℕ) → slice_get listing j ≡ Some p → firm_before choices base p ≡ n → n ≤ j
    so_many j zero at e = omega arith
    so_many j (suc n) at e =
        let w = number_before choices base p n up (omega arith) in
        let t = there w.q w.in_choices in
        let h = at_least n (omega arith) w.q w.in_choices w.number t.0 t.1 in
        let l = before_lower p w.q w.before t.0 j t.1 at in omega arith

  pub bounded_below : (place : ℕ) (p : Pattern) → HasPlace listing place p → firm_before choices base p < place
  bounded_below place p at = let h = so_many p at.0 (firm_before choices base p) at.2 refl in let e = at.1 in omega arith
