-- Two links, one behind the other: one walk leads over them.
use Rattle.std.proofs.Common.{◌≡◌, ℕ, zero, suc, ◌<◌, List, [], ◌∷◌, Option, Some, None, slice_get, refl, sym, ap, subst, ◌∙◌, arith}
use Rattle.nf_rational.specs.Rational.{ℚ}
use Rattle.nf_rational.specs.Operations.{0ℚ, ◌+ℚ◌}
use Rattle.nf_rational_laws.proofs.Field.{+ℚ_comm, +ℚ_idl}
use Rattle.nf_model.specs.Walk.{Hop, IsWalk, transit_sum, IsLeastTransit}
use Rattle.nf_graph.specs.Distances.{AreDistances}

abbrev pub links : ℚ → ℚ → List Hop
links first second = record { tail = 0; head = 1; transit = first } ∷ record { tail = 1; head = 2; transit = second } ∷ []

-- the ends of a link that may be missing; 3 is no node here
abbrev tail_of : Option Hop → ℕ
tail_of (Some hop) = hop.tail
tail_of None = 3

abbrev head_of : Option Hop → ℕ
head_of (Some hop) = hop.head
head_of None = 3

leaves : (hops : List Hop) (e : ℕ) (walk : List ℕ) (v w : ℕ) → IsWalk hops (e ∷ walk) v w → tail_of (slice_get hops e) ≡ v
leaves hops e walk v w h = ap tail_of h.1 ∙ h.2

goes_on : (hops : List Hop) (e : ℕ) (walk : List ℕ) (v w : ℕ) → IsWalk hops (e ∷ walk) v w → IsWalk hops walk (head_of (slice_get hops e)) w
goes_on hops e walk v w h = subst (λ (u : ℕ). IsWalk hops walk u w) (sym (ap head_of h.1)) h.3

below : {X : Type 0} (v w : ℕ) → v < w → v ≡ w → X
below v w less e = absurd (omega arith)

above : {X : Type 0} (v w : ℕ) → w < v → v ≡ w → X
above v w less e = absurd (omega arith)

module _ (first second : ℚ) where
  at_end : (walk : List ℕ) → IsWalk (links first second) walk 2 2 → transit_sum (links first second) walk ≡ 0ℚ
  at_end [] h = refl
  at_end (zero ∷ walk) h = below 0 2 (omega arith) (leaves (links first second) 0 walk 2 2 h)
  at_end (suc zero ∷ walk) h = below 1 2 (omega arith) (leaves (links first second) 1 walk 2 2 h)
  at_end (suc (suc e) ∷ walk) h = above 3 2 (omega arith) (leaves (links first second) (suc (suc e)) walk 2 2 h)

  at_middle : (walk : List ℕ) → IsWalk (links first second) walk 1 2 → transit_sum (links first second) walk ≡ second
  at_middle [] h = below 1 2 (omega arith) h
  at_middle (zero ∷ walk) h = below 0 1 (omega arith) (leaves (links first second) 0 walk 1 2 h)
  at_middle (suc zero ∷ walk) h = ap (λ (z : ℚ). second +ℚ z) (at_end walk (goes_on (links first second) 1 walk 1 2 h)) ∙ (+ℚ_comm second 0ℚ ∙ +ℚ_idl second)
  at_middle (suc (suc e) ∷ walk) h = above 3 1 (omega arith) (leaves (links first second) (suc (suc e)) walk 1 2 h)

  at_start : (walk : List ℕ) → IsWalk (links first second) walk 0 2 → transit_sum (links first second) walk ≡ first +ℚ second
  at_start [] h = below 0 2 (omega arith) h
  at_start (zero ∷ walk) h = ap (λ (z : ℚ). first +ℚ z) (at_middle walk (goes_on (links first second) 0 walk 0 2 h))
  at_start (suc zero ∷ walk) h = above 1 0 (omega arith) (leaves (links first second) 1 walk 0 2 h)
  at_start (suc (suc e) ∷ walk) h = above 3 0 (omega arith) (leaves (links first second) (suc (suc e)) walk 0 2 h)

  whole_way : IsWalk (links first second) (0 ∷ 1 ∷ []) 0 2
  whole_way = (record { tail = 0; head = 1; transit = first }, refl, refl, (record { tail = 1; head = 2; transit = second }, refl, refl, refl))

  -- the least sum at the last node is that of both links
  pub is_sum : (sums : List (Option ℚ)) (found : Option ℚ) → AreDistances 3 (links first second) 0 sums → slice_get sums 2 ≡ Some found
      → found ≡ Some (first +ℚ second)
  is_sum sums None d e = absurd (d.none 2 e (0 ∷ 1 ∷ []) whole_way)
  is_sum sums (Some sum) d e =
      let least : IsLeastTransit (links first second) 0 2 sum = d.least 2 sum e in
      ap (λ (z : ℚ). Some z) (sym least.taken.2 ∙ at_start least.taken.0 least.taken.1)
