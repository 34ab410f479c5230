-- The rank of a listed pattern is at most one more than the number of assignments before it.
use Rattle.std.proofs.Common.{◌≡◌, ℕ, zero, suc, ◌<◌, ◌≤◌, Bool, List, length, refl, sym, ◌∙◌, arith, Some, slice_get}
use Rattle.nf_thin_laws.proofs.Common.{slice_get_within, Hop, Sets, Pattern, IsListed, HasPlace, IsListing, entry, Choices, AreIn, ways_before}
use Rattle.nf_thin_laws.proofs.Counting.{AreIn-length, before_less}

module _ (nodes source : ℕ) (hops : List Hop) (sets : Sets) (unbounded : List Bool) (base : Pattern) (choices : Choices) (listing : List Pattern)
    (is : IsListing nodes source hops sets unbounded base listing) (states : (q : Pattern) → IsListed nodes source hops sets unbounded q → AreIn choices q)
    (count : length base ≡ length sets.active) where
  listed_at : (i : ℕ) (p : Pattern) → slice_get listing i ≡ Some p → IsListed nodes source hops sets unbounded p
  listed_at i p at = is.listed (suc i) p (i, refl, at)

  no_more : (i : ℕ) (p : Pattern) → slice_get listing i ≡ Some p → i ≤ ways_before choices base p
  no_more zero p at = omega arith
  no_more (suc i) p at =
      let w = entry listing i (let l = slice_get_within listing (suc i) p at in omega arith) in
      let one = listed_at i w.0 w.1 in
      let other = listed_at (suc i) p at in
      let in_one = states w.0 one in
      let in_other = states p other in
      let so_far : i ≤ ways_before choices base w.0 = no_more i w.0 w.1 in
      let less : ways_before choices base w.0 < ways_before choices base p =
      before_less choices base w.0 p in_one in_other (count ∙ (sym other.states.count ∙ sym (AreIn-length choices p in_other)))
      (is.ordered (suc i) (suc (suc i)) w.0 p (omega arith) (i, refl, w.1) (suc i, refl, at)) in
      omega arith

  pub bounded : (place : ℕ) (p : Pattern) → HasPlace listing place p → place ≤ suc (ways_before choices base p)
  bounded place p at = let h = no_more at.0 p at.2 in let e = at.1 in omega arith
