-- Whether the pattern sought is among the enumerated patterns of a listing.
use Rattle.std.proofs.Common.{◌≡◌, ◌⊎◌, inl, inr, ℕ, suc, ◌<◌, ◌≤◌, List, refl, sym, ap, ◌∙◌, arith, Some, slice_get}
use Rattle.nf_thin_narrow.proofs.Common.{same_Some, slice_get_within, Pattern, IsBefore, HasPlace, IsBefore-asymmetric, compared, IsListingOf, Question}
use Rattle.nf_thin_narrow.proofs.Common.{Last, UpTo, IsNext, NoneLeft, GivenUpTo}
use Rattle.nf_thin_narrow.proofs.Places.{given_next, given_all}

module _ (q : Question) (listing : List Pattern) (is : IsListingOf q listing) (place : ℕ) (pattern : Pattern) (at : HasPlace listing place pattern) where
  twice : (i j : ℕ) → i < j → slice_get listing i ≡ Some pattern → slice_get listing j ≡ Some pattern → ⊥
  twice i j less at_i at_j =
      let b : IsBefore q.base pattern pattern = is.ordered (suc i) (suc j) pattern pattern (omega arith) (i, refl, at_i) (j, refl, at_j) in
      IsBefore-asymmetric q.base pattern pattern b b

  only_place : (i : ℕ) → slice_get listing i ≡ Some pattern → place ≡ suc i
  only_place i at_i = go (compared i at.0)
    where
      go : (i < at.0) ⊎ ((i ≡ at.0) ⊎ (at.0 < i)) → place ≡ suc i
      go (inl h) = absurd (twice i at.0 h at_i at.2)
      go (inr (inl h)) = let e = at.1 in omega arith
      go (inr (inr h)) = absurd (twice at.0 i h at.2 at_i)

  module _ (tried : ℕ) (last : Last) (given : GivenUpTo listing tried last) where
    module _ (p : Pattern) (next : IsNext q last p) where
      here : slice_get listing tried ≡ Some p
      here = given_next q listing is last p next tried given

      pub found_here : p ≡ pattern → place ≡ suc tried
      found_here same = only_place tried (here ∙ ap (λ (x : Pattern). Some x) same)

      pub not_here : (p ≡ pattern → ⊥) → tried < place → suc tried < place
      not_here other less = go (compared (suc tried) place)
        where
          go : (suc tried < place) ⊎ ((suc tried ≡ place) ⊎ (place < suc tried)) → suc tried < place
          go (inl h) = h
          go (inr (inl h)) =
              let i : at.0 ≡ tried = (let e = at.1 in omega arith) in
              absurd (other (same_Some p pattern (sym here ∙ (ap (slice_get listing) (sym i) ∙ at.2))))
          go (inr (inr h)) = absurd (omega arith)

    pub behind_all : NoneLeft q last → place ≤ tried
    behind_all none =
        let all = given_all q listing is tried last given none in
        let w = slice_get_within listing at.0 pattern at.2 in
        let e = at.1 in omega arith

module _ (q : Question) (listing : List Pattern) (is : IsListingOf q listing) (tried : ℕ) (last : Last) (given : GivenUpTo listing tried last) (p : Pattern)
    (next : IsNext q last p) where
  pub given_more : GivenUpTo listing (suc tried) (UpTo p)
  given_more = (p, given_next q listing is last p next tried given, refl)
