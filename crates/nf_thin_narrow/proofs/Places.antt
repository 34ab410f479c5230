-- The number of enumerated patterns of a listing.
use Rattle.std.proofs.Common.{◌≡◌, ℕ, zero, suc, ◌<◌, ◌≤◌, List, length, ◌⊎◌, inl, inr, ⊎_elim, Some, slice_get, refl, sym, ap, subst, ◌∙◌, arith}
use Rattle.nf_thin_narrow.proofs.Common.{same_Some, slice_get_within, Pattern, IsBefore, HasPlace, IsBefore-asymmetric, IsListingOf, Question, Last}
use Rattle.nf_thin_narrow.proofs.Common.{AtStart, UpTo, IsLater, IsNext, NoneLeft, entry, before_or_at, compared, GivenUpTo}

module _ (q : Question) (listing : List Pattern) (is : IsListingOf q listing) where
  ordered : (i j : ℕ) (p r : Pattern) → i < j → slice_get listing i ≡ Some p → slice_get listing j ≡ Some r → IsBefore q.base p r
  ordered i j p r less at_p at_r = is.ordered (suc i) (suc j) p r (omega arith) (i, refl, at_p) (j, refl, at_r)

  not_after_itself : (i j : ℕ) (p r : Pattern) → i ≤ j → slice_get listing j ≡ Some p → slice_get listing i ≡ Some r → IsBefore q.base p r → ⊥
  not_after_itself i j p r le at_p at_r before = ⊎_elim
      (λ (less : i < j). IsBefore-asymmetric q.base p r before (ordered i j r p less at_r at_p))
      (λ (same : i ≡ j).
      let s : p ≡ r = same_Some p r (sym at_p ∙ (ap (slice_get listing) (sym same) ∙ at_r)) in
      let b : IsBefore q.base r r = subst (λ (x : Pattern). IsBefore q.base x r) s before in IsBefore-asymmetric q.base r r b b)
      (before_or_at i j (omega arith))

  -- A pattern before another one has a lower index.
  pub earlier_index : (i j : ℕ) (p r : Pattern) → slice_get listing i ≡ Some p → slice_get listing j ≡ Some r → IsBefore q.base p r → i < j
  earlier_index i j p r at_p at_r before = ⊎_elim
      (λ (less : i < j). less)
      (λ (w : (i ≡ j) ⊎ (j < i)). absurd (not_after_itself j i p r (⊎_elim (λ (e : i ≡ j). omega arith) (λ (h : j < i). omega arith) w) at_p at_r before))
      (compared i j)

  module _ (last : Last) (p : Pattern) (next : IsNext q last p) where
    place : (place : ℕ) × HasPlace listing place p
    place = is.whole p next.listed

    -- Nothing is enumerated yet, so it is the first pattern.
    first_place : last ≡ AtStart → slice_get listing 0 ≡ Some p
    first_place e = go place.1.0 place.1.2
      where
        later : (l : Last) → l ≡ AtStart → (r : Pattern) → IsLater q.base l r
        later l e r = subst (λ (x : Last). IsLater q.base x r) (sym e) tt

        go : (j : ℕ) → slice_get listing j ≡ Some p → slice_get listing 0 ≡ Some p
        go zero at = at
        go (suc j) at =
            let r = entry listing 0 (let w = slice_get_within listing (suc j) p at in omega arith) in
            absurd (next.least r.0 (is.listed 1 r.0 (0, refl, r.1)) (later last e r.0) (ordered 0 (suc j) r.0 p (omega arith) r.1 at))

    next_place : (k : ℕ) (l : Pattern) → slice_get listing k ≡ Some l → last ≡ UpTo l → slice_get listing (suc k) ≡ Some p
    next_place k l at_l e = go (place.1.0) place.1.2
      where
        after : IsBefore q.base l p
        after = subst (λ (x : Last). IsLater q.base x p) e next.later

        is_later : (r : Pattern) → IsBefore q.base l r → IsLater q.base last r
        is_later r b = subst (λ (x : Last). IsLater q.base x r) (sym e) b

        between : (j : ℕ) → slice_get listing j ≡ Some p → suc k < j → ⊥
        between j at less =
            let r = entry listing (suc k) (let w = slice_get_within listing j p at in omega arith) in
            next.least r.0 (is.listed (suc (suc k)) r.0 (suc k, refl, r.1)) (is_later r.0 (ordered k (suc k) l r.0 (omega arith) at_l r.1)) (ordered (suc k) j r.0 p less r.1 at)

        go : (j : ℕ) → slice_get listing j ≡ Some p → slice_get listing (suc k) ≡ Some p
        go j at = ⊎_elim
            (λ (low : j < suc k). absurd (not_after_itself j k l p (omega arith) at_l at after))
            (λ (w : (j ≡ suc k) ⊎ (suc k < j)). ⊎_elim
            (λ (same : j ≡ suc k). subst (λ (i : ℕ). slice_get listing i ≡ Some p) same at)
            (λ (high : suc k < j). absurd (between j at high)) w)
            (compared j (suc k))

    pub given_next : (tried : ℕ) → GivenUpTo listing tried last → slice_get listing tried ≡ Some p
    given_next zero e = first_place e
    given_next (suc k) g = next_place k g.0 g.1 g.2

  pub given_all : (tried : ℕ) (last : Last) → GivenUpTo listing tried last → NoneLeft q last → length listing ≤ tried
  given_all tried last given none = go (compared tried (length listing))
    where
      later : (tried : ℕ) → GivenUpTo listing tried last → (r : Pattern) → slice_get listing tried ≡ Some r → IsLater q.base last r
      later zero e r at = subst (λ (x : Last). IsLater q.base x r) (sym e) tt
      later (suc k) g r at = subst (λ (x : Last). IsLater q.base x r) (sym g.2) (ordered k (suc k) g.0 r (omega arith) g.1 at)

      go : (tried < length listing) ⊎ ((tried ≡ length listing) ⊎ (length listing < tried)) → length listing ≤ tried
      go (inr (inl same)) = omega arith
      go (inr (inr more)) = omega arith
      go (inl less) = let r = entry listing tried less in absurd (none r.0 (is.listed (suc tried) r.0 (tried, refl, r.1)) (later tried given r.0 r.1))

  -- A pattern later than all enumerated ones has a higher rank.
  pub later_place : (tried : ℕ) (last : Last) → GivenUpTo listing tried last → (p : Pattern) → IsLater q.base last p → (place : ℕ) → HasPlace listing place p → tried < place
  later_place zero last e p later place at = let s = at.1 in omega arith
  later_place (suc k) last g p later place at = ⊎_elim
      (λ (less : k < at.0). let s = at.1 in omega arith)
      (λ (other : (k ≡ at.0) ⊎ (at.0 < k)). absurd (not_after_itself at.0 k g.0 p (⊎_elim (λ (e : k ≡ at.0). omega arith) (λ (h : at.0 < k). omega arith) other) g.1 at.2 after))
      (compared k at.0)
    where
      after : IsBefore q.base g.0 p
      after = subst (λ (x : Last). IsLater q.base x p) g.2 later
