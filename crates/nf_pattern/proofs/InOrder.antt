-- The order of assignments. The base is the first. The next assignment that differs at one of the first links is the least of those later.
use Rattle.std.proofs.Common.{◌≡◌, ℕ, suc, take, Bool, List, inl, inr, ⊎_elim, sym, ◌∙◌, arith, Some, None}
use Rattle.nf_pattern.proofs.Common.{Pattern, changes, IsBefore, IsAssignment, Spares, earliest, later, next_assignment}
use Rattle.nf_pattern.proofs.Successors.{changes_few, earliest_is, earliest_first, earliest_exists, else_given, else_none}
use Rattle.nf_pattern.proofs.Later.{later_is, later_none, later_next}

-- ---- the next one
module _ (i : ℕ) (base : Pattern) (us zs : List Bool) (valid : IsAssignment base us base) (p : Pattern) where
  pub next_is : (q : Pattern) → IsAssignment base us p → next_assignment i base us zs p ≡ Some q → IsAssignment base us q × IsBefore base p q
  next_is q h e = ⊎_elim
      (λ (w : later i base us zs p ≡ Some q). let x = later_is i base us zs p q valid h w in (x.0, inr (sym x.1, x.2)))
      (λ (w : (later i base us zs p ≡ None) × (earliest base us (suc (changes base p)) ≡ Some q)).
      let x = earliest_is base us (suc (changes base p)) q valid w.1 in (x.0, inl (let c : changes base q ≡ suc (changes base p) = x.1 in omega arith)))
      (else_given (later i base us zs p) (earliest base us (suc (changes base p))) q e)

  pub next_none : (r : Pattern) → next_assignment i base us zs p ≡ None → IsAssignment base us r → Spares zs r → IsBefore base p r → take i r ≡ take i p
  next_none r e h sp (inl less) =
      let few = changes_few base us r h in
      absurd (earliest_exists base us (suc (changes base p)) valid (omega arith) (else_none (later i base us zs p) (earliest base us (suc (changes base p))) e).1)
  next_none r e h sp (inr k) = later_none i base us zs p r valid (else_none (later i base us zs p) (earliest base us (suc (changes base p))) e).0 h sp (sym k.0) k.1

  between_later : (q r : Pattern) → IsAssignment base us p → later i base us zs p ≡ Some q → IsAssignment base us r → Spares zs r → IsBefore base p r
      → IsBefore base r q → take i r ≡ take i p
  between_later q r a e h sp before after = go (later_is i base us zs p q valid a e).1 before after
    where
      go : changes base q ≡ changes base p → IsBefore base p r → IsBefore base r q → take i r ≡ take i p
      go c (inl less) (inl more) = absurd (omega arith)
      go c (inl less) (inr l) = let f = l.0 in absurd (omega arith)
      go c (inr k) (inl more) = let f = k.0 in absurd (omega arith)
      go c (inr k) (inr l) = later_next i base us zs p q r valid e h sp (sym k.0) k.1 l.1

  between_more : (q r : Pattern) → later i base us zs p ≡ None → earliest base us (suc (changes base p)) ≡ Some q → IsAssignment base us r → Spares zs r
      → IsBefore base p r → IsBefore base r q
      → take i r ≡ take i p
  between_more q r none e h sp before after = go (earliest_is base us (suc (changes base p)) q valid e).1 before after
    where
      go : changes base q ≡ suc (changes base p) → IsBefore base p r → IsBefore base r q → take i r ≡ take i p
      go c (inl less) (inl more) = absurd (omega arith)
      go c (inl less) (inr l) = absurd (earliest_first base us (suc (changes base p)) q r e h (l.0 ∙ c) l.1)
      go c (inr k) after = later_none i base us zs p r valid none h sp (sym k.0) k.1

  -- All assignments between them in which no flagged link is Zero have the same states at the first links.
  pub next_least : (q r : Pattern) → IsAssignment base us p → next_assignment i base us zs p ≡ Some q → IsAssignment base us r → Spares zs r
      → IsBefore base p r → IsBefore base r q → take i r ≡ take i p
  next_least q r a e h sp before after = ⊎_elim
      (λ (w : later i base us zs p ≡ Some q). between_later q r a w h sp before after)
      (λ (w : (later i base us zs p ≡ None) × (earliest base us (suc (changes base p)) ≡ Some q)). between_more q r w.0 w.1 h sp before after)
      (else_given (later i base us zs p) (earliest base us (suc (changes base p))) q e)
