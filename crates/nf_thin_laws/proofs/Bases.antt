-- The base pattern of a phase is unique.
use Rattle.std.proofs.Common.{◌≡◌, ℕ, zero, suc, ◌<◌, List, [], ◌∷◌, Bool, true, false, length, refl, sym, ap, ◌∙◌, arith, inl, inr, ◌⊎◌, Option, Some}
use Rattle.std.proofs.Common.{None, slice_get}
use Rattle.nf_thin_laws.proofs.Common.{none-some, same_Some, slice_get-get_or, State, Tight, Full, Zero, Has, Hop, Sets, Pattern, HasState, NeedsState}
use Rattle.nf_thin_laws.proofs.Common.{IsFirstInto, IsBase}

-- ---- lists with the same entries
pub same_entries : {A : Type 0} (n : ℕ) (xs ys : List A) → length xs ≡ n → length ys ≡ n → ((e : ℕ) → e < n → slice_get xs e ≡ slice_get ys e) → xs ≡ ys
same_entries n [] [] h k same = refl
same_entries n [] (y ∷ ys) h k same = absurd (omega arith)
same_entries n (x ∷ xs) [] h k same = absurd (omega arith)
same_entries zero (x ∷ xs) (y ∷ ys) h k same = absurd (omega arith)
same_entries (suc n) (x ∷ xs) (y ∷ ys) h k same =
    let rest : xs ≡ ys = same_entries n xs ys (omega arith) (omega arith) (λ e below. same (suc e) (omega arith)) in
    let first : x ≡ y = same_Some x y (same 0 (omega arith)) in
    ap (λ (w : _). w ∷ xs) first ∙ ap (λ (ws : List _). y ∷ ws) rest

-- ---- decidable properties
same_state : (s t : State) → (s ≡ t) ⊎ (s ≡ t → ⊥)
same_state Tight Tight = inl refl
same_state Tight Full = inr (λ e. cc)
same_state Tight Zero = inr (λ e. cc)
same_state Full Tight = inr (λ e. cc)
same_state Full Full = inl refl
same_state Full Zero = inr (λ e. cc)
same_state Zero Tight = inr (λ e. cc)
same_state Zero Full = inr (λ e. cc)
same_state Zero Zero = inl refl

has_at : (flags : List Bool) (e : ℕ) (o : Option Bool) → slice_get flags e ≡ o → Has flags e ⊎ (Has flags e → ⊥)
has_at flags e None h = inr (λ k. cc)
has_at flags e (Some true) h = inl h
has_at flags e (Some false) h = inr (λ k. cc)

pub has_or_not : (flags : List Bool) (e : ℕ) → Has flags e ⊎ (Has flags e → ⊥)
has_or_not flags e = has_at flags e (slice_get flags e) refl

may_at : (sets : Sets) (e : ℕ) → Has sets.active e ⊎ (Has sets.active e → ⊥) → Has sets.resetting e ⊎ (Has sets.resetting e → ⊥) → NeedsState sets e ⊎ (NeedsState sets e → ⊥)
may_at sets e (inl active) (inl resetting) = inr (λ h. h.1 resetting)
may_at sets e (inl active) (inr not_resetting) = inl (active, not_resetting)
may_at sets e (inr not_active) resetting = inr (λ h. not_active h.0)

may_or_not : (sets : Sets) (e : ℕ) → NeedsState sets e ⊎ (NeedsState sets e → ⊥)
may_or_not sets e = may_at sets e (has_or_not sets.active e) (has_or_not sets.resetting e)

pub state_is : (p : Pattern) (e : ℕ) (s t : State) → HasState p e s → HasState p e t → s ≡ t
state_is p e s t h k = same_Some s t (same_Some (Some s) (Some t) (sym h ∙ k))

module _ (hops : List Hop) (sets : Sets) (last : Pattern) (known : length last ≡ length sets.active) (b c : Pattern)
    (h : IsBase hops sets last b) (k : IsBase hops sets last c) where
  -- a link that had no state: Tight in both or Zero in both
  new_state : (e : ℕ) (s t : State) → NeedsState sets e → HasState b e s → HasState c e t → slice_get last e ≡ Some None → (s ≡ t → ⊥) → ⊥
  new_state e s t may at_b at_c none differ =
      let not_first : (hop : Hop) → IsFirstInto hops sets e hop → ⊥ =
      λ hop first. differ (state_is b e s Tight at_b (h.first e hop may none first) ∙ sym (state_is c e t Tight at_c (k.first e hop may none first))) in
      differ (state_is b e s Zero at_b (h.later e may none not_first) ∙ sym (state_is c e t Zero at_c (k.later e may none not_first)))

  new_same : (e : ℕ) (s t : State) → NeedsState sets e → HasState b e s → HasState c e t → slice_get last e ≡ Some None → (s ≡ t) ⊎ (s ≡ t → ⊥) → slice_get b e ≡ slice_get c e
  new_same e s t may at_b at_c none (inl same) = at_b ∙ (ap (λ (u : State). Some (Some u)) same ∙ sym at_c)
  new_same e s t may at_b at_c none (inr differ) = absurd (new_state e s t may at_b at_c none differ)

  chosen_at : (e : ℕ) → e < length last → NeedsState sets e → (o : Option (Option State)) → slice_get last e ≡ o → slice_get b e ≡ slice_get c e
  chosen_at e below may None at_last = absurd (none-some _ (sym at_last ∙ slice_get-get_or last e None below))
  chosen_at e below may (Some (Some s)) at_last = h.kept e s may at_last ∙ sym (k.kept e s may at_last)
  chosen_at e below may (Some None) at_last =
      let in_b = (h.states e).0 may in
      let in_c = (k.states e).0 may in
      new_same e in_b.0 in_c.0 may in_b.1 in_c.1 at_last (same_state in_b.0 in_c.0)

  none_at : (p : Pattern) (e : ℕ) → ((s : State) → HasState p e s → ⊥) → (o : Option (Option State)) → slice_get p e ≡ o → e < length p → slice_get p e ≡ Some None
  none_at p e stateless None at_p below = absurd (none-some _ (sym at_p ∙ slice_get-get_or p e None below))
  none_at p e stateless (Some None) at_p below = at_p
  none_at p e stateless (Some (Some s)) at_p below = absurd (stateless s at_p)

  same_at : (e : ℕ) → e < length sets.active → NeedsState sets e ⊎ (NeedsState sets e → ⊥) → slice_get b e ≡ slice_get c e
  same_at e below (inl may) = chosen_at e (omega arith) may (slice_get last e) refl
  same_at e below (inr may_not) =
      let count_b = h.count in
      let count_c = k.count in
      none_at b e (λ s at. may_not ((h.states e).1 (s, at))) (slice_get b e) refl (omega arith)
      ∙ sym (none_at c e (λ s at. may_not ((k.states e).1 (s, at))) (slice_get c e) refl (omega arith))

  pub one_base : b ≡ c
  one_base = same_entries (length sets.active) b c h.count k.count (λ e below. same_at e below (may_or_not sets e))
