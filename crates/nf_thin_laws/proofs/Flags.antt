-- Entries of lists, and flags that are set or not.
use Rattle.std.proofs.Common.{◌≡◌, ℕ, ◌<◌, ◌≤◌, List, length, ◌⊎◌, inl, inr, Bool, true, false, Option, Some, None, slice_get, get_or, unwrap_or, sym, ap}
use Rattle.std.proofs.Common.{refl, ◌∙◌}
use Rattle.nf_thin_laws.proofs.Common.{slice_get_cases, slice_get_past, ℚ, 0ℚ, number_at, Has}

pub entry_beyond : {A : Type 0} (xs : List A) (e : ℕ) → slice_get xs e ≡ None → length xs ≤ e
entry_beyond {A} xs e h = go (slice_get_cases xs e).1
  where
    none : (x : A) → None ≡ Some x → ⊥
    none x k = cc

    go : ((x : A) × (e < length xs) × (slice_get xs e ≡ Some x) × (get_or xs e x ≡ x)) ⊎ ((length xs ≤ e) × (slice_get xs e ≡ None)) → length xs ≤ e
    go (inl c) = absurd (none c.0 (sym h ∙ c.2))
    go (inr c) = c.0

pub number_at-beyond : (xs : List ℚ) (e : ℕ) → length xs ≤ e → number_at xs e ≡ 0ℚ
number_at-beyond xs e h = ap (λ (o : Option ℚ). unwrap_or o 0ℚ) (slice_get_past xs e h)

-- ---- a flag is set, or it is not
abbrev pub flag : List Bool → ℕ → Bool
flag flags e = unwrap_or (slice_get flags e) false

pub flag-cases : (flags : List Bool) (e : ℕ) → ((flag flags e ≡ true) × Has flags e) ⊎ ((flag flags e ≡ false) × (Has flags e → ⊥))
flag-cases flags e = go (slice_get flags e)
  where
    none_set : None ≡ Some true → ⊥
    none_set e = cc

    both : (b : Bool) → b ≡ false → Some b ≡ Some true → ⊥
    both b e f = cc

    go : (o : Option Bool) → ((unwrap_or o false ≡ true) × (o ≡ Some true)) ⊎ ((unwrap_or o false ≡ false) × (o ≡ Some true → ⊥))
    go None = inr (refl, none_set)
    go (Some true) = inl (refl, refl)
    go (Some false) = inr (refl, both false refl)
