-- Lists of flags, and how many of them are not set.
use Rattle.std.proofs.Common.{◌≡◌, ℕ, zero, suc, ◌<◌, ◌⊎◌, inl, inr, ⊎_elim, Bool, true, false, not, MatchBool, List, [], ◌∷◌, length, get_or, set}
use Rattle.std.proofs.Common.{replicate, Some, slice_get, refl, sym, subst, ap, ◌∙◌, arith}
use Rattle.nf_graph.proofs.Common.{slice_get_within, slice_get_read, Has}

-- how many flags are not set
abbrev pub free : List Bool → ℕ
free [] = 0
free (true ∷ flags) = free flags
free (false ∷ flags) = suc (free flags)

pub free-set : (flags : List Bool) (i : ℕ) → slice_get flags i ≡ Some false → suc (free (set flags i true)) ≡ free flags
free-set [] i e = absurd (cc)
free-set (true ∷ flags) zero e = absurd (cc)
free-set (false ∷ flags) zero e = refl
free-set (true ∷ flags) (suc i) e = free-set flags i e
free-set (false ∷ flags) (suc i) e = ap suc (free-set flags i e)

pub Has-set_same : (flags : List Bool) (i : ℕ) → i < length flags → Has (set flags i true) i
Has-set_same [] i h = absurd (omega arith)
Has-set_same (b ∷ flags) zero h = refl
Has-set_same (b ∷ flags) (suc i) h = Has-set_same flags i (omega arith)

pub Has-set_other : (flags : List Bool) (i j : ℕ) → Has flags j → Has (set flags i true) j
Has-set_other [] i j h = h
Has-set_other (b ∷ flags) zero zero h = refl
Has-set_other (b ∷ flags) zero (suc j) h = h
Has-set_other (b ∷ flags) (suc i) zero h = h
Has-set_other (b ∷ flags) (suc i) (suc j) h = Has-set_other flags i j h

pub Has-set_cases : (flags : List Bool) (i j : ℕ) → Has (set flags i true) j → (j ≡ i) ⊎ Has flags j
Has-set_cases [] i j h = inr h
Has-set_cases (b ∷ flags) zero zero h = inl refl
Has-set_cases (b ∷ flags) zero (suc j) h = inr h
Has-set_cases (b ∷ flags) (suc i) zero h = inr h
Has-set_cases (b ∷ flags) (suc i) (suc j) h = ⊎_elim (λ (e : j ≡ i). inl (ap suc e)) (λ (k : Has flags j). inr k) (Has-set_cases flags i j h)

pub Has-replicate : (n v : ℕ) → Has (replicate n false) v → ⊥
Has-replicate zero v h = cc
Has-replicate (suc n) zero h = cc
Has-replicate (suc n) (suc v) h = Has-replicate n v h

pub not_set : (flags : List Bool) (i : ℕ) → i < length flags → (Has flags i → ⊥) → slice_get flags i ≡ Some false
not_set [] i h k = absurd (omega arith)
not_set (true ∷ flags) zero h k = absurd (k refl)
not_set (false ∷ flags) zero h k = refl
not_set (b ∷ flags) (suc i) h k = not_set flags i (omega arith) k

pub Has-not_unset : (flags : List Bool) (i : ℕ) → slice_get flags i ≡ Some false → Has flags i → ⊥
Has-not_unset flags i unset h = cc

pub Has-within : (flags : List Bool) (i : ℕ) → Has flags i → i < length flags
Has-within flags i h = slice_get_within flags i true h

-- a flag that was read
pub Has_from_read : (flags : List Bool) (i : ℕ) → get_or flags i false ≡ true → Has flags i
Has_from_read [] i e = absurd (cc)
Has_from_read (b ∷ flags) zero e = ap (λ (x : Bool). Some x) e
Has_from_read (b ∷ flags) (suc i) e = Has_from_read flags i e

pub read_from_Has : (flags : List Bool) (i : ℕ) → Has flags i → get_or flags i false ≡ true
read_from_Has [] i e = absurd (cc)
read_from_Has (b ∷ flags) zero e = same b e
  where
    same : (b : Bool) → Some b ≡ Some true → b ≡ true
    same b e = cc
read_from_Has (b ∷ flags) (suc i) e = read_from_Has flags i e

pub not_Has_from_read : (flags : List Bool) (i : ℕ) → get_or flags i false ≡ false → Has flags i → ⊥
not_Has_from_read flags i e h = let k : get_or flags i false ≡ true = read_from_Has flags i h in cc

pub Has_from_place : (flags : List Bool) (i v : ℕ) (x : Bool) → x ≡ true → x ≡ get_or flags i x → i ≡ v → v < length flags → Has flags v
Has_from_place flags i v x e r n h =
    let p : slice_get flags v ≡ Some x = slice_get_read flags (length flags) v x refl h (subst (λ (k : ℕ). x ≡ get_or flags k x) n r) in p ∙ ap (λ (b : Bool). Some b) e

pub not_Has_from_place : (flags : List Bool) (i v : ℕ) (x : Bool) → x ≡ false → x ≡ get_or flags i x → i ≡ v → v < length flags → Has flags v → ⊥
not_Has_from_place flags i v x e r n h s =
    let p : slice_get flags v ≡ Some x = slice_get_read flags (length flags) v x refl h (subst (λ (k : ℕ). x ≡ get_or flags k x) n r) in cc

-- whether a flag is not set, by what was read of it
pub free_by_read : (flags : List Bool) (i v : ℕ) (A : Type 0) → i ≡ v → A → MatchBool (not (get_or flags i false)) (A × (Has flags v → ⊥)) (A → Has flags v)
free_by_read flags i v A e a = subst (λ (n : ℕ). MatchBool (not (get_or flags i false)) (A × (Has flags n → ⊥)) (A → Has flags n)) e (go (get_or flags i false) refl)
  where
    go : (b : Bool) → get_or flags i false ≡ b → MatchBool (not b) (A × (Has flags i → ⊥)) (A → Has flags i)
    go true r = λ _. Has_from_read flags i r
    go false r = (a, not_Has_from_read flags i r)

pub set_by_read : (flags : List Bool) (i v : ℕ) → i ≡ v → get_or flags i false ≡ true → Has flags v
set_by_read flags i v e r = Has_from_read flags v (subst (λ (n : ℕ). get_or flags n false ≡ true) e r)

pub unset_by_read : (flags : List Bool) (i v : ℕ) → i ≡ v → get_or flags i false ≡ false → Has flags v → ⊥
unset_by_read flags i v e r = not_Has_from_read flags v (subst (λ (n : ℕ). get_or flags n false ≡ false) e r)

pub otherwise : (b : Bool) (P Q : Type 0) → b ≡ false → Q → MatchBool b P Q
otherwise b P Q e q = subst (λ (t : Bool). MatchBool t P Q) (sym e) q

-- a flag of a list in a set
pub flag_of : (flags seen : List Bool) (i v : ℕ) (x : Bool) → flags ≡ seen → i ≡ v → v < length seen → x ≡ get_or flags i x → slice_get seen v ≡ Some x
flag_of flags seen i v x e n b r =
    slice_get_read seen (length seen) v x refl b (subst (λ (k : ℕ). x ≡ get_or seen k x) n (subst (λ (l : List Bool). x ≡ get_or l i x) e r))
