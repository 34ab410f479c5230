-- Entries of lists with one entry for each node.
use Rattle.std.proofs.Common.{◌≡◌, ℕ, zero, suc, ◌<◌, List, [], ◌∷◌, length, get_or, set, false, replicate, Option, Some, None, slice_get, ◌⊎◌, inl, inr}
use Rattle.std.proofs.Common.{subst, refl, ◌∙◌, sym, ap, arith}
use Rattle.nf_graph.proofs.Common.{is_some, slice_get-get_or, slice_get_read, true≢false, ℚ, HasSum, IsUnsettled}

pub HasSum-unique : (sums : List (Option ℚ)) (v : ℕ) (a b : ℚ) → HasSum sums v a → HasSum sums v b → a ≡ b
HasSum-unique sums v a b h k = cc

pub HasSum-not_open : (sums : List (Option ℚ)) (v : ℕ) (a : ℚ) → HasSum sums v a → IsUnsettled sums v → ⊥
HasSum-not_open sums v a h k = cc

pub entry_cases : (sums : List (Option ℚ)) (v : ℕ) → v < length sums → ((sum : ℚ) × HasSum sums v sum) ⊎ IsUnsettled sums v
entry_cases [] v h = absurd (omega arith)
entry_cases (Some sum ∷ sums) zero h = inl (sum, refl)
entry_cases (None ∷ sums) zero h = inr refl
entry_cases (o ∷ sums) (suc v) h = entry_cases sums v (omega arith)

-- ---- a list with one entry changed
pub set_apart : {A : Type 0} (xs : List A) (v w : ℕ) (y x : A) → (w ≡ v → ⊥) → slice_get xs w ≡ Some x → slice_get (set xs v y) w ≡ Some x
set_apart [] v w y x n h = h
set_apart (p ∷ xs) zero zero y x n h = absurd (n refl)
set_apart (p ∷ xs) zero (suc w) y x n h = h
set_apart (p ∷ xs) (suc v) zero y x n h = h
set_apart (p ∷ xs) (suc v) (suc w) y x n h = set_apart xs v w y x (λ e. n (ap suc e)) h

-- ---- sums
-- a settled node stays so where another one is settled
pub set_other : (sums : List (Option ℚ)) (v w : ℕ) (o : Option ℚ) (sum : ℚ) → IsUnsettled sums v → HasSum sums w sum → HasSum (set sums v o) w sum
set_other sums v w o sum h k = set_apart sums v w o (Some sum) (λ e. HasSum-not_open sums v sum (subst (λ (n : ℕ). HasSum sums n sum) e k) h) k

-- how many nodes are not settled
abbrev pub unsettled : List (Option ℚ) → ℕ
unsettled [] = 0
unsettled (Some sum ∷ sums) = unsettled sums
unsettled (None ∷ sums) = suc (unsettled sums)

pub fewer_unsettled : (sums : List (Option ℚ)) (v : ℕ) (sum : ℚ) → IsUnsettled sums v → unsettled (set sums v (Some sum)) < unsettled sums
fewer_unsettled [] v sum h = absurd (cc)
fewer_unsettled (Some s ∷ sums) zero sum h = absurd (cc)
fewer_unsettled (None ∷ sums) zero sum h = omega arith
fewer_unsettled (Some s ∷ sums) (suc v) sum h = fewer_unsettled sums v sum h
fewer_unsettled (None ∷ sums) (suc v) sum h = let l : unsettled (set sums v (Some sum)) < unsettled sums = fewer_unsettled sums v sum h in omega arith

pub replicate_open : (n v : ℕ) (sum : ℚ) → HasSum (replicate n None) v sum → ⊥
replicate_open zero v sum h = cc
replicate_open (suc n) zero sum h = cc
replicate_open (suc n) (suc v) sum h = replicate_open n v sum h

-- ---- what was read
pub entry_read : (sums : List (Option ℚ)) (i v : ℕ) (d x : Option ℚ) → get_or sums i d ≡ x → i ≡ v → v < length sums → slice_get sums v ≡ Some x
entry_read sums i v d x e n h = slice_get-get_or sums v d h ∙ ap (λ (o : Option ℚ). Some o) (ap (λ (k : ℕ). get_or sums k d) (sym n) ∙ e)

pub entry_by_place : (sums : List (Option ℚ)) (i v : ℕ) (x : Option ℚ) → x ≡ get_or sums i x → i ≡ v → v < length sums → slice_get sums v ≡ Some x
entry_by_place sums i v x e n h = slice_get_read sums (length sums) v x refl h (e ∙ ap (λ (k : ℕ). get_or sums k x) n)

pub open_by_test : (sums : List (Option ℚ)) (i v : ℕ) (x : Option ℚ) → is_some x ≡ false → x ≡ get_or sums i x → i ≡ v → v < length sums → IsUnsettled sums v
open_by_test sums i v None t e n h = entry_by_place sums i v None e n h
open_by_test sums i v (Some q) t e n h = absurd (true≢false t)
