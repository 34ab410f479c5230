-- The list of a function's values below n.
use Rattle.std.proofs.Common.{◌≡◌, ℕ, ◌<◌, ◌≤◌, List, length, map, Option, unwrap_or, ap, ◌∙◌, arith}
use Rattle.nf_complete_laws.proofs.Common.{range_with_len, slice_get-get_or, ℚ, 0ℚ, number_at, number_at-beyond, length-map-range_with_len}
use Rattle.nf_complete_laws.proofs.Common.{get_or-map-range_with_len}

abbrev pub numbers : ℕ → (ℕ → ℚ) → List ℚ
numbers n f = map f (range_with_len 0 n)

pub length-numbers : (n : ℕ) (f : ℕ → ℚ) → length (numbers n f) ≡ n
length-numbers n f = length-map-range_with_len f 0 n

pub number_at-numbers : (n : ℕ) (f : ℕ → ℚ) (i : ℕ) → i < n → number_at (numbers n f) i ≡ f i
number_at-numbers n f i h =
    let l : length (numbers n f) ≡ n = length-numbers n f in
    ap (λ (o : Option ℚ). unwrap_or o 0ℚ) (slice_get-get_or (numbers n f) i 0ℚ (omega arith)) ∙ get_or-map-range_with_len f 0 n i i 0ℚ h (omega arith)

pub number_at-past : (n : ℕ) (f : ℕ → ℚ) (i : ℕ) → n ≤ i → number_at (numbers n f) i ≡ 0ℚ
number_at-past n f i h = let l : length (numbers n f) ≡ n = length-numbers n f in number_at-beyond (numbers n f) i (omega arith)
