-- The first place at which a byte passes a test.
use Rattle.std.proofs.Common.{◌≡◌, ℕ, ◌+◌, true, false, ◌<◌, ◌≤◌, Bool, List, [], ◌∷◌, length, position, unwrap_or, Some, None, refl, zero, suc, get_or}
use Rattle.std.proofs.Common.{arith, length-drop, take, drop, ◌&&◌, ◌∙◌, sym, ap, cond, nat_lt, not}
use Rattle.nf_text.proofs.Common.{position_or_len, prefix_len, list_all, drop-drop, cond_below, cond_above, prefix_len-le-length, position_or_len_is}
use native.Mathlib.Decide.{dec_lt}

pub position_or_len_within : {X : Type 0} (p : X → Bool) (xs : List X) → position_or_len p xs ≤ length xs
position_or_len_within p xs = prefix_len-le-length (λ x. not (p x)) xs

-- `xs.iter().position(p).unwrap_or(xs.len())`
pub unwrap_or_position : {X : Type 0} (p : X → Bool) (xs : List X) → unwrap_or (position p xs) (length xs) ≡ position_or_len p xs
unwrap_or_position p xs = at (position_or_len p xs) (length xs) (position_or_len_within p xs)
  where
    at : (k n : ℕ) → k ≤ n → unwrap_or (cond (nat_lt k n) (Some k) None) n ≡ k
    at k n h = by k n h (dec_lt k n)
      where
        by : (k n : ℕ) → k ≤ n → Dec (k < n) → unwrap_or (cond (nat_lt k n) (Some k) None) n ≡ k
        by k n h (yes l) = ap (λ o. unwrap_or o n) (sym (cond_below k n (Some k) None l))
        by k n h (no m) = ap (λ o. unwrap_or o n) (sym (cond_above k n (Some k) None None (omega (arith, m)) refl)) ∙ omega (arith, m, h)

-- ---- what a loop over the places answers
-- the place that it has come to, where the byte passes
pub first_there : {X : Type 0} (p : X → Bool) (xs : List X) (i : ℕ) (d : X) → i < length xs → ((k : ℕ) → k < i → p (get_or xs k d) ≡ false) → p (get_or xs i d) ≡ true
    → i ≡ position_or_len p xs
first_there p xs i d h before e = sym (position_or_len_is p xs i d (omega (arith, h)) before (λ _. e))

-- or the end
pub none_there : {X : Type 0} (p : X → Bool) (xs : List X) (i n : ℕ) (d : X) → length xs ≤ i → n ≡ length xs → ((k : ℕ) → k < i → p (get_or xs k d) ≡ false)
    → n ≡ position_or_len p xs
none_there p xs i n d h e before = sym (position_or_len_is p xs n d (omega (arith, e)) (λ k l. before k (omega (arith, l, h, e))) (λ l. absurd (omega (arith, l, e))))

-- ---- a row of elements that all fail the test is passed over
prefix_over : {X : Type 0} (q : X → Bool) (n : ℕ) (xs : List X) → n ≤ length xs → list_all q (take n xs) ≡ true → prefix_len q xs ≡ n + prefix_len q (drop n xs)
prefix_over q zero xs h e = omega arith
prefix_over q (suc n) [] h e = absurd (omega (arith, h))
prefix_over q (suc n) (x ∷ xs) h e = by (q x) refl (λ g. prefix_over q n xs (omega (arith, h)) g) e
  where
    by : (b : Bool) → q x ≡ b → (list_all q (take n xs) ≡ true → prefix_len q xs ≡ n + prefix_len q (drop n xs)) → (b && list_all q (take n xs)) ≡ true
        → cond (q x) (1 + prefix_len q xs) 0 ≡ suc n + prefix_len q (drop n xs)
    by true f rest g = ap (λ b. cond b (1 + prefix_len q xs) 0) f ∙ omega (arith, rest g)
    by false f rest g = absurd (cc)

pub place_over : {X : Type 0} (p : X → Bool) (xs : List X) (at n : ℕ) → at + n ≤ length xs → list_all (λ x. not (p x)) (take n (drop at xs)) ≡ true
    → position_or_len p xs ≡ at + position_or_len p (drop at xs) → position_or_len p xs ≡ (at + n) + position_or_len p (drop (at + n) xs)
place_over p xs at n h e k =
    let over : position_or_len p (drop at xs) ≡ n + position_or_len p (drop n (drop at xs)) = prefix_over (λ x. not (p x)) n (drop at xs) (omega (arith, h, length-drop at xs)) e in
    let same : position_or_len p (drop n (drop at xs)) ≡ position_or_len p (drop (at + n) xs) = ap (position_or_len p) (drop-drop n at xs) in
    omega (arith, over, same, k)
