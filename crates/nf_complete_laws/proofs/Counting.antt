-- The number of nodes that lack a property.
use Rattle.std.proofs.Common.{◌≡◌, ℕ, zero, suc, ◌+◌, ◌<◌, ◌≤◌, inl, inr, ⊎_elim, subst, arith}
use Rattle.nf_complete_laws.proofs.Common.{before_or_at}
use Rattle.nf_complete_laws.proofs.Deciding.{Decided}

-- 0 if the property holds, and 1 otherwise.
abbrev pub lack : {A : Type 0} → Decided A → ℕ
lack (inl a) = 0
lack (inr n) = 1

pub lack-le : {A B : Type 0} (a : Decided A) (b : Decided B) → (A → B) → lack b ≤ lack a
lack-le (inl x) (inl y) f = omega arith
lack-le (inl x) (inr m) f = absurd (m (f x))
lack-le (inr n) (inl y) f = omega arith
lack-le (inr n) (inr m) f = omega arith

pub lack-lt : {A B : Type 0} (a : Decided A) (b : Decided B) → (A → ⊥) → B → lack b < lack a
lack-lt (inl x) b n y = absurd (n x)
lack-lt (inr m) (inl z) n y = omega arith
lack-lt (inr m) (inr k) n y = absurd (k y)

-- The sum of f over the numbers below n.
abbrev pub count_to : ℕ → (ℕ → ℕ) → ℕ
count_to zero f = 0
count_to (suc n) f = count_to n f + f n

pub count_to-le : (n : ℕ) (f g : ℕ → ℕ) → ((k : ℕ) → k < n → f k ≤ g k) → count_to n f ≤ count_to n g
count_to-le zero f g h = omega arith
count_to-le (suc n) f g h = let a : count_to n f ≤ count_to n g = count_to-le n f g (λ k l. h k (omega arith)) in let b : f n ≤ g n = h n (omega arith) in omega arith

pub count_to-lt : (n : ℕ) (f g : ℕ → ℕ) → ((k : ℕ) → k < n → f k ≤ g k) → (v : ℕ) → v < n → f v < g v → count_to n f < count_to n g
count_to-lt zero f g h v l k = absurd (omega arith)
count_to-lt (suc n) f g h v l k = ⊎_elim
    (λ (b : v < n). let a : count_to n f < count_to n g = count_to-lt n f g (λ k l. h k (omega arith)) v b k in let c : f n ≤ g n = h n (omega arith) in omega arith)
    (λ (e : v ≡ n). let a : count_to n f ≤ count_to n g = count_to-le n f g (λ k l. h k (omega arith)) in let c : f n < g n = subst (λ (j : ℕ). f j < g j) e k in omega arith)
    (before_or_at v n (omega arith))
