-- More decidable properties of numbers and links.
use Rattle.std.proofs.Common.{◌≡◌, ℕ, zero, suc, ◌<◌, List, ◌⊎◌, inl, inr, ⊎_elim, Some, slice_get, subst, arith}
use Rattle.nf_complete_laws.proofs.Common.{ℚ, ◌≤ℚ◌, ◌<ℚ◌, lt_or_le_ℚ, not_both_ℚ, Link, before_or_at}
use Rattle.nf_complete_laws.proofs.Deciding.{Decided, First, NoLink, first_or_none}

pub not_so : {A : Type 0} → Decided A → Decided (A → ⊥)
not_so {A = A} a = ⊎_elim (λ (x : A). inr (λ n. n x)) (λ (n : A → ⊥). inl n) a

pub unless : {A : Type 0} → Decided A → ((A → ⊥) → ⊥) → A
unless {A = A} a f = ⊎_elim (λ (x : A). x) (λ (n : A → ⊥). absurd (f n)) a

pub less_or_not : (x y : ℚ) → Decided (x <ℚ y)
less_or_not x y = ⊎_elim (λ (h : x <ℚ y). inl h) (λ (h : y ≤ℚ x). inr (λ k. not_both_ℚ _ _ k h)) (lt_or_le_ℚ x y)

-- ---- a link with a property, or none has it
abbrev pub SomeLink : List Link → (ℕ → Link → Type 0) → Type 0
SomeLink links P = (e : ℕ) × (link : Link) × (slice_get links e ≡ Some link) × P e link

pub some_link : (links : List Link) (P : ℕ → Link → Type 0) → ((e : ℕ) (link : Link) → Decided (P e link)) → SomeLink links P ⊎ NoLink links P
some_link links P test = ⊎_elim
    (λ (w : First links P). inl (w.0, w.1, w.2, w.3))
    (λ (n : NoLink links P). inr n)
    (first_or_none links P test)

-- ---- a number below n with a property, or none has it
pub some_below : (n : ℕ) (P : ℕ → Type 0) → ((k : ℕ) → Decided (P k)) → ((k : ℕ) × (k < n) × P k) ⊎ ((k : ℕ) → k < n → P k → ⊥)
some_below zero P test = inr (λ k h _. absurd (omega arith))
some_below (suc n) P test = ⊎_elim
    (λ (w : P n). inl (n, omega arith, w))
    (λ (m : P n → ⊥). ⊎_elim
    (λ (w : (k : ℕ) × (k < n) × P k). inl (w.0, (let h : w.0 < n = w.1 in omega arith), w.2))
    (λ (b : (k : ℕ) → k < n → P k → ⊥). inr (apart m b))
    (some_below n P test))
    (test n)
  where
    apart : (P n → ⊥) → ((k : ℕ) → k < n → P k → ⊥) → (k : ℕ) → k < suc n → P k → ⊥
    apart m b k h p = ⊎_elim (λ (l : k < n). b k l p) (λ (e : k ≡ n). m (subst P e p)) (before_or_at k n (omega arith))
