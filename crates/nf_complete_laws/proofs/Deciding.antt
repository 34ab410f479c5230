-- Decidable properties of a network's links.
use Rattle.std.proofs.Common.{◌≡◌, ℕ, zero, suc, ◌<◌, List, [], ◌∷◌, ◌⊎◌, inl, inr, ⊎_elim, Some, slice_get, sym, subst, refl, arith}
use Rattle.nf_complete_laws.proofs.Common.{same_Some, ℚ, ◌≤ℚ◌, ◌<ℚ◌, ≤ℚ_of_same, ≤ℚ_antisymm, lt_or_le_ℚ, not_both_ℚ, Link}
pub use Rattle.nf_rational_laws.proofs.Order.{some_or_none}

abbrev pub Decided : Type 0 → Type 0
Decided A = A ⊎ (A → ⊥)

pub both : {A B : Type 0} → Decided A → Decided B → Decided (A × B)
both {A = A} {B = B} a b = ⊎_elim
    (λ (x : A). ⊎_elim (λ (y : B). inl (x, y)) (λ (n : B → ⊥). inr (λ p. n p.1)) b)
    (λ (n : A → ⊥). inr (λ p. n p.0)) a

pub either : {A B : Type 0} → Decided A → Decided B → Decided (A ⊎ B)
either {A = A} {B = B} a b = ⊎_elim
    (λ (x : A). inl (inl x))
    (λ (n : A → ⊥). ⊎_elim (λ (y : B). inl (inr y)) (λ (m : B → ⊥). inr (λ c. ⊎_elim (λ (x : A). n x) (λ (y : B). m y) c)) b) a

pub same_or_not : (x y : ℚ) → Decided (x ≡ y)
same_or_not x y = ⊎_elim
    (λ (h : x <ℚ y). inr (λ e. not_both_ℚ _ _ h (≤ℚ_of_same _ _ (sym e))))
    (λ (h : y ≤ℚ x). ⊎_elim
    (λ (k : y <ℚ x). inr (λ e. not_both_ℚ _ _ k (≤ℚ_of_same _ _ e)))
    (λ (k : x ≤ℚ y). inl (≤ℚ_antisymm _ _ k h))
    (lt_or_le_ℚ y x))
    (lt_or_le_ℚ x y)

-- the first link with a property, or none has it
abbrev pub First : List Link → (ℕ → Link → Type 0) → Type 0
First links P = (e : ℕ) × (link : Link) × (slice_get links e ≡ Some link) × P e link × ((k : ℕ) (before : Link) → k < e → slice_get links k ≡ Some before → P k before → ⊥)

abbrev pub NoLink : List Link → (ℕ → Link → Type 0) → Type 0
NoLink links P = (e : ℕ) (link : Link) → slice_get links e ≡ Some link → P e link → ⊥

pub first_or_none : (links : List Link) (P : ℕ → Link → Type 0) → ((e : ℕ) (link : Link) → Decided (P e link)) → First links P ⊎ NoLink links P
first_or_none [] P test = inr (λ e link p _. none e link p)
  where
    none : (e : ℕ) (link : Link) → slice_get {X = Link} [] e ≡ Some link → ⊥
    none e link p = absurd (cc)
first_or_none (l ∷ links) P test = ⊎_elim
    (λ (w : P 0 l). inl (0, l, refl, w, λ k before h. absurd (omega arith)))
    (λ (n : P 0 l → ⊥). ⊎_elim
    (λ (w : First links (λ e link. P (suc e) link)). inl (suc w.0, w.1, w.2, w.3, λ k before h p q. none_before n w.0 w.4 k before h p q))
    (λ (m : NoLink links (λ e link. P (suc e) link)). inr (λ e link p q. apart n m e link p q))
    (first_or_none links (λ e link. P (suc e) link) (λ e link. test (suc e) link)))
    (test 0 l)
  where
    apart : (P 0 l → ⊥) → NoLink links (λ e link. P (suc e) link) → (e : ℕ) (link : Link) → slice_get (l ∷ links) e ≡ Some link → P e link → ⊥
    apart n m zero link p q = n (subst (λ (k : Link). P 0 k) (sym (same_Some l link p)) q)
    apart n m (suc e) link p q = m e link p q

    none_before : (P 0 l → ⊥) → (e : ℕ) → ((k : ℕ) (before : Link) → k < e → slice_get links k ≡ Some before → P (suc k) before → ⊥)
        → (k : ℕ) (before : Link) → k < suc e → slice_get (l ∷ links) k ≡ Some before → P k before → ⊥
    none_before n e m zero before h p q = n (subst (λ (j : Link). P 0 j) (sym (same_Some l before p)) q)
    none_before n e m (suc k) before h p q = m k before (omega arith) p q
