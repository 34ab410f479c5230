-- Properties of all sufficiently small numbers that are not negative.
use Rattle.std.proofs.Common.{◌≡◌, ℕ, zero, suc, ◌<◌, [], ◌∷◌, ⊎_elim, Option, Some, None, sym, subst, refl, arith}
use Rattle.nf_complete_laws.proofs.Common.{none-some, same_Some, ℚ, 0ℚ, 1ℚ, ◌+ℚ◌, ◌-ℚ◌, ◌*ℚ◌, ◌/ℚ◌, ◌≤ℚ◌, ◌<ℚ◌, min_ℚ, reading_of, less_ps, ps_times}
use Rattle.nf_complete_laws.proofs.Common.{≤ℚ_trans, ≤ℚ_refl, ≤ℚ_of_lt, le, lt, eq, le_times, linear_le, linear_lt, min_left, min_right, min_keeps}
use Rattle.nf_complete_laws.proofs.Common.{before_or_at, /ℚ_is, /ℚ-times, ps_apart, ps_inv}
use Rattle.nf_complete_laws.proofs.Deciding.{Decided}
use Rattle.nf_complete_laws.proofs.ExistsDeciding.{less_or_not}
use Rattle.nf_complete_laws.proofs.Fitting.{HasRoom, IsAtMost}

-- ---- sufficiently small numbers
pub record Small (P : ℚ → Type 0) : Type 0 where
  pub bound : ℚ
  pub positive : 0ℚ <ℚ bound
  pub holds : (h : ℚ) → 0ℚ ≤ℚ h → h ≤ℚ bound → P h

pub Small-bound : (P : ℚ → Type 0) (p : Small P) → P p.bound
Small-bound P p = p.holds p.bound (≤ℚ_of_lt _ _ p.positive) (≤ℚ_refl p.bound)

pub Small-always : (P : ℚ → Type 0) → ((h : ℚ) → P h) → Small P
Small-always P f = record { bound = 1ℚ; positive = linear_lt [] [] (search reading_of) tt; holds = λ h n k. f h }

pub Small-map : (P Q : ℚ → Type 0) → ((h : ℚ) → P h → Q h) → Small P → Small Q
Small-map P Q f p = record { bound = p.bound; positive = p.positive; holds = λ h n k. f h (p.holds h n k) }

pub Small-both : (P Q : ℚ → Type 0) → Small P → Small Q → Small (λ h. P h × Q h)
Small-both P Q p q = record {
  bound = min_ℚ p.bound q.bound;
  positive = min_keeps (λ (z : ℚ). 0ℚ <ℚ z) p.bound q.bound p.positive q.positive;
  holds = λ h n k. (p.holds h n (≤ℚ_trans _ _ _ k (min_left p.bound q.bound)), q.holds h n (≤ℚ_trans _ _ _ k (min_right p.bound q.bound)));
}

pub Small-when : (A : Type 0) (P : ℚ → Type 0) → Decided A → (A → Small P) → Small (λ h. A → P h)
Small-when A P d f = ⊎_elim
    (λ (a : A). Small-map P (λ h. A → P h) (λ h p _. p) (f a))
    (λ (n : A → ⊥). Small-always (λ h. A → P h) (λ h a. absurd (n a)))
    d

pub Small-at_most : (a : ℚ) → 0ℚ <ℚ a → Small (λ h. h ≤ℚ a)
Small-at_most a p = record { bound = a; positive = p; holds = λ h n k. k }

-- At most the gap between two numbers, if there is one.
pub Small-apart : (s t : ℚ) → Small (λ h. s <ℚ t → h ≤ℚ t -ℚ s)
Small-apart s t = Small-when (s <ℚ t) (λ h. h ≤ℚ t -ℚ s) (less_or_not s t) (λ l. Small-at_most (t -ℚ s) (linear_lt (s ∷ t ∷ []) (lt l ∷ []) (search reading_of) tt))

pub Small-times : (a c : ℚ) → 0ℚ <ℚ a → 0ℚ ≤ℚ c → Small (λ h. c *ℚ h ≤ℚ a)
Small-times a c p n = record { bound = q; positive = above; holds = λ h m k. within h k }
  where
    some : 0ℚ <ℚ c +ℚ 1ℚ
    some = linear_lt (c ∷ []) (le n ∷ []) (search reading_of) tt

    q : ℚ
    q = a /ℚ (c +ℚ 1ℚ)

    above : 0ℚ <ℚ q
    above = subst (λ (z : ℚ). 0ℚ <ℚ z) (sym (/ℚ_is a (c +ℚ 1ℚ))) (ps_times _ _ p (ps_inv (c +ℚ 1ℚ) some))

    shares : q *ℚ (c +ℚ 1ℚ) ≡ a
    shares = /ℚ-times a (c +ℚ 1ℚ) (ps_apart _ some)

    within : (h : ℚ) → h ≤ℚ q → c *ℚ h ≤ℚ a
    within h k = linear_le (a ∷ c ∷ h ∷ q ∷ []) (le_times n k ∷ lt above ∷ eq shares ∷ []) (search reading_of) tt

pub Small-to : (n : ℕ) (P : ℕ → ℚ → Type 0) → ((k : ℕ) → k < n → Small (P k)) → Small (λ h. (k : ℕ) → k < n → P k h)
Small-to zero P s = Small-always (λ h. (k : ℕ) → k < 0 → P k h) (λ h k l. absurd (omega arith))
Small-to (suc n) P s = Small-map (λ h. ((k : ℕ) → k < n → P k h) × P n h) (λ h. (k : ℕ) → k < suc n → P k h)
    (λ h w k l. ⊎_elim (λ (b : k < n). w.0 k b) (λ (e : k ≡ n). subst (λ (j : ℕ). P j h) (sym e) w.1) (before_or_at k n (omega arith)))
    (Small-both (λ h. (k : ℕ) → k < n → P k h) (P n) (Small-to n P (λ k l. s k (omega arith))) (s n (omega arith)))

-- Less than a number.
pub Small-below : (b : ℚ) → 0ℚ <ℚ b → Small (λ h. h <ℚ b)
Small-below b p = Small-map (λ h. (1ℚ +ℚ 1ℚ) *ℚ h ≤ℚ b) (λ h. h <ℚ b) (λ h k. linear_lt (b ∷ h ∷ []) (le k ∷ lt p ∷ []) (search reading_of) tt)
    (Small-times b (1ℚ +ℚ 1ℚ) p (linear_le [] [] (search reading_of) tt))

-- At most the room on a link.
pub Small-room : (capacity : Option ℚ) (x t : ℚ) → HasRoom capacity x t → Small (λ h. IsAtMost capacity (x +ℚ h) t)
Small-room None x t r = Small-always (λ h. IsAtMost None (x +ℚ h) t) (λ h c e. absurd (none-some c e))
Small-room (Some c) x t r = Small-map (λ h. h ≤ℚ c *ℚ t -ℚ x) (λ h. IsAtMost (Some c) (x +ℚ h) t)
    (λ h k d e. subst (λ (z : ℚ). x +ℚ h ≤ℚ z *ℚ t) (same_Some c d e) (linear_le (x ∷ c ∷ t ∷ h ∷ []) (le k ∷ []) (search reading_of) tt))
    (Small-at_most (c *ℚ t -ℚ x) (less_ps x (c *ℚ t) (r c refl)))
