-- The exit slope of a link that satisfies the slope condition. The flow of the link is x; s and t are the slopes of its tail and head.
use Rattle.std.proofs.Common.{◌≡◌, ◌≢◌, ◌⊎◌, inl, inr, ⊎_elim, Bool, true, false, Option, Some, None, [], ◌∷◌, sym, subst, refl, ◌∙◌}
use Rattle.nf_complete_conditions.proofs.Common.{ℚ, 0ℚ, ◌*ℚ◌, ◌/ℚ◌, ◌≤ℚ◌, ◌<ℚ◌, max_ℚ, reading_of, ≤ℚ_of_same, ≤ℚ_antisymm, lt_or_le_ℚ, not_both_ℚ, le, eq}
use Rattle.nf_complete_conditions.proofs.Common.{linear_le, ≤ℚ_trans, exit_slope, some_or_none, filling, KeepsSlopes, empty_exit}
use Rattle.nf_rational_laws.proofs.Extremes.{max_right}
use Rattle.nf_model_laws.specs.Capacity.{IsPositive}
use Rattle.nf_model_laws.proofs.Affine.{quotient-times, le_from_times}
use Rattle.nf_thin_laws.proofs.ExitSlopes.{exit_resetting, exit_full, exit_tight, exit_zero}
use Rattle.nf_thin_laws.proofs.LinkLaws.{LinkLaw}

quotient_above : (x c t : ℚ) → 0ℚ <ℚ c → c *ℚ t ≤ℚ x → t ≤ℚ x /ℚ c
quotient_above x c t h k = le_from_times c t (x /ℚ c) h (linear_le (x ∷ c ∷ t ∷ (x /ℚ c) ∷ []) (eq (quotient-times x c h) ∷ le k ∷ []) (search reading_of depth 12) tt)

some_used : {A : Type 0} (x : ℚ) → 0ℚ <ℚ x → (x ≤ℚ 0ℚ) ⊎ A → A
some_used {A = A} x h u = ⊎_elim (λ (l : x ≤ℚ 0ℚ). absurd (not_both_ℚ 0ℚ x h l)) (λ (a : A). a) u

pub keeps-used : (resets : Bool) (capacity : Option ℚ) (x s t : ℚ) → IsPositive capacity → KeepsSlopes resets (filling capacity t) x s t → 0ℚ <ℚ x → exit_slope resets capacity x s ≡ t
keeps-used resets None x s t p k h = ≤ℚ_antisymm s t (some_used x h k.1) k.0
keeps-used true (Some c) x s t p k h = exit_resetting (Some c) x s t p (c, refl, k)
keeps-used false (Some c) x s t p k h =
    let u : (s ≤ℚ t) × (x ≤ℚ c *ℚ t) = some_used x h k.1 in
    ⊎_elim
    (λ (l : t ≤ℚ s). exit_tight (Some c) x s t p (≤ℚ_antisymm t s l u.0) (λ rate same. subst (λ (z : ℚ). x ≤ℚ z *ℚ t) (rate_is rate same) u.1))
    (λ (l : c *ℚ t ≤ℚ x). exit_full (Some c) x s t p (c, refl, ≤ℚ_antisymm x (c *ℚ t) u.1 l) u.0)
    k.0
  where
    rate_is : (rate : ℚ) → Some c ≡ Some rate → c ≡ rate
    rate_is rate e = cc

pub keeps-least : (resets : Bool) (capacity : Option ℚ) (x s t : ℚ) → IsPositive capacity → KeepsSlopes resets (filling capacity t) x s t → t ≤ℚ exit_slope resets capacity x s
keeps-least resets None x s t p k = k.0
keeps-least true (Some c) x s t p k = ≤ℚ_of_same t _ (sym (exit_resetting (Some c) x s t p (c, refl, k)))
keeps-least false (Some c) x s t p k = ⊎_elim
    (λ (l : t ≤ℚ s). exit_zero (Some c) x s t l)
    (λ (l : c *ℚ t ≤ℚ x). ≤ℚ_trans t (x /ℚ c) (max_ℚ s (x /ℚ c)) (quotient_above x c t (p c refl) l) (max_right s (x /ℚ c)))
    k.0

-- a node takes its slope from a link that is resetting, carries flow, or has equal slopes at its ends
pub keeps-taken : (resets : Bool) (capacity : Option ℚ) (x s t : ℚ) → IsPositive capacity → (resets ≡ true → capacity ≡ None → ⊥) → 0ℚ ≤ℚ x → 0ℚ ≤ℚ s
    → KeepsSlopes resets (filling capacity t) x s t
    → (resets ≡ true) ⊎ ((x ≢ 0ℚ) ⊎ (t ≡ s)) → exit_slope resets capacity x s ≡ t
keeps-taken true None x s t p b n m k w = absurd (b refl refl)
keeps-taken true (Some c) x s t p b n m k w = exit_resetting (Some c) x s t p (c, refl, k)
keeps-taken false capacity x s t p b n m k w = ⊎_elim
    (λ (h : 0ℚ <ℚ x). keeps-used false capacity x s t p k h)
    (λ (z : x ≡ 0ℚ). empty_exit capacity x s p z m ∙ sym (level z w))
    (some_or_none x n)
  where
    level : x ≡ 0ℚ → (false ≡ true) ⊎ ((x ≢ 0ℚ) ⊎ (t ≡ s)) → t ≡ s
    level z (inl e) = absurd (cc)
    level z (inr (inl o)) = absurd (o z)
    level z (inr (inr e)) = e

-- the link condition of a thin flow is the slope condition
pub law-keeps : (resets : Bool) (capacity : Option ℚ) (x s t : ℚ) → LinkLaw resets capacity x s t → KeepsSlopes resets (filling capacity t) x s t
law-keeps resets None x s t l = (l.upper, ⊎_elim (λ (h : 0ℚ <ℚ x). inr (≤ℚ_of_same s t (l.used h))) (λ (h : x ≤ℚ 0ℚ). inl h) (lt_or_le_ℚ 0ℚ x))
law-keeps true (Some c) x s t l = l.full refl
law-keeps false (Some c) x s t l = (l.upper refl, ⊎_elim (λ (h : 0ℚ <ℚ x). inr (l.used refl h)) (λ (h : x ≤ℚ 0ℚ). inl h) (lt_or_le_ℚ 0ℚ x))
