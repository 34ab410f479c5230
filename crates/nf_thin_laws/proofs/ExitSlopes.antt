-- Exit slopes of links in each state. Here x is the flow of a link, and s and t are the slopes of its tail and its head.
use Rattle.std.proofs.Common.{◌≡◌, [], ◌∷◌, true, false, Option, Some, None, sym, ap, subst, refl, ◌∙◌}
use Rattle.nf_thin_laws.proofs.Common.{none-some, ℚ, 0ℚ, ◌*ℚ◌, ◌/ℚ◌, ◌≤ℚ◌, ◌<ℚ◌, max_ℚ, reading_of, eq, linear_eq, exit_slope, Fills, IsPositive}
use Rattle.nf_thin_laws.proofs.Common.{quotient-times, le_from_times, same_from_times, ≤ℚ_trans, max_is_right, max_is_left, max_left}

swapped : (x c q : ℚ) → q *ℚ c ≡ x → c *ℚ q ≡ x
swapped x c q e = linear_eq (x ∷ c ∷ q ∷ []) (eq e ∷ []) (search reading_of) tt tt

quotient_is : (x c t : ℚ) → 0ℚ <ℚ c → x ≡ c *ℚ t → x /ℚ c ≡ t
quotient_is x c t h e = same_from_times c (x /ℚ c) t h (swapped x c (x /ℚ c) (quotient-times x c h) ∙ e)

quotient_below : (x c t : ℚ) → 0ℚ <ℚ c → x ≤ℚ c *ℚ t → x /ℚ c ≤ℚ t
quotient_below x c t h e = le_from_times c (x /ℚ c) t h (subst (λ (z : ℚ). z ≤ℚ c *ℚ t) (sym (swapped x c (x /ℚ c) (quotient-times x c h))) e)

-- The link is resetting, or is Full.
pub exit_resetting : (capacity : Option ℚ) (x s t : ℚ) → IsPositive capacity → Fills capacity x t → exit_slope true capacity x s ≡ t
exit_resetting None x s t positive f = absurd (cc)
exit_resetting (Some c) x s t positive f = quotient_is x c t (positive c refl) (f.2 ∙ ap (λ (z : ℚ). z *ℚ t) (same_rate c f.0 f.1))
  where
    same_rate : (a b : ℚ) → Some a ≡ Some b → b ≡ a
    same_rate a b e = cc

pub exit_full : (capacity : Option ℚ) (x s t : ℚ) → IsPositive capacity → Fills capacity x t → s ≤ℚ t → exit_slope false capacity x s ≡ t
exit_full None x s t positive f h = absurd (none-some f.0 f.1)
exit_full (Some c) x s t positive f h =
    let q : x /ℚ c ≡ t = exit_resetting (Some c) x s t positive f in
    ap (max_ℚ s) q ∙ max_is_right s t h

-- The slopes of the link's ends are equal.
pub exit_tight : (capacity : Option ℚ) (x s t : ℚ) → IsPositive capacity → t ≡ s → ((rate : ℚ) → capacity ≡ Some rate → x ≤ℚ rate *ℚ t) → exit_slope false capacity x s ≡ t
exit_tight None x s t positive e h = sym e
exit_tight (Some c) x s t positive e h = max_is_left s (x /ℚ c) (subst (λ (z : ℚ). x /ℚ c ≤ℚ z) e (quotient_below x c t (positive c refl) (h c refl))) ∙ sym e

-- The link carries nothing.
pub exit_zero : (capacity : Option ℚ) (x s t : ℚ) → t ≤ℚ s → t ≤ℚ exit_slope false capacity x s
exit_zero None x s t h = h
exit_zero (Some c) x s t h = ≤ℚ_trans _ _ _ h (max_left s (x /ℚ c))
