-- The rates of a curve, point by point.
use Rattle.std.proofs.Common.{◌≡◌, ℕ, ◌+◌, ◌≤◌, List, [], ◌∷◌, ◌++◌, length, drop, refl, sym, ap, ◌∙◌, Ok, Err, Some, slice_get}
use Rattle.nf_resume.proofs.Common.{drop_all, ℚ, Passing, Part, PassedAt, Checked, at_part, ◌>>=◌, with_front, Point, checked_slopes, after_err, was_ok}
use Rattle.nf_resume.proofs.Common.{front_err, front_more, front_ends, drop_next}
use Rattle.nf_curve_def.specs.Lines.{checked_slope}

-- The rates so far precede those from a point on.
pub record RatesTo (passes : Passing) (points : List Point) (i : ℕ) (rates : List ℚ) : Type 0 where
  pub same : with_front rates (checked_slopes passes (drop i points)) ≡ checked_slopes passes points

module _ (passes : Passing) (part : Part) (points : List Point) where
  pub rates_first : (rates : List ℚ) → rates ≡ [] → RatesTo passes points 0 rates
  rates_first rates e = record { same = ap (λ (l : List ℚ). with_front l (checked_slopes passes points)) e ∙ alone (checked_slopes passes points) }
    where
      alone : (r : Checked (List ℚ)) → with_front [] r ≡ r
      alone (Ok ks) = refl
      alone (Err p) = refl

  module _ (i : ℕ) (rates : List ℚ) (so_far : RatesTo passes points i rates) where
    pub rates_end : (p : Point) → slice_get points i ≡ Some p → length points ≤ i + 1 → at_part part (checked_slopes passes points) ≡ Ok rates
    rates_end p at h = front_ends part rates (checked_slopes passes points)
        (ap (λ (l : List Point). with_front rates (checked_slopes passes l)) (sym (drop_next points i p at ∙ ap (λ (l : List Point). p ∷ l) (drop_all (i + 1) points h))) ∙ so_far.same)

    module _ (p q : Point) (at : slice_get points i ≡ Some p) (next : slice_get points (i + 1) ≡ Some q) where
      two : drop i points ≡ p ∷ q ∷ drop ((i + 1) + 1) points
      two = drop_next points i p at ∙ ap (λ (l : List Point). p ∷ l) (drop_next points (i + 1) q next)

      step : with_front rates (checked_slope passes p q >>= λ k. checked_slopes passes (drop (i + 1) points) >>= λ ks. Ok (k ∷ ks)) ≡ checked_slopes passes points
      step = ap (λ (l : List Point). with_front rates (checked_slope passes p q >>= λ k. checked_slopes passes l >>= λ ks. Ok (k ∷ ks))) (drop_next points (i + 1) q next)
          ∙ ap (λ (l : List Point). with_front rates (checked_slopes passes l)) (sym two) ∙ so_far.same

      pub rate_stops : (e : PassedAt ℚ) → at_part part (checked_slope passes p q) ≡ Err e → at_part part (checked_slopes passes points) ≡ Err e
      rate_stops e h = ap (at_part part) (sym step) ∙ front_err part rates _ e (after_err part (checked_slope passes p q) _ e h)

      pub rate_goes : (k : ℚ) (new : List ℚ) → at_part part (checked_slope passes p q) ≡ Ok k → new ≡ rates ++ k ∷ [] → RatesTo passes points (i + 1) new
      rate_goes k new h n = record {
        same = ap (λ (l : List ℚ). with_front l (checked_slopes passes (drop (i + 1) points))) n
            ∙ sym (front_more rates (k ∷ []) (checked_slopes passes (drop (i + 1) points)))
            ∙ ap (λ (r : Checked ℚ). with_front rates (r >>= λ k. checked_slopes passes (drop (i + 1) points) >>= λ ks. Ok (k ∷ ks))) (sym (was_ok part (checked_slope passes p q) k h))
            ∙ step;
      }
