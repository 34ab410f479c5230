-- Slopes kept on the way along a curve.
use Rattle.std.proofs.Common.{◌≡◌, ℕ, ◌-◌, List, refl, sym, ap, subst, ◌∙◌, Option, Some, None, slice_get, Result, Ok, Err}
use Rattle.nf_curve.proofs.Common.{same_Some, ℚ, Passing, passes_Q, Part, PassedAt, Checked, at_part, ◌>>=◌, Point, checked_slope, KeepsSlope}
use Rattle.nf_curve_def.specs.Lines.{checked_line}
use Rattle.nf_curve.specs.Slopes.{checked_along}
use Rattle.nf_curve.specs.declared.values.PieceSlope.{PieceSlope}
use Rattle.nf_curve.proofs.Exits.{after_err, after_ok}

-- a line goes by its slope
pub line-along : (passes : Passing) (p q : Point) (time : ℚ) → checked_line passes p q time ≡ (checked_slope passes p q >>= λ k. checked_along passes p k time)
unfolding checked_line checked_along
line-along passes p q time = refl

-- the slope of a piece is kept once it is computed
pub keeps-found : (points : List Point) (place : ℕ) (p q : Point) (slope : ℚ) → slice_get points (place - 1) ≡ Some p → slice_get points place ≡ Some q
    → checked_slope passes_Q p q ≡ Ok slope → KeepsSlope points (Some (record { place = place; slope = slope }))
keeps-found points place p q slope f g e =
    λ a b i j. ap (λ (a : Point). checked_slope passes_Q a b) (same_Some _ _ (sym i ∙ f)) ∙ ap (checked_slope passes_Q p) (same_Some _ _ (sym j ∙ g)) ∙ e

-- a kept slope is that of its piece
pub keeps-kept : (part : Part) (points : List Point) (place : ℕ) (kept : Option PieceSlope) (known : PieceSlope) → KeepsSlope points kept → kept ≡ Some known → known.place ≡ place
    → (p q : Point) → slice_get points (place - 1) ≡ Some p → slice_get points place ≡ Some q
    → ◌≡◌ {A = Result ℚ (PassedAt ℚ)} (Ok known.slope) (at_part part (checked_slope passes_Q p q))
keeps-kept part points place kept known k is at p q f g =
    let w = subst (λ (o : Option PieceSlope). KeepsSlope points o) is k in
    sym (ap (at_part part) (w p q (ap (λ (n : ℕ). slice_get points (n - 1)) at ∙ f) (ap (slice_get points) at ∙ g)))

module _ (part : Part) (p q : Point) (time : ℚ) (slope : Result ℚ (PassedAt ℚ)) (is : slope ≡ at_part part (checked_slope passes_Q p q)) where
  pub line-stops : (a : PassedAt ℚ) → slope ≡ Err a → ◌≡◌ {A = Result ℚ (PassedAt ℚ)} (Err a) (at_part part (checked_line passes_Q p q time))
  line-stops a e = sym (ap (at_part part) (line-along passes_Q p q time) ∙ after_err part (checked_slope passes_Q p q) (λ k. checked_along passes_Q p k time) a (sym is ∙ e))

  pub line-goes : (k : ℚ) (r : Result ℚ (PassedAt ℚ)) → slope ≡ Ok k → r ≡ at_part part (checked_along passes_Q p k time) → r ≡ at_part part (checked_line passes_Q p q time)
  line-goes k r e f = f ∙ sym (ap (at_part part) (line-along passes_Q p q time) ∙ after_ok part (checked_slope passes_Q p q) (λ k. checked_along passes_Q p k time) k (sym is ∙ e))

-- what is computed from the points that were read is computed from those there
pub slope-read : (part : Part) (points : List Point) (place : ℕ) (p q : Point) (r : Result ℚ (PassedAt ℚ)) → slice_get points (place - 1) ≡ Some p
    → slice_get points place ≡ Some q → r ≡ at_part part (checked_slope passes_Q p q)
    → (a b : Point) → slice_get points (place - 1) ≡ Some a → slice_get points place ≡ Some b → r ≡ at_part part (checked_slope passes_Q a b)
slope-read part points place p q r f g e a b i j =
    e ∙ ap (λ (p : Point). at_part part (checked_slope passes_Q p q)) (same_Some _ _ (sym f ∙ i))
    ∙ ap (λ (q : Point). at_part part (checked_slope passes_Q a q)) (same_Some _ _ (sym g ∙ j))
