-- The computed test for equality.
use Rattle.std.proofs.Common.{◌≡◌, ℕ, Bool, true, false, ◌&&◌, eqb, ℤ, refl, sym, ◌∙◌, ap}
use Rattle.nf_frac.proofs.Common.{one_answer, int_eq, signed_Decides, ℚ, same_ℚ}
use mathlib.Core.Path.{ap₂}
use mir.Syntax.{Width}
use mir.Val.{to_z, of_z, SFits}
use mir.Facts.{to_z-of_z}
use borrow.Author.Tests.{eqb-true, eq-eqb}
use Rattle.nf_frac.proofs.Form.{Parts}

same_bits : (w : Width) (n m : ℤ) → SFits w n → SFits w m → eqb (of_z w n) (of_z w m) ≡ int_eq n m
same_bits w n m f g =
    one_answer (eqb (of_z w n) (of_z w m)) (int_eq n m)
    (λ t. sym (to_z-of_z f) ∙ ap (to_z w) (eqb-true (of_z w n) (of_z w m) t) ∙ to_z-of_z g, λ e. eq-eqb (of_z w n) (of_z w m) (ap (of_z w) e))
    (signed_Decides n m)

module _ (w : Width) (x y : ℚ) (n m : ℤ) (d e : ℕ) (p : Parts x n d) (q : Parts y m e) (i : SFits w n) (j : SFits w m) where
  same_code : (eqb (of_z w n) (of_z w m) && eqb d e) ≡ same_ℚ x y
  same_code =
      ap (λ (t : Bool). t && eqb d e) (same_bits w n m i j)
      ∙ ap₂ (λ (s t : Bool). s && t) (ap₂ int_eq (sym p.num) (sym q.num)) (ap₂ eqb (sym p.den) (sym q.den))

  pub same_num : of_z w n ≡ of_z w m → eqb d e ≡ same_ℚ x y
  same_num h = ap (λ (t : Bool). t && eqb d e) (sym (eq-eqb (of_z w n) (of_z w m) h)) ∙ same_code

  pub other_num : (of_z w n ≡ of_z w m → ⊥) → eqb (of_z w n) (of_z w m) ≡ same_ℚ x y
  other_num h = go (eqb (of_z w n) (of_z w m)) refl same_code
    where
      go : (t : Bool) → eqb (of_z w n) (of_z w m) ≡ t → (t && eqb d e) ≡ same_ℚ x y → t ≡ same_ℚ x y
      go true f k = absurd (h (eqb-true (of_z w n) (of_z w m) f))
      go false f k = k
