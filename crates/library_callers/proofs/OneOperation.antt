-- One operation on fractions: what its value is, and that a refused operation passes.
use Rattle.std.proofs.Common.{◌≡◌, Bool, true, false, refl, sym, subst}
use Rattle.std.specs.Prelude.{Ok, Err, IfOk, IfErr, if◌then◌else◌}
use Rattle.nf_rational.specs.Rational.{ℚ}
use Rattle.nf_frac_def.specs.declared.Op.{Op}
use Rattle.nf_frac_def.specs.Passing.{Passing, result_of}
use Rattle.nf_frac_def.specs.Checked.{Checked, checked}

abbrev tested : Bool → Op → ℚ → ℚ → Checked ℚ
tested b op x y = if b then Err (record { op = op; left = x; right = y }) else Ok (result_of op x y)

value_there : (P : ℚ → Type 0) (b : Bool) (op : Op) (x y : ℚ) → P (result_of op x y) → IfOk (tested b op x y) P
value_there P true op x y h = tt
value_there P false op x y h = h

passing_there : (passes : Passing) (b : Bool) (op : Op) (x y : ℚ) → passes op x y ≡ b → IfErr (tested b op x y) (λ p. passes p.op p.left p.right ≡ true)
passing_there passes true op x y e = e
passing_there passes false op x y e = tt

pub value_of : (P : ℚ → Type 0) (passes : Passing) (op : Op) (x y : ℚ) (r : Checked ℚ) → r ≡ checked passes op x y → P (result_of op x y) → IfOk r P
unfolding checked
value_of P passes op x y r e h = subst (λ (s : Checked ℚ). IfOk s P) (sym e) (value_there P (passes op x y) op x y h)

pub passing_of : (passes : Passing) (op : Op) (x y : ℚ) (r : Checked ℚ) → r ≡ checked passes op x y → IfErr r (λ p. passes p.op p.left p.right ≡ true)
unfolding checked
passing_of passes op x y r e = subst (λ (s : Checked ℚ). IfErr s (λ p. passes p.op p.left p.right ≡ true)) (sym e) (passing_there passes (passes op x y) op x y refl)
