-- What the two readings of a computation have to do with each other.
use Rattle.std.specs.Prelude.{◌≡◌, ◌↔◌, false, Ok, Err}
use Rattle.std.specs.List.{AllByRecursion}
use Rattle.nf_rational.specs.Rational.{ℚ}
use Rattle.nf_frac_def.specs.declared.Op.{Op}
use Rattle.nf_frac_def.specs.declared.Passed.{Passed}
use Rattle.nf_frac_def.specs.Passing.{Passing}
use Rattle.nf_frac_def.specs.Checked.{checked, ◌>>=◌ as ◌>>>◌}
use Rattle.nf_frac_def.specs.Work.{Work, does, does_pass, outcome, IsFirstPassing, ◌>>=◌}

-- one operation, and one computation after another
pub record ReadingsAgree : Type 0 where
  pub one : (passes : Passing) (op : Op) (x y : ℚ) → checked passes op x y ≡ outcome passes (does op x y)
  pub next : (passes : Passing) (w : Work ℚ) (f : ℚ → Work ℚ) → outcome passes (w >>= f) ≡ (outcome passes w >>> λ x. outcome passes (f x))

pub record FirstPassingIsAnswered : Type 0 where
  pub passed : (passes : Passing) (w : Work ℚ) (p : Passed ℚ) → (outcome passes w ≡ Err p) ↔ IsFirstPassing passes w.operations p
  pub value : (passes : Passing) (w : Work ℚ) (x : ℚ)
      → (outcome passes w ≡ Ok x) ↔ (AllByRecursion (λ q. does_pass passes q ≡ false) w.operations × (x ≡ w.value))
