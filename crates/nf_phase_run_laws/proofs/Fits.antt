-- Computations from fractions: the values that they give, and the operands of the operation that passes.
use Rattle.std.proofs.Common.{◌≡◌, List, [], ◌∷◌, Bool, true, false, if◌then◌else◌, refl, subst, Result, Ok, Err}
use Rattle.nf_phase_run_laws.proofs.Common.{AllByRecursion, ℚ, Op, passes_Q, result_of, IsFraction, same_Ok, same_Err, Passed, Checked, each, fold_checked}
use Rattle.nf_phase_run_laws.proofs.Common.{placed, at_part, ◌>>=◌}
use Rattle.nf_frac_def.specs.declared.Part.{Part}
use Rattle.nf_frac_def.specs.declared.PassedAt.{PassedAt}
use Rattle.nf_frac_def.specs.Checked.{checked}
use Rattle.nf_phase_run_laws.proofs.Fractions.{result_fraction}

-- the value has a property, and what is passed has another
pub record Fits {A E : Type 0} (Q : E → Type 0) (P : A → Type 0) (r : Result A E) : Type 0 where
  pub value : (x : A) → r ≡ Ok x → P x
  pub passed : (e : E) → r ≡ Err e → Q e

abbrev pub AreOperands : Passed ℚ → Type 0
AreOperands p = IsFraction p.left × IsFraction p.right

abbrev pub AreOperandsAt : PassedAt ℚ → Type 0
AreOperandsAt p = IsFraction p.left × IsFraction p.right

-- ---- of the ways to put computations together
pub ok_fits : {A E : Type 0} (Q : E → Type 0) (P : A → Type 0) (x : A) → P x → Fits Q P (Ok x)
ok_fits Q P x h = record { value = λ y e. subst P (same_Ok x y e) h; passed = λ d e. absurd (cc) }

err_fits : {A E : Type 0} (Q : E → Type 0) (P : A → Type 0) (d : E) → Q d → Fits Q P (Err d)
err_fits Q P d h = record { value = λ y e. absurd (cc); passed = λ e f. subst Q (same_Err d e f) h }

pub then_fits : {A B E : Type 0} {Q : E → Type 0} {P : A → Type 0} {R : B → Type 0} (r : Result A E) (f : A → Result B E) → Fits Q P r
    → ((x : A) → P x → Fits Q R (f x)) → Fits Q R (r >>= f)
then_fits (Ok x) f h k = k x (h.value x refl)
then_fits {Q = Q} {R = R} (Err d) f h k = err_fits Q R d (h.passed d refl)

module _ {A B E : Type 0} (Q : E → Type 0) (P : A → Type 0) (R : B → Type 0) where
  pub each_fits : (f : A → Result B E) → ((x : A) → P x → Fits Q R (f x)) → (xs : List A) → AllByRecursion P xs → Fits Q (AllByRecursion R) (each f xs)
  each_fits f h [] all = ok_fits Q (AllByRecursion R) [] tt
  each_fits f h (x ∷ xs) all = then_fits (f x) _ (h x all.0)
      (λ y first. then_fits (each f xs) _ (each_fits f h xs all.1) (λ ys others. ok_fits Q (AllByRecursion R) (y ∷ ys) (first, others)))

  pub fold_fits : (f : B → A → Result B E) → ((y : B) (x : A) → R y → P x → Fits Q R (f y x)) → (y : B) (xs : List A) → R y → AllByRecursion P xs → Fits Q R (fold_checked f y xs)
  fold_fits f h y [] k all = ok_fits Q R y k
  fold_fits f h y (x ∷ xs) k all = then_fits (f y x) _ (h y x k all.0) (λ next l. fold_fits f h next xs l all.1)

pub part_fits : {A : Type 0} {P : A → Type 0} (part : Part) (r : Checked A) → Fits AreOperands P r → Fits AreOperandsAt P (at_part part r)
part_fits {P = P} part (Ok x) h = ok_fits AreOperandsAt P x (h.value x refl)
part_fits {P = P} part (Err p) h = err_fits AreOperandsAt P (placed part p) (h.passed p refl)

-- ---- of one operation
one_at : (b : Bool) (p : Passed ℚ) (v : ℚ) → (b ≡ false → IsFraction v) → AreOperands p → Fits AreOperands IsFraction (if b then Err p else Ok v)
one_at true p v h k = err_fits AreOperands IsFraction p k
one_at false p v h k = ok_fits AreOperands IsFraction v (h refl)

pub one : (op : Op) (x y : ℚ) → IsFraction x → IsFraction y → Fits AreOperands IsFraction (checked passes_Q op x y)
unfolding checked
one op x y h k = one_at (passes_Q op x y) (record { op = op; left = x; right = y }) (result_of op x y) (result_fraction op x y) (h, k)
