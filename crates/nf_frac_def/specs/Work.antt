-- Work lists: the operations of a computation in order, with its exact value.
use Rattle.std.specs.Prelude.{◌≡◌, ◌++◌, List, [], ◌∷◌, Bool, true, false, Option, Some, None, find, Result, Ok, Err}
use Rattle.std.specs.List.{AllByRecursion}
use Rattle.nf_rational.specs.Rational.{ℚ}
use Rattle.nf_frac_def.specs.declared.Op.{Op}
use Rattle.nf_frac_def.specs.declared.Passed.{Passed}
use Rattle.nf_frac_def.specs.Passing.{Passing, result_of}

-- a computation: its operations with their operands, and its value
pub record Work (A : Type 0) : Type 0 where
  pub operations : List (Passed ℚ)
  pub value : A

-- no operation
abbrev pub given : {A : Type 0} → A → Work A
given x = record { operations = []; value = x }

-- one operation
abbrev pub does : Op → ℚ → ℚ → Work ℚ
does op x y = record { operations = record { op = op; left = x; right = y } ∷ []; value = result_of op x y }

-- one computation and then another, which has its value
infixl 10 ◌>>=◌
abbrev pub ◌>>=◌ : {A B : Type 0} → Work A → (A → Work B) → Work B
w >>= f = record { operations = w.operations ++ (f w.value).operations; value = (f w.value).value }

-- ---- the first operation that passes
abbrev pub does_pass : Passing → Passed ℚ → Bool
does_pass passes p = passes p.op p.left p.right

-- p stands in the list, passes, and none before it does
pub record IsFirstPassing (passes : Passing) (operations : List (Passed ℚ)) (p : Passed ℚ) : Type 0 where
  pub before : List (Passed ℚ)
  pub after : List (Passed ℚ)
  pub split : operations ≡ before ++ p ∷ after
  pub none_before : AllByRecursion (λ q. does_pass passes q ≡ false) before
  pub passing : does_pass passes p ≡ true

-- ---- the answer: the value, or the first operation that passes
abbrev pub answer : {A : Type 0} → A → Option (Passed ℚ) → Result A (Passed ℚ)
answer x None = Ok x
answer x (Some p) = Err p

unfoldable pub outcome : {A : Type 0} → Passing → Work A → Result A (Passed ℚ)
outcome passes w = answer w.value (find (does_pass passes) w.operations)
