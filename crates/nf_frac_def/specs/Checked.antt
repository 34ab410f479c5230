-- Checked computations over the rationals: a value, or the first operation that passes.
use Rattle.std.specs.Prelude.{◌≡◌, if◌then◌else◌, List, [], ◌∷◌, Result, Ok, Err}
use Rattle.nf_rational.specs.Rational.{ℚ}
use Rattle.nf_frac_def.specs.declared.Op.{Op}
use Rattle.nf_frac_def.specs.declared.Part.{Part}
use Rattle.nf_frac_def.specs.declared.Passed.{Passed}
use Rattle.nf_frac_def.specs.declared.PassedAt.{PassedAt}
use Rattle.nf_frac_def.specs.declared.Halt.{Halt}
use Rattle.nf_frac_def.specs.declared.Halt.TheVariants as Halt
use Rattle.nf_frac_def.specs.Passing.{Passing, result_of}

abbrev pub Checked : Type 0 → Type 0
Checked A = Result A (Passed ℚ)

-- one computation and then another, which has its value
infixl 10 ◌>>=◌
abbrev pub ◌>>=◌ : {A B E : Type 0} → Result A E → (A → Result B E) → Result B E
(Ok x) >>= f = f x
(Err e) >>= f = Err e

-- one operation: its exact result, unless it passes
unfoldable pub checked : Passing → Op → ℚ → ℚ → Result ℚ (Passed ℚ)
checked passes op x y = if passes op x y then Err (record { op = op; left = x; right = y }) else Ok (result_of op x y)

-- one after the other, for each of some values in order
abbrev pub each : {A B E : Type 0} → (A → Result B E) → List A → Result (List B) E
each f [] = Ok []
each f (x ∷ rest) = do
  y ← f x
  ys ← each f rest
  Ok (y ∷ ys)

-- a value that each step makes anew from the one before
abbrev pub fold_checked : {A B E : Type 0} → (B → A → Result B E) → B → List A → Result B E
fold_checked f so_far [] = Ok so_far
fold_checked f so_far (x ∷ rest) = do
  next ← f so_far x
  fold_checked f next rest

-- ---- the part of the work is named with what passes
abbrev pub placed : Part → Passed ℚ → PassedAt ℚ
placed part p = record { part = part; op = p.op; left = p.left; right = p.right }

abbrev pub at_part : {A : Type 0} → Part → Result A (Passed ℚ) → Result A (PassedAt ℚ)
at_part part (Ok x) = Ok x
at_part part (Err p) = Err (placed part p)

-- one operation of a part
abbrev pub checked_at : Passing → Part → Op → ℚ → ℚ → Result ℚ (PassedAt ℚ)
checked_at passes part op x y = at_part part (checked passes op x y)

-- ---- what a call returned, seen as rationals
abbrev pub seen_passed : {S : Type 0} → (S → ℚ) → Passed S → Passed ℚ
seen_passed means p = record { op = p.op; left = means p.left; right = means p.right }

abbrev pub seen_passed_at : {S : Type 0} → (S → ℚ) → PassedAt S → PassedAt ℚ
seen_passed_at means p = record { part = p.part; op = p.op; left = means p.left; right = means p.right }

-- of a call that takes no memory: this is the computation
abbrev pub seen : {S X A : Type 0} → (X → A) → (S → ℚ) → Result X (Passed S) → Result A (Passed ℚ)
seen value means (Ok x) = Ok (value x)
seen value means (Err p) = Err (seen_passed means p)

abbrev pub seen_at : {S X A : Type 0} → (X → A) → (S → ℚ) → Result X (PassedAt S) → Result A (PassedAt ℚ)
seen_at value means (Ok x) = Ok (value x)
seen_at value means (Err p) = Err (seen_passed_at means p)

-- of a call that may want memory: what is returned is what the computation says, unless memory is wanting
abbrev pub Stops : {S A : Type 0} → (S → ℚ) → Halt S → Result A (PassedAt ℚ) → Type 0
Stops means (Halt.Passed p) said = said ≡ Err (seen_passed_at means p)
Stops means Halt.Memory said = Unit {0}

abbrev pub Gives : {S X A : Type 0} → (X → A) → (S → ℚ) → Result X (Halt S) → Result A (PassedAt ℚ) → Type 0
Gives value means (Ok x) said = said ≡ Ok (value x)
Gives value means (Err h) said = Stops means h said
