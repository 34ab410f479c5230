-- A trial: it continues until an operation passes or a rule is broken.
use Rattle.std.specs.Prelude.{ℕ, Option, Some, None, Result, Ok, Err}
use Rattle.nf_rational.specs.Rational.{ℚ}
use Rattle.nf_frac_def.specs.Checked.{Checked, placed}
use Rattle.nf_frac_def.specs.declared.Part.{Part}
use Rattle.nf_frac_def.specs.declared.PassedAt.{PassedAt}
use Rattle.nf_curve_def.specs.Lines.{Sides}
use Rattle.nf_check_def.specs.declared.CheckRule.{CheckRule}
use Rattle.nf_check_def.specs.declared.Subject.{Subject}
use Rattle.nf_check_def.specs.declared.Answer.{Answer}
use Rattle.nf_check_def.specs.declared.Answer.TheVariants.{Yes, No}

pub data Ended : Type 0 where
  Passes : PassedAt ℚ → Ended
  Breaks : CheckRule → Subject ℕ ℕ → Sides → Ended

abbrev pub Trial : Type 0 → Type 0
Trial A = Result A Ended

-- a computation of one part
abbrev pub in_part : {A : Type 0} → Part → Checked A → Trial A
in_part part (Ok x) = Ok x
in_part part (Err p) = Err (Passes (placed part p))

-- the trial ends if there is a difference
abbrev pub unless : CheckRule → Subject ℕ ℕ → Option Sides → Trial (Unit {0})
unless rule subject None = Ok tt
unless rule subject (Some sides) = Err (Breaks rule subject sides)

-- the answer of a trial
abbrev pub answer_of : {A : Type 0} → Trial A → Result (Answer ℕ ℕ ℚ) (PassedAt ℚ)
answer_of (Ok x) = Ok Yes
answer_of (Err (Breaks rule subject sides)) = Ok (No rule subject sides.time sides.left sides.right)
answer_of (Err (Passes p)) = Err p
