-- The representation of lengths: a small whole number or a fraction.
use Rattle.std.specs.Prelude.{◌≡◌, ℕ, ◌-◌, ◌^◌, ◌≤◌, Bool, true, false, ℤ, ◌+ℤ◌, ◌-ℤ◌, nat_abs, Ok}
use Rattle.nf_rational.specs.Rational.{ℚ}
use Rattle.nf_rational.specs.Operations.{whole}
use Rattle.nf_frac_def.specs.Passing.{passes_Q}
use Rattle.nf_frac_def.specs.Checked.{checked}
use Rattle.nf_quick_def.specs.Rounds.{op_of}
use Rattle.nf_residual.specs.declared.length.Form.{Form}
use Rattle.nf_residual.specs.declared.length.Form.TheVariants.{Whole, Other}

-- The greatest magnitude of a length held as a whole number.
abbrev pub longest_whole : ℕ
longest_whole = 2 ^ 62 - 1

-- The sum for a forward step, the difference for a backward one.
abbrev pub along_by : Bool → ℤ → ℤ → ℤ
along_by true a b = a +ℤ b
along_by false a b = a -ℤ b

-- The value of a represented length.
abbrev pub measured : Form → ℚ
measured (Whole n) = whole n
measured (Other q) = q

abbrev pub IsHeldWhole : Form → Type 0
IsHeldWhole (Whole n) = nat_abs n ≤ longest_whole
IsHeldWhole (Other q) = Unit {0}

-- The checked operation of a forward or backward step has this result, within its bound.
abbrev pub IsExactStep : Bool → ℚ → ℚ → ℚ → Type 0
IsExactStep forward length transit changed = Ok changed ≡ checked passes_Q (op_of forward) length transit
