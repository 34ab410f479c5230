-- Results of tests after an operation sequence.
use Rattle.std.specs.Prelude.{◌≡◌, ◌&&◌, Bool, MatchBool, Result, Ok, Err, IsOk}
use Rattle.nf_rational.specs.Rational.{ℚ}
use Rattle.nf_rational.specs.Order.{le_ℚ}
use Rattle.nf_frac_def.specs.declared.Part.TheVariants.{Verdict}
use Rattle.nf_frac_def.specs.declared.PassedAt.{PassedAt}
use Rattle.nf_frac_def.specs.Checked.{Checked, at_part}

-- the answer says whether `Holds`, and no operation passes; or the error is the first operation that passes
abbrev pub AnswersWhether : {A : Type 0} → Type 0 → Checked A → Result Bool (PassedAt ℚ) → Type 0
AnswersWhether Holds list (Ok answer) = IsOk list × MatchBool answer Holds (Holds → ⊥)
AnswersWhether Holds list (Err at) = at_part Verdict list ≡ Err at

-- two numbers are equal
abbrev pub same_test : ℚ → ℚ → Bool
same_test x y = le_ℚ x y && le_ℚ y x
