-- The words for the cause of a stop.
use Rattle.std.specs.Prelude.{ℕ, List, [], ◌∷◌, Option, Some, None, codes}
use Rattle.nf_rational.specs.Rational.{ℚ}
use Rattle.nf_frac_def.specs.declared.Op.{Op}
use Rattle.nf_frac_def.specs.declared.Op.TheVariants.{Sum, Difference, Product, Quotient}
use Rattle.nf_frac_def.specs.declared.Part.{Part}
use Rattle.nf_frac_def.specs.declared.Part.TheVariants.{Slack, Table, Verdict, Extend, Advance, Curve, Load, Check, Quick}
use Rattle.nf_frac_def.specs.declared.PassedAt.{PassedAt}
use Rattle.nf_frac_words.specs.Digits.{digits_of}
use Rattle.nf_frac_words.specs.Printed.{printed}
use Rattle.nf_net_def.specs.declared.Cause.{Cause}
use Rattle.nf_net_def.specs.declared.Cause.TheVariants.{Phases, Patterns, Passed, NoPattern}

abbrev pub part_word : Part → List ℕ
part_word Slack = codes "slack"
part_word Table = codes "table"
part_word Verdict = codes "verdict"
part_word Extend = codes "extend"
part_word Advance = codes "advance"
part_word Curve = codes "curve"
part_word Load = codes "load"
part_word Check = codes "check"
part_word Quick = codes "quick"

abbrev pub op_word : Op → List ℕ
op_word Sum = codes "sum"
op_word Difference = codes "difference"
op_word Product = codes "product"
op_word Quotient = codes "quotient"

-- returns the digits of a count, or `-` without count
abbrev pub count_word : Option ℕ → List ℕ
count_word None = codes "-"
count_word (Some count) = digits_of count

-- the words `passed PHASE PART PLACE OP LEFT RIGHT`
abbrev pub passed_words : Option ℕ → Option ℕ → PassedAt ℚ → List (List ℕ)
passed_words phase place at =
    codes "passed" ∷ count_word phase ∷ part_word at.part ∷ count_word place ∷ op_word at.op ∷ printed at.left ∷ printed at.right ∷ []

abbrev pub cause_words : Option (Cause ℚ) → List (List ℕ)
cause_words None = codes "done" ∷ []
cause_words (Some (Phases made)) = codes "phases" ∷ digits_of made ∷ []
cause_words (Some (Patterns phase tried)) = codes "patterns" ∷ digits_of phase ∷ digits_of tried ∷ []
cause_words (Some (Passed phase place at)) = passed_words (Some phase) place at
cause_words (Some (NoPattern phase)) = codes "nopattern" ∷ digits_of phase ∷ []
