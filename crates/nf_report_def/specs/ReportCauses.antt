-- Numbers, counts and causes in their printed form.
use Rattle.std.specs.Prelude.{ℕ, if◌then◌else◌, List, [], ◌∷◌, Option, Some, None, Result, Ok, Err, codes}
use Rattle.std.specs.Str.{bytes_eq}
use Rattle.nf_rational.specs.Rational.{ℚ}
use Rattle.nf_frac_def.specs.Checked.{◌>>=◌}
use Rattle.nf_frac_def.specs.declared.Op.{Op}
use Rattle.nf_frac_def.specs.declared.Op.TheVariants.{Sum, Difference, Product, Quotient}
use Rattle.nf_frac_def.specs.declared.Part.{Part}
use Rattle.nf_frac_def.specs.declared.Part.TheVariants.{Slack, Table, Verdict, Extend, Advance, Curve, Load, Check, Quick}
use Rattle.nf_frac_words.specs.declared.NumberFault.{NumberFault}
use Rattle.nf_frac_words.specs.Digits.{count_of}
use Rattle.nf_frac_words.specs.Numbers.{number_of}
use Rattle.nf_frac_words.specs.Printed.{printed}
use Rattle.nf_net_def.specs.declared.Cause.{Cause}
use Rattle.nf_net_def.specs.declared.Cause.TheVariants.{Phases, Patterns, Passed, NoPattern}
use Rattle.nf_net_def.specs.Numbers.{greatest}
use Rattle.nf_report_def.specs.declared.ReportRule.{ReportRule}
use Rattle.nf_report_def.specs.declared.ReportRule.TheVariants.{P6, P8, P9}

-- returns the fraction whose printed form is the word, if there is one
abbrev pub if_printed : List ℕ → Result ℚ NumberFault → Option ℚ
if_printed word (Ok q) = if bytes_eq word (printed q) then Some q else None
if_printed word (Err fault) = None

abbrev pub printed_number : List ℕ → Option ℚ
printed_number word = if_printed word (number_of greatest word)

-- ---- words of parts and operations
abbrev pub first_named : {A : Type 0} → List ℕ → List (List ℕ × A) → Option A
first_named word [] = None
first_named word (named ∷ rest) = if bytes_eq word named.0 then Some named.1 else first_named word rest

abbrev pub part_of : List ℕ → Option Part
part_of word = first_named word (
    (codes "slack", Slack) ∷ (codes "table", Table) ∷ (codes "verdict", Verdict) ∷ (codes "extend", Extend) ∷ (codes "advance", Advance)
    ∷ (codes "curve", Curve) ∷ (codes "load", Load) ∷ (codes "check", Check) ∷ (codes "quick", Quick) ∷ [])

abbrev pub op_of_word : List ℕ → Option Op
op_of_word word = first_named word
    ((codes "sum", Sum) ∷ (codes "difference", Difference) ∷ (codes "product", Product) ∷ (codes "quotient", Quotient) ∷ [])

-- returns a value, or the broken rule if the value is missing
abbrev pub or_rule : {A : Type 0} → ReportRule → Option A → Result A ReportRule
or_rule rule None = Err rule
or_rule rule (Some x) = Ok x

-- reads the number of a pattern: a count, or `-` if no pattern is concerned
abbrev pub some_place : Option ℕ → Option (Option ℕ)
some_place None = None
some_place (Some count) = Some (Some count)

abbrev pub place_in : List ℕ → Option (Option ℕ)
place_in word = if bytes_eq word (codes "-") then Some None else some_place (count_of word)

-- ---- the words after `cause`
abbrev pub done_cause : List (List ℕ) → Result (Option (Cause ℚ)) ReportRule
done_cause [] = Ok None
done_cause words = Err P6

abbrev pub phases_cause : List (List ℕ) → Result (Option (Cause ℚ)) ReportRule
phases_cause (made ∷ []) = do
  made ← or_rule P8 (count_of made)
  Ok (Some (Phases made))
phases_cause words = Err P6

abbrev pub patterns_cause : List (List ℕ) → Result (Option (Cause ℚ)) ReportRule
patterns_cause (phase ∷ tried ∷ []) = do
  phase ← or_rule P8 (count_of phase)
  tried ← or_rule P8 (count_of tried)
  Ok (Some (Patterns phase tried))
patterns_cause words = Err P6

-- reads the numbers before the words
abbrev pub passed_cause : List (List ℕ) → Result (Option (Cause ℚ)) ReportRule
passed_cause (phase ∷ part ∷ place ∷ op ∷ left ∷ right ∷ []) = do
  phase ← or_rule P8 (count_of phase)
  place ← or_rule P8 (place_in place)
  left ← or_rule P8 (printed_number left)
  right ← or_rule P8 (printed_number right)
  part ← or_rule P9 (part_of part)
  op ← or_rule P9 (op_of_word op)
  Ok (Some (Passed phase place (record { part = part; op = op; left = left; right = right })))
passed_cause words = Err P6

abbrev pub nopattern_cause : List (List ℕ) → Result (Option (Cause ℚ)) ReportRule
nopattern_cause (phase ∷ []) = do
  phase ← or_rule P8 (count_of phase)
  Ok (Some (NoPattern phase))
nopattern_cause words = Err P6

-- a kind of cause, by its word
pub data CauseKind : Type 0 where
  IsDone : CauseKind
  IsPhases : CauseKind
  IsPatterns : CauseKind
  IsPassed : CauseKind
  IsNoPattern : CauseKind

abbrev pub cause_kind : List ℕ → Option CauseKind
cause_kind word = first_named word (
    (codes "done", IsDone) ∷ (codes "phases", IsPhases) ∷ (codes "patterns", IsPatterns) ∷ (codes "passed", IsPassed)
    ∷ (codes "nopattern", IsNoPattern) ∷ [])

abbrev pub cause_of_kind : List (List ℕ) → CauseKind → Result (Option (Cause ℚ)) ReportRule
cause_of_kind words IsDone = done_cause words
cause_of_kind words IsPhases = phases_cause words
cause_of_kind words IsPatterns = patterns_cause words
cause_of_kind words IsPassed = passed_cause words
cause_of_kind words IsNoPattern = nopattern_cause words

abbrev pub cause_in : List (List ℕ) → Result (Option (Cause ℚ)) ReportRule
cause_in [] = Err P6
cause_in (word ∷ words) = do
  kind ← or_rule P9 (cause_kind word)
  cause_of_kind words kind
