-- The numbers of the command line.
use Rattle.std.specs.Prelude.{ℕ, ◌-◌, ◌^◌, Bool, not, ◌&&◌, ◌==◌, nat_le, if◌then◌else◌, List, length, Option, Some, None, option_and_then, Result, Ok, Err}
use Rattle.std.specs.Option.{option_map_or}
use Rattle.clap.specs.Walk.{Text, Row}
use Rattle.nf_rational.specs.Rational.{ℚ}
use Rattle.nf_rational.specs.Operations.{0ℚ}
use Rattle.nf_rational.specs.Order.{le_ℚ}
use Rattle.nf_frac_def.specs.Passing.{bound_of}
use Rattle.nf_frac_words.specs.Digits.{are_digits, value_of}
use Rattle.nf_frac_words.specs.Numbers.{number_of}
use Rattle.nf_app_words.specs.CommandLine.{word_in}

-- ---- a horizon and an amount: a number of at least 0
abbrev pub to_not_negative : {F : Type 0} → Result ℚ F → Option ℚ
to_not_negative (Ok number) = if le_ℚ 0ℚ number then Some number else None
to_not_negative (Err fault) = None

-- the number that a word writes, if it is at least 0
abbrev pub not_negative_of : Text → Option ℚ
not_negative_of word = to_not_negative (number_of (bound_of 127) word)

-- the number of an option, if it is given and at least 0
abbrev pub not_negative_in : Text → List Row → Option ℚ
not_negative_in name rows = option_and_then not_negative_of (word_in name rows)

-- ---- counts
-- a word of decimal digits, at least one; leading zeros are allowed
abbrev pub is_whole : Text → Bool
is_whole word = not (length word == 0) && are_digits word

abbrev pub is_between : ℕ → ℕ → ℕ → Bool
is_between least most count = nat_le least count && nat_le count most

-- the count that a word writes, if it is between `least` and `most`
unfoldable pub count_between : ℕ → ℕ → Text → Option ℕ
count_between least most word = if is_whole word && is_between least most (value_of word) then Some (value_of word) else None

-- the count of an option, if it is given and between `least` and `most`
abbrev pub count_in : ℕ → ℕ → Text → List Row → Option ℕ
count_in least most name rows = option_and_then (count_between least most) (word_in name rows)

-- the count of an option, if it is between 1 and `most`; the default is `usual`
abbrev pub usual_or_count_in : ℕ → ℕ → Text → List Row → Option ℕ
usual_or_count_in usual most name rows = option_map_or (count_between 1 most) (word_in name rows) (Some usual)

-- ---- limits
-- the greatest and the default number of phases
abbrev pub most_phases : ℕ
most_phases = 100000

abbrev pub usual_phases : ℕ
usual_phases = 10000

-- the greatest and the default number of patterns for each phase
abbrev pub most_patterns : ℕ
most_patterns = 1000000

abbrev pub usual_patterns : ℕ
usual_patterns = 100000

-- the greatest and the default number of walks that a quickest flow may push
abbrev pub most_augments : ℕ
most_augments = 100000

abbrev pub usual_augments : ℕ
usual_augments = 10000

-- the greatest number of rungs of a ladder, and its greatest number
abbrev pub most_rungs : ℕ
most_rungs = 30

abbrev pub most_number : ℕ
most_number = 2 ^ 64 - 1
