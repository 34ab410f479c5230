-- Numbers in a network file.
use Rattle.std.specs.Prelude.{ℕ, not, ◌&&◌, ◌==◌, if◌then◌else◌, List, Option, Some, None, option_map, codes}
use Rattle.std.specs.Result.{result_ok}
use Rattle.std.specs.Str.{bytes_eq}
use Rattle.nf_rational.specs.Rational.{ℚ}
use Rattle.nf_frac_def.specs.Passing.{bound_of}
use Rattle.nf_frac_words.specs.Numbers.{number_of, decimal_of}
use Rattle.nf_frac_words.specs.Printed.{printed}

-- the greatest magnitude of a numerator or denominator
abbrev pub greatest : ℕ
greatest = bound_of 127

-- reads a number word: a or a/b, and from version 2 on also a decimal
abbrev pub number_in : ℕ → List ℕ → Option ℚ
number_in version word = result_ok (if version == 1 then number_of greatest word else decimal_of greatest word)

-- reads a capacity word: a number, and from version 2 on also `inf` for an unbounded link
abbrev pub capacity_in : ℕ → List ℕ → Option (Option ℚ)
capacity_in version word =
    if not (version == 1) && bytes_eq word (codes "inf") then Some None else option_map (λ q. Some q) (number_in version word)

abbrev pub capacity_word : Option ℚ → List ℕ
capacity_word None = codes "inf"
capacity_word (Some capacity) = printed capacity
