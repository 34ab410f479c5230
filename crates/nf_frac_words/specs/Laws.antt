-- Theorems on parsing and printing, and worked examples of both.
use Rattle.std.specs.Prelude.{◌≡◌, ◌↔◌, ℕ, ◌-◌, ◌^◌, ◌<◌, ◌≤◌, List, codes, pos, negsuc, nat_abs, Ok, Err, Some}
use Rattle.nf_rational.specs.Rational.{ℚ, ratio}
use Rattle.nf_frac_words.specs.declared.NumberFault.TheVariants.{Empty, BadDigit, TooWide, ZeroDenominator}
use Rattle.nf_frac_words.specs.Digits.{digits_of, count_of}
use Rattle.nf_frac_words.specs.Numbers.{number_of, decimal_of}
use Rattle.nf_frac_words.specs.Printed.{printed}

-- parsing the printed form of a number within the bound returns this number, with decimals allowed or not
pub record PrintedReadsBack : Type 0 where
  pub fraction : (bound : ℕ) (q : ℚ) → nat_abs q.num ≤ bound → q.den ≤ bound → number_of bound (printed q) ≡ Ok q
  pub decimal : (bound : ℕ) (q : ℚ) → nat_abs q.num ≤ bound → q.den ≤ bound → decimal_of bound (printed q) ≡ Ok q

-- different numbers have different printed forms
abbrev pub PrintedIsInjective : Type 0
PrintedIsInjective = (p q : ℚ) → printed p ≡ printed q → p ≡ q

-- a word is parsed as a count exactly if it consists of the digits of this count, and the count has at most 64 bits
abbrev pub CountsAreDigits : Type 0
CountsAreDigits = (word : List ℕ) (n : ℕ) → (count_of word ≡ Some n) ↔ ((word ≡ digits_of n) × (n < 2 ^ 64))

-- the greatest part of a fraction with 127 bits
abbrev pub widest : ℕ
widest = 2 ^ 127 - 1

pub record FractionsAreRead : Type 0 where
  pub reduced : number_of widest (codes "2/4") ≡ Ok (ratio (pos 1) 2)
  pub negative_zero : number_of widest (codes "-0/5") ≡ Ok (ratio (pos 0) 1)
  pub leading_zeros : number_of widest (codes "-06/04") ≡ Ok (ratio (negsuc 2) 2)
  pub empty : number_of widest (codes "") ≡ Err Empty
  pub empty_denominator : number_of widest (codes "1/") ≡ Err Empty
  pub plus : number_of widest (codes "+1") ≡ Err BadDigit
  pub with_point : number_of widest (codes "1.5") ≡ Err BadDigit
  pub zero_denominator : number_of widest (codes "1/0") ≡ Err ZeroDenominator
  pub within : number_of widest (codes "170141183460469231731687303715884105727") ≡ Ok (ratio (pos widest) 1)
  pub beyond : number_of widest (codes "170141183460469231731687303715884105728") ≡ Err TooWide

pub record DecimalsAreRead : Type 0 where
  pub half : decimal_of widest (codes "0.50") ≡ Ok (ratio (pos 1) 2)
  pub negative : decimal_of widest (codes "-0.25") ≡ Ok (ratio (negsuc 0) 4)
  pub fraction : decimal_of widest (codes "2/4") ≡ Ok (ratio (pos 1) 2)
  pub nothing_before : decimal_of widest (codes ".5") ≡ Err Empty
  pub nothing_after : decimal_of widest (codes "5.") ≡ Err Empty
  pub point_and_slash : decimal_of widest (codes "1.5/2") ≡ Err BadDigit
  pub two_points : decimal_of widest (codes "1.2.3") ≡ Err BadDigit
