-- The printed form of a rational number.
use Rattle.std.specs.Prelude.{ℕ, suc, if◌then◌else◌, ◌==◌, List, ◌∷◌, ◌++◌, ℤ, pos, negsuc}
use Rattle.nf_rational.specs.Rational.{ℚ}
use Rattle.nf_frac_words.specs.Digits.{digits_of}
use Rattle.nf_frac_words.specs.Numbers.{slash}

-- the digits of a whole number, after a minus sign if it is below 0
abbrev pub signed_digits_of : ℤ → List ℕ
signed_digits_of (pos n) = digits_of n
signed_digits_of (negsuc n) = 45 ∷ digits_of (suc n)

-- n over d: the numerator, followed by a slash and the denominator if the denominator is not 1
unfoldable pub printed_parts : ℤ → ℕ → List ℕ
printed_parts n d = if d == 1 then signed_digits_of n else signed_digits_of n ++ slash ∷ digits_of d

unfoldable pub printed : ℚ → List ℕ
printed q = printed_parts q.num q.den
