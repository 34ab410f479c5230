-- Parsing of rational numbers: the words `a`, `a/b`, and decimals `a.b`.
use Rattle.std.specs.Prelude.{ℕ, ◌+◌, ◌*◌, ◌^◌, Bool, not, ◌&&◌, ◌||◌, if◌then◌else◌, nat_lt, ◌==◌, List, [], ◌∷◌, length, drop, ℤ, pos, neg_ℤ, nat_abs, Result, Ok, Err}
use Rattle.std.specs.List.{list_any, before_first, after_first}
use Rattle.std.specs.Str.Parse.{starts_with_minus}
use Rattle.nf_rational.specs.Rational.{ℚ, ratio}
use Rattle.nf_frac_words.specs.declared.NumberFault.{NumberFault}
use Rattle.nf_frac_words.specs.declared.NumberFault.TheVariants.{Empty, BadDigit, TooWide, ZeroDenominator}
use Rattle.nf_frac_words.specs.Digits.{are_digits, value_of}

-- ---- the fields of a word
abbrev pub slash : ℕ
slash = 47

abbrev pub point : ℕ
point = 46

abbrev pub has : ℕ → List ℕ → Bool
has byte word = list_any (λ c. c == byte) word

-- the bytes before the first such byte, or all bytes if there is none
abbrev pub before : ℕ → List ℕ → List ℕ
before byte word = before_first (λ c. c == byte) word

-- the bytes after the first such byte
abbrev pub bytes_after : ℕ → List ℕ → List ℕ
bytes_after byte word = after_first (λ c. c == byte) word

-- a field without its leading minus sign, if it has one
abbrev pub unsigned : List ℕ → List ℕ
unsigned field = if starts_with_minus field then drop 1 field else field

-- n with the sign of a field
abbrev pub signed_by : List ℕ → ℕ → ℤ
signed_by field n = if starts_with_minus field then neg_ℤ (pos n) else pos n

-- the bytes after the first slash; a word without a slash has the denominator `1`
abbrev pub denominator : List ℕ → List ℕ
denominator word = if has slash word then bytes_after slash word else 49 ∷ []

-- ---- numbers
-- the parts n and d of two fields, or the first fault that applies
abbrev pub parts_or_fault : ℕ → List ℕ → List ℕ → ℤ → ℕ → Result (ℤ × ℕ) NumberFault
parts_or_fault bound left right n d =
    if length left == 0 || length right == 0 then Err Empty
    else (if not (are_digits left && are_digits right) then Err BadDigit
    else (if nat_lt bound (nat_abs n) || nat_lt bound d then Err TooWide
    else (if d == 0 then Err ZeroDenominator
    else Ok (n, d))))

-- the parts of `a` or `a/b` as written, split at the first slash; a may begin with a minus sign
unfoldable pub parts_of : ℕ → List ℕ → Result (ℤ × ℕ) NumberFault
parts_of bound word =
    let a = before slash word in
    let b = denominator word in
    parts_or_fault bound (unsigned a) b (signed_by a (value_of (unsigned a))) (value_of b)

-- a word with a point and without a slash
abbrev pub is_decimal : List ℕ → Bool
is_decimal word = has point word && not (has slash word)

-- such a word is split at its first point into a and b, and a may begin with a minus sign: with k digits in b, the magnitude is
-- a · 10^k + b over 10^k; every other word is parsed as above
unfoldable pub decimal_parts_of : ℕ → List ℕ → Result (ℤ × ℕ) NumberFault
decimal_parts_of bound word =
    let a = before point word in
    let b = bytes_after point word in
    let scale = 10 ^ length b in
    if is_decimal word then parts_or_fault bound (unsigned a) b (signed_by a (value_of (unsigned a) * scale + value_of b)) scale
    else parts_of bound word

-- the number with these parts, in lowest terms
abbrev pub as_ratio : Result (ℤ × ℕ) NumberFault → Result ℚ NumberFault
as_ratio (Ok p) = Ok (ratio p.0 p.1)
as_ratio (Err fault) = Err fault

-- the number of a word whose parts, as written, are within the bound, or the first fault that applies
unfoldable pub number_of : ℕ → List ℕ → Result ℚ NumberFault
number_of bound word = as_ratio (parts_of bound word)

-- the same with decimals allowed
unfoldable pub decimal_of : ℕ → List ℕ → Result ℚ NumberFault
decimal_of bound word = as_ratio (decimal_parts_of bound word)
