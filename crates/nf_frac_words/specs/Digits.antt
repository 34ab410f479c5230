-- Decimal digits: the number with given digits, the digits of a number, and counts.
use Rattle.std.specs.Prelude.{ℕ, zero, suc, ◌+◌, ◌-◌, ◌*◌, ◌/◌, ◌%◌, ◌^◌, Bool, true, false, not, ◌&&◌, if◌then◌else◌, nat_lt, ◌==◌, List, [], ◌∷◌, ◌++◌, Option, Some, None}
use Rattle.std.specs.Char.{is_ascii_digit}
use Rattle.std.specs.List.{list_all}

abbrev pub are_digits : List ℕ → Bool
are_digits word = list_all is_ascii_digit word

-- the number with the digits of n followed by these digits
abbrev pub value_after : ℕ → List ℕ → ℕ
value_after n [] = n
value_after n (c ∷ rest) = value_after (10 * n + (c - 48)) rest

-- the number with these digits
abbrev pub value_of : List ℕ → ℕ
value_of digits = value_after 0 digits

-- the digits of n, at most `count`: the one digit of a number below ten, else the digits of n / 10
-- followed by the last digit
abbrev pub digits_within : ℕ → ℕ → List ℕ
digits_within zero n = []
digits_within (suc count) n = elim (nat_lt n 10) [
  | true ↦ (48 + n) ∷ []
  | false ↦ digits_within count (n / 10) ++ (48 + n % 10) ∷ []
]

-- the digits of n, with no zero before other digits
unfoldable pub digits_of : ℕ → List ℕ
digits_of n = digits_within (suc n) n

-- ---- counts
-- one or more digits, with no zero before other digits
abbrev pub is_plain_count : List ℕ → Bool
is_plain_count [] = false
is_plain_count (c ∷ []) = is_ascii_digit c
is_plain_count (c ∷ d ∷ rest) = are_digits (c ∷ d ∷ rest) && not (c == 48)

-- the count of a word: a plain number of at most 64 bits
unfoldable pub count_of : List ℕ → Option ℕ
count_of word = if is_plain_count word && nat_lt (value_of word) (2 ^ 64) then Some (value_of word) else None
