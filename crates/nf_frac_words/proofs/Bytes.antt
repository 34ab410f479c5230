-- The bytes of digits and of printed numbers: no blank, no line end and no letter.
use Rattle.std.proofs.Common.{◌≡◌, ℕ, suc, ◌<◌, ◌≤◌, true, List, [], ◌∷◌, ◌++◌, length, ℤ, pos, negsuc, sym, subst, arith, inl, inr, length-append}
use Rattle.std.specs.List.{AllByRecursion}
use Rattle.std.proofs.lemmas.Bool.{and_parts, cond-true, cond-false, eq-eqb, ne_eqb, cases_eq}
use Rattle.nf_rational.specs.Rational.{ℚ}
use Rattle.nf_frac_words.specs.Digits.{are_digits, digits_of}
use Rattle.nf_frac_words.specs.Numbers.{slash}
use Rattle.nf_frac_words.specs.Printed.{signed_digits_of, printed_parts, printed}
use Rattle.nf_frac_words.proofs.Digits.{digit_range, are_digits-digits_of, some_digits}

-- from `-` (45) to `9` (57)
abbrev pub IsNumberByte : ℕ → Type 0
IsNumberByte c = (45 ≤ c) × (c ≤ 57)

bytes_append : (xs ys : List ℕ) → AllByRecursion IsNumberByte xs → AllByRecursion IsNumberByte ys → AllByRecursion IsNumberByte (xs ++ ys)
bytes_append [] ys p q = q
bytes_append (x ∷ xs) ys p q = (p.0, bytes_append xs ys p.1 q)

pub digits_bytes : (ds : List ℕ) → are_digits ds ≡ true → AllByRecursion IsNumberByte ds
digits_bytes [] e = tt
digits_bytes (c ∷ ds) e = let p = and_parts _ _ e in let r = digit_range c p.0 in ((omega arith, omega arith), digits_bytes ds p.1)

pub digits_of_bytes : (n : ℕ) → AllByRecursion IsNumberByte (digits_of n)
digits_of_bytes n = digits_bytes (digits_of n) (are_digits-digits_of n)

signed_bytes : (n : ℤ) → AllByRecursion IsNumberByte (signed_digits_of n)
signed_bytes (pos n) = digits_of_bytes n
signed_bytes (negsuc n) = ((omega arith, omega arith), digits_of_bytes (suc n))

some_signed : (n : ℤ) → 0 < length (signed_digits_of n)
some_signed (pos n) = some_digits n
some_signed (negsuc n) = omega arith

-- ---- a printed form has one list of digits or two
module _ (P : List ℕ → Type 0) (n : ℤ) (d : ℕ) (whole : P (signed_digits_of n)) (ratio : P (signed_digits_of n ++ slash ∷ digits_of d)) where
  pub printed_either : P (printed_parts n d)
  unfolding printed_parts
  printed_either = elim (cases_eq d 1) [
    | inl one ↦ subst P (sym (cond-true _ _ _ (eq-eqb d 1 one))) whole
    | inr more ↦ subst P (sym (cond-false _ _ _ (ne_eqb d 1 more))) ratio
  ]

pub printed_bytes : (q : ℚ) → AllByRecursion IsNumberByte (printed q)
unfolding printed
printed_bytes q =
    printed_either (AllByRecursion IsNumberByte) q.num q.den (signed_bytes q.num)
    (bytes_append (signed_digits_of q.num) (slash ∷ digits_of q.den) (signed_bytes q.num) ((omega arith, omega arith), digits_of_bytes q.den))

pub some_printed : (q : ℚ) → 0 < length (printed q)
unfolding printed
some_printed q =
    printed_either (λ ds. 0 < length ds) q.num q.den (some_signed q.num) (let h : 0 < length (signed_digits_of q.num) = some_signed q.num in
    omega (arith, length-append (signed_digits_of q.num) (slash ∷ digits_of q.den)))

-- the parts of a number are printed as this number
pub printed_by_parts : (q : ℚ) (n : ℤ) (d : ℕ) → q.num ≡ n → q.den ≡ d → printed_parts n d ≡ printed q
unfolding printed
printed_by_parts q n d e f = cc
