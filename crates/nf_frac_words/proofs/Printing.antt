-- The printed form, in terms of the standard library's texts of integers.
use Rattle.std.proofs.Common.{◌≡◌, ◌≢◌, ℕ, zero, suc, ◌^◌, ◌<◌, List, [], ◌∷◌, ◌++◌, ℤ, pos, negsuc, sym, ap, ◌∙◌, arith, append_assoc, pow-suc}
use Rattle.std.specs.Prelude.{nat_abs}
use Rattle.std.specs.Fmt.{decimal, signed_decimal}
use Rattle.std.proofs.lemmas.Fmt.{AppendsLastDigit, decimal_from_appends_wide, length-decimal-le_wide}
use Rattle.std.proofs.lemmas.Bool.{cond-true, cond-false, eq-eqb, ne_eqb}
use Rattle.nf_frac_words.specs.Digits.{digits_within, digits_of}
use Rattle.nf_frac_words.specs.Numbers.{slash}
use Rattle.nf_frac_words.specs.Printed.{signed_digits_of, printed_parts}
use Rattle.nf_frac_words.proofs.Digits.{within_one, within_more}

appends : AppendsLastDigit digits_within
appends = record { one = within_one; more = within_more }

below_power : (n : ℕ) → n < 10 ^ suc n
below_power zero = omega arith
below_power (suc n) = let h : n < 10 ^ suc n = below_power n in rw (pow-suc 10 (suc n)) (omega arith)

pub digits_are_decimal : (n : ℕ) → n < 2 ^ 127 → digits_of n ≡ decimal n
unfolding digits_of
digits_are_decimal n h =
    let fits : n < 10 ^ 64 = omega arith in
    decimal_from_appends_wide digits_within appends (suc n) n fits (length-decimal-le_wide (suc n) n (omega arith) (below_power n) fits)

pub signed_digits_are_decimal : (n : ℤ) → nat_abs n < 2 ^ 127 → signed_digits_of n ≡ signed_decimal n
signed_digits_are_decimal (pos n) h = digits_are_decimal n h
signed_digits_are_decimal (negsuc n) h = ap (λ ds. 45 ∷ ds) (digits_are_decimal (suc n) h)

pub whole_text : (n : ℤ) (d : ℕ) → nat_abs n < 2 ^ 127 → d ≡ 1 → printed_parts n d ≡ signed_decimal n
unfolding printed_parts
whole_text n d fits e = cond-true _ _ _ (eq-eqb d 1 e) ∙ signed_digits_are_decimal n fits

pub ratio_text : (n : ℤ) (d : ℕ) → nat_abs n < 2 ^ 127 → d < 2 ^ 127 → d ≢ 1 → printed_parts n d ≡ (signed_decimal n ++ slash ∷ []) ++ decimal d
unfolding printed_parts
ratio_text n d fits_n fits_d e =
    cond-false _ _ _ (ne_eqb d 1 e)
    ∙ sym (append_assoc (signed_digits_of n) (slash ∷ []) (digits_of d))
    ∙ ap (λ ds. (ds ++ slash ∷ []) ++ digits_of d) (signed_digits_are_decimal n fits_n)
    ∙ ap (λ ds. (signed_decimal n ++ slash ∷ []) ++ ds) (digits_are_decimal d fits_d)

-- ---- a text written in chunks
pub whole_written : (n : ℤ) (d : ℕ) (empty text piece : List ℕ) → nat_abs n < 2 ^ 127 → d ≡ 1 → empty ≡ [] → text ≡ empty ++ piece → piece ≡ signed_decimal n → text ≡ printed_parts n d
whole_written n d empty text piece fits one start step is = cc (whole_text n d fits one)

pub ratio_written : (n : ℤ) (d : ℕ) (empty whole parted text left right : List ℕ) → nat_abs n < 2 ^ 127 → d < 2 ^ 127 → d ≢ 1
    → empty ≡ [] → whole ≡ empty ++ left → parted ≡ whole ++ slash ∷ [] → text ≡ parted ++ right → left ≡ signed_decimal n → right ≡ decimal d → text ≡ printed_parts n d
ratio_written n d empty whole parted text left right fits_n fits_d more start step_whole step_parted step_text is_left is_right = cc (ratio_text n d fits_n fits_d more)
