-- Words that are the printed forms of numbers, read digit by digit.
use Rattle.std.proofs.Common.{◌≡◌, ℕ, zero, suc, ◌+◌, ◌-◌, ◌*◌, ◌<◌, ◌≤◌, Bool, true, false, List, [], ◌∷◌, ◌++◌, length, take, drop, get_or, ℤ, pos}
use Rattle.std.proofs.Common.{negsuc, refl, sym, ap, subst, ◌∙◌, arith, ◌==◌, if◌then◌else◌, neg_ℤ, nat_abs, ◌≤ℤ◌, Some, None}
use Rattle.nf_report_lines.proofs.Common.{take-append-drop, take_all, drop_more, and_from, cond-false, ne_eqb, ℚ, are_digits, value_of, digits_of}
use Rattle.nf_report_lines.proofs.Common.{signed_digits_of, if_printed, printed_number}
use Rattle.std.proofs.lemmas.Int.{ints}
use Rattle.std.specs.Char.{is_ascii_digit}
use Rattle.std.proofs.Math.Seq.{take-suc}
use Rattle.nf_frac_words.specs.Printed.{printed_parts, printed}
use Rattle.nf_frac_words.proofs.Digits.{are_digits-append, value_after-append}
use Rattle.nf_frac_words.proofs.ReadBack.{number_read}
use Rattle.nf_net_def.specs.Numbers.{greatest}
use Rattle.nf_net_laws.proofs.NameFacts.{bytes_eq-self}

-- ---- one digit more
take_next : (bytes : List ℕ) (place : ℕ) → place < length bytes → take (place + 1) bytes ≡ take place bytes ++ get_or bytes place 0 ∷ []
take_next bytes place within = let next : place + 1 ≡ suc place = omega arith in ap (λ (n : ℕ). take n bytes) next ∙ take-suc bytes place 0 within

pub digits_on : (bytes : List ℕ) (place : ℕ) → place < length bytes → are_digits (take place bytes) ≡ true → is_ascii_digit (get_or bytes place 0) ≡ true
    → are_digits (take (place + 1) bytes) ≡ true
digits_on bytes place within are is = ap are_digits (take_next bytes place within) ∙ are_digits-append (take place bytes) (get_or bytes place 0 ∷ []) are (and_from _ _ is refl)

pub value_on : (bytes : List ℕ) (place n : ℕ) → place < length bytes → value_of (take place bytes) ≡ n → value_of (take (place + 1) bytes) ≡ 10 * n + (get_or bytes place 0 - 48)
value_on bytes place n within is =
    ap value_of (take_next bytes place within) ∙ value_after-append 0 (take place bytes) (get_or bytes place 0 ∷ []) ∙ ap (λ (m : ℕ). 10 * m + (get_or bytes place 0 - 48)) is

-- ---- parts
pub whole_is : (word : List ℕ) (n end : ℕ) → end ≡ length word → take end word ≡ digits_of n → word ≡ printed_parts (pos n) 1
unfolding printed_parts
whole_is word n end all is = sym (take_all end word (omega arith)) ∙ is

pub ratio_is : (word rest : List ℕ) (n d end rest_end : ℕ) → end < length word → get_or word end 0 ≡ 47 → take end word ≡ digits_of n
    → rest ≡ drop (end + 1) word → length rest ≤ rest_end
    → take rest_end rest ≡ digits_of d → (d ≡ 1 → ⊥) → word ≡ printed_parts (pos n) d
unfolding printed_parts
ratio_is word rest n d end rest_end within is_slash is_num is_rest all is_den more =
    let den : drop (end + 1) word ≡ digits_of d = sym is_rest ∙ sym (take_all rest_end rest all) ∙ is_den in
    let back : drop end word ≡ 47 ∷ digits_of d = drop_more word end 0 within ∙ ap (λ (c : ℕ). c ∷ drop (end + 1) word) is_slash ∙ ap (λ ds. 47 ∷ ds) den in
    sym (take-append-drop end word) ∙ ap (λ ds. ds ++ drop end word) is_num ∙ ap (λ ds. digits_of n ++ ds) back ∙ sym (cond-false _ _ _ (ne_eqb d 1 more))

either_form : (b : Bool) (n : ℕ) (ds : List ℕ) → 45 ∷ (if b then signed_digits_of (pos (suc n)) else signed_digits_of (pos (suc n)) ++ ds)
    ≡ (if b then signed_digits_of (negsuc n) else signed_digits_of (negsuc n) ++ ds)
either_form true n ds = refl
either_form false n ds = refl

negative_parts : (n d : ℕ) → (n ≡ 0 → ⊥) → 45 ∷ printed_parts (pos n) d ≡ printed_parts (neg_ℤ (pos n)) d
unfolding printed_parts
negative_parts zero d some = absurd (some refl)
negative_parts (suc n) d some = either_form (d == 1) n (47 ∷ digits_of d)

pub negative_is : (word rest : List ℕ) (n d : ℕ) → 0 < length word → get_or word 0 0 ≡ 45 → rest ≡ drop 1 word → rest ≡ printed_parts (pos n) d → 0 < n
    → word ≡ printed_parts (neg_ℤ (pos n)) d
negative_is word rest n d within is_minus is_rest is some =
    drop_more word 0 0 within ∙ ap (λ (c : ℕ). c ∷ drop 1 word) is_minus ∙ ap (λ ds. 45 ∷ ds) (sym is_rest ∙ is) ∙ negative_parts n d (λ none. omega arith)

-- ---- the number that a word is the printed form of
number_of_parts : (word : List ℕ) (n : ℤ) (d : ℕ) (q : ℚ) → word ≡ printed_parts n d → n ≡ q.num → d ≡ q.den → nat_abs q.num ≤ greatest → q.den ≤ greatest → printed_number word ≡ Some q
unfolding printed
number_of_parts word n d q is same_num same_den fits_num fits_den =
    let printed_form : word ≡ printed q = is ∙ ap (λ m. printed_parts m d) same_num ∙ ap (printed_parts q.num) same_den in
    ap printed_number printed_form
    ∙ ap (if_printed (printed q)) (number_read greatest q fits_num fits_den)
    ∙ ap (λ (b : Bool). if b then Some q else None) (bytes_eq-self (printed q))

den_within : (d : ℤ) (k bound : ℕ) → d ≡ pos k → d ≤ℤ pos bound → k ≤ bound
den_within d k bound e h = omega (arith, ints, e, h)

pub number_from : (word : List ℕ) (n numer denom given : ℤ) (d : ℕ) (q : ℚ) → word ≡ printed_parts n d → numer ≡ q.num → numer ≡ n → nat_abs numer ≤ greatest
    → denom ≡ pos q.den → given ≡ pos d → denom ≡ given → denom ≤ℤ pos greatest → printed_number word ≡ Some q
number_from word n numer denom given d q is num same_num fits_num den from same_den fits_den =
    let both : pos d ≡ pos q.den = sym from ∙ sym same_den ∙ den in
    let is_den : d ≡ q.den = cc in
    number_of_parts word n d q is (sym same_num ∙ num) is_den (subst (λ (z : ℤ). nat_abs z ≤ greatest) num fits_num) (den_within denom q.den greatest den fits_den)
