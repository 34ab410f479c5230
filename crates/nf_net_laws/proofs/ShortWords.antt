-- Words of lines that are written: plain, and of at most 80 bytes, as printed numbers, names and the words of a format are.
use Rattle.std.proofs.Common.{◌≡◌, ◌≢◌, ℕ, zero, suc, ◌+◌, ◌*◌, ◌/◌, ◌%◌, ◌^◌, ◌<◌, ◌≤◌, ◌==◌, ◌&&◌, ◌||◌, true, not, List, [], ◌∷◌, ◌++◌, length, nat_lt}
use Rattle.std.proofs.Common.{nat_le, nat_abs, ℤ, pos, negsuc, refl, inl, inr, arith, length-append, lit<, lit≤, pow-suc, le-leb, ne_eqb}
use Rattle.nf_net_laws.proofs.Common.{AllByRecursion, list_all, join_with_byte, and_parts, or_cases, leb-true, ltb-true, eqb-true, ℚ, digits_of, slash}
use Rattle.nf_net_laws.proofs.Common.{Name, is_name_byte, is_name, greatest, IsFraction, is_word_byte, IsWord, signed_digits_of}
use Rattle.std.specs.Char.{is_ascii_alphanumeric}
use Rattle.std.specs.Int.{is_in_range}
use Rattle.nf_frac_words.specs.Printed.{printed}
use Rattle.nf_frac_words.proofs.Digits.{by_steps}
use Rattle.nf_frac_words.proofs.Bytes.{IsNumberByte, printed_bytes, some_printed, printed_either}
use Rattle.nf_net_laws.proofs.LinesBack.{within}

-- ---- how long numbers are printed
one_more_digit : (n : ℕ) (ds : List ℕ) → 10 ≤ n → ((k : ℕ) → n / 10 < 10 ^ suc k → length ds ≤ suc k)
    → (k : ℕ) → n < 10 ^ suc k → length (ds ++ (48 + n % 10) ∷ []) ≤ suc k
one_more_digit n ds high before zero h = let e : 10 ^ 1 ≡ 10 = refl in absurd (omega arith)
one_more_digit n ds high before (suc k) h =
    let scale : 10 ^ suc (suc k) ≡ 10 ^ suc k * 10 = pow-suc 10 (suc k) in
    let less : n / 10 < 10 ^ suc k = omega arith in
    let short : length ds ≤ suc k = before k less in
    let long : length (ds ++ (48 + n % 10) ∷ []) ≡ length ds + 1 = length-append ds ((48 + n % 10) ∷ []) in
    omega arith

pub length_digits : (n k : ℕ) → n < 10 ^ suc k → length (digits_of n) ≤ suc k
length_digits = by_steps (λ n ds. (k : ℕ) → n < 10 ^ suc k → length ds ≤ suc k) (λ n low k h. omega arith) one_more_digit

length_number : (n : ℕ) → n ≤ greatest → length (digits_of n) ≤ 39
length_number n h = length_digits n 38 (let big : greatest < 10 ^ 39 = lit< tt in omega arith)

length_signed : (n : ℤ) → nat_abs n ≤ greatest → length (signed_digits_of n) ≤ 40
length_signed (pos n) h = let k : length (digits_of n) ≤ 39 = length_number n h in omega arith
length_signed (negsuc n) h = let k : length (digits_of (suc n)) ≤ 39 = length_number (suc n) h in omega arith

length_printed : (q : ℚ) → IsFraction q → length (printed q) ≤ 80
unfolding printed
length_printed q h =
    let num : length (signed_digits_of q.num) ≤ 40 = length_signed q.num (within q h).0 in
    let den : length (digits_of q.den) ≤ 39 = length_number q.den (within q h).1 in
    printed_either (λ ds. length ds ≤ 80) q.num q.den (omega arith)
    (let long : length (signed_digits_of q.num ++ slash ∷ digits_of q.den) ≡ length (signed_digits_of q.num) + suc (length (digits_of q.den)) =
    length-append (signed_digits_of q.num) (slash ∷ digits_of q.den) in omega arith)

-- ---- bytes of words
byte_test : (b : ℕ) → 33 ≤ b → b ≤ 126 → b ≢ 35 → is_word_byte b ≡ true
byte_test b low high other = λ i. le-leb 33 b low i && (le-leb b 126 high i && not (ne_eqb b 35 other i))

pub number_bytes : (word : List ℕ) → AllByRecursion IsNumberByte word → list_all is_word_byte word ≡ true
number_bytes [] h = refl
number_bytes (b ∷ word) h =
    let low : 45 ≤ b = h.0.0 in
    let high : b ≤ 57 = h.0.1 in
    let first : is_word_byte b ≡ true = byte_test b (omega arith) (omega arith) (λ e. absurd (omega arith)) in λ i. first i && number_bytes word h.1 i

in_range : (low high b : ℕ) → 36 ≤ low → high ≤ 126 → is_in_range low high b ≡ true → is_word_byte b ≡ true
in_range low high b p q h =
    let both = and_parts (nat_le low b) (nat_le b high) h in
    let above : low ≤ b = leb-true low b both.0 in
    let below : b ≤ high = leb-true b high both.1 in
    byte_test b (omega arith) (omega arith) (λ e. absurd (omega arith))

one_byte : (c b : ℕ) → 36 ≤ c → c ≤ 126 → (b == c) ≡ true → is_word_byte b ≡ true
one_byte c b p q h = let e : b ≡ c = eqb-true b c h in byte_test b (omega arith) (omega arith) (λ f. absurd (omega arith))

name_byte : (b : ℕ) → is_name_byte b ≡ true → is_word_byte b ≡ true
name_byte b h = elim (or_cases (is_ascii_alphanumeric b) (b == 95 || (b == 45 || b == 46)) h) [
  | inl e ↦ elim (or_cases (is_in_range 48 57 b || is_in_range 65 90 b) (is_in_range 97 122 b) e) [
    | inl f ↦ elim (or_cases (is_in_range 48 57 b) (is_in_range 65 90 b) f) [
      | inl g ↦ in_range 48 57 b (lit≤ tt) (lit≤ tt) g
      | inr g ↦ in_range 65 90 b (lit≤ tt) (lit≤ tt) g
    ]
    | inr f ↦ in_range 97 122 b (lit≤ tt) (lit≤ tt) f
  ]
  | inr e ↦ elim (or_cases (b == 95) (b == 45 || b == 46) e) [
    | inl f ↦ one_byte 95 b (lit≤ tt) (lit≤ tt) f
    | inr f ↦ elim (or_cases (b == 45) (b == 46) f) [
      | inl g ↦ one_byte 45 b (lit≤ tt) (lit≤ tt) g
      | inr g ↦ one_byte 46 b (lit≤ tt) (lit≤ tt) g
    ]
  ]
]

name_bytes : (name : Name) → list_all is_name_byte name ≡ true → list_all is_word_byte name ≡ true
name_bytes [] h = refl
name_bytes (b ∷ name) h = let both = and_parts (is_name_byte b) (list_all is_name_byte name) h in λ i. name_byte b both.0 i && name_bytes name both.1 i

-- ---- plain words of at most 80 bytes
pub record IsShortWord (word : List ℕ) : Type 0 where
  pub plain : IsWord word
  pub short : length word ≤ 80

pub short_name : (name : Name) → is_name name ≡ true → IsShortWord name
short_name name h =
    let some = and_parts (nat_le 1 (length name)) (nat_le (length name) 24 && list_all is_name_byte name) h in
    let few = and_parts (nat_le (length name) 24) (list_all is_name_byte name) some.1 in
    let short : length name ≤ 24 = leb-true (length name) 24 few.0 in
    record { plain = (leb-true 1 (length name) some.0, name_bytes name few.1); short = omega arith }

pub short_number : (q : ℚ) → IsFraction q → IsShortWord (printed q)
short_number q h = record { plain = (some_printed q, number_bytes (printed q) (printed_bytes q)); short = length_printed q h }

-- a word of the format
pub short_key : (word : List ℕ) → nat_lt 0 (length word) ≡ true → nat_le (length word) 80 ≡ true → list_all is_word_byte word ≡ true → IsShortWord word
short_key word some short h = record { plain = (ltb-true 0 (length word) some, h); short = leb-true (length word) 80 short }

-- ---- some of them on a line
pub length_join : (ws : List (List ℕ)) → AllByRecursion IsShortWord ws → length (join_with_byte 32 ws) ≤ length ws * 81
length_join [] h = omega arith
length_join (w ∷ []) h = let k : length w ≤ 80 = h.0.short in omega arith
length_join (w ∷ v ∷ ws) h =
    let k : length w ≤ 80 = h.0.short in
    let rest : length (join_with_byte 32 (v ∷ ws)) ≤ length (v ∷ ws) * 81 = length_join (v ∷ ws) h.1 in
    let long : length (w ++ 32 ∷ join_with_byte 32 (v ∷ ws)) ≡ length w + suc (length (join_with_byte 32 (v ∷ ws))) = length-append w (32 ∷ join_with_byte 32 (v ∷ ws)) in
    omega arith

pub plain_words : (ws : List (List ℕ)) → AllByRecursion IsShortWord ws → AllByRecursion IsWord ws
plain_words [] h = tt
plain_words (w ∷ ws) h = (h.0.plain, plain_words ws h.1)
