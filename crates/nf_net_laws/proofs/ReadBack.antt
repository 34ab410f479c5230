-- Plain lines read back.
use Rattle.std.proofs.Common.{◌≡◌, ℕ, ◌+◌, ◌-◌, ◌<◌, ◌≤◌, ◌==◌, Bool, true, false, not, ◌&&◌, ◌||◌, nat_le, nat_lt, List, [], ◌∷◌, ◌++◌, length, take, map}
use Rattle.std.proofs.Common.{All, None, Some, refl, arith, ◌∙◌, ap, cond, get_or, append_assoc, take_all, bytes_eq}
use Rattle.nf_net_laws.proofs.Common.{flat_map, slice_split, join_with_byte, list_all, AllByRecursion, position_or_len, ne_eqb, leb-true, le-leb, le-ltb}
use Rattle.nf_net_laws.proofs.Common.{not-true, read_line, is_blank, words, without_comment, parts_with_bytes, line_of_words, NotAscii, LongLine}
use Rattle.nf_net_laws.proofs.Common.{is_allowed, line_fault, first_fault_of, longest_line, is_word_byte, IsWord, plain_from, AreWords, AreShort}
use Rattle.nf_net_laws.proofs.Common.{All-from_recursion, slice_split_at, slice_split_none, length-slice_split, TextLine, lines_from, lines_of_parts}
use Rattle.nf_net_laws.proofs.Common.{ended_line}
use Rattle.std.specs.Option.{option_or}
use Rattle.std.specs.Cmp.{first_so, second_so}
use Rattle.std.proofs.lemmas.List.Sums.{position_or_len_is}
use Rattle.nf_text_def.proofs.LineParts.{lines_of_parts-more}
use Rattle.nf_net_laws.proofs.AcceptedNamed.{every_append}
use Rattle.nf_net_laws.proofs.NameFacts.{bytes_eq-self}

-- ---- a byte of a word
above_space : (b : ℕ) → is_word_byte b ≡ true → 33 ≤ b
above_space b h = leb-true 33 b (first_so (nat_le 33 b) (nat_le b 126 && not (b == 35)) h)

not_hash : (b : ℕ) → is_word_byte b ≡ true → (b == 35) ≡ false
not_hash b h = not-true (b == 35) (second_so (nat_le b 126) (not (b == 35)) (second_so (nat_le 33 b) (nat_le b 126 && not (b == 35)) h))

not_low : (low b : ℕ) → low < 33 → is_word_byte b ≡ true → (b == low) ≡ false
not_low low b l h = let above : 33 ≤ b = above_space b h in ne_eqb b low (omega (arith, l, above))

not_blank : (b : ℕ) → is_word_byte b ≡ true → is_blank b ≡ false
not_blank b h = ap (λ t. t || b == 9) (not_low 32 b (omega arith) h) ∙ not_low 9 b (omega arith) h

allowed : (b : ℕ) → is_word_byte b ≡ true → is_allowed b ≡ true
allowed b h = let above : 33 ≤ b = above_space b h in
    let below : nat_le b 126 ≡ true = first_so (nat_le b 126) (not (b == 35)) (second_so (nat_le 33 b) (nat_le b 126 && not (b == 35)) h) in
    ap (λ t. t || (nat_le 32 b && nat_le b 126)) (not_low 9 b (omega arith) h) ∙ ap (λ t. t && nat_le b 126) (le-leb 32 b (omega (arith, above))) ∙ below

-- ---- what holds of the bytes of words
module _ (P : ℕ → Type 0) (at_word : (b : ℕ) → is_word_byte b ≡ true → P b) where
  of_word : (word : List ℕ) → list_all is_word_byte word ≡ true → AllByRecursion P word
  of_word [] h = tt
  of_word (b ∷ word) h = (at_word b (first_so (is_word_byte b) (list_all is_word_byte word) h), of_word word (second_so (is_word_byte b) (list_all is_word_byte word) h))

-- and of a space, holds of words that are joined
module _ (P : ℕ → Type 0) (at_word : (b : ℕ) → is_word_byte b ≡ true → P b) (at_space : P 32) where
  of_joined : (words : List (List ℕ)) → AllByRecursion IsWord words → AllByRecursion P (join_with_byte 32 words)
  of_joined [] h = tt
  of_joined (w ∷ []) h = of_word P at_word w h.0.1
  of_joined (w ∷ v ∷ words) h = every_append _ w (32 ∷ join_with_byte 32 (v ∷ words)) (of_word P at_word w h.0.1) (at_space, of_joined (v ∷ words) h.1)

no_hash : (words : List (List ℕ)) → AllByRecursion IsWord words → AllByRecursion (λ b. (b == 35) ≡ false) (join_with_byte 32 words)
no_hash words h = of_joined (λ b. (b == 35) ≡ false) not_hash refl words h

no_lf : (words : List (List ℕ)) → AllByRecursion IsWord words → AllByRecursion (λ b. (b == 10) ≡ false) (join_with_byte 32 words)
no_lf words h = of_joined (λ b. (b == 10) ≡ false) (λ b k. not_low 10 b (omega arith) k) refl words h

no_cr : (words : List (List ℕ)) → AllByRecursion IsWord words → AllByRecursion (λ b. (b == 13) ≡ false) (join_with_byte 32 words)
no_cr words h = of_joined (λ b. (b == 13) ≡ false) (λ b k. not_low 13 b (omega arith) k) refl words h

all_allowed : (words : List (List ℕ)) → AllByRecursion IsWord words → AllByRecursion (λ b. is_allowed b ≡ true) (join_with_byte 32 words)
all_allowed words h = of_joined (λ b. is_allowed b ≡ true) allowed refl words h

-- ---- the words of them
nothing_cut : (bytes : List ℕ) → AllByRecursion (λ b. (b == 35) ≡ false) bytes → without_comment bytes ≡ bytes
nothing_cut bytes h = let none : All (λ b. (b == 35) ≡ false) bytes = All-from_recursion (λ b. (b == 35) ≡ false) bytes h in
    let place : position_or_len (λ b. b == 35) bytes ≡ length bytes = position_or_len_is (λ b. b == 35) bytes (length bytes) 0 (omega arith)
    (λ k l. none k 0 l) (λ l. absurd (omega (arith, l))) in
    take_all (position_or_len (λ b. b == 35) bytes) bytes (omega (arith, place))

word_kept : (word : List ℕ) (parts : List (List ℕ)) → 0 < length word → parts_with_bytes (word ∷ parts) ≡ word ∷ parts_with_bytes parts
word_kept word parts h = ap (λ t. cond (not t) (word ∷ parts_with_bytes parts) (parts_with_bytes parts)) (ne_eqb (length word) 0 (omega (arith, h)))

no_blank : (word : List ℕ) → IsWord word → All (λ b. is_blank b ≡ false) word
no_blank word h = All-from_recursion (λ b. is_blank b ≡ false) word (of_word (λ b. is_blank b ≡ false) not_blank word h.1)

parts_are : (words : List (List ℕ)) → AllByRecursion IsWord words → parts_with_bytes (slice_split is_blank (join_with_byte 32 words)) ≡ words
parts_are [] h = refl
parts_are (w ∷ []) h = ap parts_with_bytes (slice_split_none is_blank w (no_blank w h.0)) ∙ word_kept w [] h.0.0
parts_are (w ∷ v ∷ words) h = ap parts_with_bytes (slice_split_at is_blank w 32 (join_with_byte 32 (v ∷ words)) (no_blank w h.0) refl)
    ∙ word_kept w (slice_split is_blank (join_with_byte 32 (v ∷ words))) h.0.0 ∙ ap (λ t. w ∷ t) (parts_are (v ∷ words) h.1)

pub words-join : (ws : List (List ℕ)) → AllByRecursion IsWord ws → words (join_with_byte 32 ws) ≡ ws
words-join ws h = ap (λ bytes. parts_with_bytes (slice_split is_blank bytes)) (nothing_cut (join_with_byte 32 ws) (no_hash ws h)) ∙ parts_are ws h

-- ---- one line
abbrev plain_line : ℕ → List (List ℕ) → TextLine
plain_line n ws = record { number = n; bytes = join_with_byte 32 ws; ending = 10 ∷ [] }

abbrev ends_with_cr : List ℕ → Bool
ends_with_cr part = get_or part (length part - 1) 0 == 13

ends_with_no_cr : (part : List ℕ) → AllByRecursion (λ b. (b == 13) ≡ false) part → ends_with_cr part ≡ false
ends_with_no_cr [] h = refl
ends_with_no_cr (b ∷ part) h = All-from_recursion (λ b. (b == 13) ≡ false) (b ∷ part) h (length (b ∷ part) - 1) 0 (omega arith)

ended_plain : (n : ℕ) (ws : List (List ℕ)) → AllByRecursion IsWord ws → ended_line n (join_with_byte 32 ws) ≡ plain_line n ws
ended_plain n ws h = let part : List ℕ = join_with_byte 32 ws in
    ap (λ cr. cond cr (record { number = n; bytes = take (length part - 1) part; ending = 13 ∷ 10 ∷ [] }) (record { number = n; bytes = part; ending = 10 ∷ [] }))
    (ends_with_no_cr part (no_cr ws h))

pub lines_from-line : (n : ℕ) (ws : List (List ℕ)) (rest : List ℕ) → AllByRecursion IsWord ws → lines_from n (line_of_words ws ++ rest) ≡ plain_line n ws ∷ lines_from (n + 1) rest
lines_from-line n ws rest h =
    let part : List ℕ = join_with_byte 32 ws in
    let none : All (λ b. (b == 10) ≡ false) part = All-from_recursion (λ b. (b == 10) ≡ false) part (no_lf ws h) in
    ap (lines_from n) (append_assoc part (10 ∷ []) rest)
    ∙ ap (lines_of_parts n) (slice_split_at (λ b. b == 10) part 10 rest none refl)
    ∙ lines_of_parts-more n part (slice_split (λ b. b == 10) rest) (omega (arith, length-slice_split (λ b. b == 10) rest))
    ∙ ap (λ line. line ∷ lines_from (n + 1) rest) (ended_plain n ws h)

read_plain : (n : ℕ) (ws : List (List ℕ)) → AllByRecursion IsWord ws → read_line (plain_line n ws) ≡ record { number = n; plain = true; words = ws }
read_plain n ws h = ap (λ vs. record { number = n; plain = bytes_eq (line_of_words ws) (line_of_words vs); words = vs }) (words-join ws h)
    ∙ ap (λ t. record { number = n; plain = t; words = ws }) (bytes_eq-self (line_of_words ws))

-- ---- all of them
pub plain_lines_from : (n : ℕ) (lines : List (List (List ℕ))) → AreWords lines → map read_line (lines_from n (flat_map line_of_words lines)) ≡ plain_from n lines
plain_lines_from n [] h = refl
plain_lines_from n (ws ∷ lines) h = ap (map read_line) (lines_from-line n ws (flat_map line_of_words lines) h.0)
    ∙ ap (λ l. l ∷ map read_line (lines_from (n + 1) (flat_map line_of_words lines))) (read_plain n ws h.0)
    ∙ ap (λ t. record { number = n; plain = true; words = ws } ∷ t) (plain_lines_from (n + 1) lines h.1)

list_all-from : (p : ℕ → Bool) (xs : List ℕ) → AllByRecursion (λ b. p b ≡ true) xs → list_all p xs ≡ true
list_all-from p [] h = refl
list_all-from p (x ∷ xs) h = ap (λ t. t && list_all p xs) h.0 ∙ list_all-from p xs h.1

no_fault_in : (n : ℕ) (ws : List (List ℕ)) → AllByRecursion IsWord ws → length (join_with_byte 32 ws) ≤ longest_line → line_fault (plain_line n ws) ≡ None
no_fault_in n ws h k = let bytes : List ℕ = join_with_byte 32 ws in
    ap (λ t. cond (not t) (Some (NotAscii n)) (cond (nat_lt longest_line (length bytes)) (Some (LongLine n)) None)) (list_all-from is_allowed bytes (all_allowed ws h))
    ∙ ap (λ t. cond t (Some (LongLine n)) None) (le-ltb longest_line (length bytes) k)

pub no_fault_from : (n : ℕ) (lines : List (List (List ℕ))) → AreWords lines → AreShort lines → first_fault_of (lines_from n (flat_map line_of_words lines)) ≡ None
no_fault_from n [] h k = refl
no_fault_from n (ws ∷ lines) h k = ap first_fault_of (lines_from-line n ws (flat_map line_of_words lines) h.0)
    ∙ ap (λ o. option_or o (first_fault_of (lines_from (n + 1) (flat_map line_of_words lines)))) (no_fault_in n ws h.0 k.0)
    ∙ no_fault_from (n + 1) lines h.1 k.1
