-- Theorems about the definitions of lines and words.
use Rattle.std.specs.Prelude.{◌≡◌, ℕ, ◌+◌, ◌<◌, Bool, true, not, ◌&&◌, ◌==◌, nat_le, List, [], ◌∷◌, ◌++◌, length, map, ◌≤◌, None}
use Rattle.std.specs.List.{flat_map, join_with_byte, AllByRecursion, list_all}
use Rattle.nf_text_def.specs.Lines.{TextLine, lines}
use Rattle.nf_text_def.specs.Words.{ReadLine, read_lines, line_of_words}
use Rattle.nf_text_def.specs.Faults.{first_fault, longest_line}

-- a line with its ending
abbrev pub whole_line : TextLine → List ℕ
whole_line line = line.bytes ++ line.ending

-- the numbers of these lines, counted up from n
abbrev pub numbers_from : ℕ → List TextLine → List ℕ
numbers_from n [] = []
numbers_from n (line ∷ lines) = n ∷ numbers_from (n + 1) lines

pub record TextIsItsLines : Type 0 where
  pub whole : (text : List ℕ) → flat_map whole_line (lines text) ≡ text
  pub numbered : (text : List ℕ) → map (λ line. line.number) (lines text) ≡ numbers_from 1 (lines text)

-- printable ASCII, except the space and `#`
abbrev pub is_word_byte : ℕ → Bool
is_word_byte b = nat_le 33 b && (nat_le b 126 && not (b == 35))

abbrev pub IsWord : List ℕ → Type 0
IsWord word = (0 < length word) × (list_all is_word_byte word ≡ true)

-- the plain lines that have these words; the first line has this number
abbrev pub plain_from : ℕ → List (List (List ℕ)) → List ReadLine
plain_from n [] = []
plain_from n (words ∷ lines) = record { number = n; plain = true; words = words } ∷ plain_from (n + 1) lines

abbrev pub AreWords : List (List (List ℕ)) → Type 0
AreWords lines = AllByRecursion (AllByRecursion IsWord) lines

abbrev pub AreShort : List (List (List ℕ)) → Type 0
AreShort lines = AllByRecursion (λ words. length (join_with_byte 32 words) ≤ longest_line) lines

pub record PlainLinesReadBack : Type 0 where
  pub read : (lines : List (List (List ℕ))) → AreWords lines → read_lines (flat_map line_of_words lines) ≡ plain_from 1 lines
  pub no_fault : (lines : List (List (List ℕ))) → AreWords lines → AreShort lines → first_fault (flat_map line_of_words lines) ≡ None
