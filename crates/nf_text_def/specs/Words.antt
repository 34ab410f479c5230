-- The words of a line.
use Rattle.std.specs.Prelude.{ℕ, Bool, not, ◌||◌, ◌==◌, List, [], ◌∷◌, ◌++◌, length, filter, map}
use Rattle.std.specs.List.{before_first, slice_split, join_with_byte}
use Rattle.std.specs.Str.{bytes_eq}
use Rattle.nf_text_def.specs.Lines.{TextLine, lines}

-- a space or a tab
abbrev pub is_blank : ℕ → Bool
is_blank b = b == 32 || b == 9

-- removes the comment: `#` and the bytes after it
abbrev pub without_comment : List ℕ → List ℕ
without_comment bytes = before_first (λ b. b == 35) bytes

-- removes the empty parts
abbrev pub parts_with_bytes : List (List ℕ) → List (List ℕ)
parts_with_bytes parts = filter (λ part. not (length part == 0)) parts

abbrev pub words : List ℕ → List (List ℕ)
words bytes = parts_with_bytes (slice_split is_blank (without_comment bytes))

-- joins the words by single spaces and appends LF
abbrev pub line_of_words : List (List ℕ) → List ℕ
line_of_words words = join_with_byte 32 words ++ 10 ∷ []

-- a line is plain if it is equal to the line of its words: it has no comment and no superfluous blanks, and ends with LF alone
abbrev pub is_plain : TextLine → Bool
is_plain line = bytes_eq (line.bytes ++ line.ending) (line_of_words (words line.bytes))

-- ---- the view of a text that the format readers use
pub record ReadLine : Type 0 where
  pub number : ℕ
  pub plain : Bool
  pub words : List (List ℕ)

abbrev pub read_line : TextLine → ReadLine
read_line line = record { number = line.number; plain = is_plain line; words = words line.bytes }

abbrev pub read_lines : List ℕ → List ReadLine
read_lines text = map read_line (lines text)

-- lists the lines that have at least one word
abbrev pub content_lines : List ReadLine → List ReadLine
content_lines lines = filter (λ line. not (length line.words == 0)) lines
