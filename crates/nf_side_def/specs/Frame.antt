-- A side file as a whole. Its reading tests the rules of bytes, then the first line, then each other line, then the whole file.
use Rattle.std.specs.Prelude.{ℕ, if◌then◌else◌, List, [], ◌∷◌, Option, Some, None, Result, Ok, Err}
use Rattle.nf_frac_def.specs.Checked.{◌>>=◌}
use Rattle.nf_text_def.specs.Words.{ReadLine, read_lines, content_lines}
use Rattle.nf_text_def.specs.Faults.{LineFault, NotAscii, LongLine, first_fault}
use Rattle.nf_side_def.specs.Lines.{is_head}

-- a broken rule and its line; 0 means the whole file
pub record Broken (Rule : Type 0) : Type 0 where
  pub rule : Rule
  pub line : ℕ

-- A frame distinguishes one kind of file. Its fields are the rules of bytes and of the first line, the keyword of that line, and the
-- empty parser state. `add` adds a line to the state, and `close` gives the result of the whole file.
pub record Frame (Rule Draft Given : Type 0) : Type 0 where
  pub not_ascii : Rule
  pub long_line : Rule
  pub no_head : Rule
  pub keyword : List ℕ
  pub empty : Draft
  pub add : Draft → List (List ℕ) → Result Draft Rule
  pub close : Draft → Result Given (Broken Rule)

-- ---- lines in order
abbrev pub in_line : {Draft Rule : Type 0} → ℕ → Result Draft Rule → Result Draft (Broken Rule)
in_line number (Ok draft) = Ok draft
in_line number (Err rule) = Err (record { rule = rule; line = number })

abbrev pub add_lines : {Draft Rule : Type 0} → (Draft → List (List ℕ) → Result Draft Rule) → Draft → List ReadLine
    → Result Draft (Broken Rule)
add_lines add draft [] = Ok draft
add_lines add draft (line ∷ rest) = do
  next ← in_line line.number (add draft line.words)
  add_lines add next rest

-- ---- the whole file
module _ {Rule Draft Given : Type 0} (frame : Frame Rule Draft Given) where
  abbrev pub draft_of : List ReadLine → Result Draft (Broken Rule)
  draft_of [] = Err (record { rule = frame.no_head; line = 1 })
  draft_of (line ∷ rest) = if is_head frame.keyword line.words then add_lines frame.add frame.empty rest
      else Err (record { rule = frame.no_head; line = line.number })

  abbrev pub broken_bytes : LineFault → Broken Rule
  broken_bytes (NotAscii line) = record { rule = frame.not_ascii; line = line }
  broken_bytes (LongLine line) = record { rule = frame.long_line; line = line }

  abbrev pub by_bytes : Option LineFault → Result Given (Broken Rule) → Result Given (Broken Rule)
  by_bytes (Some fault) read = Err (broken_bytes fault)
  by_bytes None read = read

  abbrev pub file_in : List ℕ → Result Given (Broken Rule)
  file_in text = by_bytes (first_fault text) (draft_of (content_lines (read_lines text)) >>= frame.close)
