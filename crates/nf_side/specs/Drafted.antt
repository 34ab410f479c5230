-- The parser state that a text leads to.
use Rattle.std.specs.Prelude.{ℕ, List, Result, Ok}
use Rattle.nf_text_def.specs.Words.{read_lines, content_lines}
use Rattle.nf_text_def.specs.Faults.{first_fault}
use Rattle.nf_side_def.specs.Frame.{Broken, Frame, draft_of, by_bytes}

-- the same file, with the parser state as its result
abbrev pub open_frame : {Rule Draft Given : Type 0} → Frame Rule Draft Given → Frame Rule Draft Draft
open_frame frame = record {
  not_ascii = frame.not_ascii;
  long_line = frame.long_line;
  no_head = frame.no_head;
  keyword = frame.keyword;
  empty = frame.empty;
  add = frame.add;
  close = λ draft. Ok draft;
}

-- the parser state after the last line of a text, or the first rule that the text breaks
abbrev pub drafted_in : {Rule Draft : Type 0} → Frame Rule Draft Draft → List ℕ → Result Draft (Broken Rule)
drafted_in frame text = by_bytes frame (first_fault text) (draft_of frame (content_lines (read_lines text)))
