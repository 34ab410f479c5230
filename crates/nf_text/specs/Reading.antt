-- What is read of a text, line by line.
use Rattle.std.specs.Prelude.{◌≡◌, ℕ, ◌+◌, ◌-◌, ◌==◌, ◌&&◌, Bool, nat_lt, if◌then◌else◌, List, [], ◌∷◌, length, take, map, slice_index, All, ◌≤◌, Option, Some}
use Rattle.std.specs.List.{position_or_len, flat_map}
use Rattle.nf_text_def.specs.Lines.{TextLine}
use Rattle.nf_text_def.specs.Words.{ReadLine}
use Rattle.nf_text_def.specs.Faults.{LineFault, NotAscii, LongLine}
use Rattle.nf_text.specs.declared.Span.{Span}
use Rattle.nf_text.specs.declared.Line.{Line}
use Rattle.nf_text.specs.declared.TextFault.{TextFault}
use Rattle.nf_text.specs.Spans.{text_of}

-- a line with the bytes of its words
abbrev pub seen_line : List ℕ → Line → ReadLine
seen_line text line = record { number = line.number; plain = line.plain; words = map (text_of text) line.words.items }

abbrev pub spans_of : List Line → List Span
spans_of lines = flat_map (λ line. line.words.items) lines

-- each word of a line is in the text
abbrev pub WordsAreIn : List ℕ → Line → Type 0
WordsAreIn text line = All (λ span. span.start + span.len ≤ length text) line.words.items

-- the fault that is answered is the one that there is, unless an allocation failed
abbrev pub MatchesFault : TextFault → Option LineFault → Type 0
MatchesFault (TextFault.NotAscii line) fault = fault ≡ Some (NotAscii line)
MatchesFault (TextFault.LongLine line) fault = fault ≡ Some (LongLine line)
MatchesFault TextFault.Memory fault = Unit {0}

-- ---- the first line of a text that isn't empty
-- its bytes before the LF, or all
abbrev pub lf_place : List ℕ → ℕ
lf_place text = position_or_len (λ b. b == 10) text

abbrev pub has_lf : List ℕ → Bool
has_lf text = nat_lt (lf_place text) (length text)

abbrev pub ends_with_cr : List ℕ → Bool
ends_with_cr part = slice_index part (length part - 1) == 13

abbrev pub has_cr : List ℕ → Bool
has_cr text = has_lf text && ends_with_cr (take (lf_place text) text)

-- how many bytes it has, without its ending and with it
abbrev pub bytes_len : List ℕ → ℕ
bytes_len text = if has_cr text then lf_place text - 1 else lf_place text

abbrev pub whole_len : List ℕ → ℕ
whole_len text = if has_lf text then lf_place text + 1 else lf_place text

abbrev pub first_line : ℕ → List ℕ → TextLine
first_line number text = record {
  number = number;
  bytes = take (bytes_len text) text;
  ending = if has_lf text then (if ends_with_cr (take (lf_place text) text) then 13 ∷ 10 ∷ [] else 10 ∷ []) else [];
}
