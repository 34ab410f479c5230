-- Faults of lines, and limits of texts.
use Rattle.std.specs.Prelude.{ℕ, Bool, not, ◌&&◌, ◌||◌, ◌==◌, nat_lt, nat_le, if◌then◌else◌, List, [], ◌∷◌, length, Option, Some, None}
use Rattle.std.specs.List.{list_all}
use Rattle.std.specs.Option.{option_or}
use Rattle.nf_text_def.specs.Lines.{TextLine, lines}

-- a line that breaks a rule, by line number
pub data LineFault : Type 0 where
  NotAscii : ℕ → LineFault
  LongLine : ℕ → LineFault

-- a tab, or printable ASCII
abbrev pub is_allowed : ℕ → Bool
is_allowed b = b == 9 || (nat_le 32 b && nat_le b 126)

-- a line has at most this number of bytes, without its ending
abbrev pub longest_line : ℕ
longest_line = 1000

-- the greatest number of bytes of a text
abbrev pub longest_text : ℕ
longest_text = 67108864

-- returns `NotAscii` if the line has a byte that is not allowed, or else `LongLine` if it is too long
abbrev pub fault_of : ℕ → List ℕ → Option LineFault
fault_of number bytes =
    if not (list_all is_allowed bytes) then Some (NotAscii number) else
    (if nat_lt longest_line (length bytes) then Some (LongLine number) else None)

abbrev pub line_fault : TextLine → Option LineFault
line_fault line = fault_of line.number line.bytes

-- returns the fault of the first line that has one
abbrev pub first_fault_of : List TextLine → Option LineFault
first_fault_of [] = None
first_fault_of (line ∷ lines) = option_or (line_fault line) (first_fault_of lines)

abbrev pub first_fault : List ℕ → Option LineFault
first_fault text = first_fault_of (lines text)
