-- The lines of a text.
use Rattle.std.specs.Prelude.{ℕ, ◌+◌, ◌-◌, ◌==◌, if◌then◌else◌, List, [], ◌∷◌, length, take, slice_index}
use Rattle.std.specs.List.{slice_split}

-- a line has a number, counted from 1, bytes, and an ending: LF, CR LF, or nothing at the end of the text
pub record TextLine : Type 0 where
  pub number : ℕ
  pub bytes : List ℕ
  pub ending : List ℕ

-- a line that ends at an LF; a CR right before that LF belongs to the ending
abbrev pub ended_line : ℕ → List ℕ → TextLine
ended_line number part = if slice_index part (length part - 1) == 13
    then record { number = number; bytes = take (length part - 1) part; ending = 13 ∷ 10 ∷ [] }
    else record { number = number; bytes = part; ending = 10 ∷ [] }

-- makes lines of the parts between LFs; the part after the last LF is a line only if it has bytes
abbrev pub lines_of_parts : ℕ → List (List ℕ) → List TextLine
lines_of_parts number [] = []
lines_of_parts number (last ∷ []) = if length last == 0 then [] else record { number = number; bytes = last; ending = [] } ∷ []
lines_of_parts number (part ∷ next ∷ parts) = ended_line number part ∷ lines_of_parts (number + 1) (next ∷ parts)

-- lists the lines of a text; the first has this number
abbrev pub lines_from : ℕ → List ℕ → List TextLine
lines_from number text = lines_of_parts number (slice_split (λ b. b == 10) text)

abbrev pub lines : List ℕ → List TextLine
lines text = lines_from 1 text
