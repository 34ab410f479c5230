-- The next line of a text from a place on.
use Rattle.std.proofs.Common.{◌≡◌, ℕ, ◌+◌, ◌<◌, List, ◌∷◌, length, drop, map, Option, None, ◌∙◌, sym, ap, subst}
use Rattle.nf_text.proofs.Common.{option_or, TextLine, lines_from, ReadLine, read_line, LineFault, line_fault, first_fault_of, TextFault, whole_len}
use Rattle.nf_text.proofs.Common.{first_line, MatchesFault}
use Rattle.nf_text.proofs.FirstLines.{lines_first}
use Rattle.nf_text.proofs.LineSteps.{tells_or}

-- what is left of the text from a place on
module _ (text : List ℕ) (start n : ℕ) (within : start < length text) (left : List TextLine) (seen : lines_from n (drop start text) ≡ left) where
  abbrev first : TextLine
  first = first_line n (drop start text)

  these_lines : left ≡ first ∷ lines_from (n + 1) (drop (start + whole_len (drop start text)) text)
  these_lines = sym seen ∙ lines_first n text start within

  left_faults : first_fault_of left ≡ option_or (line_fault first) (first_fault_of (lines_from (n + 1) (drop (start + whole_len (drop start text)) text)))
  left_faults = ap first_fault_of these_lines

  pub next_faulty : (fault : TextFault) → MatchesFault fault (line_fault first) → MatchesFault fault (first_fault_of left)
  next_faulty fault h =
      subst (MatchesFault fault) (sym left_faults) (tells_or fault (line_fault first) (first_fault_of (lines_from (n + 1) (drop (start + whole_len (drop start text)) text))) h)

  module _ (next : ℕ) (is : next ≡ start + whole_len (drop start text)) where
    pub next_read : (line : ReadLine) → line ≡ read_line first → map read_line left ≡ line ∷ map read_line (lines_from (n + 1) (drop next text))
    next_read line e =
        ap (map read_line) these_lines ∙ ap (λ (l : ReadLine). l ∷ map read_line (lines_from (n + 1) (drop (start + whole_len (drop start text)) text))) (sym e)
        ∙ ap (λ (k : ℕ). line ∷ map read_line (lines_from (n + 1) (drop k text))) (sym is)

    pub next_fine : line_fault first ≡ None → first_fault_of left ≡ first_fault_of (lines_from (n + 1) (drop next text))
    next_fine e =
        left_faults ∙ ap (λ (o : Option LineFault). option_or o (first_fault_of (lines_from (n + 1) (drop (start + whole_len (drop start text)) text)))) e
        ∙ ap (λ (k : ℕ). first_fault_of (lines_from (n + 1) (drop k text))) (sym is)
