-- A place in a text.
use Rattle.std.specs.Prelude.{ℕ, ◌+◌, ◌≤◌, List, length, refl}
use Rattle.std.specs.Coded.{Coded, code_by, coded×, coded_ℕ, coded_list}
use Rattle.nf_text_def.specs.Lines.{TextLine}
use Rattle.nf_text_def.specs.Faults.{longest_text}

-- a line of this number begins at this place of a text
pub record IsLineStart (text : List ℕ) (start line_number : ℕ) : Type 0 where
  pub within : start ≤ length text
  pub small : length text ≤ longest_text
  pub number : line_number ≤ start + 1

-- ---- how contracts tell them apart
abbrev pub coded_text_line : Coded TextLine
coded_text_line = code_by (ℕ × (List ℕ × List ℕ)) (coded× coded_ℕ (coded× (coded_list coded_ℕ) (coded_list coded_ℕ)))
    (λ l. (l.number, (l.bytes, l.ending))) (λ p. record { number = p.0; bytes = p.1.0; ending = p.1.1 }) (λ _. refl)
