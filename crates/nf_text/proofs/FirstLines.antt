-- The lines of a text from a place on.
use Rattle.std.proofs.Common.{◌≡◌, ℕ, ◌+◌, ◌<◌, List, ◌∷◌, length, drop, arith, ◌∙◌, ap, length-drop}
use Rattle.nf_text.proofs.Common.{drop-drop, lines_from, whole_len, first_line}
use Rattle.nf_text.proofs.Extents.{lines_from-first}

pub lines_first : (n : ℕ) (text : List ℕ) (start : ℕ) → start < length text
    → lines_from n (drop start text) ≡ first_line n (drop start text) ∷ lines_from (n + 1) (drop (start + whole_len (drop start text)) text)
lines_first n text start h =
    let some : 0 < length (drop start text) = omega (arith, length-drop start text, h) in
    lines_from-first n (drop start text) some
    ∙ ap (λ (t : List ℕ). first_line n (drop start text) ∷ lines_from (n + 1) t) (drop-drop (whole_len (drop start text)) start text)
