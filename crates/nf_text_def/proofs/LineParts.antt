-- The lines of a text's parts, one part at a time.
use Rattle.std.proofs.Common.{◌≡◌, ℕ, ◌+◌, ◌<◌, List, [], ◌∷◌, length, refl, arith}
use Rattle.nf_text_def.specs.Lines.{lines_of_parts, ended_line}

pub lines_of_parts-more : (n : ℕ) (part : List ℕ) (parts : List (List ℕ)) → 0 < length parts → lines_of_parts n (part ∷ parts) ≡ ended_line n part ∷ lines_of_parts (n + 1) parts
lines_of_parts-more n part [] h = absurd (omega (arith, h))
lines_of_parts-more n part (next ∷ parts) h = refl
