-- The lines of a text that have words.
use Rattle.std.proofs.Common.{◌≡◌, ℕ, ◌+◌, Bool, true, false, not, cond, ◌==◌, List, ◌∷◌, length, map, refl, sym, ap, ◌∙◌, arith}
use Rattle.std.specs.Prelude.{count_by}
use Rattle.std.proofs.lemmas.List.{length-map}
use Rattle.std.proofs.lemmas.List.Recursion.{is_count_by}
use Rattle.nf_text_def.specs.Words.{ReadLine, content_lines}
use Rattle.nf_text.specs.declared.Line.{Line}
use Rattle.nf_text.specs.Reading.{seen_line}
use Rattle.nf_text.specs.Spans.{text_of}

one_more : (b : Bool) (line : ReadLine) (lines : List ReadLine) → length (cond b (line ∷ lines) lines) ≡ cond b (1 + length lines) (length lines)
one_more true line lines = omega arith
one_more false line lines = refl

same_flag : (text : List ℕ) (line : Line) → not (length (seen_line text line).words == 0) ≡ not (length line.words.items == 0)
same_flag text line = ap (λ (n : ℕ). not (n == 0)) (length-map line.words.items (text_of text))

next : (text : List ℕ) (line : Line) (lines : List Line)
    → length (content_lines (map (seen_line text) (line ∷ lines)))
    ≡ cond (not (length line.words.items == 0)) (1 + length (content_lines (map (seen_line text) lines))) (length (content_lines (map (seen_line text) lines)))
next text line lines =
    let rest : List ReadLine = content_lines (map (seen_line text) lines) in
    one_more (not (length (seen_line text line).words == 0)) (seen_line text line) rest
    ∙ ap (λ (b : Bool). cond b (1 + length rest) (length rest)) (same_flag text line)

pub contents_counted : (text : List ℕ) (read : List Line) (seen : List ReadLine) → map (seen_line text) read ≡ seen
    → count_by (λ (line : Line). not (length line.words.items == 0)) read ≡ length (content_lines seen)
contents_counted text read seen e =
    sym (is_count_by (λ (lines : List Line). length (content_lines (map (seen_line text) lines))) (λ (line : Line). not (length line.words.items == 0)) refl (next text) read)
    ∙ ap (λ (lines : List ReadLine). length (content_lines lines)) e
