-- The steps of the loop over the lines.
use Rattle.std.proofs.Common.{◌≡◌, ℕ, ◌+◌, ◌<◌, ◌≤◌, List, [], ◌∷◌, ◌++◌, length, drop, map, All, Option, None, refl, arith, ◌∙◌, sym, ap, length-drop}
use Rattle.std.proofs.Common.{append_assoc, append-nil}
use Rattle.nf_text.proofs.Common.{option_or, map-append, drop-drop, All-from_recursion, lines_from, ReadLine, read_line, LineFault, line_fault}
use Rattle.nf_text.proofs.Common.{first_fault_of, TextFault, Rise, seen_line, spans_of, WordsAreIn, MatchesFault, whole_len, first_line}
use Rattle.std.specs.List.{AllByRecursion as ByRecursion}
use Rattle.std.proofs.lemmas.Grind.{flat_map-append}
use Rattle.nf_text.specs.declared.Line.{Line}
use Rattle.nf_text.proofs.Extents.{lines_from-first}
use Rattle.nf_text.proofs.Parts.{Rise-append, Rise_within, Rise_front, Rise_back}

-- the lines from a place on: the one there, and those from the next place on
lines_left : (text : List ℕ) (n start next : ℕ) → start < length text → next ≡ start + whole_len (drop start text)
    → lines_from n (drop start text) ≡ first_line n (drop start text) ∷ lines_from (n + 1) (drop next text)
lines_left text n start next h e = let some : 0 < length (drop start text) = omega (arith, length-drop start text, h) in
    lines_from-first n (drop start text) some
    ∙ ap (λ t. first_line n (drop start text) ∷ lines_from (n + 1) t) (drop-drop (whole_len (drop start text)) start text ∙ ap (λ k. drop k text) (sym e))

pub step_read : (text : List ℕ) (lines : List Line) (line : Line) (total : List ReadLine) (before n after start next : ℕ)
    → start < length text → before ≡ n → after ≡ n + 1 → next ≡ start + whole_len (drop start text)
    → seen_line text line ≡ read_line (first_line n (drop start text))
    → total ≡ map (seen_line text) lines ++ map read_line (lines_from before (drop start text))
    → total ≡ map (seen_line text) (lines ++ line ∷ []) ++ map read_line (lines_from after (drop next text))
step_read text lines line total before n after start next h b a e seen r =
    r ∙ ap (λ n. map (seen_line text) lines ++ map read_line (lines_from n (drop start text))) b
    ∙ ap (λ left. map (seen_line text) lines ++ map read_line left) (lines_left text n start next h e)
    ∙ ap (λ l. map (seen_line text) lines ++ (l ∷ map read_line (lines_from (n + 1) (drop next text)))) (sym seen)
    ∙ sym (append_assoc (map (seen_line text) lines) (seen_line text line ∷ []) (map read_line (lines_from (n + 1) (drop next text))))
    ∙ ap (λ t. t ++ map read_line (lines_from (n + 1) (drop next text))) (sym (map-append (seen_line text) lines (line ∷ [])))
    ∙ ap (λ n. map (seen_line text) (lines ++ line ∷ []) ++ map read_line (lines_from n (drop next text))) (sym a)

pub step_fault : (text : List ℕ) (first : Option LineFault) (before n after start next : ℕ)
    → start < length text → before ≡ n → after ≡ n + 1 → next ≡ start + whole_len (drop start text)
    → line_fault (first_line n (drop start text)) ≡ None
    → first ≡ first_fault_of (lines_from before (drop start text)) → first ≡ first_fault_of (lines_from after (drop next text))
step_fault text first before n after start next h b a e none f =
    f ∙ ap (λ n. first_fault_of (lines_from n (drop start text))) b ∙ ap first_fault_of (lines_left text n start next h e)
    ∙ ap (λ o. option_or o (first_fault_of (lines_from (n + 1) (drop next text)))) none
    ∙ ap (λ n. first_fault_of (lines_from n (drop next text))) (sym a)

pub tells_or : (fault : TextFault) (o p : Option LineFault) → MatchesFault fault o → MatchesFault fault (option_or o p)
tells_or (TextFault.NotAscii line) o p h = ap (λ o. option_or o p) h
tells_or (TextFault.LongLine line) o p h = ap (λ o. option_or o p) h
tells_or TextFault.Memory o p h = tt

tells_same : (fault : TextFault) (o p : Option LineFault) → p ≡ o → MatchesFault fault o → MatchesFault fault p
tells_same (TextFault.NotAscii line) o p e h = e ∙ h
tells_same (TextFault.LongLine line) o p e h = e ∙ h
tells_same TextFault.Memory o p e h = tt

pub stops_at_fault : (text : List ℕ) (first : Option LineFault) (fault : TextFault) (before n start : ℕ)
    → start < length text → before ≡ n → MatchesFault fault (line_fault (first_line n (drop start text)))
    → first ≡ first_fault_of (lines_from before (drop start text)) → MatchesFault fault first
stops_at_fault text first fault before n start h b t f =
    let next : ℕ = start + whole_len (drop start text) in
    let left : first ≡ option_or (line_fault (first_line n (drop start text))) (first_fault_of (lines_from (n + 1) (drop next text))) =
    f ∙ ap (λ n. first_fault_of (lines_from n (drop start text))) b ∙ ap first_fault_of (lines_left text n start next h refl) in
    tells_same fault (option_or (line_fault (first_line n (drop start text))) (first_fault_of (lines_from (n + 1) (drop next text)))) first left
    (tells_or fault (line_fault (first_line n (drop start text))) (first_fault_of (lines_from (n + 1) (drop next text))) t)

pub step_rise : (lines : List Line) (line : Line) (start next : ℕ) → start ≤ next → Rise 0 start (spans_of lines) → Rise start next line.words.items
    → Rise 0 next (spans_of (lines ++ line ∷ []))
step_rise lines line start next h r t =
    let both : spans_of (lines ++ line ∷ []) ≡ spans_of lines ++ line.words.items = flat_map-append (λ line. line.words.items) lines (line ∷ [])
    ∙ ap (λ t. spans_of lines ++ t) (append-nil line.words.items) in
    rw both (Rise-append 0 start next (spans_of lines) line.words.items (omega arith) h r t)

-- each word of each line is in the text
pub words_are_in : (text : List ℕ) (last : ℕ) (lines : List Line) → last ≤ length text → Rise 0 last (spans_of lines) → All (WordsAreIn text) lines
words_are_in text last lines h r = All-from_recursion (WordsAreIn text) lines (each 0 lines r)
  where
    each : (first : ℕ) (lines : List Line) → Rise first last (spans_of lines) → ByRecursion (WordsAreIn text) lines
    each first [] r = tt
    each first (line ∷ lines) r = let back : (middle : ℕ) × Rise middle last (spans_of lines) = Rise_back first last line.words.items (spans_of lines) r in
        (Rise_within first last (length text) line.words.items h (Rise_front first last line.words.items (spans_of lines) r), each back.0 lines back.1)
