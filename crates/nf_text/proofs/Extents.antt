-- The first line of a text.
use Rattle.std.proofs.Common.{◌≡◌, ℕ, ◌+◌, ◌-◌, ◌<◌, ◌≤◌, ◌==◌, Bool, true, false, ◌&&◌, List, [], ◌∷◌, ◌++◌, length, take, drop, All, refl, arith, suc}
use Rattle.std.proofs.Common.{◌∙◌, sym, ap, cond, get_or, length-drop, length-take, take-take, take_all, append_assoc, append-nil, true≢false, zero}
use Rattle.std.proofs.Common.{add-one}
use Rattle.nf_text.proofs.Common.{slice_split, before_first, after_first, drop_all, take_rest, take_more, get_or-take, slice_split_first, slice_split_none}
use Rattle.nf_text.proofs.Common.{length-slice_split, fails_before_first, passes_at_first, lt-ltb, le-ltb, ltb-true, eqb-true, ne_eqb, TextLine, lines_from}
use Rattle.nf_text.proofs.Common.{lines_of_parts, ended_line, lf_place, has_lf, ends_with_cr, bytes_len, whole_len, first_line}
use native.Mathlib.Decide.{dec_lt}
use Rattle.nf_text_def.proofs.LineParts.{lines_of_parts-more}
use Rattle.nf_text.proofs.Positions.{position_or_len_within}

abbrev is_lf : ℕ → Bool
is_lf b = b == 10

lf_place-le : (text : List ℕ) → lf_place text ≤ length text
lf_place-le text = position_or_len_within is_lf text

some_part : (text : List ℕ) → 0 < length (slice_split is_lf text)
some_part text = omega (arith, length-slice_split is_lf text)

lines_of_parts-last : (n : ℕ) (last : List ℕ) → 0 < length last → lines_of_parts n (last ∷ []) ≡ record { number = n; bytes = last; ending = [] } ∷ []
lines_of_parts-last n [] h = absurd (omega (arith, h))
lines_of_parts-last n (b ∷ last) h = at (length (b ∷ last) == 0) (ne_eqb (suc (length last)) 0 (omega arith))
  where
    line : TextLine
    line = record { number = n; bytes = b ∷ last; ending = [] }

    at : (t : Bool) → t ≡ false → cond t [] (line ∷ []) ≡ line ∷ []
    at t e = ap (λ t. cond t [] (line ∷ [])) e

-- ---- by the two tests: whether there is an LF, and whether a CR stands before it
abbrev line_by : ℕ → List ℕ → ℕ → Bool → Bool → TextLine
line_by n text place lf cr = record {
  number = n;
  bytes = take (cond (lf && cr) (place - 1) place) text;
  ending = cond lf (cond cr (13 ∷ 10 ∷ []) (10 ∷ [])) [];
}

length-front : (text : List ℕ) (place : ℕ) → place ≤ length text → length (take place text) ≡ place
length-front text place h = omega (arith, length-take place text, h)

ended_by : (n : ℕ) (text : List ℕ) (place : ℕ) → place ≤ length text → ended_line n (take place text) ≡ line_by n text place true (ends_with_cr (take place text))
ended_by n text place h = at (ends_with_cr (take place text))
  where
    part : List ℕ
    part = take place text

    bytes : take (length part - 1) part ≡ take (place - 1) text
    bytes = ap (λ k. take (k - 1) (take place text)) (length-front text place h) ∙ take-take (place - 1) place text (omega arith)

    at : (cr : Bool) → cond cr (record { number = n; bytes = take (length part - 1) part; ending = 13 ∷ 10 ∷ [] })
        (record { number = n; bytes = part; ending = 10 ∷ [] }) ≡ line_by n text place true cr
    at true = ap (λ bytes. record { number = n; bytes = bytes; ending = 13 ∷ 10 ∷ [] }) bytes
    at false = refl

no_lf_before : (text : List ℕ) → length text ≤ lf_place text → All (λ b. is_lf b ≡ false) text
no_lf_before text h k d l = fails_before_first is_lf text k d (omega (arith, h, l))

pub lines_from-first : (n : ℕ) (text : List ℕ) → 0 < length text → lines_from n text ≡ first_line n text ∷ lines_from (n + 1) (drop (whole_len text) text)
lines_from-first n text some = by (dec_lt (lf_place text) (length text))
  where
    place : ℕ
    place = lf_place text

    cr : Bool
    cr = ends_with_cr (take place text)

    by : Dec (lf_place text < length text) → lines_from n text ≡ first_line n text ∷ lines_from (n + 1) (drop (whole_len text) text)
    by (yes h) = let lf : has_lf text ≡ true = lt-ltb (lf_place text) (length text) h in
        ap (lines_of_parts n) (slice_split_first is_lf text 0 h)
        ∙ lines_of_parts-more n (before_first is_lf text) (slice_split is_lf (after_first is_lf text)) (some_part (after_first is_lf text))
        ∙ ap (λ line. line ∷ lines_from (n + 1) (drop (place + 1) text)) (ended_by n text place (lf_place-le text))
        ∙ ap (λ b. line_by n text place b cr ∷ lines_from (n + 1) (drop (cond b (place + 1) place) text)) (sym lf)
    by (no h) = let lf : has_lf text ≡ false = le-ltb (lf_place text) (length text) (omega (arith, h)) in
        let all : take place text ≡ text = take_all place text (omega (arith, h)) in
        let rest : drop place text ≡ [] = drop_all place text (omega (arith, h)) in
        ap (lines_of_parts n) (slice_split_none is_lf text (no_lf_before text (omega (arith, h))))
        ∙ lines_of_parts-last n text some
        ∙ ap (λ bytes. record { number = n; bytes = bytes; ending = [] } ∷ []) (sym all)
        ∙ ap (λ t. line_by n text place false cr ∷ lines_from (n + 1) t) (sym rest)
        ∙ ap (λ b. line_by n text place b cr ∷ lines_from (n + 1) (drop (cond b (place + 1) place) text)) (sym lf)

-- ---- a line with its ending
lf_follows : (text : List ℕ) → lf_place text < length text → take (lf_place text + 1) text ≡ take (lf_place text) text ++ 10 ∷ []
lf_follows text h = let lf : get_or text (lf_place text) 0 ≡ 10 = eqb-true (get_or text (lf_place text) 0) 10 (passes_at_first is_lf text 0 h) in
    take_more text (lf_place text) 0 h ∙ ap (λ b. take (lf_place text) text ++ b ∷ []) lf

cr_is_last : (text : List ℕ) (place : ℕ) → place ≤ length text → ends_with_cr (take place text) ≡ true → take (place - 1) text ++ 13 ∷ [] ≡ take place text
cr_is_last text zero h e = absurd (true≢false (sym e))
cr_is_last text (suc k) h e =
    let place : k ≡ length (take (suc k) text) - 1 = omega (arith, length-front text (suc k) h) in
    let cr : get_or text k 0 ≡ 13 = sym (get_or-take (suc k) text k 0 (omega arith)) ∙ ap (λ i. get_or (take (suc k) text) i 0) place
    ∙ eqb-true (get_or (take (suc k) text) (length (take (suc k) text) - 1) 0) 13 e in
    let before : suc k - 1 ≡ k = omega arith in
    ap (λ i. take i text ++ 13 ∷ []) before ∙ ap (λ b. take k text ++ b ∷ []) (sym cr) ∙ sym (take_more text k 0 (omega (arith, h))) ∙ ap (λ i. take i text) (add-one k)

whole_by : (n : ℕ) (text : List ℕ) (lf cr : Bool) → has_lf text ≡ lf → ends_with_cr (take (lf_place text) text) ≡ cr
    → (line_by n text (lf_place text) lf cr).bytes ++ (line_by n text (lf_place text) lf cr).ending ≡ take (cond lf (lf_place text + 1) (lf_place text)) text
whole_by n text true true lf cr = let h : lf_place text < length text = ltb-true (lf_place text) (length text) lf in
    sym (append_assoc (take (lf_place text - 1) text) (13 ∷ []) (10 ∷ []))
    ∙ ap (λ t. t ++ 10 ∷ []) (cr_is_last text (lf_place text) (lf_place-le text) cr) ∙ sym (lf_follows text h)
whole_by n text true false lf cr = sym (lf_follows text (ltb-true (lf_place text) (length text) lf))
whole_by n text false cr lf e = append-nil (take (lf_place text) text)

pub whole_bytes : (n : ℕ) (text : List ℕ) → (first_line n text).bytes ++ (first_line n text).ending ≡ take (whole_len text) text
whole_bytes n text = whole_by n text (has_lf text) (ends_with_cr (take (lf_place text) text)) refl refl

-- ---- the next line's place
module _ (text : List ℕ) (start : ℕ) (h : start < length text) where
  pub next_after : (whole : ℕ) → (0 < length (take (length text - start) (drop start text)) → 0 < whole) → start < start + whole
  next_after whole some =
      let rest : length (take (length text - start) (drop start text)) ≡ length (drop start text) = ap length (take_rest text start) in
      let more : 0 < whole = some (omega (arith, rest, length-drop start text, h)) in omega arith

  pub next_within : (whole : ℕ) → whole ≤ length (take (length text - start) (drop start text)) → start + whole ≤ length text
  next_within whole within =
      let rest : length (take (length text - start) (drop start text)) ≡ length (drop start text) = ap length (take_rest text start) in omega (arith, rest, length-drop start text, h)

-- the bytes that are cut out of a text as its first line from a place on
pub line_bytes : (text : List ℕ) (start bytes : ℕ) → bytes ≡ bytes_len (take (length text - start) (drop start text))
    → take (start + bytes - start) (drop start text) ≡ take (bytes_len (drop start text)) (drop start text)
line_bytes text start bytes e =
    let some : start + bytes - start ≡ bytes = omega arith in
    ap (λ n. take n (drop start text)) (some ∙ e ∙ ap bytes_len (take_rest text start))
