-- A text is its lines, each with its ending.
use Rattle.std.proofs.Common.{◌≡◌, ℕ, ◌+◌, ◌-◌, ◌==◌, Bool, true, false, List, [], ◌∷◌, ◌++◌, length, take, map, slice_index, refl, arith, suc, ◌∙◌, sym}
use Rattle.std.proofs.Common.{ap, cond, get_or, append_assoc, append-nil, take_all, true≢false}
use Rattle.nf_net_laws.proofs.Common.{flat_map, slice_split, join_with_byte, eqb-true, ne_eqb, whole_line, numbers_from, join_with_byte-slice_split}
use Rattle.nf_net_laws.proofs.Common.{TextLine, lines, lines_of_parts, ended_line}
use Rattle.std.proofs.lemmas.List.{take_more}

-- ---- one line
abbrev ends_with_cr : List ℕ → Bool
ends_with_cr part = slice_index part (length part - 1) == 13

abbrev line_if : ℕ → List ℕ → Bool → TextLine
line_if n part cr = cond cr (record { number = n; bytes = take (length part - 1) part; ending = 13 ∷ 10 ∷ [] }) (record { number = n; bytes = part; ending = 10 ∷ [] })

cr_is_last : (part : List ℕ) → ends_with_cr part ≡ true → take (length part - 1) part ++ 13 ∷ [] ≡ part
cr_is_last [] e = absurd (true≢false (sym e))
cr_is_last (b ∷ part) e =
    let bytes : List ℕ = b ∷ part in
    let last : ℕ = length bytes - 1 in
    let cr : get_or bytes last 0 ≡ 13 = eqb-true (get_or bytes last 0) 13 e in
    ap (λ c. take last bytes ++ c ∷ []) (sym cr) ∙ sym (take_more bytes last 0 (omega arith)) ∙ take_all (last + 1) bytes (omega arith)

whole_if : (n : ℕ) (part : List ℕ) (cr : Bool) → ends_with_cr part ≡ cr → whole_line (line_if n part cr) ≡ part ++ 10 ∷ []
whole_if n part true e = sym (append_assoc (take (length part - 1) part) (13 ∷ []) (10 ∷ [])) ∙ ap (λ t. t ++ 10 ∷ []) (cr_is_last part e)
whole_if n part false e = refl

whole_line-ended_line : (n : ℕ) (part : List ℕ) → whole_line (ended_line n part) ≡ part ++ 10 ∷ []
whole_line-ended_line n part = whole_if n part (ends_with_cr part) refl

-- ---- all of them
last_whole : (n : ℕ) (last : List ℕ) → flat_map whole_line (lines_of_parts n (last ∷ [])) ≡ last
last_whole n [] = refl
last_whole n (b ∷ last) = at (length (b ∷ last) == 0) (ne_eqb (suc (length last)) 0 (omega arith))
  where
    at : (t : Bool) → t ≡ false → flat_map whole_line (cond t [] (record { number = n; bytes = b ∷ last; ending = [] } ∷ [])) ≡ b ∷ last
    at t e = ap (λ t. flat_map whole_line (cond t [] (record { number = n; bytes = b ∷ last; ending = [] } ∷ []))) e
        ∙ append-nil ((b ∷ last) ++ []) ∙ append-nil (b ∷ last)

parts_whole : (n : ℕ) (parts : List (List ℕ)) → flat_map whole_line (lines_of_parts n parts) ≡ join_with_byte 10 parts
parts_whole n [] = refl
parts_whole n (last ∷ []) = last_whole n last
parts_whole n (part ∷ next ∷ parts) = ap (λ t. t ++ flat_map whole_line (lines_of_parts (n + 1) (next ∷ parts))) (whole_line-ended_line n part)
    ∙ ap (λ t. (part ++ 10 ∷ []) ++ t) (parts_whole (n + 1) (next ∷ parts))
    ∙ append_assoc part (10 ∷ []) (join_with_byte 10 (next ∷ parts))

pub text_whole : (text : List ℕ) → flat_map whole_line (lines text) ≡ text
text_whole text = parts_whole 1 (slice_split (λ b. b == 10) text) ∙ join_with_byte-slice_split 10 text

-- ---- numbers
number_if : (n : ℕ) (part : List ℕ) (cr : Bool) → (line_if n part cr).number ≡ n
number_if n part true = refl
number_if n part false = refl

last_numbered : (n : ℕ) (last : List ℕ) (t : Bool) → let line : TextLine = record { number = n; bytes = last; ending = [] } in
    map (λ line. line.number) (cond t [] (line ∷ [])) ≡ numbers_from n (cond t [] (line ∷ []))
last_numbered n last true = refl
last_numbered n last false = refl

pub parts_numbered : (n : ℕ) (parts : List (List ℕ)) → map (λ line. line.number) (lines_of_parts n parts) ≡ numbers_from n (lines_of_parts n parts)
parts_numbered n [] = refl
parts_numbered n (last ∷ []) = last_numbered n last (length last == 0)
parts_numbered n (part ∷ next ∷ parts) = ap (λ k. k ∷ map (λ line. line.number) (lines_of_parts (n + 1) (next ∷ parts))) (number_if n part (ends_with_cr part))
    ∙ ap (λ t. n ∷ t) (parts_numbered (n + 1) (next ∷ parts))
