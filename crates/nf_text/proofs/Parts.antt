-- The words between two places of a text, one after the other.
use Rattle.std.proofs.Common.{◌≡◌, ℕ, ◌+◌, ◌-◌, ◌<◌, ◌≤◌, min, Bool, true, false, not, ◌==◌, List, [], ◌∷◌, ◌++◌, length, take, drop, map, All, refl, arith}
use Rattle.std.proofs.Common.{suc, ◌∙◌, sym, ap, cond, length-take, length-drop, take-take, take_all, append_assoc, append-nil}
use Rattle.nf_text.proofs.Common.{slice_split, position_or_len, before_first, after_first, drop-drop, drop-take, drop_all, map-append, All-from_recursion}
use Rattle.nf_text.proofs.Common.{ne_eqb, slice_split_first, slice_split_none, fails_before_first, is_blank, parts_with_bytes, Span, text_of, between, Rise}
use Rattle.std.specs.List.{AllByRecursion as ByRecursion}
use native.Mathlib.Decide.{dec_lt, dec_le}
use Rattle.nf_text.proofs.Positions.{position_or_len_within}

-- the words of bytes with no comment
abbrev pub words_of : List ℕ → List (List ℕ)
words_of bytes = parts_with_bytes (slice_split is_blank bytes)

parts_with_bytes-cons : (part : List ℕ) (parts : List (List ℕ)) → parts_with_bytes (part ∷ parts) ≡ parts_with_bytes (part ∷ []) ++ parts_with_bytes parts
parts_with_bytes-cons part parts = at (not (length part == 0))
  where
    at : (b : Bool) → cond b (part ∷ parts_with_bytes parts) (parts_with_bytes parts) ≡ cond b (part ∷ []) [] ++ parts_with_bytes parts
    at true = refl
    at false = refl

-- where nothing passes, the first place that does is the end
none_before_end : (bytes : List ℕ) → length bytes ≤ position_or_len is_blank bytes → All (λ b. is_blank b ≡ false) bytes
none_before_end bytes h k d l = fails_before_first is_blank bytes k d (omega (arith, h, l))

-- the first word, and then those after the blank that ends it
words_of-first : (bytes : List ℕ) (len : ℕ) → len ≡ position_or_len is_blank bytes
    → words_of bytes ≡ parts_with_bytes (take len bytes ∷ []) ++ words_of (drop (len + 1) bytes)
words_of-first bytes len e = at (dec_lt (position_or_len is_blank bytes) (length bytes))
  where
    place : ℕ
    place = position_or_len is_blank bytes

    at : Dec (position_or_len is_blank bytes < length bytes) → words_of bytes ≡ parts_with_bytes (take len bytes ∷ []) ++ words_of (drop (len + 1) bytes)
    at (yes l) = ap parts_with_bytes (slice_split_first is_blank bytes 0 l) ∙ parts_with_bytes-cons (before_first is_blank bytes) (slice_split is_blank (after_first is_blank bytes))
        ∙ ap (λ n. parts_with_bytes (take n bytes ∷ []) ++ words_of (drop (n + 1) bytes)) (sym e)
    at (no m) = let none : All (λ b. is_blank b ≡ false) bytes = none_before_end bytes (omega (arith, m)) in
        let all : take len bytes ≡ bytes = take_all len bytes (omega (arith, m, e)) in
        let rest : drop (len + 1) bytes ≡ [] = drop_all (len + 1) bytes (omega (arith, m, e)) in
        ap parts_with_bytes (slice_split_none is_blank bytes none) ∙ parts_with_bytes-cons bytes []
        ∙ ap (λ t. parts_with_bytes (t ∷ []) ++ []) (sym all) ∙ ap (λ t. parts_with_bytes (take len bytes ∷ []) ++ words_of t) (sym rest)

-- ---- at places of a text
abbrev pub words_between : List ℕ → ℕ → ℕ → List (List ℕ)
words_between text at end = words_of (between text at end)

pub drop-between : (text : List ℕ) (at end n : ℕ) → drop n (between text at end) ≡ between text (at + n) end
drop-between text at end n = by (dec_le (at + n) end)
  where
    by : Dec (at + n ≤ end) → drop n (between text at end) ≡ between text (at + n) end
    by (yes h) = let e : end - at ≡ n + (end - (at + n)) = omega (arith, h) in
        ap (λ m. drop n (take m (drop at text))) e ∙ drop-take n (end - (at + n)) (drop at text) ∙ ap (take (end - (at + n))) (drop-drop n at text)
    by (no h) = let short : length (between text at end) ≤ n = omega (arith, length-take (end - at) (drop at text), h) in
        let e : end - (at + n) ≡ 0 = omega (arith, h) in
        drop_all n (between text at end) short ∙ sym (ap (λ m. take m (drop (at + n) text)) e)

pub length-between : (text : List ℕ) (at end : ℕ) → length (between text at end) ≤ end - at
length-between text at end = omega (arith, length-take (end - at) (drop at text))

words_between-first : (text : List ℕ) (at end len : ℕ) → len ≡ position_or_len is_blank (between text at end)
    → words_between text at end ≡ parts_with_bytes (take len (drop at text) ∷ []) ++ words_between text (at + (len + 1)) end
words_between-first text at end len e =
    let within : len ≤ end - at = omega (arith, e, position_or_len_within is_blank (between text at end), length-between text at end) in
    words_of-first (between text at end) len e
    ∙ ap (λ t. parts_with_bytes (t ∷ []) ++ words_of (drop (len + 1) (between text at end))) (take-take len (end - at) (drop at text) within)
    ∙ ap (λ t. parts_with_bytes (take len (drop at text) ∷ []) ++ words_of t) (drop-between text at end (len + 1))

-- a part of some bytes is a word, and one of none isn't
part_by_test : (part : List ℕ) → (length part == 0) ≡ false → parts_with_bytes (part ∷ []) ≡ part ∷ []
part_by_test part h = ap (λ b. cond (not b) (part ∷ []) []) h

part_is_word : (part : List ℕ) → 0 < length part → parts_with_bytes (part ∷ []) ≡ part ∷ []
part_is_word [] h = absurd (omega (arith, h))
part_is_word (b ∷ part) h = part_by_test (b ∷ part) (ne_eqb (suc (length part)) 0 (omega arith))

no_part_is_no_word : (part : List ℕ) → length part ≡ 0 → parts_with_bytes (part ∷ []) ≡ []
no_part_is_no_word [] h = refl
no_part_is_no_word (b ∷ part) h = absurd (omega (arith, h))

-- ---- the steps of the loop over the words
pub words_skip : (total : List (List ℕ)) (text : List ℕ) (spans : List Span) (at end len : ℕ) → len ≡ position_or_len is_blank (between text at end) → len ≡ 0
    → total ≡ map (text_of text) spans ++ words_between text at end → total ≡ map (text_of text) spans ++ words_between text (at + (len + 1)) end
words_skip total text spans at end len e zero_len h =
    let short : length (take len (drop at text)) ≡ 0 = omega (arith, length-take len (drop at text), zero_len) in
    h ∙ ap (λ t. map (text_of text) spans ++ t) (words_between-first text at end len e
    ∙ ap (λ t. t ++ words_between text (at + (len + 1)) end) (no_part_is_no_word (take len (drop at text)) short))

pub words_push : (total : List (List ℕ)) (text : List ℕ) (spans : List Span) (at end len : ℕ) → len ≡ position_or_len is_blank (between text at end) → 0 < len → end ≤ length text
    → total ≡ map (text_of text) spans ++ words_between text at end
    → total ≡ map (text_of text) (spans ++ record { start = at; len = len } ∷ []) ++ words_between text (at + (len + 1)) end
words_push total text spans at end len e some within h =
    let span : Span = record { start = at; len = len } in
    let fits : len ≤ end - at = omega (arith, e, position_or_len_within is_blank (between text at end), length-between text at end) in
    let long : 0 < length (take len (drop at text)) = omega (arith, length-take len (drop at text), length-drop at text, some, fits, within) in
    h ∙ ap (λ t. map (text_of text) spans ++ t) (words_between-first text at end len e
    ∙ ap (λ t. t ++ words_between text (at + (len + 1)) end) (part_is_word (take len (drop at text)) long))
    ∙ sym (append_assoc (map (text_of text) spans) (text_of text span ∷ []) (words_between text (at + (len + 1)) end))
    ∙ ap (λ t. t ++ words_between text (at + (len + 1)) end) (sym (map-append (text_of text) spans (span ∷ [])))

pub words_end : (total : List (List ℕ)) (text : List ℕ) (spans : List Span) (at end : ℕ) → end ≤ at
    → total ≡ map (text_of text) spans ++ words_between text at end → map (text_of text) spans ≡ total
words_end total text spans at end h e = let none : end - at ≡ 0 = omega (arith, h) in
    sym (e ∙ ap (λ n. map (text_of text) spans ++ words_of (take n (drop at text))) none ∙ append-nil (map (text_of text) spans))

-- ---- rising places
pub Rise_higher : (first last more : ℕ) (spans : List Span) → last ≤ more → Rise first last spans → Rise first more spans
Rise_higher first last more [] h r = tt
Rise_higher first last more (s ∷ spans) h r = (r.0, r.1, omega (arith, r.2, h), Rise_higher (s.start + s.len) last more spans h r.3)

pub Rise_lower : (less first last : ℕ) (spans : List Span) → less ≤ first → Rise first last spans → Rise less last spans
Rise_lower less first last [] h r = tt
Rise_lower less first last (s ∷ spans) h r = (omega (arith, r.0, h), r.1, r.2, r.3)

pub Rise-append : (first middle last : ℕ) (spans others : List Span) → first ≤ middle → middle ≤ last → Rise first middle spans → Rise middle last others
    → Rise first last (spans ++ others)
Rise-append first middle last [] others h k r t = Rise_lower first middle last others h t
Rise-append first middle last (s ∷ spans) others h k r t =
    (r.0, r.1, omega (arith, r.2, k), Rise-append (s.start + s.len) middle last spans others r.2 k r.3 t)

pub Rise_push : (first at len last : ℕ) (spans : List Span) → first ≤ at → 0 < len → at + len ≤ last → Rise first at spans
    → Rise first last (spans ++ record { start = at; len = len } ∷ [])
Rise_push first at len last spans h some k r =
    Rise-append first at last spans (record { start = at; len = len } ∷ []) h (omega (arith, k)) r (omega arith, some, k, tt)

-- what the loop keeps of the places
pub Rise_step : (first at end len : ℕ) (text : List ℕ) (spans : List Span) → len ≡ position_or_len is_blank (between text at end) → first ≤ at → at < end → 0 < len
    → Rise first (min at end) spans → Rise first (min (at + (len + 1)) end) (spans ++ record { start = at; len = len } ∷ [])
Rise_step first at end len text spans e h less some r =
    let fits : len ≤ end - at = omega (arith, e, position_or_len_within is_blank (between text at end), length-between text at end) in
    Rise_push first at len (min (at + (len + 1)) end) spans h some (omega (arith, fits, less)) (Rise_higher first (min at end) at spans (omega arith) r)

pub Rise_skip : (first at end len : ℕ) (spans : List Span) → Rise first (min at end) spans → Rise first (min (at + (len + 1)) end) spans
Rise_skip first at end len spans r = Rise_higher first (min at end) (min (at + (len + 1)) end) spans (omega arith) r

pub Rise_end : (first at end : ℕ) (spans : List Span) → Rise first (min at end) spans → Rise first end spans
Rise_end first at end spans r = Rise_higher first (min at end) end spans (omega arith) r

-- each place is in the text
pub Rise_within : (first last n : ℕ) (spans : List Span) → last ≤ n → Rise first last spans → All (λ s. s.start + s.len ≤ n) spans
Rise_within first last n spans h r = All-from_recursion (λ s. s.start + s.len ≤ n) spans (each first spans r)
  where
    each : (first : ℕ) (spans : List Span) → Rise first last spans → ByRecursion (λ s. s.start + s.len ≤ n) spans
    each first [] r = tt
    each first (s ∷ spans) r = (omega (arith, r.2, h), each (s.start + s.len) spans r.3)

pub Rise_front : (first last : ℕ) (spans others : List Span) → Rise first last (spans ++ others) → Rise first last spans
Rise_front first last [] others r = tt
Rise_front first last (s ∷ spans) others r = (r.0, r.1, r.2, Rise_front (s.start + s.len) last spans others r.3)

pub Rise_back : (first last : ℕ) (spans others : List Span) → Rise first last (spans ++ others) → (middle : ℕ) × Rise middle last others
Rise_back first last [] others r = (first, r)
Rise_back first last (s ∷ spans) others r = Rise_back (s.start + s.len) last spans others r.3
