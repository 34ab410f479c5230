-- A line compared with its words.
use Rattle.std.proofs.Common.{◌≡◌, ℕ, ◌+◌, ◌-◌, ◌<◌, ◌≤◌, Bool, true, false, ◌&&◌, nat_eq, nat_lt, List, [], ◌∷◌, ◌++◌, length, take, drop, None, Some}
use Rattle.std.proofs.Common.{refl, arith, zero, suc, ◌∙◌, sym, ap, append_assoc, append-nil, add-one, get_or, take-take, length-drop, length-take, eq-eqb}
use Rattle.nf_text.proofs.Common.{join_with_byte, flat_map, bytes_eq, drop_more, drop_all, lt-ltb, Span, text_of, between, space_before, ComparesPrefix}
use Rattle.std.proofs.lemmas.Slice.Eq.{bytes_eq-Decides}
use Rattle.nf_text.proofs.Parts.{drop-between}

and-assoc : (a b c : Bool) → ((a && b) && c) ≡ (a && (b && c))
and-assoc true b c = refl
and-assoc false b c = refl

-- a line against a front and a tail
bytes_eq-append : (line front tail : List ℕ) → bytes_eq line (front ++ tail) ≡ (bytes_eq (take (length front) line) front && bytes_eq (drop (length front) line) tail)
bytes_eq-append line [] tail = refl
bytes_eq-append [] (x ∷ front) tail = refl
bytes_eq-append (y ∷ line) (x ∷ front) tail = ap (λ b. nat_eq y x && b) (bytes_eq-append line front tail)
    ∙ sym (and-assoc (nat_eq y x) (bytes_eq (take (length front) line) front) (bytes_eq (drop (length front) line) tail))

-- a line between two places that begins with a front, and what follows it
pub begins : (text : List ℕ) (at end next : ℕ) (front : List ℕ) → next ≡ at + length front → bytes_eq (take (length front) (between text at end)) front ≡ true
    → (tail : List ℕ) → bytes_eq (between text at end) (front ++ tail) ≡ bytes_eq (between text next end) tail
begins text at end next front e h tail = bytes_eq-append (between text at end) front tail ∙ ap (λ b. b && bytes_eq (drop (length front) (between text at end)) tail) h
    ∙ ap (λ t. bytes_eq t tail) (drop-between text at end (length front)) ∙ ap (λ n. bytes_eq (between text n end) tail) (sym e)

-- or not
pub begins_not : (line front : List ℕ) → bytes_eq (take (length front) line) front ≡ false → (tail : List ℕ) → bytes_eq line (front ++ tail) ≡ false
begins_not line front h tail = bytes_eq-append line front tail ∙ ap (λ b. b && bytes_eq (drop (length front) line) tail) h

-- ---- a word by its place
pub text_of-length : (text : List ℕ) (span : Span) → span.start + span.len ≤ length text → length (text_of text span) ≡ span.len
text_of-length text span h = omega (arith, h, length-drop span.start text, length-take span.len (drop span.start text))

-- a line that begins at the word's own place begins with the word
pub same_place : (text : List ℕ) (at end : ℕ) (span : Span) → span.start + span.len ≤ length text → span.start ≡ at → span.len ≤ end - at
    → bytes_eq (take (length (text_of text span)) (between text at end)) (text_of text span) ≡ true
same_place text at end span h e fits =
    let len : length (text_of text span) ≡ span.len = text_of-length text span h in
    let same : take (length (text_of text span)) (between text at end) ≡ text_of text span =
    ap (λ n. take n (between text at end)) len ∙ take-take span.len (end - at) (drop at text) fits ∙ ap (λ n. take span.len (drop n text)) (sym e) in
    (bytes_eq-Decides (take (length (text_of text span)) (between text at end)) (text_of text span)).1 same

-- ---- a space
between_first : (text : List ℕ) (at end d : ℕ) → at < end → end ≤ length text → between text at end ≡ get_or text at d ∷ between text (at + 1) end
between_first text at end d h k = let e : end - at ≡ suc (end - (at + 1)) = omega (arith, h) in
    ap (λ n. take n (drop at text)) e ∙ ap (take (suc (end - (at + 1)))) (drop_more text at d (omega (arith, h, k)))

pub space_there : (text : List ℕ) (at end : ℕ) → at < end → end ≤ length text → get_or text at 0 ≡ 32
    → (tail : List ℕ) → bytes_eq (between text at end) (32 ∷ tail) ≡ bytes_eq (between text (at + 1) end) tail
space_there text at end h k e tail = ap (λ t. bytes_eq t (32 ∷ tail)) (between_first text at end 0 h k)
    ∙ ap (λ same. same && bytes_eq (between text (at + 1) end) tail) (eq-eqb (get_or text at 0) 32 e)

-- ---- the words from one of them on, with a space before each but the first of all
abbrev pub words_left : List (List ℕ) → ℕ → List ℕ
words_left words zero = join_with_byte 32 words
words_left words (suc n) = flat_map (λ w. 32 ∷ w) (drop (suc n) words)

join-cons : (w : List ℕ) (ws : List (List ℕ)) → join_with_byte 32 (w ∷ ws) ≡ w ++ flat_map (λ v. 32 ∷ v) ws
join-cons w [] = sym (append-nil w)
join-cons w (v ∷ ws) = ap (λ t. w ++ (32 ∷ t)) (join-cons v ws)

left_is : (words : List (List ℕ)) (j n : ℕ) → j ≡ suc n → flat_map (λ w. 32 ∷ w) (drop j words) ≡ words_left words j
left_is words zero n e = absurd (omega (arith, e))
left_is words (suc j) n e = refl

pub words_left-step : (words : List (List ℕ)) (i : ℕ) (d : List ℕ) → i < length words
    → words_left words i ≡ space_before (nat_lt 0 i) (get_or words i d) ++ words_left words (i + 1)
words_left-step [] zero d h = absurd (omega (arith, h))
words_left-step (w ∷ ws) zero d h = join-cons w ws
words_left-step words (suc n) d h = ap (flat_map (λ w. 32 ∷ w)) (drop_more words (suc n) d h) ∙ at words (suc n + 1) (suc n) d (lt-ltb 0 (suc n) (omega arith)) (add-one (suc n))
  where
    at : (words : List (List ℕ)) (j n : ℕ) (d : List ℕ) → nat_lt 0 n ≡ true → j ≡ suc n
        → (32 ∷ get_or words n d) ++ flat_map (λ w. 32 ∷ w) (drop j words) ≡ space_before (nat_lt 0 n) (get_or words n d) ++ words_left words j
    at words j n d t e = ap (λ s. (32 ∷ get_or words n d) ++ s) (left_is words j n e) ∙ ap (λ b. space_before b (get_or words n d) ++ words_left words j) (sym t)

pub words_left-all : (words : List (List ℕ)) (i : ℕ) → length words ≤ i → words_left words i ≡ []
words_left-all [] zero h = refl
words_left-all (w ∷ ws) zero h = absurd (omega (arith, h))
words_left-all words (suc n) h = ap (flat_map (λ w. 32 ∷ w)) (drop_all (suc n) words h)

-- ---- the steps of the loop over the words
-- the next word is there, with its space
pub plain_step : (whole : Bool) (text : List ℕ) (end : ℕ) (line : List ℕ) (words : List (List ℕ)) (i : ℕ) (d w : List ℕ) (next : ℕ) → i < length words
    → w ≡ get_or words i d → ComparesPrefix text end line (space_before (nat_lt 0 i) w) (Some next)
    → whole ≡ bytes_eq line (words_left words i ++ 10 ∷ []) → whole ≡ bytes_eq (between text next end) (words_left words (i + 1) ++ 10 ∷ [])
plain_step whole text end line words i d w next h k g e = e ∙ ap (λ t. bytes_eq line (t ++ 10 ∷ [])) (words_left-step words i d h)
    ∙ ap (bytes_eq line) (append_assoc (space_before (nat_lt 0 i) (get_or words i d)) (words_left words (i + 1)) (10 ∷ []))
    ∙ ap (λ v. bytes_eq line (space_before (nat_lt 0 i) v ++ (words_left words (i + 1) ++ 10 ∷ []))) (sym k) ∙ g (words_left words (i + 1) ++ 10 ∷ [])

-- or it isn't
pub plain_stop : (whole : Bool) (text : List ℕ) (end : ℕ) (line : List ℕ) (words : List (List ℕ)) (i : ℕ) (d w : List ℕ) → i < length words
    → w ≡ get_or words i d → ComparesPrefix text end line (space_before (nat_lt 0 i) w) None
    → whole ≡ bytes_eq line (words_left words i ++ 10 ∷ []) → false ≡ whole
plain_stop whole text end line words i d w h k g e = sym (e ∙ ap (λ t. bytes_eq line (t ++ 10 ∷ [])) (words_left-step words i d h)
    ∙ ap (bytes_eq line) (append_assoc (space_before (nat_lt 0 i) (get_or words i d)) (words_left words (i + 1)) (10 ∷ []))
    ∙ ap (λ v. bytes_eq line (space_before (nat_lt 0 i) v ++ (words_left words (i + 1) ++ 10 ∷ []))) (sym k) ∙ g (words_left words (i + 1) ++ 10 ∷ []))

pub plain_end : (whole : Bool) (line : List ℕ) (words : List (List ℕ)) (i : ℕ) → length words ≤ i
    → whole ≡ bytes_eq line (words_left words i ++ 10 ∷ []) → bytes_eq line (10 ∷ []) ≡ whole
plain_end whole line words i h e = sym (e ∙ ap (λ t. bytes_eq line (t ++ 10 ∷ [])) (words_left-all words i h))
