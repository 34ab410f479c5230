-- The lines of a ladder, written one after the other, are its canonical text.
use Rattle.std.proofs.Common.{◌≡◌, ℕ, zero, suc, ◌+◌, ◌-◌, ◌*◌, ◌%◌, ◌≤◌, List, [], ◌∷◌, ◌++◌, length, map, flat_map, Some, pos, codes, refl, sym, ◌∙◌, ap}
use Rattle.std.proofs.Common.{subst, arith, append_assoc, append-nil, length-append}
use Rattle.nf_gen.proofs.Common.{AllByRecursion, range_with_len, join_with_byte, length-map, flat_map-append, whole, Piece, digits_of, printed}
use Rattle.nf_gen.proofs.Common.{line_of_words, longest_text, Name, NamedLink, Named, active_links, link_words, inflow_words, canonical_lines, canonical}
use Rattle.nf_gen.proofs.Common.{IsNamed, map-append, next_value, upper, lower, Ends, link_from, rails_on, rung_at, ladder_ends, drawn_links, drawn_pieces}
use Rattle.nf_gen.proofs.Common.{ladder_links, after_two, link_after, links_after, after_links, pieces_after, WritesLinks}
use Rattle.nf_net_laws.proofs.TextBack.{IsPlainLine}
use Rattle.nf_net_laws.proofs.PlainCanonical.{plain_canonical}
use Rattle.nf_gen.specs.Ladder.{drawn, ladder}
use Rattle.nf_gen.proofs.Wholes.{printed-whole}
use Rattle.nf_gen.proofs.Ranges.{count_push}
use Rattle.nf_gen.proofs.LadderNodes.{link_count}
use Rattle.nf_gen.proofs.LadderNamed.{active_are}
use Rattle.nf_net.proofs.Versions.{one_digit}

-- ---- links one after the other
links-append : (x : ℕ) (xs ys : List Ends) → links_after x (xs ++ ys) ≡ links_after x xs ++ links_after (after_links x xs) ys
links-append x [] ys = refl
links-append x (l ∷ xs) ys = ap (λ r. link_after x l ∷ r) (links-append (after_two x) xs ys)

after-append : (x : ℕ) (xs ys : List Ends) → after_links x (xs ++ ys) ≡ after_links (after_links x xs) ys
after-append x [] ys = refl
after-append x (l ∷ xs) ys = after-append (after_two x) xs ys

abbrev text_of : List NamedLink → List ℕ
text_of links = flat_map line_of_words (map link_words links)

text-append : (xs ys : List NamedLink) → text_of (xs ++ ys) ≡ text_of xs ++ text_of ys
text-append xs ys = ap (flat_map line_of_words) (map-append link_words xs ys) ∙ flat_map-append line_of_words (map link_words xs) (map link_words ys)

pub writes_more : (xs ys : List Ends) (old middle new : List ℕ) (x y z : ℕ) → WritesLinks xs old middle x y → WritesLinks ys middle new y z → WritesLinks (xs ++ ys) old new x z
writes_more xs ys old middle new x y z h k = record {
  text = k.text ∙ (λ i. h.text i ++ text_of (links_after (h.value i) ys))
      ∙ append_assoc old (text_of (links_after x xs)) (text_of (links_after (after_links x xs) ys))
      ∙ ap (λ r. old ++ r) (sym (ap (λ r. text_of r) (links-append x xs ys) ∙ text-append (links_after x xs) (links_after (after_links x xs) ys)));
  value = k.value ∙ ap (λ (v : ℕ). after_links v ys) h.value ∙ sym (after-append x xs ys);
}

-- one link, of which the words are known
pub link_written : (x y z transit capacity : ℕ) (name tail head : Name) (old new : List ℕ) → y ≡ next_value x → z ≡ next_value y
    → transit ≡ 1 + next_value x % 5 → capacity ≡ 1 + next_value y % 4
    → new ≡ old ++ line_of_words (codes "link" ∷ name ∷ tail ∷ head ∷ digits_of transit ∷ digits_of capacity ∷ [])
    → WritesLinks (link_from name tail head ∷ []) old new x z
link_written x y z transit capacity name tail head old new a b c d e = record {
  text = e ∙ ap (λ r. old ++ r)
      ((λ i. line_of_words (codes "link" ∷ name ∷ tail ∷ head ∷ time i ∷ rate i ∷ [])) ∙ sym (append-nil (line_of_words (link_words (link_after x (link_from name tail head))))));
  value = b ∙ ap next_value a;
}
  where
    time : digits_of transit ≡ printed (whole (pos (1 + next_value x % 5)))
    time = ap digits_of c ∙ sym (printed-whole (1 + next_value x % 5))

    rate : digits_of capacity ≡ printed (whole (pos (1 + after_two x % 4)))
    rate = ap digits_of (d ∙ ap (λ (v : ℕ). 1 + next_value v % 4) a) ∙ sym (printed-whole (1 + after_two x % 4))

-- the same link, by names that are equal
pub renamed : (n m s t a b old new : List ℕ) (x y : ℕ) → n ≡ m → s ≡ t → a ≡ b → WritesLinks (link_from n s a ∷ []) old new x y → WritesLinks (link_from m t b ∷ []) old new x y
renamed n m s t a b old new x y e f g h =
    subst (λ (z : List ℕ). WritesLinks (link_from m t z ∷ []) old new x y) g
    (subst (λ (z : List ℕ). WritesLinks (link_from m z a ∷ []) old new x y) f
    (subst (λ (z : List ℕ). WritesLinks (link_from z s a ∷ []) old new x y) e h))

-- the links of one rung more
pub along_more : (i : ℕ) (old upper_text new : List ℕ) (first x y z : ℕ) (start : List ℕ) → 1 ≤ i
    → WritesLinks (flat_map rails_on (range_with_len 1 (i - 1))) start old first x
    → WritesLinks (link_from (upper i) (upper i) (upper (i + 1)) ∷ []) old upper_text x y
    → WritesLinks (link_from (lower i) (lower i) (lower (i + 1)) ∷ []) upper_text new y z
    → WritesLinks (flat_map rails_on (range_with_len 1 (i + 1 - 1))) start new first z
along_more zero old upper_text new first x y z start some h k m = absurd (omega arith)
along_more (suc i) old upper_text new first x y z start some h k m =
    let before : suc i - 1 ≡ i = omega arith in
    let on : suc i ≡ suc i + 1 - 1 = omega arith in
    let front : WritesLinks (flat_map rails_on (range_with_len 1 i)) start old first x =
    subst (λ (n : ℕ). WritesLinks (flat_map rails_on (range_with_len 1 n)) start old first x) before h in
    subst (λ (n : ℕ). WritesLinks (flat_map rails_on (range_with_len 1 n)) start new first z) on
    (subst (λ ls. WritesLinks ls start new first z) (sym (ap (flat_map rails_on) (count_push i) ∙ flat_map-append rails_on (range_with_len 1 i) (suc i ∷ [])))
    (writes_more (flat_map rails_on (range_with_len 1 i)) (rails_on (suc i)) start old new first x z front
    (writes_more (link_from (upper (suc i)) (upper (suc i)) (upper (suc i + 1)) ∷ []) (link_from (lower (suc i)) (lower (suc i)) (lower (suc i + 1)) ∷ []) old upper_text new x y z k m)))

pub down_more : (i : ℕ) (start old new : List ℕ) (first x y : ℕ) → 1 ≤ i
    → WritesLinks (map rung_at (range_with_len 1 (i - 1))) start old first x
    → WritesLinks (rung_at i ∷ []) old new x y
    → WritesLinks (map rung_at (range_with_len 1 (i + 1 - 1))) start new first y
down_more zero start old new first x y some h k = absurd (omega arith)
down_more (suc i) start old new first x y some h k =
    let before : suc i - 1 ≡ i = omega arith in
    let on : suc i ≡ suc i + 1 - 1 = omega arith in
    let front : WritesLinks (map rung_at (range_with_len 1 i)) start old first x = subst (λ (n : ℕ). WritesLinks (map rung_at (range_with_len 1 n)) start old first x) before h in
    subst (λ (n : ℕ). WritesLinks (map rung_at (range_with_len 1 n)) start new first y) on
    (subst (λ ls. WritesLinks ls start new first y) (sym (ap (map rung_at) (count_push i) ∙ map-append rung_at (range_with_len 1 i) (suc i ∷ [])))
    (writes_more (map rung_at (range_with_len 1 i)) (rung_at (suc i) ∷ []) start old new first x y front k))

-- ---- what the draws come to
next_drawn : (number draws more : ℕ) → more ≡ suc draws → drawn number more ≡ next_value (drawn number draws)
unfolding drawn
next_drawn number draws more e = ap (drawn number) e

first_drawn : (number : ℕ) → drawn number 0 ≡ number % 65537
unfolding drawn
first_drawn number = refl

one_on : (number place : ℕ) → drawn number (2 * place + 1) ≡ next_value (drawn number (2 * place))
one_on number place = next_drawn number (2 * place) (2 * place + 1) (omega arith)

two_on : (number place : ℕ) → drawn number (2 * place + 2) ≡ after_two (drawn number (2 * place))
two_on number place = next_drawn number (2 * place + 1) (2 * place + 2) (omega arith) ∙ ap next_value (one_on number place)

next_place : (number place : ℕ) → drawn number (2 * (place + 1)) ≡ after_two (drawn number (2 * place))
next_place number place = (let e : 2 * (place + 1) ≡ 2 * place + 2 = omega arith in ap (λ (n : ℕ). drawn number n) e) ∙ two_on number place

links_drawn : (number place : ℕ) (links : List Ends) → links_after (drawn number (2 * place)) links ≡ drawn_links number place links
links_drawn number place [] = refl
links_drawn number place (l ∷ links) = λ i.
    record {
      name = l.name;
      tail = l.tail;
      head = l.head;
      transit = whole (pos (1 + sym (one_on number place) i % 5));
      capacity = Some (whole (pos (1 + sym (two_on number place) i % 4)));
    } ∷ (ap (λ (x : ℕ). links_after x links) (sym (next_place number place)) ∙ links_drawn number (place + 1) links) i

after_drawn : (number place : ℕ) (links : List Ends) → after_links (drawn number (2 * place)) links ≡ drawn number (2 * (place + length links))
after_drawn number place [] = let e : 2 * place ≡ 2 * (place + 0) = omega arith in ap (λ (n : ℕ). drawn number n) e
after_drawn number place (l ∷ links) =
    ap (λ (x : ℕ). after_links x links) (sym (next_place number place)) ∙ after_drawn number (place + 1) links
    ∙ (let e : 2 * (place + 1 + length links) ≡ 2 * (place + suc (length links)) = omega arith in ap (λ (n : ℕ). drawn number n) e)

pieces_drawn : (number links : ℕ) → pieces_after (drawn number (2 * links)) ≡ drawn_pieces number links
pieces_drawn number links = λ i.
    record { start = whole (pos 0); rate = whole (pos (1 + sym (one_on number links) i % 6)) }
    ∷ record { start = whole (pos 10); rate = whole (pos (1 + sym (two_on number links) i % 6)) }
    ∷ record { start = whole (pos 20); rate = whole (pos 0) } ∷ []

-- ---- pieces
abbrev pieces_text : List Piece → List ℕ
pieces_text pieces = flat_map line_of_words (map inflow_words pieces)

piece_line : (start rate : ℕ) → line_of_words (codes "inflow" ∷ digits_of start ∷ digits_of rate ∷ []) ≡ line_of_words (inflow_words (record { start = whole (pos start); rate = whole (pos rate) }))
piece_line start rate = λ i. line_of_words (codes "inflow" ∷ sym (printed-whole start) i ∷ sym (printed-whole rate) i ∷ [])

three_lines : (old one two new a b c : List ℕ) → one ≡ old ++ a → two ≡ one ++ b → new ≡ two ++ c → new ≡ old ++ (a ++ (b ++ (c ++ [])))
three_lines old one two new a b c h k m =
    m ∙ ap (λ r. r ++ c) (k ∙ ap (λ r. r ++ b) h) ∙ append_assoc (old ++ a) b c ∙ append_assoc old a (b ++ c)
    ∙ ap (λ r. old ++ (a ++ (b ++ r))) (sym (append-nil c))

pub pieces_written : (x y first second : ℕ) (old one two new : List ℕ) → y ≡ next_value x → first ≡ 1 + next_value x % 6 → second ≡ 1 + next_value y % 6
    → one ≡ old ++ line_of_words (codes "inflow" ∷ digits_of 0 ∷ digits_of first ∷ [])
    → two ≡ one ++ line_of_words (codes "inflow" ∷ digits_of 10 ∷ digits_of second ∷ [])
    → new ≡ two ++ line_of_words (codes "inflow" ∷ digits_of 20 ∷ digits_of 0 ∷ [])
    → new ≡ old ++ pieces_text (pieces_after x)
pieces_written x y first second old one two new a b c h k m =
    three_lines old one two new _ _ _ h k m ∙ (λ i. old ++ (from_start i ++ (from_ten i ++ (piece_line 20 0 i ++ []))))
  where
    from_start : line_of_words (codes "inflow" ∷ digits_of 0 ∷ digits_of first ∷ []) ≡ line_of_words (inflow_words (record { start = whole (pos 0); rate = whole (pos (1 + next_value x % 6)) }))
    from_start = ap (λ (r : ℕ). line_of_words (codes "inflow" ∷ digits_of 0 ∷ digits_of r ∷ [])) b ∙ piece_line 0 (1 + next_value x % 6)

    from_ten : line_of_words (codes "inflow" ∷ digits_of 10 ∷ digits_of second ∷ []) ≡ line_of_words (inflow_words (record { start = whole (pos 10); rate = whole (pos (1 + after_two x % 6)) }))
    from_ten = ap (λ (r : ℕ). line_of_words (codes "inflow" ∷ digits_of 10 ∷ digits_of r ∷ [])) (c ∙ ap (λ (v : ℕ). 1 + next_value v % 6) a) ∙ piece_line 10 (1 + after_two x % 6)

-- ---- the whole text
abbrev lines_text : List (List (List ℕ)) → List ℕ
lines_text lines = flat_map line_of_words lines

-- the lines of the version, the source and the sink
abbrev pub head_text : List ℕ
head_text = line_of_words (codes "nfot" ∷ codes "1" ∷ []) ++ (line_of_words (codes "source" ∷ codes "s" ∷ []) ++ line_of_words (codes "sink" ∷ codes "t" ∷ []))

abbrev pub end_text : List ℕ
end_text = line_of_words (codes "end" ∷ [])

body_text : (links pieces : List (List (List ℕ))) (end_line : List (List ℕ))
    → lines_text (links ++ [] ++ pieces ++ end_line ∷ []) ≡ lines_text links ++ (lines_text pieces ++ (line_of_words end_line ++ []))
body_text links pieces end_line =
    ap (λ r. lines_text (r ++ pieces ++ end_line ∷ [])) (append-nil links)
    ∙ flat_map-append line_of_words (links ++ pieces) (end_line ∷ [])
    ∙ ap (λ r. r ++ (line_of_words end_line ++ [])) (flat_map-append line_of_words links pieces)
    ∙ append_assoc (lines_text links) (lines_text pieces) (line_of_words end_line ++ [])

module _ (number rungs : ℕ) (some : 1 ≤ rungs) (few : rungs ≤ 30) where
  canonical_is : canonical (ladder number rungs) ≡ head_text ++ (text_of (ladder_links number rungs) ++ (pieces_text (drawn_pieces number (3 * rungs + 2)) ++ end_text))
  unfolding ladder
  canonical_is =
      (λ i. line_of_words (codes "nfot" ∷ one_digit i ∷ []) ++ (line_of_words (codes "source" ∷ codes "s" ∷ []) ++ (line_of_words (codes "sink" ∷ codes "t" ∷ [])
      ++ body_text (map link_words (active_links (ladder number rungs))) (map inflow_words (drawn_pieces number (3 * rungs + 2))) (codes "end" ∷ []) i)))
      ∙ ap (λ links. head_text ++ (text_of links ++ (pieces_text (drawn_pieces number (3 * rungs + 2)) ++ end_text))) (active_are number rungs some few)

  pub ladder_written : (x y : ℕ) (empty front links pieces text : List ℕ) → x ≡ number % 65537 → empty ≡ [] → front ≡ empty ++ head_text
      → WritesLinks (ladder_ends rungs) front links x y → pieces ≡ links ++ pieces_text (pieces_after y) → text ≡ pieces ++ end_text
      → text ≡ canonical (ladder number rungs)
  ladder_written x y empty front links pieces text a b c h k m =
      m ∙ ap (λ r. r ++ end_text) (k ∙ ap (λ r. r ++ pieces_text (pieces_after y)) (h.text ∙ ap (λ r. r ++ text_of (links_after x (ladder_ends rungs))) (c ∙ ap (λ r. r ++ head_text) b)))
      ∙ append_assoc (head_text ++ text_of (links_after x (ladder_ends rungs))) (pieces_text (pieces_after y)) end_text
      ∙ append_assoc head_text (text_of (links_after x (ladder_ends rungs))) (pieces_text (pieces_after y) ++ end_text)
      ∙ (λ i. head_text ++ (text_of (all_drawn i) ++ (pieces_text (rates_drawn i) ++ end_text)))
      ∙ sym canonical_is
    where
      start : x ≡ drawn number 0
      start = a ∙ sym (first_drawn number)

      all_drawn : links_after x (ladder_ends rungs) ≡ ladder_links number rungs
      all_drawn = ap (λ (v : ℕ). links_after v (ladder_ends rungs)) start ∙ links_drawn number 0 (ladder_ends rungs)

      after_all : y ≡ drawn number (2 * (3 * rungs + 2))
      after_all = h.value ∙ ap (λ (v : ℕ). after_links v (ladder_ends rungs)) start ∙ after_drawn number 0 (ladder_ends rungs)
          ∙ (let long : length (ladder_ends rungs) ≡ 3 * rungs + 2 = link_count rungs some in
          let e : 2 * (0 + length (ladder_ends rungs)) ≡ 2 * (3 * rungs + 2) = omega arith in ap (λ (n : ℕ). drawn number n) e)

      rates_drawn : pieces_after y ≡ drawn_pieces number (3 * rungs + 2)
      rates_drawn = ap pieces_after after_all ∙ pieces_drawn number (3 * rungs + 2)

-- ---- how long it is
long_lines : (lines : List (List (List ℕ))) → AllByRecursion IsPlainLine lines → length (lines_text lines) ≤ 1001 * length lines
long_lines [] h = omega arith
long_lines (ws ∷ lines) h =
    let short : length (join_with_byte 32 ws) ≤ 1000 = h.0.short in
    let line : length (line_of_words ws) ≡ length (join_with_byte 32 ws) + 1 = length-append (join_with_byte 32 ws) (10 ∷ []) in
    let all : length (line_of_words ws ++ lines_text lines) ≡ length (line_of_words ws) + length (lines_text lines) = length-append (line_of_words ws) (lines_text lines) in
    let more : length (lines_text lines) ≤ 1001 * length lines = long_lines lines h.1 in
    omega arith

few_lines : (active idle pieces : List (List (List ℕ))) (end_line : List (List ℕ)) → length active + length idle ≤ 200 → length pieces ≤ 200
    → length (active ++ idle ++ pieces ++ end_line ∷ []) ≤ 401
few_lines active idle pieces end_line h k =
    let all : length (active ++ idle ++ pieces ++ end_line ∷ []) ≡ length (active ++ idle ++ pieces) + 1 = length-append (active ++ idle ++ pieces) (end_line ∷ []) in
    let with_pieces : length (active ++ idle ++ pieces) ≡ length (active ++ idle) + length pieces = length-append (active ++ idle) pieces in
    let with_idle : length (active ++ idle) ≡ length active + length idle = length-append active idle in
    omega arith

-- the canonical text of a network can be read
pub canonical_fits : (n : Named) → IsNamed n → length (canonical n) ≤ longest_text
canonical_fits n h =
    let long : length (canonical n) ≤ 1001 * length (canonical_lines n) = long_lines (canonical_lines n) (plain_canonical n h) in
    let links : length (active_links n ++ n.idle_links) ≡ length (active_links n) + length n.idle_links = length-append (active_links n) n.idle_links in
    let few_links : length (active_links n ++ n.idle_links) ≤ 200 = h.limits.links in
    let few_pieces : length n.net.pieces ≤ 200 = h.limits.pieces in
    let a : length (map link_words (active_links n)) ≡ length (active_links n) = length-map (active_links n) link_words in
    let b : length (map link_words n.idle_links) ≡ length n.idle_links = length-map n.idle_links link_words in
    let c : length (map inflow_words n.net.pieces) ≡ length n.net.pieces = length-map n.net.pieces inflow_words in
    let body : length (map link_words (active_links n) ++ map link_words n.idle_links ++ map inflow_words n.net.pieces ++ (codes "end" ∷ []) ∷ []) ≤ 401 =
    few_lines (map link_words (active_links n)) (map link_words n.idle_links) (map inflow_words n.net.pieces) (codes "end" ∷ []) (omega arith) (omega arith) in
    omega arith
