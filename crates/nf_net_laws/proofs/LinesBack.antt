-- Read line by line, the lines of a canonical text say what they are printed from.
use Rattle.std.proofs.Common.{◌≡◌, ℕ, zero, suc, ◌+◌, ◌<◌, ◌≤◌, ◌⊎◌, ◌==◌, ◌&&◌, ◌||◌, Bool, true, false, not, if◌then◌else◌, List, [], ◌∷◌, ◌++◌, length}
use Rattle.std.proofs.Common.{map, nat_lt, nat_le, nat_abs, refl, sym, ◌∙◌, ap, subst, inl, inr, arith, append_assoc, append-nil, bytes_eq, length-append}
use Rattle.std.proofs.Common.{codes, Option, Some, None, Result, Ok, Err, option_map}
use Rattle.nf_net_laws.proofs.Common.{AllByRecursion, last_or, list_all, result_ok, le-ltb, lt-leb, ltb-false, or_from, or_parts, and_right, ℚ, 0ℚ}
use Rattle.nf_net_laws.proofs.Common.{test_of_le, test_of_lt, Piece, IsPiece, ArePieces, printed, NetRule, N4, N7, N9, N10, N11, N12, N13, N14, N15, N16}
use Rattle.nf_net_laws.proofs.Common.{ReadLine, Name, is_name, has_name, name_at, with_name, with_names, greatest, number_in, capacity_in, capacity_word}
use Rattle.nf_net_laws.proofs.Common.{NamedLink, Named, ends, names_of, active_links, all_links, all_nodes, Entry, Source, Sink, LinkLine, InflowLine}
use Rattle.nf_net_laws.proofs.Common.{node_line, link_entry, inflow_entry, entry_of, Draft, empty_draft, after, first_rule, too_many_nodes, is_negative}
use Rattle.nf_net_laws.proofs.Common.{is_no_capacity, is_not_after, broken_rule, unless, add_line, in_line, add_lines, version_of, draft_after, draft_from}
use Rattle.nf_net_laws.proofs.Common.{link_words, inflow_words, canonical_lines, IsFraction, IsCapacity, IsNamedLink, IsFractionPiece, IsNamed, last-append}
use Rattle.nf_net_laws.proofs.Common.{◌≤ℚ◌, ◌<ℚ◌, ◌>>=◌, NumberFault, decimal_of}
use Rattle.std.specs.List.{IsDistinct}
use Rattle.nf_rational.specs.Order.{lt_ℚ}
use Rattle.nf_frac_words.specs.Digits.{digits_of}
use Rattle.nf_frac_words.specs.Numbers.{number_of, parts_of}
use Rattle.nf_frac_words.proofs.ReadBack.{number_read, number_read_as_decimal}
use Rattle.nf_net_laws.proofs.NameFacts.{bytes_eq-turned, same_names, with_name_new, with_names-append, with_names-split}
use Rattle.nf_net_laws.proofs.LinkFacts.{ends-append, map-append, names_of-links_by_name}
use Rattle.nf_net_laws.proofs.ClosesBack.{draft_of, source_below, sink_below, names_apart}

-- ---- numbers are read back
pub within : (q : ℚ) → IsFraction q → (nat_abs q.num ≤ greatest) × (q.den ≤ greatest)
within q h = let both : (nat_lt greatest (nat_abs q.num) ≡ false) × (nat_lt greatest q.den ≡ false) = or_parts (nat_lt greatest (nat_abs q.num)) (nat_lt greatest q.den) h in
    (ltb-false greatest (nat_abs q.num) both.0, ltb-false greatest q.den both.1)

number_back : (q : ℚ) (b : Bool) → IsFraction q → result_ok (if b then number_of greatest (printed q) else decimal_of greatest (printed q)) ≡ Some q
number_back q true h = ap result_ok (number_read greatest q (within q h).0 (within q h).1)
number_back q false h = ap result_ok (number_read_as_decimal greatest q (within q h).0 (within q h).1)

pub number_in-printed : (version : ℕ) (q : ℚ) → IsFraction q → number_in version (printed q) ≡ Some q
number_in-printed version q h = number_back q (version == 1) h

-- `inf` is no number
inf_is_no_number : (q : ℚ) (r : Result ℚ NumberFault) → number_of greatest (codes "inf") ≡ r → r ≡ Ok q → ⊥
unfolding number_of parts_of
inf_is_no_number q r e f = cc

printed_is_not_inf : (q : ℚ) (b : Bool) → IsFraction q → bytes_eq (printed q) (codes "inf") ≡ b → b ≡ false
printed_is_not_inf q true h e = absurd (inf_is_no_number q (number_of greatest (printed q)) (ap (number_of greatest) (sym (same_names (printed q) (codes "inf") e))) (number_read greatest q (within q h).0 (within q h).1))
printed_is_not_inf q false h e = refl

some_capacity : (q : ℚ) (b : Bool) (number : Option ℚ) → b ≡ false → number ≡ Some q → (if b then Some None else option_map (λ q. Some q) number) ≡ Some (Some q)
some_capacity q b number e f = λ i. if e i then Some None else option_map (λ q. Some q) (f i)

pub capacity_in-word : (version : ℕ) (capacity : Option ℚ) → (version ≡ 1) ⊎ (version ≡ 2) → IsCapacity version capacity → capacity_in version (capacity_word capacity) ≡ Some capacity
capacity_in-word version None (inl e) h = absurd (h e)
capacity_in-word version None (inr e) h = ap (λ v. capacity_in v (codes "inf")) e
capacity_in-word version (Some q) v h =
    some_capacity q (not (version == 1) && bytes_eq (printed q) (codes "inf")) (number_in version (printed q))
    (and_right (not (version == 1)) (bytes_eq (printed q) (codes "inf")) (printed_is_not_inf q (bytes_eq (printed q) (codes "inf")) h.0 refl))
    (number_in-printed version q h.0)

-- ---- what a line says
node_entry : (make : Name → Entry) (name : Name) → is_name name ≡ true → node_line make (name ∷ []) ≡ Ok (make name)
node_entry make name e = ap (λ (b : Bool). if b then Ok (make name) else Err N7) e

three : (a b c : Bool) → a ≡ true → b ≡ true → c ≡ true → (a && (b && c)) ≡ true
three a b c e f g = λ i. e i && (f i && g i)

pub link_says : (version : ℕ) (l : NamedLink) → (version ≡ 1) ⊎ (version ≡ 2) → IsNamedLink version l → entry_of version (link_words l) ≡ Ok (LinkLine l)
link_says version l v h =
    ap (λ (b : Bool). if b then link_entry l.name l.tail l.head (number_in version (printed l.transit)) (capacity_in version (capacity_word l.capacity)) else Err N7)
    (three (is_name l.name) (is_name l.tail) (is_name l.head) h.name h.tail h.head)
    ∙ (λ i. link_entry l.name l.tail l.head (number_in-printed version l.transit h.fraction i) (capacity_in-word version l.capacity v h.capacity i))

pub inflow_says : (version : ℕ) (piece : Piece) → IsFractionPiece piece → entry_of version (inflow_words piece) ≡ Ok (InflowLine piece)
inflow_says version piece h = λ i. inflow_entry (number_in-printed version piece.start h.start i) (number_in-printed version piece.rate h.rate i)

-- ---- one line
pub line_read : (draft : Draft) (words : List (List ℕ)) (entry : Entry) → draft.ended ≡ false → entry_of draft.version words ≡ Ok entry → broken_rule draft entry ≡ None
    → add_line draft words ≡ Ok (after draft entry)
line_read draft words entry open_ says fine =
    ap (λ (b : Bool). if b then Err N4 else (entry_of draft.version words >>= λ entry. unless (broken_rule draft entry) (after draft entry))) open_
    ∙ (ap (λ r. r >>= λ entry. unless (broken_rule draft entry) (after draft entry)) says ∙ ap (λ o. unless o (after draft entry)) fine)

-- ---- lines one after the other
abbrev pub Follows : Draft → List (List (List ℕ)) → Draft → Type 0
Follows draft [] last = draft ≡ last
Follows draft (words ∷ lines) last = (next : Draft) × (add_line draft words ≡ Ok next) × Follows next lines last

pub follows-append : (draft middle last : Draft) (xs ys : List (List (List ℕ))) → Follows draft xs middle → Follows middle ys last → Follows draft (xs ++ ys) last
follows-append draft middle last [] ys h k = subst (λ d. Follows d ys last) (sym h) k
follows-append draft middle last (words ∷ xs) ys h k = (h.0, h.1, follows-append h.0 middle last xs ys h.2 k)

-- content lines of these words, numbered in order
abbrev pub lines_from : ℕ → List (List (List ℕ)) → List ReadLine
lines_from number [] = []
lines_from number (words ∷ lines) = record { number = number; plain = true; words = words } ∷ lines_from (number + 1) lines

pub lines_read : (draft last : Draft) (number : ℕ) (lines : List (List (List ℕ))) → Follows draft lines last → add_lines draft (lines_from number lines) ≡ Ok last
lines_read draft last number [] h = ap (λ d. Ok d) h
lines_read draft last number (words ∷ lines) h =
    ap (λ r. in_line number r >>= λ next. add_lines next (lines_from (number + 1) lines)) h.1 ∙ lines_read h.0 last (number + 1) lines h.2

-- ---- the lines of links
distinct_before : (xs : List Name) (y : Name) (ys : List Name) → IsDistinct bytes_eq (xs ++ y ∷ ys) → has_name xs y ≡ false
unfolding IsDistinct
distinct_before [] y ys h = refl
distinct_before (x ∷ xs) y ys h = or_from (bytes_eq y x) (has_name xs y) (bytes_eq-turned x y (there xs h.0)) (distinct_before xs y ys h.1)
  where
    there : (zs : List Name) → AllByRecursion (λ z. bytes_eq x z ≡ false) (zs ++ y ∷ ys) → bytes_eq x y ≡ false
    there [] k = k.0
    there (z ∷ zs) k = there zs k.1

one_more : (names : List Name) (name : Name) → length names ≤ length (with_name names name)
one_more names name = step (has_name names name)
  where
    step : (b : Bool) → length names ≤ length (if b then names else names ++ name ∷ [])
    step true = omega arith
    step false = let e : length (names ++ name ∷ []) ≡ length names + 1 = length-append names (name ∷ []) in omega arith

pub length-with_names : (names more : List Name) → length names ≤ length (with_names names more)
length-with_names names [] = omega arith
length-with_names names (x ∷ more) =
    let first : length names ≤ length (with_name names x) = one_more names x in
    let rest : length (with_name names x) ≤ length (with_names (with_name names x) more) = length-with_names (with_name names x) more in omega arith

not_negative : (x : ℚ) → 0ℚ ≤ℚ x → is_negative x ≡ false
unfolding lt_ℚ
not_negative x h = ap not (test_of_le 0ℚ x h)

is_above : (version : ℕ) (capacity : Option ℚ) → IsCapacity version capacity → is_no_capacity capacity ≡ false
is_above version None h = refl
is_above version (Some q) h = test_of_lt q 0ℚ h.1

five_no : (a b c d e : Bool) (p q r s t : NetRule) → a ≡ false → b ≡ false → c ≡ false → d ≡ false → e ≡ false
    → first_rule ((a, p) ∷ (b, q) ∷ (c, r) ∷ (d, s) ∷ (e, t) ∷ []) ≡ None
five_no a b c d e p q r s t f g h j k = λ i. first_rule ((f i, p) ∷ (g i, q) ∷ (h i, r) ∷ (j i, s) ∷ (k i, t) ∷ [])

three_no : (a b c : Bool) (p q r : NetRule) → a ≡ false → b ≡ false → c ≡ false → first_rule ((a, p) ∷ (b, q) ∷ (c, r) ∷ []) ≡ None
three_no a b c p q r f g h = λ i. first_rule ((f i, p) ∷ (g i, q) ∷ (h i, r) ∷ [])

names_of-append : (xs ys : List NamedLink) → names_of (xs ++ ys) ≡ names_of xs ++ names_of ys
names_of-append [] ys = refl
names_of-append (l ∷ xs) ys = ap (λ r. l.name ∷ r) (names_of-append xs ys)

pub links_follow : (draft : Draft) (links all : List NamedLink) → draft.ended ≡ false → (draft.version ≡ 1) ⊎ (draft.version ≡ 2) → AllByRecursion (IsNamedLink draft.version) links
    → draft.links ++ links ≡ all → IsDistinct bytes_eq (names_of all) → length all ≤ 200 → length (with_names draft.nodes (ends links)) ≤ 64
    → Follows draft (map link_words links) (record draft { nodes = with_names draft.nodes (ends links); links = all })
links_follow draft [] all open_ v good e distinct few low = λ i. record draft { links = (sym (append-nil draft.links) ∙ e) i }
links_follow draft (l ∷ links) all open_ v good e distinct few low = (
  after draft (LinkLine l),
  line_read draft (link_words l) (LinkLine l) open_ (link_says draft.version l v good.0)
      (five_no (has_name (names_of draft.links) l.name) (too_many_nodes draft (l.tail ∷ l.head ∷ [])) (nat_le 200 (length draft.links))
      (is_negative l.transit) (is_no_capacity l.capacity) N9 N10 N11 N13 N14
      (distinct_before (names_of draft.links) l.name (names_of links) (subst (IsDistinct bytes_eq) (ap names_of (sym e) ∙ names_of-append draft.links (l ∷ links)) distinct))
      (le-ltb 64 (length (with_names draft.nodes (l.tail ∷ l.head ∷ []))) (let more : length (with_names draft.nodes (l.tail ∷ l.head ∷ [])) ≤ length
      (with_names draft.nodes (l.tail ∷ l.head ∷ ends links)) = length-with_names (with_names draft.nodes (l.tail ∷ l.head ∷ [])) (ends links) in
      omega arith))
      (lt-leb 200 (length draft.links) (let long : length (draft.links ++ l ∷ links) ≡ length draft.links + suc (length links) =
      length-append draft.links (l ∷ links) in let same : length (draft.links ++ l ∷ links) ≡ length all = ap (λ x. length x) e in omega arith))
      (not_negative l.transit good.0.transit)
      (is_above draft.version l.capacity good.0.capacity)),
  links_follow (after draft (LinkLine l)) links all open_ v good.1 (append_assoc draft.links (l ∷ []) links ∙ e) distinct few low,
)

-- ---- the lines of pieces
-- the first of these starts after one before, and each later one after the one before it
abbrev pub Rises : Option Piece → List Piece → Type 0
Rises before [] = Unit {0}
Rises before (piece ∷ pieces) = (is_not_after piece.start before ≡ false) × Rises (Some piece) pieces

-- no start and no rate is negative
abbrev pub AreNotNegative : List Piece → Type 0
AreNotNegative pieces = AllByRecursion (λ piece. (0ℚ ≤ℚ piece.start) × (0ℚ ≤ℚ piece.rate)) pieces

pieces_follow : (draft : Draft) (pieces all : List Piece) → draft.ended ≡ false → AllByRecursion IsFractionPiece pieces → AreNotNegative pieces
    → Rises (last_or None draft.pieces) pieces → draft.pieces ++ pieces ≡ all → length all ≤ 200
    → Follows draft (map inflow_words pieces) (record draft { pieces = all })
pieces_follow draft [] all open_ good positive rises e few = λ i. record draft { pieces = (sym (append-nil draft.pieces) ∙ e) i }
pieces_follow draft (piece ∷ pieces) all open_ good positive rises e few = (
  after draft (InflowLine piece),
  line_read draft (inflow_words piece) (InflowLine piece) open_ (inflow_says draft.version piece good.0)
      (three_no (nat_le 200 (length draft.pieces)) (is_negative piece.start || is_negative piece.rate) (is_not_after piece.start (last_or None draft.pieces)) N12 N15 N16
      (lt-leb 200 (length draft.pieces) (let long : length (draft.pieces ++ piece ∷ pieces) ≡ length draft.pieces + suc (length pieces) =
      length-append draft.pieces (piece ∷ pieces) in let same : length (draft.pieces ++ piece ∷ pieces) ≡ length all = ap (λ x. length x) e in
      omega arith))
      (or_from (is_negative piece.start) (is_negative piece.rate) (not_negative piece.start positive.0.0) (not_negative piece.rate positive.0.1))
      rises.0),
  pieces_follow (after draft (InflowLine piece)) pieces all open_ good.1 positive.1
      (subst (λ before. Rises before pieces) (sym (last-append None draft.pieces piece)) rises.1)
      (append_assoc draft.pieces (piece ∷ []) pieces ∙ e) few,
)

-- both from what the network says of its pieces
not_negative_pieces : (pieces : List Piece) → ((i : ℕ) (piece : Piece) → IsPiece pieces i piece → (0ℚ ≤ℚ piece.start) × (0ℚ ≤ℚ piece.rate)) → AreNotNegative pieces
not_negative_pieces [] each = tt
not_negative_pieces (piece ∷ pieces) each = (each 0 piece refl, not_negative_pieces pieces (λ i p is. each (suc i) p is))

rises_after : (before : Piece) (pieces : List Piece)
    → ((i : ℕ) (piece next : Piece) → IsPiece (before ∷ pieces) i piece → IsPiece (before ∷ pieces) (suc i) next → piece.start <ℚ next.start) → Rises (Some before) pieces
rises_after before [] each = tt
rises_after before (piece ∷ pieces) each = (test_of_lt piece.start before.start (each 0 before piece refl refl), rises_after piece pieces (λ i p q is next. each (suc i) p q is next))

rises : (pieces : List Piece) → ArePieces pieces → Rises None pieces
rises [] h = tt
rises (piece ∷ pieces) h = (refl, rises_after piece pieces h.rise)

-- ---- the whole file
node_read : (draft : Draft) (words : List (List ℕ)) (entry : Entry) (twice : Bool) (names : List Name) → draft.ended ≡ false → entry_of draft.version words ≡ Ok entry
    → broken_rule draft entry ≡ first_rule ((twice, N9) ∷ (too_many_nodes draft names, N10) ∷ []) → twice ≡ false → length (with_names draft.nodes names) ≤ 64
    → add_line draft words ≡ Ok (after draft entry)
node_read draft words entry twice names open_ says tests e low = line_read draft words entry open_ says
    (tests ∙ (λ i. first_rule ((e i, N9) ∷ (le-ltb 64 (length (with_names draft.nodes names)) low i, N10) ∷ [])))

head_is : (version : ℕ) → (version ≡ 1) ⊎ (version ≡ 2) → version_of (codes "nfot" ∷ digits_of version ∷ []) ≡ Some version
unfolding digits_of
head_is version (inl e) = ap (λ v. version_of (codes "nfot" ∷ digits_of v ∷ [])) e ∙ ap (λ v. Some v) (sym e)
head_is version (inr e) = ap (λ v. version_of (codes "nfot" ∷ digits_of v ∷ [])) e ∙ ap (λ v. Some v) (sym e)

name_of_list : (names : List Name) (i : ℕ) → list_all is_name names ≡ true → i < length names → is_name (name_at names i) ≡ true
name_of_list [] i h low = absurd (omega arith)
name_of_list (x ∷ xs) zero h low = first (is_name x) (list_all is_name xs) h
  where
    first : (a b : Bool) → (a && b) ≡ true → a ≡ true
    first true b e = refl
    first false b e = absurd (cc)
name_of_list (x ∷ xs) (suc i) h low = name_of_list xs i (second (is_name x) (list_all is_name xs) h) (omega arith)
  where
    second : (a b : Bool) → (a && b) ≡ true → b ≡ true
    second true b e = e
    second false b e = absurd (cc)

pub list_all-left : (xs ys : List Name) → list_all is_name (xs ++ ys) ≡ true → list_all is_name xs ≡ true
list_all-left [] ys h = refl
list_all-left (x ∷ xs) ys h = both (is_name x) (list_all is_name (xs ++ ys)) (list_all is_name xs) h (list_all-left xs ys)
  where
    both : (a b c : Bool) → (a && b) ≡ true → (b ≡ true → c ≡ true) → (a && c) ≡ true
    both true b c e f = f e
    both false b c e f = absurd (cc)

module _ (n : Named) (h : IsNamed n) where
  -- the names of source and sink
  abbrev s : Name
  s = name_at n.node_names 0

  abbrev t : Name
  t = name_at n.node_names 1

  pub s_is_name : is_name s ≡ true
  s_is_name = name_of_list n.node_names 0 (list_all-left n.node_names n.idle_nodes h.node_names.each) (source_below n h)

  pub t_is_name : is_name t ≡ true
  t_is_name = name_of_list n.node_names 1 (list_all-left n.node_names n.idle_nodes h.node_names.each) (sink_below n h)

  differ : (b : Bool) → bytes_eq t s ≡ b → (b || false) ≡ false
  differ true e = absurd (names_apart n h (ap (λ name. Some name) (sym (same_names t s e))))
  differ false e = refl

  -- source and sink stand first
  two_nodes : with_names (s ∷ []) (t ∷ []) ≡ s ∷ t ∷ []
  two_nodes = with_name_new (s ∷ []) t (differ (bytes_eq t s) refl)

  all_nodes_are : with_names (s ∷ t ∷ []) (ends (all_links n)) ≡ all_nodes n
  all_nodes_are = ap (with_names (s ∷ t ∷ [])) (ends-append (active_links n) n.idle_links)
      ∙ with_names-append (s ∷ t ∷ []) (ends (active_links n)) (ends n.idle_links)
      ∙ ap (λ nodes. with_names nodes (ends n.idle_links)) (sym h.numbered.order)
      ∙ with_names-split n.node_names (ends n.idle_links)
      ∙ ap (λ idle. n.node_names ++ idle) (sym h.numbered.idle_order)

  nodes_are : with_names (with_names (s ∷ []) (t ∷ [])) (ends (all_links n)) ≡ all_nodes n
  nodes_are = ap (λ nodes. with_names nodes (ends (all_links n))) two_nodes ∙ all_nodes_are

  names_are : names_of (all_links n) ≡ n.link_names ++ names_of n.idle_links
  names_are = names_of-append (active_links n) n.idle_links ∙ ap (λ names. names ++ names_of n.idle_links) (names_of-links_by_name n.node_names n.link_names n.net.links h.numbered.links)

  -- after the lines of source and sink, of the links, of the pieces
  abbrev with_ends : Draft
  with_ends = after (after (empty_draft n.version) (Source s)) (Sink t)

  abbrev with_links : Draft
  with_links = record with_ends { nodes = with_names with_ends.nodes (ends (all_links n)); links = all_links n }

  abbrev with_pieces : Draft
  with_pieces = record with_links { pieces = n.net.pieces }

  few_nodes : length (with_names (with_names (s ∷ []) (t ∷ [])) (ends (all_links n))) ≤ 64
  few_nodes = subst (λ nodes. length nodes ≤ 64) (sym nodes_are) h.limits.nodes

  source_read : add_line (empty_draft n.version) (codes "source" ∷ s ∷ []) ≡ Ok (after (empty_draft n.version) (Source s))
  source_read = node_read (empty_draft n.version) (codes "source" ∷ s ∷ []) (Source s) false (s ∷ []) refl (node_entry (λ name. Source name) s s_is_name) refl refl (omega arith)

  sink_read : add_line (after (empty_draft n.version) (Source s)) (codes "sink" ∷ t ∷ []) ≡ Ok with_ends
  sink_read = node_read (after (empty_draft n.version) (Source s)) (codes "sink" ∷ t ∷ []) (Sink t) false (t ∷ []) refl (node_entry (λ name. Sink name) t t_is_name) refl refl
      (let e : length (with_names (s ∷ []) (t ∷ [])) ≡ 2 = ap (λ nodes. length nodes) two_nodes in omega arith)

  links_read : Follows with_ends (map link_words (all_links n)) with_links
  links_read = links_follow with_ends (all_links n) (all_links n) refl h.version h.links refl (subst (IsDistinct bytes_eq) (sym names_are) h.link_names.distinct) h.limits.links few_nodes

  pieces_read : Follows with_links (map inflow_words n.net.pieces) with_pieces
  pieces_read = pieces_follow with_links n.net.pieces n.net.pieces refl h.pieces
      (not_negative_pieces n.net.pieces (λ i piece is. (h.network.pieces.starts i piece is, h.network.pieces.rates i piece is)))
      (rises n.net.pieces h.network.pieces) refl h.limits.pieces

  end_read : Follows with_pieces ((codes "end" ∷ []) ∷ []) (draft_of n)
  end_read = (record with_pieces { ended = true }, refl, λ i. record with_pieces { nodes = nodes_are i; ended = true })

  body_read : Follows with_ends (map link_words (active_links n) ++ map link_words n.idle_links ++ map inflow_words n.net.pieces ++ (codes "end" ∷ []) ∷ []) (draft_of n)
  body_read = follows-append with_ends with_pieces (draft_of n) (map link_words (active_links n) ++ map link_words n.idle_links ++ map inflow_words n.net.pieces) ((codes "end" ∷ []) ∷ [])
      (follows-append with_ends with_links with_pieces (map link_words (active_links n) ++ map link_words n.idle_links) (map inflow_words n.net.pieces)
      (subst (λ lines. Follows with_ends lines with_links) (map-append link_words (active_links n) n.idle_links) links_read) pieces_read)
      end_read

  -- the words of the lines after the head
  abbrev body : List (List (List ℕ))
  body = (codes "source" ∷ s ∷ []) ∷ (codes "sink" ∷ t ∷ []) ∷ map link_words (active_links n) ++ map link_words n.idle_links ++ map inflow_words n.net.pieces ++ (codes "end" ∷ []) ∷ []

  lines_are : canonical_lines n ≡ (codes "nfot" ∷ digits_of n.version ∷ []) ∷ body
  lines_are = λ i. (codes "nfot" ∷ digits_of n.version ∷ [])
      ∷ (codes "source" ∷ name_at n.node_names (h.numbered.source i) ∷ []) ∷ (codes "sink" ∷ name_at n.node_names (h.numbered.sink i) ∷ [])
      ∷ map link_words (active_links n) ++ map link_words n.idle_links ++ map inflow_words n.net.pieces ++ (codes "end" ∷ []) ∷ []

  pub content_back : draft_from (lines_from 1 (canonical_lines n)) ≡ Ok (draft_of n)
  content_back = ap (λ lines. draft_from (lines_from 1 lines)) lines_are
      ∙ ap (λ v. draft_after v 1 (lines_from 2 body)) (head_is n.version h.version)
      ∙ lines_read (empty_draft n.version) (draft_of n) 2 body (after (empty_draft n.version) (Source s), source_read, (with_ends, sink_read, body_read))
