-- Properties of the parser state, line by line.
use Rattle.std.proofs.Common.{◌≡◌, ℕ, ◌+◌, ◌<◌, ◌≤◌, ◌⊎◌, ◌&&◌, ◌||◌, Bool, true, false, if◌then◌else◌, List, [], ◌∷◌, ◌++◌, length, nat_le, refl, sym, ◌∙◌}
use Rattle.std.proofs.Common.{ap, subst, inl, inr, arith, bytes_eq, length-append, codes, Option, Some, None, Result, Ok, Err, is_some, unwrap_or}
use Rattle.nf_net_laws.proofs.Common.{AllByRecursion, last_or, list_all, all_push, and_parts, or_parts, leb-false, ltb-false, or_left, or_right, not-false}
use Rattle.nf_net_laws.proofs.Common.{ℚ, 0ℚ, le_of_test, lt_of_test, Piece, ReadLine, NetRule, N4, N5, N7, N9, N10, N11, N12, N13, N14, N15, N16, Name}
use Rattle.nf_net_laws.proofs.Common.{is_name, has_name, with_name, with_names, number_in, capacity_in, NamedLink, ends, names_of, Entry, Source, Sink}
use Rattle.nf_net_laws.proofs.Common.{LinkLine, InflowLine, End, node_line, link_entry, link_line, inflow_entry, inflow_line, end_line, entry_of, Draft}
use Rattle.nf_net_laws.proofs.Common.{empty_draft, after, first_rule, too_many_nodes, is_negative, is_no_capacity, is_not_after, broken_rule, unless}
use Rattle.nf_net_laws.proofs.Common.{add_line, in_line, add_lines, version_of, draft_after, draft_from, IsFraction, IsCapacity, IsNamedLink}
use Rattle.nf_net_laws.proofs.Common.{IsFractionPiece, same_Ok, ◌≤ℚ◌, le_ℚ, ◌>>=◌, same_Some}
use Rattle.std.specs.List.{IsDistinct}
use Rattle.nf_rational.specs.Order.{lt_ℚ}
use Rattle.nf_net_laws.proofs.NameFacts.{has_name-append, with_name_there, with_name_new, bytes_eq-turned, same_names, bytes_eq-self}
use Rattle.nf_net_laws.proofs.LinkFacts.{ends-append, map-append}
use Rattle.nf_net_laws.proofs.LinesBack.{Rises, AreNotNegative}
use Rattle.nf_net_laws.proofs.NumbersKept.{IsReadCapacity, number_kept, capacity_kept}

-- ---- lists of names with some behind
distinct_push : (xs : List Name) (y : Name) → IsDistinct bytes_eq xs → has_name xs y ≡ false → IsDistinct bytes_eq (xs ++ y ∷ [])
unfolding IsDistinct
distinct_push [] y h e = (tt, tt)
distinct_push (x ∷ xs) y h e =
    let parts = or_parts (bytes_eq y x) (has_name xs y) e in
    (pushed xs h.0 (bytes_eq-turned y x parts.0), distinct_push xs y h.1 parts.1)
  where
    pushed : (zs : List Name) → AllByRecursion (λ z. bytes_eq x z ≡ false) zs → bytes_eq x y ≡ false → AllByRecursion (λ z. bytes_eq x z ≡ false) (zs ++ y ∷ [])
    pushed [] k e = (e, tt)
    pushed (z ∷ zs) k e = (k.0, pushed zs k.1 e)

distinct_with : (names : List Name) (x : Name) (b : Bool) → has_name names x ≡ b → IsDistinct bytes_eq names → IsDistinct bytes_eq (with_name names x)
distinct_with names x true e h = subst (IsDistinct bytes_eq) (sym (with_name_there names x e)) h
distinct_with names x false e h = subst (IsDistinct bytes_eq) (sym (with_name_new names x e)) (distinct_push names x h e)

pub distinct_with_names : (names more : List Name) → IsDistinct bytes_eq names → IsDistinct bytes_eq (with_names names more)
distinct_with_names names [] h = h
distinct_with_names names (x ∷ more) h = distinct_with_names (with_name names x) more (distinct_with names x (has_name names x) refl h)

or_swap : (a b c : Bool) → ((a || (b || false)) || c) ≡ (a || (b || c))
or_swap true b c = refl
or_swap false true c = refl
or_swap false false c = refl

or_nothing : (a : Bool) → a ≡ (a || false)
or_nothing true = refl
or_nothing false = refl

or_known : (a b : Bool) → (b ≡ true → a ≡ true) → a ≡ (a || (b || false))
or_known true b f = refl
or_known false true f = absurd (let k : false ≡ true = f refl in cc)
or_known false false f = refl

-- a name is among some names with others behind where it is among those or among these
has_with : (names : List Name) (x name : Name) (b : Bool) → has_name names x ≡ b → has_name (with_name names x) name ≡ (has_name names name || (bytes_eq name x || false))
has_with names x name true e = ap (λ l. has_name l name) (with_name_there names x e)
    ∙ or_known (has_name names name) (bytes_eq name x) (λ f. ap (has_name names) (same_names name x f) ∙ e)
has_with names x name false e = ap (λ l. has_name l name) (with_name_new names x e) ∙ has_name-append names (x ∷ []) name

pub has_with_names : (names more : List Name) (name : Name) → has_name (with_names names more) name ≡ (has_name names name || has_name more name)
has_with_names names [] name = or_nothing (has_name names name)
has_with_names names (x ∷ more) name =
    has_with_names (with_name names x) more name
    ∙ ap (λ (t : Bool). t || has_name more name) (has_with names x name (has_name names x) refl)
    ∙ or_swap (has_name names name) (bytes_eq name x) (has_name more name)

pub still_there : (names more : List Name) (name : Name) → has_name names name ≡ true → has_name (with_names names more) name ≡ true
still_there names more name h = has_with_names names more name ∙ or_left (has_name names name) (has_name more name) h

pub now_there : (names more : List Name) (name : Name) → has_name more name ≡ true → has_name (with_names names more) name ≡ true
now_there names more name h = has_with_names names more name ∙ or_right (has_name names name) (has_name more name) h

-- ---- a test of each name
module _ (test : Name → Bool) where
  pub all_pushed : (xs ys : List Name) → list_all test xs ≡ true → list_all test ys ≡ true → list_all test (xs ++ ys) ≡ true
  all_pushed [] ys h k = k
  all_pushed (x ∷ xs) ys h k = let p = and_parts (test x) (list_all test xs) h in λ i. p.0 i && all_pushed xs ys p.1 k i

  all_with : (names : List Name) (x : Name) (b : Bool) → has_name names x ≡ b → list_all test names ≡ true → test x ≡ true → list_all test (with_name names x) ≡ true
  all_with names x true e h k = ap (list_all test) (with_name_there names x e) ∙ h
  all_with names x false e h k = ap (list_all test) (with_name_new names x e) ∙ all_pushed names (x ∷ []) h (λ i. k i && true)

  pub all_with_names : (names more : List Name) → list_all test names ≡ true → list_all test more ≡ true → list_all test (with_names names more) ≡ true
  all_with_names names [] h k = h
  all_with_names names (x ∷ more) h k =
      let p = and_parts (test x) (list_all test more) k in
      all_with_names (with_name names x) more (all_with names x (has_name names x) refl h p.0) p.1

pub all_weakened : (test other : Name → Bool) → ((name : Name) → test name ≡ true → other name ≡ true) → (xs : List Name) → list_all test xs ≡ true → list_all other xs ≡ true
all_weakened test other f [] h = refl
all_weakened test other f (x ∷ xs) h = let p = and_parts (test x) (list_all test xs) h in λ i. f x p.0 i && all_weakened test other f xs p.1 i

-- ---- what a line says by itself
pub record IsReadLink (version : ℕ) (l : NamedLink) : Type 0 where
  pub name : is_name l.name ≡ true
  pub tail : is_name l.tail ≡ true
  pub head : is_name l.head ≡ true
  pub fraction : IsFraction l.transit
  pub capacity : IsReadCapacity version l.capacity

abbrev IsReadEntry : ℕ → Entry → Type 0
IsReadEntry version (Source name) = is_name name ≡ true
IsReadEntry version (Sink name) = is_name name ≡ true
IsReadEntry version (LinkLine l) = IsReadLink version l
IsReadEntry version (InflowLine piece) = IsFractionPiece piece
IsReadEntry version End = Unit {0}

if_either : (b : Bool) (x y r : Result Entry NetRule) → (if b then x else y) ≡ r → (x ≡ r) ⊎ (y ≡ r)
if_either true x y r e = inl e
if_either false x y r e = inr e

if_or_fault : (b : Bool) (x : Result Entry NetRule) (fault : NetRule) (entry : Entry) → (if b then x else Err fault) ≡ Ok entry → (b ≡ true) × (x ≡ Ok entry)
if_or_fault true x fault entry e = (refl, e)
if_or_fault false x fault entry e = absurd (cc)

node_read_as : (version : ℕ) (make : Name → Entry) → ((name : Name) → is_name name ≡ true → IsReadEntry version (make name)) → (words : List (List ℕ)) (entry : Entry)
    → node_line make words ≡ Ok entry → IsReadEntry version entry
node_read_as version make good (name ∷ []) entry e =
    let p = if_or_fault (is_name name) (Ok (make name)) N7 entry e in
    subst (IsReadEntry version) (same_Ok (make name) entry p.1) (good name p.0)
node_read_as version make good words entry e = absurd (cc)

link_numbers : (version : ℕ) (name tail head : Name) (transit : Option ℚ) (capacity : Option (Option ℚ)) (entry : Entry)
    → is_name name ≡ true → is_name tail ≡ true → is_name head ≡ true → ((q : ℚ) → transit ≡ Some q → IsFraction q) → ((c : Option ℚ) → capacity ≡ Some c → IsReadCapacity version c)
    → link_entry name tail head transit capacity ≡ Ok entry → IsReadEntry version entry
link_numbers version name tail head (Some q) (Some c) entry a b d f g e =
    subst (IsReadEntry version) (same_Ok _ entry e) (record { name = a; tail = b; head = d; fraction = f q refl; capacity = g c refl })
link_numbers version name tail head transit capacity entry a b d f g e = absurd (cc)

link_read_as : (version : ℕ) (words : List (List ℕ)) (entry : Entry) → link_line version words ≡ Ok entry → IsReadEntry version entry
link_read_as version (name ∷ tail ∷ head ∷ transit ∷ capacity ∷ []) entry e =
    let p = if_or_fault (is_name name && (is_name tail && is_name head)) (link_entry name tail head (number_in version transit) (capacity_in version capacity)) N7 entry e in
    let a = and_parts (is_name name) (is_name tail && is_name head) p.0 in
    let b = and_parts (is_name tail) (is_name head) a.1 in
    link_numbers version name tail head (number_in version transit) (capacity_in version capacity) entry a.0 b.0 b.1
    (λ q. number_kept version transit q) (λ c. capacity_kept version capacity c) p.1
link_read_as version words entry e = absurd (cc)

inflow_numbers : (version : ℕ) (start rate : Option ℚ) (entry : Entry) → ((q : ℚ) → start ≡ Some q → IsFraction q) → ((q : ℚ) → rate ≡ Some q → IsFraction q)
    → inflow_entry start rate ≡ Ok entry → IsReadEntry version entry
inflow_numbers version (Some s) (Some r) entry f g e = subst (IsReadEntry version) (same_Ok _ entry e) (record { start = f s refl; rate = g r refl })
inflow_numbers version start rate entry f g e = absurd (cc)

inflow_read_as : (version : ℕ) (words : List (List ℕ)) (entry : Entry) → inflow_line version words ≡ Ok entry → IsReadEntry version entry
inflow_read_as version (start ∷ rate ∷ []) entry e =
    inflow_numbers version (number_in version start) (number_in version rate) entry (λ q. number_kept version start q) (λ q. number_kept version rate q) e
inflow_read_as version words entry e = absurd (cc)

end_read_as : (version : ℕ) (words : List (List ℕ)) (entry : Entry) → end_line words ≡ Ok entry → IsReadEntry version entry
end_read_as version [] entry e = subst (IsReadEntry version) (same_Ok End entry e) tt
end_read_as version (w ∷ words) entry e = absurd (cc)

entry_read_as : (version : ℕ) (words : List (List ℕ)) (entry : Entry) → entry_of version words ≡ Ok entry → IsReadEntry version entry
entry_read_as version [] entry e = absurd (cc)
entry_read_as version (key ∷ words) entry e = elim (if_either (bytes_eq key (codes "source")) (node_line (λ name. Source name) words) _ (Ok entry) e) [
  | inl f ↦ node_read_as version (λ name. Source name) (λ name h. h) words entry f
  | inr f ↦ elim (if_either (bytes_eq key (codes "sink")) (node_line (λ name. Sink name) words) _ (Ok entry) f) [
    | inl g ↦ node_read_as version (λ name. Sink name) (λ name h. h) words entry g
    | inr g ↦ elim (if_either (bytes_eq key (codes "link")) (link_line version words) _ (Ok entry) g) [
      | inl h ↦ link_read_as version words entry h
      | inr h ↦ elim (if_either (bytes_eq key (codes "inflow")) (inflow_line version words) _ (Ok entry) h) [
        | inl k ↦ inflow_read_as version words entry k
        | inr k ↦ elim (if_either (bytes_eq key (codes "end")) (end_line words) (Err N5) (Ok entry) k) [
          | inl m ↦ end_read_as version words entry m
          | inr m ↦ absurd (cc)
        ]
      ]
    ]
  ]
]

-- ---- what holds of all lines read so far
-- The names of the nodes, among them those of the source and the sink.
pub record AreGoodNodes (source_name sink_name : Option Name) (nodes : List Name) : Type 0 where
  pub source : (name : Name) → source_name ≡ Some name → has_name nodes name ≡ true
  pub sink : (name : Name) → sink_name ≡ Some name → has_name nodes name ≡ true
  pub names : list_all is_name nodes ≡ true
  pub distinct : IsDistinct bytes_eq nodes
  pub few_nodes : length nodes ≤ 64

pub record AreGoodLinks (version : ℕ) (nodes : List Name) (all : List NamedLink) : Type 0 where
  pub links : AllByRecursion (IsNamedLink version) all
  pub ends_there : list_all (has_name nodes) (ends all) ≡ true
  pub link_names : IsDistinct bytes_eq (names_of all)
  pub few_links : length all ≤ 200

pub record AreGoodPieces (all : List Piece) : Type 0 where
  pub pieces : AllByRecursion IsFractionPiece all
  pub few_pieces : length all ≤ 200
  pub not_negative : AreNotNegative all
  pub rise : Rises None all

pub record IsGoodDraft (draft : Draft) : Type 0 where
  pub version : (draft.version ≡ 1) ⊎ (draft.version ≡ 2)
  pub good_nodes : AreGoodNodes draft.source draft.sink draft.nodes
  pub open good_nodes use *
  pub good_links : AreGoodLinks draft.version draft.nodes draft.links
  pub open good_links use *
  pub good_pieces : AreGoodPieces draft.pieces
  pub open good_pieces use *

-- ---- rules that aren't broken
first_says_no : (test : Bool) (rule : NetRule) (rest : List (Bool × NetRule)) → first_rule ((test, rule) ∷ rest) ≡ None → (test ≡ false) × (first_rule rest ≡ None)
first_says_no true rule rest e = absurd (cc)
first_says_no false rule rest e = (refl, e)

pub from_not_negative : (x : ℚ) → is_negative x ≡ false → 0ℚ ≤ℚ x
unfolding lt_ℚ
from_not_negative x e = le_of_test 0ℚ x (not-false (le_ℚ 0ℚ x) e)

from_capacity : (version : ℕ) (capacity : Option ℚ) → IsReadCapacity version capacity → is_no_capacity capacity ≡ false → IsCapacity version capacity
from_capacity version None h e = h
from_capacity version (Some q) h e = (h, lt_of_test q 0ℚ e)

few_names : (draft : Draft) (names : List Name) → too_many_nodes draft names ≡ false → length (with_names draft.nodes names) ≤ 64
few_names draft names e = ltb-false 64 (length (with_names draft.nodes names)) e

one_more_below : {X : Type 0} (xs : List X) (x : X) → nat_le 200 (length xs) ≡ false → length (xs ++ x ∷ []) ≤ 200
one_more_below xs x e = let low : length xs < 200 = leb-false 200 (length xs) e in let long : length (xs ++ x ∷ []) ≡ length xs + 1 = length-append xs (x ∷ []) in omega arith

rises_push : (before : Option Piece) (xs : List Piece) (piece : Piece) → Rises before xs → is_not_after piece.start (last_or before xs) ≡ false → Rises before (xs ++ piece ∷ [])
rises_push before [] piece h e = (e, tt)
rises_push before (x ∷ xs) piece h e = (h.0, rises_push (Some x) xs piece h.1 e)

one_there : (names : List Name) (x : Name) → has_name (with_names names (x ∷ [])) x ≡ true
one_there names x = now_there names (x ∷ []) x (or_left (bytes_eq x x) false (bytes_eq-self x))

-- ---- with one line more
module _ (draft : Draft) (h : IsGoodDraft draft) where
  -- the nodes, with some behind
  ends_kept : (more : List Name) → list_all (has_name (with_names draft.nodes more)) (ends draft.links) ≡ true
  ends_kept more = all_weakened (has_name draft.nodes) (has_name (with_names draft.nodes more)) (λ name e. still_there draft.nodes more name e) (ends draft.links) h.ends_there

  -- with a node named as the source or the sink
  end_named : (name : Name) (source sink : Option Name) → is_name name ≡ true → too_many_nodes draft (name ∷ []) ≡ false
      → ((other : Name) → source ≡ Some other → has_name (with_names draft.nodes (name ∷ [])) other ≡ true)
      → ((other : Name) → sink ≡ Some other → has_name (with_names draft.nodes (name ∷ [])) other ≡ true)
      → IsGoodDraft (record draft { source = source; sink = sink; nodes = with_names draft.nodes (name ∷ []) })
  end_named name source sink good few to from = record {
    version = h.version;
    good_nodes = record {
      source = to;
      sink = from;
      names = all_with_names is_name draft.nodes (name ∷ []) h.names (λ i. good i && true);
      distinct = distinct_with_names draft.nodes (name ∷ []) h.distinct;
      few_nodes = few_names draft (name ∷ []) few;
    };
    good_links = record { links = h.links; ends_there = ends_kept (name ∷ []); link_names = h.link_names; few_links = h.few_links };
    good_pieces = h.good_pieces;
  }

  named : (name other : Name) → Some name ≡ Some other → has_name (with_names draft.nodes (name ∷ [])) other ≡ true
  named name other is = subst (λ x. has_name (with_names draft.nodes (name ∷ [])) x ≡ true) (same_Some name other is) (one_there draft.nodes name)

  source_kept : (name : Name) → is_name name ≡ true → broken_rule draft (Source name) ≡ None → IsGoodDraft (after draft (Source name))
  source_kept name good e =
      let a = first_says_no (is_some draft.source) N9 ((too_many_nodes draft (name ∷ []), N10) ∷ []) e in
      let b = first_says_no (too_many_nodes draft (name ∷ [])) N10 [] a.1 in
      end_named name (Some name) draft.sink good b.0 (named name) (λ other is. still_there draft.nodes (name ∷ []) other (h.sink other is))

  sink_kept : (name : Name) → is_name name ≡ true → broken_rule draft (Sink name) ≡ None → IsGoodDraft (after draft (Sink name))
  sink_kept name good e =
      let a = first_says_no (is_some draft.sink) N9 ((too_many_nodes draft (name ∷ []), N10) ∷ []) e in
      let b = first_says_no (too_many_nodes draft (name ∷ [])) N10 [] a.1 in
      end_named name draft.source (Some name) good b.0 (λ other is. still_there draft.nodes (name ∷ []) other (h.source other is)) (named name)

  link_kept : (l : NamedLink) → IsReadLink draft.version l → broken_rule draft (LinkLine l) ≡ None → IsGoodDraft (after draft (LinkLine l))
  link_kept l good e =
      let two : List Name = l.tail ∷ l.head ∷ [] in
      let a = first_says_no (has_name (names_of draft.links) l.name) N9 ((
        too_many_nodes draft (l.tail ∷ l.head ∷ []),
        N10,
      ) ∷ (nat_le 200 (length draft.links), N11) ∷ (is_negative l.transit, N13) ∷ (is_no_capacity l.capacity, N14) ∷ []) e in
      let b = first_says_no (too_many_nodes draft (l.tail ∷ l.head ∷ [])) N10
      ((nat_le 200 (length draft.links), N11) ∷ (is_negative l.transit, N13) ∷ (is_no_capacity l.capacity, N14) ∷ []) a.1 in
      let c = first_says_no (nat_le 200 (length draft.links)) N11 ((is_negative l.transit, N13) ∷ (is_no_capacity l.capacity, N14) ∷ []) b.1 in
      let d = first_says_no (is_negative l.transit) N13 ((is_no_capacity l.capacity, N14) ∷ []) c.1 in
      let f = first_says_no (is_no_capacity l.capacity) N14 [] d.1 in
      record {
        version = h.version;
        good_nodes = record {
          source = λ other is. still_there draft.nodes (l.tail ∷ l.head ∷ []) other (h.source other is);
          sink = λ other is. still_there draft.nodes (l.tail ∷ l.head ∷ []) other (h.sink other is);
          names = all_with_names is_name draft.nodes (l.tail ∷ l.head ∷ []) h.names (λ i. good.tail i && (good.head i && true));
          distinct = distinct_with_names draft.nodes (l.tail ∷ l.head ∷ []) h.distinct;
          few_nodes = few_names draft (l.tail ∷ l.head ∷ []) b.0;
        };
        good_links = record {
          links = all_push (IsNamedLink draft.version) draft.links l h.links (record {
            name = good.name;
            tail = good.tail;
            head = good.head;
            fraction = good.fraction;
            transit = from_not_negative l.transit d.0;
            capacity = from_capacity draft.version l.capacity good.capacity f.0;
          });
          ends_there = ap (list_all (has_name (with_names draft.nodes (l.tail ∷ l.head ∷ [])))) (ends-append draft.links (l ∷ []))
              ∙ all_pushed (has_name (with_names draft.nodes (l.tail ∷ l.head ∷ []))) (ends draft.links) (l.tail ∷ l.head ∷ []) (ends_kept (l.tail ∷ l.head ∷ []))
              (λ i. now_there draft.nodes (l.tail ∷ l.head ∷ []) l.tail (or_left (bytes_eq l.tail l.tail) (bytes_eq l.tail l.head || false) (bytes_eq-self l.tail)) i
              && (now_there draft.nodes (l.tail ∷ l.head ∷ []) l.head (or_right (bytes_eq l.head l.tail) (bytes_eq l.head l.head || false)
              (or_left (bytes_eq l.head l.head) false (bytes_eq-self l.head))) i && true));
          link_names = subst (IsDistinct bytes_eq) (sym (map-append (λ (l : NamedLink). l.name) draft.links (l ∷ []))) (distinct_push (names_of draft.links) l.name h.link_names a.0);
          few_links = one_more_below draft.links l c.0;
        };
        good_pieces = h.good_pieces;
      }

  piece_kept : (piece : Piece) → IsFractionPiece piece → broken_rule draft (InflowLine piece) ≡ None → IsGoodDraft (after draft (InflowLine piece))
  piece_kept piece good e =
      let a = first_says_no (nat_le 200 (length draft.pieces)) N12 ((
        is_negative piece.start || is_negative piece.rate,
        N15,
      ) ∷ (is_not_after piece.start (last_or None draft.pieces), N16) ∷ []) e in
      let b = first_says_no (is_negative piece.start || is_negative piece.rate) N15 ((is_not_after piece.start (last_or None draft.pieces), N16) ∷ []) a.1 in
      let c = first_says_no (is_not_after piece.start (last_or None draft.pieces)) N16 [] b.1 in
      let signs = or_parts (is_negative piece.start) (is_negative piece.rate) b.0 in
      record {
        version = h.version;
        good_nodes = h.good_nodes;
        good_links = h.good_links;
        good_pieces = record {
          pieces = all_push IsFractionPiece draft.pieces piece h.pieces good;
          few_pieces = one_more_below draft.pieces piece a.0;
          not_negative = all_push (λ (piece : Piece). (0ℚ ≤ℚ piece.start) × (0ℚ ≤ℚ piece.rate)) draft.pieces piece h.not_negative
              (from_not_negative piece.start signs.0, from_not_negative piece.rate signs.1);
          rise = rises_push None draft.pieces piece h.rise c.0;
        };
      }

  end_kept : IsGoodDraft (after draft End)
  end_kept = record { version = h.version; good_nodes = h.good_nodes; good_links = h.good_links; good_pieces = h.good_pieces }

  entry_kept : (entry : Entry) → IsReadEntry draft.version entry → broken_rule draft entry ≡ None → IsGoodDraft (after draft entry)
  entry_kept (Source name) good e = source_kept name good e
  entry_kept (Sink name) good e = sink_kept name good e
  entry_kept (LinkLine l) good e = link_kept l good e
  entry_kept (InflowLine piece) good e = piece_kept piece good e
  entry_kept End good e = end_kept

  unless_kept : (entry : Entry) (rule : Option NetRule) (next : Draft) → IsReadEntry draft.version entry → broken_rule draft entry ≡ rule
      → unless rule (after draft entry) ≡ Ok next → IsGoodDraft next
  unless_kept entry None next good f e = subst IsGoodDraft (same_Ok (after draft entry) next e) (entry_kept entry good f)
  unless_kept entry (Some rule) next good f e = absurd (cc)

  said_kept : (says : Result Entry NetRule) (next : Draft) → ((entry : Entry) → says ≡ Ok entry → IsReadEntry draft.version entry)
      → (says >>= λ entry. unless (broken_rule draft entry) (after draft entry)) ≡ Ok next → IsGoodDraft next
  said_kept (Ok entry) next good e = unless_kept entry (broken_rule draft entry) next (good entry refl) refl e
  said_kept (Err rule) next good e = absurd (cc)

  unended_kept : (words : List (List ℕ)) (ended : Bool) (next : Draft)
      → (if ended then Err N4 else (entry_of draft.version words >>= λ entry. unless (broken_rule draft entry) (after draft entry))) ≡ Ok next → IsGoodDraft next
  unended_kept words true next e = absurd (cc)
  unended_kept words false next e = said_kept (entry_of draft.version words) next (λ entry. entry_read_as draft.version words entry) e

  pub line_kept : (words : List (List ℕ)) (next : Draft) → add_line draft words ≡ Ok next → IsGoodDraft next
  line_kept words next e = unended_kept words draft.ended next e

-- ---- with all lines
lines_kept : (lines : List ReadLine) (draft last : Draft) → IsGoodDraft draft → add_lines draft lines ≡ Ok last → IsGoodDraft last
lines_kept [] draft last h e = subst IsGoodDraft (same_Ok draft last e) h
lines_kept (line ∷ rest) draft last h e = step (add_line draft line.words) (line_kept draft h line.words) e (λ next. lines_kept rest next last)
  where
    step : (r : Result Draft NetRule) → ((next : Draft) → r ≡ Ok next → IsGoodDraft next) → (in_line line.number r >>= λ next. add_lines next rest) ≡ Ok last
        → ((next : Draft) → IsGoodDraft next → add_lines next rest ≡ Ok last → IsGoodDraft last) → IsGoodDraft last
    step (Ok next) good e f = f next (good next refl) e
    step (Err rule) good e f = absurd (cc)

empty_good : (version : ℕ) → (version ≡ 1) ⊎ (version ≡ 2) → IsGoodDraft (empty_draft version)
unfolding IsDistinct
empty_good version v = record {
  version = v;
  good_nodes = record { source = λ name e. absurd (cc); sink = λ name e. absurd (cc); names = refl; distinct = tt; few_nodes = omega arith };
  good_links = record { links = tt; ends_there = refl; link_names = tt; few_links = omega arith };
  good_pieces = record { pieces = tt; few_pieces = omega arith; not_negative = tt; rise = tt };
}

version_is : (words : List (List ℕ)) (version : ℕ) → version_of words ≡ Some version → (version ≡ 1) ⊎ (version ≡ 2)
version_is (key ∷ word ∷ []) version e = cases (bytes_eq key (codes "nfot") && bytes_eq word (codes "1")) (bytes_eq key (codes "nfot") && bytes_eq word (codes "2")) e
  where
    cases : (a b : Bool) → (if a then Some 1 else (if b then Some 2 else None)) ≡ Some version → (version ≡ 1) ⊎ (version ≡ 2)
    cases true b e = inl (sym (ap (λ o. unwrap_or o 1) e))
    cases false true e = inr (sym (ap (λ o. unwrap_or o 2) e))
    cases false false e = absurd (cc)
version_is words version e = absurd (cc)

pub draft_kept : (lines : List ReadLine) (draft : Draft) → draft_from lines ≡ Ok draft → IsGoodDraft draft
draft_kept [] draft e = absurd (cc)
draft_kept (first ∷ rest) draft e = step (version_of first.words) (version_is first.words) e
  where
    step : (v : Option ℕ) → ((version : ℕ) → v ≡ Some version → (version ≡ 1) ⊎ (version ≡ 2)) → draft_after v first.number rest ≡ Ok draft → IsGoodDraft draft
    step (Some version) good e = lines_kept rest (empty_draft version) draft (empty_good version (good version refl)) e
    step None good e = absurd (cc)
