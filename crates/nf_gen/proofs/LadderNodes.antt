-- The nodes of a ladder: those that its links lead from and to, in the order of first appearance.
use Rattle.std.proofs.Common.{◌≡◌, ℕ, zero, suc, ◌+◌, ◌-◌, ◌*◌, ◌≤◌, Bool, true, List, [], ◌∷◌, ◌++◌, length, map, flat_map, codes, refl, sym, ◌∙◌, ap}
use Rattle.std.proofs.Common.{arith, append_assoc, length-append}
use Rattle.nf_gen.proofs.Common.{AllByRecursion, list_all, range_with_len, and_from, or_from, or_left, flat_map-append, Name, is_name, has_name, with_names}
use Rattle.nf_gen.proofs.Common.{NamedLink, ends, names_of, has_name-append, with_name_there, with_name_new, with_names-append, upper, lower, Ends}
use Rattle.nf_gen.proofs.Common.{rails_on, rung_at, links_in, links_along, links_down, links_out, ladder_ends, drawn_links, rung_nodes, ladder_nodes}
use Rattle.nf_gen.proofs.Common.{every_append}
use Rattle.nf_gen.proofs.Ranges.{all_flat, all_map, count_push}
use Rattle.nf_gen.proofs.LadderNames.{lettered_is_name, no_upper, no_lower, has_upper, has_lower}

-- ---- what is drawn changes no names
-- the ends of links, in order
abbrev pub ends_of : List Ends → List Name
ends_of links = flat_map (λ (l : Ends). l.tail ∷ l.head ∷ []) links

pub ends-drawn : (number place : ℕ) (links : List Ends) → ends (drawn_links number place links) ≡ ends_of links
ends-drawn number place [] = refl
ends-drawn number place (l ∷ links) = ap (λ r. l.tail ∷ l.head ∷ r) (ends-drawn number (place + 1) links)

pub names-drawn : (number place : ℕ) (links : List Ends) → names_of (drawn_links number place links) ≡ map (λ (l : Ends). l.name) links
names-drawn number place [] = refl
names-drawn number place (l ∷ links) = ap (λ r. l.name ∷ r) (names-drawn number (place + 1) links)

ends_of-append : (xs ys : List Ends) → ends_of (xs ++ ys) ≡ ends_of xs ++ ends_of ys
ends_of-append xs ys = flat_map-append (λ (l : Ends). l.tail ∷ l.head ∷ []) xs ys

-- ---- with one rung more
nodes_push : (k : ℕ) → ladder_nodes (suc k) ≡ ladder_nodes k ++ upper (suc k) ∷ lower (suc k) ∷ []
nodes_push k =
    ap (λ r. codes "s" ∷ codes "t" ∷ flat_map rung_nodes r) (count_push k)
    ∙ ap (λ r. codes "s" ∷ codes "t" ∷ r) (flat_map-append rung_nodes (range_with_len 1 k) (suc k ∷ []))

-- the links from a rung on put the nodes of the next one behind
next_rung : (k j : ℕ) → 1 ≤ k → j ≡ suc k → with_names (ladder_nodes k) (upper k ∷ upper j ∷ lower k ∷ lower j ∷ []) ≡ ladder_nodes (suc k)
next_rung k j some e =
    ap (λ (m : ℕ). with_names (ladder_nodes k) (upper k ∷ upper m ∷ lower k ∷ lower m ∷ [])) e
    ∙ ap (λ names. with_names names (upper (suc k) ∷ lower k ∷ lower (suc k) ∷ [])) (with_name_there (ladder_nodes k) (upper k) (has_upper 1 k k some (omega arith)))
    ∙ ap (λ names. with_names names (lower k ∷ lower (suc k) ∷ [])) (with_name_new (ladder_nodes k) (upper (suc k)) (no_upper 1 k (suc k) (omega arith)))
    ∙ ap (λ names. with_names names (lower (suc k) ∷ []))
    (with_name_there (ladder_nodes k ++ upper (suc k) ∷ []) (lower k)
    (has_name-append (ladder_nodes k) (upper (suc k) ∷ []) (lower k) ∙ or_left (has_name (ladder_nodes k) (lower k))
    (has_name (upper (suc k) ∷ []) (lower k)) (has_lower 1 k k some (omega arith))))
    ∙ with_name_new (ladder_nodes k ++ upper (suc k) ∷ []) (lower (suc k))
    (has_name-append (ladder_nodes k) (upper (suc k) ∷ []) (lower (suc k))
    ∙ or_from (has_name (ladder_nodes k) (lower (suc k))) (has_name (upper (suc k) ∷ []) (lower (suc k))) (no_lower 1 k (suc k) (omega arith)) refl)
    ∙ append_assoc (ladder_nodes k) (upper (suc k) ∷ []) (lower (suc k) ∷ [])
    ∙ sym (nodes_push k)

along_rails : (k : ℕ) → with_names (ladder_nodes 1) (ends_of (flat_map rails_on (range_with_len 1 k))) ≡ ladder_nodes (suc k)
along_rails zero = refl
along_rails (suc k) =
    ap (λ r. with_names (ladder_nodes 1) (ends_of (flat_map rails_on r))) (count_push k)
    ∙ ap (λ r. with_names (ladder_nodes 1) (ends_of r)) (flat_map-append rails_on (range_with_len 1 k) (suc k ∷ []))
    ∙ ap (λ r. with_names (ladder_nodes 1) r) (ends_of-append (flat_map rails_on (range_with_len 1 k)) (rails_on (suc k)))
    ∙ with_names-append (ladder_nodes 1) (ends_of (flat_map rails_on (range_with_len 1 k))) (ends_of (rails_on (suc k)))
    ∙ ap (λ names. with_names names (ends_of (rails_on (suc k)))) (along_rails k)
    ∙ next_rung (suc k) (suc k + 1) (omega arith) (omega arith)

-- ---- ends that are there already
-- both ends of a link are among names
abbrev pub HasEnds : List Name → Ends → Type 0
HasEnds names l = (has_name names l.tail ≡ true) × (has_name names l.head ≡ true)

abbrev pub HasBoth : List Name → NamedLink → Type 0
HasBoth names l = (has_name names l.tail ≡ true) × (has_name names l.head ≡ true)

pub drawn_ends : (names : List Name) (number place : ℕ) (links : List Ends) → AllByRecursion (HasEnds names) links → AllByRecursion (HasBoth names) (drawn_links number place links)
drawn_ends names number place [] h = tt
drawn_ends names number place (l ∷ links) h = (h.0, drawn_ends names number (place + 1) links h.1)

each_end : (names : List Name) (links : List Ends) → AllByRecursion (HasEnds names) links → AllByRecursion (λ x. has_name names x ≡ true) (ends_of links)
each_end names [] h = tt
each_end names (l ∷ links) h = (h.0.0, (h.0.1, each_end names links h.1))

already_there : (names more : List Name) → AllByRecursion (λ x. has_name names x ≡ true) more → with_names names more ≡ names
already_there names [] h = refl
already_there names (x ∷ more) h = ap (λ l. with_names l more) (with_name_there names x h.0) ∙ already_there names more h.1

tested : (test : Name → Bool) (names : List Name) → AllByRecursion (λ x. test x ≡ true) names → list_all test names ≡ true
tested test [] h = refl
tested test (x ∷ names) h = and_from (test x) (list_all test names) h.0 (tested test names h.1)

length_rails : (a n : ℕ) → length (flat_map rung_nodes (range_with_len a n)) ≡ 2 * n
length_rails a zero = refl
length_rails a (suc n) = let h : length (flat_map rung_nodes (range_with_len (a + 1) n)) ≡ 2 * n = length_rails (a + 1) n in omega arith

length_along : (a n : ℕ) → length (flat_map rails_on (range_with_len a n)) ≡ 2 * n
length_along a zero = refl
length_along a (suc n) = let h : length (flat_map rails_on (range_with_len (a + 1) n)) ≡ 2 * n = length_along (a + 1) n in omega arith

length_down : (a n : ℕ) → length (map rung_at (range_with_len a n)) ≡ n
length_down a zero = refl
length_down a (suc n) = ap (λ (k : ℕ). suc k) (length_down (a + 1) n)

-- ---- the whole ladder
module _ (rungs : ℕ) (some : 1 ≤ rungs) where
  upper_there : (j : ℕ) → 1 ≤ j → j ≤ rungs → has_name (ladder_nodes rungs) (upper j) ≡ true
  upper_there j low high = has_upper 1 rungs j low (omega arith)

  lower_there : (j : ℕ) → 1 ≤ j → j ≤ rungs → has_name (ladder_nodes rungs) (lower j) ≡ true
  lower_there j low high = has_lower 1 rungs j low (omega arith)

  ends_down : AllByRecursion (HasEnds (ladder_nodes rungs)) (links_down rungs)
  ends_down = all_map (HasEnds (ladder_nodes rungs)) rung_at 1 rungs (λ j low high. (upper_there j low (omega arith), lower_there j low (omega arith)))

  ends_out : AllByRecursion (HasEnds (ladder_nodes rungs)) (links_out rungs)
  ends_out = ((upper_there rungs some (omega arith), refl), ((lower_there rungs some (omega arith), refl), tt))

  ends_along : AllByRecursion (HasEnds (ladder_nodes rungs)) (links_along rungs)
  ends_along = all_flat (HasEnds (ladder_nodes rungs)) rails_on 1 (rungs - 1) (λ j low high. (
    (upper_there j low (omega arith), upper_there (j + 1) (omega arith) (omega arith)),
    ((lower_there j low (omega arith), lower_there (j + 1) (omega arith) (omega arith)), tt),
  ))

  ends_into : AllByRecursion (HasEnds (ladder_nodes rungs)) links_in
  ends_into = ((refl, upper_there 1 (omega arith) some), ((refl, lower_there 1 (omega arith) some), tt))

  pub ends_there : AllByRecursion (HasEnds (ladder_nodes rungs)) (ladder_ends rungs)
  ends_there =
      every_append (HasEnds (ladder_nodes rungs)) (links_in ++ links_along rungs ++ links_down rungs) (links_out rungs)
      (every_append (HasEnds (ladder_nodes rungs)) (links_in ++ links_along rungs) (links_down rungs)
      (every_append (HasEnds (ladder_nodes rungs)) links_in (links_along rungs) ends_into ends_along) ends_down) ends_out

  pub ends_listed : list_all (has_name (ladder_nodes rungs)) (ends_of (ladder_ends rungs)) ≡ true
  ends_listed = tested (has_name (ladder_nodes rungs)) (ends_of (ladder_ends rungs)) (each_end (ladder_nodes rungs) (ladder_ends rungs) ends_there)

  all_rungs : with_names (ladder_nodes 1) (ends_of (links_along rungs)) ≡ ladder_nodes rungs
  all_rungs = along_rails (rungs - 1) ∙ (let e : suc (rungs - 1) ≡ rungs = omega arith in ap (λ (k : ℕ). ladder_nodes k) e)

  -- the nodes are those that the links name, after the source and the sink
  pub nodes_are : with_names (codes "s" ∷ codes "t" ∷ []) (ends_of (ladder_ends rungs)) ≡ ladder_nodes rungs
  nodes_are =
      ap (λ r. with_names (codes "s" ∷ codes "t" ∷ []) r) (ends_of-append (links_in ++ links_along rungs ++ links_down rungs) (links_out rungs) ∙ ap (λ r. r ++ ends_of (links_out rungs)) (ends_of-append (links_in ++ links_along rungs) (links_down rungs) ∙ ap (λ r. r ++ ends_of (links_down rungs)) (ends_of-append links_in (links_along rungs))))
      ∙ with_names-append (codes "s" ∷ codes "t" ∷ []) (ends_of links_in ++ ends_of (links_along rungs) ++ ends_of (links_down rungs)) (ends_of (links_out rungs))
      ∙ ap (λ names. with_names names (ends_of (links_out rungs)))
      (with_names-append (codes "s" ∷ codes "t" ∷ []) (ends_of links_in ++ ends_of (links_along rungs)) (ends_of (links_down rungs))
      ∙ ap (λ names. with_names names (ends_of (links_down rungs))) (with_names-append (codes "s" ∷ codes "t" ∷ []) (ends_of links_in) (ends_of (links_along rungs)) ∙ all_rungs)
      ∙ already_there (ladder_nodes rungs) (ends_of (links_down rungs)) (each_end (ladder_nodes rungs) (links_down rungs) ends_down))
      ∙ already_there (ladder_nodes rungs) (ends_of (links_out rungs)) (each_end (ladder_nodes rungs) (links_out rungs) ends_out)

  pub node_names : rungs ≤ 30 → list_all is_name (ladder_nodes rungs) ≡ true
  node_names few = tested is_name (ladder_nodes rungs) (
    refl,
    (
      refl,
      all_flat (λ x. is_name x ≡ true) rung_nodes 1 rungs (λ j low high. (
        lettered_is_name 117 j refl (omega arith),
        (lettered_is_name 108 j refl (omega arith), tt),
      )),
    ),
  )

  pub node_count : length (ladder_nodes rungs) ≡ 2 * rungs + 2
  node_count = let h : length (flat_map rung_nodes (range_with_len 1 rungs)) ≡ 2 * rungs = length_rails 1 rungs in omega arith

  pub link_count : length (ladder_ends rungs) ≡ 3 * rungs + 2
  link_count =
      let all : length (links_in ++ links_along rungs ++ links_down rungs ++ links_out rungs) ≡ length
      (links_in ++ links_along rungs ++ links_down rungs) + 2 = length-append (links_in ++ links_along rungs ++ links_down rungs) (links_out rungs) in
      let front : length (links_in ++ links_along rungs ++ links_down rungs) ≡ length (links_in ++ links_along rungs) + length (links_down rungs) =
      length-append (links_in ++ links_along rungs) (links_down rungs) in
      let first : length (links_in ++ links_along rungs) ≡ 2 + length (links_along rungs) = length-append links_in (links_along rungs) in
      let a : length (links_along rungs) ≡ 2 * (rungs - 1) = length_along 1 (rungs - 1) in
      let b : length (links_down rungs) ≡ rungs = length_down 1 rungs in
      omega arith
