-- A ladder is a network within the limits of a file, and its canonical text is read as it.
use Rattle.std.proofs.Common.{map, ◌≡◌, ℕ, suc, ◌+◌, ◌-◌, ◌*◌, ◌%◌, ◌<◌, ◌≤◌, true, false, not, List, [], ◌∷◌, ◌++◌, length, Option, Some, None, Ok, pos}
use Rattle.std.proofs.Common.{codes, unwrap_or, bytes_eq, inl, refl, sym, ◌∙◌, ap, subst, arith}
use Rattle.nf_gen.proofs.Common.{length-map, AllByRecursion, AllZip, IsDistinct, list_all, nn_whole, Name, is_name, has_name, place_of, with_names}
use Rattle.nf_gen.proofs.Common.{NamedLink, numbered, links_by_name, active_links, ends, names_of, IsReached, LeavesUnreached, BreaksRule, closing_rules}
use Rattle.nf_gen.proofs.Common.{marked, network_of, AreActive, Reads, canonical, IsFractionPiece, IsNamedLink, IsNamed, name_at-place, place_below}
use Rattle.nf_gen.proofs.Common.{bytes_eq-self, is_named, every_append, drawn, upper, lower, Ends, rails_on, rung_at, links_in, links_along, links_down}
use Rattle.nf_gen.proofs.Common.{links_out, ladder_ends, drawn_links, drawn_pieces, ladder_nodes, ladder_links}
use Rattle.std.specs.Bool.{Decides}
use Rattle.nf_rational.specs.Rational.{ratio}
use Rattle.nf_rational.specs.Gcd.{gcd}
use Rattle.nf_rational.specs.Operations.{whole}
use Rattle.nf_rational.specs.Order.{le_ℚ}
use Rattle.nf_net_laws.proofs.LinesBack.{Rises, AreNotNegative}
use Rattle.nf_net_laws.proofs.DraftKept.{IsGoodDraft}
use Rattle.nf_net_laws.proofs.AcceptedNodes.{all_implied}
use Rattle.nf_net_laws.proofs.CanonicalBack.{canonical_back}
use Rattle.nf_gen.specs.Ladder.{ladder}
use Rattle.nf_gen.specs.Laws.{IsLadder}
use Rattle.nf_gen.proofs.Wholes.{small_fraction, above_zero}
use Rattle.nf_gen.proofs.Ranges.{all_flat, all_map}
use Rattle.nf_gen.proofs.LadderNames.{lettered_is_name, distinct_nodes, link_names, distinct_links}
use Rattle.nf_gen.proofs.LadderNodes.{ends_of, ends-drawn, names-drawn, HasBoth, ends_listed, nodes_are, node_names, node_count, link_count}
use Rattle.nf_gen.proofs.LadderWalks.{file_of, node_reached, both_there, no_zero_cycle, no_passing_sum}

-- ---- links
record AreNamesOf (l : Ends) : Type 0 where
  name : is_name l.name ≡ true
  tail : is_name l.tail ≡ true
  head : is_name l.head ≡ true

drawn_named : (number place : ℕ) (links : List Ends) → AllByRecursion AreNamesOf links → AllByRecursion (IsNamedLink 1) (drawn_links number place links)
drawn_named number place [] h = tt
drawn_named number place (l ∷ links) h = (
  record {
    name = h.0.name;
    tail = h.0.tail;
    head = h.0.head;
    fraction = small_fraction (1 + drawn number (2 * place + 1) % 5) (omega arith);
    transit = nn_whole (1 + drawn number (2 * place + 1) % 5);
    capacity = (small_fraction (1 + drawn number (2 * place + 2) % 4) (omega arith), above_zero (1 + drawn number (2 * place + 2) % 4) (omega arith));
  },
  drawn_named number (place + 1) links h.1,
)

length-drawn : (number place : ℕ) (links : List Ends) → length (drawn_links number place links) ≡ length links
length-drawn number place [] = refl
length-drawn number place (l ∷ links) = ap (λ (k : ℕ). suc k) (length-drawn number (place + 1) links)

-- numbers of nodes stand for their names
by_name : (nodes : List Name) (links : List NamedLink) → AllByRecursion (HasBoth nodes) links → links_by_name nodes (names_of links) (map (numbered nodes) links) ≡ links
by_name nodes [] h = refl
by_name nodes (l ∷ links) h =
    λ i. record {
      name = l.name;
      tail = name_at-place nodes l.tail h.0.0 i;
      head = name_at-place nodes l.head h.0.1 i;
      transit = l.transit;
      capacity =
          l.capacity;
    } ∷ by_name nodes links h.1 i

-- ---- pieces
ten_is_later : le_ℚ (whole (pos 10)) (whole (pos 0)) ≡ false
unfolding whole ratio gcd le_ℚ
ten_is_later = refl

twenty_is_later : le_ℚ (whole (pos 20)) (whole (pos 10)) ≡ false
unfolding whole ratio gcd le_ℚ
twenty_is_later = refl

fraction_piece : (start rate : ℕ) → start ≤ 1000 → rate ≤ 1000 → IsFractionPiece (record { start = whole (pos start); rate = whole (pos rate) })
fraction_piece start rate h k = record { start = small_fraction start h; rate = small_fraction rate k }

fraction_pieces : (number links : ℕ) → AllByRecursion IsFractionPiece (drawn_pieces number links)
fraction_pieces number links = (
  fraction_piece 0 (1 + drawn number (2 * links + 1) % 6) (omega arith) (omega arith),
  (fraction_piece 10 (1 + drawn number (2 * links + 2) % 6) (omega arith) (omega arith), (fraction_piece 20 0 (omega arith) (omega arith), tt)),
)

not_negative : (number links : ℕ) → AreNotNegative (drawn_pieces number links)
not_negative number links = (
  (nn_whole 0, nn_whole (1 + drawn number (2 * links + 1) % 6)),
  ((nn_whole 10, nn_whole (1 + drawn number (2 * links + 2) % 6)), ((nn_whole 20, nn_whole 0), tt)),
)

rising : (number links : ℕ) → Rises None (drawn_pieces number links)
rising number links = (refl, (ten_is_later, (twenty_is_later, tt)))

-- ---- flags
all_marked : (links : List NamedLink) → marked (map (λ l. true) links) links ≡ links
all_marked [] = refl
all_marked (l ∷ links) = ap (λ r. l ∷ r) (all_marked links)

none_marked : (links : List NamedLink) → marked (map not (map (λ l. true) links)) links ≡ []
none_marked [] = refl
none_marked (l ∷ links) = none_marked links

all_active : (P : NamedLink → Type 0) (links : List NamedLink) → AllByRecursion P links → AllZip (λ flag l. Decides flag (P l)) (map (λ l. true) links) links
all_active P [] h = tt
all_active P (l ∷ links) h = (((λ e. h.0), (λ p. refl)), all_active P links h.1)

-- names that differ, as the source and the sink
some_differ : (a b : Name) → bytes_eq a b ≡ false → ◌≡◌ {A = Option Name} (Some a) (Some b) → ⊥
some_differ a b e f =
    let same : a ≡ b = ap (λ o. unwrap_or o a) f in
    let equal : bytes_eq a b ≡ true = subst (λ x. bytes_eq a x ≡ true) same (bytes_eq-self a) in absurd (cc)

-- ---- the ladder
module _ (number rungs : ℕ) (some : 1 ≤ rungs) (few : rungs ≤ 30) where
  upper_name : (j : ℕ) → j ≤ 30 → is_name (upper j) ≡ true
  upper_name j h = lettered_is_name 117 j refl (omega arith)

  lower_name : (j : ℕ) → j ≤ 30 → is_name (lower j) ≡ true
  lower_name j h = lettered_is_name 108 j refl (omega arith)

  named_in : AllByRecursion AreNamesOf links_in
  named_in = (record { name = refl; tail = refl; head = upper_name 1 (omega arith) }, (record { name = refl; tail = refl; head = lower_name 1 (omega arith) }, tt))

  named_along : AllByRecursion AreNamesOf (links_along rungs)
  named_along = all_flat AreNamesOf rails_on 1 (rungs - 1) (λ j low high. (
    record { name = upper_name j (omega arith); tail = upper_name j (omega arith); head = upper_name (j + 1) (omega arith) },
    (record { name = lower_name j (omega arith); tail = lower_name j (omega arith); head = lower_name (j + 1) (omega arith) }, tt),
  ))

  named_down : AllByRecursion AreNamesOf (links_down rungs)
  named_down =
      all_map AreNamesOf rung_at 1 rungs (λ j low high. record {
        name = lettered_is_name 114 j refl (omega arith);
        tail = upper_name j (omega arith);
        head =
            lower_name j (omega arith);
      })

  named_out : AllByRecursion AreNamesOf (links_out rungs)
  named_out = (record { name = refl; tail = upper_name rungs few; head = refl }, (record { name = refl; tail = lower_name rungs few; head = refl }, tt))

  named_ends : AllByRecursion AreNamesOf (ladder_ends rungs)
  named_ends =
      every_append AreNamesOf (links_in ++ links_along rungs ++ links_down rungs) (links_out rungs)
      (every_append AreNamesOf (links_in ++ links_along rungs) (links_down rungs) (every_append AreNamesOf links_in (links_along rungs) named_in named_along) named_down) named_out

  names_are : names_of (ladder_links number rungs) ≡ map (λ (l : Ends). l.name) (ladder_ends rungs)
  names_are = names-drawn number 0 (ladder_ends rungs)

  ends_are : ends (ladder_links number rungs) ≡ ends_of (ladder_ends rungs)
  ends_are = ends-drawn number 0 (ladder_ends rungs)

  good_file : IsGoodDraft (file_of number rungs)
  good_file = record {
    version = inl refl;
    good_nodes = record {
      source = λ name e. subst (λ x. has_name (ladder_nodes rungs) x ≡ true) (ap (λ o. unwrap_or o name) e) refl;
      sink = λ name e. subst (λ x. has_name (ladder_nodes rungs) x ≡ true) (ap (λ o. unwrap_or o name) e) refl;
      names = node_names rungs some few;
      distinct = distinct_nodes rungs;
      few_nodes = (let h : length (ladder_nodes rungs) ≡ 2 * rungs + 2 = node_count rungs some in omega arith);
    };
    good_links = record {
      links = drawn_named number 0 (ladder_ends rungs) named_ends;
      ends_there = ap (list_all (has_name (ladder_nodes rungs))) ends_are ∙ ends_listed rungs some;
      link_names = subst (IsDistinct bytes_eq) (sym (names_are ∙ link_names rungs)) (distinct_links rungs);
      few_links = (
          let h : length (ladder_links number rungs) ≡ length (ladder_ends rungs) = length-drawn number 0 (ladder_ends rungs) in
          let k : length (ladder_ends rungs) ≡ 3 * rungs + 2 = link_count rungs some in omega arith);
    };
    good_pieces = record {
      pieces = fraction_pieces number (3 * rungs + 2);
      few_pieces = omega arith;
      not_negative = not_negative number (3 * rungs + 2);
      rise = rising number (3 * rungs + 2);
    };
  }

  place_reached : (v : ℕ) → v < length (ladder_nodes rungs) → IsReached (file_of number rungs) v
  place_reached v low = let r = node_reached number rungs some few v low in (r.0, r.1)

  all_nodes_reached : LeavesUnreached (file_of number rungs) → ⊥
  all_nodes_reached b = b.2 (place_reached b.0 b.1)

  breaks_none : AllByRecursion (λ rule. ¬ BreaksRule (file_of number rungs) rule) closing_rules
  breaks_none = (
    (λ e. absurd (cc)),
    ((λ e. absurd (cc)), (some_differ (codes "s") (codes "t") refl, (all_nodes_reached, (no_zero_cycle number rungs some few, (no_passing_sum number rungs some few, tt))))),
  )

  tails_reached : AllByRecursion (λ l. IsReached (file_of number rungs) (place_of (ladder_nodes rungs) l.tail)) (ladder_links number rungs)
  tails_reached = all_implied (HasBoth (ladder_nodes rungs)) (λ l. IsReached (file_of number rungs) (place_of (ladder_nodes rungs) l.tail))
      (λ l h. place_reached (place_of (ladder_nodes rungs) l.tail) (place_below (ladder_nodes rungs) l.tail h.0)) (ladder_links number rungs) (both_there number rungs some few)

  are_active : AreActive (file_of number rungs) (map (λ l. true) (ladder_links number rungs))
  are_active = all_active (λ l. IsReached (file_of number rungs) (place_of (ladder_nodes rungs) l.tail)) (ladder_links number rungs) tails_reached

  nodes_met : with_names (codes "s" ∷ codes "t" ∷ []) (ends (ladder_links number rungs)) ≡ ladder_nodes rungs
  nodes_met = ap (λ r. with_names (codes "s" ∷ codes "t" ∷ []) r) ends_are ∙ nodes_are rungs some

  count_met : length (with_names (codes "s" ∷ codes "t" ∷ []) (ends (ladder_links number rungs))) ≡ 2 * rungs + 2
  count_met = ap (λ (l : List Name). length l) nodes_met ∙ node_count rungs some

  as_file : network_of (file_of number rungs) (ladder_links number rungs) [] ≡ ladder number rungs
  unfolding ladder
  as_file = λ i. record (ladder number rungs) {
    net = record ((ladder number rungs).net) { nodes = count_met i; links = map (numbered (nodes_met i)) (ladder_links number rungs) };
    node_names = nodes_met i;
  }

  pub ladder_named : IsNamed (ladder number rungs)
  ladder_named = subst IsNamed
      ((λ i. network_of (file_of number rungs) (all_marked (ladder_links number rungs) i) (none_marked (ladder_links number rungs) i)) ∙ as_file)
      (is_named (file_of number rungs) good_file breaks_none (map (λ l. true) (ladder_links number rungs)) are_active)

  pub ladder_reads : Reads (canonical (ladder number rungs)) (Ok (ladder number rungs))
  ladder_reads = canonical_back (ladder number rungs) ladder_named

  -- its links by names are those that were drawn
  pub active_are : active_links (ladder number rungs) ≡ ladder_links number rungs
  unfolding ladder
  active_are = by_name (ladder_nodes rungs) (ladder_links number rungs) (both_there number rungs some few)

  as_many_links : length (ladder number rungs).net.links ≡ 3 * rungs + 2
  unfolding ladder
  as_many_links =
      length-map (ladder_links number rungs) (numbered (ladder_nodes rungs))
      ∙ length-drawn number 0 (ladder_ends rungs) ∙ link_count rungs some

  as_many_nodes : length (ladder number rungs).node_names ≡ 2 * rungs + 2
  unfolding ladder
  as_many_nodes = node_count rungs some

  pub is_ladder : IsLadder number rungs
  is_ladder = record { named = ladder_named; nodes = as_many_nodes; links = as_many_links }
