-- The lines of a canonical text stand for the network whose text it is.
use Rattle.std.proofs.Common.{◌≡◌, ℕ, ◌<◌, ◌≤◌, ◌==◌, Bool, true, false, List, [], ◌∷◌, ◌++◌, length, map, slice_get, Some, refl, sym, ◌∙◌, ap, subst, inl}
use Rattle.std.proofs.Common.{inr, arith, append-nil, map-id, bytes_eq, Ok}
use Rattle.nf_net_laws.proofs.Common.{MatchBool, Decides, AllByRecursion, IsDistinct, 0ℚ, ◌≤ℚ◌, reading_of, eq, linear_eq, Hop, IsHop, IsWalk, transit_of}
use Rattle.nf_net_laws.proofs.Common.{transit_sum, IsLeastTransit, Link, hop_of, hops, N19, Name, has_name, place_of, name_at, with_names, without}
use Rattle.nf_net_laws.proofs.Common.{NamedLink, Named, numbered, hops_among, active_links, all_links, all_nodes, all_hops, ends, names_of, Draft}
use Rattle.nf_net_laws.proofs.Common.{IsReached, LeavesUnreached, HasZeroCycle, HasPassingSum, BreaksRule, network_of, AreActive, ReadsAs, IsNamed}
use Rattle.nf_net_laws.proofs.Common.{zero_not_above}
use Rattle.nf_net_laws.proofs.NameFacts.{place_right}
use Rattle.nf_net_laws.proofs.WalkFacts.{slice_get-left, IsIn, in_first, in_second, which, entry_all, CameFrom, came_from, Corresponds, Carried, carried}
use Rattle.nf_net_laws.proofs.LinkFacts.{distinct_left, map-append, names_of-links_by_name, named_all, EndsBelow, place_again, map_numbered, first_marked}
use Rattle.nf_net_laws.proofs.LinkFacts.{marked-first, marked-others, flags_hold}

-- the parser state after the lines of its canonical text
abbrev pub draft_of : Named → Draft
draft_of n = record {
  version = n.version;
  source = Some (name_at n.node_names 0);
  sink = Some (name_at n.node_names 1);
  nodes = all_nodes n;
  links = all_links n;
  pieces = n.net.pieces;
  ended = true;
}

positive_sum : (hops : List Hop) (walk : List ℕ) → AllByRecursion (λ e. transit_of hops e ≡ 0ℚ) walk → transit_sum hops walk ≡ 0ℚ
positive_sum hops [] h = refl
positive_sum hops (e ∷ walk) h =
    let k : transit_sum hops walk ≡ 0ℚ = positive_sum hops walk h.1 in
    let j : transit_of hops e ≡ 0ℚ = h.0 in
    linear_eq (transit_of hops e ∷ transit_sum hops walk ∷ []) (eq j ∷ eq k ∷ []) (search reading_of) tt tt

module _ (n : Named) (h : IsNamed n) where
  count_is : length n.node_names ≡ n.net.nodes
  count_is = h.numbered.nodes

  below : (e : ℕ) (link : Link) → slice_get n.net.links e ≡ Some link → EndsBelow (length n.node_names) link
  below e link is = record {
    tail = subst (λ k. link.tail < k) (sym count_is) (h.network.tails e link is);
    head = subst (λ k. link.head < k) (sym count_is) (h.network.heads e link is);
  }

  pub source_below : 0 < length n.node_names
  source_below = subst (λ k. k < length n.node_names) h.numbered.source (subst (λ k. n.net.source < k) (sym count_is) h.network.source)

  pub sink_below : 1 < length n.node_names
  sink_below = subst (λ k. k < length n.node_names) h.numbered.sink (subst (λ k. n.net.sink < k) (sym count_is) h.network.sink)

  source_is : place_of (all_nodes n) (name_at n.node_names 0) ≡ n.net.source
  source_is = place_again n.node_names n.idle_nodes h.node_names.distinct 0 source_below ∙ sym h.numbered.source

  sink_is : place_of (all_nodes n) (name_at n.node_names 1) ≡ n.net.sink
  sink_is = place_again n.node_names n.idle_nodes h.node_names.distinct 1 sink_below ∙ sym h.numbered.sink

  -- ---- the hops of the network are the first of all
  split_hops : all_hops n ≡ hops n.net ++ hops_among (all_nodes n) n.idle_links
  split_hops = map-append (λ l. hop_of (numbered (all_nodes n) l)) (active_links n) n.idle_links
      ∙ ap (λ first. first ++ hops_among (all_nodes n) n.idle_links)
      (map_numbered n.node_names n.idle_nodes h.node_names.distinct hop_of n.link_names n.net.links h.numbered.links below)

  -- a walk of the network is one along all hops
  to_all : (e : ℕ) (hop : Hop) → IsHop (hops n.net) e hop → Unit {0} → Corresponds (all_hops n) (λ v. v) (λ v. Unit {0}) hop
  to_all e hop is _ = record {
    number = e;
    image = hop;
    is_hop = subst (λ all. IsHop all e hop) (sym split_hops) (slice_get-left (hops n.net) (hops_among (all_nodes n) n.idle_links) e hop is);
    tail = refl;
    head = refl;
    transit = refl;
    after = tt;
  }

  idle_tail : (j : ℕ) (hop : Hop) → IsHop (hops_among (all_nodes n) n.idle_links) j hop → n.net.nodes ≤ hop.tail
  idle_tail j hop is =
      let c : CameFrom (λ l. hop_of (numbered (all_nodes n) l)) n.idle_links j hop = came_from (λ l. hop_of (numbered (all_nodes n) l)) n.idle_links j hop is in
      let outside : has_name n.node_names c.entry.tail ≡ false = entry_all (λ l. has_name n.node_names l.tail ≡ false) n.idle_links j c.entry h.idle_tails c.is_entry in
      let far : length n.node_names ≤ place_of (all_nodes n) c.entry.tail = place_right n.node_names n.idle_nodes c.entry.tail outside in
      subst (λ (x : Hop). n.net.nodes ≤ x.tail) c.is_image (subst (λ k. k ≤ place_of (all_nodes n) c.entry.tail) count_is far)

  head_below : (e : ℕ) (hop : Hop) → IsHop (hops n.net) e hop → hop.head < n.net.nodes
  head_below e hop is =
      let c : CameFrom hop_of n.net.links e hop = came_from hop_of n.net.links e hop is in
      subst (λ (x : Hop). x.head < n.net.nodes) c.is_image (h.network.heads e c.entry c.is_entry)

  -- a hop that leaves a node of the network is one of the network
  own_hop : (e : ℕ) (hop : Hop) → IsIn (hops n.net) (hops_among (all_nodes n) n.idle_links) e hop → hop.tail < n.net.nodes → IsHop (hops n.net) e hop
  own_hop e hop (in_first is) low = is
  own_hop e hop (in_second j is) low = let far : n.net.nodes ≤ hop.tail = idle_tail j hop is in absurd (omega arith)

  own : (e : ℕ) (hop : Hop) → IsHop (all_hops n) e hop → hop.tail < n.net.nodes → IsHop (hops n.net) e hop
  own e hop is low = own_hop e hop (which (hops n.net) (hops_among (all_nodes n) n.idle_links) e hop (subst (λ all. IsHop all e hop) split_hops is)) low

  from_all : (e : ℕ) (hop : Hop) → IsHop (all_hops n) e hop → hop.tail < n.net.nodes → Corresponds (hops n.net) (λ v. v) (λ v. v < n.net.nodes) hop
  from_all e hop is low = record {
    number = e;
    image = hop;
    is_hop = own e hop is low;
    tail = refl;
    head = refl;
    transit = refl;
    after = head_below e hop (own e hop is low);
  }

  -- ---- which nodes are reached
  pub reached_in : (v : ℕ) → v < n.net.nodes → IsReached (draft_of n) v
  reached_in v low =
      let w : (walk : List ℕ) × IsWalk (hops n.net) walk n.net.source v = h.network.reached v low in
      let c : Carried (hops n.net) (all_hops n) (λ v. v) (λ v. Unit {0}) w.0 n.net.source v =
      carried (hops n.net) (all_hops n) (λ v. v) (λ v. Unit {0}) to_all w.0 n.net.source v tt w.1 in
      (c.image, subst (λ s. IsWalk (all_hops n) c.image s v) (sym source_is) c.is_walk)

  pub reached_below : (v : ℕ) → IsReached (draft_of n) v → v < n.net.nodes
  reached_below v r =
      let c : Carried (all_hops n) (hops n.net) (λ v. v) (λ v. v < n.net.nodes) r.0 n.net.source v =
      carried (all_hops n) (hops n.net) (λ v. v) (λ v. v < n.net.nodes) from_all r.0 n.net.source v h.network.source (subst (λ s. IsWalk (all_hops n) r.0 s v) source_is r.1) in
      c.after

  -- ---- no rule is broken
  pub names_apart : BreaksRule (draft_of n) N19 → ⊥
  names_apart e =
      let same : name_at n.node_names 0 ≡ name_at n.node_names 1 = cc in
      h.network.apart (sym source_is ∙ ap (place_of (all_nodes n)) same ∙ sink_is)

  nothing_idle : n.version ≡ 1 → length (all_nodes n) ≡ n.net.nodes
  nothing_idle e =
      let none : n.idle_nodes ≡ [] = h.numbered.idle_order ∙ ap (λ links. without n.node_names (with_names [] (ends links))) (h.idle e) in
      ap (λ idle. length (n.node_names ++ idle)) none ∙ ap (λ names. length names) (append-nil n.node_names) ∙ count_is

  all_reached : LeavesUnreached (draft_of n) → ⊥
  all_reached broken = elim h.version [
    | inl e ↦ let b : MatchBool (1 == 1) ((v : ℕ) × (v < length (all_nodes n)) × (¬ IsReached (draft_of n) v))
        (¬ IsReached (draft_of n) (place_of (all_nodes n) (name_at n.node_names 1)))
        = subst (λ k. MatchBool (k == 1) ((v : ℕ) × (v < length (all_nodes n)) × (¬ IsReached (draft_of n) v))
        (¬ IsReached (draft_of n) (place_of (all_nodes n) (name_at n.node_names 1)))) e broken in
        b.2 (reached_in b.0 (subst (λ k. b.0 < k) (nothing_idle e) b.1))
    | inr e ↦ let b : MatchBool (2 == 1) ((v : ℕ) × (v < length (all_nodes n)) × (¬ IsReached (draft_of n) v))
        (¬ IsReached (draft_of n) (place_of (all_nodes n) (name_at n.node_names 1)))
        = subst (λ k. MatchBool (k == 1) ((v : ℕ) × (v < length (all_nodes n)) × (¬ IsReached (draft_of n) v))
        (¬ IsReached (draft_of n) (place_of (all_nodes n) (name_at n.node_names 1)))) e broken in
        b (subst (IsReached (draft_of n)) (sym sink_is) (reached_in n.net.sink h.network.sink))
  ]

  no_zero_cycle : HasZeroCycle (draft_of n) → ⊥
  no_zero_cycle c = zero_not_above (transit_sum (all_hops n) (c.first ∷ c.walk)) (positive_sum (all_hops n) (c.first ∷ c.walk) c.zero) (h.cycles c.first c.walk c.node c.closed)

  no_passing_sum : HasPassingSum (draft_of n) → ⊥
  no_passing_sum p =
      let below : p.hop.tail < n.net.nodes = reached_below p.hop.tail (p.is_least.taken.0, p.is_least.taken.1) in
      let own_sum : IsLeastTransit (hops n.net) n.net.source p.hop.tail p.least = record {
        taken = (let c : Carried (all_hops n) (hops n.net) (λ v. v) (λ v. v < n.net.nodes) p.is_least.taken.0 n.net.source p.hop.tail =
            carried (all_hops n) (hops n.net) (λ v. v) (λ v. v < n.net.nodes) from_all p.is_least.taken.0 n.net.source p.hop.tail h.network.source
            (subst (λ s. IsWalk (all_hops n) p.is_least.taken.0 s p.hop.tail) source_is p.is_least.taken.1) in
            (c.image, c.is_walk, c.sum ∙ p.is_least.taken.2));
        bound = λ walk is. (let c : Carried (hops n.net) (all_hops n) (λ v. v) (λ v. Unit {0}) walk n.net.source p.hop.tail =
            carried (hops n.net) (all_hops n) (λ v. v) (λ v. Unit {0}) to_all walk n.net.source p.hop.tail tt is in
            subst (λ s. p.least ≤ℚ s) c.sum (p.is_least.bound c.image (subst (λ s. IsWalk (all_hops n) c.image s p.hop.tail) (sym source_is) c.is_walk)));
      } in
      let fits = h.sums_fit p.link p.hop p.least (own p.link p.hop p.is_hop below) own_sum p.is_fraction in
      let passes = p.passes in absurd (cc)

  -- ---- the network
  flags : List Bool
  flags = first_marked (active_links n) n.idle_links

  are_active : AreActive (draft_of n) (first_marked (active_links n) n.idle_links)
  are_active = flags_hold (λ flag l. Decides flag (IsReached (draft_of n) (place_of (all_nodes n) l.tail))) (active_links n) n.idle_links
      (named_all (λ l. Decides true (IsReached (draft_of n) (place_of (all_nodes n) l.tail))) n.node_names n.link_names n.net.links
      (λ e name link is. (
        (λ _. subst (IsReached (draft_of n)) (sym (place_again n.node_names n.idle_nodes h.node_names.distinct link.tail (below e link is).tail))
            (reached_in link.tail (h.network.tails e link is))),
        (λ _. refl),
      )))
      (idle_ones n.idle_links h.idle_tails)
    where
      idle_ones : (links : List NamedLink) → AllByRecursion (λ l. has_name n.node_names l.tail ≡ false) links
          → AllByRecursion (λ l. Decides false (IsReached (draft_of n) (place_of (all_nodes n) l.tail))) links
      idle_ones [] out = tt
      idle_ones (l ∷ links) out = (
        (
          (λ e. absurd (cc)),
          λ r.
              let far : length n.node_names ≤ place_of (all_nodes n) l.tail = place_right n.node_names n.idle_nodes l.tail out.0 in
              let near : place_of (all_nodes n) l.tail < n.net.nodes = reached_below (place_of (all_nodes n) l.tail) r in
              let same : length n.node_names ≡ n.net.nodes = count_is in absurd (omega arith),
        ),
        idle_ones links out.1,
      )

  -- with these nodes
  abbrev with_nodes : List Name → Named
  with_nodes nodes = record {
    version = n.version;
    net = record { nodes = length nodes; source = 0; sink = 1; links = map (numbered nodes) (active_links n); pieces = n.net.pieces };
    node_names = nodes;
    link_names = names_of (active_links n);
    idle_nodes = without nodes (with_names [] (ends n.idle_links));
    idle_links = n.idle_links;
  }

  links_again : map (numbered n.node_names) (active_links n) ≡ n.net.links
  links_again =
      let none : n.node_names ++ [] ≡ n.node_names = append-nil n.node_names in
      let alone : IsDistinct bytes_eq (n.node_names ++ []) = subst (IsDistinct bytes_eq) (sym none) (distinct_left n.node_names n.idle_nodes h.node_names.distinct) in
      ap (λ nodes. map (numbered nodes) (active_links n)) (sym none)
      ∙ map_numbered n.node_names [] alone (λ link. link) n.link_names n.net.links h.numbered.links below
      ∙ map-id n.net.links

  with_own_nodes : with_nodes n.node_names ≡ n
  with_own_nodes = λ i. record {
    version = n.version;
    net = record {
      nodes = count_is i;
      source = sym h.numbered.source i;
      sink = sym h.numbered.sink i;
      links = links_again i;
      pieces = n.net.pieces;
    };
    node_names = n.node_names;
    link_names = names_of-links_by_name n.node_names n.link_names n.net.links h.numbered.links i;
    idle_nodes = sym h.numbered.idle_order i;
    idle_links = n.idle_links;
  }

  network_again : n ≡ network_of (draft_of n) (active_links n) n.idle_links
  network_again = sym with_own_nodes ∙ ap with_nodes h.numbered.order

  pub closes_back : ReadsAs (draft_of n) (Ok n)
  closes_back = (
    ((λ e. absurd (cc)), ((λ e. absurd (cc)), (names_apart, (all_reached, (no_zero_cycle, (no_passing_sum, tt)))))),
    record {
      flags = first_marked (active_links n) n.idle_links;
      active = are_active;
      network = network_again ∙ sym (λ i. network_of (draft_of n) (marked-first (active_links n) n.idle_links i) (marked-others (active_links n) n.idle_links i));
    },
  )
