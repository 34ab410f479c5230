-- The network of an accepted file is well formed.
use Rattle.std.proofs.Common.{◌≡◌, ℕ, zero, suc, ◌<◌, ◌≤◌, ◌==◌, ◌&&◌, Bool, true, false, not, List, [], ◌∷◌, ◌++◌, length, map, slice_get, Option, Some}
use Rattle.std.proofs.Common.{None, Result, Ok, Err, unwrap_or, refl, sym, ◌∙◌, ap, subst, arith, bytes_eq, length-append}
use Rattle.nf_net_laws.proofs.Common.{MatchBool, ℚ, 0ℚ, ◌≤ℚ◌, ◌<ℚ◌, lt_of_test, passes_Q, Sum, Hop, IsHop, IsWalk, transit_sum, IsLeastTransit, Link, Piece}
use Rattle.nf_net_laws.proofs.Common.{IsLink, IsPiece, ArePieces, IsNetwork, hop_of, hops, Name, is_name, has_name, place_of, name_at, with_names, without}
use Rattle.nf_net_laws.proofs.Common.{AreNames, NamedLink, Named, numbered, hops_among, links_by_name, active_links, all_hops, ends, names_of, read_lines}
use Rattle.nf_net_laws.proofs.Common.{content_lines, LineFault, first_fault, Broken, Draft, draft_from, ReadsAs, by_lines, by_bytes, Reads, draft_hops}
use Rattle.nf_net_laws.proofs.Common.{source_name, sink_name, source_place, IsReached, HasPassingSum, BreaksRule, closing_rules, marked, network_of}
use Rattle.nf_net_laws.proofs.Common.{AreActive, IsFraction, IsCapacity, IsNamedLink, IsWithinLimits, IsNumbered, SumsFit, IsNamed, slice_get-image}
use Rattle.nf_net_laws.proofs.Common.{AllByRecursion, list_all}
use Rattle.std.specs.List.{IsDistinct}
use Rattle.nf_net_laws.proofs.NameFacts.{same_names, has_at, place_below, name_at-place, place_at, with_names-split}
use Rattle.nf_net_laws.proofs.WalkFacts.{entry_all, IsIn, in_first, in_second, which, CameFrom, came_from, Corresponds, Carried, carried}
use Rattle.nf_net_laws.proofs.LinesBack.{Rises, AreNotNegative, length-with_names}
use Rattle.nf_net_laws.proofs.DraftKept.{IsGoodDraft, draft_kept, distinct_with_names, still_there, now_there, all_with_names, all_pushed}
use Rattle.nf_net_laws.proofs.MarkedFacts.{Entry, from_marked, in_marked, others_lack, length_split, marked_all, distinct_split, no_more, has_all, has_every}
use Rattle.nf_net_laws.proofs.AcceptedNodes.{both_all, all_entries, all_implied, ends_among, s_there, t_there, two_nodes, there, reached_on, IsReachedName}
use Rattle.nf_net_laws.proofs.AcceptedNodes.{nodes_reached}
use Rattle.nf_net_laws.proofs.AcceptedWalks.{AreOfFile, walk_to_file, circles}

-- ---- lists
at_marked : {X : Type 0} (P : X → Type 0) (xs : List X) → AllByRecursion P xs → (e : ℕ) (x : X) → slice_get xs e ≡ Some x → P x
at_marked P xs h e x is = entry_all P xs e x h is

map_twice : (nodes : List Name) (links : List NamedLink) → map hop_of (map (numbered nodes) links) ≡ hops_among nodes links
map_twice nodes [] = refl
map_twice nodes (l ∷ links) = ap (λ r. hop_of (numbered nodes l) ∷ r) (map_twice nodes links)

named_numbered : (nodes : List Name) (links : List NamedLink)
    → ((e : ℕ) (l : NamedLink) → slice_get links e ≡ Some l → (has_name nodes l.tail ≡ true) × (has_name nodes l.head ≡ true))
    → links_by_name nodes (names_of links) (map (numbered nodes) links) ≡ links
named_numbered nodes [] f = refl
named_numbered nodes (l ∷ links) f =
    λ i. record { name = l.name; tail = name_at-place nodes l.tail (f 0 l refl).0 i; head = name_at-place nodes l.head (f 0 l refl).1 i; transit = l.transit; capacity = l.capacity }
    ∷ named_numbered nodes links (λ e l is. f (suc e) l is) i

length_map : {X Y : Type 0} (f : X → Y) (xs : List X) → length (map f xs) ≡ length xs
length_map f [] = refl
length_map f (x ∷ xs) = ap (λ k. suc k) (length_map f xs)

pub every_append : {X : Type 0} (P : X → Type 0) (xs ys : List X) → AllByRecursion P xs → AllByRecursion P ys → AllByRecursion P (xs ++ ys)
every_append P [] ys h k = k
every_append P (x ∷ xs) ys h k = (h.0, every_append P xs ys h.1 k)

-- ---- pieces
rise_at : (before : Option Piece) (pieces : List Piece) (i : ℕ) (piece next : Piece) → Rises before pieces → IsPiece pieces i piece
    → IsPiece pieces (suc i) next → piece.start <ℚ next.start
rise_at before [] i piece next h is then_ = absurd (cc)
rise_at before (p ∷ []) i piece next h is then_ = absurd (cc)
rise_at before (p ∷ q ∷ pieces) zero piece next h is then_ =
    let a : p ≡ piece = cc in
    let b : q ≡ next = cc in
    subst (λ x. piece.start <ℚ x.start) b (subst (λ x. x.start <ℚ q.start) a (lt_of_test q.start p.start h.1.0))
rise_at before (p ∷ q ∷ pieces) (suc i) piece next h is then_ = rise_at (Some p) (q ∷ pieces) i piece next h.1 is then_

are_pieces : (pieces : List Piece) → AreNotNegative pieces → Rises None pieces → ArePieces pieces
are_pieces pieces h k = record {
  starts = λ i piece is. (at_marked (λ (piece : Piece). (0ℚ ≤ℚ piece.start) × (0ℚ ≤ℚ piece.rate)) pieces h i piece is).0;
  rise = λ i piece next is then_. rise_at None pieces i piece next k is then_;
  rates = λ i piece is. (at_marked (λ (piece : Piece). (0ℚ ≤ℚ piece.start) × (0ℚ ≤ℚ piece.rate)) pieces h i piece is).1;
}

positive_capacity : (version : ℕ) (capacity : Option ℚ) (c : ℚ) → IsCapacity version capacity → capacity ≡ Some c → 0ℚ <ℚ c
positive_capacity version None c h e = absurd (cc)
positive_capacity version (Some q) c h e = subst (λ x. 0ℚ <ℚ x) (ap (λ o. unwrap_or o q) e) h.1

module _ (draft : Draft) (g : IsGoodDraft draft) (fine : AllByRecursion (λ rule. ¬ BreaksRule draft rule) closing_rules) (flags : List Bool) (act : AreActive draft flags) where
  abbrev s : Name
  s = source_name draft

  abbrev t : Name
  t = sink_name draft

  abbrev active : List NamedLink
  active = marked flags draft.links

  abbrev idle : List NamedLink
  idle = marked (map not flags) draft.links

  abbrev nodes : List Name
  nodes = with_names (source_name draft ∷ sink_name draft ∷ []) (ends (marked flags draft.links))

  abbrev others : List Name
  others = without nodes (with_names [] (ends idle))

  abbrev n : Named
  n = network_of draft active idle

  abbrev Reached : NamedLink → Type 0
  Reached l = IsReached draft (place_of draft.nodes l.tail)

  -- ---- the nodes
  apart : bytes_eq s t ≡ false
  apart = differ (bytes_eq s t) refl
    where
      differ : (b : Bool) → bytes_eq s t ≡ b → b ≡ false
      differ true e = absurd (two_nodes draft g fine flags act (same_names s t e))
      differ false e = refl

  two_distinct : IsDistinct bytes_eq (s ∷ t ∷ [])
  unfolding IsDistinct
  two_distinct = ((apart, tt), (tt, tt))

  nodes_distinct : IsDistinct bytes_eq nodes
  nodes_distinct = distinct_with_names (s ∷ t ∷ []) (ends active) two_distinct

  first_name : name_at nodes 0 ≡ s
  first_name = ap (λ names. name_at names 0) (with_names-split (s ∷ t ∷ []) (ends active))

  second_name : name_at nodes 1 ≡ t
  second_name = ap (λ names. name_at names 1) (with_names-split (s ∷ t ∷ []) (ends active))

  two_or_more : 2 ≤ length nodes
  two_or_more = length-with_names (s ∷ t ∷ []) (ends active)

  s_place : place_of nodes s ≡ 0
  s_place = ap (place_of nodes) (sym first_name) ∙ place_at nodes 0 nodes_distinct (let k : 2 ≤ length nodes = two_or_more in omega arith)

  -- ---- the links
  active_ends : (e : ℕ) (l : NamedLink) → slice_get active e ≡ Some l → (has_name nodes l.tail ≡ true) × (has_name nodes l.head ≡ true)
  active_ends e l is = let p = ends_among active e l is in (now_there (s ∷ t ∷ []) (ends active) l.tail p.0, now_there (s ∷ t ∷ []) (ends active) l.head p.1)

  active_of : AreOfFile draft nodes active
  active_of = record { entry = λ e l is. from_marked flags draft.links e l is; ends = active_ends }

  active_again : active_links n ≡ active
  active_again = named_numbered nodes active active_ends

  all_nodes_are : with_names nodes (ends idle) ≡ nodes ++ others
  all_nodes_are = with_names-split nodes (ends idle)

  all_entry : (e : ℕ) (l : NamedLink) → IsIn active idle e l → (i : ℕ) × (slice_get draft.links i ≡ Some l)
  all_entry e l (in_first is) = from_marked flags draft.links e l is
  all_entry e l (in_second j is) = from_marked (map not flags) draft.links j l is

  all_ends : (e : ℕ) (l : NamedLink) → IsIn active idle e l → (has_name (with_names nodes (ends idle)) l.tail ≡ true) × (has_name (with_names nodes (ends idle)) l.head ≡ true)
  all_ends e l (in_first is) = let p = active_ends e l is in (still_there nodes (ends idle) l.tail p.0, still_there nodes (ends idle) l.head p.1)
  all_ends e l (in_second j is) = let p = ends_among idle j l is in (now_there nodes (ends idle) l.tail p.0, now_there nodes (ends idle) l.head p.1)

  all_of : AreOfFile draft (nodes ++ others) (active ++ idle)
  all_of = record {
    entry = λ e l is. all_entry e l (which active idle e l is);
    ends = λ e l is. subst (λ names. (has_name names l.tail ≡ true) × (has_name names l.head ≡ true)) all_nodes_are (all_ends e l (which active idle e l is));
  }

  hops_are : hops n.net ≡ hops_among nodes active
  hops_are = map_twice nodes active

  all_hops_are : all_hops n ≡ hops_among (nodes ++ others) (active ++ idle)
  all_hops_are = ap (λ first. hops_among (nodes ++ others) (first ++ idle)) active_again

  -- ---- from the file's numbers to those of the network
  as_net_hop : (i : ℕ) (l : NamedLink) → slice_get draft.links i ≡ Some l → Reached l
      → Corresponds (hops_among nodes active) (λ v. place_of nodes (name_at draft.nodes v)) (IsReached draft) (hop_of (numbered draft.nodes l))
  as_net_hop i l is r =
      let k = in_marked (λ l. IsReached draft (place_of draft.nodes l.tail)) flags draft.links i l act is r in
      let p = there draft g fine flags act i l is in
      record {
        number = k.0;
        image = hop_of (numbered nodes l);
        is_hop = slice_get-image (λ l. hop_of (numbered nodes l)) active k.0 l k.1;
        tail = ap (place_of nodes) (sym (name_at-place draft.nodes l.tail p.0));
        head = ap (place_of nodes) (sym (name_at-place draft.nodes l.head p.1));
        transit = refl;
        after = reached_on draft g fine flags act i l is r;
      }

  to_net : (i : ℕ) (hop : Hop) → IsHop (draft_hops draft) i hop → IsReached draft hop.tail
      → Corresponds (hops_among nodes active) (λ v. place_of nodes (name_at draft.nodes v)) (IsReached draft) hop
  to_net i hop is r =
      let c : CameFrom (λ l. hop_of (numbered draft.nodes l)) draft.links i hop = came_from (λ l. hop_of (numbered draft.nodes l)) draft.links i hop is in
      subst (Corresponds (hops_among nodes active) (λ v. place_of nodes (name_at draft.nodes v)) (IsReached draft)) c.is_image
      (as_net_hop i c.entry c.is_entry (subst (λ (x : Hop). IsReached draft x.tail) (sym c.is_image) r))

  source_number : place_of nodes (name_at draft.nodes (source_place draft)) ≡ 0
  source_number = ap (place_of nodes) (name_at-place draft.nodes s (s_there draft g fine flags act)) ∙ s_place

  walk_to_net : (walk : List ℕ) (v : ℕ) → IsWalk (draft_hops draft) walk (source_place draft) v
      → Carried (draft_hops draft) (hops_among nodes active) (λ v. place_of nodes (name_at draft.nodes v)) (IsReached draft) walk (source_place draft) v
  walk_to_net walk v h =
      carried (draft_hops draft) (hops_among nodes active) (λ v. place_of nodes (name_at draft.nodes v)) (IsReached draft) to_net walk
      (source_place draft) v ([], refl) h

  -- ---- the network
  good_links : AllByRecursion (IsNamedLink draft.version) active
  good_links = marked_all (IsNamedLink draft.version) flags draft.links g.links

  good_idle : AllByRecursion (IsNamedLink draft.version) idle
  good_idle = marked_all (IsNamedLink draft.version) (map not flags) draft.links g.links

  link_from : (e : ℕ) (link : Link) → IsLink n.net e link → CameFrom (numbered nodes) active e link
  link_from e link is = came_from (numbered nodes) active e link is

  reached_node : (v : ℕ) → v < length nodes → (walk : List ℕ) × IsWalk (hops n.net) walk 0 v
  reached_node v low =
      let r : IsReachedName draft (name_at nodes v) = has_every (IsReachedName draft) nodes (name_at nodes v) (nodes_reached draft g fine flags act) (has_at nodes v low) in
      let c = walk_to_net r.reached.0 (place_of draft.nodes (name_at nodes v)) r.reached.1 in
      let ends_at : place_of nodes (name_at draft.nodes (place_of draft.nodes (name_at nodes v))) ≡ v =
      ap (place_of nodes) (name_at-place draft.nodes (name_at nodes v) r.there) ∙ place_at nodes v nodes_distinct low in (
        c.image,
        subst (λ hops. IsWalk hops c.image 0 v) (sym hops_are) (subst (λ w. IsWalk (hops_among nodes active) c.image 0 w) ends_at
            (subst (λ u. IsWalk (hops_among nodes active) c.image u (place_of nodes (name_at draft.nodes (place_of draft.nodes (name_at nodes v)))))
            source_number c.is_walk)),
      )

  is_network : IsNetwork n.net
  is_network = record {
    source = (let k : 2 ≤ length nodes = two_or_more in omega arith);
    sink = (let k : 2 ≤ length nodes = two_or_more in omega arith);
    apart = λ e. absurd (omega arith);
    tails = λ e link is. (let c = link_from e link is in subst (λ (x : Link). x.tail < length nodes) c.is_image (place_below nodes c.entry.tail (active_ends e c.entry c.is_entry).0));
    heads = λ e link is. (let c = link_from e link is in subst (λ (x : Link). x.head < length nodes) c.is_image (place_below nodes c.entry.head (active_ends e c.entry c.is_entry).1));
    transits = λ e link is. (let c = link_from e link is in subst (λ (x : Link). 0ℚ ≤ℚ x.transit) c.is_image
        (at_marked (IsNamedLink draft.version) active good_links e c.entry c.is_entry).transit);
    capacities = λ e link capacity is eq. (let c = link_from e link is in
        positive_capacity draft.version c.entry.capacity capacity (at_marked (IsNamedLink draft.version) active good_links e c.entry c.is_entry).capacity
        (ap (λ (x : Link). x.capacity) c.is_image ∙ eq));
    pieces = are_pieces draft.pieces g.not_negative g.rise;
    cycles = λ e walk v h. subst (λ hops. 0ℚ <ℚ transit_sum hops (e ∷ walk)) (sym hops_are)
        (circles draft g nodes active active_of fine.1.1.1.1.0 e walk v (subst (λ hops. IsWalk hops (e ∷ walk) v v) hops_are h));
    reached = λ v low. reached_node v low;
  }

  -- ---- the names and limits
  s_is_name : is_name s ≡ true
  s_is_name = has_all is_name draft.nodes s g.names (s_there draft g fine flags act)

  t_is_name : is_name t ≡ true
  t_is_name = has_all is_name draft.nodes t g.names (t_there draft g fine flags act)

  ends_are_names : (links : List NamedLink) → AllByRecursion (IsNamedLink draft.version) links → list_all is_name (ends links) ≡ true
  ends_are_names [] h = refl
  ends_are_names (l ∷ links) h = λ i. h.0.tail i && (h.0.head i && ends_are_names links h.1 i)

  names_are_names : (links : List NamedLink) → AllByRecursion (IsNamedLink draft.version) links → list_all is_name (names_of links) ≡ true
  names_are_names [] h = refl
  names_are_names (l ∷ links) h = λ i. h.0.name i && names_are_names links h.1 i

  all_names : AreNames (nodes ++ others)
  all_names = record {
    each = subst (λ names. list_all is_name names ≡ true) all_nodes_are
        (all_with_names is_name nodes (ends idle) (all_with_names is_name (s ∷ t ∷ []) (ends active) (λ i. s_is_name i && (t_is_name i && true))
        (ends_are_names active good_links)) (ends_are_names idle good_idle));
    distinct = subst (IsDistinct bytes_eq) all_nodes_are (distinct_with_names nodes (ends idle) nodes_distinct);
  }

  -- each of the names is named in the file
  ends_in_file : (links : List NamedLink) → AllByRecursion (Entry draft.links) links → list_all (has_name draft.nodes) (ends links) ≡ true
  ends_in_file [] h = refl
  ends_in_file (l ∷ links) h = let p = there draft g fine flags act h.0.0 l h.0.1 in λ i. p.0 i && (p.1 i && ends_in_file links h.1 i)

  all_in_file : list_all (has_name draft.nodes) (with_names nodes (ends idle)) ≡ true
  all_in_file = all_with_names (has_name draft.nodes) nodes (ends idle)
      (all_with_names (has_name draft.nodes) (s ∷ t ∷ []) (ends active) (λ i. s_there draft g fine flags act i && (t_there draft g fine flags act i && true))
      (ends_in_file active (marked_all (Entry draft.links) flags draft.links (all_entries draft.links))))
      (ends_in_file idle (marked_all (Entry draft.links) (map not flags) draft.links (all_entries draft.links)))

  within_limits : IsWithinLimits n
  within_limits = record {
    nodes = (let few : length (nodes ++ others) ≤ length draft.nodes = subst (λ names. length names ≤ length draft.nodes) all_nodes_are
        (no_more (with_names nodes (ends idle)) draft.nodes (distinct_with_names nodes (ends idle) nodes_distinct) all_in_file) in
        let most : length draft.nodes ≤ 64 = g.few_nodes in omega arith);
    links = subst (λ k. k ≤ 200) (sym (ap (λ first. length (first ++ idle)) active_again ∙ length-append active idle
        ∙ length_split (λ l. IsReached draft (place_of draft.nodes l.tail)) flags draft.links act)) g.few_links;
    pieces = g.few_pieces;
  }

  is_numbered : IsNumbered n
  is_numbered = record {
    source = refl;
    sink = refl;
    nodes = refl;
    links = length_map (λ (l : NamedLink). l.name) active ∙ sym (length_map (numbered nodes) active);
    order = sym (λ i. with_names (first_name i ∷ second_name i ∷ []) (ends (active_again i)));
    idle_order = refl;
  }

  -- ---- what is idle
  idle_ones : AllByRecursion (λ l. Entry draft.links l × (¬ Reached l)) idle
  idle_ones = both_all (Entry draft.links) (λ l. ¬ IsReached draft (place_of draft.nodes l.tail)) idle
      (marked_all (Entry draft.links) (map not flags) draft.links (all_entries draft.links)) (others_lack (λ l. IsReached draft (place_of draft.nodes l.tail)) flags draft.links act)

  none_idle : draft.version ≡ 1 → (links : List NamedLink) → AllByRecursion (λ l. Entry draft.links l × (¬ Reached l)) links → links ≡ []
  none_idle e [] h = refl
  none_idle e (l ∷ links) h =
      absurd (fine.1.1.1.0 (subst (λ k. MatchBool (k == 1) ((v : ℕ) × (v < length draft.nodes) × (¬ IsReached draft v))
      (¬ IsReached draft (place_of draft.nodes t))) (sym e)
      (place_of draft.nodes l.tail, place_below draft.nodes l.tail (there draft g fine flags act h.0.0.0 l h.0.0.1).0, h.0.1)))

  no_reached_name : (name : Name) (b : Bool) → has_name nodes name ≡ b → (¬ IsReached draft (place_of draft.nodes name)) → b ≡ false
  no_reached_name name true e lacks = absurd (lacks (has_every (IsReachedName draft) nodes name (nodes_reached draft g fine flags act) e).reached)
  no_reached_name name false e lacks = refl

  idle_tails : AllByRecursion (λ l. has_name nodes l.tail ≡ false) idle
  idle_tails = all_implied (λ l. Entry draft.links l × (¬ Reached l)) (λ l. has_name nodes l.tail ≡ false) (λ l h. no_reached_name l.tail (has_name nodes l.tail) refl h.1) idle idle_ones

  -- ---- sums
  -- the least transit sum to a link's tail is the same by either numbers
  least_in_file : (i : ℕ) (l : NamedLink) (least : ℚ) → slice_get draft.links i ≡ Some l → (has_name nodes l.tail ≡ true)
      → IsLeastTransit (hops_among nodes active) 0 (place_of nodes l.tail) least → IsLeastTransit (draft_hops draft) (source_place draft) (place_of draft.nodes l.tail) least
  least_in_file i l least is named_ h = record {
    taken = (
        let c = walk_to_file draft g nodes active active_of h.taken.0 0 (place_of nodes l.tail) h.taken.1 in
        let from : place_of draft.nodes (name_at nodes 0) ≡ source_place draft = ap (place_of draft.nodes) first_name in
        let to : place_of draft.nodes (name_at nodes (place_of nodes l.tail)) ≡ place_of draft.nodes l.tail = ap (place_of draft.nodes) (name_at-place nodes l.tail named_) in (
          c.image,
          subst (λ u. IsWalk (draft_hops draft) c.image u (place_of draft.nodes l.tail)) from
              (subst (λ w. IsWalk (draft_hops draft) c.image (place_of draft.nodes (name_at nodes 0)) w) to c.is_walk),
          c.sum ∙ h.taken.2,
        ));
    bound = λ walk w. (
        let c = walk_to_net walk (place_of draft.nodes l.tail) w in
        let to : place_of nodes (name_at draft.nodes (place_of draft.nodes l.tail)) ≡ place_of nodes l.tail =
        ap (place_of nodes) (name_at-place draft.nodes l.tail (there draft g fine flags act i l is).0) in
        subst (λ x. least ≤ℚ x) c.sum (h.bound c.image (subst (λ u. IsWalk (hops_among nodes active) c.image u (place_of nodes l.tail)) source_number
        (subst (λ v. IsWalk (hops_among nodes active) c.image (place_of nodes (name_at draft.nodes (source_place draft))) v) to c.is_walk))));
  }

  sum_passes : (e : ℕ) (hop : Hop) (least : ℚ) → IsHop (hops_among nodes active) e hop → IsLeastTransit (hops_among nodes active) 0 hop.tail least → IsFraction least
      → passes_Q Sum least hop.transit ≡ true → HasPassingSum draft
  sum_passes e hop least is is_least fraction wide =
      let c : CameFrom (λ l. hop_of (numbered nodes l)) active e hop = came_from (λ l. hop_of (numbered nodes l)) active e hop is in
      let i = from_marked flags draft.links e c.entry c.is_entry in
      record {
        link = i.0;
        hop = hop_of (numbered draft.nodes c.entry);
        least = least;
        is_hop = slice_get-image (λ l. hop_of (numbered draft.nodes l)) draft.links i.0 c.entry i.1;
        is_least = least_in_file i.0 c.entry least i.1 (active_ends e c.entry c.is_entry).0
            (subst (λ v. IsLeastTransit (hops_among nodes active) 0 v least) (sym (ap (λ (x : Hop). x.tail) c.is_image)) is_least);
        is_fraction = fraction;
        passes = ap (λ (x : Hop). passes_Q Sum least x.transit) c.is_image ∙ wide;
      }

  fits : (e : ℕ) (hop : Hop) (least : ℚ) (b : Bool) → IsHop (hops_among nodes active) e hop → IsLeastTransit (hops_among nodes active) 0 hop.tail least → IsFraction least
      → passes_Q Sum least hop.transit ≡ b → b ≡ false
  fits e hop least true is is_least fraction wide = absurd (fine.1.1.1.1.1.0 (sum_passes e hop least is is_least fraction wide))
  fits e hop least false is is_least fraction wide = refl

  sums_fit : SumsFit n
  sums_fit e hop least is is_least fraction = fits e hop least (passes_Q Sum least hop.transit)
      (subst (λ hops. IsHop hops e hop) hops_are is) (subst (λ hops. IsLeastTransit hops 0 hop.tail least) hops_are is_least) fraction refl

  pub is_named : IsNamed (network_of draft (marked flags draft.links) (marked (map not flags) draft.links))
  is_named = record {
    network = is_network;
    version = g.version;
    numbered = is_numbered;
    limits = within_limits;
    node_names = all_names;
    link_names = record {
      each = all_pushed is_name (names_of active) (names_of idle) (names_are_names active good_links) (names_are_names idle good_idle);
      distinct = distinct_split (λ l. IsReached draft (place_of draft.nodes l.tail)) flags draft.links act g.link_names;
    };
    links = subst (λ first. AllByRecursion (IsNamedLink draft.version) (first ++ idle)) (sym active_again) (every_append (IsNamedLink draft.version) active idle good_links good_idle);
    pieces = g.pieces;
    idle = λ e. none_idle e idle idle_ones;
    idle_tails = idle_tails;
    cycles = λ e walk v h. subst (λ hops. 0ℚ <ℚ transit_sum hops (e ∷ walk)) (sym all_hops_are)
        (circles draft g (nodes ++ others) (active ++ idle) all_of fine.1.1.1.1.0 e walk v (subst (λ hops. IsWalk hops (e ∷ walk) v v) all_hops_are h));
    sums_fit = sums_fit;
  }

-- ---- of a text
closed : (draft : Draft) (n : Named) → IsGoodDraft draft → ReadsAs draft (Ok n) → IsNamed n
closed draft n g h = subst IsNamed (sym h.1.network) (is_named draft g h.0 h.1.flags h.1.active)

read_lines_named : (lines : Result Draft Broken) (n : Named) → ((draft : Draft) → lines ≡ Ok draft → IsGoodDraft draft) → by_lines lines (Ok n) → IsNamed n
read_lines_named (Ok draft) n good h = closed draft n (good draft refl) h
read_lines_named (Err broken) n good h = absurd (cc)

read_bytes_named : (fault : Option LineFault) (lines : Result Draft Broken) (n : Named) → ((draft : Draft) → lines ≡ Ok draft → IsGoodDraft draft)
    → by_bytes fault lines (Ok n) → IsNamed n
read_bytes_named None lines n good h = read_lines_named lines n good h
read_bytes_named (Some fault) lines n good h = absurd (cc)

pub accepted_named : (text : List ℕ) (n : Named) → Reads text (Ok n) → IsNamed n
accepted_named text n h = read_bytes_named (first_fault text) (draft_from (content_lines (read_lines text))) n (λ draft e. draft_kept (content_lines (read_lines text)) draft e) h
