-- Walks along a ladder: each node is reached from the source, and transit sums are whole numbers that fit.
use Rattle.std.proofs.Common.{◌≡◌, ℕ, zero, suc, ◌+◌, ◌-◌, ◌*◌, ◌%◌, ◌<◌, ◌≤◌, true, false, List, [], ◌∷◌, ◌++◌, length, slice_get, Some, pos, codes, refl}
use Rattle.std.proofs.Common.{sym, ◌∙◌, ap, subst, arith, length-append}
use Rattle.nf_gen.proofs.Common.{AllByRecursion, ℚ, 0ℚ, whole, ◌+ℚ◌, ◌≤ℚ◌, ◌<ℚ◌, <ℚ_irrefl, Sum, passes_Q, hop_of, Name, place_of, name_at, NamedLink}
use Rattle.nf_gen.proofs.Common.{numbered, Draft, draft_hops, source_place, HasZeroCycle, HasPassingSum, all_at, place_at, place_below, entry_all, CameFrom}
use Rattle.nf_gen.proofs.Common.{came_from, walk_push, Entry, not_both, drawn, upper, lower, Ends, link_from, rails_on, links_in, links_along, links_down}
use Rattle.nf_gen.proofs.Common.{links_out, ladder_ends, drawn_link, drawn_links, drawn_pieces, rung_nodes, ladder_nodes, ladder_links}
use Rattle.nf_model.specs.Walk.{Hop, IsHop, IsWalk, transit_sum}
use Rattle.nf_model_laws.proofs.Networks.{transit_of-hop}
use Rattle.nf_rational_laws.proofs.Entries.{slice_get-image}
use Rattle.nf_gen.proofs.Wholes.{small_sum, sum_whole, below_whole, above_zero}
use Rattle.nf_gen.proofs.Ranges.{all_flat, entry_left, entry_right, entry_flat}
use Rattle.nf_gen.proofs.LadderNames.{distinct_nodes}
use Rattle.nf_gen.proofs.LadderNodes.{HasBoth, ends_there, drawn_ends}

-- what the lines of a ladder's file say
abbrev pub file_of : ℕ → ℕ → Draft
file_of number rungs = record {
  version = 1;
  source = Some (codes "s");
  sink = Some (codes "t");
  nodes = ladder_nodes rungs;
  links = ladder_links number rungs;
  pieces = drawn_pieces number (3 * rungs + 2);
  ended = true;
}

-- ---- walks by names
pub record Reaches (draft : Draft) (most : ℕ) (name : Name) : Type 0 where
  pub walk : List ℕ
  pub is_walk : IsWalk (draft_hops draft) walk (source_place draft) (place_of draft.nodes name)
  pub short : length walk ≤ most

weaker : (draft : Draft) (few many : ℕ) (name : Name) → few ≤ many → Reaches draft few name → Reaches draft many name
weaker draft few many name le r = record { walk = r.walk; is_walk = r.is_walk; short = (let h : length r.walk ≤ few = r.short in omega arith) }

further : (draft : Draft) (most : ℕ) (tail head : Name) (k : NamedLink) → Entry draft.links k → k.tail ≡ tail → k.head ≡ head → Reaches draft most tail → Reaches draft (suc most) head
further draft most tail head k is e f r = record {
  walk = r.walk ++ is.0 ∷ [];
  is_walk = subst (λ (x : Name). IsWalk (draft_hops draft) (r.walk ++ is.0 ∷ []) (source_place draft) (place_of draft.nodes x)) f
      (walk_push (draft_hops draft) r.walk (source_place draft) (place_of draft.nodes tail) is.0 (hop_of (numbered draft.nodes k)) r.is_walk
      (slice_get-image (λ l. hop_of (numbered draft.nodes l)) draft.links is.0 k is.1) (ap (λ (x : Name). place_of draft.nodes x) e));
  short = (
      let long : length (r.walk ++ is.0 ∷ []) ≡ length r.walk + 1 = length-append r.walk (is.0 ∷ []) in
      let before : length r.walk ≤ most = r.short in omega arith);
}

-- the link that is drawn for a place
record Drawn (number place : ℕ) (links : List Ends) (l : Ends) : Type 0 where
  link : NamedLink
  is_link : Entry (drawn_links number place links) link
  tail : link.tail ≡ l.tail
  head : link.head ≡ l.head

drawn_at : (number place : ℕ) (links : List Ends) (i : ℕ) (l : Ends) → slice_get links i ≡ Some l → Drawn number place links l
drawn_at number place [] i l is = absurd (cc)
drawn_at number place (x ∷ links) zero l is =
    let same : x ≡ l = cc in
    record { link = drawn_link number place x; is_link = (0, refl); tail = ap (λ (y : Ends). y.tail) same; head = ap (λ (y : Ends). y.head) same }
drawn_at number place (x ∷ links) (suc i) l is =
    let r : Drawn number (place + 1) links l = drawn_at number (place + 1) links i l is in
    record { link = r.link; is_link = (suc r.is_link.0, r.is_link.1); tail = r.tail; head = r.head }

-- ---- transit times
pub record IsSmall (q : ℚ) : Type 0 where
  pub value : ℕ
  pub is : q ≡ whole (pos value)
  pub some : 1 ≤ value
  pub few : value ≤ 5

drawn_small : (number place : ℕ) (links : List Ends) → AllByRecursion (λ (l : NamedLink). IsSmall l.transit) (drawn_links number place links)
drawn_small number place [] = tt
drawn_small number place (l ∷ links) = (record { value = 1 + drawn number (2 * place + 1) % 5; is = refl; some = omega arith; few = omega arith }, drawn_small number (place + 1) links)

record IsWholeSum (hops : List Hop) (walk : List ℕ) : Type 0 where
  value : ℕ
  is : transit_sum hops walk ≡ whole (pos value)
  few : value ≤ 5 * length walk

module _ (hops : List Hop) (small : (e : ℕ) (hop : Hop) → IsHop hops e hop → IsSmall hop.transit) where
  whole_sum : (walk : List ℕ) (u v : ℕ) → IsWalk hops walk u v → IsWholeSum hops walk
  whole_sum [] u v h = record { value = 0; is = refl; few = omega arith }
  whole_sum (e ∷ walk) u v h =
      let k : IsSmall h.0.transit = small e h.0 h.1 in
      let r : IsWholeSum hops walk = whole_sum walk h.0.head v h.3 in
      record {
        value = k.value + r.value;
        is = (λ i. (transit_of-hop hops e h.0 h.1 ∙ k.is) i +ℚ r.is i) ∙ sum_whole k.value r.value;
        few = (let a : k.value ≤ 5 = k.few in let b : r.value ≤ 5 * length walk = r.few in omega arith);
      }

-- ---- the ladder
module _ (number rungs : ℕ) (some : 1 ≤ rungs) (few : rungs ≤ 30) where
  by_link : (l : Ends) (most : ℕ) → Entry (ladder_ends rungs) l → Reaches (file_of number rungs) most l.tail → Reaches (file_of number rungs) (suc most) l.head
  by_link l most is r =
      let d : Drawn number 0 (ladder_ends rungs) l = drawn_at number 0 (ladder_ends rungs) is.0 l is.1 in
      further (file_of number rungs) most l.tail l.head d.link d.is_link d.tail d.head r

  source_reached : Reaches (file_of number rungs) 0 (codes "s")
  source_reached = record { walk = []; is_walk = refl; short = omega arith }

  on_rails : (l : Ends) (j : ℕ) → 1 ≤ j → j < rungs → Entry (rails_on j) l → Entry (ladder_ends rungs) l
  on_rails l j low high is =
      entry_left (links_in ++ links_along rungs ++ links_down rungs) (links_out rungs) l
      (entry_left (links_in ++ links_along rungs) (links_down rungs) l (entry_right links_in (links_along rungs) l
      (entry_flat rails_on l 1 (rungs - 1) j low (omega arith) is)))

  -- Along a rail each node is reached from the one before.
  rail_reached : (rail : ℕ → Name) → Reaches (file_of number rungs) 1 (rail 1)
      → ((j : ℕ) → 1 ≤ j → j < rungs → Entry (ladder_ends rungs) (link_from (rail j) (rail j) (rail (j + 1)))) → (j : ℕ) → 1 ≤ j → j ≤ rungs → Reaches (file_of number rungs) j (rail j)
  rail_reached rail first on zero low high = absurd (omega arith)
  rail_reached rail first on (suc zero) low high = first
  rail_reached rail first on (suc (suc j)) low high =
      let next : suc j + 1 ≡ suc (suc j) = omega arith in
      subst (λ (k : ℕ). Reaches (file_of number rungs) (suc (suc j)) (rail k)) next
      (by_link (link_from (rail (suc j)) (rail (suc j)) (rail (suc j + 1))) (suc j) (on (suc j) (omega arith) (omega arith))
      (rail_reached rail first on (suc j) (omega arith) (omega arith)))

  upper_reached : (j : ℕ) → 1 ≤ j → j ≤ rungs → Reaches (file_of number rungs) j (upper j)
  upper_reached = rail_reached upper (by_link (link_from (codes "su") (codes "s") (upper 1)) 0 (0, refl) source_reached) (λ j low high. on_rails _ j low high (0, refl))

  lower_reached : (j : ℕ) → 1 ≤ j → j ≤ rungs → Reaches (file_of number rungs) j (lower j)
  lower_reached = rail_reached lower (by_link (link_from (codes "sl") (codes "s") (lower 1)) 0 (1, refl) source_reached) (λ j low high. on_rails _ j low high (1, refl))

  sink_reached : Reaches (file_of number rungs) (suc rungs) (codes "t")
  sink_reached = by_link (link_from (codes "ut") (upper rungs) (codes "t")) rungs (entry_right (links_in ++ links_along rungs ++ links_down rungs) (links_out rungs) _ (0, refl)) (upper_reached rungs some (omega arith))

  all_reached : AllByRecursion (Reaches (file_of number rungs) 31) (ladder_nodes rungs)
  all_reached = (
    weaker (file_of number rungs) 0 31 (codes "s") (omega arith) source_reached,
    (
      weaker (file_of number rungs) (suc rungs) 31 (codes "t") (omega arith) sink_reached,
      all_flat (Reaches (file_of number rungs) 31) rung_nodes 1 rungs (λ j low high. (
        weaker (file_of number rungs) j 31 (upper j) (omega arith) (upper_reached j low (omega arith)),
        (weaker (file_of number rungs) j 31 (lower j) (omega arith) (lower_reached j low (omega arith)), tt),
      )),
    ),
  )

  -- each node is reached by a short walk
  pub node_reached : (v : ℕ) → v < length (ladder_nodes rungs) → (walk : List ℕ)
      × IsWalk (draft_hops (file_of number rungs)) walk (source_place (file_of number rungs)) v × (length walk ≤ 31)
  node_reached v low =
      let r : Reaches (file_of number rungs) 31 (name_at (ladder_nodes rungs) v) = all_at (Reaches (file_of number rungs) 31) (ladder_nodes rungs) v all_reached low in (
        r.walk,
        subst (λ (w : ℕ). IsWalk (draft_hops (file_of number rungs)) r.walk (source_place (file_of number rungs)) w)
            (place_at (ladder_nodes rungs) v (distinct_nodes rungs) low) r.is_walk,
        r.short,
      )

  pub both_there : AllByRecursion (HasBoth (ladder_nodes rungs)) (ladder_links number rungs)
  both_there = drawn_ends (ladder_nodes rungs) number 0 (ladder_ends rungs) (ends_there rungs some)

  hop_from : (e : ℕ) (hop : Hop) → IsHop (draft_hops (file_of number rungs)) e hop → CameFrom (λ l. hop_of (numbered (ladder_nodes rungs) l)) (ladder_links number rungs) e hop
  hop_from e hop is = came_from (λ l. hop_of (numbered (ladder_nodes rungs) l)) (ladder_links number rungs) e hop is

  hop_small : (e : ℕ) (hop : Hop) → IsHop (draft_hops (file_of number rungs)) e hop → IsSmall hop.transit
  hop_small e hop is =
      let c = hop_from e hop is in
      subst (λ (x : Hop). IsSmall x.transit) c.is_image (entry_all (λ (l : NamedLink). IsSmall l.transit) (ladder_links number rungs) e c.entry
      (drawn_small number 0 (ladder_ends rungs)) c.is_entry)

  tail_low : (e : ℕ) (hop : Hop) → IsHop (draft_hops (file_of number rungs)) e hop → hop.tail < length (ladder_nodes rungs)
  tail_low e hop is =
      let c = hop_from e hop is in
      subst (λ (x : Hop). x.tail < length (ladder_nodes rungs)) c.is_image
      (place_below (ladder_nodes rungs) c.entry.tail (entry_all (HasBoth (ladder_nodes rungs)) (ladder_links number rungs) e c.entry both_there c.is_entry).0)

  pub no_zero_cycle : HasZeroCycle (file_of number rungs) → ⊥
  no_zero_cycle c =
      let k : IsSmall c.closed.0.transit = hop_small c.first c.closed.0 c.closed.1 in
      let above : 0ℚ <ℚ whole (pos k.value) = above_zero k.value k.some in
      let none : whole (pos k.value) ≡ 0ℚ = sym k.is ∙ sym (transit_of-hop (draft_hops (file_of number rungs)) c.first c.closed.0 c.closed.1) ∙ c.zero.0 in
      <ℚ_irrefl 0ℚ (subst (λ (x : ℚ). 0ℚ <ℚ x) none above)

  pub no_passing_sum : HasPassingSum (file_of number rungs) → ⊥
  no_passing_sum p =
      let t : IsSmall p.hop.transit = hop_small p.link p.hop p.is_hop in
      let s : IsWholeSum (draft_hops (file_of number rungs)) p.is_least.taken.0 =
      whole_sum (draft_hops (file_of number rungs)) hop_small p.is_least.taken.0 (source_place (file_of number rungs)) p.hop.tail p.is_least.taken.1 in
      let least_is : p.least ≡ whole (pos s.value) = sym p.is_least.taken.2 ∙ s.is in
      let r = node_reached p.hop.tail (tail_low p.link p.hop p.is_hop) in
      let b : IsWholeSum (draft_hops (file_of number rungs)) r.0 = whole_sum (draft_hops (file_of number rungs)) hop_small r.0 (source_place (file_of number rungs)) p.hop.tail r.1 in
      let below : s.value ≤ b.value = below_whole s.value b.value (subst (λ (x : ℚ). x ≤ℚ whole (pos b.value)) least_is
      (subst (λ (x : ℚ). p.least ≤ℚ x) b.is (p.is_least.bound r.0 r.1))) in
      let most : b.value ≤ 5 * length r.0 = b.few in
      let short : length r.0 ≤ 31 = r.2 in
      let few_t : t.value ≤ 5 = t.few in
      let fits : passes_Q Sum (whole (pos s.value)) (whole (pos t.value)) ≡ false = small_sum s.value t.value (omega arith) (omega arith) in
      not_both (passes_Q Sum (whole (pos s.value)) (whole (pos t.value))) ((λ i. passes_Q Sum (sym least_is i) (sym t.is i)) ∙ p.passes) fits
