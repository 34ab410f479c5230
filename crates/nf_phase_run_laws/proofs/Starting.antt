-- The numbers of the network of an accepted file are fractions, and so are the least transit sums, from which a run starts.
use Rattle.std.proofs.Common.{◌≡◌, ℕ, zero, suc, ◌<◌, List, [], ◌∷◌, ◌++◌, length, refl, sym, ap, subst, ◌∙◌, arith, Option, Some, None}
use Rattle.nf_phase_run_laws.proofs.Common.{AllByRecursion, ℚ, 0ℚ, ◌+ℚ◌, ◌≤ℚ◌, reading_of, le, eq, linear_le, linear_eq, Sum, Hop, IsWalk, transit_of}
use Rattle.nf_phase_run_laws.proofs.Common.{transit_sum, IsLeastTransit, Link, hops, AreStartLabels, NamedLink, Named, links_by_name, IsFraction}
use Rattle.nf_phase_run_laws.proofs.Common.{IsCapacity, IsNamedLink, IsNamed, IsFractionOrNone}
use Rattle.nf_model_laws.proofs.Networks.{transit_of-hop, transit_sum-append}
use Rattle.nf_net_def.specs.Names.{Name}
use Rattle.nf_net_laws.proofs.WalkFacts.{walk_push, LastHop}
use Rattle.nf_phase_run_laws.proofs.Lists.{all_from}
use Rattle.nf_phase_run_laws.proofs.Fractions.{AreFractions, zero_fraction, result_fraction, IsFractionLink, HasFractions}

-- ---- the network
capacity_is : (version : ℕ) (capacity : Option ℚ) → IsCapacity version capacity → IsFractionOrNone capacity
capacity_is version None h = tt
capacity_is version (Some x) h = h.0

link_fractions : (version : ℕ) (nodes names : List Name) (links : List Link) (idle : List NamedLink) → length names ≡ length links
    → AllByRecursion (IsNamedLink version) (links_by_name nodes names links ++ idle) → AllByRecursion IsFractionLink links
link_fractions version nodes [] [] idle count all = tt
link_fractions version nodes [] (l ∷ links) idle count all = absurd (omega arith)
link_fractions version nodes (name ∷ names) [] idle count all = tt
link_fractions version nodes (name ∷ names) (l ∷ links) idle count all =
    ((all.0.fraction, capacity_is version l.capacity all.0.capacity), link_fractions version nodes names links idle (omega arith) all.1)

pub named_fractions : (n : Named) → IsNamed n → HasFractions n.net
named_fractions n h = record { links = link_fractions n.version n.node_names n.link_names n.net.links n.idle_links h.numbered.links h.links; pieces = h.pieces }

-- ---- walks by their last hop
pub record EndsBy (hops : List Hop) (u v : ℕ) (walk : List ℕ) : Type 0 where
  pub last : LastHop hops u v
  pub open last use *
  pub shorter : suc (length last.front) ≡ length walk
  pub sum : transit_sum hops walk ≡ transit_sum hops last.front +ℚ last.hop.transit

alone : (t x : ℚ) → t ≡ x → t +ℚ 0ℚ ≡ 0ℚ +ℚ x
alone t x e = linear_eq (t ∷ x ∷ []) (eq e ∷ []) (search reading_of) tt tt

longer : (t s f x : ℚ) → s ≡ f +ℚ x → t +ℚ s ≡ t +ℚ f +ℚ x
longer t s f x e = linear_eq (t ∷ s ∷ f ∷ x ∷ []) (eq e ∷ []) (search reading_of) tt tt

ends_by : (hops : List Hop) (e : ℕ) (walk : List ℕ) (u v : ℕ) → IsWalk hops (e ∷ walk) u v → EndsBy hops u v (e ∷ walk)
ends_by hops e [] u v h = record {
  last = record { front = []; number = e; hop = h.0; is_walk = sym h.2; is_hop = h.1; head = h.3 };
  shorter = refl;
  sum = alone (transit_of hops e) h.0.transit (transit_of-hop hops e h.0 h.1);
}
ends_by hops e (f ∷ walk) u v h =
    let r : EndsBy hops h.0.head v (f ∷ walk) = ends_by hops f walk h.0.head v h.3 in
    record {
      last = record { front = e ∷ r.front; number = r.number; hop = r.hop; is_walk = (h.0, h.1, h.2, r.is_walk); is_hop = r.is_hop; head = r.head };
      shorter = ap suc r.shorter;
      sum = longer (transit_of hops e) (transit_sum hops (f ∷ walk)) (transit_sum hops r.front) r.hop.transit r.sum;
    }

-- a least walk without its last hop is least
less_before : (a b f t w : ℚ) → a ≡ f +ℚ t → b ≡ w +ℚ t → a ≤ℚ b → f ≤ℚ w
less_before a b f t w e g h = linear_le (a ∷ b ∷ f ∷ t ∷ w ∷ []) (eq e ∷ eq g ∷ le h ∷ []) (search reading_of) tt

front_least : (hops : List Hop) (u v : ℕ) (walk : List ℕ) (r : EndsBy hops u v walk) → IsLeastTransit hops u v (transit_sum hops walk)
    → IsLeastTransit hops u r.hop.tail (transit_sum hops r.front)
front_least hops u v walk r least = record {
  taken = (r.front, r.is_walk, refl);
  bound = λ other is. less_before (transit_sum hops walk) (transit_sum hops (other ++ r.number ∷ [])) (transit_sum hops r.front) r.hop.transit (transit_sum hops other) r.sum
      (transit_sum-append hops other r.number ∙ ap (λ (t : ℚ). transit_sum hops other +ℚ t) (transit_of-hop hops r.number r.hop r.is_hop))
      (least.bound (other ++ r.number ∷ []) (subst (λ (w : ℕ). IsWalk hops (other ++ r.number ∷ []) u w) r.head (walk_push hops other u r.hop.tail r.number r.hop is r.is_hop refl)));
}

-- ---- least transit sums
module _ (n : Named) (h : IsNamed n) where
  sum_fractions : (k : ℕ) (walk : List ℕ) (v : ℕ) → length walk ≡ k → IsWalk (hops n.net) walk n.net.source v → IsLeastTransit (hops n.net) n.net.source v (transit_sum (hops n.net) walk)
      → IsFraction (transit_sum (hops n.net) walk)
  sum_fractions k [] v count is least = zero_fraction
  sum_fractions zero (e ∷ walk) v count is least = absurd (omega arith)
  sum_fractions (suc k) (e ∷ walk) v count is least =
      let r : EndsBy (hops n.net) n.net.source v (e ∷ walk) = ends_by (hops n.net) e walk n.net.source v is in
      let before : IsLeastTransit (hops n.net) n.net.source r.hop.tail (transit_sum (hops n.net) r.front) = front_least (hops n.net) n.net.source v (e ∷ walk) r least in
      let fraction : IsFraction (transit_sum (hops n.net) r.front) = sum_fractions k r.front r.hop.tail (omega (arith, r.shorter, count)) r.is_walk before in
      subst IsFraction (sym r.sum)
      (result_fraction Sum (transit_sum (hops n.net) r.front) r.hop.transit (h.sums_fit r.number r.hop (transit_sum (hops n.net) r.front) r.is_hop before fraction))

  pub start_fractions : (labels : List ℚ) → AreStartLabels n.net labels → AreFractions labels
  start_fractions labels start = all_from IsFraction 0ℚ labels (λ v low. (
      let least = start.each v (subst (λ (k : ℕ). v < k) start.count low) in
      let walk = least.taken in
      subst IsFraction walk.2 (sum_fractions (length walk.0) walk.0 v refl walk.1 (subst (IsLeastTransit (hops n.net) n.net.source v) (sym walk.2) least))))
