-- The labels of departure 0.
use Rattle.std.proofs.Common.{◌≡◌, ℕ, zero, suc, ◌<◌, List, [], ◌∷◌, length, map, slice_get, Option, Some, None, refl, sym, ◌∙◌, ap, subst, arith, Result}
use Rattle.std.proofs.Common.{Ok, Err, IfOk, Vec}
use Rattle.nf_net.proofs.Common.{length-map, slice_get_within, ℚ, 0ℚ, ◌≤ℚ◌, number_at, hop_of, hops, NoNegativeTransit, AreDistances, Named, IsNamed}
use Rattle.nf_model.specs.Walk.{Hop, IsHop, IsWalk, IsLeastTransit}
use Rattle.nf_model.specs.Phases.{AreStartLabels}
use Rattle.std.specs.declared.alloc.AllocError.{AllocError}
use Rattle.std.specs.declared.alloc.Global.{Global}
use Rattle.nf_graph.specs.Graph.{AreBelow}
use Rattle.nf_net_laws.proofs.WalkFacts.{CameFrom, came_from}

module _ (n : Named) (h : IsNamed n) (kept : List Hop) (are : kept ≡ hops n.net) where
  tails : (e : ℕ) (hop : Hop) → IsHop (hops n.net) e hop → hop.tail < n.net.nodes
  tails e hop is = let c : CameFrom hop_of n.net.links e hop = came_from hop_of n.net.links e hop is in
      subst (λ (x : Hop). x.tail < n.net.nodes) c.is_image (h.network.tails e c.entry c.is_entry)

  heads : (e : ℕ) (hop : Hop) → IsHop (hops n.net) e hop → hop.head < n.net.nodes
  heads e hop is = let c : CameFrom hop_of n.net.links e hop = came_from hop_of n.net.links e hop is in
      subst (λ (x : Hop). x.head < n.net.nodes) c.is_image (h.network.heads e c.entry c.is_entry)

  transits : (e : ℕ) (hop : Hop) → IsHop (hops n.net) e hop → 0ℚ ≤ℚ hop.transit
  transits e hop is = let c : CameFrom hop_of n.net.links e hop = came_from hop_of n.net.links e hop is in
      subst (λ (x : Hop). 0ℚ ≤ℚ x.transit) c.is_image (h.network.transits e c.entry c.is_entry)

  pub net_below : AreBelow n.net.nodes kept
  net_below = subst (λ (hs : List Hop). AreBelow n.net.nodes hs) (sym are) (record { tails = tails; heads = heads })

  pub net_transits : NoNegativeTransit kept
  net_transits = subst NoNegativeTransit (sym are) transits

  pub net_hops : length kept ≡ length n.net.links
  net_hops = ap length are ∙ length-map n.net.links hop_of

  pub never_none : (sums : List (Option ℚ)) → AreDistances n.net.nodes kept n.net.source sums → (v : ℕ) → slice_get sums v ≡ Some None → ⊥
  never_none sums d v e =
      let lt : v < length sums = slice_get_within sums v None e in
      let walk = h.network.reached v (omega (arith, d.count)) in
      d.none v e walk.0 (subst (λ (hs : List Hop). IsWalk hs walk.0 n.net.source v) (sym are) walk.1)

  pub labels_are : (sums : List (Option ℚ)) (labels : List ℚ) → AreDistances n.net.nodes kept n.net.source sums → map (λ q. Some q) labels ≡ sums → AreStartLabels n.net labels
  labels_are sums labels d e = record {
    count = counted;
    each = λ v lt. subst (λ (hs : List Hop). IsLeastTransit hs n.net.source v (number_at labels v)) are
        (d.least v (number_at labels v) (ap (λ (l : List (Option ℚ)). slice_get l v) (sym e) ∙ at_label labels v (omega (arith, counted))));
  }
    where
      counted : length labels ≡ n.net.nodes
      counted = sym (length-map labels (λ (q : ℚ). Some q)) ∙ ap length e ∙ d.count

      at_label : (labels : List ℚ) (v : ℕ) → v < length labels → slice_get (map (λ q. Some q) labels) v ≡ Some (Some (number_at labels v))
      at_label [] v lt = absurd (omega arith)
      at_label (x ∷ xs) zero lt = refl
      at_label (x ∷ xs) (suc v) lt = at_label xs v (omega arith)

  pub labels_by_sums : (sums : List (Option ℚ)) (r : Result (Vec ℚ Global) AllocError) → AreDistances n.net.nodes kept n.net.source sums
      → IfOk r (λ numbers. map (λ q. Some q) numbers.items ≡ sums) → IfOk r (λ labels. AreStartLabels n.net labels.items)
  labels_by_sums sums (Ok labels) d e = labels_are sums labels.items d e
  labels_by_sums sums (Err fault) d e = tt
