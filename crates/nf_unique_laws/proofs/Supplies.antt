-- Equilibria of networks whose supplies differ only after a departure: up to that departure each is an equilibrium of the other's network.
use Rattle.std.proofs.Common.{◌≡◌, ℕ, suc, ◌<◌, List, [], ◌∷◌, ◌++◌, sym, ap, subst, refl, ◌∙◌}
use Rattle.nf_unique_laws.proofs.Common.{ℚ, 0ℚ, ◌-ℚ◌, min_ℚ, max_ℚ, max0_none, ≤ℚ_refl, ≤ℚ_trans, min_is_left, gap_np, term_and_zero, same_terms, Within, Link}
use Rattle.nf_unique_laws.proofs.Common.{Piece, Network, IsNetwork, ArePieces, IsLink, time_in, supplied, supply, Flow, Balances, label, inflow, queue}
use Rattle.nf_unique_laws.proofs.Common.{Equilibrium}
use Rattle.nf_forever_def.specs.Extended.{up_to}
use Rattle.nf_forever_laws.proofs.Before.{Equilibrium-before}
use Rattle.nf_unique_laws.proofs.Labels.{labels-same}
use Rattle.nf_unique_laws.proofs.Queues.{queues-same}
use Rattle.nf_unique_laws.specs.Supplies.{supplied_by, SupplyAlike, StartFrom}

-- ---- the network with other pieces
IsNetwork-supplied_by : (net : Network) (pieces : List Piece) → IsNetwork net → ArePieces pieces → IsNetwork (supplied_by net pieces)
IsNetwork-supplied_by net pieces good are = record {
  source = good.source;
  sink = good.sink;
  apart = good.apart;
  tails = good.tails;
  heads = good.heads;
  transits = good.transits;
  capacities = good.capacities;
  pieces = are;
  cycles = good.cycles;
  reached = good.reached;
}

Balances-supplied_by : (net : Network) (pieces : List Piece) (amount : ℕ → ℚ → ℚ) (v : ℕ) (time into out : ℚ) → Balances net amount v time into out
    → Balances (supplied_by net pieces) amount v time into out
Balances-supplied_by net pieces amount v time into out b = record { outs = b.outs; outflows = b.outflows; sums = b.sums }

module _ (net : Network) (pieces : List Piece) (flow : Flow) (alike : SupplyAlike net.pieces pieces flow.reached) (is : Equilibrium net flow) where
  Equilibrium-supplied_by : Equilibrium (supplied_by net pieces) flow
  Equilibrium-supplied_by = record {
    reached = is.reached;
    shape = record { labels = is.shape.labels; inflows = is.shape.inflows; outflows = is.shape.outflows; queues = is.shape.queues };
    nash = record {
      starts = is.nash.starts;
      rises = is.nash.rises;
      labels = λ v departure h w. let p = is.nash.labels v departure h w in record { taken = p.taken; least = p.least };
      conserves = record {
        inner = λ v time h a b w. Balances-supplied_by net pieces (inflow flow) v time 0ℚ 0ℚ (is.nash.conserves.inner v time h a b w);
        source = λ time w. subst (λ (u : ℚ). Balances (supplied_by net pieces) (inflow flow) net.source time u 0ℚ) (alike time w)
            (Balances-supplied_by net pieces (inflow flow) net.source time (supply net time) 0ℚ (is.nash.conserves.source time w));
        sink_early = λ time w. Balances-supplied_by net pieces (inflow flow) net.sink time 0ℚ 0ℚ (is.nash.conserves.sink_early time w);
        sink = λ departure w. subst (λ (u : ℚ). Balances (supplied_by net pieces) (inflow flow) net.sink (label flow net.sink departure) 0ℚ u) (alike departure w)
            (Balances-supplied_by net pieces (inflow flow) net.sink (label flow net.sink departure) 0ℚ (supply net departure) (is.nash.conserves.sink departure w));
      };
      only_shortest = is.nash.only_shortest;
    };
    inflow_rates = is.inflow_rates;
    outflow_rates = is.outflow_rates;
    outflows = is.outflows;
    queues = is.queues;
  }

module _ (net : Network) (pieces : List Piece) (until : ℚ) (one other : Flow) (good : IsNetwork net) (are : ArePieces pieces) (alike : SupplyAlike net.pieces pieces until)
    (is_one : Equilibrium net one) (is_other : Equilibrium (supplied_by net pieces) other) (departure : ℚ) (w : Within 0ℚ until departure) (x : Within 0ℚ one.reached departure)
    (y : Within 0ℚ other.reached departure) where
  -- Both flows up to the departure, in the other's network.
  is_one_there : Equilibrium (supplied_by net pieces) (up_to one departure)
  is_one_there = Equilibrium-supplied_by net pieces (up_to one departure) (λ time v. alike time (v.0, ≤ℚ_trans _ _ _ v.1 w.1)) (Equilibrium-before net one departure good is_one w.0 x.1)

  good_there : IsNetwork (supplied_by net pieces)
  good_there = IsNetwork-supplied_by net pieces good are

  is_other_there : Equilibrium (supplied_by net pieces) (up_to other departure)
  is_other_there = Equilibrium-before (supplied_by net pieces) other departure good_there is_other w.0 y.1

  now : Within 0ℚ departure departure
  now = (w.0, ≤ℚ_refl departure)

  pub labels-alike : (v : ℕ) → v < net.nodes → label one v departure ≡ label other v departure
  labels-alike v h = labels-same (supplied_by net pieces) good_there (up_to one departure) (up_to other departure) is_one_there is_other_there v departure h now now

  pub queues-alike : (e : ℕ) (link : Link) (time : ℚ) → IsLink net e link → Within 0ℚ (label one link.tail departure) time → queue one e time ≡ queue other e time
  queues-alike e link time p k = queues-same (supplied_by net pieces) good_there (up_to one departure) (up_to other departure) is_one_there is_other_there e link time p
      (subst (λ (z : ℚ). Within 0ℚ (label one link.tail z) time) (sym (min_same departure)) k)
    where
      min_same : (z : ℚ) → min_ℚ z z ≡ z
      min_same z = min_is_left z z (≤ℚ_refl z)

-- ---- pieces that start later supply nothing before
rest-from : (piece : Piece) (rest : List Piece) (until : ℚ) → StartFrom (piece ∷ rest) until → StartFrom rest until
rest-from piece rest until h i next p = h (suc i) next p

-- How long a piece is the latest one, before pieces that start later than the time.
time_in-later : (start : ℚ) (pieces : List Piece) (time : ℚ) → StartFrom pieces time → time_in start pieces time ≡ max_ℚ 0ℚ (time -ℚ start)
time_in-later start [] time h = refl
time_in-later start (next ∷ rest) time h = ap (λ (t : ℚ). max_ℚ 0ℚ (t -ℚ start)) (min_is_left time next.start (h 0 next refl))

supplied-later : (pieces : List Piece) (time : ℚ) → StartFrom pieces time → supplied pieces time ≡ 0ℚ
supplied-later [] time h = refl
supplied-later (p ∷ rest) time h = term_and_zero p.rate _ _
    (time_in-later p.start rest time (rest-from p rest time h) ∙ max0_none _ (gap_np time p.start (h 0 p refl)))
    (supplied-later rest time (rest-from p rest time h))

supplied-front : (front back others : List Piece) (time : ℚ) → StartFrom back time → StartFrom others time → supplied (front ++ back) time ≡ supplied (front ++ others) time
supplied-front [] back others time h k = supplied-later back time h ∙ sym (supplied-later others time k)
supplied-front (p ∷ []) back others time h k =
    same_terms p.rate _ _ _ _ (time_in-later p.start back time h ∙ sym (time_in-later p.start others time k)) (supplied-front [] back others time h k)
supplied-front (p ∷ q ∷ front) back others time h k = same_terms p.rate _ _ _ _ refl (supplied-front (q ∷ front) back others time h k)

pub pieces-alike : (front back others : List Piece) (until : ℚ) → StartFrom back until → StartFrom others until → SupplyAlike (front ++ back) (front ++ others) until
pieces-alike front back others until h k time w = supplied-front front back others time (λ i piece p. ≤ℚ_trans _ _ _ w.1 (h i piece p)) (λ i piece p. ≤ℚ_trans _ _ _ w.1 (k i piece p))
