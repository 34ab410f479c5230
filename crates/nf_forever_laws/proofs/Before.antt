-- An equilibrium up to a departure is one up to each earlier departure. A link that receives flow just after a departure, in the flow up to
-- the earlier departure, does so in the flow up to the later one: labels and inflows never fall.
use Rattle.std.proofs.Common.{ℕ, ◌<◌, List, [], ◌∷◌, ⊎_elim, subst}
use Rattle.nf_forever_laws.proofs.Common.{slice_get_within, ℚ, 0ℚ, ◌≤ℚ◌, ◌<ℚ◌, ≤ℚ_of_lt, lt_or_le_ℚ, Within, Link, Network, IsNetwork, IsLink, Flow}
use Rattle.nf_forever_laws.proofs.Common.{Equilibrium, TakesFlow, inflow, label, IsPositive-link, up_to, ≤ℚ_refl, ≤ℚ_trans, <_≤_trans, nn_above_sum}
use Rattle.nf_model.specs.Earliest.{Arrives, IsEarliest}
use Rattle.nf_model_laws.proofs.Queues.{IsExit-after}
use Rattle.nf_check_laws.proofs.Rising.{label-rises}

module _ (net : Network) (flow : Flow) (until : ℚ) (good : IsNetwork net) (eq : Equilibrium net flow) (from_0 : 0ℚ ≤ℚ until) (earlier : until ≤ℚ flow.reached) where
  within : (departure : ℚ) → Within 0ℚ until departure → Within 0ℚ flow.reached departure
  within departure w = (w.0, ≤ℚ_trans departure until flow.reached w.1 earlier)

  rises : (v : ℕ) (a b : ℚ) → v < net.nodes → 0ℚ ≤ℚ a → a ≤ℚ b → b ≤ℚ flow.reached → label flow v a ≤ℚ label flow v b
  rises v a b h i j k = label-rises net flow good eq.shape eq.nash.rises flow.reached v a b (λ d w. eq.nash.labels v d h w) i j k

  label_within : (v : ℕ) (time : ℚ) → v < net.nodes → Within 0ℚ (label flow v until) time → Within 0ℚ (label flow v flow.reached) time
  label_within v time h w = (w.0, ≤ℚ_trans time (label flow v until) (label flow v flow.reached) w.1 (rises v until flow.reached h from_0 earlier (≤ℚ_refl flow.reached)))

  arrives_nn : (walk : List ℕ) (t a : ℚ) → 0ℚ ≤ℚ t → Arrives net (inflow flow) walk t a → 0ℚ ≤ℚ a
  arrives_nn [] t a h w = subst (λ (z : ℚ). 0ℚ ≤ℚ z) w h
  arrives_nn (e ∷ walk) t a h w = arrives_nn walk w.2 a
      (nn_above_sum t w.0.transit w.2 h (good.transits e w.0 w.1) (IsExit-after w.0.transit w.0.capacity (inflow flow e) t w.2 (IsPositive-link net e w.0 good w.1) w.3)) w.4

  label_nn : (v : ℕ) (d : ℚ) → v < net.nodes → Within 0ℚ flow.reached d → 0ℚ ≤ℚ label flow v d
  label_nn v d h w = let p : IsEarliest net (inflow flow) v d (label flow v d) = eq.nash.labels v d h w in arrives_nn p.taken.0 d (label flow v d) w.0 p.taken.2

  takes : (e : ℕ) (link : Link) (departure : ℚ) → IsLink net e link → 0ℚ ≤ℚ departure → departure <ℚ until → TakesFlow (inflow flow) (label flow) until e link.tail departure
      → TakesFlow (inflow flow) (label flow) flow.reached e link.tail departure
  takes e link d p i j t later k l = ⊎_elim
      (λ (h : until <ℚ later). <_≤_trans _ _ _ (t until j (≤ℚ_refl until))
      (eq.nash.rises e (slice_get_within net.links e link p) _ _ (label_nn link.tail until (good.tails e link p) (from_0, earlier))
      (rises link.tail until later (good.tails e link p) from_0 (≤ℚ_of_lt _ _ h) l)))
      (λ (h : later ≤ℚ until). t later k h)
      (lt_or_le_ℚ until later)

  pub Equilibrium-before : Equilibrium net (up_to flow until)
  Equilibrium-before = record {
    reached = from_0;
    shape = record { labels = eq.shape.labels; inflows = eq.shape.inflows; outflows = eq.shape.outflows; queues = eq.shape.queues };
    nash = record {
      starts = eq.nash.starts;
      rises = eq.nash.rises;
      labels = λ v departure h w. eq.nash.labels v departure h (within departure w);
      conserves = record {
        inner = λ v time h s t w. eq.nash.conserves.inner v time h s t (label_within v time h w);
        source = λ time w. eq.nash.conserves.source time (within time w);
        sink_early = eq.nash.conserves.sink_early;
        sink = λ departure w. eq.nash.conserves.sink departure (within departure w);
      };
      only_shortest = λ e link departure p i j t. eq.nash.only_shortest e link departure p i (<_≤_trans departure until flow.reached j earlier) (takes e link departure p i j t);
    };
    inflow_rates = eq.inflow_rates;
    outflow_rates = eq.outflow_rates;
    outflows = λ e link time p w. eq.outflows e link time p (label_within link.head time (good.heads e link p) w);
    queues = λ e link time p w. eq.queues e link time p (label_within link.tail time (good.tails e link p) w);
  }
