-- Theorems that compare an equilibrium with the quickest flow.
use Rattle.std.specs.Prelude.{◌≡◌, ◌≢◌, ℕ, ◌<◌, Some, None}
use Rattle.nf_rational.specs.Rational.{ℚ}
use Rattle.nf_rational.specs.Operations.{0ℚ}
use Rattle.nf_rational.specs.Order.{◌≤ℚ◌, min_ℚ, max_ℚ}
use Rattle.nf_model.specs.Curve.{Within}
use Rattle.nf_model.specs.Network.{Link, Network, IsNetwork, IsLink, sum_in, sum_out, supply}
use Rattle.nf_model.specs.Queue.{IsOutflow}
use Rattle.nf_model.specs.Equilibrium.{Flow, label, inflow, outflow, Equilibrium}
use Rattle.nf_model.specs.Quickest.{IsFeasible, delivered, IsQuickest}
use Rattle.nf_net_def.specs.Report.{Report, IsWellFormed}
use Rattle.nf_phase_laws.specs.Invariant.{tail_of}
use Rattle.nf_quick_def.specs.Walks.{head_of}
use Rattle.nf_quick_def.specs.Quick.{Quick}
use Rattle.nf_quick_def.specs.Answers.{IsQuickFlow}
use Rattle.nf_quick_def.specs.Departures.{IsDeparture}

-- The time of [0, `last`] nearest to `time`.
abbrev pub clipped : ℚ → ℚ → ℚ
clipped last time = min_ℚ (max_ℚ 0ℚ time) last

-- The amount that entered link e by `time`, from what leaves the source up to the departure reached. It is 0 up to time 0, then follows the
-- flow, and is constant from the label of the tail at the departure reached.
abbrev pub entered_of : Network → Flow → ℕ → ℚ → ℚ
entered_of net flow e time = inflow flow e (clipped (label flow (tail_of net e) flow.reached) time)

-- The amount of it that left link e by `time`. It follows the flow up to the label of the head at the departure reached, by which time
-- everything has left.
abbrev pub left_of : Network → Flow → ℕ → ℚ → ℚ
left_of net flow e time = outflow flow e (clipped (label flow (head_of net e) flow.reached) time)

-- For any equilibrium, `entered_of` and `left_of` are a feasible flow over time. Up to the labels at the departure reached, they equal the
-- equilibrium's own inflow and outflow. Each link's outflow follows from its inflow by the law of the point queue. Nothing waits at a node
-- other than source and sink. For each departure, exactly the supply by that departure is delivered by the label of the sink.
pub record EquilibriumIsFeasible : Type 0 where
  pub feasible : (net : Network) (flow : Flow) → IsNetwork net → Equilibrium net flow
      → IsFeasible net (entered_of net flow) (left_of net flow)
  pub enters : (net : Network) (flow : Flow) (e : ℕ) (link : Link) (time : ℚ) → IsNetwork net → Equilibrium net flow → IsLink net e link
      → Within 0ℚ (label flow link.tail flow.reached) time → entered_of net flow e time ≡ inflow flow e time
  pub leaves : (net : Network) (flow : Flow) (e : ℕ) (link : Link) (time : ℚ) → IsNetwork net → Equilibrium net flow → IsLink net e link
      → Within 0ℚ (label flow link.head flow.reached) time → left_of net flow e time ≡ outflow flow e time
  pub by_queue : (net : Network) (flow : Flow) (e : ℕ) (link : Link) (time : ℚ) → IsNetwork net → Equilibrium net flow → IsLink net e link
      → 0ℚ ≤ℚ time
      → IsOutflow link.transit link.capacity (entered_of net flow e) time (left_of net flow e time)
  pub none_waits : (net : Network) (flow : Flow) (v : ℕ) (time : ℚ) → IsNetwork net → Equilibrium net flow → v < net.nodes → v ≢ net.source
      → v ≢ net.sink
      → sum_in net.links (λ e. left_of net flow e time) v ≡ sum_out net.links (λ e. entered_of net flow e time) v
  pub delivers : (net : Network) (flow : Flow) (departure : ℚ) → IsNetwork net → Equilibrium net flow → Within 0ℚ flow.reached departure
      → delivered net (entered_of net flow) (left_of net flow) (label flow net.sink departure) ≡ supply net departure

-- Let `time` be that of the quickest flow of the supply by a departure. In an equilibrium, a particle that departs then arrives at the sink
-- no earlier than `time`.
abbrev pub EquilibriumIsNoQuicker : Type 0
EquilibriumIsNoQuicker = (net : Network) (flow : Flow) (departure time : ℚ) → IsNetwork net → Equilibrium net flow
    → Within 0ℚ flow.reached departure
    → IsQuickest net (supply net departure) time → time ≤ℚ label flow net.sink departure

-- The comparison that `quick` prints. The time of the quickest flow of an amount is at most the equilibrium's label of the sink at the
-- least departure by which the supply reaches that amount. The same holds for the report of a run to that departure that was not stopped.
pub record QuickLine : Type 0 where
  pub of_flow : (net : Network) (amount departure : ℚ) (quick : Quick) (flow : Flow) → IsNetwork net → IsQuickFlow net amount quick
      → IsDeparture net amount (Some departure)
      → Equilibrium net flow → departure ≤ℚ flow.reached → quick.time ≤ℚ label flow net.sink departure
  pub of_report : (net : Network) (amount departure : ℚ) (quick : Quick) (report : Report) → IsNetwork net → IsQuickFlow net amount quick
      → IsDeparture net amount (Some departure)
      → IsWellFormed net report → Equilibrium net report.flow → report.horizon ≡ departure → report.stop ≡ None
      → quick.time ≤ℚ label report.flow net.sink departure
