-- Nash flows over time (Koch and Skutella 2011; Cominetti, Correa and Larré 2015). A report describes a flow.
use Rattle.std.specs.Prelude.{◌≡◌, ◌≢◌, ℕ, ◌<◌, List, [], length, Some, slice_get, unwrap_or, map}
use Rattle.nf_rational.specs.Rational.{ℚ}
use Rattle.nf_rational.specs.Operations.{0ℚ, ◌+ℚ◌}
use Rattle.nf_rational.specs.Order.{◌≤ℚ◌, ◌<ℚ◌}
use Rattle.nf_model.specs.Curve.{Within, NeverFalls, value, IsCurve, AreSlopes}
use Rattle.nf_model.specs.Network.{Link, Network, IsLink, sum_in, sum_out, supply}
use Rattle.nf_model.specs.Queue.{IsQueue, IsExit, IsOutflow}
use Rattle.nf_model.specs.Earliest.{IsEarliest}

-- ---- by functions of time: `amount e time` has entered link e by `time`, and `label v departure` is the earliest
-- ---- arrival at node v for this departure from the source

-- The balance of a node at a time. The cumulative outflow of the links into it, plus `extra_in`, is equal to the cumulative inflow of the
-- links out of it, plus `extra_out`. Here `outs` holds the outflow of each link into the node.
pub record Balances (net : Network) (amount : ℕ → ℚ → ℚ) (v : ℕ) (time extra_in extra_out : ℚ) : Type 0 where
  pub outs : ℕ → ℚ
  pub outflows : (e : ℕ) (link : Link) → IsLink net e link → link.head ≡ v → IsOutflow link.transit link.capacity (amount e) time (outs e)
  pub sums : sum_in net.links outs v +ℚ extra_in ≡ sum_out net.links (λ e. amount e time) v +ℚ extra_out

-- All flow that leaves the source up to `until` is conserved.
pub record Conserves (net : Network) (amount label : ℕ → ℚ → ℚ) (until : ℚ) : Type 0 where
  -- at each node except source and sink, up to the arrival of the last departure
  pub inner : (v : ℕ) (time : ℚ) → v < net.nodes → v ≢ net.source → v ≢ net.sink → Within 0ℚ (label v until) time
      → Balances net amount v time 0ℚ 0ℚ
  -- at the source, where the supply enters
  pub source : (time : ℚ) → Within 0ℚ until time → Balances net amount net.source time (supply net time) 0ℚ
  -- at the sink, nothing stays before the first arrival
  pub sink_early : (time : ℚ) → Within 0ℚ (label net.sink 0ℚ) time → Balances net amount net.sink time 0ℚ 0ℚ
  -- at the sink, what stays by an arrival is the supply up to its departure
  pub sink : (departure : ℚ) → Within 0ℚ until departure → Balances net amount net.sink (label net.sink departure) 0ℚ (supply net departure)

-- Link e out of the node `tail` takes flow just after a departure. Each later departure, up to `until`, has a greater cumulative inflow
-- of the link at its arrival at `tail`.
abbrev pub TakesFlow : (ℕ → ℚ → ℚ) → (ℕ → ℚ → ℚ) → ℚ → ℕ → ℕ → ℚ → Type 0
TakesFlow amount label until e tail departure =
    (later : ℚ) → departure <ℚ later → later ≤ℚ until → amount e (label tail departure) <ℚ amount e (label tail later)

-- A link that takes flow just after a departure lies on a shortest route for that departure. Its exit for entry at the tail's label is
-- the head's label.
abbrev pub OnlyShortest : Network → (ℕ → ℚ → ℚ) → (ℕ → ℚ → ℚ) → ℚ → Type 0
OnlyShortest net amount label until =
    (e : ℕ) (link : Link) (departure : ℚ) → IsLink net e link → 0ℚ ≤ℚ departure → departure <ℚ until
    → TakesFlow amount label until e link.tail departure
    → IsExit link.transit link.capacity (amount e) (label link.tail departure) (label link.head departure)

-- The flow is a Nash flow over time, for all flow that leaves the source up to `until`. The links are empty at time 0, and cumulative
-- inflows never fall. The labels are the earliest arrivals, flow is conserved, and flow takes shortest routes only.
pub record IsNashFlow (net : Network) (amount label : ℕ → ℚ → ℚ) (until : ℚ) : Type 0 where
  pub starts : (e : ℕ) → e < length net.links → amount e 0ℚ ≡ 0ℚ
  pub rises : (e : ℕ) → e < length net.links → NeverFalls (amount e)
  pub labels : (v : ℕ) (departure : ℚ) → v < net.nodes → Within 0ℚ until departure → IsEarliest net amount v departure (label v departure)
  pub conserves : Conserves net amount label until
  pub only_shortest : OnlyShortest net amount label until

-- ---- the flow of a report

-- `rates` holds the printed slopes, each from a point to the next
pub record Trace : Type 0 where
  pub points : List (ℚ × ℚ)
  pub rates : List ℚ

-- A reported flow, for departures up to `reached`. The record has the label curve of each node by departure, and for each link by time the
-- cumulative inflow, the cumulative outflow and the queue.
pub record Flow : Type 0 where
  pub reached : ℚ
  pub labels : List (List (ℚ × ℚ))
  pub inflows : List Trace
  pub outflows : List Trace
  pub queues : List (List (ℚ × ℚ))

-- the points of curve i
abbrev pub points_at : List (List (ℚ × ℚ)) → ℕ → List (ℚ × ℚ)
points_at curves i = unwrap_or (slice_get curves i) []

abbrev pub points_of : List Trace → List (List (ℚ × ℚ))
points_of traces = map (λ trace. trace.points) traces

-- the values of the flow for a node or link at a time
abbrev pub label : Flow → ℕ → ℚ → ℚ
label flow v departure = value (points_at flow.labels v) departure

abbrev pub inflow : Flow → ℕ → ℚ → ℚ
inflow flow e time = value (points_at (points_of flow.inflows) e) time

abbrev pub outflow : Flow → ℕ → ℚ → ℚ
outflow flow e time = value (points_at (points_of flow.outflows) e) time

abbrev pub queue : Flow → ℕ → ℚ → ℚ
queue flow e time = value (points_at flow.queues e) time

-- a list of `many` curves
pub record AreCurves (many : ℕ) (curves : List (List (ℚ × ℚ))) : Type 0 where
  pub count : length curves ≡ many
  pub each : (i : ℕ) → i < many → IsCurve (points_at curves i)

-- the flow has one curve of each kind for each node or link
pub record HasShape (net : Network) (flow : Flow) : Type 0 where
  pub labels : AreCurves net.nodes flow.labels
  pub inflows : AreCurves (length net.links) (points_of flow.inflows)
  pub outflows : AreCurves (length net.links) (points_of flow.outflows)
  pub queues : AreCurves (length net.links) flow.queues

-- the printed rates are the slopes of their curve
abbrev pub HasSlopes : List Trace → Type 0
HasSlopes traces = (e : ℕ) (trace : Trace) → slice_get traces e ≡ Some trace → AreSlopes trace.points trace.rates

-- The flow is an equilibrium of the network up to its reached time. Its inflows and labels are a Nash flow over time, and its rates are
-- right. For flow that leaves the source by then, each link's outflow is right up to its arrival at the head, and the queue up to its
-- arrival at the tail.
pub record Equilibrium (net : Network) (flow : Flow) : Type 0 where
  pub reached : 0ℚ ≤ℚ flow.reached
  pub shape : HasShape net flow
  pub nash : IsNashFlow net (inflow flow) (label flow) flow.reached
  pub inflow_rates : HasSlopes flow.inflows
  pub outflow_rates : HasSlopes flow.outflows
  pub outflows : (e : ℕ) (link : Link) (time : ℚ) → IsLink net e link → Within 0ℚ (label flow link.head flow.reached) time
      → IsOutflow link.transit link.capacity (inflow flow e) time (outflow flow e time)
  pub queues : (e : ℕ) (link : Link) (time : ℚ) → IsLink net e link → Within 0ℚ (label flow link.tail flow.reached) time
      → IsQueue link.capacity (inflow flow e) time (queue flow e time)
