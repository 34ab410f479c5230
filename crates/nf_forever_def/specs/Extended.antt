-- A flow extended by a tail from the departure that it reached.
use Rattle.std.specs.Prelude.{if◌then◌else◌, ℕ, Bool, true, false, List, [], ◌∷◌, ◌++◌, Option, Some, None}
use Rattle.std.specs.List.{last_or}
use Rattle.std.specs.Option.{option_map_or}
use Rattle.nf_rational.specs.Rational.{ℚ}
use Rattle.nf_rational.specs.Operations.{0ℚ, ◌+ℚ◌, ◌-ℚ◌, ◌*ℚ◌}
use Rattle.nf_rational.specs.Order.{lt_ℚ, max_ℚ}
use Rattle.nf_model.specs.Entries.{number_at}
use Rattle.nf_model.specs.Curve.{Point, slope}
use Rattle.nf_model.specs.Network.{Link, Network, hop_of}
use Rattle.nf_model.specs.ThinFlow.{slack}
use Rattle.nf_model.specs.Equilibrium.{Trace, Flow}
use Rattle.nf_rational.specs.Signs.{is_positive}
use Rattle.nf_phase_def.specs.ToEnd.{Tail}

-- The last point of a curve.
abbrev pub last_point : List Point → Point
last_point points = option_map_or (λ point. point) (last_or None points) (0ℚ, 0ℚ)

-- The last value of the curve plus the growth at `rate` over `while`.
abbrev pub extended_value : List Point → ℚ → ℚ → ℚ
extended_value points while rate = (last_point points).1 +ℚ while *ℚ rate

-- The labels at `while` after the end of the label curves.
abbrev pub labels_then : ℚ → List ℚ → List (List Point) → List ℚ
labels_then while (rate ∷ slopes) (points ∷ curves) = extended_value points while rate ∷ labels_then while slopes curves
labels_then while slopes curves = []

-- The queue whose waiting time is the slack, if the slack is above 0; 0 for an unbounded link.
abbrev pub queue_then : Option ℚ → ℚ → ℚ
queue_then None slack = 0ℚ
queue_then (Some capacity) slack = capacity *ℚ max_ℚ 0ℚ slack

-- ---- one more point, if the label of the curve's node rises

abbrev pub with_end : Bool → List Point → Point → List Point
with_end true points point = points ++ point ∷ []
with_end false points point = points

abbrev pub trace_with_end : Bool → Trace → Point → Trace
trace_with_end true trace point = record
    { points = trace.points ++ point ∷ []; rates = trace.rates ++ slope (last_point trace.points) point ∷ [] }
trace_with_end false trace point = trace

-- The label curve of each node, extended to the departure `until`.
abbrev pub labels_with_end : ℚ → List ℚ → List (List Point) → List (List Point)
labels_with_end until (label ∷ labels) (points ∷ curves) = (points ++ (until, label) ∷ []) ∷ labels_with_end until labels curves
labels_with_end until labels curves = []

-- For each link the inflow extended to the label of the tail, the outflow to that of the head, and the queue to that of the tail.
module _ (while : ℚ) (slopes labels : List ℚ) where
  -- For each link a trace extended to the label of one of its ends.
  abbrev pub traces_with_end : (Link → ℕ) → List Link → List ℚ → List Trace → List Trace
  traces_with_end end (link ∷ links) (flow ∷ flows) (trace ∷ traces) =
      trace_with_end (is_positive (number_at slopes (end link))) trace (number_at labels (end link), extended_value trace.points while flow)
      ∷ traces_with_end end links flows traces
  traces_with_end end links flows traces = []

  abbrev pub inflows_with_end : List Link → List ℚ → List Trace → List Trace
  inflows_with_end = traces_with_end (λ (link : Link). link.tail)

  abbrev pub outflows_with_end : List Link → List ℚ → List Trace → List Trace
  outflows_with_end = traces_with_end (λ (link : Link). link.head)

  abbrev pub queues_with_end : List Link → List (List Point) → List (List Point)
  queues_with_end (link ∷ links) (points ∷ curves) =
      with_end (is_positive (number_at slopes link.tail)) points
      (number_at labels link.tail, queue_then link.capacity (slack labels (hop_of link))) ∷ queues_with_end links curves
  queues_with_end links curves = []

-- ---- the flow up to a departure after the one that it reached
abbrev pub extended_with : Network → Flow → Tail → ℚ → List ℚ → Flow
extended_with net flow tail until labels = record {
  reached = until;
  labels = labels_with_end until labels flow.labels;
  inflows = inflows_with_end (until -ℚ flow.reached) tail.slopes labels net.links tail.flows flow.inflows;
  outflows = outflows_with_end (until -ℚ flow.reached) tail.slopes labels net.links tail.flows flow.outflows;
  queues = queues_with_end (until -ℚ flow.reached) tail.slopes labels net.links flow.queues;
}

abbrev pub extended : Network → Flow → Tail → ℚ → Flow
extended net flow tail until = extended_with net flow tail until (labels_then (until -ℚ flow.reached) tail.slopes flow.labels)

-- The same curves, restricted to an earlier departure.
abbrev pub up_to : Flow → ℚ → Flow
up_to flow until = record { reached = until; labels = flow.labels; inflows = flow.inflows; outflows = flow.outflows; queues = flow.queues }

-- The flow up to any departure.
abbrev pub flow_until : Network → Flow → Tail → ℚ → Flow
flow_until net flow tail until = if lt_ℚ flow.reached until then extended net flow tail until else up_to flow until
