-- The report of a run, and its text.
use Rattle.std.specs.Prelude.{◌≡◌, ◌↔◌, ℕ, suc, List, [], ◌∷◌, ◌++◌, length, map, flat_map, Option, Some, None, slice_get, unwrap_or, codes}
use Rattle.std.specs.List.{range_with_len}
use Rattle.nf_rational.specs.Rational.{ℚ}
use Rattle.nf_rational.specs.Operations.{0ℚ}
use Rattle.nf_rational.specs.Order.{◌≤ℚ◌}
use Rattle.nf_model.specs.declared.State.{State}
use Rattle.nf_model.specs.declared.State.TheVariants.{Tight, Full, Zero}
use Rattle.nf_model.specs.Network.{Link, Network, IsLink}
use Rattle.nf_model.specs.Equilibrium.{Trace, Flow, HasShape, points_at}
use Rattle.nf_model.specs.Pattern.{Pattern, HasState}
use Rattle.nf_frac_words.specs.Digits.{digits_of}
use Rattle.nf_frac_words.specs.Printed.{printed}
use Rattle.nf_net_def.specs.declared.Cause.{Cause}
use Rattle.nf_text_def.specs.Words.{line_of_words}
use Rattle.nf_net_def.specs.Names.{Name, name_at}
use Rattle.nf_net_def.specs.Named.{Named}
use Rattle.nf_net_def.specs.Causes.{cause_words}

-- A report of a run has its flow up to the time reached, the cause of a stop before the horizon, and the pattern of the last phase. The
-- pattern has an entry for each link.
pub record Report : Type 0 where
  pub horizon : ℚ
  pub flow : Flow
  pub stop : Option (Cause ℚ)
  pub last : Pattern

-- each curve has a rate for each of its points except the last
abbrev pub HaveRates : List Trace → Type 0
HaveRates traces = (e : ℕ) (trace : Trace) → slice_get traces e ≡ Some trace → length trace.points ≡ suc (length trace.rates)

pub record IsWellFormed (net : Network) (report : Report) : Type 0 where
  pub shape : HasShape net report.flow
  pub inflow_rates : HaveRates report.flow.inflows
  pub outflow_rates : HaveRates report.flow.outflows
  pub reached : 0ℚ ≤ℚ report.flow.reached
  pub horizon : report.flow.reached ≤ℚ report.horizon
  pub stop : (report.stop ≡ None) ↔ (report.flow.reached ≡ report.horizon)
  pub states : length report.last ≡ length net.links
  pub no_full : (e : ℕ) (link : Link) → IsLink net e link → link.capacity ≡ None → ¬ HasState report.last e Full

-- ---- the words of the lines
-- lists one line for each point of a curve
abbrev pub point_lines : List ℕ → Name → List (ℚ × ℚ) → List (List (List ℕ))
point_lines key name points = map (λ p. key ∷ name ∷ printed p.0 ∷ printed p.1 ∷ []) points

-- lists one line for each point of a trace, with the rate from the point to the next, and `-` at the last point
abbrev pub trace_lines : List ℕ → Name → List (ℚ × ℚ) → List ℚ → List (List (List ℕ))
trace_lines key name [] rates = []
trace_lines key name (p ∷ points) (rate ∷ rates) =
    (key ∷ name ∷ printed p.0 ∷ printed p.1 ∷ printed rate ∷ []) ∷ trace_lines key name points rates
trace_lines key name (p ∷ points) [] = (key ∷ name ∷ printed p.0 ∷ printed p.1 ∷ codes "-" ∷ []) ∷ trace_lines key name points []

abbrev pub trace_at : List Trace → ℕ → Trace
trace_at traces e = unwrap_or (slice_get traces e) (record { points = []; rates = [] })

abbrev pub label_lines : Named → Flow → ℕ → List (List (List ℕ))
label_lines n flow v = point_lines (codes "label") (name_at n.node_names v) (points_at flow.labels v)

-- lists the lines of a link: inflow, outflow and queue
abbrev pub link_lines : Named → Flow → ℕ → List (List (List ℕ))
link_lines n flow e =
    let name = name_at n.link_names e in
    let inflow = trace_at flow.inflows e in
    let outflow = trace_at flow.outflows e in
    trace_lines (codes "inflow") name inflow.points inflow.rates
    ++ trace_lines (codes "outflow") name outflow.points outflow.rates
    ++ point_lines (codes "queue") name (points_at flow.queues e)

abbrev pub state_word : State → List ℕ
state_word Tight = codes "tight"
state_word Full = codes "full"
state_word Zero = codes "zero"

abbrev pub written_state : Name → Option State → List (List (List ℕ))
written_state name None = []
written_state name (Some state) = (codes "state" ∷ name ∷ state_word state ∷ []) ∷ []

abbrev pub state_lines : Named → Pattern → ℕ → List (List (List ℕ))
state_lines n pattern e = written_state (name_at n.link_names e) (unwrap_or (slice_get pattern e) None)

-- lists the lines for each number below `count`, in order
abbrev pub for_each : ℕ → (ℕ → List (List (List ℕ))) → List (List (List ℕ))
for_each count lines_of = flat_map lines_of (range_with_len 0 count)

-- lists the words of the lines: the head, the labels of the nodes, the unreached nodes, the curves of the links, the states of the links,
-- and the end.
abbrev pub report_lines : Named → Report → List (List (List ℕ))
report_lines n report = (codes "report" ∷ digits_of n.version ∷ [])
    ∷ (codes "horizon" ∷ printed report.horizon ∷ [])
    ∷ (codes "reached" ∷ printed report.flow.reached ∷ [])
    ∷ (codes "cause" ∷ cause_words report.stop)
    ∷ for_each n.net.nodes (label_lines n report.flow)
    ++ map (λ name. codes "never" ∷ name ∷ []) n.idle_nodes
    ++ for_each (length n.net.links) (link_lines n report.flow)
    ++ for_each (length n.net.links) (state_lines n report.last)
    ++ (codes "end" ∷ []) ∷ []

abbrev pub report_text : Named → Report → List ℕ
report_text n report = flat_map line_of_words (report_lines n report)
