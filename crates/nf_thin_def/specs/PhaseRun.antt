-- The phase run and its report. From departure 0 on, each phase is made by the first accepted pattern, until the horizon or a stop.
use Rattle.std.specs.Prelude.{◌≡◌, ℕ, suc, ◌<◌, List, length, map, replicate, Option, Some, None, Result, Ok, Err}
use Rattle.nf_rational.specs.Rational.{ℚ}
use Rattle.nf_rational.specs.Operations.{0ℚ, ◌+ℚ◌}
use Rattle.nf_rational.specs.Order.{◌<ℚ◌}
use Rattle.nf_frac_def.specs.Passing.{Passing}
use Rattle.nf_frac_def.specs.Checked.{at_part, placed, ◌>>=◌}
use Rattle.nf_frac_def.specs.declared.Part.TheVariants.{Slack, Extend, Advance, Curve}
use Rattle.nf_frac_def.specs.declared.Passed.{Passed}
use Rattle.nf_frac_def.specs.declared.PassedAt.{PassedAt}
use Rattle.nf_model.specs.Curve.{IsShort}
use Rattle.nf_model.specs.Network.{Network, hops, rate_at}
use Rattle.nf_model.specs.ThinFlow.{slacks_of, sets_at}
use Rattle.nf_model.specs.Pattern.{Pattern, IsBase}
use Rattle.nf_model.specs.Phases.{AreStartLabels, IsPhaseLength}
use Rattle.nf_model.specs.Equilibrium.{Flow, points_at, points_of}
use Rattle.nf_net_def.specs.declared.Cause.{Cause}
use Rattle.nf_net_def.specs.Report.{Report}
use Rattle.nf_thin_def.specs.Slack.{slack_list}
use Rattle.nf_thin_def.specs.Extend.{extend_list}
use Rattle.nf_thin_def.specs.Advance.{advance_list}
use Rattle.nf_thin_def.specs.CurveList.{LinkStep, curve_list}
use Rattle.nf_thin_def.specs.Search.{SearchAnswer, Found, OverBudget, PassesAt, NoPattern, IsSearch}
use Rattle.nf_thin_def.specs.ReportCurves.{GrowingCurve, LinkCurves, first_label_curve, first_curves, label_curves_after, link_curves_after, amount_so_far}

-- The state of a run. It has the departure reached, the labels of the nodes there, the curves up to there, the number of phases made, and
-- the pattern of the last phase.
pub record Standing : Type 0 where
  pub time : ℚ
  pub labels : List ℚ
  pub label_curves : List GrowingCurve
  pub link_curves : List LinkCurves
  pub made : ℕ
  pub last : Pattern

-- The bounds of a run: the horizon, the number of phases, and the number of patterns in each phase.
pub record Bounds : Type 0 where
  pub horizon : ℚ
  pub phases : ℕ
  pub patterns : ℕ

-- The result of a phase: its length, the labels at its end, and the extension of each link's curves.
pub record PhaseStep : Type 0 where
  pub length : ℚ
  pub labels : List ℚ
  pub links : List LinkStep

-- The run state before the first phase. The labels are the least transit sums from the source, and no link has a state.
pub record IsStart (net : Network) (s : Standing) : Type 0 where
  pub time : s.time ≡ 0ℚ
  pub labels : AreStartLabels net s.labels
  pub label_curves : s.label_curves ≡ map first_label_curve s.labels
  pub link_curves : s.link_curves ≡ map (first_curves s.labels) net.links
  pub made : s.made ≡ 0
  pub last : s.last ≡ replicate (length net.links) None

-- The run state after a phase with this pattern and these slopes.
abbrev pub standing_after : Network → Standing → Pattern → List ℚ → PhaseStep → Standing
standing_after net s pattern slopes step = record {
  time = s.time +ℚ step.length;
  labels = step.labels;
  label_curves = label_curves_after (s.time +ℚ step.length) step.labels slopes s.label_curves;
  link_curves = link_curves_after step.labels net.links s.link_curves step.links;
  made = suc s.made;
  last = pattern;
}

-- The cause for which a phase's search gives no thin flow, or none if it gives one.
abbrev pub cause_of_search : ℕ → ℕ → SearchAnswer → Option (Cause ℚ)
cause_of_search phase budget (Found place pattern flows slopes) = None
cause_of_search phase budget OverBudget = Some (Cause.Patterns phase budget)
cause_of_search phase budget (PassesAt place at) = Some (Cause.Passed phase (Some place) at)
cause_of_search phase budget NoPattern = Some (Cause.NoPattern phase)

-- ---- one phase, with this horizon and this budget of patterns
module _ (passes : Passing) (net : Network) (horizon : ℚ) where
  -- The extend, advance and curve operations, in this order.
  unfoldable pub phase_lists : Standing → Pattern → List ℚ → List ℚ → Result PhaseStep (PassedAt ℚ)
  phase_lists s pattern flows slopes = do
    extension ← at_part Extend (extend_list passes net (slacks_of (hops net) s.labels) slopes s.time)
    advanced ← at_part Advance (advance_list passes horizon s.time extension s.labels slopes)
    links ← at_part Curve (curve_list passes net (sets_at net s.labels) pattern advanced.length flows slopes advanced.labels
        (map amount_so_far s.link_curves))
    Ok (record { length = advanced.length; labels = advanced.labels; links = links })

module _ (passes : Passing) (net : Network) (horizon : ℚ) (patterns : ℕ) where
  -- The search of the phase that begins here, for the link sets of the slacks and the supply's rate.
  pub record IsSearchHere (s : Standing) (answer : SearchAnswer) : Type 0 where
    pub base : Pattern
    pub is_base : IsBase (hops net) (sets_at net s.labels) s.last base
    pub is_search : IsSearch passes net (sets_at net s.labels) (rate_at net s.time) base patterns answer

  -- The run is below the horizon, no slack operation passes, and the search gives this answer.
  pub record Seeks (s : Standing) (answer : SearchAnswer) : Type 0 where
    pub below : s.time <ℚ horizon
    pub slacks : slack_list passes (hops net) s.labels ≡ Ok (slacks_of (hops net) s.labels)
    pub search : IsSearchHere s answer

  -- One phase is made, by the first accepted pattern. No operation of the phase passes. Its length is the extension length, cut at the
  -- horizon.
  pub record Goes (s new : Standing) : Type 0 where
    pub place : ℕ
    pub pattern : Pattern
    pub flows : List ℚ
    pub slopes : List ℚ
    pub finds : Seeks s (Found place pattern flows slopes)
    pub step : PhaseStep
    pub lists : phase_lists passes net horizon s pattern flows slopes ≡ Ok step
    pub is_length : IsPhaseLength net (slacks_of (hops net) s.labels) slopes s.time horizon step.length
    pub new_is : new ≡ standing_after net s pattern slopes step

  -- The first cause for which no phase can be made: a slack operation passes, the search finds no pattern, or a phase operation passes.
  pub data Fails (s : Standing) : Cause ℚ → Type 0 where
    at_slack : (p : Passed ℚ) → s.time <ℚ horizon → slack_list passes (hops net) s.labels ≡ Err p
        → Fails s (Cause.Passed (suc s.made) None (placed Slack p))
    at_search : (answer : SearchAnswer) (cause : Cause ℚ) → Seeks s answer → cause_of_search (suc s.made) patterns answer ≡ Some cause
        → Fails s cause
    at_lists : (place : ℕ) (pattern : Pattern) (flows slopes : List ℚ) (p : PassedAt ℚ) → Seeks s (Found place pattern flows slopes)
        → phase_lists passes net horizon s pattern flows slopes ≡ Err p → Fails s (Cause.Passed (suc s.made) None p)

-- ---- phase by phase
module _ (passes : Passing) (net : Network) (bounds : Bounds) where
  -- From a run state on, the run ends in another state: at the horizon, or below it with a stop. It stops if as many phases as allowed are
  -- made, or the next phase fails.
  pub data Runs : Standing → Standing → Option (Cause ℚ) → Type 0 where
    at_horizon : {s : Standing} → s.time ≡ bounds.horizon → Runs s s None
    at_phases : {s : Standing} → s.time <ℚ bounds.horizon → s.made ≡ bounds.phases → Runs s s (Some (Cause.Phases s.made))
    fails : {s : Standing} {cause : Cause ℚ} → s.made < bounds.phases → Fails passes net bounds.horizon bounds.patterns s cause
        → Runs s s (Some cause)
    goes : {s new last : Standing} {stop : Option (Cause ℚ)} → s.made < bounds.phases → Goes passes net bounds.horizon bounds.patterns s new
        → Runs new last stop → Runs s last stop

  pub record IsPhaseRun (last : Standing) (stop : Option (Cause ℚ)) : Type 0 where
    pub first : Standing
    pub start : IsStart net first
    pub runs : Runs first last stop

-- ---- the report of a run

abbrev pub flow_of : Standing → Flow
flow_of s = record {
  reached = s.time;
  labels = map (λ curve. curve.points) s.label_curves;
  inflows = map (λ curves. curves.inflow) s.link_curves;
  outflows = map (λ curves. curves.outflow) s.link_curves;
  queues = map (λ curves. curves.queue.points) s.link_curves;
}

-- Each curve of the flow is in short form: it has one point, or its slope changes at each inner point.
pub record IsShortFlow (net : Network) (flow : Flow) : Type 0 where
  pub labels : (v : ℕ) → v < net.nodes → IsShort (points_at flow.labels v)
  pub inflows : (e : ℕ) → e < length net.links → IsShort (points_at (points_of flow.inflows) e)
  pub outflows : (e : ℕ) → e < length net.links → IsShort (points_at (points_of flow.outflows) e)
  pub queues : (e : ℕ) → e < length net.links → IsShort (points_at flow.queues e)

abbrev pub report_of : ℚ → Standing → Option (Cause ℚ) → Report
report_of horizon s stop = record { horizon = horizon; flow = flow_of s; stop = stop; last = s.last }

-- The report of the phase run.
pub record IsRunReport (passes : Passing) (net : Network) (bounds : Bounds) (report : Report) : Type 0 where
  pub last : Standing
  pub stop : Option (Cause ℚ)
  pub run : IsPhaseRun passes net bounds last stop
  pub report_is : report ≡ report_of bounds.horizon last stop
