-- The numbers of a run are fractions wherever it stands, and so are those of its report; its counts are within the budgets.
use Rattle.std.proofs.Common.{◌≡◌, ℕ, suc, ◌<◌, ◌^◌, List, [], ◌∷◌, Bool, true, false, length, map, refl, sym, subst, arith, ◌-◌, take, Option, Some, None}
use Rattle.std.proofs.Common.{is_none}
use Rattle.nf_phase_run_laws.proofs.Common.{AllByRecursion, last_or, option_map_or, slice_get_within, ℚ, 0ℚ, not_both_ℚ, passes_Q, number_at, Has, Point}
use Rattle.nf_phase_run_laws.proofs.Common.{Link, Network, hop_of, hops, unbounded, rate_at, slack, slacks_of, sets_at, Pattern, IsListedIn, Trace, Cause}
use Rattle.nf_phase_run_laws.proofs.Common.{Named, IsFraction, IsNamed, Report, is_positive, QueueStep, LinkStep, GrowingCurve, LinkCurves, keeps_slope}
use Rattle.nf_phase_run_laws.proofs.Common.{with_point, with_rate, first_label_curve, first_trace, first_queue, first_curves, label_curves_after}
use Rattle.nf_phase_run_laws.proofs.Common.{trace_after, queue_curve_after, link_curves_after, amount_so_far, Standing, Bounds, IsStart, standing_after}
use Rattle.nf_phase_run_laws.proofs.Common.{cause_of_search, Seeks, phase_lists, Goes, Fails, at_slack, at_search, at_lists, Runs, goes, report_of}
use Rattle.nf_phase_run_laws.proofs.Common.{IsRunReport, from_map, WellRun, WellRun-start, WellRun-goes, IsCount, IsFractionOrNone, IsFractionPoint}
use Rattle.nf_phase_run_laws.proofs.Common.{AreFractionPoints, IsFractionTrace, IsReadableCause, IsReadable, AreReadable, every_append, slack_of_resetting}
use Rattle.nf_phase_run_laws.proofs.Common.{SearchAnswer, Found, OverBudget, PassesAt, NoPattern, AreSets-sets_at, IsPatternIn, source_label_at}
use Rattle.nf_phase_run_laws.proofs.Common.{unbounded_slack_at}
use Rattle.nf_thin_def.specs.PhaseRun.{at_horizon, at_phases, fails}
use Rattle.nf_phase_run_laws.proofs.Lists.{all_take, all_image}
use Rattle.nf_phase_run_laws.proofs.Fractions.{AreFractions, zero_fraction, number_fraction, HasFractions, rate_fraction}
use Rattle.nf_phase_run_laws.proofs.Fits.{Fits, AreOperandsAt}
use Rattle.nf_phase_run_laws.proofs.PatternFits.{pattern_fits, solution_fractions}
use Rattle.nf_phase_run_laws.proofs.PhaseFits.{slack_list_fits, IsFractionQueueOrNone, IsFractionStep, AreSteps, phase_fits}
use Rattle.nf_phase_run_laws.proofs.Starting.{named_fractions, start_fractions}

-- ---- curves
abbrev pub IsFractionCurve : GrowingCurve → Type 0
IsFractionCurve curve = AreFractionPoints curve.points

pub record AreFractionCurves (curves : LinkCurves) : Type 0 where
  pub inflow : IsFractionTrace curves.inflow
  pub outflow : IsFractionTrace curves.outflow
  pub queue : IsFractionCurve curves.queue

point_added : (goes : Bool) (points : List Point) (point : Point) → AreFractionPoints points → IsFractionPoint point → AreFractionPoints (with_point goes points point)
point_added true points point h k = every_append IsFractionPoint (take (length points - 1) points) (point ∷ []) (all_take IsFractionPoint (length points - 1) points h) (k, tt)
point_added false points point h k = every_append IsFractionPoint points (point ∷ []) h (k, tt)

rate_added : (goes : Bool) (rates : List ℚ) (rate : ℚ) → AreFractions rates → IsFraction rate → AreFractions (with_rate goes rates rate)
rate_added true rates rate h k = h
rate_added false rates rate h k = every_append IsFraction rates (rate ∷ []) h (k, tt)

trace_fractions : (trace : Trace) (label amount : ℚ) (rate : Option ℚ) → IsFractionTrace trace → IsFraction label → IsFraction amount
    → IsFractionOrNone rate → IsFractionTrace (trace_after trace label amount rate)
trace_fractions trace label amount None h k l m = h
trace_fractions trace label amount (Some rate) h k l m = (
  point_added (keeps_slope (last_or None trace.rates) rate) trace.points (label, amount) h.0 (k, l),
  rate_added (keeps_slope (last_or None trace.rates) rate) trace.rates rate h.1 m,
)

queue_fractions : (curve : GrowingCurve) (label : ℚ) (step : Option QueueStep) → IsFractionCurve curve → IsFraction label → IsFractionQueueOrNone step
    → IsFractionCurve (queue_curve_after curve label step)
queue_fractions curve label None h k l = h
queue_fractions curve label (Some step) h k l = point_added (keeps_slope curve.slope step.slope) curve.points (label, step.size) h (k, l.size)

labels_extended : (time : ℚ) (labels slopes : List ℚ) (curves : List GrowingCurve) → IsFraction time → AreFractions labels → AllByRecursion IsFractionCurve curves
    → AllByRecursion IsFractionCurve (label_curves_after time labels slopes curves)
labels_extended time [] slopes curves h k l = tt
labels_extended time (label ∷ labels) [] curves h k l = tt
labels_extended time (label ∷ labels) (slope ∷ slopes) [] h k l = tt
labels_extended time (label ∷ labels) (slope ∷ slopes) (curve ∷ curves) h k l =
    (point_added (keeps_slope curve.slope slope) curve.points (time, label) l.0 (h, k.0), labels_extended time labels slopes curves h k.1 l.1)

links_extended : (labels : List ℚ) (links : List Link) (curves : List LinkCurves) (steps : List LinkStep) → AreFractions labels
    → AllByRecursion AreFractionCurves curves → AllByRecursion IsFractionStep steps
    → AllByRecursion AreFractionCurves (link_curves_after labels links curves steps)
links_extended labels [] curves steps h k l = tt
links_extended labels (link ∷ links) [] steps h k l = tt
links_extended labels (link ∷ links) (c ∷ curves) [] h k l = tt
links_extended labels (link ∷ links) (c ∷ curves) (step ∷ steps) h k l = (
  record {
    inflow = trace_fractions c.inflow (number_at labels link.tail) step.amount step.inflow_rate k.0.inflow (number_fraction labels link.tail h) l.0.amount l.0.inflow_rate;
    outflow = trace_fractions c.outflow (number_at labels link.head) step.amount step.outflow_rate k.0.outflow (number_fraction labels link.head h) l.0.amount l.0.outflow_rate;
    queue = queue_fractions c.queue (number_at labels link.tail) step.queue k.0.queue (number_fraction labels link.tail h) l.0.queue;
  },
  links_extended labels links curves steps h k.1 l.1,
)

-- ---- the first curves, and the amounts so far
first_trace_fractions : (b : Bool) (label : ℚ) → IsFraction label → IsFractionTrace (first_trace b label)
first_trace_fractions true label h = (((zero_fraction, zero_fraction), ((h, zero_fraction), tt)), (zero_fraction, tt))
first_trace_fractions false label h = (((zero_fraction, zero_fraction), tt), tt)

first_queue_fractions : (b : Bool) (label : ℚ) → IsFraction label → IsFractionCurve (first_queue b label)
first_queue_fractions true label h = ((zero_fraction, zero_fraction), ((h, zero_fraction), tt))
first_queue_fractions false label h = ((zero_fraction, zero_fraction), tt)

first_curves_fractions : (labels : List ℚ) (link : Link) → AreFractions labels → AreFractionCurves (first_curves labels link)
first_curves_fractions labels link h = record {
  inflow = first_trace_fractions (is_positive (number_at labels link.tail)) (number_at labels link.tail) (number_fraction labels link.tail h);
  outflow = first_trace_fractions (is_positive (number_at labels link.head)) (number_at labels link.head) (number_fraction labels link.head h);
  queue = first_queue_fractions (is_positive (number_at labels link.tail)) (number_at labels link.tail) (number_fraction labels link.tail h);
}

pub last_fraction : (o : Option Point) (points : List Point) → IsFraction (option_map_or (λ point. point.1) o 0ℚ) → AreFractionPoints points
    → IsFraction (option_map_or (λ point. point.1) (last_or o points) 0ℚ)
last_fraction o [] h all = h
last_fraction o (p ∷ points) h all = last_fraction (Some p) points all.0.1 all.1

amount_fractions : (curves : List LinkCurves) → AllByRecursion AreFractionCurves curves → AreFractions (map amount_so_far curves)
amount_fractions curves all = all_image IsFraction AreFractionCurves amount_so_far (λ c h. last_fraction None c.inflow.points zero_fraction h.inflow.0) curves all

-- ---- wherever a run stands
pub record StandsFit (net : Network) (s : Standing) : Type 0 where
  pub well : WellRun net s
  pub time : IsFraction s.time
  pub labels : AreFractions s.labels
  pub label_curves : AllByRecursion IsFractionCurve s.label_curves
  pub link_curves : AllByRecursion AreFractionCurves s.link_curves

-- where it ends, with the cause
pub record EndsFit (net : Network) (last : Standing) (stop : Option (Cause ℚ)) : Type 0 where
  pub fit : StandsFit net last
  pub cause : IsReadableCause stop

-- the report of a run that ends so can be read
pub end_readable : (net : Network) (horizon : ℚ) (last : Standing) (stop : Option (Cause ℚ)) → IsFraction horizon → EndsFit net last stop → IsReadable (report_of horizon last stop)
end_readable net horizon last stop h ends = record {
  horizon = h;
  reached = ends.fit.time;
  stop = ends.cause;
  labels = all_image AreFractionPoints IsFractionCurve (λ curve. curve.points) (λ c h. h) last.label_curves ends.fit.label_curves;
  inflows = all_image IsFractionTrace AreFractionCurves (λ curves. curves.inflow) (λ c h. h.inflow) last.link_curves ends.fit.link_curves;
  outflows = all_image IsFractionTrace AreFractionCurves (λ curves. curves.outflow) (λ c h. h.outflow) last.link_curves ends.fit.link_curves;
  queues = all_image AreFractionPoints AreFractionCurves (λ curves. curves.queue.points) (λ c h. h.queue) last.link_curves ends.fit.link_curves;
}

module _ (n : Named) (named : IsNamed n) (bounds : Bounds) (within : AreReadable bounds) where
  abbrev net : Network
  net = n.net

  has : HasFractions net
  has = named_fractions n named

  StandsFit-start : (s : Standing) → IsStart net s → StandsFit net s
  StandsFit-start s h =
      let labels : AreFractions s.labels = start_fractions n named s.labels h.labels in
      record {
        well = WellRun-start net named.network s h;
        time = subst IsFraction (sym h.time) zero_fraction;
        labels = labels;
        label_curves = subst (AllByRecursion IsFractionCurve) (sym h.label_curves)
            (all_image IsFractionCurve IsFraction first_label_curve (λ label k. ((zero_fraction, k), tt)) s.labels labels);
        link_curves = subst (AllByRecursion AreFractionCurves) (sym h.link_curves)
            (all_image AreFractionCurves (λ (link : Link). Unit {0}) (first_curves s.labels) (λ link k. first_curves_fractions s.labels link labels) net.links (every net.links));
      }
    where
      every : (links : List Link) → AllByRecursion (λ (link : Link). Unit {0}) links
      every [] = tt
      every (link ∷ links) = (tt, every links)

  -- ---- one phase
  module _ (s : Standing) (fit : StandsFit net s) where
    none_of : (capacity : Option ℚ) → is_none capacity ≡ true → capacity ≡ None
    none_of None h = refl
    none_of (Some x) h = absurd (cc)

    bounded : (e : ℕ) → Has (unbounded net) e → Has (sets_at net s.labels).resetting e → ⊥
    bounded e u r =
        let l = from_map (λ (link : Link). is_none link.capacity) net.links e true u in
        not_both_ℚ 0ℚ (slack s.labels (hop_of l.0)) (slack_of_resetting net s.labels e l.0 l.1 r) (unbounded_slack_at net named.network s fit.well e l.0 l.1 (none_of l.0.capacity l.2))

    rate : IsFraction (rate_at net s.time)
    rate = rate_fraction net has s.time

    amounts : AreFractions (map amount_so_far s.link_curves)
    amounts = amount_fractions s.link_curves fit.link_curves

    module _ (answer : SearchAnswer) (seeks : Seeks passes_Q net bounds.horizon bounds.patterns s answer) where
      slacks : AreFractions (slacks_of (hops net) s.labels)
      slacks = (slack_list_fits net has s.labels fit.labels).value (slacks_of (hops net) s.labels) seeks.slacks

    found : (place : ℕ) (pattern : Pattern) (flows slopes : List ℚ) → Seeks passes_Q net bounds.horizon bounds.patterns s (Found place pattern flows slopes)
        → AreFractions flows × AreFractions slopes
    found place pattern flows slopes seeks =
        let search = seeks.search.is_search in
        let listed : IsListedIn net (sets_at net s.labels) pattern = search.is_listing.listed place pattern search.answers.has_place in
        let is_in : IsPatternIn net (sets_at net s.labels) pattern = record {
          network = named.network;
          sets_are = AreSets-sets_at net s.labels;
          bounded =
              bounded;
          pattern_is = listed.states;
        } in
        solution_fractions net has (sets_at net s.labels) (rate_at net s.time) rate pattern flows slopes is_in search.answers.solution search.answers.accepted.none_passes

    lists_fit : (place : ℕ) (pattern : Pattern) (flows slopes : List ℚ) → Seeks passes_Q net bounds.horizon bounds.patterns s (Found place pattern flows slopes)
        → Fits AreOperandsAt AreSteps (phase_lists passes_Q net bounds.horizon s pattern flows slopes)
    lists_fit place pattern flows slopes seeks =
        let thin = found place pattern flows slopes seeks in
        phase_fits net has bounds.horizon s pattern flows slopes within.horizon fit.time fit.labels (slacks (Found place pattern flows slopes) seeks) amounts thin.0 thin.1

    pub StandsFit-after : (t : Standing) → Goes passes_Q net bounds.horizon bounds.patterns s t → StandsFit net t
    StandsFit-after t g =
        let steps : AreSteps g.step = (lists_fit g.place g.pattern g.flows g.slopes g.finds).value g.step g.lists in
        let well : WellRun net t = WellRun-goes passes_Q net named.network bounds s t g fit.well in
        let labels : AreFractions t.labels = subst (λ (w : Standing). AreFractions w.labels) (sym g.new_is) steps.labels in
        let time : IsFraction t.time = subst IsFraction (source_label_at net named.network t well) (number_fraction t.labels net.source labels) in
        let new : Standing = standing_after net s g.pattern g.slopes g.step in
        record {
          well = well;
          time = time;
          labels = labels;
          label_curves = subst (λ (w : Standing). AllByRecursion IsFractionCurve w.label_curves) (sym g.new_is)
              (labels_extended new.time g.step.labels g.slopes s.label_curves (subst (λ (w : Standing). IsFraction w.time) g.new_is time) steps.labels fit.label_curves);
          link_curves = subst (λ (w : Standing). AllByRecursion AreFractionCurves w.link_curves) (sym g.new_is)
              (links_extended g.step.labels net.links s.link_curves g.step.links steps.labels fit.link_curves steps.links);
        }

    -- ---- why none is made
    search_cause : (phase : ℕ) (answer : SearchAnswer) (cause : Cause ℚ) → IsCount phase → Seeks passes_Q net bounds.horizon bounds.patterns s answer
        → cause_of_search phase bounds.patterns answer ≡ Some cause
        → IsReadableCause (Some cause)
    search_cause phase (Found place pattern flows slopes) cause h seeks e = absurd (cc)
    search_cause phase OverBudget cause h seeks e = subst IsReadableCause e (h, within.patterns)
    search_cause phase (PassesAt place at) cause h seeks e =
        let search = seeks.search.is_search in
        let vain = search.answers.0 in
        let first = search.answers.1 in
        let low = slice_get_within search.listing first.has_place.0 first.pattern first.has_place.2 in
        let budget : bounds.patterns < 2 ^ 64 = within.patterns in
        let operands = (pattern_fits net has (sets_at net s.labels) (rate_at net s.time) rate first.pattern).passed at first.passed in
        subst IsReadableCause e (h, (omega (arith, first.has_place.1, low, vain.not_longer, budget)), operands.0, operands.1)
    search_cause phase NoPattern cause h seeks e = subst IsReadableCause e h

    pub cause_readable : (cause : Cause ℚ) → s.made < bounds.phases → Fails passes_Q net bounds.horizon bounds.patterns s cause → IsReadableCause (Some cause)
    cause_readable cause may (at_slack p below e) =
        let operands = (slack_list_fits net has s.labels fit.labels).passed p e in
        (phase_count may, tt, operands.0, operands.1)
      where
        phase_count : s.made < bounds.phases → IsCount (suc s.made)
        phase_count may = let most : bounds.phases < 2 ^ 64 = within.phases in omega arith
    cause_readable cause may (at_search answer c seeks e) =
        let most : bounds.phases < 2 ^ 64 = within.phases in
        search_cause (suc s.made) answer c (omega arith) seeks e
    cause_readable cause may (at_lists place pattern flows slopes p seeks e) =
        let most : bounds.phases < 2 ^ 64 = within.phases in
        let operands = (lists_fit place pattern flows slopes seeks).passed p e in
        (omega arith, tt, operands.0, operands.1)

  -- ---- to the end
  ends_fit : (s last : Standing) (stop : Option (Cause ℚ)) → StandsFit net s → Runs passes_Q net bounds s last stop → EndsFit net last stop
  ends_fit s last stop fit (at_horizon e) = record { fit = fit; cause = tt }
  ends_fit s last stop fit (at_phases below e) = record { fit = fit; cause = subst IsCount (sym e) within.phases }
  ends_fit s last stop fit (fails {cause = c} may f) = record { fit = fit; cause = cause_readable s fit c may f }
  ends_fit s last stop fit (goes {new = t} may g rest) = ends_fit t last stop (StandsFit-after s fit t g) rest

  pub report_readable : (report : Report) → IsRunReport passes_Q net bounds report → IsReadable report
  report_readable report r = subst IsReadable (sym r.report_is)
      (end_readable net bounds.horizon r.last r.stop within.horizon (ends_fit r.run.first r.last r.stop (StandsFit-start r.run.first r.run.start) r.run.runs))
