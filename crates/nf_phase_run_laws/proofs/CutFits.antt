-- The numbers computed from the curves of a report in resuming it are fractions of a file if the numbers of the report are.
use Rattle.std.proofs.Common.{ℕ, List, [], ◌∷◌, ◌++◌, if◌then◌else◌, Some, None, Ok}
use Rattle.nf_phase_run_laws.proofs.Common.{AllByRecursion, ℚ, 0ℚ, lt_ℚ, Sum, Difference, Product, Quotient, passes_Q, checked, each, Point, Link, Network}
use Rattle.nf_phase_run_laws.proofs.Common.{Pattern, Trace, Flow, points_at, IsFraction, Report, is_same, GrowingCurve, Standing, IsFractionOrNone}
use Rattle.nf_phase_run_laws.proofs.Common.{IsFractionPoint, AreFractionPoints, IsFractionTrace, every_append, points_before, value_from, turning}
use Rattle.nf_phase_run_laws.proofs.Common.{short_points, checked_slopes, value_at_end, link_curves_of, standing_of, last_slope, growing, OfLink}
use Rattle.nf_phase_run_laws.proofs.Common.{links_with, CutLink, cut_short, cut_trace, cut_link, cut_flow_of}
use Rattle.nf_curve_def.specs.Lines.{checked_slope, checked_line}
use Rattle.nf_curve_def.specs.Values.{checked_value, checked_cut}
use Rattle.nf_curve_def.specs.Short.{checked_short}
use Rattle.nf_phase_run_laws.proofs.Lists.{entry_or, all_image}
use Rattle.nf_phase_run_laws.proofs.Fractions.{AreFractions, either, zero_fraction}
use Rattle.nf_phase_run_laws.proofs.Fits.{Fits, AreOperands, ok_fits, then_fits, each_fits, one}
use Rattle.nf_phase_run_laws.proofs.Running.{IsFractionCurve, AreFractionCurves, last_fraction}
use Rattle.nf_phase_def.specs.Restoring.{restore_list}
use Rattle.nf_resume_def.specs.Resuming.{cut_flow, restart_list}

-- ---- a piece, and the value at a time
slope_fits : (p q : Point) → IsFractionPoint p → IsFractionPoint q → Fits AreOperands IsFraction (checked_slope passes_Q p q)
unfolding checked_slope
slope_fits p q h k = then_fits (checked passes_Q Difference q.1 p.1) _ (one Difference q.1 p.1 k.1 h.1)
    (λ rise l. then_fits (checked passes_Q Difference q.0 p.0) _ (one Difference q.0 p.0 k.0 h.0)
    (λ run m. one Quotient rise run l m))

line_fits : (p q : Point) (time : ℚ) → IsFractionPoint p → IsFractionPoint q → IsFraction time → Fits AreOperands IsFraction (checked_line passes_Q p q time)
unfolding checked_line
line_fits p q time h k l = then_fits (checked_slope passes_Q p q) _ (slope_fits p q h k)
    (λ slope m. then_fits (checked passes_Q Difference time p.0) _ (one Difference time p.0 l h.0)
    (λ run n. then_fits (checked passes_Q Product slope run) _ (one Product slope run m n)
    (λ rise o. one Sum p.1 rise h.1 o)))

from_fits : (p : Point) (rest : List Point) (time : ℚ) → IsFractionPoint p → AreFractionPoints rest → IsFraction time → Fits AreOperands IsFraction (value_from passes_Q p rest time)
from_fits p [] time h k l = ok_fits AreOperands IsFraction p.1 h.1
from_fits p (q ∷ rest) time h k l =
    either (Fits AreOperands IsFraction) (is_same time p.0) (Ok p.1) (if lt_ℚ time q.0 then checked_line passes_Q p q time else value_from passes_Q q rest
    time) (ok_fits AreOperands IsFraction p.1 h.1)
    (either (Fits AreOperands IsFraction) (lt_ℚ time q.0) (checked_line passes_Q p q time) (value_from passes_Q q rest time) (line_fits p q time h k.0 l)
    (from_fits q rest time k.0 k.1 l))

value_fits : (points : List Point) (time : ℚ) → AreFractionPoints points → IsFraction time → Fits AreOperands IsFraction (checked_value passes_Q points time)
unfolding checked_value
value_fits [] time h k = ok_fits AreOperands IsFraction 0ℚ zero_fraction
value_fits (p ∷ rest) time h k = from_fits p rest time h.0 h.1 k

-- ---- a curve, cut and in short form
before_fractions : (time : ℚ) (points : List Point) → AreFractionPoints points → AreFractionPoints (points_before time points)
before_fractions time [] h = tt
before_fractions time (p ∷ rest) h = either AreFractionPoints (lt_ℚ p.0 time) (p ∷ points_before time rest) [] (h.0, before_fractions time rest h.1) tt

cut_fits : (points : List Point) (time : ℚ) → AreFractionPoints points → IsFraction time → Fits AreOperands AreFractionPoints (checked_cut passes_Q points time)
unfolding checked_cut
cut_fits points time h k = then_fits (checked_value passes_Q points time) _ (value_fits points time h k)
    (λ y l. ok_fits AreOperands AreFractionPoints (points_before time points ++ (time, y) ∷ [])
    (every_append IsFractionPoint (points_before time points) ((time, y) ∷ []) (before_fractions time points h) ((k, l), tt)))

slopes_fit : (points : List Point) → AreFractionPoints points → Fits AreOperands AreFractions (checked_slopes passes_Q points)
slopes_fit [] h = ok_fits AreOperands AreFractions [] tt
slopes_fit (p ∷ []) h = ok_fits AreOperands AreFractions [] tt
slopes_fit (p ∷ q ∷ rest) h = then_fits (checked_slope passes_Q p q) _ (slope_fits p q h.0 h.1.0)
    (λ k l. then_fits (checked_slopes passes_Q (q ∷ rest)) _ (slopes_fit (q ∷ rest) h.1) (λ slopes m. ok_fits AreOperands AreFractions (k ∷ slopes) (l, m)))

turning_fractions : (points : List Point) (slopes : List ℚ) → AreFractionPoints points → AreFractionPoints (turning points slopes)
turning_fractions [] slopes h = tt
turning_fractions (q ∷ rest) [] h = h
turning_fractions (q ∷ rest) (before ∷ []) h = h
turning_fractions (q ∷ rest) (before ∷ after ∷ slopes) h =
    either AreFractionPoints (is_same before after) (turning rest (after ∷ slopes)) (q ∷ turning rest (after ∷ slopes))
    (turning_fractions rest (after ∷ slopes) h.1) (h.0, turning_fractions rest (after ∷ slopes) h.1)

short_fractions : (points : List Point) (slopes : List ℚ) → AreFractionPoints points → AreFractionPoints (short_points points slopes)
short_fractions [] slopes h = tt
short_fractions (p ∷ rest) slopes h = (h.0, turning_fractions rest slopes h.1)

short_fits : (points : List Point) → AreFractionPoints points → Fits AreOperands AreFractionPoints (checked_short passes_Q points)
unfolding checked_short
short_fits points h =
    then_fits (checked_slopes passes_Q points) _ (slopes_fit points h) (λ slopes k. ok_fits AreOperands AreFractionPoints (short_points points slopes) (short_fractions points slopes h))

cut_short_fits : (last : ℚ) (points : List Point) → IsFraction last → AreFractionPoints points → Fits AreOperands AreFractionPoints (cut_short passes_Q last points)
cut_short_fits last points h k = then_fits (checked_cut passes_Q points last) _ (cut_fits points last k h) (λ cut l. short_fits cut l)

cut_trace_fits : (last : ℚ) (points : List Point) → IsFraction last → AreFractionPoints points → Fits AreOperands IsFractionTrace (cut_trace passes_Q last points)
cut_trace_fits last points h k = then_fits (cut_short passes_Q last points) _ (cut_short_fits last points h k)
    (λ short l. then_fits (checked_slopes passes_Q short) _ (slopes_fit short l) (λ rates m. ok_fits AreOperands IsFractionTrace (record { points = short; rates = rates }) (l, m)))

-- ---- the curves of a link
record IsFractionOfLink (of_link : OfLink) : Type 0 where
  pub inflow : AreFractionPoints of_link.inflow
  pub outflow : AreFractionPoints of_link.outflow
  pub queue : AreFractionPoints of_link.queue

record IsFractionCut (cut : CutLink) : Type 0 where
  pub inflow : IsFractionTrace cut.inflow
  pub outflow : IsFractionTrace cut.outflow
  pub queue : AreFractionPoints cut.queue

with_fractions : (links : List Link) (inflows outflows : List Trace) (queues : List (List Point)) → AllByRecursion IsFractionTrace inflows → AllByRecursion IsFractionTrace outflows
    → AllByRecursion AreFractionPoints queues → AllByRecursion IsFractionOfLink (links_with links inflows outflows queues)
with_fractions [] inflows outflows queues h k l = tt
with_fractions (link ∷ links) [] outflows queues h k l = tt
with_fractions (link ∷ links) (i ∷ inflows) [] queues h k l = tt
with_fractions (link ∷ links) (i ∷ inflows) (o ∷ outflows) [] h k l = tt
with_fractions (link ∷ links) (i ∷ inflows) (o ∷ outflows) (q ∷ queues) h k l =
    (record { inflow = h.0.0; outflow = k.0.0; queue = l.0 }, with_fractions links inflows outflows queues h.1 k.1 l.1)

end_fraction : (labels : List (List Point)) (v : ℕ) → AllByRecursion AreFractionPoints labels → IsFraction (value_at_end (points_at labels v))
end_fraction labels v h = last_fraction None (points_at labels v) zero_fraction (entry_or AreFractionPoints [] labels v h tt)

link_fits : (labels : List (List Point)) (of_link : OfLink) → AllByRecursion AreFractionPoints labels → IsFractionOfLink of_link
    → Fits AreOperands IsFractionCut (cut_link passes_Q labels of_link)
link_fits labels l h k =
    let tail : IsFraction (value_at_end (points_at labels l.link.tail)) = end_fraction labels l.link.tail h in
    let head : IsFraction (value_at_end (points_at labels l.link.head)) = end_fraction labels l.link.head h in
    then_fits (cut_trace passes_Q (value_at_end (points_at labels l.link.tail)) l.inflow) _ (cut_trace_fits (value_at_end (points_at labels l.link.tail)) l.inflow tail k.inflow)
    (λ inflow m. then_fits (cut_trace passes_Q (value_at_end (points_at labels l.link.head)) l.outflow) _
    (cut_trace_fits (value_at_end (points_at labels l.link.head)) l.outflow head k.outflow)
    (λ outflow n. then_fits (cut_short passes_Q (value_at_end (points_at labels l.link.tail)) l.queue) _
    (cut_short_fits (value_at_end (points_at labels l.link.tail)) l.queue tail k.queue)
    (λ queue o. ok_fits AreOperands IsFractionCut (record { inflow = inflow; outflow = outflow; queue = queue }) (record { inflow = m; outflow = n; queue = o }))))

-- ---- a flow
pub record IsFractionFlow (flow : Flow) : Type 0 where
  pub reached : IsFraction flow.reached
  pub labels : AllByRecursion AreFractionPoints flow.labels
  pub inflows : AllByRecursion IsFractionTrace flow.inflows
  pub outflows : AllByRecursion IsFractionTrace flow.outflows
  pub queues : AllByRecursion AreFractionPoints flow.queues

flow_fits : (net : Network) (flow : Flow) → IsFractionFlow flow → Fits AreOperands IsFractionFlow (cut_flow passes_Q net flow)
unfolding cut_flow
flow_fits net flow h =
    let of_links : List OfLink = links_with net.links flow.inflows flow.outflows flow.queues in
    then_fits (each (cut_short passes_Q flow.reached) flow.labels) _
    (each_fits AreOperands AreFractionPoints AreFractionPoints (cut_short passes_Q flow.reached) (λ points k. cut_short_fits flow.reached points h.reached k) flow.labels h.labels)
    (λ labels k. then_fits (each (cut_link passes_Q labels) of_links) _
    (each_fits AreOperands IsFractionOfLink IsFractionCut (cut_link passes_Q labels) (λ l m. link_fits labels l k m) of_links
    (with_fractions net.links flow.inflows flow.outflows flow.queues h.inflows h.outflows h.queues))
    (λ cuts l. ok_fits AreOperands IsFractionFlow (cut_flow_of passes_Q flow.reached labels cuts) (record {
      reached = h.reached;
      labels = k;
      inflows = all_image IsFractionTrace IsFractionCut (λ (cut : CutLink). cut.inflow) (λ cut m. m.inflow) cuts l;
      outflows = all_image IsFractionTrace IsFractionCut (λ (cut : CutLink). cut.outflow) (λ cut m. m.outflow) cuts l;
      queues = all_image AreFractionPoints IsFractionCut (λ (cut : CutLink). cut.queue) (λ cut m. m.queue) cuts l;
    })))

-- ---- the restored run state
last_slope_fits : (points : List Point) → AreFractionPoints points → Fits AreOperands IsFractionOrNone (last_slope passes_Q points)
last_slope_fits [] h = ok_fits AreOperands IsFractionOrNone None tt
last_slope_fits (p ∷ []) h = ok_fits AreOperands IsFractionOrNone None tt
last_slope_fits (p ∷ q ∷ []) h = then_fits (checked_slope passes_Q p q) _ (slope_fits p q h.0 h.1.0) (λ k l. ok_fits AreOperands IsFractionOrNone (Some k) l)
last_slope_fits (p ∷ q ∷ r ∷ rest) h = last_slope_fits (q ∷ r ∷ rest) h.1

growing_fits : (points : List Point) → AreFractionPoints points → Fits AreOperands IsFractionCurve (growing passes_Q points)
growing_fits points h =
    then_fits (last_slope passes_Q points) _ (last_slope_fits points h) (λ slope k. ok_fits AreOperands IsFractionCurve (record { points = points; slope = slope }) h)

link_curves_fractions : (inflows outflows : List Trace) (queues : List GrowingCurve) → AllByRecursion IsFractionTrace inflows
    → AllByRecursion IsFractionTrace outflows → AllByRecursion IsFractionCurve queues
    → AllByRecursion AreFractionCurves (link_curves_of inflows outflows queues)
link_curves_fractions [] outflows queues h k l = tt
link_curves_fractions (i ∷ inflows) [] queues h k l = tt
link_curves_fractions (i ∷ inflows) (o ∷ outflows) [] h k l = tt
link_curves_fractions (i ∷ inflows) (o ∷ outflows) (q ∷ queues) h k l =
    (record { inflow = h.0; outflow = k.0; queue = l.0 }, link_curves_fractions inflows outflows queues h.1 k.1 l.1)

-- The numbers of a run state are fractions.
pub record HoldsFractions (s : Standing) : Type 0 where
  pub time : IsFraction s.time
  pub labels : AreFractions s.labels
  pub label_curves : AllByRecursion IsFractionCurve s.label_curves
  pub link_curves : AllByRecursion AreFractionCurves s.link_curves

restore_fits : (flow : Flow) (last : Pattern) → IsFractionFlow flow → Fits AreOperands HoldsFractions (restore_list passes_Q flow last)
unfolding restore_list
restore_fits flow last h =
    then_fits (each (growing passes_Q) flow.labels) _ (each_fits AreOperands AreFractionPoints IsFractionCurve (growing passes_Q) growing_fits flow.labels h.labels)
    (λ label_curves k. then_fits (each (growing passes_Q) flow.queues) _ (each_fits AreOperands AreFractionPoints IsFractionCurve (growing passes_Q) growing_fits flow.queues h.queues)
    (λ queues l. ok_fits AreOperands HoldsFractions (standing_of flow last label_curves queues) (record {
      time = h.reached;
      labels = all_image IsFraction AreFractionPoints value_at_end (λ points m. last_fraction None points zero_fraction m) flow.labels h.labels;
      label_curves = k;
      link_curves = link_curves_fractions flow.inflows flow.outflows queues h.inflows h.outflows l;
    })))

pub restart_fits : (net : Network) (report : Report) → IsFractionFlow report.flow → Fits AreOperands HoldsFractions (restart_list passes_Q net report)
unfolding restart_list
restart_fits net report h = then_fits (cut_flow passes_Q net report.flow) _ (flow_fits net report.flow h) (λ flow k. restore_fits flow report.last k)
