-- The curves of a run are in short form in every state, and its labels are their values.
use Rattle.std.proofs.Common.{◌≡◌, ℕ, zero, suc, ◌<◌, List, [], ◌∷◌, length, Bool, true, false, ap, sym, subst, refl, ◌∙◌, arith, Option, Some, slice_get}
use Rattle.nf_phase_laws.proofs.Common.{none-some, same_Some, ℚ, ◌+ℚ◌, Passing, number_at, IsShort, AreSlopes, Link, Network, IsNetwork, Pattern, Cause}
use Rattle.nf_phase_laws.proofs.Common.{Report, is_positive, LinkStep, GrowingCurve, LinkCurves, curve_with, label_curves_after, curves_after}
use Rattle.nf_phase_laws.proofs.Common.{link_curves_after, first_label_curve, first_trace, first_queue, first_curves, from_map, entry, Standing, PhaseStep}
use Rattle.nf_phase_laws.proofs.Common.{Bounds, IsStart, Goes, Runs, at_horizon, at_phases, fails, goes, IsPhaseRun, IsRunReport, IsShortFlow}
use Rattle.nf_phase_laws.proofs.Common.{standing_after, flow_of, KeepsLabels}
use Rattle.nf_phase_laws.proofs.Points.{LastSlope}
use Rattle.nf_phase_laws.proofs.Short.{IsShortCurve, IsShortCurve-with, IsShortCurve-queue, IsShort-trace}
use Rattle.nf_phase_laws.proofs.WellRun.{label_points, inflow_points, outflow_points, queue_points, WellRun, WellRun-start}
use Rattle.nf_phase_laws.proofs.Run.{WellRun-goes}
use Rattle.nf_phase_laws.proofs.Standing.{grown_at, label_count_at}

-- ---- the properties
pub record AreShort (curves : LinkCurves) : Type 0 where
  pub inflow : IsShort curves.inflow.points
  pub outflow : IsShort curves.outflow.points
  pub queue : IsShortCurve curves.queue

pub record ShortRun (s : Standing) : Type 0 where
  pub labels : (v : ℕ) (c : GrowingCurve) → slice_get s.label_curves v ≡ Some c → IsShortCurve c
  pub links : (e : ℕ) (c : LinkCurves) → slice_get s.link_curves e ≡ Some c → AreShort c

-- ---- the start
first_trace-short : (b : Bool) (l : ℚ) → IsShort (first_trace b l).points
first_trace-short true l = tt
first_trace-short false l = tt

first_queue-short : (b : Bool) (l : ℚ) → IsShortCurve (first_queue b l)
first_queue-short true l = record { short = tt; one = tt }
first_queue-short false l = record { short = tt; one = (_, refl) }

first_short : (labels : List ℚ) (link : Link) → AreShort (first_curves labels link)
first_short labels link = record {
  inflow = first_trace-short (is_positive (number_at labels link.tail)) (number_at labels link.tail);
  outflow = first_trace-short (is_positive (number_at labels link.head)) (number_at labels link.head);
  queue = first_queue-short (is_positive (number_at labels link.tail)) (number_at labels link.tail);
}

pub ShortRun-start : (net : Network) (s : Standing) → IsStart net s → ShortRun s
ShortRun-start net s h = record {
  labels = λ v c at. (let w = from_map first_label_curve s.labels v c (ap (λ (l : List GrowingCurve). slice_get l v) (sym h.label_curves) ∙ at) in
      subst IsShortCurve w.2 (record { short = tt; one = (_, refl) }));
  links = λ e c at. (let w = from_map (first_curves s.labels) net.links e c (ap (λ (l : List LinkCurves). slice_get l e) (sym h.link_curves) ∙ at) in
      subst AreShort w.2 (first_short s.labels w.0));
}

-- ---- the curve before a phase
record LabelBefore (time : ℚ) (found : Option GrowingCurve) (after : GrowingCurve) : Type 0 where
  pub before : GrowingCurve
  pub at : found ≡ Some before
  pub label : ℚ
  pub slope : ℚ
  pub is : curve_with before (time, label) slope ≡ after

label_before : (time : ℚ) (labels slopes : List ℚ) (curves : List GrowingCurve) (v : ℕ) (after : GrowingCurve)
    → slice_get (label_curves_after time labels slopes curves) v ≡ Some after → LabelBefore time (slice_get curves v) after
label_before time [] slopes curves v after h = absurd (none-some after h)
label_before time (x ∷ labels) [] curves v after h = absurd (none-some after h)
label_before time (x ∷ labels) (r ∷ slopes) [] v after h = absurd (none-some after h)
label_before time (x ∷ labels) (r ∷ slopes) (c ∷ curves) zero after h = record { before = c; at = refl; label = x; slope = r; is = same_Some _ after h }
label_before time (x ∷ labels) (r ∷ slopes) (c ∷ curves) (suc v) after h = label_before time labels slopes curves v after h

record LinkBefore (labels : List ℚ) (found : Option LinkCurves) (after : LinkCurves) : Type 0 where
  pub before : LinkCurves
  pub at : found ≡ Some before
  pub link : Link
  pub step : LinkStep
  pub is : curves_after labels link before step ≡ after

link_before : (labels : List ℚ) (links : List Link) (curves : List LinkCurves) (steps : List LinkStep) (e : ℕ) (after : LinkCurves)
    → slice_get (link_curves_after labels links curves steps) e ≡ Some after → LinkBefore labels (slice_get curves e) after
link_before labels [] curves steps e after h = absurd (none-some after h)
link_before labels (l ∷ links) [] steps e after h = absurd (none-some after h)
link_before labels (l ∷ links) (c ∷ curves) [] e after h = absurd (none-some after h)
link_before labels (l ∷ links) (c ∷ curves) (t ∷ steps) zero after h = record { before = c; at = refl; link = l; step = t; is = same_Some _ after h }
link_before labels (l ∷ links) (c ∷ curves) (t ∷ steps) (suc e) after h = link_before labels links curves steps e after h

-- ---- one phase
module _ (net : Network) (s : Standing) (pattern : Pattern) (slopes : List ℚ) (step : PhaseStep) (well : WellRun net s)
    (well_after : WellRun net (standing_after net s pattern slopes step)) (short : ShortRun s) where
  abbrev new : Standing
  new = standing_after net s pattern slopes step

  label_short : (v : ℕ) (c : GrowingCurve) → slice_get new.label_curves v ≡ Some c → IsShortCurve c
  label_short v c at =
      let w = label_before (s.time +ℚ step.length) step.labels slopes s.label_curves v c at in
      subst IsShortCurve w.is
      (IsShortCurve-with w.before (s.time +ℚ step.length, w.label) w.slope (well.label_slopes v w.before w.at) (short.labels v w.before w.at)
      (subst (λ (k : GrowingCurve). LastSlope k.points k.slope) (sym w.is) (well_after.label_slopes v c at)))

  link_short : (e : ℕ) (c : LinkCurves) → slice_get new.link_curves e ≡ Some c → AreShort c
  link_short e c at =
      let w = link_before step.labels net.links s.link_curves step.links e c at in
      let are = short.links e w.before w.at in
      subst AreShort w.is (record {
        inflow = IsShort-trace w.before.inflow (number_at step.labels w.link.tail) w.step.amount w.step.inflow_rate (well.inflow_rates e w.before w.at) are.inflow
            (subst (λ (k : LinkCurves). AreSlopes k.inflow.points k.inflow.rates) (sym w.is) (well_after.inflow_rates e c at));
        outflow = IsShort-trace w.before.outflow (number_at step.labels w.link.head) w.step.amount w.step.outflow_rate (well.outflow_rates e w.before w.at) are.outflow
            (subst (λ (k : LinkCurves). AreSlopes k.outflow.points k.outflow.rates) (sym w.is) (well_after.outflow_rates e c at));
        queue = IsShortCurve-queue w.before.queue (number_at step.labels w.link.tail) w.step.queue (well.queue_slopes e w.before w.at) are.queue
            (subst (λ (k : LinkCurves). LastSlope k.queue.points k.queue.slope) (sym w.is) (well_after.queue_slopes e c at));
      })

  pub ShortRun-after : ShortRun (standing_after net s pattern slopes step)
  ShortRun-after = record { labels = label_short; links = link_short }

-- ---- the flow of a run state
pub IsShortFlow-run : (net : Network) (s : Standing) → WellRun net s → ShortRun s → IsShortFlow net (flow_of s)
IsShortFlow-run net s well short = record {
  labels = λ v h. (let c = entry s.label_curves v (let n = well.label_count in omega arith) in subst IsShort (sym (label_points s v c.0 c.1)) (short.labels v c.0 c.1).short);
  inflows = λ e h. (let c = link_found e h in subst IsShort (sym (inflow_points s e c.0 c.1)) (short.links e c.0 c.1).inflow);
  outflows = λ e h. (let c = link_found e h in subst IsShort (sym (outflow_points s e c.0 c.1)) (short.links e c.0 c.1).outflow);
  queues = λ e h. (let c = link_found e h in subst IsShort (sym (queue_points s e c.0 c.1)) (short.links e c.0 c.1).queue.short);
}
  where
    link_found : (e : ℕ) → e < length net.links → (c : LinkCurves) × (slice_get s.link_curves e ≡ Some c)
    link_found e h = entry s.link_curves e (let n = well.link_count in omega arith)

-- Its labels are the values of its label curves.
pub KeepsLabels-run : (net : Network) → IsNetwork net → (s : Standing) → WellRun net s → KeepsLabels net s
KeepsLabels-run net good s well = record { count = label_count_at net good s well; values = λ v h. sym ((grown_at net good s well).stands.same v h) }

-- ---- phase by phase
module _ (passes : Passing) (net : Network) (good : IsNetwork net) (bounds : Bounds) where
  pub ShortRun-goes : (s t : Standing) → Goes passes net bounds.horizon bounds.patterns s t → WellRun net s → ShortRun s → ShortRun t
  ShortRun-goes s t g well short =
      let after : WellRun net (standing_after net s g.pattern g.slopes g.step) = subst (WellRun net) g.new_is (WellRun-goes passes net good bounds s t g well) in
      subst ShortRun (sym g.new_is) (ShortRun-after net s g.pattern g.slopes g.step well after short)

  pub stands_at : (s last : Standing) (stop : Option (Cause ℚ)) → WellRun net s → ShortRun s → Runs passes net bounds s last stop → WellRun net last × ShortRun last
  stands_at s last stop well short (at_horizon e) = (well, short)
  stands_at s last stop well short (at_phases below e) = (well, short)
  stands_at s last stop well short (fails may f) = (well, short)
  stands_at s last stop well short (goes {new = t} may g rest) = stands_at t last stop (WellRun-goes passes net good bounds s t g well) (ShortRun-goes s t g well short) rest

  module _ (last : Standing) (stop : Option (Cause ℚ)) (run : IsPhaseRun passes net bounds last stop) where
    stands : WellRun net last × ShortRun last
    stands = stands_at run.first last stop (WellRun-start net good run.first run.start) (ShortRun-start net run.first run.start) run.runs

    pub run_short : IsShortFlow net (flow_of last)
    run_short = IsShortFlow-run net last stands.0 stands.1

    pub run_keeps : KeepsLabels net last
    run_keeps = KeepsLabels-run net good last stands.0

  pub report_short : (report : Report) → IsRunReport passes net bounds report → IsShortFlow net report.flow
  report_short report r = subst (λ (w : Report). IsShortFlow net w.flow) (sym r.report_is) (run_short r.last r.stop r.run)
