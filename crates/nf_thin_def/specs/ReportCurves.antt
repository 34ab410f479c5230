-- The curves of a run's report, as they are extended phase by phase. They are in short form: if a curve is extended with its last slope,
-- its last point moves, and it gets no corner.
use Rattle.std.specs.Prelude.{◌-◌, Bool, true, false, List, [], ◌∷◌, ◌++◌, length, take, Option, Some, None}
use Rattle.std.specs.List.{last_or}
use Rattle.std.specs.Option.{option_map_or}
use Rattle.nf_rational.specs.Rational.{ℚ}
use Rattle.nf_rational.specs.Operations.{0ℚ}
use Rattle.nf_model.specs.Entries.{number_at}
use Rattle.nf_model.specs.Curve.{Point}
use Rattle.nf_model.specs.Network.{Link}
use Rattle.nf_model.specs.Equilibrium.{Trace}
use Rattle.nf_rational.specs.Signs.{is_same, is_positive}
use Rattle.nf_thin_def.specs.CurveList.{QueueStep, LinkStep}

-- ---- one more point

-- The curve has a last slope, and is extended with the same slope.
abbrev pub keeps_slope : Option ℚ → ℚ → Bool
keeps_slope None slope = false
keeps_slope (Some before) slope = is_same before slope

-- The new point replaces the last point if the slope is the same, and is appended otherwise.
abbrev pub with_point : Bool → List Point → Point → List Point
with_point true points point = take (length points - 1) points ++ point ∷ []
with_point false points point = points ++ point ∷ []

-- A curve, and the slope up to its last point if it has more than one point.
pub record GrowingCurve : Type 0 where
  pub points : List Point
  pub slope : Option ℚ

abbrev pub curve_with : GrowingCurve → Point → ℚ → GrowingCurve
curve_with curve point slope = record { points = with_point (keeps_slope curve.slope slope) curve.points point; slope = Some slope }

-- The rates of a curve, each from one point to the next, after one more point.
abbrev pub with_rate : Bool → List ℚ → ℚ → List ℚ
with_rate true rates rate = rates
with_rate false rates rate = rates ++ rate ∷ []

abbrev pub trace_with : Trace → Point → ℚ → Trace
trace_with trace point rate = record {
  points = with_point (keeps_slope (last_or None trace.rates) rate) trace.points point;
  rates = with_rate (keeps_slope (last_or None trace.rates) rate) trace.rates rate;
}

-- ---- the first points

-- A label curve begins with the label of departure 0.
abbrev pub first_label_curve : ℚ → GrowingCurve
first_label_curve label = record { points = (0ℚ, label) ∷ []; slope = None }

-- A curve at a node begins with 0 at time 0, and is 0 until the label of departure 0 there.
abbrev pub first_queue : Bool → ℚ → GrowingCurve
first_queue true label = record { points = (0ℚ, 0ℚ) ∷ (label, 0ℚ) ∷ []; slope = Some 0ℚ }
first_queue false label = record { points = (0ℚ, 0ℚ) ∷ []; slope = None }

abbrev pub first_trace : Bool → ℚ → Trace
first_trace true label = record { points = (0ℚ, 0ℚ) ∷ (label, 0ℚ) ∷ []; rates = 0ℚ ∷ [] }
first_trace false label = record { points = (0ℚ, 0ℚ) ∷ []; rates = [] }

-- The curves of a link: inflow and queue by the time at its tail, and outflow by the time at its head.
pub record LinkCurves : Type 0 where
  pub inflow : Trace
  pub outflow : Trace
  pub queue : GrowingCurve

abbrev pub first_curves : List ℚ → Link → LinkCurves
first_curves labels link = record {
  inflow = first_trace (is_positive (number_at labels link.tail)) (number_at labels link.tail);
  outflow = first_trace (is_positive (number_at labels link.head)) (number_at labels link.head);
  queue = first_queue (is_positive (number_at labels link.tail)) (number_at labels link.tail);
}

-- ---- the points of a phase: at its end, and at the labels there

-- The label curve of each node, by departure.
abbrev pub label_curves_after : ℚ → List ℚ → List ℚ → List GrowingCurve → List GrowingCurve
label_curves_after time (label ∷ labels) (slope ∷ slopes) (curve ∷ curves) =
    curve_with curve (time, label) slope ∷ label_curves_after time labels slopes curves
label_curves_after time labels slopes curves = []

-- The curve gets no point if the label is constant.
abbrev pub trace_after : Trace → ℚ → ℚ → Option ℚ → Trace
trace_after trace label amount None = trace
trace_after trace label amount (Some rate) = trace_with trace (label, amount) rate

abbrev pub queue_curve_after : GrowingCurve → ℚ → Option QueueStep → GrowingCurve
queue_curve_after curve label None = curve
queue_curve_after curve label (Some step) = curve_with curve (label, step.size) step.slope

abbrev pub curves_after : List ℚ → Link → LinkCurves → LinkStep → LinkCurves
curves_after labels link curves step = record {
  inflow = trace_after curves.inflow (number_at labels link.tail) step.amount step.inflow_rate;
  outflow = trace_after curves.outflow (number_at labels link.head) step.amount step.outflow_rate;
  queue = queue_curve_after curves.queue (number_at labels link.tail) step.queue;
}

abbrev pub link_curves_after : List ℚ → List Link → List LinkCurves → List LinkStep → List LinkCurves
link_curves_after labels (link ∷ links) (c ∷ curves) (step ∷ steps) =
    curves_after labels link c step ∷ link_curves_after labels links curves steps
link_curves_after labels links curves steps = []

-- ---- the amount that has entered a link so far: the value of its inflow curve's last point
abbrev pub amount_so_far : LinkCurves → ℚ
amount_so_far curves = option_map_or (λ point. point.1) (last_or None curves.inflow.points) 0ℚ
