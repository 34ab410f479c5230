-- A well formed report with readable numbers, curve by curve; and back.
use Rattle.std.proofs.Common.{◌≡◌, ℕ, zero, suc, ◌<◌, List, [], ◌∷◌, length, Option, Some, refl, sym, ap, subst, ◌∙◌, arith}
use Rattle.nf_report_laws.proofs.Common.{AllByRecursion, Point, IsCurve, Trace, points_at, points_of, Named, IsNamed, Report, HaveRates, IsWellFormed}
use Rattle.nf_report_laws.proofs.Common.{AreFractionPoints, IsFractionTrace, IsReadable}
use Rattle.nf_report_laws.proofs.ReportShape.{IsReadPoints, IsReadTrace}
use Rattle.nf_report_laws.proofs.ReportBack.{IsFit}

count_points : (traces : List Trace) → length (points_of traces) ≡ length traces
count_points [] = refl
count_points (t ∷ traces) = ap suc (count_points traces)

-- ---- curve by curve
all_points : (curves : List (List Point)) → ((i : ℕ) → i < length curves → IsCurve (points_at curves i)) → AllByRecursion AreFractionPoints curves → AllByRecursion IsReadPoints curves
all_points [] each h = tt
all_points (points ∷ curves) each h = ((each 0 (omega arith), h.0), all_points curves (λ i low. each (suc i) (omega arith)) h.1)

all_traces : (traces : List Trace) → ((i : ℕ) → i < length traces → IsCurve (points_at (points_of traces) i)) → HaveRates traces
    → AllByRecursion IsFractionTrace traces → AllByRecursion IsReadTrace traces
all_traces [] each rates h = tt
all_traces (t ∷ traces) each rates h = (
  record { curve = each 0 (omega arith); points = h.0.0; rates = h.0.1; count = rates 0 t refl },
  all_traces traces (λ i low. each (suc i) (omega arith)) (λ e trace is. rates (suc e) trace is) h.1,
)

pub fit : (n : Named) (report : Report) → IsNamed n → IsWellFormed n.net report → IsReadable report → IsFit n report
fit n report named h r =
    let flow = report.flow in
    let links = named.numbered.links in
    let inflows = sym (count_points flow.inflows) ∙ h.shape.inflows.count in
    let outflows = sym (count_points flow.outflows) ∙ h.shape.outflows.count in
    record {
      flow = record {
        label_count = h.shape.labels.count ∙ sym named.numbered.nodes;
        inflow_count = inflows ∙ sym links;
        outflow_count = outflows ∙ sym links;
        queue_count = h.shape.queues.count ∙ sym links;
        labels = all_points flow.labels (λ i low. h.shape.labels.each i (subst (λ (k : ℕ). i < k) h.shape.labels.count low)) r.labels;
        inflows = all_traces flow.inflows (λ i low. h.shape.inflows.each i (subst (λ (k : ℕ). i < k) inflows low)) h.inflow_rates r.inflows;
        outflows = all_traces flow.outflows (λ i low. h.shape.outflows.each i (subst (λ (k : ℕ). i < k) outflows low)) h.outflow_rates r.outflows;
        queues = all_points flow.queues (λ i low. h.shape.queues.each i (subst (λ (k : ℕ). i < k) h.shape.queues.count low)) r.queues;
      };
      horizon = r.horizon;
      reached = r.reached;
      stop = r.stop;
      starts = h.reached;
      ends = h.horizon;
      stops = h.stop;
      states = h.states;
      no_full = h.no_full;
    }

-- ---- and back
one_curve : (curves : List (List Point)) (i : ℕ) → AllByRecursion IsReadPoints curves → i < length curves → IsCurve (points_at curves i)
one_curve [] i h low = absurd (omega arith)
one_curve (points ∷ curves) zero h low = h.0.0
one_curve (points ∷ curves) (suc i) h low = one_curve curves i h.1 (omega arith)

one_trace : (traces : List Trace) (i : ℕ) → AllByRecursion IsReadTrace traces → i < length traces → IsCurve (points_at (points_of traces) i)
one_trace [] i h low = absurd (omega arith)
one_trace (t ∷ traces) zero h low = h.0.curve
one_trace (t ∷ traces) (suc i) h low = one_trace traces i h.1 (omega arith)

trace_rates : (traces : List Trace) → AllByRecursion IsReadTrace traces → HaveRates traces
trace_rates [] h e trace is = absurd (cc)
trace_rates (t ∷ traces) h zero trace is = let same : t ≡ trace = some_same t trace is in subst (λ (t : Trace). length t.points ≡ suc (length t.rates)) same h.0.count
  where
    some_same : (a b : Trace) → ◌≡◌ {A = Option Trace} (Some a) (Some b) → a ≡ b
    some_same a b e = cc
trace_rates (t ∷ traces) h (suc e) trace is = trace_rates traces h.1 e trace is

fraction_points : (curves : List (List Point)) → AllByRecursion IsReadPoints curves → AllByRecursion AreFractionPoints curves
fraction_points [] h = tt
fraction_points (points ∷ curves) h = (h.0.1, fraction_points curves h.1)

fraction_traces : (traces : List Trace) → AllByRecursion IsReadTrace traces → AllByRecursion IsFractionTrace traces
fraction_traces [] h = tt
fraction_traces (t ∷ traces) h = ((h.0.points, h.0.rates), fraction_traces traces h.1)

pub well_formed : (n : Named) (report : Report) → IsNamed n → IsFit n report → IsWellFormed n.net report
well_formed n report named h =
    let flow = report.flow in
    let links = named.numbered.links in
    let labels = h.flow.label_count ∙ named.numbered.nodes in
    let inflows = h.flow.inflow_count ∙ links in
    let outflows = h.flow.outflow_count ∙ links in
    let queues = h.flow.queue_count ∙ links in
    record {
      shape = record {
        labels = record { count = labels; each = λ i low. one_curve flow.labels i h.flow.labels (subst (λ (k : ℕ). i < k) (sym labels) low) };
        inflows = record { count = count_points flow.inflows ∙ inflows; each = λ i low. one_trace flow.inflows i h.flow.inflows (subst (λ (k : ℕ). i < k) (sym inflows) low) };
        outflows = record { count = count_points flow.outflows ∙ outflows; each = λ i low. one_trace flow.outflows i h.flow.outflows (subst (λ (k : ℕ). i < k) (sym outflows) low) };
        queues = record { count = queues; each = λ i low. one_curve flow.queues i h.flow.queues (subst (λ (k : ℕ). i < k) (sym queues) low) };
      };
      inflow_rates = trace_rates flow.inflows h.flow.inflows;
      outflow_rates = trace_rates flow.outflows h.flow.outflows;
      reached = h.starts;
      horizon = h.ends;
      stop = h.stops;
      states = h.states;
      no_full = h.no_full;
    }

pub readable : (n : Named) (report : Report) → IsFit n report → IsReadable report
readable n report h = record {
  horizon = h.horizon;
  reached = h.reached;
  stop = h.stop;
  labels = fraction_points report.flow.labels h.flow.labels;
  inflows = fraction_traces report.flow.inflows h.flow.inflows;
  outflows = fraction_traces report.flow.outflows h.flow.outflows;
  queues = fraction_points report.flow.queues h.flow.queues;
}
