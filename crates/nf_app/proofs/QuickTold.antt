-- What a request for a quickest flow gives, from what its calls answer; and the arrival in a run.
use Rattle.std.proofs.Common.{Vec, Global, ◌≡◌, ℕ, zero, suc, ◌-◌, ◌<◌, arith, List, [], ◌∷◌, ◌++◌, length, refl, sym, ap, subst, ◌∙◌, inl, inr, Option}
use Rattle.std.proofs.Common.{Some, None, IfSome, Ok, Err, slice_get, map}
use Rattle.nf_app.proofs.Common.{last_or, length-map, option_map_or, ℚ, 0ℚ, ◌≤ℚ◌, ≤ℚ_refl, passes_Q, PassedAt, Point, Within, value, IsCurve, Network}
use Rattle.nf_app.proofs.Common.{IsNetwork, inflow, label, points_at, Cause, Named, Report, GrowingCurve, Bounds, Standing, report_of, bounds_of}
use Rattle.nf_app.proofs.Common.{IsRunSolution, Arrival, IsDeparture, HasNoWay, IsAnswered, QuickFault, Quick, usual_budgets, Quickest, TooManyWalks}
use Rattle.nf_app.proofs.Common.{Passes, Unbounded, IsResultOf, flow_list, departs_list, arrival_of, ArrivesIn, IsArrivalOf}
use Rattle.nf_rational_laws.proofs.Entries.{last-append}
use Rattle.nf_model.specs.Earliest.{IsEarliest}
use Rattle.nf_model_laws.proofs.Curves.{EndsAt-value}
use Rattle.nf_thin_def.specs.Ends.{time_of_last}
use Rattle.nf_thin_laws.proofs.Ending.{run_ends}
use Rattle.nf_quick_def.specs.Quick.{Quick as QuickFlow}
use Rattle.nf_quick_def.specs.Answers.{IsQuickFlow}
use Rattle.nf_quick_def.specs.InOrder.{ComesOfPushes, EndsAtBudget}
use Rattle.nf_quick_def.specs.Quick as lists
use Rattle.nf_curve.specs.Flows.{seen_flow as shown_flow}
use Rattle.nf_curve.specs.declared.flow.Flow.{Flow as CodeFlow}
use Rattle.nf_unique_laws.proofs.Feasible.{quickest-le}

-- ---- the last point of a curve
last_split : {A : Type 0} (points : List A) (p : A) → slice_get points (length points - 1) ≡ Some p → (front : List A) × (points ≡ front ++ p ∷ [])
last_split [] p e = absurd (cc)
last_split {A} (x ∷ []) p e = let same : x ≡ p = cc in ([], ap (λ (z : A). z ∷ []) same)
last_split {A} (x ∷ y ∷ rest) p e =
    let i : length (x ∷ y ∷ rest) - 1 ≡ suc (length rest) = omega arith in
    let j : length (y ∷ rest) - 1 ≡ length rest = omega arith in
    let there : slice_get (y ∷ rest) (length (y ∷ rest) - 1) ≡ Some p =
    ap (λ (k : ℕ). slice_get (y ∷ rest) k) j ∙ sym (ap (λ (k : ℕ). slice_get (x ∷ y ∷ rest) k) i) ∙ e in
    let h = last_split (y ∷ rest) p there in
    (x ∷ h.0, ap (λ (l : List A). x ∷ l) h.1)

-- it ends at its last point, and so has that value from then on
pub value_at_end : (points : List Point) (p : Point) (time : ℚ) → IsCurve points → slice_get points (length points - 1) ≡ Some p → time_of_last points ≡ time → value points time ≡ p.1
value_at_end points p time curve is ends =
    let h = last_split points p is in
    let last : last_or None points ≡ Some p = ap (λ (l : List Point). last_or None l) h.1 ∙ last-append None h.0 p in
    let at : p.0 ≡ time = sym (ap (λ (o : Option Point). option_map_or (λ point. point.0) o 0ℚ) last) ∙ ends in
    EndsAt-value points p time (record { front = h.0; same = h.1; curve = curve }) (subst (λ (t : ℚ). p.0 ≤ℚ t) at (≤ℚ_refl p.0))

-- a curve of a run by its number
ends_there : (curves : List GrowingCurve) (v : ℕ) (time : ℚ) → v < length curves → ((curve : GrowingCurve) → slice_get curves v ≡ Some curve → time_of_last curve.points ≡ time)
    → time_of_last (points_at (map (λ curve. curve.points) curves) v) ≡ time
ends_there [] v time h k = absurd (omega arith)
ends_there (c ∷ curves) zero time h k = k c refl
ends_there (c ∷ curves) (suc v) time h k = ends_there curves v time (omega arith) k

-- the sink's label curve, as the code has it
pub sink_in : (net : Network) (flow : CodeFlow) (v : ℕ) → v < net.nodes → length (shown_flow flow).labels ≡ net.nodes → v < length flow.labels.items
sink_in net flow v h count =
    let same : length (shown_flow flow).labels ≡ length flow.labels.items = length-map flow.labels.items (λ c. c.points) in
    omega arith

pub at_sink : (flow : CodeFlow) (v sink : ℕ) (p : Point) → v ≡ sink → slice_get (points_at (shown_flow flow).labels v) (length (points_at (shown_flow flow).labels v) - 1) ≡ Some p
    → slice_get (points_at (shown_flow flow).labels sink) (length (points_at (shown_flow flow).labels sink) - 1) ≡ Some p
at_sink flow v sink p e h = subst (λ (u : ℕ). slice_get (points_at (shown_flow flow).labels u) (length (points_at (shown_flow flow).labels u) - 1) ≡ Some p) e h

-- ---- the arrival in a run
-- the sink's label curve ends at the departure reached
module _ (net : Network) (good : IsNetwork net) (bounds : Bounds) (report : Report) (phases : ℕ) (solution : IsRunSolution net bounds phases report) (sink : net.sink < net.nodes) where
  abbrev last : Standing
  last = solution.run.last

  report_is : report ≡ report_of bounds.horizon last solution.run.stop
  report_is = solution.run.report_is

  labels_are : report.flow.labels ≡ map (λ curve. curve.points) last.label_curves
  labels_are = ap (λ (r : Report). r.flow.labels) report_is

  many : net.sink < length last.label_curves
  many = let count : length report.flow.labels ≡ net.nodes = solution.well_formed.shape.labels.count in
      let same : length report.flow.labels ≡ length last.label_curves = ap length labels_are ∙ length-map last.label_curves (λ curve. curve.points) in
      omega arith

  ends : time_of_last (points_at report.flow.labels net.sink) ≡ report.flow.reached
  ends = ap (λ (l : List (List Point)). time_of_last (points_at l net.sink)) labels_are
      ∙ ends_there last.label_curves net.sink last.time many ((run_ends passes_Q net good bounds last solution.run.stop solution.run.run).labels net.sink)
      ∙ sym (ap (λ (r : Report). r.flow.reached) report_is)

  -- so the value of its last point is the label there
  pub last_is_label : (p : Point) → slice_get (points_at report.flow.labels net.sink) (length (points_at report.flow.labels net.sink) - 1) ≡ Some p
      → label report.flow net.sink report.flow.reached ≡ p.1
  last_is_label p is = value_at_end (points_at report.flow.labels net.sink) p report.flow.reached (solution.well_formed.shape.labels.each net.sink sink) is ends

module _ (net : Network) (good : IsNetwork net) (departs : ℚ) (report : Report) (phases : ℕ) (solution : IsRunSolution net (bounds_of departs usual_budgets) phases report) where
  -- the run is stopped
  pub stopped_arrives : (cause : Cause ℚ) → report.stop ≡ Some cause → ArrivesIn net departs (Arrival.Stopped cause)
  stopped_arrives cause e = record {
    report = report;
    phases = phases;
    solution = solution;
    arrival_is = ap (λ (o : Option (Cause ℚ)). arrival_of o (label report.flow net.sink departs)) (sym e);
    earliest = λ time is. absurd (cc);
    no_quicker = λ time amount least is h q. absurd (cc);
  }

  module _ (sink : net.sink < net.nodes) (from_0 : 0ℚ ≤ℚ departs) (no_stop : report.stop ≡ None) where
    reached : report.flow.reached ≡ departs
    reached = solution.well_formed.stop.0 no_stop ∙ ap (λ (r : Report). r.horizon) solution.run.report_is

    -- the run comes to the departure
    pub reached_arrives : (p : Point) → slice_get (points_at report.flow.labels net.sink) (length (points_at report.flow.labels net.sink) - 1) ≡ Some p
        → ArrivesIn net departs (Arrival.At p.1)
    reached_arrives p is =
        let at : label report.flow net.sink departs ≡ p.1 =
        subst (λ (time : ℚ). label report.flow net.sink time ≡ p.1) reached (last_is_label net good (bounds_of departs usual_budgets) report phases solution sink p is) in
        let within : Within 0ℚ report.flow.reached departs = (from_0, subst (λ (t : ℚ). departs ≤ℚ t) (sym reached) (≤ℚ_refl departs)) in
        let first : IsEarliest net (inflow report.flow) net.sink departs (label report.flow net.sink departs) = solution.equilibrium.nash.labels net.sink departs sink within in
        record {
          report = report;
          phases = phases;
          solution = solution;
          arrival_is = ap Arrival.At (sym at) ∙ ap (λ (o : Option (Cause ℚ)). arrival_of o (label report.flow net.sink departs)) (sym no_stop);
          earliest = λ time same. let it : p.1 ≡ time = cc in subst (λ (t : ℚ). IsEarliest net (inflow report.flow) net.sink departs t) (at ∙ it) first;
          no_quicker = λ time amount least same h q.
              let it : p.1 ≡ time = cc in subst (λ (t : ℚ). least ≤ℚ t) (at ∙ it) (quickest-le net report.flow good solution.equilibrium amount departs least within h q);
        }

-- so the arrival is no earlier than the time of the quickest flow
no_earlier-is : (net : Network) (amount : ℚ) (quick : QuickFlow) (departs : Option ℚ) (arrival : Arrival) → IsQuickFlow net amount quick
    → IsDeparture net amount departs → IsArrivalOf net departs arrival
    → (time : ℚ) → arrival ≡ Arrival.At time → quick.time ≤ℚ time
no_earlier-is net amount quick None arrival flow least never time same = absurd (cc)
no_earlier-is net amount quick (Some departs) arrival flow least arrives time same = arrives.no_quicker time amount quick.time same least.1 flow.quickest

-- ---- what is given, from what `quickest` and `departure` answer
module _ (n : Named) (file text : List ℕ) (amount : ℚ) (augments : ℕ) where
  pub budget_given : (walks : List lists.Augment) → HasNoWay n.net amount → flow_list n.net amount augments ≡ Ok (lists.Budget walks) → EndsAtBudget n.net amount augments walks
      → IsResultOf n text (Quick file amount augments) (TooManyWalks n augments walks)
  budget_given walks none listed pushed = inr (inl (walks, refl, record { no_way = none; computed = listed; pushed = pushed }))

  pub unbounded_given : (links : Vec ℕ Global) → IsAnswered passes_Q n.net amount augments (Err (QuickFault.Unbounded links)) → IsResultOf n text (Quick file amount augments) Unbounded
  unbounded_given links h = inr (inr (inr (refl, (h.0, (links.items, h.1)))))

  pub passed_given : (at : PassedAt ℚ) → IsAnswered passes_Q n.net amount augments (Err (QuickFault.Passed at)) → IsResultOf n text (Quick file amount augments) (Passes at)
  passed_given at h = inr (inr (inl (at, refl, record { no_way = h.0; passes = inl h.1 })))

  module _ (quick : QuickFlow) (h : IsAnswered passes_Q n.net amount augments (Ok quick)) where
    pub departure_passes : (at : PassedAt ℚ) → Err at ≡ departs_list n.net amount → IsResultOf n text (Quick file amount augments) (Passes at)
    departure_passes at e = inr (inr (inl (at, refl, record { no_way = h.0; passes = inr (quick, h.1, sym e) })))

    pub quickest_given : IsQuickFlow n.net amount quick → ComesOfPushes n.net amount augments quick → (departs : Option ℚ)
        → Ok departs ≡ departs_list n.net amount → IsDeparture n.net amount departs
        → (arrival : Arrival) → IsArrivalOf n.net departs arrival → IsResultOf n text (Quick file amount augments) (Quickest n quick arrival)
    quickest_given flow pushes departs e least arrival arrives = inl (record {
      quick = quick;
      arrival = arrival;
      is = refl;
      bounded = h.0;
      quickest = flow;
      pushes = pushes;
      departs = departs;
      least = least;
      arrives = arrives;
      no_earlier = no_earlier-is n.net amount quick departs arrival flow least arrives;
      computed = h.1;
      departs_computed = sym e;
    })

-- a departure is at least 0
pub from_0 : (net : Network) (amount : ℚ) (departs : Option ℚ) → IsDeparture net amount departs → IfSome departs (λ time. 0ℚ ≤ℚ time)
from_0 net amount None h = tt
from_0 net amount (Some time) h = h.0
