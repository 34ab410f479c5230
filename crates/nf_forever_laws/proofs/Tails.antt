-- A flow of phases extended by a tail is a flow of phases, with one more that lasts up to the departure considered.
use Rattle.std.proofs.Common.{◌≡◌, ℕ, ◌<◌, List, [], ◌∷◌, ◌++◌, length, inr, sym, ap, subst, refl, ◌∙◌, arith, Option, Some, None, slice_get, unwrap_or}
use Rattle.nf_forever_laws.proofs.Common.{same_Some, slice_get_within, ℚ, 0ℚ, ◌+ℚ◌, ◌-ℚ◌, ◌*ℚ◌, ◌<ℚ◌, reading_of, linear_eq, number_at, Point, AreSlopes, Link}
use Rattle.nf_forever_laws.proofs.Common.{Network, IsNetwork, IsLink, hop_of, hops, rate_at, slack, slacks_of, sets_at, IsThinFlow, moved, IsUnending, IsPhase}
use Rattle.nf_forever_laws.proofs.Common.{Trace, Flow, points_of, points_at, HasShape, HasSlopes, Equilibrium, LastPoint, GoesOnTo, at, CurvesGoOn, ends_at}
use Rattle.nf_forever_laws.proofs.Common.{GoesOnTo-appended, number_is, points_is, Tail, last_point, extended_value, labels_then, queue_then, traces_with_end}
use Rattle.nf_forever_laws.proofs.Common.{extended, ≤ℚ_refl, slice_get-image, entry, back_and_forth, same_slacks, later_by, less_ps}
use Rattle.std.proofs.lemmas.List.{length-map}
use Rattle.nf_model_laws.proofs.Curves.{EndsAt-value}
use Rattle.nf_phase_laws.specs.Invariant.{link_slack, queue_by_slack}
use Rattle.nf_phase_laws.specs.DescriptionCurves.{DescriptionCurvesGoOn}
use Rattle.nf_phase_laws.specs.CurveRun.{Curves, curves_of}
use Rattle.nf_phase_laws.proofs.Holds.{link_within}
use Rattle.nf_phase_laws.proofs.CurveRun.{Grown, Grown-after, Equilibrium-grown}
use Rattle.nf_phase_laws.proofs.Traces.{same_point, TraceStep}
use Rattle.nf_forever_laws.proofs.Entries.{labels_then_at, labels_with_end_at, labels_with_end-length, labels_then-length, trace_new, queue_new, traces_at, traces-length, queues_at, queues-length}
use Rattle.nf_forever_laws.proofs.Steps.{last_point-is, TraceStep-last, CurveStep, CurveStep-last}

queue_same : (capacity : Option ℚ) (s : ℚ) → queue_then capacity s ≡ queue_by_slack capacity s
queue_same None s = refl
queue_same (Some c) s = refl

same_value : (p q : Point) (w r : ℚ) → p ≡ q → p.1 +ℚ w *ℚ r ≡ q.1 +ℚ r *ℚ w
same_value p q w r e = ap (λ (p : Point). p.1 +ℚ w *ℚ r) e ∙ linear_eq (q.1 ∷ w ∷ r ∷ []) [] (search reading_of) tt tt

module _ (net : Network) (flow : Flow) (tail : Tail) (until : ℚ) (labels : List ℚ) (good : IsNetwork net) (grown : Grown net flow.reached labels (curves_of flow))
    (shape : HasShape net flow) (inflow_rates : HasSlopes flow.inflows) (outflow_rates : HasSlopes flow.outflows)
    (thin : IsThinFlow net (sets_at net labels) (rate_at net flow.reached) tail.flows tail.slopes)
    (unending : IsUnending net (slacks_of (hops net) labels) tail.slopes flow.reached) (below : flow.reached <ℚ until) where
  abbrev while : ℚ
  while = until -ℚ flow.reached

  abbrev then : List ℚ
  then = labels_then while tail.slopes flow.labels

  abbrev new : Flow
  new = extended net flow tail until

  abbrev curves : Curves
  curves = curves_of flow

  abbrev curves' : Curves
  curves' = curves_of new

  abbrev phase : IsPhase net until (flow.reached, labels) (until, moved labels tail.slopes while)
  phase = record {
    before = below;
    flows = tail.flows;
    slopes = tail.slopes;
    thin = thin;
    length = while;
    is_length = inr (unending, refl);
    time = sym (back_and_forth flow.reached until);
    labels = refl;
  }

  some : 0ℚ <ℚ while
  some = less_ps flow.reached until below

  abbrev label_now : ℕ → ℚ
  label_now v = at curves.labels v flow.reached

  -- ---- labels
  module _ (v : ℕ) (h : v < net.nodes) where
    label_here : slice_get flow.labels v ≡ Some (curves.labels v)
    label_here = let f = entry flow.labels v (let n = shape.labels.count in omega arith) in
        f.1 ∙ ap (λ (ps : List Point). Some ps) (sym (points_is flow.labels v f.0 f.1))

    ends : LastPoint (curves.labels v) (flow.reached, label_now v)
    ends = grown.curves_stand.labels_end v h

    then_entry : slice_get then v ≡ Some (extended_value (curves.labels v) while (number_at tail.slopes v))
    then_entry = labels_then_at while tail.slopes flow.labels v (number_at tail.slopes v) (curves.labels v)
        (number_is tail.slopes v (let n = thin.slope_count in omega arith)) label_here

    then_is : number_at then v ≡ label_now v +ℚ number_at tail.slopes v *ℚ while
    then_is = ap (λ (o : Option ℚ). unwrap_or o 0ℚ) then_entry
        ∙ same_value (last_point (curves.labels v)) (flow.reached, label_now v) while (number_at tail.slopes v) (last_point-is (curves.labels v) (flow.reached, label_now v) ends)

    label_new : curves'.labels v ≡ curves.labels v ++ (until, number_at then v) ∷ []
    label_new = points_is new.labels v (curves.labels v ++ (until, number_at then v) ∷ [])
        (labels_with_end_at until then flow.labels v (number_at then v) (curves.labels v) (number_is then v (slice_get_within then v _ then_entry)) label_here)

    label_goes : GoesOnTo (curves.labels v) (curves'.labels v) (flow.reached, label_now v) (flow.reached +ℚ while, label_now v +ℚ number_at tail.slopes v *ℚ while)
    label_goes = subst (λ (ps : List Point). GoesOnTo (curves.labels v) ps (flow.reached, label_now v) (flow.reached +ℚ while, label_now v +ℚ number_at tail.slopes v *ℚ while))
        (ap (λ (p : Point). curves.labels v ++ p ∷ []) (sym (same_point until (flow.reached +ℚ while) (number_at then v)
        (label_now v +ℚ number_at tail.slopes v *ℚ while) (sym (back_and_forth flow.reached until)) then_is)) ∙ sym label_new)
        (GoesOnTo-appended (curves.labels v) (flow.reached, label_now v) (flow.reached +ℚ while, label_now v +ℚ number_at tail.slopes v *ℚ while) ends (later_by flow.reached while some))

    new_at : at curves'.labels v (flow.reached +ℚ while) ≡ number_at then v
    new_at = EndsAt-value (curves'.labels v) (flow.reached +ℚ while, label_now v +ℚ number_at tail.slopes v *ℚ while) (flow.reached +ℚ while)
        (ends_at (curves'.labels v) (flow.reached +ℚ while, label_now v +ℚ number_at tail.slopes v *ℚ while) label_goes.ends) (≤ℚ_refl (flow.reached +ℚ while)) ∙ sym then_is

  -- ---- links
  module _ (e : ℕ) (link : Link) (p : IsLink net e link) where
    inside : e < length net.links
    inside = slice_get_within net.links e link p

    flow_here : slice_get tail.flows e ≡ Some (number_at tail.flows e)
    flow_here = number_is tail.flows e (let n = thin.flow_count in let i = inside in omega arith)

    tail_in : link.tail < net.nodes
    tail_in = good.tails e link p

    head_in : link.head < net.nodes
    head_in = good.heads e link p

    amount_is : (points : List Point) (a y : ℚ) → LastPoint points (a, y) → extended_value points while (number_at tail.flows e) ≡ y +ℚ number_at tail.flows e *ℚ while
    amount_is points a y l = same_value (last_point points) (a, y) while (number_at tail.flows e) (last_point-is points (a, y) l)

    -- a trace at one end of the link: the inflow at the tail, or the outflow at the head
    module _ (end : Link → ℕ) (end_in : end link < net.nodes) (traces : List Trace) (count : length (points_of traces) ≡ length net.links) (rates : HasSlopes traces)
        (last : LastPoint (points_at (points_of traces) e) (label_now (end link), at (points_at (points_of traces)) e (label_now (end link)))) where
      abbrev value_now : ℚ
      value_now = at (points_at (points_of traces)) e (label_now (end link))

      abbrev traces' : List Trace
      traces' = traces_with_end while tail.slopes then end net.links tail.flows traces

      found : (t : Trace) × (slice_get traces e ≡ Some t)
      found = entry traces e (let n = count in let m : length (points_of traces) ≡ length traces = length-map traces (λ (t : Trace). t.points) in let i = inside in omega arith)

      abbrev trace' : Trace
      trace' = trace_new while tail.slopes then end link (number_at tail.flows e) found.0

      points_now : points_at (points_of traces) e ≡ found.0.points
      points_now = points_is (points_of traces) e found.0.points (slice_get-image (λ (t : Trace). t.points) traces e found.0 found.1)

      trace_then : slice_get traces' e ≡ Some trace'
      trace_then = traces_at while tail.slopes then end net.links tail.flows traces e link (number_at tail.flows e) found.0 p flow_here found.1

      points_then : points_at (points_of traces') e ≡ trace'.points
      points_then = points_is (points_of traces') e trace'.points (slice_get-image (λ (t : Trace). t.points) traces' e trace' trace_then)

      last_now : LastPoint found.0.points (label_now (end link), value_now)
      last_now = subst (λ (ps : List Point). LastPoint ps (label_now (end link), value_now)) points_now last

      trace_step : TraceStep found.0.points trace' (label_now (end link)) value_now while (number_at tail.flows e) (number_at tail.slopes (end link))
      trace_step = TraceStep-last found.0 (number_at tail.flows e) (number_at tail.slopes (end link)) (label_now (end link)) value_now while (number_at then (end link))
          (extended_value found.0.points while (number_at tail.flows e)) (rates e found.0 found.1) last_now some (then_is (end link) end_in) (amount_is found.0.points _ _ last_now)

      abbrev Goes : List Point → List Point → Type 0
      Goes points points' = GoesOnTo points points' (label_now (end link), value_now)
          (label_now (end link) +ℚ number_at tail.slopes (end link) *ℚ while, value_now +ℚ number_at tail.flows e *ℚ while)

      trace_goes : 0ℚ <ℚ number_at tail.slopes (end link) → Goes (points_at (points_of traces) e) (points_at (points_of traces') e)
      trace_goes h = subst (λ (ps : List Point). Goes ps (points_at (points_of traces') e)) (sym points_now) (subst (Goes found.0.points) (sym points_then) (trace_step.goes h))

      trace_stays : number_at tail.slopes (end link) ≡ 0ℚ → points_at (points_of traces') e ≡ points_at (points_of traces) e
      trace_stays h = points_then ∙ trace_step.stays h ∙ sym points_now

      trace_rates : (t : Trace) → slice_get traces' e ≡ Some t → AreSlopes t.points t.rates
      trace_rates t there = subst (λ (t : Trace). AreSlopes t.points t.rates) (same_Some _ t (sym trace_then ∙ there)) trace_step.rates

    -- the queue
    queue_here : slice_get flow.queues e ≡ Some (curves.queues e)
    queue_here = let f = entry flow.queues e (let n = shape.queues.count in let i = inside in omega arith) in
        f.1 ∙ ap (λ (ps : List Point). Some ps) (sym (points_is flow.queues e f.0 f.1))

    queue_after : curves'.queues e ≡ queue_new while tail.slopes then link (curves.queues e)
    queue_after = points_is new.queues e (queue_new while tail.slopes then link (curves.queues e))
        (queues_at while tail.slopes then net.links flow.queues e link (curves.queues e) p queue_here)

    size_is : queue_then link.capacity (slack then (hop_of link)) ≡ queue_by_slack link.capacity (link_slack (at curves'.labels) link (flow.reached +ℚ while))
    size_is = queue_same link.capacity (slack then (hop_of link)) ∙ ap (queue_by_slack link.capacity)
        (same_slacks (number_at then link.head) (number_at then link.tail) _ _ link.transit (sym (new_at link.head head_in)) (sym (new_at link.tail tail_in)))

    queue_step : CurveStep (curves.queues e) (queue_new while tail.slopes then link (curves.queues e)) (label_now link.tail)
        (at curves.queues e (label_now link.tail)) while (number_at tail.slopes link.tail)
        (queue_by_slack link.capacity (link_slack (at curves'.labels) link (flow.reached +ℚ while)))
    queue_step = CurveStep-last (curves.queues e) (number_at tail.slopes link.tail) (label_now link.tail) (at curves.queues e (label_now link.tail)) while (number_at then link.tail)
        (queue_by_slack link.capacity (link_slack (at curves'.labels) link (flow.reached +ℚ while))) (queue_then link.capacity (slack then (hop_of link)))
        (grown.description_stands.queues_end e link p) some (then_is link.tail tail_in) size_is

  -- ---- all of them
  curves_go : CurvesGoOn net curves.inflows curves.labels flow.reached while (number_at tail.flows) (number_at tail.slopes) curves'.inflows curves'.labels
  curves_go = record {
    labels_go = label_goes;
    inflows_go = λ e link p. trace_goes e link p (λ (k : Link). k.tail) (good.tails e link p) flow.inflows shape.inflows.count inflow_rates (grown.curves_stand.inflows_end e link p);
    inflows_stay = λ e link p. trace_stays e link p (λ (k : Link). k.tail) (good.tails e link p) flow.inflows shape.inflows.count inflow_rates (grown.curves_stand.inflows_end e link p);
  }

  description_goes : DescriptionCurvesGoOn net (at curves.labels) (at curves'.labels) curves.outflows curves.queues flow.reached while
      (number_at tail.flows) (number_at tail.slopes) curves'.outflows curves'.queues
  description_goes = record {
    outflows_go = λ e link p. trace_goes e link p (λ (k : Link). k.head) (good.heads e link p) flow.outflows shape.outflows.count outflow_rates
        (grown.description_stands.outflows_end e link p);
    outflows_stay = λ e link p. trace_stays e link p (λ (k : Link). k.head) (good.heads e link p) flow.outflows shape.outflows.count outflow_rates
        (grown.description_stands.outflows_end e link p);
    queues_go = λ e link p h. subst (λ (ps : List Point). GoesOnTo (curves.queues e) ps (label_now link.tail, at curves.queues e (label_now link.tail)) (
      label_now link.tail +ℚ number_at tail.slopes link.tail *ℚ while,
      queue_by_slack link.capacity
          (link_slack (at curves'.labels) link (flow.reached +ℚ while)),
    )) (sym (queue_after e link p))
        ((queue_step e link p).goes h);
    queues_stay = λ e link p h. queue_after e link p ∙ (queue_step e link p).stays h;
  }

  new_grown : Grown net until (moved labels tail.slopes while) curves'
  new_grown = Grown-after net good until flow.reached until labels (moved labels tail.slopes while) curves curves' phase grown curves_go description_goes

  then_length : length then ≡ net.nodes
  then_length = labels_then-length while tail.slopes flow.labels net.nodes thin.slope_count shape.labels.count

  traces_length : (traces : List Trace) → length (points_of traces) ≡ length net.links → length traces ≡ length net.links
  traces_length traces h = sym (length-map traces (λ (t : Trace). t.points)) ∙ h

  inflows_count : length new.inflows ≡ length net.links
  inflows_count = traces-length while tail.slopes then (λ (k : Link). k.tail) net.links tail.flows flow.inflows thin.flow_count (traces_length flow.inflows shape.inflows.count)

  outflows_count : length new.outflows ≡ length net.links
  outflows_count = traces-length while tail.slopes then (λ (k : Link). k.head) net.links tail.flows flow.outflows thin.flow_count (traces_length flow.outflows shape.outflows.count)

  new_shape : HasShape net new
  new_shape = record {
    labels = record { count = labels_with_end-length until then flow.labels net.nodes then_length shape.labels.count; each = λ v h. (new_grown.curves_stand.labels_end v h).curve };
    inflows = record {
      count = length-map new.inflows (λ (t : Trace). t.points)
          ∙ inflows_count;
      each = λ e h. (let l = link_within net e h in (new_grown.curves_stand.inflows_end e l.0 l.1).curve);
    };
    outflows = record {
      count = length-map new.outflows (λ (t : Trace). t.points)
          ∙ outflows_count;
      each = λ e h. (let l = link_within net e h in (new_grown.description_stands.outflows_end e l.0 l.1).curve);
    };
    queues = record {
      count = queues-length while tail.slopes then net.links flow.queues shape.queues.count;
      each =
          λ e h. (let l = link_within net e h in (new_grown.description_stands.queues_end e l.0 l.1).curve);
    };
  }

  new_inflow_rates : HasSlopes new.inflows
  new_inflow_rates e trace there =
      let l = link_within net e (let n = inflows_count in let w = slice_get_within new.inflows e trace there in omega arith) in
      trace_rates e l.0 l.1 (λ (k : Link). k.tail) (good.tails e l.0 l.1) flow.inflows shape.inflows.count inflow_rates (grown.curves_stand.inflows_end e l.0 l.1) trace there

  new_outflow_rates : HasSlopes new.outflows
  new_outflow_rates e trace there =
      let l = link_within net e (let n = outflows_count in let w = slice_get_within new.outflows e trace there in omega arith) in
      trace_rates e l.0 l.1 (λ (k : Link). k.head) (good.heads e l.0 l.1) flow.outflows shape.outflows.count outflow_rates (grown.description_stands.outflows_end e l.0 l.1) trace there

  pub Equilibrium-extended : Equilibrium net new
  Equilibrium-extended = Equilibrium-grown net (moved labels tail.slopes while) new good new_grown new_shape new_inflow_rates new_outflow_rates
