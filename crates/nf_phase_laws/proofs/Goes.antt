-- One phase of a run preserves the properties of its curves.
use Rattle.std.proofs.Common.{◌≡◌, ℕ, ◌<◌, List, [], ◌∷◌, length, sym, ap, subst, refl, ◌∙◌, arith, Option, Some, None, map, slice_get, unwrap_or}
use Rattle.nf_phase_laws.proofs.Common.{last_or, option_map_or, same_Some, slice_get_within, ℚ, 0ℚ, ◌+ℚ◌, ◌-ℚ◌, ◌*ℚ◌, ◌/ℚ◌, ◌<ℚ◌, reading_of, eq, linear_eq}
use Rattle.nf_phase_laws.proofs.Common.{Passing, number_at, Point, Within, AreSlopes, Trace, is_positive, Link, Network, IsNetwork, IsLink, hop_of, hops}
use Rattle.nf_phase_laws.proofs.Common.{rate_at, slack, slacks_of, sets_at, IsThinFlow, Pattern, IsListedIn, Solves, Meets, slack_after, Lasts}
use Rattle.nf_phase_laws.proofs.Common.{IsPhaseLength, IsPhase, EndsAt-value, slack_at, slack_after-moved, LinkStep, LinkPhase, link_phase, GrowingCurve}
use Rattle.nf_phase_laws.proofs.Common.{LinkCurves, curve_with, curves_after, amount_so_far, trace_after, Standing, PhaseStep, standing_after, flow_of}
use Rattle.nf_phase_laws.proofs.Common.{link_slack, queue_by_slack, LastPoint, GoesOnTo, at, CurvesGoOn, DescriptionCurvesGoOn, Curves, GrowByPhases, grow}
use Rattle.nf_phase_laws.proofs.Common.{curves_of, last-append, slice_get-image, entry, ≤ℚ_refl, later_by, number-moved, PhaseParts, AreSets-sets_at}
use Rattle.nf_thin_laws.proofs.Ending.{length-moved}
use Rattle.nf_thin_laws.proofs.Accepted.{IsThinFlow-accepted}
use Rattle.nf_phase_laws.proofs.Holds.{sent-is}
use Rattle.nf_phase_laws.proofs.Thin.{slack-is}
use Rattle.nf_phase_laws.proofs.Phases.{Lasts-phase}
use Rattle.nf_phase_laws.proofs.Length.{IsPhaseLength-some}
use Rattle.nf_phase_laws.proofs.CurveSteps.{ends_at}
use Rattle.nf_phase_laws.proofs.CurveRun.{Grown, Grown-after}
use Rattle.nf_phase_laws.proofs.Points.{LastSlope, LastSlope-rates, Went}
use Rattle.nf_phase_laws.proofs.StepValues.{filled_slope, rate_value, step_value, step_value_at, steps-length}
use Rattle.nf_phase_laws.proofs.Filled.{queue_slope, Filled-at}
use Rattle.nf_phase_laws.proofs.Traces.{same_point, went_to, TraceStep, TraceStep-after, QueueStepped, QueueStepped-after}
use Rattle.nf_phase_laws.proofs.AfterPhase.{label_after_at, label_after-length, link_after_at, link_after-length}
use Rattle.nf_phase_laws.proofs.WellRun.{number_is, label_points, inflow_points, outflow_points, queue_points, WellRun}

-- ---- the amount that has entered a link so far
end_amount : (c : LinkCurves) (last : Point) → LastPoint c.inflow.points last → amount_so_far c ≡ last.1
end_amount c last l =
    ap (λ (ps : List Point). option_map_or (λ (p : Point). p.1) (last_or None ps) 0ℚ) l.same
    ∙ ap (λ (o : Option Point). option_map_or (λ (p : Point). p.1) o 0ℚ) (last-append None l.front last)

turn_label : (a b t l : ℚ) → b ≡ a → a +ℚ t *ℚ l ≡ b +ℚ l *ℚ t
turn_label a b t l e = linear_eq (a ∷ b ∷ t ∷ l ∷ []) (eq e ∷ []) (search reading_of) tt tt

time_line : (a y t r : ℚ) → r *ℚ ((a +ℚ t) -ℚ a) ≡ (y +ℚ r *ℚ t) -ℚ y
time_line a y t r = linear_eq (a ∷ y ∷ t ∷ r ∷ []) [] (search reading_of) tt tt

module _ (passes : Passing) (net : Network) (good : IsNetwork net) (horizon : ℚ) (s : Standing) (pattern : Pattern) (flows slopes : List ℚ) (step : PhaseStep)
    (well : WellRun net s) (below : s.time <ℚ horizon) (listed : IsListedIn net (sets_at net s.labels) pattern)
    (solves : Solves net (sets_at net s.labels) (rate_at net s.time) pattern flows slopes) (meets : Meets net pattern flows slopes)
    (parts : PhaseParts passes net s pattern flows slopes step) (is_length : IsPhaseLength net (slacks_of (hops net) s.labels) slopes s.time horizon step.length) where
  abbrev new : Standing
  new = standing_after net s pattern slopes step

  abbrev curves : Curves
  curves = curves_of (flow_of s)

  abbrev curves' : Curves
  curves' = curves_of (flow_of new)

  pub thin : IsThinFlow net (sets_at net s.labels) (rate_at net s.time) flows slopes
  thin = IsThinFlow-accepted net (sets_at net s.labels) (rate_at net s.time) pattern flows slopes good (AreSets-sets_at net s.labels) listed.states listed.entered solves meets

  abbrev pub phase : IsPhase net horizon (s.time, s.labels) (new.time, new.labels)
  phase = record { before = below; flows = flows; slopes = slopes; thin = thin; length = step.length; is_length = is_length; time = refl; labels = parts.labels }

  grown : Grown net s.time s.labels curves
  grown = well.grow

  some : 0ℚ <ℚ step.length
  some = IsPhaseLength-some net (slacks_of (hops net) s.labels) slopes s.time horizon step.length below is_length

  lasts : Lasts net (slacks_of (hops net) s.labels) slopes s.time step.length
  lasts = Lasts-phase net (slacks_of (hops net) s.labels) slopes s.time horizon step.length below is_length

  count : length slopes ≡ length s.labels
  count = solves.slope_count ∙ sym grown.stands.count

  now : Within 0ℚ s.time s.time
  now = (grown.stands.holds.begun, ≤ℚ_refl s.time)

  new_count : length step.labels ≡ net.nodes
  new_count = ap length parts.labels ∙ length-moved s.labels slopes step.length count ∙ grown.stands.count

  abbrev label_now : ℕ → ℚ
  label_now v = at curves.labels v s.time

  moved_is : (v : ℕ) → v < net.nodes → number_at step.labels v ≡ label_now v +ℚ number_at slopes v *ℚ step.length
  moved_is v h = ap (λ (l : List ℚ). number_at l v) parts.labels ∙ number-moved s.labels slopes step.length v count
      ∙ turn_label (number_at s.labels v) (label_now v) step.length (number_at slopes v) (grown.stands.same v h)

  -- ---- labels
  module _ (v : ℕ) (h : v < net.nodes) where
    label_found : (c : GrowingCurve) × (slice_get s.label_curves v ≡ Some c)
    label_found = entry s.label_curves v (let n = well.label_count in omega arith)

    abbrev label_new : GrowingCurve → GrowingCurve
    label_new c = curve_with c (s.time +ℚ step.length, number_at step.labels v) (number_at slopes v)

    label_after : (c : GrowingCurve) → slice_get s.label_curves v ≡ Some c → slice_get new.label_curves v ≡ Some (label_new c)
    label_after c here = label_after_at (s.time +ℚ step.length) step.labels slopes s.label_curves v (number_at step.labels v) (number_at slopes v) c
        (number_is step.labels v (let n = new_count in omega arith)) (number_is slopes v (let n = solves.slope_count in omega arith)) here

    label_went : (c : GrowingCurve) → slice_get s.label_curves v ≡ Some c
        → Went (curves.labels v) (label_new c).points (s.time, label_now v) (s.time +ℚ step.length, label_now v +ℚ number_at slopes v *ℚ step.length) (number_at slopes v)
    label_went c here = went_to (curves.labels v) c.points c.slope (number_at slopes v) (s.time, label_now v) (s.time +ℚ step.length, label_now v +ℚ number_at slopes v *ℚ step.length)
        (s.time +ℚ step.length, number_at step.labels v) (label_points s v c here) (well.label_slopes v c here) (grown.curves_stand.labels_end v h)
        (later_by s.time step.length some) (time_line s.time (label_now v) step.length (number_at slopes v)) (same_point _ _ _ _ refl (moved_is v h))

    label_goes : GoesOnTo (curves.labels v) (curves'.labels v) (s.time, label_now v) (s.time +ℚ step.length, label_now v +ℚ number_at slopes v *ℚ step.length)
    label_goes = subst (λ (ps : List Point). GoesOnTo (curves.labels v) ps (s.time, label_now v) (s.time +ℚ step.length, label_now v +ℚ number_at slopes v *ℚ step.length))
        (sym (label_points new v (label_new label_found.0) (label_after label_found.0 label_found.1))) (label_went label_found.0 label_found.1).goes

    new_at : at curves'.labels v (s.time +ℚ step.length) ≡ number_at step.labels v
    new_at = EndsAt-value (curves'.labels v) (s.time +ℚ step.length, label_now v +ℚ number_at slopes v *ℚ step.length) (s.time +ℚ step.length)
        (ends_at (curves'.labels v) (s.time +ℚ step.length, label_now v +ℚ number_at slopes v *ℚ step.length) label_goes.ends) (≤ℚ_refl (s.time +ℚ step.length)) ∙ sym (moved_is v h)

  -- ---- links
  abbrev amount_before : ℕ → ℚ
  amount_before e = number_at (map amount_so_far s.link_curves) e

  abbrev read : ℕ → Link → LinkPhase
  read e link = link_phase (sets_at net s.labels) pattern flows slopes step.labels (e, link)

  abbrev one : ℕ → Link → LinkStep
  one e link = step_value step.length (amount_before e) (read e link)

  abbrev link_new : ℕ → Link → LinkCurves → LinkCurves
  link_new e link c = curves_after step.labels link c (one e link)

  abbrev next_size : ℕ → Link → ℚ
  next_size e link = queue_by_slack link.capacity (link_slack (at curves'.labels) link (s.time +ℚ step.length))

  module _ (e : ℕ) (link : Link) (p : IsLink net e link) (c : LinkCurves) (here : slice_get s.link_curves e ≡ Some c) where
    link_after : slice_get new.link_curves e ≡ Some (link_new e link c)
    link_after = link_after_at step.labels net.links s.link_curves step.links e link c (one e link) p here
        (step_value_at passes net (sets_at net s.labels) pattern step.length flows slopes step.labels (map amount_so_far s.link_curves) step.links parts.links e link p)

    tail_in : link.tail < net.nodes
    tail_in = good.tails e link p

    head_in : link.head < net.nodes
    head_in = good.heads e link p

    abbrev sent_now : ℚ
    sent_now = at curves.inflows e (label_now link.tail)

    so_far : amount_before e ≡ sent_now
    so_far = ap (λ (o : Option ℚ). unwrap_or o 0ℚ) (slice_get-image amount_so_far s.link_curves e c here)
        ∙ end_amount c (label_now link.tail, sent_now) (subst (λ (ps : List Point). LastPoint ps (label_now link.tail, sent_now)) (inflow_points s e c here)
        (grown.curves_stand.inflows_end e link p))

    amount_is : (y : ℚ) → y ≡ sent_now → amount_before e +ℚ step.length *ℚ number_at flows e ≡ y +ℚ number_at flows e *ℚ step.length
    amount_is y k = turn_label (amount_before e) y step.length (number_at flows e) (k ∙ sym so_far)

    -- a trace at an end of the link: the inflow at the tail, or the outflow at the head
    trace_step : (trace : Trace) (v : ℕ) (points : List Point) (y : ℚ) → v < net.nodes → points ≡ trace.points → AreSlopes trace.points trace.rates
        → LastPoint points (label_now v, y) → y ≡ sent_now
        → TraceStep points (trace_after trace (number_at step.labels v) (one e link).amount (rate_value (is_positive (number_at slopes v)) (number_at flows e) (number_at slopes v)))
        (label_now v) y step.length (number_at flows e) (number_at slopes v)
    trace_step trace v points y below same rates last is = TraceStep-after trace (number_at flows e) (number_at slopes v) points (label_now v) y step.length
        (number_at step.labels v) (one e link).amount
        same rates last some (moved_is v below) (amount_is y is) (LastSlope-rates trace.points trace.rates rates)

    inflow_step : TraceStep (curves.inflows e) (link_new e link c).inflow (label_now link.tail) sent_now step.length (number_at flows e) (number_at slopes link.tail)
    inflow_step = trace_step c.inflow link.tail (curves.inflows e) sent_now tail_in (inflow_points s e c here) (well.inflow_rates e c here) (grown.curves_stand.inflows_end e link p) refl

    abbrev out_now : ℚ
    out_now = at curves.outflows e (label_now link.head)

    out_is : out_now ≡ sent_now
    out_is = grown.describes.outflows e link s.time p now ∙ sent-is net (at curves.inflows) (at curves.labels) e link s.time p

    outflow_step : TraceStep (curves.outflows e) (link_new e link c).outflow (label_now link.head) out_now step.length (number_at flows e) (number_at slopes link.head)
    outflow_step = trace_step c.outflow link.head (curves.outflows e) out_now head_in (outflow_points s e c here) (well.outflow_rates e c here)
        (grown.description_stands.outflows_end e link p) out_is

    -- the queue
    abbrev queue_now : ℚ
    queue_now = at curves.queues e (label_now link.tail)

    abbrev before : ℚ
    before = number_at (slacks_of (hops net) s.labels) e

    abbrev after : ℚ
    after = slack_after (slacks_of (hops net) s.labels) slopes e link step.length

    queue_before : queue_by_slack link.capacity before ≡ queue_now
    queue_before = ap (queue_by_slack link.capacity) (slack_at net s.labels e link p
        ∙ slack-is net (at curves.inflows) (at curves.labels) s.time s.labels good grown.stands.holds grown.stands.same e link p)
        ∙ sym (grown.describes.queues e link s.time p now)

    abbrev read_slack : ℚ
    read_slack = number_at step.labels link.head -ℚ (number_at step.labels link.tail +ℚ link.transit)

    size_read : queue_by_slack link.capacity read_slack ≡ next_size e link
    size_read = ap (λ (x : ℚ). queue_by_slack link.capacity (x -ℚ (number_at step.labels link.tail +ℚ link.transit))) (sym (new_at link.head head_in))
        ∙ ap (λ (x : ℚ). queue_by_slack link.capacity (at curves'.labels link.head (s.time +ℚ step.length) -ℚ (x +ℚ link.transit))) (sym (new_at link.tail tail_in))

    after_read : after ≡ read_slack
    after_read = slack_after-moved net s.labels slopes e link step.length p (sym count) ∙ ap (λ (l : List ℚ). slack l (hop_of link)) (sym parts.labels)

    queue_times : 0ℚ <ℚ number_at slopes link.tail
        → filled_slope (read e link).filled link.capacity (number_at flows e /ℚ number_at slopes link.tail) *ℚ (number_at slopes link.tail *ℚ step.length) ≡ next_size e link -ℚ queue_now
    queue_times moves =
        queue_slope link.capacity before after (number_at flows e) (number_at slopes link.tail) (number_at slopes link.head) step.length (read e link).filled
        (Filled-at net s.labels (rate_at net s.time) s.time step.length pattern flows slopes listed.states solves meets lasts e link p) refl moves
        ∙ ap (λ (y : ℚ). y -ℚ queue_by_slack link.capacity before) (ap (queue_by_slack link.capacity) after_read ∙ size_read)
        ∙ ap (λ (y : ℚ). next_size e link -ℚ y) queue_before

    queue_step : QueueStepped (curves.queues e) (link_new e link c).queue (label_now link.tail) queue_now step.length (number_at slopes link.tail) (next_size e link)
    queue_step = QueueStepped-after c.queue (read e link) (number_at flows e) (number_at slopes link.tail) (curves.queues e)
        (label_now link.tail) queue_now step.length (number_at step.labels link.tail) (next_size e link)
        (queue_points s e c here) (well.queue_slopes e c here) (grown.description_stands.queues_end e link p) some (moved_is link.tail tail_in) size_read queue_times

    inflow_new : curves'.inflows e ≡ (link_new e link c).inflow.points
    inflow_new = inflow_points new e (link_new e link c) link_after

    outflow_new : curves'.outflows e ≡ (link_new e link c).outflow.points
    outflow_new = outflow_points new e (link_new e link c) link_after

    queue_new : curves'.queues e ≡ (link_new e link c).queue.points
    queue_new = queue_points new e (link_new e link c) link_after

  link_found : (e : ℕ) (link : Link) → IsLink net e link → (c : LinkCurves) × (slice_get s.link_curves e ≡ Some c)
  link_found e link p = entry s.link_curves e (let n = well.link_count in let k = slice_get_within net.links e link p in omega arith)

  pub curves_go : CurvesGoOn net curves.inflows curves.labels s.time step.length (number_at flows) (number_at slopes) curves'.inflows curves'.labels
  curves_go = record {
    labels_go = label_goes;
    inflows_go = λ e link p moves. (let f = link_found e link p in
        subst (λ (ps : List Point). GoesOnTo (curves.inflows e) ps (label_now link.tail, at curves.inflows e (label_now link.tail))
        (label_now link.tail +ℚ number_at slopes link.tail *ℚ step.length, at curves.inflows e (label_now link.tail) +ℚ number_at flows e *ℚ step.length))
        (sym (inflow_new e link p f.0 f.1)) ((inflow_step e link p f.0 f.1).goes moves));
    inflows_stay = λ e link p still. (let f = link_found e link p in inflow_new e link p f.0 f.1 ∙ (inflow_step e link p f.0 f.1).stays still);
  }

  pub description_goes : DescriptionCurvesGoOn net (at curves.labels) (at curves'.labels) curves.outflows curves.queues s.time step.length (number_at flows)
      (number_at slopes) curves'.outflows curves'.queues
  description_goes = record {
    outflows_go = λ e link p moves. (let f = link_found e link p in
        subst (λ (ps : List Point). GoesOnTo (curves.outflows e) ps (label_now link.head, at curves.outflows e (label_now link.head))
        (label_now link.head +ℚ number_at slopes link.head *ℚ step.length, at curves.outflows e (label_now link.head) +ℚ number_at flows e *ℚ step.length))
        (sym (outflow_new e link p f.0 f.1)) ((outflow_step e link p f.0 f.1).goes moves));
    outflows_stay = λ e link p still. (let f = link_found e link p in outflow_new e link p f.0 f.1 ∙ (outflow_step e link p f.0 f.1).stays still);
    queues_go = λ e link p moves. (let f = link_found e link p in
        subst (λ (ps : List Point). GoesOnTo (curves.queues e) ps (label_now link.tail, at curves.queues e (label_now link.tail))
        (label_now link.tail +ℚ number_at slopes link.tail *ℚ step.length, next_size e link))
        (sym (queue_new e link p f.0 f.1)) ((queue_step e link p f.0 f.1).goes moves));
    queues_stay = λ e link p still. (let f = link_found e link p in queue_new e link p f.0 f.1 ∙ (queue_step e link p f.0 f.1).stays still);
  }

  -- ---- all properties
  label_length : length new.label_curves ≡ net.nodes
  label_length = label_after-length (s.time +ℚ step.length) step.labels slopes s.label_curves net.nodes new_count solves.slope_count well.label_count

  link_length : length new.link_curves ≡ length net.links
  link_length = link_after-length step.labels net.links s.link_curves step.links well.link_count
      (steps-length passes net (sets_at net s.labels) pattern step.length flows slopes step.labels (map amount_so_far s.link_curves) step.links parts.links)

  new_label_slope : (v : ℕ) (k : GrowingCurve) → slice_get new.label_curves v ≡ Some k → LastSlope k.points k.slope
  new_label_slope v k there =
      let inside : v < net.nodes = (let n = label_length in let w = slice_get_within new.label_curves v k there in omega arith) in
      let f = label_found v inside in
      subst (λ (k : GrowingCurve). LastSlope k.points k.slope) (same_Some _ k (sym (label_after v inside f.0 f.1) ∙ there)) (label_went v inside f.0 f.1).slopes

  by_new : (P : LinkCurves → Type 0) → ((e : ℕ) (link : Link) (p : IsLink net e link) (c : LinkCurves) (here : slice_get s.link_curves e ≡ Some c) → P (link_new e link c))
      → (e : ℕ) (k : LinkCurves) → slice_get new.link_curves e ≡ Some k → P k
  by_new P f e k there =
      let l = entry net.links e (let n = link_length in let w = slice_get_within new.link_curves e k there in omega arith) in
      let c = link_found e l.0 l.1 in
      subst P (same_Some _ k (sym (link_after e l.0 l.1 c.0 c.1) ∙ there)) (f e l.0 l.1 c.0 c.1)

  pub GrowByPhases-after : GrowByPhases net s.time s.labels curves → GrowByPhases net new.time new.labels curves'
  GrowByPhases-after earlier = grow horizon s.time (s.time +ℚ step.length) s.labels step.labels curves curves' phase earlier curves_go description_goes

  pub WellRun-after : WellRun net (standing_after net s pattern slopes step)
  WellRun-after = record {
    grow = Grown-after net good horizon s.time (s.time +ℚ step.length) s.labels step.labels curves curves' phase well.grow curves_go description_goes;
    label_count = label_length;
    link_count = link_length;
    label_slopes = new_label_slope;
    inflow_rates = by_new (λ c. AreSlopes c.inflow.points c.inflow.rates) (λ e link p c here. (inflow_step e link p c here).rates);
    outflow_rates = by_new (λ c. AreSlopes c.outflow.points c.outflow.rates) (λ e link p c here. (outflow_step e link p c here).rates);
    queue_slopes = by_new (λ c. LastSlope c.queue.points c.queue.slope) (λ e link p c here. (queue_step e link p c here).slopes);
  }
