-- The curves of a run end at the labels of the departure reached.
use Rattle.std.proofs.Common.{◌≡◌, ℕ, zero, suc, ◌+◌, ◌<◌, List, [], ◌∷◌, Bool, true, false, length, refl, sym, ap, ◌∙◌, subst, arith, inl, inr, ◌-◌, ◌⊎◌}
use Rattle.std.proofs.Common.{Option, Some, None, Result, Ok, Err, map, take, slice_get, unwrap_or}
use Rattle.nf_thin_laws.proofs.Common.{enumerate_from, none-some, same_Some, slice_get-map, ℚ, 0ℚ, ◌+ℚ◌, ◌*ℚ◌, ◌≤ℚ◌, ◌<ℚ◌, lt_ℚ, ≤ℚ_antisymm, ≤ℚ_of_same}
use Rattle.nf_thin_laws.proofs.Common.{nn_plus, lt_ℚ_cases, ring, reading, Passing, Checked, checked, each, at_part, ◌>>=◌, number_at, Hop, IsHop, IsWalk}
use Rattle.nf_thin_laws.proofs.Common.{transit_sum, transit_of, Link, Network, IsLink, IsNetwork, hop_of, hops, slacks_of, sets_at, Pattern, moved}
use Rattle.nf_thin_laws.proofs.Common.{AreStartLabels, extend_list, advance_list, last-append, term_of_zero, Part, Extend, Advance, Curve, Sum, Difference}
use Rattle.nf_thin_laws.proofs.Common.{Product, Quotient, Cause, is_positive, QueueStep, LinkStep, LinkPhase, rate_over, size_at, slope_at, queue_step}
use Rattle.nf_thin_laws.proofs.Common.{link_step, link_phase, GrowingCurve, LinkCurves, with_point, first_label_curve, first_trace, first_queue}
use Rattle.nf_thin_laws.proofs.Common.{first_curves, label_curves_after, trace_after, queue_curve_after, curves_after, link_curves_after, amount_so_far}
use Rattle.nf_thin_laws.proofs.Common.{Standing, Bounds, PhaseStep, IsStart, standing_after, Goes, Runs, at_horizon, at_phases, fails, goes, IsPhaseRun}
use Rattle.std.specs.Option.{option_map, option_map_or}
use Rattle.nf_rational_laws.proofs.Field.{rationals}
use Rattle.nf_model.specs.Curve.{Point}
use Rattle.nf_model.specs.Equilibrium.{Trace}
use Rattle.nf_thin_def.specs.CurveList.{curve_list}
use Rattle.nf_thin_def.specs.PhaseRun.{phase_lists}
use Rattle.nf_thin_laws.proofs.Exact.{advanced_exact}
use Rattle.nf_thin_def.specs.Ends.{time_of_last, EndsAtLabels}
use Rattle.nf_frac_def.proofs.Binding.{bind_ok}

-- ---- the last point

end-with_point : (goes : Bool) (points : List Point) (point : Point) → time_of_last (with_point goes points point) ≡ point.0
end-with_point true points point = ap (λ (o : Option Point). option_map_or (λ p. p.0) o 0ℚ) (last-append None (take (length points - 1) points) point)
end-with_point false points point = ap (λ (o : Option Point). option_map_or (λ p. p.0) o 0ℚ) (last-append None points point)

-- ---- entries of lists made of other lists
module _ {A B : Type 0} (f : A → B) where
  pub from_map : (xs : List A) (e : ℕ) (y : B) → slice_get (map f xs) e ≡ Some y → (x : A) × (slice_get xs e ≡ Some x) × (f x ≡ y)
  from_map [] e y h = absurd (none-some y h)
  from_map (x ∷ xs) zero y h = (x, refl, same_Some (f x) y h)
  from_map (x ∷ xs) (suc e) y h = from_map xs e y h

-- ---- the labels of departure 0 are not negative
module _ (net : Network) (is_network : IsNetwork net) where
  transit_is : (e : ℕ) (hop : Hop) → IsHop (hops net) e hop → transit_of (hops net) e ≡ hop.transit
  transit_is e hop h = ap (λ (o : Option ℚ). unwrap_or o 0ℚ) (slice_get-map (λ (k : Hop). k.transit) (hops net) e ∙ ap (option_map (λ (k : Hop). k.transit)) h)

  transit_nn : (e : ℕ) (hop : Hop) → IsHop (hops net) e hop → 0ℚ ≤ℚ transit_of (hops net) e
  transit_nn e hop h =
      let from = from_map hop_of net.links e hop h in
      subst (λ (t : ℚ). 0ℚ ≤ℚ t) (ap (λ (k : Hop). k.transit) from.2 ∙ sym (transit_is e hop h)) (is_network.transits e from.0 from.1)

  sum_nn : (walk : List ℕ) (v w : ℕ) → IsWalk (hops net) walk v w → 0ℚ ≤ℚ transit_sum (hops net) walk
  sum_nn [] v w h = ≤ℚ_of_same _ _ refl
  sum_nn (e ∷ walk) v w h = nn_plus _ _ (transit_nn e h.0 h.1) (sum_nn walk h.0.head w h.3)

  start_nn : (labels : List ℚ) → AreStartLabels net labels → (v : ℕ) → v < net.nodes → 0ℚ ≤ℚ number_at labels v
  start_nn labels h v below = let taken = (h.each v below).taken in subst (λ (t : ℚ). 0ℚ ≤ℚ t) taken.2 (sum_nn taken.0 net.source v taken.1)

  -- ---- the first points
  not_positive : (x : ℚ) → 0ℚ ≤ℚ x → is_positive x ≡ false → x ≡ 0ℚ
  not_positive x nn test = at (lt_ℚ_cases 0ℚ x)
    where
      at : ((lt_ℚ 0ℚ x ≡ true) × (0ℚ <ℚ x)) ⊎ ((lt_ℚ 0ℚ x ≡ false) × (x ≤ℚ 0ℚ)) → x ≡ 0ℚ
      at (inl h) = cc
      at (inr h) = ≤ℚ_antisymm x 0ℚ h.1 nn

  first_trace_end : (b : Bool) (label : ℚ) → 0ℚ ≤ℚ label → is_positive label ≡ b → time_of_last (first_trace b label).points ≡ label
  first_trace_end true label nn test = refl
  first_trace_end false label nn test = sym (not_positive label nn test)

  first_queue_end : (b : Bool) (label : ℚ) → 0ℚ ≤ℚ label → is_positive label ≡ b → time_of_last (first_queue b label).points ≡ label
  first_queue_end true label nn test = refl
  first_queue_end false label nn test = sym (not_positive label nn test)

  first_curves_are : (labels : List ℚ) (e : ℕ) (link : Link) (curves : LinkCurves) → IsLink net e link → slice_get (map (first_curves labels) net.links) e ≡ Some curves
      → first_curves labels link ≡ curves
  first_curves_are labels e link curves h k =
      let from = from_map (first_curves labels) net.links e curves k in
      ap (first_curves labels) (same_Some link from.0 (sym h ∙ from.1)) ∙ from.2

  start_ends : (s : Standing) → IsStart net s → EndsAtLabels net s
  start_ends s h = record {
    labels = λ v curve at. (let from = from_map first_label_curve s.labels v curve (ap (λ (l : List GrowingCurve). slice_get l v) (sym h.label_curves) ∙ at) in
        ap (λ (c : GrowingCurve). time_of_last c.points) (sym from.2) ∙ sym h.time);
    inflows = λ e link curves is_link at. (let are = first_curves_are s.labels e link curves is_link (ap (λ (l : List LinkCurves). slice_get l e) (sym h.link_curves) ∙ at) in
        ap (λ (c : LinkCurves). time_of_last c.inflow.points) (sym are)
        ∙ first_trace_end _ (number_at s.labels link.tail) (start_nn s.labels h.labels link.tail (is_network.tails e link is_link)) refl);
    outflows = λ e link curves is_link at. (let are = first_curves_are s.labels e link curves is_link (ap (λ (l : List LinkCurves). slice_get l e) (sym h.link_curves) ∙ at) in
        ap (λ (c : LinkCurves). time_of_last c.outflow.points) (sym are)
        ∙ first_trace_end _ (number_at s.labels link.head) (start_nn s.labels h.labels link.head (is_network.heads e link is_link)) refl);
    queues = λ e link curves is_link at. (let are = first_curves_are s.labels e link curves is_link (ap (λ (l : List LinkCurves). slice_get l e) (sym h.link_curves) ∙ at) in
        ap (λ (c : LinkCurves). time_of_last c.queue.points) (sym are)
        ∙ first_queue_end _ (number_at s.labels link.tail) (start_nn s.labels h.labels link.tail (is_network.tails e link is_link)) refl);
  }

-- ---- the steps of a computation that ends with a value

part_ok : {A : Type 0} (part : Part) (r : Checked A) (x : A) → at_part part r ≡ Ok x → r ≡ Ok x
part_ok part (Ok y) x h = cc
part_ok part (Err p) x h = cc

module _ {A B E : Type 0} (f : A → Result B E) where
  pub each_cons : (w : A) (xs : List A) (ys : List B) → each f (w ∷ xs) ≡ Ok ys → (z : B) × (zs : List B) × (f w ≡ Ok z) × (each f xs ≡ Ok zs) × (z ∷ zs ≡ ys)
  each_cons w xs ys h =
      let first = bind_ok (f w) (λ z. each f xs >>= λ zs. Ok (z ∷ zs)) ys h in
      let rest = bind_ok (each f xs) (λ zs. Ok (first.0 ∷ zs)) ys first.2 in
      let whole : first.0 ∷ rest.0 ≡ ys = (let e = rest.2 in cc) in
      (first.0, rest.0, first.1, rest.1, whole)

  each_at : (xs : List A) (ys : List B) → each f xs ≡ Ok ys → (e : ℕ) (x : A) (y : B) → slice_get xs e ≡ Some x → slice_get ys e ≡ Some y → f x ≡ Ok y
  each_at [] ys h e x y at_x at_y = absurd (none-some x at_x)
  each_at (w ∷ xs) ys h zero x y at_x at_y =
      let c = each_cons w xs ys h in
      ap f (sym (same_Some w x at_x)) ∙ (c.2 ∙ ap Ok (same_Some c.0 y (ap (λ (l : List B). slice_get l 0) c.4 ∙ at_y)))
  each_at (w ∷ xs) ys h (suc e) x y at_x at_y =
      let c = each_cons w xs ys h in
      each_at xs c.1 c.3 e x y at_x (ap (λ (l : List B). slice_get l (suc e)) c.4 ∙ at_y)

pub enumerated : {A : Type 0} (k : ℕ) (xs : List A) (e : ℕ) (x : A) → slice_get xs e ≡ Some x → slice_get (enumerate_from k xs) e ≡ Some (k + e, x)
enumerated k [] e x h = absurd (none-some x h)
enumerated k (y ∷ xs) zero x h = ap (λ (p : ℕ × _). Some p) (let e : k ≡ k + 0 = omega arith in ap (λ (i : ℕ). (i, y)) e ∙ ap (λ (z : _). (k + 0, z)) (same_Some y x h))
enumerated k (y ∷ xs) (suc e) x h = enumerated (k + 1) xs e x h ∙ ap (λ (i : ℕ). Some (i, x)) (let f : (k + 1) + e ≡ k + suc e = omega arith in f)

-- ---- the moved labels
pub number-moved : (labels slopes : List ℚ) (while : ℚ) (v : ℕ) → length slopes ≡ length labels
    → number_at (moved labels slopes while) v ≡ number_at labels v +ℚ while *ℚ number_at slopes v
number-moved [] [] while v count = ring rationals (while ∷ []) (search reading depth 30) tt
number-moved [] (r ∷ slopes) while v count = absurd (omega arith)
number-moved (x ∷ labels) [] while v count = absurd (omega arith)
number-moved (x ∷ labels) (r ∷ slopes) while zero count = refl
number-moved (x ∷ labels) (r ∷ slopes) while (suc v) count = number-moved labels slopes while v (omega arith)

pub length-moved : (labels slopes : List ℚ) (while : ℚ) → length slopes ≡ length labels → length (moved labels slopes while) ≡ length labels
length-moved [] [] while count = refl
length-moved [] (r ∷ slopes) while count = absurd (omega arith)
length-moved (x ∷ labels) [] while count = absurd (omega arith)
length-moved (x ∷ labels) (r ∷ slopes) while count = ap suc (length-moved labels slopes while (omega arith))

-- ---- the steps of the curve operations
module _ (passes : Passing) where
  no_rate : (moves : Bool) (flow slope : ℚ) → rate_over passes moves flow slope ≡ Ok None → moves ≡ false
  no_rate false flow slope h = refl
  no_rate true flow slope h = absurd (let q = bind_ok (checked passes Quotient flow slope) (λ rate. Ok (Some rate)) None h in let e = q.2 in cc)

  no_queue_step : (link : LinkPhase) (rate : Option ℚ) → queue_step passes link rate ≡ Ok None → rate ≡ None
  no_queue_step link None h = refl
  no_queue_step link (Some rate) h = absurd (
      let a = bind_ok (checked passes Sum link.tail_label link.transit) _ None h in
      let b = bind_ok (checked passes Difference link.head_label a.0) _ None a.2 in
      let c = bind_ok (size_at passes (is_positive b.0) link.capacity b.0) _ None b.2 in
      let d = bind_ok (slope_at passes link.filled link.capacity rate) _ None c.2 in
      let e = d.2 in cc)

  pub record StepParts (link : LinkPhase) (step : LinkStep) : Type 0 where
    pub inflow : rate_over passes (is_positive link.tail_slope) link.flow link.tail_slope ≡ Ok step.inflow_rate
    pub outflow : rate_over passes (is_positive link.head_slope) link.flow link.head_slope ≡ Ok step.outflow_rate
    pub queue : queue_step passes link step.inflow_rate ≡ Ok step.queue

  step_parts : (length so_far : ℚ) (link : LinkPhase) (step : LinkStep) → link_step passes length so_far link ≡ Ok step → StepParts link step
  step_parts length so_far link step h =
      let a = bind_ok (checked passes Product length link.flow) _ step h in
      let b = bind_ok (checked passes Sum so_far a.0) _ step a.2 in
      let c = bind_ok (rate_over passes (is_positive link.tail_slope) link.flow link.tail_slope) _ step b.2 in
      let d = bind_ok (rate_over passes (is_positive link.head_slope) link.flow link.head_slope) _ step c.2 in
      let e = bind_ok (queue_step passes link c.0) _ step d.2 in
      let same : record { amount = b.0; inflow_rate = c.0; outflow_rate = d.0; queue = e.0 } ≡ step = (let f = e.2 in cc) in
      record {
        inflow = c.1 ∙ ap (λ (t : LinkStep). Ok t.inflow_rate) same;
        outflow = d.1 ∙ ap (λ (t : LinkStep). Ok t.outflow_rate) same;
        queue = ap (λ (t : LinkStep). queue_step passes link t.inflow_rate) (sym same) ∙ (e.1 ∙ ap (λ (t : LinkStep). Ok t.queue) same);
      }

-- ---- one phase's points
trace_end : (trace : Trace) (label amount : ℚ) (rate : Option ℚ) → (rate ≡ None → time_of_last trace.points ≡ label) → time_of_last (trace_after trace label amount rate).points ≡ label
trace_end trace label amount None stands = stands refl
trace_end trace label amount (Some rate) stands = end-with_point _ trace.points (label, amount)

queue_end : (curve : GrowingCurve) (label : ℚ) (step : Option QueueStep) → (step ≡ None → time_of_last curve.points ≡ label) → time_of_last (queue_curve_after curve label step).points ≡ label
queue_end curve label None stands = stands refl
queue_end curve label (Some step) stands = end-with_point _ curve.points (label, step.size)

label_end : (time : ℚ) (labels slopes : List ℚ) (curves : List GrowingCurve) (v : ℕ) (curve : GrowingCurve)
    → slice_get (label_curves_after time labels slopes curves) v ≡ Some curve → time_of_last curve.points ≡ time
label_end time [] slopes curves v curve h = absurd (none-some curve h)
label_end time (x ∷ labels) [] curves v curve h = absurd (none-some curve h)
label_end time (x ∷ labels) (r ∷ slopes) [] v curve h = absurd (none-some curve h)
label_end time (x ∷ labels) (r ∷ slopes) (c ∷ curves) zero curve h =
    ap (λ (k : GrowingCurve). time_of_last k.points) (sym (same_Some _ curve h)) ∙ end-with_point _ c.points (time, x)
label_end time (x ∷ labels) (r ∷ slopes) (c ∷ curves) (suc v) curve h = label_end time labels slopes curves v curve h

-- The curves of a link after the phase, from those before the phase and the link's step.
pub record After (labels : List ℚ) (links : List Link) (curves : List LinkCurves) (steps : List LinkStep) (e : ℕ) (link : Link) (after : LinkCurves) : Type 0 where
  pub before : LinkCurves
  pub step : LinkStep
  pub at_before : slice_get curves e ≡ Some before
  pub at_step : slice_get steps e ≡ Some step
  pub is_after : curves_after labels link before step ≡ after

after_at : (labels : List ℚ) (links : List Link) (curves : List LinkCurves) (steps : List LinkStep) (e : ℕ) (link : Link) (after : LinkCurves)
    → slice_get links e ≡ Some link → slice_get (link_curves_after labels links curves steps) e ≡ Some after → After labels links curves steps e link after
after_at labels [] curves steps e link after h k = absurd (none-some link h)
after_at labels (l ∷ links) [] steps e link after h k = absurd (none-some after k)
after_at labels (l ∷ links) (c ∷ curves) [] e link after h k = absurd (none-some after k)
after_at labels (l ∷ links) (c ∷ curves) (t ∷ steps) zero link after h k =
    record { before = c; step = t; at_before = refl; at_step = refl; is_after = ap (λ (m : Link). curves_after labels m c t) (sym (same_Some l link h)) ∙ same_Some _ after k }
after_at labels (l ∷ links) (c ∷ curves) (t ∷ steps) (suc e) link after h k =
    let rest = after_at labels links curves steps e link after h k in
    record { before = rest.before; step = rest.step; at_before = rest.at_before; at_step = rest.at_step; is_after = rest.is_after }

-- ---- one phase
pub record Kept (net : Network) (s : Standing) : Type 0 where
  pub count : length s.labels ≡ net.nodes
  pub ends : EndsAtLabels net s

pub record PhaseParts (passes : Passing) (net : Network) (s : Standing) (pattern : Pattern) (flows slopes : List ℚ) (step : PhaseStep) : Type 0 where
  pub labels : step.labels ≡ moved s.labels slopes step.length
  pub links : curve_list passes net (sets_at net s.labels) pattern step.length flows slopes step.labels (map amount_so_far s.link_curves) ≡ Ok step.links

module _ (passes : Passing) (net : Network) (is_network : IsNetwork net) (horizon : ℚ) (patterns : ℕ) where
  parts_of_step : (s : Standing) (pattern : Pattern) (flows slopes : List ℚ) (step : PhaseStep) (while : ℚ) (labels : List ℚ) (links : List LinkStep)
      → record { length = while; labels = labels; links = links } ≡ step
      → labels ≡ moved s.labels slopes while → curve_list passes net (sets_at net s.labels) pattern while flows slopes labels (map amount_so_far s.link_curves) ≡ Ok links
      → PhaseParts passes net s pattern flows slopes step
  parts_of_step s pattern flows slopes step while labels links same h k =
      subst (λ (t : PhaseStep). PhaseParts passes net s pattern flows slopes t) same (record { labels = h; links = k })

  pub phase_parts : (s : Standing) (pattern : Pattern) (flows slopes : List ℚ) (step : PhaseStep) → length slopes ≡ length s.labels
      → phase_lists passes net horizon s pattern flows slopes ≡ Ok step
      → PhaseParts passes net s pattern flows slopes step
  unfolding phase_lists
  phase_parts s pattern flows slopes step count h =
      let a = bind_ok (at_part Extend (extend_list passes net (slacks_of (hops net) s.labels) slopes s.time)) _ step h in
      let b = bind_ok (at_part Advance (advance_list passes horizon s.time a.0 s.labels slopes)) _ step a.2 in
      let c = bind_ok (at_part Curve (curve_list passes net (sets_at net s.labels) pattern b.0.length flows slopes b.0.labels (map amount_so_far s.link_curves))) _ step b.2 in
      parts_of_step s pattern flows slopes step b.0.length b.0.labels c.0 (let f = c.2 in cc)
      (advanced_exact passes horizon s.time a.0 s.labels slopes b.0 count (part_ok Advance _ b.0 b.1)).1 (part_ok Curve _ c.0 c.1)

  step_at : (s : Standing) (pattern : Pattern) (flows slopes : List ℚ) (step : PhaseStep) → PhaseParts passes net s pattern flows slopes step → (e : ℕ) (link : Link) (one : LinkStep)
      → IsLink net e link → slice_get step.links e ≡ Some one → StepParts passes (link_phase (sets_at net s.labels) pattern flows slopes step.labels (0 + e, link)) one
  unfolding curve_list
  step_at s pattern flows slopes step parts e link one is_link at =
      step_parts passes _ _ _ one (each_at _ (enumerate_from 0 net.links) step.links parts.links e (0 + e, link) one (enumerated 0 net.links e link is_link) at)

  module _ (s : Standing) (kept : Kept net s) (pattern : Pattern) (flows slopes : List ℚ) (step : PhaseStep) (parts : PhaseParts passes net s pattern flows slopes step)
      (count : length slopes ≡ length s.labels) (no_negative : (v : ℕ) → 0ℚ ≤ℚ number_at slopes v) where
    stays_at : (v : ℕ) → is_positive (number_at slopes v) ≡ false → number_at s.labels v ≡ number_at step.labels v
    stays_at v test =
        term_of_zero (number_at s.labels v) step.length (number_at slopes v) (not_positive net is_network (number_at slopes v) (no_negative v) test)
        ∙ (sym (number-moved s.labels slopes step.length v count) ∙ ap (λ (l : List ℚ). number_at l v) (sym parts.labels))

    still_tail : (e : ℕ) (link : Link) (one : LinkStep) → IsLink net e link → slice_get step.links e ≡ Some one → one.inflow_rate ≡ None
        → number_at s.labels link.tail ≡ number_at step.labels link.tail
    still_tail e link one is_link at none =
        let facts = step_at s pattern flows slopes step parts e link one is_link at in
        stays_at link.tail (no_rate passes _ (number_at flows (0 + e)) (number_at slopes link.tail) (facts.inflow ∙ ap Ok none))

    still_head : (e : ℕ) (link : Link) (one : LinkStep) → IsLink net e link → slice_get step.links e ≡ Some one → one.outflow_rate ≡ None
        → number_at s.labels link.head ≡ number_at step.labels link.head
    still_head e link one is_link at none =
        let facts = step_at s pattern flows slopes step parts e link one is_link at in
        stays_at link.head (no_rate passes _ (number_at flows (0 + e)) (number_at slopes link.head) (facts.outflow ∙ ap Ok none))

    still_queue : (e : ℕ) (link : Link) (one : LinkStep) → IsLink net e link → slice_get step.links e ≡ Some one → one.queue ≡ None
        → number_at s.labels link.tail ≡ number_at step.labels link.tail
    still_queue e link one is_link at none =
        let facts = step_at s pattern flows slopes step parts e link one is_link at in
        still_tail e link one is_link at (no_queue_step passes (link_phase (sets_at net s.labels) pattern flows slopes step.labels (0 + e, link))
        one.inflow_rate (facts.queue ∙ ap Ok none))

    after_of : (e : ℕ) (link : Link) (curves : LinkCurves) → IsLink net e link → slice_get (link_curves_after step.labels net.links s.link_curves step.links) e ≡ Some curves
        → After step.labels net.links s.link_curves step.links e link curves
    after_of e link curves is_link at = after_at step.labels net.links s.link_curves step.links e link curves is_link at

    step_ends : EndsAtLabels net (standing_after net s pattern slopes step)
    step_ends = record {
      labels = λ v curve at. label_end (s.time +ℚ step.length) step.labels slopes s.label_curves v curve at;
      inflows = λ e link curves is_link at. (let a = after_of e link curves is_link at in
          ap (λ (c : LinkCurves). time_of_last c.inflow.points) (sym a.is_after)
          ∙ trace_end a.before.inflow (number_at step.labels link.tail) a.step.amount a.step.inflow_rate
          (λ none. kept.ends.inflows e link a.before is_link a.at_before ∙ still_tail e link a.step is_link a.at_step none));
      outflows = λ e link curves is_link at. (let a = after_of e link curves is_link at in
          ap (λ (c : LinkCurves). time_of_last c.outflow.points) (sym a.is_after)
          ∙ trace_end a.before.outflow (number_at step.labels link.head) a.step.amount a.step.outflow_rate
          (λ none. kept.ends.outflows e link a.before is_link a.at_before ∙ still_head e link a.step is_link a.at_step none));
      queues = λ e link curves is_link at. (let a = after_of e link curves is_link at in
          ap (λ (c : LinkCurves). time_of_last c.queue.points) (sym a.is_after)
          ∙ queue_end a.before.queue (number_at step.labels link.tail) a.step.queue
          (λ none. kept.ends.queues e link a.before is_link a.at_before ∙ still_queue e link a.step is_link a.at_step none));
    }

    step_count : length step.labels ≡ net.nodes
    step_count = ap length parts.labels ∙ (length-moved s.labels slopes step.length count ∙ kept.count)

  goes_kept : (s t : Standing) → Goes passes net horizon patterns s t → Kept net s → Kept net t
  goes_kept s t g kept =
      let solution = g.finds.search.is_search.answers.solution in
      let count : length g.slopes ≡ length s.labels = solution.solves.slope_count ∙ sym kept.count in
      let parts = phase_parts s g.pattern g.flows g.slopes g.step count g.lists in
      let after : Kept net (standing_after net s g.pattern g.slopes g.step) = record {
        count = step_count s kept g.pattern g.flows g.slopes g.step parts count solution.meets.no_negative_slope;
        ends = step_ends s kept g.pattern g.flows g.slopes g.step parts count solution.meets.no_negative_slope;
      } in
      subst (Kept net) (sym g.new_is) after

-- ---- the whole run
module _ (passes : Passing) (net : Network) (is_network : IsNetwork net) (bounds : Bounds) where
  run_kept : (s last : Standing) (stop : Option (Cause ℚ)) → Kept net s → Runs passes net bounds s last stop → Kept net last
  run_kept s last stop kept (at_horizon e) = kept
  run_kept s last stop kept (at_phases below e) = kept
  run_kept s last stop kept (fails may f) = kept
  run_kept s last stop kept (goes {new = t} may g rest) = run_kept t last stop (goes_kept passes net is_network bounds.horizon bounds.patterns s t g kept) rest

  pub run_ends : (last : Standing) (stop : Option (Cause ℚ)) → IsPhaseRun passes net bounds last stop → EndsAtLabels net last
  run_ends last stop h = (run_kept h.first last stop (record { count = h.start.labels.count; ends = start_ends net is_network h.first h.start }) h.runs).ends
