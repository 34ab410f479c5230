-- Properties of the curves of a run in every state; they hold at the start.
use Rattle.std.proofs.Common.{◌≡◌, ℕ, ◌<◌, List, [], ◌∷◌, length, get_or, if◌then◌else◌, Bool, true, false, sym, ap, subst, refl, ◌∙◌, arith, Option, Some}
use Rattle.std.proofs.Common.{slice_get, unwrap_or}
use Rattle.nf_phase_laws.proofs.Common.{slice_get-get_or, ℚ, 0ℚ, ◌-ℚ◌, ◌*ℚ◌, ◌<ℚ◌, reading_of, linear_eq, number_at, Point, slope, AreSlopes, IsNetwork}
use Rattle.nf_phase_laws.proofs.Common.{Link, Network, IsLink, Pattern, Trace, points_at, points_of, is_positive, GrowingCurve, LinkCurves}
use Rattle.nf_phase_laws.proofs.Common.{first_label_curve, first_trace, first_queue, first_curves, from_map, FirstCurves, GrowByPhases, begin, curves_of}
use Rattle.nf_phase_laws.proofs.Common.{slice_get-image, length-map, Standing, IsStart, flow_of}
use Rattle.nf_phase_laws.proofs.CurveRun.{Grown, grown_by}
use Rattle.nf_phase_laws.proofs.Points.{slope_is, LastSlope}
use Rattle.nf_phase_laws.proofs.StepValues.{positive_of}

-- ---- entries
pub number_is : (xs : List ℚ) (v : ℕ) → v < length xs → slice_get xs v ≡ Some (number_at xs v)
number_is xs v h =
    let e : slice_get xs v ≡ Some (get_or xs v 0ℚ) = slice_get-get_or xs v 0ℚ h in
    e ∙ ap (λ (x : ℚ). Some x) (sym (ap (λ (o : Option ℚ). unwrap_or o 0ℚ) e))

pub points_is : (curves : List (List Point)) (i : ℕ) (points : List Point) → slice_get curves i ≡ Some points → points_at curves i ≡ points
points_is curves i points h = ap (λ (o : Option (List Point)). unwrap_or o []) h

-- ---- the curves of a run state's flow
module _ (s : Standing) where
  pub label_points : (v : ℕ) (c : GrowingCurve) → slice_get s.label_curves v ≡ Some c → points_at (flow_of s).labels v ≡ c.points
  label_points v c h = points_is (flow_of s).labels v c.points (slice_get-image (λ (c : GrowingCurve). c.points) s.label_curves v c h)

  pub inflow_points : (e : ℕ) (c : LinkCurves) → slice_get s.link_curves e ≡ Some c → points_at (points_of (flow_of s).inflows) e ≡ c.inflow.points
  inflow_points e c h = points_is (points_of (flow_of s).inflows) e c.inflow.points
      (slice_get-image (λ (t : Trace). t.points) (flow_of s).inflows e c.inflow (slice_get-image (λ (c : LinkCurves). c.inflow) s.link_curves e c h))

  pub outflow_points : (e : ℕ) (c : LinkCurves) → slice_get s.link_curves e ≡ Some c → points_at (points_of (flow_of s).outflows) e ≡ c.outflow.points
  outflow_points e c h = points_is (points_of (flow_of s).outflows) e c.outflow.points
      (slice_get-image (λ (t : Trace). t.points) (flow_of s).outflows e c.outflow (slice_get-image (λ (c : LinkCurves). c.outflow) s.link_curves e c h))

  pub queue_points : (e : ℕ) (c : LinkCurves) → slice_get s.link_curves e ≡ Some c → points_at (flow_of s).queues e ≡ c.queue.points
  queue_points e c h = points_is (flow_of s).queues e c.queue.points (slice_get-image (λ (c : LinkCurves). c.queue.points) s.link_curves e c h)

-- ---- the properties
pub record WellRun (net : Network) (s : Standing) : Type 0 where
  pub grow : Grown net s.time s.labels (curves_of (flow_of s))
  pub label_count : length s.label_curves ≡ net.nodes
  pub link_count : length s.link_curves ≡ length net.links
  pub label_slopes : (v : ℕ) (c : GrowingCurve) → slice_get s.label_curves v ≡ Some c → LastSlope c.points c.slope
  pub inflow_rates : (e : ℕ) (c : LinkCurves) → slice_get s.link_curves e ≡ Some c → AreSlopes c.inflow.points c.inflow.rates
  pub outflow_rates : (e : ℕ) (c : LinkCurves) → slice_get s.link_curves e ≡ Some c → AreSlopes c.outflow.points c.outflow.rates
  pub queue_slopes : (e : ℕ) (c : LinkCurves) → slice_get s.link_curves e ≡ Some c → LastSlope c.queue.points c.queue.slope

-- The number of phases and the last pattern do not matter.
pub WellRun-counted : (net : Network) (s : Standing) (made : ℕ) (last : Pattern) → WellRun net s → WellRun net (record s { made = made; last = last })
WellRun-counted net s made last w =
    record {
      grow = w.grow;
      label_count = w.label_count;
      link_count = w.link_count;
      label_slopes = w.label_slopes;
      inflow_rates =
          w.inflow_rates;
      outflow_rates = w.outflow_rates;
      queue_slopes = w.queue_slopes;
    }

-- ---- the start
flat : (l : ℚ) → 0ℚ *ℚ (l -ℚ 0ℚ) ≡ 0ℚ -ℚ 0ℚ
flat l = linear_eq (l ∷ []) [] (search reading_of) tt tt

level : (l : ℚ) → 0ℚ <ℚ l → slope (0ℚ, 0ℚ) (l, 0ℚ) ≡ 0ℚ
level l h = slope_is (0ℚ, 0ℚ) (l, 0ℚ) 0ℚ h (flat l)

first_rates : (b : Bool) (l : ℚ) → is_positive l ≡ b → AreSlopes (first_trace b l).points (first_trace b l).rates
first_rates true l h = (sym (level l (positive_of l h)), tt)
first_rates false l h = tt

first_slope : (b : Bool) (l : ℚ) → is_positive l ≡ b → LastSlope (first_queue b l).points (first_queue b l).slope
first_slope true l h = record { front = []; before = (0ℚ, 0ℚ); last = (l, 0ℚ); same = refl; slope_is = level l (positive_of l h) }
first_slope false l h = tt

trace_points : (b : Bool) (l : ℚ) → (first_trace b l).points ≡ (if b then (0ℚ, 0ℚ) ∷ (l, 0ℚ) ∷ [] else (0ℚ, 0ℚ) ∷ [])
trace_points true l = refl
trace_points false l = refl

queue_first : (b : Bool) (l : ℚ) → (first_queue b l).points ≡ (if b then (0ℚ, 0ℚ) ∷ (l, 0ℚ) ∷ [] else (0ℚ, 0ℚ) ∷ [])
queue_first true l = refl
queue_first false l = refl

module _ (net : Network) (good : IsNetwork net) (s : Standing) (h : IsStart net s) where
  link_entry : (e : ℕ) (link : Link) → IsLink net e link → slice_get s.link_curves e ≡ Some (first_curves s.labels link)
  link_entry e link p = ap (λ (l : List LinkCurves). slice_get l e) h.link_curves ∙ slice_get-image (first_curves s.labels) net.links e link p

  label_entry : (v : ℕ) → v < net.nodes → slice_get s.label_curves v ≡ Some (first_label_curve (number_at s.labels v))
  label_entry v k = ap (λ (l : List GrowingCurve). slice_get l v) h.label_curves
      ∙ slice_get-image first_label_curve s.labels v (number_at s.labels v) (number_is s.labels v (let c = h.labels.count in omega arith))

  first : FirstCurves net s.labels (curves_of (flow_of s))
  first = record {
    label_curves = λ v k. label_points s v (first_label_curve (number_at s.labels v)) (label_entry v k);
    inflows = λ e link p. inflow_points s e (first_curves s.labels link) (link_entry e link p) ∙ trace_points (is_positive (number_at s.labels link.tail)) (number_at s.labels link.tail);
    outflows = λ e link p. outflow_points s e (first_curves s.labels link) (link_entry e link p)
        ∙ trace_points (is_positive (number_at s.labels link.head)) (number_at s.labels link.head);
    queues = λ e link p. queue_points s e (first_curves s.labels link) (link_entry e link p) ∙ queue_first (is_positive (number_at s.labels link.tail)) (number_at s.labels link.tail);
  }

  module _ (e : ℕ) (c : LinkCurves) (at : slice_get s.link_curves e ≡ Some c) where
    from : (link : Link) × (slice_get net.links e ≡ Some link) × (first_curves s.labels link ≡ c)
    from = from_map (first_curves s.labels) net.links e c (ap (λ (l : List LinkCurves). slice_get l e) (sym h.link_curves) ∙ at)

    by_first : (P : LinkCurves → Type 0) → ((link : Link) → P (first_curves s.labels link)) → P c
    by_first P f = subst P from.2 (f from.0)

  pub GrowByPhases-start : GrowByPhases net s.time s.labels (curves_of (flow_of s))
  GrowByPhases-start = subst (λ (t : ℚ). GrowByPhases net t s.labels (curves_of (flow_of s))) (sym h.time) (begin s.labels (curves_of (flow_of s)) h.labels first)

  pub WellRun-start : WellRun net s
  WellRun-start = record {
    grow = grown_by net s.time s.labels (curves_of (flow_of s)) good GrowByPhases-start;
    label_count = ap length h.label_curves ∙ length-map s.labels first_label_curve ∙ h.labels.count;
    link_count = ap length h.link_curves ∙ length-map net.links (first_curves s.labels);
    label_slopes = λ v c at. (let w = from_map first_label_curve s.labels v c (ap (λ (l : List GrowingCurve). slice_get l v) (sym h.label_curves) ∙ at) in
        subst (λ (c : GrowingCurve). LastSlope c.points c.slope) w.2 tt);
    inflow_rates = λ e c at. by_first e c at (λ c. AreSlopes c.inflow.points c.inflow.rates)
        (λ link. first_rates (is_positive (number_at s.labels link.tail)) (number_at s.labels link.tail) refl);
    outflow_rates = λ e c at. by_first e c at (λ c. AreSlopes c.outflow.points c.outflow.rates)
        (λ link. first_rates (is_positive (number_at s.labels link.head)) (number_at s.labels link.head) refl);
    queue_slopes = λ e c at. by_first e c at (λ c. LastSlope c.queue.points c.queue.slope)
        (λ link. first_slope (is_positive (number_at s.labels link.tail)) (number_at s.labels link.tail) refl);
  }
