-- A run restored from an equilibrium that ends at its labels: its flow is the equilibrium, and its stored values are those of a run.
use Rattle.std.proofs.Common.{◌≡◌, ℕ, zero, suc, ◌<◌, List, [], ◌∷◌, ◌++◌, length, Option, Some, None, slice_get, unwrap_or, map, sym, ap, subst, refl, ◌∙◌, arith}
use Rattle.std.specs.Prelude.{Result, Ok}
use Rattle.std.specs.Option.{option_map_or}
use Rattle.nf_phase_equilibrium_laws.proofs.Common.{slice_get_within, same_Some, ℚ, 0ℚ, ◌≤ℚ◌, ≤ℚ_refl, Point, value, IsCurve, Link, Network, IsNetwork, IsLink}
use Rattle.nf_phase_equilibrium_laws.proofs.Common.{Trace, Flow, points_at, points_of, label, Equilibrium, EndsAt-value, LabelsAre}
use Rattle.std.proofs.lemmas.List.{length-map}
use Rattle.nf_rational_laws.proofs.Results.{same_Ok}
use Rattle.nf_rational_laws.proofs.Entries.{entry, last-append, slice_get-image}
use Rattle.nf_frac_def.specs.Passing.{Passing}
use Rattle.nf_frac_def.specs.Checked.{each}
use Rattle.nf_frac_def.proofs.Each.{each_length}
use Rattle.nf_model.specs.Pattern.{Pattern}
use Rattle.nf_thin_def.specs.ReportCurves.{GrowingCurve, LinkCurves}
use Rattle.nf_thin_def.specs.PhaseRun.{Standing, flow_of}
use Rattle.nf_thin_def.specs.Ends.{time_of_last}
use Rattle.nf_curve_def.specs.Lines.{checked_slope}
use Rattle.nf_curve_laws.proofs.Operations.{then_ok, checked_slope-is}
use Rattle.nf_phase_def.specs.Restoring.{value_at_end, link_curves_of, standing_of, last_slope, growing, EndsAtItsLabels}
use Rattle.nf_phase_laws.specs.CurveSteps.{LastPoint}
use Rattle.nf_phase_laws.specs.CurveRun.{curves_of}
use Rattle.nf_phase_laws.proofs.CurveRun.{Grown}
use Rattle.nf_phase_laws.proofs.Points.{EndsWithSlope, LastSlope, end-append}
use Rattle.nf_phase_laws.proofs.WellRun.{points_is, WellRun}
use Rattle.nf_phase_equilibrium_laws.proofs.Invariant.{HoldsUpTo-equilibrium, DescribesLinks-equilibrium}

-- ---- lists
pub each_back : {A B E : Type 0} (f : A → Result B E) (xs : List A) (ys : List B) (i : ℕ) (y : B) → each f xs ≡ Ok ys → slice_get ys i ≡ Some y → (x : A) × (f x ≡ Ok y)
each_back f [] ys i y e h = absurd (none_there ys i y (sym (same_Ok _ _ e)) h)
  where
    none_there : {B : Type 0} (ys : List B) (i : ℕ) (y : B) → ys ≡ [] → slice_get ys i ≡ Some y → ⊥
    none_there ys i y e h = cc
each_back {B = B} f (w ∷ xs) ys zero y e h =
    let k = then_ok (f w) _ ys e in
    let l = then_ok (each f xs) _ ys k.next in
    (w, k.first ∙ ap (λ (z : B). Ok z) (same_Some k.between y (ap (λ (z : List B). slice_get z 0) (same_Ok _ _ l.next) ∙ h)))
each_back {B = B} f (w ∷ xs) ys (suc i) y e h =
    let k = then_ok (f w) _ ys e in
    let l = then_ok (each f xs) _ ys k.next in
    each_back f xs l.between i y l.first (ap (λ (z : List B). slice_get z (suc i)) (same_Ok _ _ l.next) ∙ h)

each_map : {A B E : Type 0} (f : A → Result B E) (g : B → A) (xs : List A) (ys : List B) → ((x : A) (y : B) → f x ≡ Ok y → g y ≡ x) → each f xs ≡ Ok ys → map g ys ≡ xs
each_map f g [] ys h e = ap (map g) (sym (same_Ok [] ys e))
each_map {A = A} f g (w ∷ xs) ys h e =
    let k = then_ok (f w) _ ys e in
    let l = then_ok (each f xs) _ ys k.next in
    ap (map g) (sym (same_Ok _ _ l.next)) ∙ ap (λ (z : A). z ∷ map g l.between) (h w k.between k.first) ∙ ap (λ (z : List A). w ∷ z) (each_map f g xs l.between h l.first)

-- ---- the curves of links, list by list
links-inflow : (i o : List Trace) (q : List GrowingCurve) → length o ≡ length i → length q ≡ length i → map (λ (c : LinkCurves). c.inflow) (link_curves_of i o q) ≡ i
links-inflow [] o q h k = refl
links-inflow (x ∷ i) [] q h k = absurd (omega arith)
links-inflow (x ∷ i) (y ∷ o) [] h k = absurd (omega arith)
links-inflow (x ∷ i) (y ∷ o) (z ∷ q) h k = ap (λ (l : List Trace). x ∷ l) (links-inflow i o q (omega arith) (omega arith))

links-outflow : (i o : List Trace) (q : List GrowingCurve) → length o ≡ length i → length q ≡ length i → map (λ (c : LinkCurves). c.outflow) (link_curves_of i o q) ≡ o
links-outflow [] [] q h k = refl
links-outflow [] (y ∷ o) q h k = absurd (omega arith)
links-outflow (x ∷ i) [] q h k = absurd (omega arith)
links-outflow (x ∷ i) (y ∷ o) [] h k = absurd (omega arith)
links-outflow (x ∷ i) (y ∷ o) (z ∷ q) h k = ap (λ (l : List Trace). y ∷ l) (links-outflow i o q (omega arith) (omega arith))

pub links-queue : (i o : List Trace) (q : List GrowingCurve) → length o ≡ length i → length q ≡ length i → map (λ (c : LinkCurves). c.queue) (link_curves_of i o q) ≡ q
links-queue [] o [] h k = refl
links-queue [] o (z ∷ q) h k = absurd (omega arith)
links-queue (x ∷ i) [] q h k = absurd (omega arith)
links-queue (x ∷ i) (y ∷ o) [] h k = absurd (omega arith)
links-queue (x ∷ i) (y ∷ o) (z ∷ q) h k = ap (λ (l : List GrowingCurve). z ∷ l) (links-queue i o q (omega arith) (omega arith))

links-points : (i o : List Trace) (q : List GrowingCurve) → length o ≡ length i → length q ≡ length i
    → map (λ (c : LinkCurves). c.queue.points) (link_curves_of i o q) ≡ map (λ (c : GrowingCurve). c.points) q
links-points [] o [] h k = refl
links-points [] o (z ∷ q) h k = absurd (omega arith)
links-points (x ∷ i) [] q h k = absurd (omega arith)
links-points (x ∷ i) (y ∷ o) [] h k = absurd (omega arith)
links-points (x ∷ i) (y ∷ o) (z ∷ q) h k = ap (λ (l : List (List Point)). z.points ∷ l) (links-points i o q (omega arith) (omega arith))

links-length : (i o : List Trace) (q : List GrowingCurve) → length o ≡ length i → length q ≡ length i → length (link_curves_of i o q) ≡ length i
links-length [] o q h k = refl
links-length (x ∷ i) [] q h k = absurd (omega arith)
links-length (x ∷ i) (y ∷ o) [] h k = absurd (omega arith)
links-length (x ∷ i) (y ∷ o) (z ∷ q) h k = ap suc (links-length i o q (omega arith) (omega arith))

-- ---- the last point of a curve
point_is : (p : Point) (t y : ℚ) → p.0 ≡ t → p.1 ≡ y → p ≡ (t, y)
point_is p t y e f = λ i. (e i, f i)

last_of : (x : Point) (rest : List Point) → (p : Point) × (front : List Point) × (x ∷ rest ≡ front ++ p ∷ [])
last_of x [] = (x, [], refl)
last_of x (y ∷ rest) = let w = last_of y rest in (w.0, x ∷ w.1, ap (λ (l : List Point). x ∷ l) w.2)

pub LastPoint-end : (points : List Point) (last : ℚ) → IsCurve points → time_of_last points ≡ last → LastPoint points (last, value points last)
LastPoint-end [] last c e = absurd c
LastPoint-end (x ∷ rest) last c e =
    let w : (p : Point) × (front : List Point) × (x ∷ rest ≡ front ++ p ∷ []) = last_of x rest in
    let time : w.0.0 ≡ last = sym (ap time_of_last w.2 ∙ end-append w.1 w.0) ∙ e in
    let end : value (x ∷ rest) last ≡ w.0.1 =
    EndsAt-value (x ∷ rest) w.0 last (record { front = w.1; same = w.2; curve = c }) (subst (λ (z : ℚ). z ≤ℚ last) (sym time) (≤ℚ_refl last)) in
    record { front = w.1; same = w.2 ∙ ap (λ (p : Point). w.1 ++ p ∷ []) (point_is w.0 last (value (x ∷ rest) last) time (sym end)); curve = c }

pub value_at_end-is : (points : List Point) (last : Point) → LastPoint points last → value_at_end points ≡ last.1
value_at_end-is points last l = ap value_at_end l.same ∙ ap (λ (o : Option Point). option_map_or (λ (p : Point). p.1) o 0ℚ) (last-append None l.front last)

-- ---- an equilibrium that ends at its labels
module _ (net : Network) (flow : Flow) (good : IsNetwork net) (is : Equilibrium net flow) (ends : EndsAtItsLabels net flow) where
  pub inflow_count : length flow.inflows ≡ length net.links
  inflow_count = sym (length-map flow.inflows (λ (t : Trace). t.points)) ∙ is.shape.inflows.count

  pub outflow_count : length flow.outflows ≡ length net.links
  outflow_count = sym (length-map flow.outflows (λ (t : Trace). t.points)) ∙ is.shape.outflows.count

  within : (e : ℕ) (link : Link) → IsLink net e link → e < length net.links
  within e link p = slice_get_within net.links e link p

  label_ends : (v : ℕ) → v < net.nodes → LastPoint (points_at flow.labels v) (flow.reached, label flow v flow.reached)
  label_ends v h = LastPoint-end (points_at flow.labels v) flow.reached (is.shape.labels.each v h) (ends.labels v h)

  labels_are : LabelsAre net (label flow) flow.reached (map value_at_end flow.labels)
  labels_are v h =
      let x : (x : List Point) × (slice_get flow.labels v ≡ Some x) = entry flow.labels v (let c = is.shape.labels.count in omega arith) in
      sym (ap (λ (o : Option ℚ). unwrap_or o 0ℚ) (slice_get-image value_at_end flow.labels v x.0 x.1) ∙ ap value_at_end (sym (points_is flow.labels v x.0 x.1))
      ∙ value_at_end-is (points_at flow.labels v) (flow.reached, label flow v flow.reached) (label_ends v h))

  Grown-restored : Grown net flow.reached (map value_at_end flow.labels) (curves_of flow)
  Grown-restored = record {
    stands = record { holds = HoldsUpTo-equilibrium net flow good is; same = labels_are; count = length-map flow.labels value_at_end ∙ is.shape.labels.count };
    curves_stand = record {
      labels_end = label_ends;
      inflows_end = λ e link p. LastPoint-end (points_at (points_of flow.inflows) e) (label flow link.tail flow.reached)
          (is.shape.inflows.each e (within e link p)) (ends.inflows e link p);
    };
    describes = DescribesLinks-equilibrium net flow good is;
    description_stands = record {
      outflows_end = λ e link p. LastPoint-end (points_at (points_of flow.outflows) e) (label flow link.head flow.reached)
          (is.shape.outflows.each e (within e link p)) (ends.outflows e link p);
      queues_end = λ e link p. LastPoint-end (points_at flow.queues e) (label flow link.tail flow.reached) (is.shape.queues.each e (within e link p)) (ends.queues e link p);
    };
  }

-- ---- the slope of the last piece
module _ (passes : Passing) where
  pushed : (p : Point) (points : List Point) (r : ℚ) → EndsWithSlope points r → EndsWithSlope (p ∷ points) r
  pushed p points r w = record { front = p ∷ w.front; before = w.before; last = w.last; same = ap (λ (l : List Point). p ∷ l) w.same; slope_is = w.slope_is }

  pushed-slope : (p : Point) (points : List Point) (o : Option ℚ) → LastSlope points o → LastSlope (p ∷ points) o
  pushed-slope p points None w = tt
  pushed-slope p points (Some r) w = pushed p points r w

  last_slope-is : (points : List Point) (o : Option ℚ) → last_slope passes points ≡ Ok o → LastSlope points o
  last_slope-is [] o e = subst (λ (o : Option ℚ). LastSlope [] o) (same_Ok _ _ e) tt
  last_slope-is (p ∷ []) o e = subst (λ (o : Option ℚ). LastSlope (p ∷ []) o) (same_Ok _ _ e) tt
  last_slope-is (p ∷ q ∷ []) o e =
      let k = then_ok (checked_slope passes p q) _ o e in
      subst (λ (o : Option ℚ). LastSlope (p ∷ q ∷ []) o) (same_Ok _ _ k.next)
      (record { front = []; before = p; last = q; same = refl; slope_is = sym (checked_slope-is passes p q k.between k.first) })
  last_slope-is (p ∷ q ∷ s ∷ rest) o e = pushed-slope p (q ∷ s ∷ rest) o (last_slope-is (q ∷ s ∷ rest) o e)

  pub growing-points : (points : List Point) (c : GrowingCurve) → growing passes points ≡ Ok c → c.points ≡ points
  growing-points points c e = let k = then_ok (last_slope passes points) _ c e in ap (λ (c : GrowingCurve). c.points) (sym (same_Ok _ _ k.next))

  growing-slope : (points : List Point) (c : GrowingCurve) → growing passes points ≡ Ok c → LastSlope c.points c.slope
  growing-slope points c e =
      let k = then_ok (last_slope passes points) _ c e in
      subst (λ (c : GrowingCurve). LastSlope c.points c.slope) (same_Ok _ _ k.next) (last_slope-is points k.between k.first)

  module _ (net : Network) (flow : Flow) (last : Pattern) (good : IsNetwork net) (is : Equilibrium net flow) (ends : EndsAtItsLabels net flow) (label_curves queues : List GrowingCurve)
      (by_labels : each (growing passes) flow.labels ≡ Ok label_curves) (by_queues : each (growing passes) flow.queues ≡ Ok queues) where
    abbrev s : Standing
    s = standing_of flow last label_curves queues

    outflows_match : length flow.outflows ≡ length flow.inflows
    outflows_match = outflow_count net flow good is ends ∙ sym (inflow_count net flow good is ends)

    queues_match : length queues ≡ length flow.inflows
    queues_match = each_length (growing passes) flow.queues queues by_queues ∙ is.shape.queues.count ∙ sym (inflow_count net flow good is ends)

    same_labels : map (λ (c : GrowingCurve). c.points) label_curves ≡ flow.labels
    same_labels = each_map (growing passes) (λ (c : GrowingCurve). c.points) flow.labels label_curves growing-points by_labels

    same_inflows : map (λ (c : LinkCurves). c.inflow) s.link_curves ≡ flow.inflows
    same_inflows = links-inflow flow.inflows flow.outflows queues outflows_match queues_match

    same_outflows : map (λ (c : LinkCurves). c.outflow) s.link_curves ≡ flow.outflows
    same_outflows = links-outflow flow.inflows flow.outflows queues outflows_match queues_match

    same_queues : map (λ (c : LinkCurves). c.queue.points) s.link_curves ≡ flow.queues
    same_queues = links-points flow.inflows flow.outflows queues outflows_match queues_match
        ∙ each_map (growing passes) (λ (c : GrowingCurve). c.points) flow.queues queues growing-points by_queues

    -- the queue that restores a link's curve
    pub queue_of : (e : ℕ) (c : LinkCurves) → slice_get s.link_curves e ≡ Some c → (points : List Point) × (growing passes points ≡ Ok c.queue)
    queue_of e c h = each_back (growing passes) flow.queues queues e c.queue by_queues
        (ap (λ (l : List GrowingCurve). slice_get l e) (sym (links-queue flow.inflows flow.outflows queues outflows_match queues_match))
        ∙ slice_get-image (λ (c : LinkCurves). c.queue) s.link_curves e c h)

    pub flow-same : flow_of s ≡ flow
    flow-same = λ j. record { reached = flow.reached; labels = same_labels j; inflows = same_inflows j; outflows = same_outflows j; queues = same_queues j }

    pub WellRun-restored : WellRun net s
    WellRun-restored = record {
      grow = subst (λ (f : Flow). Grown net flow.reached (map value_at_end flow.labels) (curves_of f)) (sym flow-same) (Grown-restored net flow good is ends);
      label_count = each_length (growing passes) flow.labels label_curves by_labels ∙ is.shape.labels.count;
      link_count = links-length flow.inflows flow.outflows queues outflows_match queues_match ∙ inflow_count net flow good is ends;
      label_slopes = λ v c h. (let x = each_back (growing passes) flow.labels label_curves v c by_labels h in growing-slope x.0 c x.1);
      inflow_rates = λ e c h. is.inflow_rates e c.inflow (ap (λ (l : List Trace). slice_get l e) (sym same_inflows) ∙ slice_get-image (λ (c : LinkCurves). c.inflow) s.link_curves e c h);
      outflow_rates = λ e c h. is.outflow_rates e c.outflow (ap (λ (l : List Trace). slice_get l e) (sym same_outflows)
          ∙ slice_get-image (λ (c : LinkCurves). c.outflow) s.link_curves e c h);
      queue_slopes = λ e c h. (let x = queue_of e c h in growing-slope x.0 c.queue x.1);
    }
