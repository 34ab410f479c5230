-- Extensions of the curves of a run in a phase: a curve at a node is extended if the label of the node rises, and unchanged if it is
-- constant.
use Rattle.std.proofs.Common.{◌≡◌, List, [], ◌∷◌, Bool, true, false, sym, subst, refl, Option, None}
use Rattle.nf_phase_laws.proofs.Common.{last_or, ℚ, 0ℚ, ◌+ℚ◌, ◌-ℚ◌, ◌*ℚ◌, ◌/ℚ◌, ◌<ℚ◌, reading_of, ps_times, ≤ℚ_of_same, not_both_ℚ, lt, eq, eq_times}
use Rattle.nf_phase_laws.proofs.Common.{linear_lt, linear_eq, Point, AreSlopes, Trace, quotient-times, is_positive, LinkPhase, GrowingCurve, keeps_slope}
use Rattle.nf_phase_laws.proofs.Common.{with_point, with_rate, trace_after, queue_curve_after, queue_by_slack, LastPoint, GoesOnTo}
use Rattle.nf_phase_laws.proofs.Points.{slope_is, LastSlope, Went, went, AreSlopes-after}
use Rattle.nf_phase_laws.proofs.StepValues.{filled_slope, rate_value, queue_value, positive_of, none_of}

-- ---- from a last point to a new one, as they are written
pub later_by : (a l t : ℚ) → 0ℚ <ℚ l → 0ℚ <ℚ t → a <ℚ a +ℚ l *ℚ t
later_by a l t h k = let p : 0ℚ <ℚ l *ℚ t = ps_times l t h k in linear_lt (a ∷ l ∷ t ∷ []) (lt p ∷ []) (search reading_of) tt

rate_line : (a y l f t r : ℚ) → r *ℚ l ≡ f → r *ℚ ((a +ℚ l *ℚ t) -ℚ a) ≡ (y +ℚ f *ℚ t) -ℚ y
rate_line a y l f t r e = linear_eq (a ∷ y ∷ l ∷ f ∷ t ∷ r ∷ []) (eq_times t e ∷ []) (search reading_of) tt tt

size_line : (a y z l t r : ℚ) → r *ℚ (l *ℚ t) ≡ z -ℚ y → r *ℚ ((a +ℚ l *ℚ t) -ℚ a) ≡ z -ℚ y
size_line a y z l t r e = linear_eq (a ∷ y ∷ z ∷ l ∷ t ∷ r ∷ []) (eq e ∷ []) (search reading_of) tt tt

pub same_point : (a b y z : ℚ) → a ≡ b → y ≡ z → ◌≡◌ {A = ℚ × ℚ} (a, y) (b, z)
same_point a b y z e f = cc

pub went_to : (points known : List Point) (o : Option ℚ) (r : ℚ) (last new raw : Point) → points ≡ known → LastSlope known o → LastPoint points last → last.0 <ℚ new.0
    → r *ℚ (new.0 -ℚ last.0) ≡ new.1 -ℚ last.1 → raw ≡ new → Went points (with_point (keeps_slope o r) known raw) last new r
went_to points known o r last new raw e s l h k f =
    subst (λ (p : Point). Went points (with_point (keeps_slope o r) known p) last new r) (sym f)
    (subst (λ (ps : List Point). Went ps (with_point (keeps_slope o r) known new) last new r) (sym e)
    (went known last new r (subst (λ (ps : List Point). LastPoint ps last) e l) h (slope_is last new r h k) o s))

-- ---- a curve with its rates
pub record TraceStep (points : List Point) (after : Trace) (a y t flow sl : ℚ) : Type 0 where
  pub goes : 0ℚ <ℚ sl → GoesOnTo points after.points (a, y) (a +ℚ sl *ℚ t, y +ℚ flow *ℚ t)
  pub stays : sl ≡ 0ℚ → after.points ≡ points
  pub rates : AreSlopes after.points after.rates

module _ (trace : Trace) (flow sl : ℚ) (points : List Point) (a y t label amount : ℚ) (same : points ≡ trace.points)
    (are : AreSlopes trace.points trace.rates) (l : LastPoint points (a, y)) (some : 0ℚ <ℚ t)
    (label_is : label ≡ a +ℚ sl *ℚ t) (amount_is : amount ≡ y +ℚ flow *ℚ t) (last_slope : LastSlope trace.points (last_or None trace.rates)) where
  trace_by : (b : Bool) → is_positive sl ≡ b → TraceStep points (trace_after trace label amount (rate_value b flow sl)) a y t flow sl
  trace_by true h =
      let moves : 0ℚ <ℚ sl = positive_of sl h in
      let later : a <ℚ a +ℚ sl *ℚ t = later_by a sl t moves some in
      let times : flow /ℚ sl *ℚ ((a +ℚ sl *ℚ t) -ℚ a) ≡ (y +ℚ flow *ℚ t) -ℚ y = rate_line a y sl flow t (flow /ℚ sl) (quotient-times flow sl moves) in
      let raw : ◌≡◌ {A = ℚ × ℚ} (label, amount) (a +ℚ sl *ℚ t, y +ℚ flow *ℚ t) = same_point _ _ _ _ label_is amount_is in
      let w : Went points (with_point (keeps_slope (last_or None trace.rates) (flow /ℚ sl)) trace.points (label, amount)) (a, y) (a +ℚ sl *ℚ t, y +ℚ flow *ℚ t) (flow /ℚ sl) =
      went_to points trace.points (last_or None trace.rates) (flow /ℚ sl) (a, y) (a +ℚ sl *ℚ t, y +ℚ flow *ℚ t) (label, amount) same last_slope l later times raw in
      record {
        goes = λ _. w.goes;
        stays = λ e. absurd (not_both_ℚ 0ℚ sl moves (≤ℚ_of_same _ _ e));
        rates = subst (λ (p : Point). AreSlopes (with_point (keeps_slope (last_or None trace.rates) (flow /ℚ sl)) trace.points p)
            (with_rate (keeps_slope (last_or None trace.rates) (flow /ℚ sl)) trace.rates (flow /ℚ sl))) (sym raw)
            (AreSlopes-after trace.points trace.rates (a, y) (a +ℚ sl *ℚ t, y +ℚ flow *ℚ t) (flow /ℚ sl) (subst (λ (ps : List Point). LastPoint ps (a, y)) same l) later
            (slope_is (a, y) (a +ℚ sl *ℚ t, y +ℚ flow *ℚ t) (flow /ℚ sl) later times) are);
      }
  trace_by false h = record { goes = λ m. absurd (not_both_ℚ 0ℚ sl m (none_of sl h)); stays = λ _. sym same; rates = are }

  pub TraceStep-after : TraceStep points (trace_after trace label amount (rate_value (is_positive sl) flow sl)) a y t flow sl
  TraceStep-after = trace_by (is_positive sl) refl

-- ---- a queue
pub record QueueStepped (points : List Point) (after : GrowingCurve) (a y t sl size : ℚ) : Type 0 where
  pub goes : 0ℚ <ℚ sl → GoesOnTo points after.points (a, y) (a +ℚ sl *ℚ t, size)
  pub stays : sl ≡ 0ℚ → after.points ≡ points
  pub slopes : LastSlope after.points after.slope

module _ (curve : GrowingCurve) (link : LinkPhase) (flow sl : ℚ) (points : List Point) (a y t label size : ℚ) (same : points ≡ curve.points)
    (last_slope : LastSlope curve.points curve.slope)
    (l : LastPoint points (a, y)) (some : 0ℚ <ℚ t) (label_is : label ≡ a +ℚ sl *ℚ t)
    (size_is : queue_by_slack link.capacity (link.head_label -ℚ (link.tail_label +ℚ link.transit)) ≡ size)
    (times : 0ℚ <ℚ sl → filled_slope link.filled link.capacity (flow /ℚ sl) *ℚ (sl *ℚ t) ≡ size -ℚ y) where
  queue_by : (b : Bool) → is_positive sl ≡ b → QueueStepped points (queue_curve_after curve label (queue_value link (rate_value b flow sl))) a y t sl size
  queue_by true h =
      let moves : 0ℚ <ℚ sl = positive_of sl h in
      let w = went_to points curve.points curve.slope (filled_slope link.filled link.capacity (flow /ℚ sl)) (a, y) (a +ℚ sl *ℚ t, size)
      (label, queue_by_slack link.capacity (link.head_label -ℚ (link.tail_label +ℚ link.transit))) same last_slope l (later_by a sl t moves some)
      (size_line a y size sl t (filled_slope link.filled link.capacity (flow /ℚ sl)) (times moves)) (same_point _ _ _ _ label_is size_is) in
      record { goes = λ _. w.goes; stays = λ e. absurd (not_both_ℚ 0ℚ sl moves (≤ℚ_of_same _ _ e)); slopes = w.slopes }
  queue_by false h = record { goes = λ m. absurd (not_both_ℚ 0ℚ sl m (none_of sl h)); stays = λ _. sym same; slopes = last_slope }

  pub QueueStepped-after : QueueStepped points (queue_curve_after curve label (queue_value link (rate_value (is_positive sl) flow sl))) a y t sl size
  QueueStepped-after = queue_by (is_positive sl) refl
