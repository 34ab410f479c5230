-- A curve with one more point.
use Rattle.std.proofs.Common.{◌≡◌, List, [], ◌∷◌, ◌++◌, Bool, true, false, sym, ap, subst, refl, ◌∙◌, Option, None}
use Rattle.std.specs.Option.{option_map_or}
use Rattle.nf_forever_laws.proofs.Common.{ℚ, 0ℚ, ◌+ℚ◌, ◌*ℚ◌, ◌<ℚ◌, ≤ℚ_of_same, not_both_ℚ, Point, slope, AreSlopes, Trace, LastPoint, GoesOnTo}
use Rattle.nf_forever_laws.proofs.Common.{GoesOnTo-appended, last_point, with_end, trace_with_end, last-append}
use Rattle.nf_rational.specs.Signs.{is_positive}
use Rattle.nf_phase_laws.proofs.StepValues.{positive_of, none_of}
use Rattle.nf_phase_laws.proofs.Traces.{later_by, same_point, TraceStep}
use Rattle.nf_phase_laws.proofs.Points.{AreSlopes-appended}

pub last_point-is : (points : List Point) (last : Point) → LastPoint points last → last_point points ≡ last
last_point-is points last l = ap last_point l.same ∙ ap (λ (o : Option Point). option_map_or (λ (p : Point). p) o (0ℚ, 0ℚ)) (last-append None l.front last)

pub AreSlopes-more : (points : List Point) (rates : List ℚ) (last new : Point) → LastPoint points last → AreSlopes points rates
    → AreSlopes (points ++ new ∷ []) (rates ++ slope (last_point points) new ∷ [])
AreSlopes-more points rates last new l are = subst (λ (ps : List Point). AreSlopes (ps ++ new ∷ []) (rates ++ slope (last_point points) new ∷ [])) (sym l.same)
    (AreSlopes-appended l.front last new rates (slope (last_point points) new) (subst (λ (ps : List Point). AreSlopes ps rates) l.same are)
    (ap (λ (p : Point). slope p new) (last_point-is points last l)))

-- ---- a curve with its rates
module _ (trace : Trace) (flow sl a y t label amount : ℚ) (are : AreSlopes trace.points trace.rates) (l : LastPoint trace.points (a, y)) (some : 0ℚ <ℚ t)
    (label_is : label ≡ a +ℚ sl *ℚ t) (amount_is : amount ≡ y +ℚ flow *ℚ t) where
  by : (b : Bool) → is_positive sl ≡ b → TraceStep trace.points (trace_with_end b trace (label, amount)) a y t flow sl
  by true h =
      let moves : 0ℚ <ℚ sl = positive_of sl h in
      let raw : ◌≡◌ {A = ℚ × ℚ} (label, amount) (a +ℚ sl *ℚ t, y +ℚ flow *ℚ t) = same_point _ _ _ _ label_is amount_is in
      record {
        goes = λ _. subst (λ (p : Point). GoesOnTo trace.points (trace.points ++ p ∷ []) (a, y) (a +ℚ sl *ℚ t, y +ℚ flow *ℚ t)) (sym raw)
            (GoesOnTo-appended trace.points (a, y) (a +ℚ sl *ℚ t, y +ℚ flow *ℚ t) l (later_by a sl t moves some));
        stays = λ e. absurd (not_both_ℚ 0ℚ sl moves (≤ℚ_of_same _ _ e));
        rates = AreSlopes-more trace.points trace.rates (a, y) (label, amount) l are;
      }
  by false h = record { goes = λ m. absurd (not_both_ℚ 0ℚ sl m (none_of sl h)); stays = λ _. refl; rates = are }

  pub TraceStep-last : TraceStep trace.points (trace_with_end (is_positive sl) trace (label, amount)) a y t flow sl
  TraceStep-last = by (is_positive sl) refl

-- ---- a curve without rates
pub record CurveStep (points after : List Point) (a y t sl size : ℚ) : Type 0 where
  pub goes : 0ℚ <ℚ sl → GoesOnTo points after (a, y) (a +ℚ sl *ℚ t, size)
  pub stays : sl ≡ 0ℚ → after ≡ points

module _ (points : List Point) (sl a y t label size amount : ℚ) (l : LastPoint points (a, y)) (some : 0ℚ <ℚ t) (label_is : label ≡ a +ℚ sl *ℚ t) (amount_is : amount ≡ size) where
  curve_by : (b : Bool) → is_positive sl ≡ b → CurveStep points (with_end b points (label, amount)) a y t sl size
  curve_by true h =
      let moves : 0ℚ <ℚ sl = positive_of sl h in
      record {
        goes = λ _. subst (λ (p : Point). GoesOnTo points (points ++ p ∷ []) (a, y) (a +ℚ sl *ℚ t, size)) (sym (same_point label (a +ℚ sl *ℚ t) amount size label_is amount_is))
            (GoesOnTo-appended points (a, y) (a +ℚ sl *ℚ t, size) l (later_by a sl t moves some));
        stays = λ e. absurd (not_both_ℚ 0ℚ sl moves (≤ℚ_of_same _ _ e));
      }
  curve_by false h = record { goes = λ m. absurd (not_both_ℚ 0ℚ sl m (none_of sl h)); stays = λ _. refl }

  pub CurveStep-last : CurveStep points (with_end (is_positive sl) points (label, amount)) a y t sl size
  CurveStep-last = curve_by (is_positive sl) refl
