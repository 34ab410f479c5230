-- An extension of a growing curve by a point.
use Rattle.std.proofs.Common.{◌≡◌, ℕ, zero, suc, ◌+◌, ◌-◌, List, [], ◌∷◌, ◌++◌, length, Bool, true, false, refl, sym, ap, subst, ◌∙◌, inl, inr, arith, ◌⊎◌}
use Rattle.std.proofs.Common.{Option, Some, None, slice_get}
use Rattle.nf_phase_curves.proofs.Common.{last_or, slice_get_within, option_map_or, option_to_list, ℚ, 0ℚ, ◌≤ℚ◌, ◌<ℚ◌, lt_ℚ, Point, Trace, GrowingCurve}
use Rattle.nf_phase_curves.proofs.Common.{keeps_slope, with_point, with_rate, curve_with, trace_with, time_of_last, same_of_test, last_time, End, points_to}
use Rattle.nf_phase_curves.proofs.Common.{corners_by, IsAfter, AreBefore, rates_by, end_value, last-append}
use Rattle.nf_rational_laws.proofs.Tests.{lt_ℚ_cases}
use Rattle.nf_phase_laws.proofs.Points.{end-append}
use Rattle.nf_rational_laws.proofs.Chains.{<ℚ_trans}

-- ---- the last point
last_time-end : (points : List Point) → last_time points ≡ time_of_last points
last_time-end [] = refl
last_time-end (p ∷ []) = refl
last_time-end (p ∷ q ∷ rest) = last_time-end (q ∷ rest)

pub value-append : (points : List Point) (p : Point) → p.1 ≡ end_value (points ++ p ∷ [])
value-append points p = sym (ap (λ (o : Option Point). option_map_or (λ q. q.1) o 0ℚ) (last-append None points p))

pub value_at_last : (points : List Point) (p : Point) → slice_get points (length points - 1) ≡ Some p → p.1 ≡ end_value points
value_at_last points p h =
    let some = slice_get_within points (length points - 1) p h in
    sym (ap (λ (o : Option Point). option_map_or (λ q. q.1) o 0ℚ) (last_at None points (length points - 1) p h (omega arith)))
  where
    last_at : (o : Option Point) (points : List Point) (k : ℕ) (p : Point) → slice_get points k ≡ Some p → length points ≡ k + 1 → last_or o points ≡ Some p
    last_at o [] k p h e = absurd (omega arith)
    last_at o (x ∷ []) zero p h e = h
    last_at o (x ∷ []) (suc k) p h e = absurd (omega arith)
    last_at o (x ∷ y ∷ rest) zero p h e = absurd (omega arith)
    last_at o (x ∷ y ∷ rest) (suc k) p h e = last_at (Some x) (y ∷ rest) k p h (omega arith)

-- ---- a new end

pub still_after : (kept : Bool) (corners : List Point) (end : Option End) (time : ℚ) → IsAfter corners end → time_of_last (points_to corners end) <ℚ time
    → last_time (corners_by kept corners end) <ℚ time
still_after true corners None time after later = subst (λ (t : ℚ). t <ℚ time) (sym (last_time-end corners)) later
still_after true corners (Some e) time after later = <ℚ_trans _ e.time time after (subst (λ (t : ℚ). t <ℚ time) (end-append corners (e.time, e.value)) later)
still_after false corners end time after later = subst (λ (t : ℚ). t <ℚ time) (sym (last_time-end (points_to corners end))) later

-- ---- a new rate
last_rate : (rates : List ℚ) (last : Option ℚ) → AreBefore rates last → last_or None (rates ++ option_to_list last) ≡ last
last_rate rates None none = ap (λ (l : List ℚ). last_or None (l ++ [])) none
last_rate rates (Some rate) some = last-append None rates rate

rates-with : (kept : Bool) (rates : List ℚ) (last : Option ℚ) (rate : ℚ) → kept ≡ keeps_slope last rate
    → rates_by kept rates last ++ rate ∷ [] ≡ with_rate kept (rates ++ option_to_list last) rate
rates-with true rates None rate e = cc
rates-with true rates (Some before) rate e = ap (λ (r : ℚ). rates ++ r ∷ []) (sym (same_of_test before rate (sym e)))
rates-with false rates last rate e = refl

pub trace-with : (kept : Bool) (rates new : List ℚ) (curve after : GrowingCurve) (rate : ℚ) (p : Point) → AreBefore rates curve.slope
    → kept ≡ keeps_slope curve.slope rate → new ≡ rates_by kept rates curve.slope
    → after ≡ curve_with curve p rate
    → ◌≡◌ {A = Trace} (record { points = after.points; rates = new ++ option_to_list after.slope })
    (trace_with (record { points = curve.points; rates = rates ++ option_to_list curve.slope }) p rate)
trace-with kept rates new curve after rate p before e made is =
    ap (λ (c : GrowingCurve). record { points = c.points; rates = new ++ option_to_list c.slope }) is
    ∙ ap (λ (l : List ℚ). record { points = with_point (keeps_slope curve.slope rate) curve.points p; rates = l })
    (ap (λ (l : List ℚ). l ++ rate ∷ []) made ∙ rates-with kept rates curve.slope rate e ∙ ap (λ (b : Bool). with_rate b (rates ++ option_to_list curve.slope) rate) e)
    ∙ ap (λ (o : Option ℚ). record {
      points = with_point (keeps_slope o rate) curve.points p;
      rates =
          with_rate (keeps_slope o rate) (rates ++ option_to_list curve.slope) rate;
    }) (sym (last_rate rates curve.slope before))

-- ---- the first point of a curve at a node
pub after_zero : (points : List Point) (value origin label : ℚ) (before : Bool) → points ≡ (0ℚ, value) ∷ [] → before ≡ lt_ℚ origin label → origin ≡ 0ℚ
    → before ≡ true → last_time points <ℚ label
after_zero points value origin label before is test none t = subst (λ (l : List Point). last_time l <ℚ label) (sym is) (below (lt_ℚ_cases 0ℚ label))
  where
    tested : lt_ℚ 0ℚ label ≡ true
    tested = ap (λ (x : ℚ). lt_ℚ x label) (sym none) ∙ sym test ∙ t

    below : ((lt_ℚ 0ℚ label ≡ true) × (0ℚ <ℚ label)) ⊎ ((lt_ℚ 0ℚ label ≡ false) × (label ≤ℚ 0ℚ)) → 0ℚ <ℚ label
    below (inl h) = h.1
    below (inr h) = let e = tested in cc
