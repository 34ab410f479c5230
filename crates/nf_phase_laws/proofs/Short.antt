-- Curves in short form stay in short form when extended by a point: no inner point has equal slopes on both sides.
use Rattle.std.proofs.Common.{◌≡◌, List, [], ◌∷◌, ◌++◌, length, Bool, true, false, sym, ap, subst, refl, ◌∙◌, append_assoc, ◌-◌, Option, Some, None, take}
use Rattle.nf_phase_laws.proofs.Common.{last_or, same_Some, ℚ, Point, slope, AreSlopes, IsShort, Trace, is_same, GrowingCurve, keeps_slope, with_point}
use Rattle.nf_phase_laws.proofs.Common.{with_rate, curve_with, trace_with, trace_after, queue_curve_after, QueueStep, last-append, false≢true, same_of_test}
use Rattle.nf_phase_laws.proofs.Common.{is_same-itself}
use Rattle.nf_phase_laws.proofs.Points.{taken, EndsWithSlope, LastSlope, LastSlope-rates}

-- ---- the slope of the last two points
abbrev last_slope : List Point → Option ℚ
last_slope [] = None
last_slope (p ∷ []) = None
last_slope (p ∷ q ∷ []) = Some (slope p q)
last_slope (p ∷ q ∷ s ∷ rest) = last_slope (q ∷ s ∷ rest)

last_slope-at : (front : List Point) (before last : Point) → last_slope (front ++ before ∷ last ∷ []) ≡ Some (slope before last)
last_slope-at [] before last = refl
last_slope-at (p ∷ []) before last = refl
last_slope-at (p ∷ q ∷ []) before last = refl
last_slope-at (p ∷ q ∷ s ∷ front) before last = last_slope-at (q ∷ s ∷ front) before last

ended_by : (points : List Point) (r : ℚ) (front : List Point) (before last : Point) → EndsWithSlope points r → points ≡ front ++ before ∷ last ∷ [] → slope before last ≡ r
ended_by points r front before last ends same =
    same_Some (slope before last) r (sym (last_slope-at front before last) ∙ ap last_slope (sym same ∙ ends.same)
    ∙ last_slope-at ends.front ends.before ends.last ∙ ap (λ (x : ℚ). Some x) ends.slope_is)

-- ---- a point after the last, and one that replaces it
IsShort-appended : (front : List Point) (before last new : Point) → IsShort (front ++ before ∷ last ∷ []) → (slope before last ≡ slope last new → ⊥)
    → IsShort (front ++ before ∷ last ∷ new ∷ [])
IsShort-appended [] before last new h other = (other, tt)
IsShort-appended (p ∷ []) before last new h other = (h.0, IsShort-appended [] before last new h.1 other)
IsShort-appended (p ∷ q ∷ []) before last new h other = (h.0, IsShort-appended (q ∷ []) before last new h.1 other)
IsShort-appended (p ∷ q ∷ s ∷ front) before last new h other = (h.0, IsShort-appended (q ∷ s ∷ front) before last new h.1 other)

IsShort-replaced : (front : List Point) (before last new : Point) → IsShort (front ++ before ∷ last ∷ []) → slope before last ≡ slope before new → IsShort (front ++ before ∷ new ∷ [])
IsShort-replaced [] before last new h e = tt
IsShort-replaced (p ∷ []) before last new h e = (λ f. h.0 (f ∙ sym e), tt)
IsShort-replaced (p ∷ q ∷ []) before last new h e = (h.0, IsShort-replaced (q ∷ []) before last new h.1 e)
IsShort-replaced (p ∷ q ∷ s ∷ front) before last new h e = (h.0, IsShort-replaced (q ∷ s ∷ front) before last new h.1 e)

-- ---- other slopes by the test

differ_of_test : (x y : ℚ) → is_same x y ≡ false → x ≡ y → ⊥
differ_of_test x y h e = false≢true (sym h ∙ ap (is_same x) (sym e) ∙ is_same-itself x)

-- ---- extension of a curve with the slope of its last piece
-- If no slope is recorded, the curve has one point only.
abbrev pub HasOnePoint : List Point → Option ℚ → Type 0
HasOnePoint points None = (p : Point) × (points ≡ p ∷ [])
HasOnePoint points (Some r) = Unit {0}

module _ (points : List Point) (new : Point) (b r : ℚ) (s : EndsWithSlope points b) (short : IsShort points) where
  abbrev here : IsShort (s.front ++ s.before ∷ s.last ∷ [])
  here = subst IsShort s.same short

  short_by : (same : Bool) → is_same b r ≡ same → EndsWithSlope (with_point same points new) r → IsShort (with_point same points new)
  short_by true e ends =
      let f : take (length points - 1) points ++ new ∷ [] ≡ s.front ++ s.before ∷ new ∷ [] =
      ap (λ (ps : List Point). take (length ps - 1) ps ++ new ∷ []) s.same ∙ taken s.front s.before s.last new in
      subst IsShort (sym f) (IsShort-replaced s.front s.before s.last new here (s.slope_is ∙ same_of_test b r e ∙ sym (ended_by _ r s.front s.before new ends f)))
  short_by false e ends =
      let f : points ++ new ∷ [] ≡ s.front ++ s.before ∷ s.last ∷ new ∷ [] = ap (λ (ps : List Point). ps ++ new ∷ []) s.same ∙ append_assoc s.front (s.before ∷ s.last ∷ []) (new ∷ []) in
      let g : slope s.last new ≡ r = ended_by _ r (s.front ++ s.before ∷ []) s.last new ends (f ∙ sym (append_assoc s.front (s.before ∷ []) (s.last ∷ new ∷ []))) in
      subst IsShort (sym f) (IsShort-appended s.front s.before s.last new here (λ h. differ_of_test b r e (sym s.slope_is ∙ h ∙ g)))

pub IsShort-after : (points : List Point) (o : Option ℚ) (new : Point) (r : ℚ) → LastSlope points o → HasOnePoint points o → IsShort points
    → EndsWithSlope (with_point (keeps_slope o r) points new) r
    → IsShort (with_point (keeps_slope o r) points new)
IsShort-after points None new r s one short ends = subst (λ (ps : List Point). IsShort (ps ++ new ∷ [])) (sym one.1) tt
IsShort-after points (Some b) new r s one short ends = short_by points new b r s short (is_same b r) refl ends

-- ---- a curve with the recorded slope
pub record IsShortCurve (curve : GrowingCurve) : Type 0 where
  pub short : IsShort curve.points
  pub one : HasOnePoint curve.points curve.slope

pub IsShortCurve-with : (curve : GrowingCurve) (new : Point) (r : ℚ) → LastSlope curve.points curve.slope → IsShortCurve curve
    → LastSlope (curve_with curve new r).points (curve_with curve new r).slope
    → IsShortCurve (curve_with curve new r)
IsShortCurve-with curve new r s is ends = record { short = IsShort-after curve.points curve.slope new r s is.one is.short ends; one = tt }

pub IsShortCurve-queue : (curve : GrowingCurve) (label : ℚ) (step : Option QueueStep) → LastSlope curve.points curve.slope → IsShortCurve curve
    → LastSlope (queue_curve_after curve label step).points (queue_curve_after curve label step).slope → IsShortCurve (queue_curve_after curve label step)
IsShortCurve-queue curve label None s is ends = is
IsShortCurve-queue curve label (Some step) s is ends = IsShortCurve-with curve (label, step.size) step.slope s is ends

-- ---- a curve with its rates
some_last : (points : List Point) (rate : ℚ) (rates : List ℚ) → HasOnePoint points (last_or (Some rate) rates)
some_last points rate [] = tt
some_last points rate (x ∷ rates) = some_last points x rates

HasOnePoint-rates : (points : List Point) (rates : List ℚ) → AreSlopes points rates → HasOnePoint points (last_or None rates)
HasOnePoint-rates [] rates h = absurd h
HasOnePoint-rates (p ∷ []) [] h = (p, refl)
HasOnePoint-rates (p ∷ []) (x ∷ rates) h = absurd h
HasOnePoint-rates (p ∷ q ∷ rest) [] h = absurd h
HasOnePoint-rates (p ∷ q ∷ rest) (x ∷ rates) h = some_last (p ∷ q ∷ rest) x rates

last_is : (o : Option ℚ) (r : ℚ) → keeps_slope o r ≡ true → o ≡ Some r
last_is None r e = absurd (false≢true e)
last_is (Some b) r e = ap (λ (x : ℚ). Some x) (same_of_test b r e)

with_rate-last : (b : Bool) (rates : List ℚ) (r : ℚ) → keeps_slope (last_or None rates) r ≡ b → last_or None (with_rate b rates r) ≡ Some r
with_rate-last true rates r e = last_is (last_or None rates) r e
with_rate-last false rates r e = last-append None rates r

pub IsShort-trace : (trace : Trace) (label amount : ℚ) (step : Option ℚ) → AreSlopes trace.points trace.rates → IsShort trace.points
    → AreSlopes (trace_after trace label amount step).points (trace_after trace label amount step).rates → IsShort (trace_after trace label amount step).points
IsShort-trace trace label amount None are short are_after = short
IsShort-trace trace label amount (Some rate) are short are_after =
    let ends : EndsWithSlope (trace_with trace (label, amount) rate).points rate =
    subst (LastSlope (trace_with trace (label, amount) rate).points) (with_rate-last (keeps_slope (last_or None trace.rates) rate) trace.rates rate refl)
    (LastSlope-rates (trace_with trace (label, amount) rate).points (trace_with trace (label, amount) rate).rates are_after) in
    IsShort-after trace.points (last_or None trace.rates) (label, amount) rate (LastSlope-rates trace.points trace.rates are) (HasOnePoint-rates trace.points trace.rates are) short ends
