-- Cutting a curve in short form at its end doesn't change it or its rates.
use Rattle.std.proofs.Common.{◌≡◌, ◌≢◌, List, [], ◌∷◌, ◌++◌, ⊎_elim, Bool, true, false, refl, sym, ap, ◌∙◌, Ok, if◌then◌else◌}
use Rattle.nf_phase_run_laws.proofs.Common.{ℚ, ◌≤ℚ◌, ◌<ℚ◌, lt_ℚ, ≤ℚ_of_lt, test_of_not_less, test_of_less, ≤ℚ_refl, ≤ℚ_trans, <_≤_trans, Passing, Checked}
use Rattle.nf_phase_run_laws.proofs.Common.{◌>>=◌, Point, slope, TimesRise, IsShort, AreSlopes, Trace, is_same, checked_line, then_ok, is_same_cases}
use Rattle.nf_phase_run_laws.proofs.Common.{LastPoint, cut_short, cut_trace, same_Ok, points_before, value_from, turning, checked_slopes, not_same}
use Rattle.nf_curve_def.specs.Values.{checked_value, checked_cut}
use Rattle.nf_curve_def.specs.Short.{checked_short}
use Rattle.nf_curve_laws.proofs.Short.{SlopesFrom, slopes-are}

-- ---- tests
-- ---- the last point
abbrev last_from : Point → List Point → Point
last_from p [] = p
last_from p (q ∷ rest) = last_from q rest

rises-last : (p : Point) (rest : List Point) → TimesRise (p ∷ rest) → p.0 ≤ℚ (last_from p rest).0
rises-last p [] r = ≤ℚ_refl p.0
rises-last p (q ∷ rest) r = ≤ℚ_trans _ _ _ (≤ℚ_of_lt _ _ r.0) (rises-last q rest r.1)

below-last : (p q : Point) (rest : List Point) → TimesRise (p ∷ q ∷ rest) → p.0 <ℚ (last_from q rest).0
below-last p q rest r = <_≤_trans _ _ _ r.0 (rises-last q rest r.1)

last_from-is : (p : Point) (front : List Point) (last : Point) → last_from p (front ++ last ∷ []) ≡ last
last_from-is p [] last = refl
last_from-is p (q ∷ front) last = last_from-is q front last

-- The last point of a list, or another point if the list is empty.
abbrev last_of : Point → List Point → Point
last_of p [] = p
last_of p (q ∷ rest) = last_from q rest

last_of-is : (p : Point) (front : List Point) (last : Point) → last_of p (front ++ last ∷ []) ≡ last
last_of-is p [] last = refl
last_of-is p (q ∷ front) last = last_from-is q front last

-- ---- cut at its end
module _ (passes : Passing) where
  value-last : (p : Point) (rest : List Point) → TimesRise (p ∷ rest) → value_from passes p rest (last_from p rest).0 ≡ Ok (last_from p rest).1
  value-last p [] r = refl
  value-last p (q ∷ rest) r =
      ap (λ (b : Bool). if b then Ok p.1 else (if lt_ℚ (last_from q rest).0 q.0 then checked_line passes p q (last_from q rest).0 else value_from passes q rest (last_from q rest).0))
      (not_same (last_from q rest).0 p.0 (below-last p q rest r))
      ∙ ap (λ (b : Bool). if b then checked_line passes p q (last_from q rest).0 else value_from passes q rest (last_from q rest).0)
      (test_of_not_less (last_from q rest).0 q.0 (rises-last q rest r.1))
      ∙ value-last q rest r.1

  before-last : (p : Point) (rest : List Point) → TimesRise (p ∷ rest) → points_before (last_from p rest).0 (p ∷ rest) ++ last_from p rest ∷ [] ≡ p ∷ rest
  before-last p [] r = ap (λ (b : Bool). (if b then p ∷ [] else []) ++ p ∷ []) (test_of_not_less p.0 p.0 (≤ℚ_refl p.0))
  before-last p (q ∷ rest) r =
      ap (λ (b : Bool). (if b then p ∷ points_before (last_from q rest).0 (q ∷ rest) else []) ++ last_from q rest ∷ []) (test_of_less p.0 (last_from q rest).0 (below-last p q rest r))
      ∙ ap (λ (l : List Point). p ∷ l) (before-last q rest r.1)

  cut-end : (p : Point) (rest : List Point) → TimesRise (p ∷ rest) → checked_cut passes (p ∷ rest) (last_from p rest).0 ≡ Ok (p ∷ rest)
  unfolding checked_cut checked_value
  cut-end p rest r =
      ap (λ (k : Checked ℚ). k >>= λ y. Ok (points_before (last_from p rest).0 (p ∷ rest) ++ ((last_from p rest).0, y) ∷ [])) (value-last p rest r)
      ∙ ap (λ (l : List Point). Ok l) (before-last p rest r)

  cut-last : (points : List Point) (last : Point) → LastPoint points last → checked_cut passes points last.0 ≡ Ok points
  cut-last [] last l = absurd l.curve
  cut-last (p ∷ rest) last l =
      let at : last_from p rest ≡ last = ap (last_of p) l.same ∙ last_of-is p l.front last in
      ap (λ (q : Point). checked_cut passes (p ∷ rest) q.0) (sym at) ∙ cut-end p rest l.curve.1

  -- ---- short form is preserved
  turning-same : (p q : Point) (rest : List Point) (slopes : List ℚ) → IsShort (p ∷ q ∷ rest) → SlopesFrom p (q ∷ rest) slopes → turning (q ∷ rest) slopes ≡ q ∷ rest
  turning-same p q [] slopes s w = ap (λ (l : List ℚ). turning (q ∷ []) l) (w.1 ∙ ap (λ (l : List ℚ). slope p q ∷ l) w.2)
  turning-same p q (x ∷ rest) slopes s w =
      ap (λ (l : List ℚ). turning (q ∷ x ∷ rest) l) (w.1 ∙ ap (λ (l : List ℚ). slope p q ∷ l) w.2.1)
      ∙ ap (λ (b : Bool). if b then turning (x ∷ rest) (slope q x ∷ w.2.0) else q ∷ turning (x ∷ rest) (slope q x ∷ w.2.0)) (apart (slope p q) (slope q x) s.0)
      ∙ ap (λ (l : List Point). q ∷ l) (turning-same q x rest (slope q x ∷ w.2.0) s.1 (w.2.0, refl, w.2.2))
    where
      apart : (a b : ℚ) → a ≢ b → is_same a b ≡ false
      apart a b n = ⊎_elim
          (λ (w : (is_same a b ≡ true) × (a ≡ b)). absurd (n w.1))
          (λ (w : (is_same a b ≡ false) × (a ≢ b)). w.0)
          (is_same_cases a b)

  short-same : (points short : List Point) → IsShort points → checked_short passes points ≡ Ok short → short ≡ points
  unfolding checked_short
  short-same [] short s e = sym (same_Ok _ _ e)
  short-same (p ∷ []) short s e = sym (same_Ok _ _ e)
  short-same (p ∷ q ∷ rest) short s e =
      let w = then_ok (checked_slopes passes (p ∷ q ∷ rest)) _ short e in
      sym (same_Ok _ _ w.next) ∙ ap (λ (l : List Point). p ∷ l) (turning-same p q rest w.between s (slopes-are passes p (q ∷ rest) w.between w.first))

  pub cut_short-same : (points short : List Point) (last : Point) → LastPoint points last → IsShort points → cut_short passes last.0 points ≡ Ok short → short ≡ points
  cut_short-same points short last l s e =
      let w = then_ok (checked_cut passes points last.0) _ short e in
      let cut : w.between ≡ points = same_Ok _ _ (sym w.first ∙ cut-last points last l) in
      short-same points short s (ap (checked_short passes) (sym cut) ∙ w.next)

  -- ---- the rates are preserved
  rates-from : (p : Point) (rest : List Point) (rates slopes : List ℚ) → SlopesFrom p rest rates → AreSlopes (p ∷ rest) slopes → rates ≡ slopes
  rates-from p [] rates [] w a = w
  rates-from p [] rates (k ∷ slopes) w a = absurd a
  rates-from p (q ∷ rest) rates [] w a = absurd a
  rates-from p (q ∷ rest) rates (k ∷ slopes) w a = w.1 ∙ ap (λ (x : ℚ). x ∷ w.0) (sym a.0) ∙ ap (λ (l : List ℚ). k ∷ l) (rates-from q rest w.0 slopes w.2 a.1)

  rates-same : (points : List Point) (rates slopes : List ℚ) → checked_slopes passes points ≡ Ok rates → AreSlopes points slopes → rates ≡ slopes
  rates-same [] rates slopes e a = absurd a
  rates-same (p ∷ rest) rates slopes e a = rates-from p rest rates slopes (slopes-are passes p rest rates e) a

  pub cut_trace-same : (trace cut : Trace) (last : Point) → LastPoint trace.points last → IsShort trace.points → AreSlopes trace.points trace.rates
      → cut_trace passes last.0 trace.points ≡ Ok cut → cut ≡ trace
  cut_trace-same trace cut last l s a e =
      let w = then_ok (cut_short passes last.0 trace.points) _ cut e in
      let k = then_ok (checked_slopes passes w.between) _ cut w.next in
      let points : w.between ≡ trace.points = cut_short-same trace.points w.between last l s w.first in
      let rates : k.between ≡ trace.rates = rates-same trace.points k.between trace.rates (ap (checked_slopes passes) (sym points) ∙ k.first) a in
      sym (same_Ok _ _ k.next) ∙ (λ i. record { points = points i; rates = rates i })
