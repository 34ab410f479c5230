-- Curves in short form extended by a point: the recorded slope is that of the last two points.
use Rattle.std.proofs.Common.{◌≡◌, ℕ, suc, List, [], ◌∷◌, ◌++◌, length, Bool, true, false, sym, ap, subst, refl, ◌∙◌, append_assoc, length-append, arith}
use Rattle.std.proofs.Common.{◌-◌, ◌+◌, Option, Some, None, take}
use Rattle.nf_phase_laws.proofs.Common.{IsCurve-rises, last_or, option_map_or, same_Some, ℚ, 0ℚ, ◌-ℚ◌, ◌*ℚ◌, ◌<ℚ◌, reading_of, less_ps, eq, linear_eq}
use Rattle.nf_phase_laws.proofs.Common.{Point, slope, AreSlopes, same_from_times, slope-times, TimesRise-rest, keeps_slope, with_point, with_rate}
use Rattle.nf_phase_laws.proofs.Common.{LastPoint, GoesOnTo, last-append, false≢true, time_of_last, same_of_test}
use Rattle.nf_phase_laws.proofs.CurveSteps.{GoesOnTo-appended, GoesOnTo-replaced}

-- ---- the slope from one point to another
same_times : (a n r x : ℚ) → n *ℚ a ≡ x → r *ℚ a ≡ x → a *ℚ n ≡ a *ℚ r
same_times a n r x e f = linear_eq (a ∷ n ∷ r ∷ x ∷ []) (eq e ∷ eq f ∷ []) (search reading_of) tt tt

pub slope_is : (p q : Point) (r : ℚ) → p.0 <ℚ q.0 → r *ℚ (q.0 -ℚ p.0) ≡ q.1 -ℚ p.1 → slope p q ≡ r
slope_is p q r h e = same_from_times (q.0 -ℚ p.0) (slope p q) r (less_ps p.0 q.0 h) (same_times (q.0 -ℚ p.0) (slope p q) r _ (slope-times p q h) e)

add_times : (p0 p1 q0 q1 s0 s1 m n r : ℚ) → m *ℚ (q0 -ℚ p0) ≡ q1 -ℚ p1 → n *ℚ (s0 -ℚ q0) ≡ s1 -ℚ q1 → m ≡ r → n ≡ r → r *ℚ (s0 -ℚ p0) ≡ s1 -ℚ p1
add_times p0 p1 q0 q1 s0 s1 m n r e f g h = added (subst (λ (z : ℚ). z *ℚ (q0 -ℚ p0) ≡ q1 -ℚ p1) g e) (subst (λ (z : ℚ). z *ℚ (s0 -ℚ q0) ≡ s1 -ℚ q1) h f)
  where
    added : r *ℚ (q0 -ℚ p0) ≡ q1 -ℚ p1 → r *ℚ (s0 -ℚ q0) ≡ s1 -ℚ q1 → r *ℚ (s0 -ℚ p0) ≡ s1 -ℚ p1
    added e f = linear_eq (p0 ∷ p1 ∷ q0 ∷ q1 ∷ s0 ∷ s1 ∷ r ∷ []) (eq e ∷ eq f ∷ []) (search reading_of) tt tt

slope-joined : (p q s : Point) (r : ℚ) → p.0 <ℚ q.0 → q.0 <ℚ s.0 → p.0 <ℚ s.0 → slope p q ≡ r → slope q s ≡ r → slope p s ≡ r
slope-joined p q s r h k l e f = slope_is p s r l (add_times p.0 p.1 q.0 q.1 s.0 s.1 (slope p q) (slope q s) r (slope-times p q h) (slope-times q s k) e f)

-- ---- the time of the last point
pub end-append : (points : List Point) (p : Point) → time_of_last (points ++ p ∷ []) ≡ p.0
end-append points p = ap (λ (o : Option Point). option_map_or (λ q. q.0) o 0ℚ) (last-append None points p)

-- ---- the list without its last entry
front_of : {A : Type 0} (xs : List A) (y : A) → take (length (xs ++ y ∷ []) - 1) (xs ++ y ∷ []) ≡ xs
front_of [] y = refl
front_of {A = A} (x ∷ xs) y =
    let n : length (xs ++ y ∷ []) ≡ length xs + 1 = length-append xs (y ∷ []) in
    let e : suc (length (xs ++ y ∷ [])) - 1 ≡ suc (length (xs ++ y ∷ []) - 1) = omega arith in
    ap (λ (k : ℕ). take k (x ∷ xs ++ y ∷ [])) e ∙ ap (λ (l : List A). x ∷ l) (front_of xs y)

-- ---- the slope of the last piece of a curve
pub record EndsWithSlope (points : List Point) (r : ℚ) : Type 0 where
  pub front : List Point
  pub before : Point
  pub last : Point
  pub same : points ≡ front ++ before ∷ last ∷ []
  pub slope_is : slope before last ≡ r

-- If a slope is recorded, it is that of the last two points.
abbrev pub LastSlope : List Point → Option ℚ → Type 0
LastSlope points None = Unit {0}
LastSlope points (Some r) = EndsWithSlope points r

same_slope : (points : List Point) (o : Option ℚ) (r : ℚ) → LastSlope points o → keeps_slope o r ≡ true → EndsWithSlope points r
same_slope points None r s e = absurd (false≢true e)
same_slope points (Some b) r s e = subst (λ (z : ℚ). EndsWithSlope points z) (same_of_test b r e) s

-- With the known last point.
record Reached (points : List Point) (last : Point) (r : ℚ) : Type 0 where
  pub front : List Point
  pub before : Point
  pub same : points ≡ front ++ before ∷ last ∷ []
  pub slope_is : slope before last ≡ r

reached : (points : List Point) (last : Point) (r : ℚ) → LastPoint points last → EndsWithSlope points r → Reached points last r
reached points last r l s =
    let same : s.last ≡ last = same_Some s.last last
    (sym (last-append None (s.front ++ s.before ∷ []) s.last) ∙ ap (last_or None) (append_assoc s.front (s.before ∷ []) (s.last ∷ []) ∙ sym s.same ∙ l.same)
    ∙ last-append None l.front last) in
    record {
      front = s.front;
      before = s.before;
      same = s.same ∙ ap (λ (p : Point). s.front ++ s.before ∷ p ∷ []) same;
      slope_is = ap (slope s.before) (sym same) ∙ s.slope_is;
    }

pub taken : (front : List Point) (before last new : Point) → take (length (front ++ before ∷ last ∷ []) - 1) (front ++ before ∷ last ∷ []) ++ new ∷ [] ≡ front ++ before ∷ new ∷ []
taken front before last new =
    ap (λ (ps : List Point). take (length ps - 1) ps ++ new ∷ []) (sym (append_assoc front (before ∷ []) (last ∷ [])))
    ∙ ap (λ (ps : List Point). ps ++ new ∷ []) (front_of (front ++ before ∷ []) last)
    ∙ append_assoc front (before ∷ []) (new ∷ [])

-- ---- an extended curve whose last piece has this slope
pub record Went (points points' : List Point) (last new : Point) (r : ℚ) : Type 0 where
  pub goes : GoesOnTo points points' last new
  pub slopes : EndsWithSlope points' r

module _ (points : List Point) (last new : Point) (r : ℚ) (l : LastPoint points last) (h : last.0 <ℚ new.0) (e : slope last new ≡ r) where
  went_on : Went points (points ++ new ∷ []) last new r
  went_on = record {
    goes = GoesOnTo-appended points last new l h;
    slopes = record { front = l.front; before = last; last = new; same = ap (λ (ps : List Point). ps ++ new ∷ []) l.same ∙ append_assoc l.front (last ∷ []) (new ∷ []); slope_is = e };
  }

  module _ (front : List Point) (before : Point) (same : points ≡ front ++ before ∷ last ∷ []) (s : slope before last ≡ r) where
    last_before : LastPoint (front ++ before ∷ last ∷ []) last
    last_before = subst (λ (ps : List Point). LastPoint ps last) same l

    earlier : before.0 <ℚ last.0
    earlier = (TimesRise-rest front before (last ∷ []) (IsCurve-rises _ last_before.curve)).0

    joined : before.0 <ℚ new.0 → slope before new ≡ r
    joined k = slope-joined before last new r earlier h k s e

    goes : GoesOnTo (front ++ before ∷ last ∷ []) (front ++ before ∷ new ∷ []) last new
    goes = GoesOnTo-replaced front before last new last_before h (s ∙ sym e)

    later : before.0 <ℚ new.0
    later = (TimesRise-rest front before (new ∷ []) (IsCurve-rises _ goes.ends.curve)).0

    went_same : Went points (take (length points - 1) points ++ new ∷ []) last new r
    went_same = subst (λ (ps : List Point). Went ps (take (length ps - 1) ps ++ new ∷ []) last new r) (sym same)
        (subst (λ (qs : List Point). Went (front ++ before ∷ last ∷ []) qs last new r) (sym (taken front before last new))
        (record { goes = goes; slopes = record { front = front; before = before; last = new; same = refl; slope_is = joined later } }))

  went_by : (b : Bool) (o : Option ℚ) → LastSlope points o → keeps_slope o r ≡ b → Went points (with_point b points new) last new r
  went_by true o s t = let at : Reached points last r = reached points last r l (same_slope points o r s t) in went_same at.front at.before at.same at.slope_is
  went_by false o s t = went_on

  pub went : (o : Option ℚ) → LastSlope points o → Went points (with_point (keeps_slope o r) points new) last new r
  went o s = went_by (keeps_slope o r) o s refl

-- ---- printed rates
pushed : (p : Point) (points : List Point) (o : Option ℚ) → LastSlope points o → LastSlope (p ∷ points) o
pushed p points None s = tt
pushed p points (Some r) s = record { front = p ∷ s.front; before = s.before; last = s.last; same = ap (λ (ps : List Point). p ∷ ps) s.same; slope_is = s.slope_is }

last_rate : (p q : Point) (rest : List Point) (rate : ℚ) (rates : List ℚ) → rate ≡ slope p q → AreSlopes (q ∷ rest) rates → LastSlope (p ∷ q ∷ rest) (last_or (Some rate) rates)
last_rate p q [] rate [] e h = record { front = []; before = p; last = q; same = refl; slope_is = sym e }
last_rate p q [] rate (x ∷ rates) e h = absurd h
last_rate p q (s ∷ rest) rate [] e h = absurd h
last_rate p q (s ∷ rest) rate (x ∷ rates) e h = pushed p (q ∷ s ∷ rest) (last_or (Some x) rates) (last_rate q s rest x rates h.0 h.1)

pub LastSlope-rates : (points : List Point) (rates : List ℚ) → AreSlopes points rates → LastSlope points (last_or None rates)
LastSlope-rates [] rates h = absurd h
LastSlope-rates (p ∷ []) [] h = tt
LastSlope-rates (p ∷ []) (x ∷ rates) h = absurd h
LastSlope-rates (p ∷ q ∷ rest) [] h = absurd h
LastSlope-rates (p ∷ q ∷ rest) (x ∷ rates) h = last_rate p q rest x rates h.0 h.1

pub AreSlopes-appended : (front : List Point) (last new : Point) (rates : List ℚ) (r : ℚ) → AreSlopes (front ++ last ∷ []) rates → r ≡ slope last new
    → AreSlopes ((front ++ last ∷ []) ++ new ∷ []) (rates ++ r ∷ [])
AreSlopes-appended [] last new [] r h e = (e, tt)
AreSlopes-appended [] last new (x ∷ rates) r h e = absurd h
AreSlopes-appended (p ∷ []) last new [] r h e = absurd h
AreSlopes-appended (p ∷ []) last new (x ∷ rates) r h e = (h.0, AreSlopes-appended [] last new rates r h.1 e)
AreSlopes-appended (p ∷ q ∷ front) last new [] r h e = absurd h
AreSlopes-appended (p ∷ q ∷ front) last new (x ∷ rates) r h e = (h.0, AreSlopes-appended (q ∷ front) last new rates r h.1 e)

AreSlopes-replaced : (front : List Point) (before last new : Point) (rates : List ℚ) → AreSlopes (front ++ before ∷ last ∷ []) rates
    → slope before last ≡ slope before new → AreSlopes (front ++ before ∷ new ∷ []) rates
AreSlopes-replaced [] before last new [] h e = absurd h
AreSlopes-replaced [] before last new (x ∷ []) h e = (h.0 ∙ e, tt)
AreSlopes-replaced [] before last new (x ∷ y ∷ rates) h e = absurd h.1
AreSlopes-replaced (p ∷ []) before last new [] h e = absurd h
AreSlopes-replaced (p ∷ []) before last new (x ∷ rates) h e = (h.0, AreSlopes-replaced [] before last new rates h.1 e)
AreSlopes-replaced (p ∷ q ∷ front) before last new [] h e = absurd h
AreSlopes-replaced (p ∷ q ∷ front) before last new (x ∷ rates) h e = (h.0, AreSlopes-replaced (q ∷ front) before last new rates h.1 e)

module _ (points : List Point) (rates : List ℚ) (last new : Point) (r : ℚ) (l : LastPoint points last) (h : last.0 <ℚ new.0) (e : slope last new ≡ r) (are : AreSlopes points rates) where
  slopes_by : (b : Bool) → keeps_slope (last_or None rates) r ≡ b → AreSlopes (with_point b points new) (with_rate b rates r)
  slopes_by true t =
      let at : Reached points last r = reached points last r l (same_slope points (last_or None rates) r (LastSlope-rates points rates are) t) in
      let k : at.before.0 <ℚ new.0 = later points last new r l h e at.front at.before at.same at.slope_is in
      subst (λ (ps : List Point). AreSlopes (take (length ps - 1) ps ++ new ∷ []) rates) (sym at.same)
      (subst (λ (qs : List Point). AreSlopes qs rates) (sym (taken at.front at.before last new))
      (AreSlopes-replaced at.front at.before last new rates (subst (λ (ps : List Point). AreSlopes ps rates) at.same are)
      (at.slope_is ∙ sym (joined points last new r l h e at.front at.before at.same at.slope_is k))))
  slopes_by false t = subst (λ (ps : List Point). AreSlopes (ps ++ new ∷ []) (rates ++ r ∷ [])) (sym l.same)
      (AreSlopes-appended l.front last new rates r (subst (λ (ps : List Point). AreSlopes ps rates) l.same are) (sym e))

  pub AreSlopes-after : AreSlopes (with_point (keeps_slope (last_or None rates) r) points new) (with_rate (keeps_slope (last_or None rates) r) rates r)
  AreSlopes-after = slopes_by (keeps_slope (last_or None rates) r) refl
