-- A curve cut at a time and put into short form ends there, and has the same values up to there.
use Rattle.std.proofs.Common.{◌≡◌, List, [], ◌∷◌, ◌++◌, ⊎_elim, Bool, true, false, refl, sym, ap, subst, ◌∙◌, Ok, if◌then◌else◌}
use Rattle.nf_resume_laws.proofs.Common.{ℚ, 0ℚ, ◌≤ℚ◌, Passing, Point, Within, value, slope, IsCurve, IsShort, is_same, then_ok, is_same_cases, cut_short}
use Rattle.nf_resume_laws.proofs.Common.{≤ℚ_refl, same_Ok, turning, checked_slopes, SlopesFrom, slopes-are, checked_short-is, LastPoint}
use Rattle.nf_model_laws.proofs.Curves.{EndsAt-value}
use Rattle.nf_curve_def.specs.Values.{checked_cut}
use Rattle.nf_curve_def.specs.Short.{checked_short}
use Rattle.nf_curve_def.specs.Meanings.{IsShortOf}
use Rattle.nf_curve_laws.proofs.Following.{FollowsFrom, ends, goes, value-follows}
use Rattle.nf_curve_laws.proofs.Values.{Cut, checked_cut-is, follows-curve}

-- ---- the last point of a list
abbrev pub EndsIn : List Point → Point → Type 0
EndsIn points last = (front : List Point) × (points ≡ front ++ last ∷ [])

-- the points after the first one
abbrev pub rest_of : List Point → List Point
rest_of [] = []
rest_of (x ∷ rest) = rest

one_more : (p : Point) (points : List Point) (last : Point) → EndsIn points last → EndsIn (p ∷ points) last
one_more p points last (front, same) = (p ∷ front, ap (λ (l : List Point). p ∷ l) same)

one_less : (p q : Point) (rest : List Point) (last : Point) → EndsIn (p ∷ q ∷ rest) last → EndsIn (q ∷ rest) last
one_less p q rest last ([], same) = absurd (cc)
one_less p q rest last (x ∷ front, same) = (front, ap rest_of same)

-- Short form preserves the last point.
turning-ends : (p q : Point) (rest : List Point) (slopes : List ℚ) (last : Point) → SlopesFrom p (q ∷ rest) slopes → EndsIn (q ∷ rest) last → EndsIn (turning (q ∷ rest) slopes) last
turning-ends p q [] slopes last w h = subst (λ (l : List ℚ). EndsIn (turning (q ∷ []) l) last) (sym (w.1 ∙ ap (λ (l : List ℚ). slope p q ∷ l) w.2)) h
turning-ends p q (s ∷ rest) slopes last w h =
    let e : slopes ≡ slope p q ∷ slope q s ∷ w.2.0 = w.1 ∙ ap (λ (l : List ℚ). slope p q ∷ l) w.2.1 in
    let later : EndsIn (turning (s ∷ rest) (slope q s ∷ w.2.0)) last = turning-ends q s rest (slope q s ∷ w.2.0) last (w.2.0, refl, w.2.2) (one_less q s rest last h) in
    subst (λ (l : List ℚ). EndsIn (turning (q ∷ s ∷ rest) l) last) (sym e)
    (⊎_elim
    (λ (v : (is_same (slope p q) (slope q s) ≡ true) × (slope p q ≡ slope q s)).
    subst (λ (b : Bool). EndsIn (if b then turning (s ∷ rest) (slope q s ∷ w.2.0) else q ∷ turning (s ∷ rest) (slope q s ∷ w.2.0)) last) (sym v.0) later)
    (λ (v : (is_same (slope p q) (slope q s) ≡ false) × (¬ (slope p q ≡ slope q s))).
    subst (λ (b : Bool). EndsIn (if b then turning (s ∷ rest) (slope q s ∷ w.2.0) else q ∷ turning (s ∷ rest) (slope q s ∷ w.2.0)) last) (sym v.0) (one_more q _ last later))
    (is_same_cases (slope p q) (slope q s)))

module _ (passes : Passing) where
  short-ends : (points short : List Point) (last : Point) → checked_short passes points ≡ Ok short → EndsIn points last → EndsIn short last
  unfolding checked_short
  short-ends [] short last e h = subst (λ (l : List Point). EndsIn l last) (same_Ok _ _ e) h
  short-ends (p ∷ []) short last e h = subst (λ (l : List Point). EndsIn l last) (same_Ok _ _ e) h
  short-ends (p ∷ q ∷ rest) short last e h =
      let w = then_ok (checked_slopes passes (p ∷ q ∷ rest)) _ short e in
      subst (λ (l : List Point). EndsIn l last) (same_Ok _ _ w.next)
      (one_more p _ last (turning-ends p q rest w.between last (slopes-are passes p (q ∷ rest) w.between w.first) (one_less p q rest last h)))

-- A curve that equals a function up to a last time ends there.
follows-ends : (f : ℚ → ℚ) (last : ℚ) (p : Point) (rest : List Point) → FollowsFrom f last p rest → (z : Point) × (z.0 ≡ last) × EndsIn (p ∷ rest) z
follows-ends f last p [] (ends e d) = (p, d, ([], refl))
follows-ends f last p (q ∷ rest) (goes k e h line later) =
    let w : (z : Point) × (z.0 ≡ last) × EndsIn (q ∷ rest) z = follows-ends f last q rest later in (w.0, w.1, one_more p (q ∷ rest) w.0 w.2)

-- ---- the curve up to a time, in short form
pub record IsShortCut (points : List Point) (last : ℚ) (short : List Point) : Type 0 where
  pub curve : IsCurve short
  pub form : IsShort short
  pub values : (time : ℚ) → Within 0ℚ last time → value short time ≡ value points time
  pub after : (time : ℚ) → last ≤ℚ time → value short time ≡ value points last
  pub ends : LastPoint short (last, value short last)

module _ (passes : Passing) (points : List Point) (last : ℚ) (short : List Point) (c : IsCurve points) (from_0 : 0ℚ ≤ℚ last) where
  of_cut : (cut : List Point) → checked_cut passes points last ≡ Ok cut → checked_short passes cut ≡ Ok short → IsShortCut points last short
  of_cut cut e d =
      let w : Cut passes points last cut = checked_cut-is passes points last cut c from_0 e in
      let curve : IsCurve cut = subst IsCurve (sym w.cut_is) (follows-curve (value points) last w.first w.rest w.begins w.follows) in
      let s : IsShortOf cut short = checked_short-is passes cut short curve d in
      let z : (z : Point) × (z.0 ≡ last) × EndsIn (w.first ∷ w.rest) z = follows-ends (value points) last w.first w.rest w.follows in
      let ends : EndsIn short z.0 = short-ends passes cut short z.0 d (subst (λ (l : List Point). EndsIn l z.0) (sym w.cut_is) z.2) in
      let at : (time : ℚ) → Within 0ℚ last time → value short time ≡ value points time = λ time h.
      s.values time h.0 ∙ ap (λ (l : List Point). value l time) w.cut_is
      ∙ value-follows (value points) last w.first w.rest time w.follows (subst (λ (x : ℚ). x ≤ℚ time) (sym w.begins) h.0) h.1 in
      let on : (time : ℚ) → last ≤ℚ time → value short time ≡ z.0.1 = λ time h. EndsAt-value short z.0 time
      (record { front = ends.0; same = ends.1; curve = s.curve }) (subst (λ (x : ℚ). x ≤ℚ time) (sym z.1) h) in
      record {
        curve = s.curve;
        form = s.form;
        values = at;
        after = λ time h. on time h ∙ sym (on last (≤ℚ_refl last)) ∙ at last (from_0, ≤ℚ_refl last);
        ends = record { front = ends.0; same = ends.1 ∙ ap (λ (p : Point). ends.0 ++ p ∷ []) (point z.0 last (value short last) z.1 (sym (on last (≤ℚ_refl last)))); curve = s.curve };
      }
    where
      point : (z : Point) (t y : ℚ) → z.0 ≡ t → z.1 ≡ y → z ≡ (t, y)
      point z t y e f = λ i. (e i, f i)

  pub cut_short-is : cut_short passes last points ≡ Ok short → IsShortCut points last short
  cut_short-is e = let w = then_ok (checked_cut passes points last) _ short e in of_cut w.between w.first w.next
