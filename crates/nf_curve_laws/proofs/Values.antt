-- The value that is computed, and a curve that is cut.
use Rattle.std.proofs.Common.{◌≡◌, ℕ, Some, List, [], ◌∷◌, ◌++◌, ⊎_elim, Bool, true, false, refl, sym, ap, subst, ◌∙◌, Ok, if◌then◌else◌, slice_get}
use Rattle.nf_curve_laws.proofs.Common.{ℚ, 0ℚ, ◌+ℚ◌, ◌-ℚ◌, ◌*ℚ◌, ◌≤ℚ◌, ◌<ℚ◌, lt_ℚ, reading_of, eq, linear_eq, ≤ℚ_of_lt, ≤ℚ_antisymm, lt_ℚ_cases, Passing, Point}
use Rattle.nf_curve_laws.proofs.Common.{value, slope, TimesRise, IsCurve, IsAffine, value-before, value-after, value-first, value-line, is_same, checked_line}
use Rattle.nf_curve_laws.proofs.Common.{IsCutOf, ≤ℚ_refl, ≤ℚ_trans, same_Ok}
use Rattle.nf_curve_def.specs.Values.{points_before, value_from, checked_value, checked_cut}
use Rattle.nf_curve_laws.proofs.Operations.{then_ok, is_same_cases, checked_line-is}
use Rattle.nf_curve_laws.proofs.Following.{FollowsFrom, ends, goes, LiesOn, follows-each, follows-rises, value-follows}

module _ (passes : Passing) where
  -- the two tests of a piece
  piece_cases : {P : Type 0} (p q : Point) (rest : List Point) (time y : ℚ) → value_from passes p (q ∷ rest) time ≡ Ok y
      → (time ≡ p.0 → y ≡ p.1 → P) → (time <ℚ q.0 → checked_line passes p q time ≡ Ok y → P) → (q.0 ≤ℚ time → value_from passes q rest time ≡ Ok y → P) → P
  piece_cases {P} p q rest time y e f g h = ⊎_elim
      (λ (a : (is_same time p.0 ≡ true) × (time ≡ p.0)). f a.1 (same_Ok _ _
      (sym e ∙ ap (λ (b : Bool). if b then Ok p.1 else (if lt_ℚ time q.0 then checked_line passes p q time else value_from passes q rest time)) a.0)))
      (λ (a : (is_same time p.0 ≡ false) × (¬ (time ≡ p.0))).
      let e' : (if lt_ℚ time q.0 then checked_line passes p q time else value_from passes q rest time) ≡ Ok y =
      sym (ap (λ (b : Bool). if b then Ok p.1 else (if lt_ℚ time q.0 then checked_line passes p q time else value_from passes q rest time)) a.0) ∙ e in
      ⊎_elim
      (λ (b : (lt_ℚ time q.0 ≡ true) × (time <ℚ q.0)). g b.1 (sym (ap (λ (b : Bool). if b then checked_line passes p q time else value_from passes q rest time) b.0) ∙ e'))
      (λ (b : (lt_ℚ time q.0 ≡ false) × (q.0 ≤ℚ time)). h b.1 (sym (ap (λ (b : Bool). if b then checked_line passes p q time else value_from passes q rest time) b.0) ∙ e'))
      (lt_ℚ_cases time q.0))
      (is_same_cases time p.0)

  value_from-is : (p : Point) (rest : List Point) (time y : ℚ) → TimesRise (p ∷ rest) → p.0 ≤ℚ time → value_from passes p rest time ≡ Ok y → y ≡ value (p ∷ rest) time
  value_from-is p [] time y r h e = sym (same_Ok _ _ e)
  value_from-is p (q ∷ rest) time y r h e = piece_cases p q rest time y e
      (λ s d. d ∙ sym (value-first p (q ∷ rest) r) ∙ ap (value (p ∷ q ∷ rest)) (sym s))
      (λ l d. checked_line-is passes p q time y d ∙ sym (value-before p q rest time l))
      (λ l d. value_from-is q rest time y r.1 l d ∙ sym (value-after p q rest time l))

  -- where no operation passes, it is the value
  pub checked_value-is : (points : List Point) (time y : ℚ) → IsCurve points → 0ℚ ≤ℚ time → checked_value passes points time ≡ Ok y → y ≡ value points time
  unfolding checked_value
  checked_value-is [] time y c h e = absurd c
  checked_value-is (p ∷ rest) time y c h e = value_from-is p rest time y c.1 (subst (λ (z : ℚ). z ≤ℚ time) (sym c.0) h) e

  -- ---- the cut
  still : (x t s z : ℚ) → z ≡ x → x ≡ z +ℚ 0ℚ *ℚ (t -ℚ s)
  still x t s z e = linear_eq (x ∷ t ∷ s ∷ z ∷ []) (eq e ∷ []) (search reading_of) tt tt

  -- up to a time of the first piece
  first_piece : (f : ℚ → ℚ) (p q : Point) (rest : List Point) (b : ℚ) → TimesRise (p ∷ q ∷ rest) → b ≤ℚ q.0
      → ((t : ℚ) → p.0 ≤ℚ t → f t ≡ value (p ∷ q ∷ rest) t) → IsAffine f p.0 b (slope p q)
  first_piece f p q rest b r h same = record {
    line = λ t i j. same t i ∙ value-line p q rest t r (≤ℚ_trans _ _ _ j h) ∙ ap (λ (x : ℚ). x +ℚ slope p q *ℚ (t -ℚ p.0)) (sym (same p.0 (≤ℚ_refl p.0) ∙ value-first p (q ∷ rest) r));
  }

  cut_from : (p : Point) (rest : List Point) (last y : ℚ) → TimesRise (p ∷ rest) → p.0 <ℚ last → y ≡ value (p ∷ rest) last
      → (f : ℚ → ℚ) → ((t : ℚ) → p.0 ≤ℚ t → f t ≡ value (p ∷ rest) t) → FollowsFrom f last p (points_before last rest ++ (last, y) ∷ [])
  cut_from p [] last y r h e f same = goes 0ℚ (same p.0 (≤ℚ_refl p.0)) h
      (record { line = λ t a b. same t a ∙ still p.1 t p.0 (f p.0) (same p.0 (≤ℚ_refl p.0)) }) (ends (same last (≤ℚ_of_lt _ _ h) ∙ sym e) refl)
  cut_from p (q ∷ rest) last y r h e f same = ⊎_elim
      (λ (w : (lt_ℚ q.0 last ≡ true) × (q.0 <ℚ last)). subst (λ (b : Bool). FollowsFrom f last p ((if b then q ∷ points_before last rest else []) ++ (last, y) ∷ [])) (sym w.0)
      (goes (slope p q) (same p.0 (≤ℚ_refl p.0) ∙ value-first p (q ∷ rest) r) r.0 (first_piece f p q rest q.0 r (≤ℚ_refl q.0) same)
      (cut_from q rest last y r.1 w.1 (e ∙ value-after p q rest last (≤ℚ_of_lt _ _ w.1)) f
      (λ t i. same t (≤ℚ_trans _ _ _ (≤ℚ_of_lt _ _ r.0) i) ∙ value-after p q rest t i))))
      (λ (w : (lt_ℚ q.0 last ≡ false) × (last ≤ℚ q.0)). subst (λ (b : Bool). FollowsFrom f last p ((if b then q ∷ points_before last rest else []) ++ (last, y) ∷ [])) (sym w.0)
      (goes (slope p q) (same p.0 (≤ℚ_refl p.0) ∙ value-first p (q ∷ rest) r) h (first_piece f p q rest last r w.1 same) (ends (same last (≤ℚ_of_lt _ _ h) ∙ sym e) refl)))
      (lt_ℚ_cases q.0 last)

  -- a cut follows its curve up to the last time, from time 0 on
  pub record Cut (points : List Point) (last : ℚ) (cut : List Point) : Type 0 where
    pub first : Point
    pub rest : List Point
    pub cut_is : cut ≡ first ∷ rest
    pub begins : first.0 ≡ 0ℚ
    pub follows : FollowsFrom (value points) last first rest

  pub checked_cut-is : (points : List Point) (last : ℚ) (cut : List Point) → IsCurve points → 0ℚ ≤ℚ last → checked_cut passes points last ≡ Ok cut → Cut points last cut
  unfolding checked_cut
  checked_cut-is [] last cut c h e = absurd c
  checked_cut-is (p ∷ rest) last cut c h e =
      let w = then_ok (checked_value passes (p ∷ rest) last) _ cut e in
      let y : w.between ≡ value (p ∷ rest) last = checked_value-is (p ∷ rest) last w.between c h w.first in
      subst (λ (l : List Point). Cut (p ∷ rest) last l) (same_Ok _ _ w.next)
      (⊎_elim
      (λ (v : (lt_ℚ p.0 last ≡ true) × (p.0 <ℚ last)). subst (λ (b : Bool). Cut (p ∷ rest) last ((if b then p ∷ points_before last rest else []) ++ (last, w.between) ∷ [])) (sym v.0)
      (record {
        first = p;
        rest = points_before last rest ++ (last, w.between) ∷ [];
        cut_is = refl;
        begins = c.0;
        follows =
            cut_from p rest last w.between c.1 v.1 y (value (p ∷ rest)) (λ t i. refl);
      }))
      (λ (v : (lt_ℚ p.0 last ≡ false) × (last ≤ℚ p.0)). subst (λ (b : Bool). Cut (p ∷ rest) last ((if b then p ∷ points_before last rest else []) ++ (last, w.between) ∷ [])) (sym v.0)
      (record { first = (last, w.between); rest = []; cut_is = refl; begins = ≤ℚ_antisymm last 0ℚ (subst (λ (z : ℚ). last ≤ℚ z) c.0 v.1) h; follows = ends (sym y) refl }))
      (lt_ℚ_cases p.0 last))

-- the same of the exact cut
pub cut-follows : (passes : Passing) (points : List Point) (last : ℚ) → IsCurve points → 0ℚ ≤ℚ last → Cut passes points last (points_before last points ++ (last, value points last) ∷ [])
cut-follows passes [] last c h = absurd c
cut-follows passes (p ∷ rest) last c h = ⊎_elim
    (λ (v : (lt_ℚ p.0 last ≡ true) × (p.0 <ℚ last)). subst (λ (b : Bool). Cut passes (p ∷ rest) last
    ((if b then p ∷ points_before last rest else []) ++ (last, value (p ∷ rest) last) ∷ [])) (sym v.0)
    (record {
      first = p;
      rest = points_before last rest ++ (last, value (p ∷ rest) last) ∷ [];
      cut_is = refl;
      begins = c.0;
      follows =
          cut_from passes p rest last (value (p ∷ rest) last) c.1 v.1 refl (value (p ∷ rest)) (λ t i. refl);
    }))
    (λ (v : (lt_ℚ p.0 last ≡ false) × (last ≤ℚ p.0)). subst (λ (b : Bool). Cut passes (p ∷ rest) last
    ((if b then p ∷ points_before last rest else []) ++ (last, value (p ∷ rest) last) ∷ [])) (sym v.0)
    (record { first = (last, value (p ∷ rest) last); rest = []; cut_is = refl; begins = ≤ℚ_antisymm last 0ℚ (subst (λ (z : ℚ). last ≤ℚ z) c.0 v.1) h; follows = ends refl refl }))
    (lt_ℚ_cases p.0 last)

-- what is computed is the exact cut
pub checked_cut-exact : (passes : Passing) (points : List Point) (last : ℚ) (cut : List Point) → IsCurve points → 0ℚ ≤ℚ last
    → checked_cut passes points last ≡ Ok cut → cut ≡ points_before last points ++ (last, value points last) ∷ []
unfolding checked_cut
checked_cut-exact passes points last cut c h e =
    let w = then_ok (checked_value passes points last) _ cut e in
    sym (same_Ok _ _ w.next) ∙ ap (λ (y : ℚ). points_before last points ++ (last, y) ∷ []) (checked_value-is passes points last w.between c h w.first)

-- a list that follows a function from time 0 on is a curve with its values
pub follows-curve : (f : ℚ → ℚ) (last : ℚ) (p : Point) (rest : List Point) → p.0 ≡ 0ℚ → FollowsFrom f last p rest → IsCurve (p ∷ rest)
follows-curve f last p rest e w = (e, follows-rises f last p rest w)

pub follows-values : (f : ℚ → ℚ) (last : ℚ) (p : Point) (rest : List Point) (t : ℚ) → p.0 ≡ 0ℚ → FollowsFrom f last p rest → 0ℚ ≤ℚ t → t ≤ℚ last → value (p ∷ rest) t ≡ f t
follows-values f last p rest t e w h k = value-follows f last p rest t w (subst (λ (z : ℚ). z ≤ℚ t) (sym e) h) k

-- a cut is a curve with the values of what is cut
pub checked_cut-values : (passes : Passing) (points : List Point) (last : ℚ) (cut : List Point) → IsCurve points → 0ℚ ≤ℚ last
    → checked_cut passes points last ≡ Ok cut → IsCutOf points last cut
checked_cut-values passes points last cut c h e =
    let w : Cut passes points last cut = checked_cut-is passes points last cut c h e in
    subst (λ (l : List Point). IsCutOf points last l) (sym w.cut_is)
    (record {
      curve = follows-curve (value points) last w.first w.rest w.begins w.follows;
      values = λ time i. follows-values (value points) last w.first w.rest time w.begins w.follows i.0 i.1;
    })

-- each point of a cut is on the curve, at a time up to the last one
pub checked_cut-each : (passes : Passing) (points : List Point) (last : ℚ) (cut : List Point) (i : ℕ) (x : Point) → IsCurve points → 0ℚ ≤ℚ last
    → checked_cut passes points last ≡ Ok cut → slice_get cut i ≡ Some x
    → LiesOn (value points) last 0ℚ x
checked_cut-each passes points last cut i x c h e g =
    let w : Cut passes points last cut = checked_cut-is passes points last cut c h e in
    subst (λ (t : ℚ). LiesOn (value points) last t x) w.begins
    (follows-each (value points) last w.first w.rest i x w.follows (ap (λ (l : List Point). slice_get l i) (sym w.cut_is) ∙ g))
