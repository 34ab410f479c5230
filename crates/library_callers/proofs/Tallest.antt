-- The greatest value of a curve up to a time is that of a point, or that at the time.
use Rattle.std.proofs.Common.{◌≡◌, List, [], ◌∷◌, ⊎_elim, Bool, true, false, if◌then◌else◌, fold, refl, sym, ap, subst, ◌∙◌}
use Rattle.nf_rational.specs.Rational.{ℚ}
use Rattle.nf_rational.specs.Operations.{0ℚ, ◌+ℚ◌, ◌-ℚ◌, ◌*ℚ◌}
use Rattle.nf_rational.specs.Order.{◌≤ℚ◌, ◌<ℚ◌, le_ℚ, max_ℚ}
use Rattle.nf_rational_laws.proofs.Polynomial.{reading_of}
use Rattle.nf_rational_laws.proofs.Linear.{le, le_times, linear_le}
use Rattle.nf_rational_laws.proofs.Order.{≤ℚ_of_lt, ≤ℚ_of_same, lt_or_le_ℚ}
use Rattle.nf_rational_laws.proofs.Chains.{≤ℚ_refl, ≤ℚ_trans}
use Rattle.nf_rational_laws.proofs.Tests.{le_ℚ_cases, test_of_le}
use Rattle.nf_rational_laws.proofs.Extremes.{max_keeps, max_left, max_right}
use Rattle.nf_model.specs.Curve.{Point, Within, IsGreatest, slope, value, TimesRise, IsCurve}
use Rattle.nf_model_laws.proofs.Affine.{line_end}
use Rattle.nf_model_laws.proofs.Curves.{by_first, value-before, value-after, value-first, slope-times}
use Rattle.library_callers.specs.Greatest.{taller}

-- the values of the points up to `last` are so
abbrev pub AllUpTo : (ℚ → Type 0) → ℚ → List Point → Type 0
AllUpTo P last [] = Unit {0}
AllUpTo P last (p ∷ rest) = (p.0 ≤ℚ last → P p.1) × AllUpTo P last rest

weaker : (P Q : ℚ → Type 0) (last : ℚ) (points : List Point) → ((y : ℚ) → P y → Q y) → AllUpTo P last points → AllUpTo Q last points
weaker P Q last [] f all = tt
weaker P Q last (p ∷ rest) f all = ((λ h. f p.1 (all.0 h)), weaker P Q last rest f all.1)

-- ---- one point
taller_cases : (last so_far : ℚ) (p : Point) (P : ℚ → Type 0) → (p.0 ≤ℚ last → P (max_ℚ so_far p.1)) → P so_far → P (taller last so_far p)
taller_cases last so_far p P f g = ⊎_elim
    (λ (w : (le_ℚ p.0 last ≡ true) × (p.0 ≤ℚ last)). subst P (sym (ap (λ (b : Bool). if b then max_ℚ so_far p.1 else so_far) w.0)) (f w.1))
    (λ (w : (le_ℚ p.0 last ≡ false) × (last <ℚ p.0)). subst P (sym (ap (λ (b : Bool). if b then max_ℚ so_far p.1 else so_far) w.0)) g)
    (le_ℚ_cases p.0 last)

taller_takes : (last so_far : ℚ) (p : Point) → p.0 ≤ℚ last → p.1 ≤ℚ taller last so_far p
taller_takes last so_far p h =
    subst (λ (y : ℚ). p.1 ≤ℚ y) (sym (ap (λ (b : Bool). if b then max_ℚ so_far p.1 else so_far) (test_of_le p.0 last h))) (max_right so_far p.1)

-- ---- all points
keeps : (P : ℚ → Type 0) (last so_far : ℚ) (points : List Point) → P so_far → AllUpTo P last points → P (fold (taller last) so_far points)
keeps P last so_far [] h all = h
keeps P last so_far (p ∷ rest) h all =
    keeps P last (taller last so_far p) rest (taller_cases last so_far p P (λ k. max_keeps P so_far p.1 h (all.0 k)) h) all.1

grows : (last so_far : ℚ) (points : List Point) → so_far ≤ℚ fold (taller last) so_far points
grows last so_far [] = ≤ℚ_refl so_far
grows last so_far (p ∷ rest) =
    ≤ℚ_trans so_far (taller last so_far p) _ (taller_cases last so_far p (λ (y : ℚ). so_far ≤ℚ y) (λ _. max_left so_far p.1) (≤ℚ_refl so_far)) (grows last (taller last so_far p) rest)

covers : (last so_far : ℚ) (points : List Point) → AllUpTo (λ (y : ℚ). y ≤ℚ fold (taller last) so_far points) last points
covers last so_far [] = tt
covers last so_far (p ∷ rest) =
    ((λ h. ≤ℚ_trans p.1 (taller last so_far p) _ (taller_takes last so_far p h) (grows last (taller last so_far p) rest)), covers last (taller last so_far p) rest)

-- ---- each point's value is one of the curve
abbrev Taken : ℚ → ℚ → List Point → ℚ → Type 0
Taken first last points y = (time : ℚ) × (first ≤ℚ time) × (time ≤ℚ last) × (value points time ≡ y)

on_curve : (last : ℚ) (p : Point) (rest : List Point) → TimesRise (p ∷ rest) → AllUpTo (Taken p.0 last (p ∷ rest)) last (p ∷ rest)
on_curve last p [] r = ((λ h. (p.0, ≤ℚ_refl p.0, h, refl)), tt)
on_curve last p (q ∷ rest) r = (
  (λ h. (p.0, ≤ℚ_refl p.0, h, value-first p (q ∷ rest) r)),
  weaker (Taken q.0 last (q ∷ rest)) (Taken p.0 last (p ∷ q ∷ rest)) last (q ∷ rest)
      (λ y w. (w.0, ≤ℚ_trans p.0 q.0 w.0 (≤ℚ_of_lt p.0 q.0 r.0) w.1, w.2, value-after p q rest w.0 w.1 ∙ w.3))
      (on_curve last q rest r.1),
)

-- ---- no value of the curve is greater than those of its points up to `last`, and that at `last`
line_below : (s v t u n m : ℚ) → s ≤ℚ t → t ≤ℚ u → v ≤ℚ m → v +ℚ n *ℚ (u -ℚ s) ≤ℚ m → v +ℚ n *ℚ (t -ℚ s) ≤ℚ m
line_below s v t u n m h k a b = ⊎_elim
    (λ (l : 0ℚ <ℚ n). linear_le (s ∷ v ∷ t ∷ u ∷ n ∷ m ∷ []) (le_times (≤ℚ_of_lt 0ℚ n l) k ∷ le b ∷ []) (search reading_of depth 12) tt)
    (λ (l : n ≤ℚ 0ℚ).
    let run : 0ℚ ≤ℚ t -ℚ s = linear_le (s ∷ t ∷ []) (le h ∷ []) (search reading_of depth 12) tt in
    linear_le (s ∷ v ∷ t ∷ u ∷ n ∷ m ∷ []) (le_times run l ∷ le a ∷ []) (search reading_of depth 12) tt)
    (lt_or_le_ℚ 0ℚ n)

value_below : (last m : ℚ) (p : Point) (rest : List Point) (t : ℚ) → TimesRise (p ∷ rest) → AllUpTo (λ (y : ℚ). y ≤ℚ m) last (p ∷ rest) → value (p ∷ rest) last ≤ℚ m
    → p.0 ≤ℚ t → t ≤ℚ last → value (p ∷ rest) t ≤ℚ m
value_below last m p [] t r all end h k = end
value_below last m p (q ∷ rest) t r all end h k = by_first p q rest t
    (λ b e. subst (λ (y : ℚ). y ≤ℚ m) (sym e) (⊎_elim
    (λ (a : last <ℚ q.0). line_below p.0 p.1 t last (slope p q) m h k (all.0 (≤ℚ_trans p.0 t last h k))
    (subst (λ (y : ℚ). y ≤ℚ m) (value-before p q rest last a) end))
    (λ (a : q.0 ≤ℚ last). line_below p.0 p.1 t q.0 (slope p q) m h (≤ℚ_of_lt t q.0 b) (all.0 (≤ℚ_trans p.0 t last h k))
    (subst (λ (y : ℚ). y ≤ℚ m) (sym (line_end p.0 p.1 q.0 q.1 (slope p q) (slope-times p q r.0))) (all.1.0 a)))
    (lt_or_le_ℚ last q.0)))
    (λ b e. subst (λ (y : ℚ). y ≤ℚ m) (sym e)
    (value_below last m q rest t r.1 all.1 (subst (λ (y : ℚ). y ≤ℚ m) (value-after p q rest last (≤ℚ_trans q.0 t last b k)) end) b k))

-- ---- the greatest value
abbrev AtSome : ℚ → List Point → ℚ → Type 0
AtSome last points y = (time : ℚ) × Within 0ℚ last time × (value points time ≡ y)

pub is_greatest : (points : List Point) (last : ℚ) → IsCurve points → 0ℚ ≤ℚ last → IsGreatest (value points) 0ℚ last (fold (taller last) (value points last) points)
is_greatest [] last c h = absurd c
is_greatest (p ∷ rest) last c h =
    let first : 0ℚ ≤ℚ p.0 = ≤ℚ_of_same 0ℚ p.0 (sym c.0) in
    record {
      taken = keeps (AtSome last (p ∷ rest)) last (value (p ∷ rest) last) (p ∷ rest) (last, (h, ≤ℚ_refl last), refl)
          (weaker (Taken p.0 last (p ∷ rest)) (AtSome last (p ∷ rest)) last (p ∷ rest) (λ y w. (w.0, (≤ℚ_trans 0ℚ p.0 w.0 first w.1, w.2), w.3)) (on_curve last p rest c.1));
      bound = λ t w. value_below last (fold (taller last) (value (p ∷ rest) last) (p ∷ rest)) p rest t c.1
          (covers last (value (p ∷ rest) last) (p ∷ rest)) (grows last (value (p ∷ rest) last) (p ∷ rest))
          (subst (λ (z : ℚ). z ≤ℚ t) (sym c.0) w.0) w.1;
    }
