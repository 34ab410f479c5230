-- Values that are those of points are known.
use Rattle.std.proofs.Common.{◌≡◌, ℕ, zero, suc, List, [], ◌∷◌, map, Bool, refl, sym, ap, subst, ◌∙◌, Some, Ok, slice_get, if◌then◌else◌}
use Rattle.nf_routes_links.proofs.Common.{not_same, ℚ, ◌≤ℚ◌, lt_ℚ, same_Ok, Passing, passes_Q, Checked, each, ◌>>=◌, Point, TimesRise, IsCurve, sides_at}
use Rattle.nf_routes_links.proofs.Common.{both_times, then_ok, AreKnown, AreThere, right_point, checked_line}
use Rattle.nf_curve.proofs.Placing.{first-least}
use Rattle.nf_rational_laws.proofs.Tests.{test_of_not_less}
use Rattle.nf_model_laws.proofs.Affine.{<_≤_trans}
use Rattle.nf_curve_def.specs.Lines.{Sides}
use Rattle.nf_curve_def.specs.Values.{value_from, checked_value}
use Rattle.nf_rational_laws.proofs.SignTests.{is_same-itself}

-- ---- the value at the time of a point
module _ (passes : Passing) where
  at_first : (p : Point) (rest : List Point) → value_from passes p rest p.0 ≡ Ok p.1
  at_first p [] = refl
  at_first p (s ∷ rest) = ap (λ (b : Bool). if b then Ok p.1 else (if lt_ℚ p.0 s.0 then checked_line passes p s p.0 else value_from passes s rest p.0)) (is_same-itself p.0)

  at_later : (p : Point) (rest : List Point) (i : ℕ) (q : Point) → TimesRise (p ∷ rest) → slice_get (p ∷ rest) i ≡ Some q → value_from passes p rest q.0 ≡ Ok q.1
  at_later p rest zero q r h = let same : p ≡ q = cc in subst (λ (x : Point). value_from passes p rest x.0 ≡ Ok x.1) same (at_first p rest)
  at_later p [] (suc i) q r h = absurd (cc)
  at_later p (s ∷ rest) (suc i) q r h =
      let from : s.0 ≤ℚ q.0 = first-least s rest i q r.1 h in
      ap (λ (b : Bool). if b then Ok p.1 else (if lt_ℚ q.0 s.0 then checked_line passes p s q.0 else value_from passes s rest q.0)) (not_same q.0 p.0 (<_≤_trans _ _ _ r.0 from))
      ∙ ap (λ (b : Bool). if b then checked_line passes p s q.0 else value_from passes s rest q.0) (test_of_not_less q.0 s.0 from)
      ∙ at_later s rest i q r.1 h

  pub value_at-point : (points : List Point) (i : ℕ) (q : Point) → IsCurve points → slice_get points i ≡ Some q → checked_value passes points q.0 ≡ Ok q.1
  unfolding checked_value
  value_at-point [] i q c h = absurd c
  value_at-point (p ∷ rest) i q c h = at_later p rest i q c.1 h

  -- ---- both values, by each of them
  pub sides_of-values : (left right : List Point) (time l r : ℚ) → checked_value passes left time ≡ Ok l → checked_value passes right time ≡ Ok r
      → sides_at passes left right time ≡ Ok (record { time = time; left = l; right = r })
  sides_of-values left right time l r h k =
      ap (λ (v : Checked ℚ). v >>= λ l. checked_value passes right time >>= λ r. Ok (record { time = time; left = l; right = r })) h
      ∙ ap (λ (v : Checked ℚ). v >>= λ r. Ok (record { time = time; left = l; right = r })) k

pub sides_there : (left right known : List Point) (time : ℚ) (sides : Sides) → IsCurve left → AreKnown right known → AreThere left known time sides
    → sides_at passes_Q left right time ≡ Ok sides
sides_there left right known time sides c are there =
    sides_of-values passes_Q left right time sides.left sides.right (value_at-point passes_Q left there.left_is.place (time, sides.left) c there.left_is.is)
    (are.each there.right_is.place (time, sides.right) there.right_is.is)
    ∙ ap (λ (t : ℚ). Ok (record { time = t; left = sides.left; right = sides.right })) (sym there.time_is)

-- ---- exits that were computed are known
pub known_first : (exit known : List Point) → IsCurve exit → known ≡ exit → AreKnown exit known
known_first exit known c e = subst (λ (l : List Point). AreKnown exit l) (sym e) (record { each = λ i p h. value_at-point passes_Q exit i p c h })

one_known : (exit : List Point) (time l r : ℚ) (sides : List Sides) → checked_value passes_Q exit time ≡ Ok r → AreKnown exit (map right_point sides)
    → AreKnown exit (map right_point (record { time = time; left = l; right = r } ∷ sides))
one_known exit time l r sides h c = record { each = λ i p k. at i p k }
  where
    at : (i : ℕ) (p : Point) → slice_get ((time, r) ∷ map right_point sides) i ≡ Some p → checked_value passes_Q exit p.0 ≡ Ok p.1
    at zero p k = let same : ◌≡◌ {A = Point} (time, r) p = cc in subst (λ (x : Point). checked_value passes_Q exit x.0 ≡ Ok x.1) same h
    at (suc i) p k = c.each i p k

known_all : (entry exit : List Point) (times : List ℚ) (sides : List Sides) → each (sides_at passes_Q entry exit) times ≡ Ok sides → AreKnown exit (map right_point sides)
known_all entry exit [] sides e = subst (λ (l : List Sides). AreKnown exit (map right_point l)) (same_Ok _ _ e) (record { each = λ i p k. absurd (cc) })
known_all entry exit (time ∷ times) sides e =
    let s = then_ok (sides_at passes_Q entry exit time) _ sides e in
    let more = then_ok (each (sides_at passes_Q entry exit) times) _ sides s.next in
    let l = then_ok (checked_value passes_Q entry time) _ s.between s.first in
    let r = then_ok (checked_value passes_Q exit time) _ s.between l.next in
    subst (λ (z : List Sides). AreKnown exit (map right_point z)) (same_Ok _ _ more.next)
    (subst (λ (z : Sides). AreKnown exit (map right_point (z ∷ more.between))) (same_Ok _ _ r.next)
    (one_known exit time l.between r.between more.between r.first (known_all entry exit times more.between more.first)))

pub known_next : (entry exit : List Point) (sides : List Sides) → each (sides_at passes_Q entry exit) (both_times entry exit) ≡ Ok sides → AreKnown exit (map right_point sides)
known_next entry exit sides e = known_all entry exit (both_times entry exit) sides e
