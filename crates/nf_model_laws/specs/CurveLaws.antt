-- Theorems about curves and affine functions.
use Rattle.std.specs.Prelude.{◌≡◌, List, [], ◌∷◌, ◌++◌}
use Rattle.nf_rational.specs.Rational.{ℚ}
use Rattle.nf_rational.specs.Operations.{0ℚ, ◌+ℚ◌, ◌-ℚ◌, ◌*ℚ◌}
use Rattle.nf_rational.specs.Order.{◌≤ℚ◌, ◌<ℚ◌}
use Rattle.nf_model.specs.Curve.{NeverFalls, slope, value, IsCurve}
use Rattle.nf_model_laws.specs.Affine.{IsAffine}

-- each point's value is at least that of the point before
abbrev pub ValuesRise : List (ℚ × ℚ) → Type 0
ValuesRise (p ∷ q ∷ rest) = (p.1 ≤ℚ q.1) × ValuesRise (q ∷ rest)
ValuesRise rest = Unit {0}

-- a curve has each point's value at its time, is affine from each point to the next, and is constant after the last
pub record CurveGoesByPoints : Type 0 where
  pub at_point : (front : List (ℚ × ℚ)) (p : ℚ × ℚ) (rest : List (ℚ × ℚ)) → IsCurve (front ++ p ∷ rest)
      → value (front ++ p ∷ rest) p.0 ≡ p.1
  pub between : (front : List (ℚ × ℚ)) (p q : ℚ × ℚ) (rest : List (ℚ × ℚ)) → IsCurve (front ++ p ∷ q ∷ rest)
      → IsAffine (value (front ++ p ∷ q ∷ rest)) p.0 q.0 (slope p q)
  pub after : (front : List (ℚ × ℚ)) (p : ℚ × ℚ) (time : ℚ) → IsCurve (front ++ p ∷ []) → p.0 ≤ℚ time → value (front ++ p ∷ []) time ≡ p.1

-- an appended point changes no value up to the previously last point, and the curve is affine from there to the appended point
pub record AppendedPointGoesOn : Type 0 where
  pub curve : (front : List (ℚ × ℚ)) (p q : ℚ × ℚ) → IsCurve (front ++ p ∷ []) → p.0 <ℚ q.0 → IsCurve ((front ++ p ∷ []) ++ q ∷ [])
  pub before : (front : List (ℚ × ℚ)) (p q : ℚ × ℚ) (time : ℚ) → IsCurve (front ++ p ∷ []) → p.0 <ℚ q.0 → 0ℚ ≤ℚ time → time ≤ℚ p.0
      → value ((front ++ p ∷ []) ++ q ∷ []) time ≡ value (front ++ p ∷ []) time
  pub between : (front : List (ℚ × ℚ)) (p q : ℚ × ℚ) → IsCurve (front ++ p ∷ []) → p.0 <ℚ q.0
      → IsAffine (value ((front ++ p ∷ []) ++ q ∷ [])) p.0 q.0 (slope p q)

-- removing a point with equal slopes before and after it changes no value
pub record EqualSlopesMerge : Type 0 where
  pub curve : (front : List (ℚ × ℚ)) (p q r : ℚ × ℚ) (rest : List (ℚ × ℚ)) → IsCurve (front ++ p ∷ q ∷ r ∷ rest)
      → IsCurve (front ++ p ∷ r ∷ rest)
  pub values : (front : List (ℚ × ℚ)) (p q r : ℚ × ℚ) (rest : List (ℚ × ℚ)) (time : ℚ) → IsCurve (front ++ p ∷ q ∷ r ∷ rest)
      → slope p q ≡ slope q r
      → 0ℚ ≤ℚ time → value (front ++ p ∷ q ∷ r ∷ rest) time ≡ value (front ++ p ∷ r ∷ rest) time

-- the values at the ends of an interval decide those of affine functions between
pub record EndsDecideAffine : Type 0 where
  pub same : (f g : ℚ → ℚ) (a b k l time : ℚ) → IsAffine f a b k → IsAffine g a b l → a <ℚ b → f a ≡ g a → f b ≡ g b
      → a ≤ℚ time → time ≤ℚ b → f time ≡ g time
  pub not_negative : (f : ℚ → ℚ) (a b k time : ℚ) → IsAffine f a b k → a <ℚ b → 0ℚ ≤ℚ f a → 0ℚ ≤ℚ f b
      → a ≤ℚ time → time ≤ℚ b → 0ℚ ≤ℚ f time

-- Sums, differences and compositions of affine functions are affine, and so is a restriction. The outer function of a composition needs
-- to be affine only on the values of the inner one.
pub record AffineFunctionsCombine : Type 0 where
  pub sum : (f g : ℚ → ℚ) (a b k l : ℚ) → IsAffine f a b k → IsAffine g a b l → IsAffine (λ t. f t +ℚ g t) a b (k +ℚ l)
  pub difference : (f g : ℚ → ℚ) (a b k l : ℚ) → IsAffine f a b k → IsAffine g a b l → IsAffine (λ t. f t -ℚ g t) a b (k -ℚ l)
  pub composed : (f g : ℚ → ℚ) (a b c d k m : ℚ) → IsAffine g a b k → IsAffine f c d m → a ≤ℚ b
      → ((t : ℚ) → a ≤ℚ t → t ≤ℚ b → (c ≤ℚ g t) × (g t ≤ℚ d))
      → IsAffine (λ t. f (g t)) a b (m *ℚ k)
  pub part : (f : ℚ → ℚ) (a b c d k : ℚ) → IsAffine f a d k → a ≤ℚ b → b ≤ℚ d → c ≤ℚ d → IsAffine f b c k

-- a curve whose values never fall from point to point never falls
abbrev pub RisingPointsRise : Type 0
RisingPointsRise = (points : List (ℚ × ℚ)) → IsCurve points → ValuesRise points → NeverFalls (value points)
