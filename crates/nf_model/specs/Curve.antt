-- Curves, and properties of functions of time.
use Rattle.std.specs.Prelude.{◌≡◌, ◌≢◌, ◌⊎◌, if◌then◌else◌, List, [], ◌∷◌, Any}
use Rattle.nf_rational.specs.Rational.{ℚ}
use Rattle.nf_rational.specs.Operations.{0ℚ, ◌+ℚ◌, ◌-ℚ◌, ◌*ℚ◌, ◌/ℚ◌}
use Rattle.nf_rational.specs.Order.{◌≤ℚ◌, ◌<ℚ◌, lt_ℚ}

-- ---- functions of time

-- the time is in the closed interval [`first`, `last`]
abbrev pub Within : ℚ → ℚ → ℚ → Type 0
Within first last time = (first ≤ℚ time) × (time ≤ℚ last)

-- y is the greatest value of f in [`first`, `last`]: f attains y there, and never exceeds it there
pub record IsGreatest (f : ℚ → ℚ) (first last y : ℚ) : Type 0 where
  pub taken : (time : ℚ) × Within first last time × (f time ≡ y)
  pub bound : (time : ℚ) → Within first last time → f time ≤ℚ y

-- y is the least value of f in [`first`, `last`]: f attains y there, and is never below it there
pub record IsLeast (f : ℚ → ℚ) (first last y : ℚ) : Type 0 where
  pub taken : (time : ℚ) × Within first last time × (f time ≡ y)
  pub bound : (time : ℚ) → Within first last time → y ≤ℚ f time

-- f never falls from time 0 on
abbrev pub NeverFalls : (ℚ → ℚ) → Type 0
NeverFalls f = (earlier later : ℚ) → 0ℚ ≤ℚ earlier → earlier ≤ℚ later → f earlier ≤ℚ f later

-- ---- curves (this project's own form): a list of points

-- a time and a value
abbrev pub Point : Type 0
Point = ℚ × ℚ

-- the slope from one point to the next
abbrev pub slope : Point → Point → ℚ
slope p q = (q.1 -ℚ p.1) /ℚ (q.0 -ℚ p.0)

-- the value at a time, from the first point's time on; it is linear between neighbouring points and constant after the last
abbrev pub value : List (ℚ × ℚ) → ℚ → ℚ
value [] time = 0ℚ
value (p ∷ []) time = p.1
value (p ∷ q ∷ rest) time = if lt_ℚ time q.0 then p.1 +ℚ slope p q *ℚ (time -ℚ p.0) else value (q ∷ rest) time

-- each point is later than the one before
abbrev pub TimesRise : List (ℚ × ℚ) → Type 0
TimesRise [] = Unit {0}
TimesRise (p ∷ []) = Unit {0}
TimesRise (p ∷ q ∷ rest) = (p.0 <ℚ q.0) × TimesRise (q ∷ rest)

-- a curve has at least one point, and its times increase strictly from 0
abbrev pub IsCurve : List (ℚ × ℚ) → Type 0
IsCurve [] = ⊥
IsCurve (p ∷ rest) = (p.0 ≡ 0ℚ) × TimesRise (p ∷ rest)

-- f is equal to a curve from time 0 on
pub record HasCurve (f : ℚ → ℚ) : Type 0 where
  pub points : List (ℚ × ℚ)
  pub curve : IsCurve points
  pub values : (time : ℚ) → 0ℚ ≤ℚ time → f time ≡ value points time

-- short form: no inner point has equal slopes on both sides
abbrev pub IsShort : List (ℚ × ℚ) → Type 0
IsShort (p ∷ q ∷ r ∷ rest) = (slope p q ≢ slope q r) × IsShort (q ∷ r ∷ rest)
IsShort rest = Unit {0}

-- the rates are the slopes from each point to the next, one rate fewer than points
abbrev pub AreSlopes : List (ℚ × ℚ) → List ℚ → Type 0
AreSlopes (p ∷ q ∷ rest) (rate ∷ rates) = (rate ≡ slope p q) × AreSlopes (q ∷ rest) rates
AreSlopes (p ∷ []) [] = Unit {0}
AreSlopes points rates = ⊥

-- The slope changes at this time. The time is that of an inner point with different slopes before and after it, or that of the last point
-- if the slope before it is not 0.
abbrev pub TurnsAt : ℚ → List (ℚ × ℚ) → Type 0
TurnsAt time (p ∷ q ∷ []) = (time ≡ q.0) × (slope p q ≢ 0ℚ)
TurnsAt time (p ∷ q ∷ r ∷ rest) = ((time ≡ q.0) × (slope p q ≢ slope q r)) ⊎ TurnsAt time (q ∷ r ∷ rest)
TurnsAt time points = ⊥

-- the time is a corner of some curves in [0, `last`]: it is 0, `last`, or a time between at which the slope of one of them changes
abbrev pub IsCorner : List (List (ℚ × ℚ)) → ℚ → ℚ → Type 0
IsCorner curves last time = (time ≡ 0ℚ) ⊎ ((time ≡ last) ⊎ ((0ℚ <ℚ time) × (time <ℚ last) × Any (TurnsAt time) curves))
