-- Operation sequences on a piece of a curve, from one point to the next. They compute the slope, the value at a time, the time of a
-- value, and the crossing time of two pieces.
use Rattle.nf_rational.specs.Rational.{ℚ}
use Rattle.nf_frac_def.specs.Passing.{Passing}
use Rattle.nf_frac_def.specs.Checked.{Checked, checked, ◌>>=◌}
use Rattle.nf_frac_def.specs.declared.Op.TheVariants.{Sum, Difference, Product, Quotient}
use Rattle.nf_model.specs.Curve.{Point}

-- the values of two curves at one time
pub record Sides : Type 0 where
  pub time : ℚ
  pub left : ℚ
  pub right : ℚ

module _ (passes : Passing) where
  unfoldable pub checked_slope : Point → Point → Checked ℚ
  checked_slope p q = do
    rise ← checked passes Difference q.1 p.1
    run ← checked passes Difference q.0 p.0
    checked passes Quotient rise run

  -- computes the value at a time, on the line through p and q
  unfoldable pub checked_line : Point → Point → ℚ → Checked ℚ
  checked_line p q time = do
    k ← checked_slope p q
    d ← checked passes Difference time p.0
    m ← checked passes Product k d
    checked passes Sum p.1 m

  -- computes the time of a value on the line through p and q, whose slope must not be 0
  unfoldable pub checked_inverse : Point → Point → ℚ → Checked ℚ
  checked_inverse p q y = do
    k ← checked_slope p q
    a ← checked passes Difference y p.1
    b ← checked passes Quotient a k
    checked passes Sum p.0 b

  -- computes the time at which both curves are equal, if the greater one at a is the lesser one at b
  unfoldable pub checked_cross : Sides → Sides → Checked ℚ
  checked_cross a b = do
    before ← checked passes Difference a.left a.right
    after ← checked passes Difference b.left b.right
    change ← checked passes Difference before after
    part ← checked passes Quotient before change
    length ← checked passes Difference b.time a.time
    m ← checked passes Product part length
    checked passes Sum a.time m
