-- Whether an amount can arrive by a deadline.
use Rattle.std.specs.Prelude.{ℕ}
use Rattle.nf_rational.specs.Rational.{ℚ}
use Rattle.nf_rational.specs.Order.{◌≤ℚ◌}
use Rattle.nf_model.specs.Network.{Network}
use Rattle.nf_model.specs.Quickest.{Delivers, IsQuickest}

-- the least time by which a feasible flow delivers the amount is not after the deadline
pub record FitsBefore (net : Network) (amount deadline : ℚ) : Type 0 where
  pub time : ℚ
  pub quickest : IsQuickest net amount time
  pub in_time : time ≤ℚ deadline

-- no feasible flow delivers the amount by the deadline
abbrev pub NothingArrivesBy : Network → ℚ → ℚ → Type 0
NothingArrivesBy net amount deadline = (entered left : ℕ → ℚ → ℚ) → Delivers net entered left amount deadline → ⊥
