-- The state after a refused push.
use Rattle.std.specs.Prelude.{◌≡◌}
use Rattle.nf_quick_def.specs.Quick.{QuickStanding}

-- The two states differ at most in the flow.
pub record DiffersByFlow (old new : QuickStanding) : Type 0 where
  pub pushed : new.pushed ≡ old.pushed
  pub rate : new.rate ≡ old.rate
  pub cost : new.cost ≡ old.cost
  pub time : new.time ≡ old.time
