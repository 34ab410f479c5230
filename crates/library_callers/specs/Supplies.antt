-- Whether a network can carry its last supply rate.
use Rattle.std.specs.Prelude.{◌≡◌, ℕ, None}
use Rattle.nf_rational.specs.Order.{◌≤ℚ◌}
use Rattle.nf_frac_def.specs.Passing.{passes_Q}
use Rattle.nf_model.specs.Network.{Network}
use Rattle.nf_forever_def.specs.ForeverRun.{Forever, IsForever}
use Rattle.nf_forever_laws.specs.Cuts.{Cut, IsStaticCut, cut_capacity}
use Rattle.nf_forever_laws.specs.TailGrowth.{last_rate}

-- the capacity of each static cut is at least the last supply rate
abbrev pub CutsCarry : Network → Type 0
CutsCarry net = (cut : Cut) → IsStaticCut net cut → last_rate net ≤ℚ cut_capacity net cut

-- the run without a horizon, of so many phases and of so many patterns in each, is stopped
pub record HasNoTail (net : Network) (phases patterns : ℕ) : Type 0 where
  pub result : Forever
  pub run : IsForever passes_Q net phases patterns result
  pub none : result.tail ≡ None
