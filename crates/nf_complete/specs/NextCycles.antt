-- The next cycle to cancel.
use Rattle.std.specs.Prelude.{ℕ, ◌<◌, Bool, List}
use Rattle.nf_rational.specs.Rational.{ℚ}
use Rattle.nf_model.specs.Network.{Network, hops}
use Rattle.nf_model.specs.ThinFlow.{Sets}
use Rattle.nf_model.specs.Pattern.{IsForest}
use Rattle.nf_complete_def.specs.Interior.{IsInterior, IsNextCycle}

-- the interior links before `last` are a forest
abbrev pub AreForestBelow : Network → Sets → List ℚ → List ℚ → ℕ → Type 0
AreForestBelow net sets slopes flows last = IsForest (hops net) (λ e. (e < last) × IsInterior net sets slopes flows e)

pub record ClosesNext (net : Network) (sets : Sets) (slopes flows : List ℚ) (last : ℕ) (steps : List (ℕ × Bool)) : Type 0 where
  pub is_next : IsNextCycle net sets slopes flows steps
  pub before : AreForestBelow net sets slopes flows last
