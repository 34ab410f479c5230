-- A theorem on nodes with constant labels.
use Rattle.std.specs.Prelude.{◌≡◌, ℕ, List}
use Rattle.nf_rational.specs.Rational.{ℚ}
use Rattle.nf_rational.specs.Operations.{0ℚ}
use Rattle.nf_rational.specs.Order.{◌≤ℚ◌}
use Rattle.nf_model.specs.Entries.{number_at}
use Rattle.nf_model.specs.Network.{Link, Network, IsNetwork, IsLink}
use Rattle.nf_model.specs.ThinFlow.{sets_at, IsThinFlow}

-- In a thin flow for the sets of slacks, no flow enters or leaves a node whose label is constant.
pub record StillNodesCarryNoFlow : Type 0 where
  pub leaves : (net : Network) (labels : List ℚ) (rate : ℚ) (flows slopes : List ℚ) → IsNetwork net → 0ℚ ≤ℚ rate
      → IsThinFlow net (sets_at net labels) rate flows slopes
      → (e : ℕ) (link : Link) → IsLink net e link → number_at slopes link.tail ≡ 0ℚ → number_at flows e ≡ 0ℚ
  pub comes : (net : Network) (labels : List ℚ) (rate : ℚ) (flows slopes : List ℚ) → IsNetwork net → 0ℚ ≤ℚ rate
      → IsThinFlow net (sets_at net labels) rate flows slopes
      → (e : ℕ) (link : Link) → IsLink net e link → number_at slopes link.head ≡ 0ℚ → number_at flows e ≡ 0ℚ
