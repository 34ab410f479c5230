-- A pattern of a network and its sets, with the ranges of the scaled flows that fill the links.
use Rattle.std.specs.Prelude.{◌≡◌, ℕ, List, length}
use Rattle.nf_rational.specs.Rational.{ℚ}
use Rattle.nf_model.specs.Network.{IsNetwork}
use Rattle.nf_thin_balance.specs.declared.stated.Stated.{Stated}
use Rattle.nf_thin_balance.specs.Conserving.{CanFlow}

-- The network is well formed, and there is one flag, one range and one state for each link.
pub record IsStated (stated : Stated) : Type 0 where
  pub network : IsNetwork stated.net.now.net
  pub sets : length stated.sets.now.active ≡ length stated.net.now.net.links
  pub full : length stated.full.now ≡ length stated.net.now.net.links
  pub states : length stated.pattern.now ≡ length stated.net.now.net.links

-- The links can carry these flows in their states.
abbrev pub CanCarryFlows : ℕ → Stated → ℚ → List ℚ → Type 0
CanCarryFlows scale stated rate flows = CanFlow scale stated.net.now.net stated.sets.now rate stated.pattern.now stated.full.now flows
