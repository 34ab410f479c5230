-- Theorems about slacks and the sets of links.
use Rattle.std.specs.Prelude.{◌≡◌, ◌↔◌, ℕ, List, length}
use Rattle.nf_rational.specs.Rational.{ℚ}
use Rattle.nf_rational.specs.Operations.{0ℚ}
use Rattle.nf_rational.specs.Order.{◌≤ℚ◌, ◌<ℚ◌}
use Rattle.nf_model.specs.Entries.{Has}
use Rattle.nf_model.specs.Network.{Link, Network, IsLink, hop_of, hops}
use Rattle.nf_model.specs.ThinFlow.{slack, slacks_of, sets_at}
use Rattle.nf_model.specs.Phases.{moved, slack_after}

-- A link is active if its slack is at least 0, and resetting if its slack is positive. The slack after a duration is the slack at the
-- labels moved by that duration.
pub record SlacksMakeSets : Type 0 where
  pub active : (net : Network) (labels : List ℚ) (e : ℕ) (link : Link) → IsLink net e link
      → Has (sets_at net labels).active e ↔ (0ℚ ≤ℚ slack labels (hop_of link))
  pub resetting : (net : Network) (labels : List ℚ) (e : ℕ) (link : Link) → IsLink net e link
      → Has (sets_at net labels).resetting e ↔ (0ℚ <ℚ slack labels (hop_of link))
  pub moves : (net : Network) (labels slopes : List ℚ) (e : ℕ) (link : Link) (while : ℚ) → IsLink net e link → length labels ≡ length slopes
      → slack_after (slacks_of (hops net) labels) slopes e link while ≡ slack (moved labels slopes while) (hop_of link)
