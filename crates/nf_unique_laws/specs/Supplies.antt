-- Networks that differ only in their supply.
use Rattle.std.specs.Prelude.{◌≡◌, ℕ, ◌<◌, List, ◌++◌}
use Rattle.nf_rational.specs.Rational.{ℚ}
use Rattle.nf_rational.specs.Operations.{0ℚ}
use Rattle.nf_rational.specs.Order.{◌≤ℚ◌}
use Rattle.nf_model.specs.Curve.{Within}
use Rattle.nf_model.specs.Network.{Link, Piece, Network, IsNetwork, ArePieces, IsLink, IsPiece, supplied}
use Rattle.nf_model.specs.Equilibrium.{Flow, label, queue, Equilibrium}

-- The network with these pieces of supply.
abbrev pub supplied_by : Network → List Piece → Network
supplied_by net pieces = record { nodes = net.nodes; source = net.source; sink = net.sink; links = net.links; pieces = pieces }

-- The two supplies agree up to `until`.
abbrev pub SupplyAlike : List Piece → List Piece → ℚ → Type 0
SupplyAlike pieces others until = (time : ℚ) → Within 0ℚ until time → supplied pieces time ≡ supplied others time

-- No piece starts before `until`.
abbrev pub StartFrom : List Piece → ℚ → Type 0
StartFrom pieces until = (i : ℕ) (piece : Piece) → IsPiece pieces i piece → until ≤ℚ piece.start

-- If two networks' supplies agree up to `until`, their equilibria have equal labels for departures up to `until`. They have equal queues up
-- to the arrival of such a departure at the link's tail. Supplies agree up to `until` if they differ only in pieces that start at `until`
-- or later.
pub record LaterSupplyIsUnfelt : Type 0 where
  pub labels : (net : Network) (pieces : List Piece) (until : ℚ) (one other : Flow) → IsNetwork net → ArePieces pieces
      → SupplyAlike net.pieces pieces until
      → Equilibrium net one → Equilibrium (supplied_by net pieces) other → (v : ℕ) (departure : ℚ) → v < net.nodes
      → Within 0ℚ until departure → Within 0ℚ one.reached departure → Within 0ℚ other.reached departure
      → label one v departure ≡ label other v departure
  pub queues : (net : Network) (pieces : List Piece) (until : ℚ) (one other : Flow) → IsNetwork net → ArePieces pieces
      → SupplyAlike net.pieces pieces until
      → Equilibrium net one → Equilibrium (supplied_by net pieces) other → (e : ℕ) (link : Link) (departure time : ℚ) → IsLink net e link
      → Within 0ℚ until departure → Within 0ℚ one.reached departure → Within 0ℚ other.reached departure
      → Within 0ℚ (label one link.tail departure) time
      → queue one e time ≡ queue other e time
  pub pieces : (front back others : List Piece) (until : ℚ) → StartFrom back until → StartFrom others until
      → SupplyAlike (front ++ back) (front ++ others) until
