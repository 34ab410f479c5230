-- Arrivals along walks and at nodes (Koch and Skutella 2011). The flow is given by the cumulative inflow of each link: `amount e time`
-- has entered link e by `time`.
use Rattle.std.specs.Prelude.{◌≡◌, ℕ, List, [], ◌∷◌}
use Rattle.nf_rational.specs.Rational.{ℚ}
use Rattle.nf_rational.specs.Order.{◌≤ℚ◌}
use Rattle.nf_model.specs.Walk.{IsWalk}
use Rattle.nf_model.specs.Network.{Link, Network, IsLink, hops}
use Rattle.nf_model.specs.Queue.{IsExit}

-- a traveller who begins the walk at `time` ends it at `arrival`: the exit of each link is the entry time of the next
abbrev pub Arrives : Network → (ℕ → ℚ → ℚ) → List ℕ → ℚ → ℚ → Type 0
Arrives net amount [] time arrival = time ≡ arrival
Arrives net amount (e ∷ walk) time arrival =
    (link : Link) × IsLink net e link × (exit : ℚ) × IsExit link.transit link.capacity (amount e) time exit
    × Arrives net amount walk exit arrival

-- This is the earliest arrival at node v over all walks from the source, for this departure. Some walk arrives then, and none arrives
-- earlier.
pub record IsEarliest (net : Network) (amount : ℕ → ℚ → ℚ) (v : ℕ) (departure arrival : ℚ) : Type 0 where
  pub taken : (walk : List ℕ) × IsWalk (hops net) walk net.source v × Arrives net amount walk departure arrival
  pub least : (walk : List ℕ) (other : ℚ) → IsWalk (hops net) walk net.source v → Arrives net amount walk departure other → arrival ≤ℚ other
