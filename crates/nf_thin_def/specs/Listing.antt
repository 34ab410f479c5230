-- The listing: all listed patterns, in order.
use Rattle.std.specs.Prelude.{◌≡◌, ℕ, suc, ◌<◌, Bool, List, Some, slice_get}
use Rattle.nf_model.specs.Walk.{Hop}
use Rattle.nf_model.specs.Network.{Network, hops, unbounded}
use Rattle.nf_model.specs.ThinFlow.{Sets}
use Rattle.nf_model.specs.Pattern.{Pattern, IsListed, IsBefore}

-- The pattern has this rank in a listing. Ranks count from 1.
abbrev pub HasPlace : List Pattern → ℕ → Pattern → Type 0
HasPlace listing place pattern = (index : ℕ) × (place ≡ suc index) × (slice_get listing index ≡ Some pattern)

-- The listing holds exactly the listed patterns, and each comes before those of higher rank. So it holds each pattern once.
pub record IsListing (nodes source : ℕ) (hops : List Hop) (sets : Sets) (unbounded : List Bool) (base : Pattern)
    (listing : List Pattern) : Type 0 where
  pub listed : (place : ℕ) (pattern : Pattern) → HasPlace listing place pattern → IsListed nodes source hops sets unbounded pattern
  pub whole : (pattern : Pattern) → IsListed nodes source hops sets unbounded pattern → (place : ℕ) × HasPlace listing place pattern
  pub ordered : (earlier later : ℕ) (p q : Pattern) → earlier < later → HasPlace listing earlier p → HasPlace listing later q
      → IsBefore base p q

-- The listing of a network.
abbrev pub IsListingIn : Network → Sets → Pattern → List Pattern → Type 0
IsListingIn net sets base listing = IsListing net.nodes net.source (hops net) sets (unbounded net) base listing
