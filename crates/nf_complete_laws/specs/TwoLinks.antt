-- Two links from source to sink. The labels give one a queue, and nothing waits on the other, which is unbounded.
use Rattle.std.specs.Prelude.{List, [], ◌∷◌, Some, None}
use Rattle.nf_rational.specs.Rational.{ℚ}
use Rattle.nf_rational.specs.Operations.{0ℚ, 1ℚ}
use Rattle.nf_rational.specs.Order.{◌≤ℚ◌}
use Rattle.nf_model.specs.Entries.{Has}
use Rattle.nf_model.specs.Network.{Link, Network, IsNetwork}
use Rattle.nf_model.specs.ThinFlow.{Sets, sets_at, IsThinFlow}
use Rattle.nf_thin_laws.specs.ActiveLinks.{AreSets, HoldNoCycle, EachIsEntered}
use Rattle.nf_complete_laws.specs.Oversupply.{ResetsAreBounded}

abbrev pub bounded_link : Link
bounded_link = record { tail = 0; head = 1; transit = 0ℚ; capacity = Some 1ℚ }

abbrev pub unbounded_link : Link
unbounded_link = record { tail = 0; head = 1; transit = 1ℚ; capacity = None }

abbrev pub two_links : Network
two_links = record { nodes = 2; source = 0; sink = 1; links = bounded_link ∷ unbounded_link ∷ []; pieces = [] }

-- A driver who departs at time 0 waits for 1 at the bounded link, and takes equally long on the unbounded link.
abbrev pub queue_labels : List ℚ
queue_labels = 0ℚ ∷ 1ℚ ∷ []

abbrev pub queue_sets : Sets
queue_sets = sets_at two_links queue_labels

-- The premises of existence have a member with a resetting link and an unbounded link, and there is a thin flow for each rate.
pub record TwoLinksHaveThinFlow : Type 0 where
  pub resetting : Has queue_sets.resetting 0
  pub unbounded : Has queue_sets.active 1
  pub network : IsNetwork two_links
  pub sets : AreSets two_links queue_sets
  pub acyclic : HoldNoCycle two_links queue_sets
  pub entered : EachIsEntered two_links queue_sets
  pub bounded : ResetsAreBounded two_links queue_sets
  pub thin : (rate : ℚ) → 0ℚ ≤ℚ rate → (flows : List ℚ) × (slopes : List ℚ) × IsThinFlow two_links queue_sets rate flows slopes
