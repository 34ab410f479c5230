-- Families of freely combinable states, which bound a pattern's rank from below.
use Rattle.std.specs.Prelude.{◌≡◌, ◌≢◌, ◌⊎◌, ℕ, ◌<◌, min, List, length, Option, Some, slice_get, slice_set}
use Rattle.nf_model.specs.declared.State.{State}
use Rattle.nf_model.specs.Network.{Network}
use Rattle.nf_model.specs.ThinFlow.{Sets}
use Rattle.nf_model.specs.Pattern.{Pattern, HasState}
use Rattle.nf_thin_def.specs.Listing.{HasPlace}
use Rattle.nf_thin_laws.specs.Firm.{firm_before}
use Rattle.nf_pattern.specs.Given.{Question}
use Rattle.nf_pattern.specs.Front.{IsListingOf}
use Rattle.nf_thin_narrow.specs.declared.firm.Firm.{Firm}
use Rattle.nf_thin_narrow.specs.Rows.{most}
use Rattle.nf_thin_narrow.specs.Firming.{firm_choices}
use Rattle.nf_thin_rank.specs.declared.families.Spare.{Spare}
use Rattle.nf_thin_rank.specs.Firming.{MayKeep, AreFirmBy}

-- The node's keeper has a state in the base, and another link may keep the node.
pub record IsSpare (net : Network) (sets : Sets) (base listed : Pattern) (keepers : List (Option ℕ)) (node : ℕ) (spare : Spare) : Type 0 where
  pub state : State
  pub stated : HasState base spare.keeper state
  pub keeps : slice_get keepers node ≡ Some (Some spare.keeper)
  pub within : spare.keeper < length net.links
  pub differs : spare.other ≢ spare.keeper
  pub may_keep : MayKeep net sets listed spare.other node

-- The number of assignments before the pattern in the family in which the node's keeper is Zero, and the other link keeps the node.
pub record CountsOther (net : Network) (sets : Sets) (base pattern listed : Pattern) (keepers : List (Option ℕ)) (node ways : ℕ) : Type 0 where
  pub spare : Spare
  pub is_spare : IsSpare net sets base listed keepers node spare
  pub firm : List Firm
  pub are : AreFirmBy net sets listed (slice_set keepers node (Some spare.other)) spare.keeper firm
  pub ways_is : ways ≡ min (firm_before (firm_choices base firm) base pattern) most

-- The number is 0, or that of such a family.
abbrev pub IsByOther : Network → Sets → Pattern → Pattern → Pattern → List (Option ℕ) → ℕ → ℕ → Type 0
IsByOther net sets base pattern listed keepers node ways = (ways ≡ 0) ⊎ CountsOther net sets base pattern listed keepers node ways

-- At least this many listed patterns come before the pattern, in every listing of the question.
abbrev pub CountsBefore : Question → Pattern → ℕ → Type 0
CountsBefore question pattern ways = (listing : List Pattern) (place : ℕ) → IsListingOf question listing → HasPlace listing place pattern → ways < place
