-- Theorems on listings with forced states, and on the rank of a pattern in a listing.
use Rattle.std.specs.Prelude.{◌≡◌, ◌↔◌, ℕ, suc, ◌+◌, ◌<◌, ◌≤◌, Bool, List, length}
use Rattle.nf_rational.specs.Rational.{ℚ}
use Rattle.nf_frac_def.specs.Passing.{Passing}
use Rattle.nf_model.specs.Walk.{Hop, IsHop}
use Rattle.nf_model.specs.Network.{Network, IsNetwork, hops, unbounded}
use Rattle.nf_model.specs.Entries.{Has}
use Rattle.nf_model.specs.ThinFlow.{Sets, IsThinFlow}
use Rattle.nf_model.specs.Pattern.{Pattern, IsPattern, IsListed, IsListedIn, IsSolution, IsSolvable, IsBefore, changes}
use Rattle.nf_thin_def.specs.Accepted.{IsAccepted}
use Rattle.nf_thin_def.specs.Listing.{HasPlace, IsListing, IsListingIn}
use Rattle.nf_thin_def.specs.Search.{Found, OverBudget, NoneAcceptedBefore, NoneAccepted, IsOverBudget, IsSearch}
use Rattle.nf_thin_laws.specs.ActiveLinks.{AreSets, HoldNoCycle}
use Rattle.nf_thin_laws.specs.Forcing.{unforced_of, filled, sets_left, IsForcing, HasForced, forced_changes, forced_by}
use Rattle.nf_thin_laws.specs.Ways.{Choices, AreIn, ways_before, AreSole, choices_of}
use Rattle.nf_thin_laws.specs.Firm.{choices_by, AreFirm, AllAscend, firm_before}

-- The listed patterns with the forced states are those listed for the sets left, with the forced states put in. They are in the same order,
-- and each has the same number of additional changes.
pub record ForcedPatternsAreListed : Type 0 where
  pub taken : (nodes source : ℕ) (hops : List Hop) (sets : Sets) (unbounded : List Bool) (forced p : Pattern)
      → IsForcing sets unbounded forced
      → IsListed nodes source hops sets unbounded p → HasForced forced p
      → IsListed nodes source hops (sets_left forced sets) unbounded (unforced_of forced p) × (filled forced (unforced_of forced p) ≡ p)
  pub put : (nodes source : ℕ) (hops : List Hop) (sets : Sets) (unbounded : List Bool) (forced p : Pattern)
      → IsForcing sets unbounded forced
      → IsListed nodes source hops (sets_left forced sets) unbounded p
      → IsListed nodes source hops sets unbounded (filled forced p) × HasForced forced (filled forced p)
      × (unforced_of forced (filled forced p) ≡ p)
  pub base : (sets : Sets) (unbounded : List Bool) (forced p : Pattern) → IsForcing sets unbounded forced
      → IsPattern sets unbounded p → IsPattern (sets_left forced sets) unbounded (unforced_of forced p)
  pub order : (sets : Sets) (unbounded : List Bool) (forced base p q : Pattern) → IsForcing sets unbounded forced
      → IsPattern sets unbounded base
      → IsPattern (sets_left forced sets) unbounded p → IsPattern (sets_left forced sets) unbounded q
      → IsBefore (unforced_of forced base) p q ↔ IsBefore base (filled forced p) (filled forced q)
  pub more : (sets : Sets) (unbounded : List Bool) (forced base p : Pattern) → IsForcing sets unbounded forced
      → IsPattern sets unbounded base
      → IsPattern (sets_left forced sets) unbounded p
      → changes base (filled forced p) ≡ forced_changes forced base + changes (unforced_of forced base) p

-- ---- searches

-- A network's listing, and the listing without the forced links. Each listed and solvable pattern has the forced states.
pub record Narrows (net : Network) (sets : Sets) (rate : ℚ) (base forced : Pattern) (listing narrow : List Pattern) : Type 0 where
  pub forcing : IsForcing sets (unbounded net) forced
  pub starts : IsPattern sets (unbounded net) base
  pub whole : IsListingIn net sets base listing
  pub part : IsListing net.nodes net.source (hops net) (sets_left forced sets) (unbounded net) (unforced_of forced base) narrow
  pub allowed : (pattern : Pattern) → IsListedIn net sets pattern → IsSolvable net sets rate pattern → HasForced forced pattern

-- No pattern before this rank is accepted, with the forced states put in.
abbrev pub NoneFilledBefore : Passing → Network → Sets → ℚ → Pattern → List Pattern → ℕ → Type 0
NoneFilledBefore passes net sets rate forced narrow place =
    (other : ℕ) (p : Pattern) → other < place → HasPlace narrow other p → IsAccepted passes net sets rate (filled forced p) → ⊥

-- The first accepted pattern with the forced states is the first accepted pattern of the whole listing, at this rank or a later one. If
-- there are more than `budget` patterns left and none of the first `budget` is accepted, the same holds for the whole listing. If no
-- pattern left is accepted, none of the whole listing is.
pub record NarrowedSearchTells : Type 0 where
  pub found : (passes : Passing) (net : Network) (sets : Sets) (rate : ℚ) (base forced : Pattern) (listing narrow : List Pattern)
      (place : ℕ) (p : Pattern)
      → Narrows net sets rate base forced listing narrow → HasPlace narrow place p → IsAccepted passes net sets rate (filled forced p)
      → NoneFilledBefore passes net sets rate forced narrow place
      → (there : ℕ) × (place ≤ there) × HasPlace listing there (filled forced p) × NoneAcceptedBefore passes net sets rate listing there
  pub over : (passes : Passing) (net : Network) (sets : Sets) (rate : ℚ) (base forced : Pattern) (listing narrow : List Pattern)
      (budget : ℕ)
      → Narrows net sets rate base forced listing narrow → budget < length narrow
      → NoneFilledBefore passes net sets rate forced narrow (suc budget)
      → IsOverBudget passes net sets rate listing budget
  pub none : (passes : Passing) (net : Network) (sets : Sets) (rate : ℚ) (base forced : Pattern) (listing narrow : List Pattern)
      → Narrows net sets rate base forced listing narrow → ((place : ℕ) → NoneFilledBefore passes net sets rate forced narrow place)
      → NoneAccepted passes net sets rate listing

-- If the active links hold no cycle, the slopes of a thin flow force states that each listed and solvable pattern has.
abbrev pub SlopesForceStates : Type 0
SlopesForceStates = (net : Network) (sets : Sets) (rate : ℚ) (base : Pattern) (flows slopes : List ℚ) → IsNetwork net → AreSets net sets
    → HoldNoCycle net sets
    → length sets.resetting ≡ length net.links → IsPattern sets (unbounded net) base → IsThinFlow net sets rate flows slopes
    → IsForcing sets (unbounded net) (forced_by net slopes base)
    × ((pattern : Pattern) → IsListedIn net sets pattern → IsSolvable net sets rate pattern → HasForced (forced_by net slopes base) pattern)

-- ---- ranks

-- The rank of a pattern is at most one more than the number of assignments before it. The choices may be any that contain the states of
-- each listed pattern.
abbrev pub PlacesAreBounded : Type 0
PlacesAreBounded = (nodes source : ℕ) (hops : List Hop) (sets : Sets) (unbounded : List Bool) (base : Pattern) (choices : Choices)
    (listing : List Pattern) (place : ℕ) (p : Pattern)
    → IsListing nodes source hops sets unbounded base listing
    → ((q : Pattern) → IsListed nodes source hops sets unbounded q → AreIn choices q)
    → length base ≡ length sets.active → HasPlace listing place p → place ≤ suc (ways_before choices base p)

-- Each listed pattern has such states: Full for no unbounded link, and Zero for no link that alone can enter its head.
abbrev pub ListedStatesAreChoices : Type 0
ListedStatesAreChoices = (nodes source : ℕ) (hops : List Hop) (sets : Sets) (unbounded sole : List Bool) (base p : Pattern)
    → ((e : ℕ) (hop : Hop) → IsHop hops e hop → hop.head < nodes) → ((e : ℕ) → Has sets.resetting e → Has sets.active e)
    → IsPattern sets unbounded base
    → length unbounded ≡ length sets.active → length sole ≡ length sets.active → AreSole source hops sets sole
    → IsListed nodes source hops sets unbounded p → AreIn (choices_of base unbounded sole) p

-- The rank of a pattern is greater than the number of assignments before it, if each assignment is listed and the choices ascend.
abbrev pub PlacesAreBoundedBelow : Type 0
PlacesAreBoundedBelow = (nodes source : ℕ) (hops : List Hop) (sets : Sets) (unbounded : List Bool) (base : Pattern) (choices : Choices)
    (listing : List Pattern) (place : ℕ) (p : Pattern)
    → IsListing nodes source hops sets unbounded base listing
    → ((q : Pattern) → AreIn choices q → IsListed nodes source hops sets unbounded q) → AllAscend choices
    → length base ≡ length sets.active → HasPlace listing place p → firm_before choices base p < place

-- Each assignment of freely combinable states is listed, and the choices ascend.
abbrev pub FirmAssignmentsAreListed : Type 0
FirmAssignmentsAreListed = (nodes source : ℕ) (hops : List Hop) (sets : Sets) (unbounded : List Bool) (base listed : Pattern)
    (tight full zeros : List Bool)
    → IsPattern sets unbounded base → IsListed nodes source hops sets unbounded listed
    → AreFirm nodes source hops sets unbounded listed tight full zeros
    → ((q : Pattern) → AreIn (choices_by base tight full zeros) q → IsListed nodes source hops sets unbounded q)
    × AllAscend (choices_by base tight full zeros)

-- ---- the answer of a search with forced states

-- If its rank is known to be within the budget, the search finds the first accepted pattern with the forced states, at that rank. If the
-- rank of a pattern is known to be beyond the budget, and no earlier pattern is accepted, the answer is `OverBudget`.
pub record NarrowedSearchAnswers : Type 0 where
  pub within : (passes : Passing) (net : Network) (sets : Sets) (rate : ℚ) (base forced : Pattern) (listing narrow : List Pattern)
      (budget place : ℕ) (p : Pattern) (flows slopes : List ℚ)
      → Narrows net sets rate base forced listing narrow → HasPlace narrow place p → IsAccepted passes net sets rate (filled forced p)
      → IsSolution net sets rate (filled forced p) flows slopes
      → NoneFilledBefore passes net sets rate forced narrow place
      → ((there : ℕ) → HasPlace listing there (filled forced p) → there ≤ budget)
      → (there : ℕ) × IsSearch passes net sets rate base budget (Found there (filled forced p) flows slopes)
  pub beyond : (passes : Passing) (net : Network) (sets : Sets) (rate : ℚ) (base forced : Pattern) (listing narrow : List Pattern)
      (budget place : ℕ) (p : Pattern)
      → Narrows net sets rate base forced listing narrow → HasPlace narrow place p
      → NoneFilledBefore passes net sets rate forced narrow place
      → ((there : ℕ) → HasPlace listing there (filled forced p) → budget < there) → IsSearch passes net sets rate base budget OverBudget
