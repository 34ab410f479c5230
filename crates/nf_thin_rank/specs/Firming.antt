-- Freely combinable states of links, from a listed pattern.
use Rattle.std.specs.Prelude.{◌≡◌, ◌⊎◌, ℕ, ◌<◌, true, List, length, map, Option, Some, None, slice_get}
use Rattle.nf_model.specs.declared.State.TheVariants.{Tight, Full}
use Rattle.nf_model.specs.Entries.{Has}
use Rattle.nf_model.specs.Walk.{Hop, IsHop}
use Rattle.nf_model.specs.Network.{Network, hops, unbounded}
use Rattle.nf_model.specs.ThinFlow.{Sets}
use Rattle.nf_model.specs.Pattern.{Pattern, HasState}
use Rattle.nf_thin_laws.specs.Firm.{AreFirm}
use Rattle.nf_thin_narrow.specs.declared.firm.Firm.{Firm}

abbrev pub HaveFirm : Network → Sets → Pattern → List Firm → Type 0
HaveFirm net sets listed firm = AreFirm net.nodes net.source (hops net) sets (unbounded net) listed
    (map (λ f. f.tight) firm) (map (λ f. f.full) firm) (map (λ f. f.zero) firm)

-- Link e leads to node v, and is resetting, Tight or Full.
abbrev pub MayKeep : Network → Sets → Pattern → ℕ → ℕ → Type 0
MayKeep net sets listed e v = (hop : Hop) × IsHop (hops net) e hop × (hop.head ≡ v)
    × (Has sets.resetting e ⊎ (HasState listed e Tight ⊎ HasState listed e Full))

-- Each node has a keeper, a resetting, Tight or Full link into it, if there is one before number n.
pub record AreKeepers (net : Network) (sets : Sets) (listed : Pattern) (n : ℕ) (keepers : List (Option ℕ)) : Type 0 where
  pub count : length keepers ≡ net.nodes
  pub keeps : (v e : ℕ) → slice_get keepers v ≡ Some (Some e) → MayKeep net sets listed e v
  pub there : (v e : ℕ) → e < n → MayKeep net sets listed e v → slice_get keepers v ≡ Some None → ⊥

-- The link's combinable states: Tight only if the listed pattern has it, Full only if the link is bounded, Zero only if it is no keeper.
pub record IsFirmOf (net : Network) (listed : Pattern) (keepers : List (Option ℕ)) (e : ℕ) (firm : Firm) : Type 0 where
  pub tight : firm.tight ≡ true → HasState listed e Tight
  pub full : firm.full ≡ true → Has (unbounded net) e → ⊥
  pub zero : (hop : Hop) → IsHop (hops net) e hop → slice_get keepers hop.head ≡ Some (Some e) → firm.zero ≡ true → ⊥

-- The states of all links by these keepers, freely combinable. No keeper may be Zero, and `out`, if it is a link, may only be Zero.
pub record AreFirmBy (net : Network) (sets : Sets) (listed : Pattern) (keepers : List (Option ℕ)) (out : ℕ) (firm : List Firm) : Type 0 where
  pub have : HaveFirm net sets listed firm
  pub count : length firm ≡ length net.links
  pub kept : (v e : ℕ) (f : Firm) → slice_get keepers v ≡ Some (Some e) → slice_get firm e ≡ Some f → f.zero ≡ true → ⊥
  pub only : out < length net.links → (f : Firm) × (slice_get firm out ≡ Some f) × (f.tight ≡ true → ⊥) × (f.full ≡ true → ⊥)
