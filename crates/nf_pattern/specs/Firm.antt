-- Flags of jointly acyclic links ("firm").
use Rattle.std.specs.Prelude.{◌≡◌, ℕ, ◌<◌, Bool, List, length}
use Rattle.nf_model.specs.declared.State.TheVariants.{Tight}
use Rattle.nf_model.specs.Entries.{Has}
use Rattle.nf_model.specs.Walk.{Hop, IsHop}
use Rattle.nf_model.specs.Pattern.{Pattern, HasState}
use Rattle.nf_pattern.specs.declared.firm.FirmLinks.{FirmLinks}
use Rattle.nf_pattern.specs.Forest.{AreJoined}

-- Link e is flagged and before number n.
abbrev pub FirmBefore : List Bool → ℕ → ℕ → Type 0
FirmBefore firm n e = (e < n) × Has firm e

-- The flagged links are jointly acyclic: none closes a cycle with flagged links before it.
abbrev pub AreJointlyAcyclic : List Hop → List Bool → Type 0
AreJointlyAcyclic hops firm = (e : ℕ) (hop : Hop) → Has firm e → IsHop hops e hop → AreJoined hops (FirmBefore firm e) hop.head hop.tail → ⊥

-- Of the links before number n, the Tight ones before `calm`, the first possible exception, are flagged.
pub record AreCalm (hops : List Hop) (pattern : Pattern) (n : ℕ) (links : FirmLinks) : Type 0 where
  pub count : length links.flags.items ≡ length hops
  pub firm : AreJointlyAcyclic hops links.flags.items
  pub calm : (e : ℕ) → e < n → e < links.calm → HasState pattern e Tight → Has links.flags.items e
