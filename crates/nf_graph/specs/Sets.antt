-- Sets of links.
use Rattle.std.specs.Prelude.{◌≡◌, ℕ, length}
use Rattle.nf_model.specs.Entries.{Has}
use Rattle.nf_model.specs.ThinFlow.{Sets}

-- both lists have equally many flags, and each resetting link is active
pub record AreLinkSets (sets : Sets) : Type 0 where
  pub count : length sets.active ≡ length sets.resetting
  pub active : (e : ℕ) → Has sets.resetting e → Has sets.active e
