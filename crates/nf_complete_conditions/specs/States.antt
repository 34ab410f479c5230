-- The state of one link in settled flows.
use Rattle.std.specs.Prelude.{◌≡◌, ◌≢◌, ◌⊎◌, ℕ, ◌<◌, Bool, false, List, Option, Some, None}
use Rattle.nf_rational.specs.Rational.{ℚ}
use Rattle.nf_rational.specs.Operations.{0ℚ}
use Rattle.nf_model.specs.declared.State.{State}
use Rattle.nf_model.specs.declared.State.TheVariants.{Tight, Full, Zero}
use Rattle.nf_model.specs.Entries.{number_at}
use Rattle.nf_model.specs.Network.{Link, Network, IsLink}
use Rattle.nf_model.specs.ThinFlow.{Sets}
use Rattle.nf_model.specs.Pattern.{NeedsState, Fills}
use Rattle.nf_complete_def.specs.SettledPattern.{LeadsToBare}
use Rattle.nf_complete_conditions.specs.Testing.{same_test}
use Rattle.nf_complete_conditions.specs.ThinParts.{LeadsInto, IsLevelAt, Brings}

-- link e is active, enters node v, and is resetting or carries flow
abbrev pub BringsInto : Network → Sets → List ℚ → ℕ → ℕ → Type 0
BringsInto net sets flows v e = LeadsInto net sets v e × Brings sets flows e

-- link e is active, enters node v, and has equal slopes at its ends
abbrev pub LevelInto : Network → Sets → List ℚ → ℕ → ℕ → Type 0
LevelInto net sets slopes v e = LeadsInto net sets v e × IsLevelAt net slopes e

abbrev pub NoneLevelBefore : Network → Sets → List ℚ → ℕ → ℕ → Type 0
NoneLevelBefore net sets slopes v e = (k : ℕ) → k < e → LevelInto net sets slopes v k → ⊥

-- the flow fills the link
abbrev pub full_test : Option ℚ → ℚ → Bool
full_test None flow = false
full_test (Some full) flow = same_test flow full

-- A link without a state needs none. A link that needs a state is Zero if it carries no flow, Full if its flow fills it, and otherwise
-- Tight. The first active link with equal slopes at its ends into a node without inflow is Tight.
abbrev pub FitsState : Network → Sets → List ℚ → List ℚ → ℕ → Link → Option State → Type 0
FitsState net sets flows slopes e link None = NeedsState sets e → ⊥
FitsState net sets flows slopes e link (Some Tight) = NeedsState sets e
    × (LeadsToBare net sets flows slopes e link
    ⊎ ((number_at flows e ≢ 0ℚ) × (Fills link.capacity (number_at flows e) (number_at slopes link.head) → ⊥)))
FitsState net sets flows slopes e link (Some Full) = NeedsState sets e
    × ((number_at flows e ≢ 0ℚ) × Fills link.capacity (number_at flows e) (number_at slopes link.head))
FitsState net sets flows slopes e link (Some Zero) = NeedsState sets e
    × ((number_at flows e ≡ 0ℚ) × (LeadsToBare net sets flows slopes e link → ⊥))

-- the state of link e
abbrev pub IsStateAt : Network → Sets → List ℚ → List ℚ → ℕ → Option State → Type 0
IsStateAt net sets flows slopes e state = (link : Link) → IsLink net e link → FitsState net sets flows slopes e link state
