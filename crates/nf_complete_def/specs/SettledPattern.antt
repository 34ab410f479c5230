-- The pattern of settled flows.
use Rattle.std.specs.Prelude.{◌≡◌, ◌≢◌, ◌↔◌, ℕ, ◌<◌, List, length}
use Rattle.nf_rational.specs.Rational.{ℚ}
use Rattle.nf_rational.specs.Operations.{0ℚ}
use Rattle.nf_model.specs.declared.State.{State}
use Rattle.nf_model.specs.declared.State.TheVariants.{Tight, Full, Zero}
use Rattle.nf_model.specs.Entries.{number_at, Has}
use Rattle.nf_model.specs.Network.{Link, Network, IsLink}
use Rattle.nf_model.specs.ThinFlow.{Sets, Enters}
use Rattle.nf_model.specs.Pattern.{Pattern, HasState, NeedsState, Fills}

-- node v is not the source, and no active link into it is resetting or carries flow: v is without inflow
pub record IsBare (net : Network) (sets : Sets) (flows : List ℚ) (v : ℕ) : Type 0 where
  pub not_source : v ≢ net.source
  pub bare : (e : ℕ) (link : Link) → Enters net sets v e link → (Has sets.resetting e → ⊥) × (number_at flows e ≡ 0ℚ)

-- link e is the first active one into its head whose ends have equal slopes
pub record IsFirstLevel (net : Network) (sets : Sets) (slopes : List ℚ) (e : ℕ) (link : Link) : Type 0 where
  pub level : number_at slopes link.head ≡ number_at slopes link.tail
  pub first : (other : ℕ) (before : Link) → other < e → Enters net sets link.head other before
      → number_at slopes before.head ≡ number_at slopes before.tail → ⊥

-- link e is the first active one with equal slopes at its ends into a node without inflow
pub record LeadsToBare (net : Network) (sets : Sets) (flows slopes : List ℚ) (e : ℕ) (link : Link) : Type 0 where
  pub enters : Enters net sets link.head e link
  pub bare : IsBare net sets flows link.head
  pub first : IsFirstLevel net sets slopes e link

-- A link that needs a state is Zero if it carries no flow, Full if its flow fills it, and otherwise Tight. The first active link with equal
-- slopes at its ends into a node without inflow is also Tight.
pub record IsSettledPattern (net : Network) (sets : Sets) (flows slopes : List ℚ) (pattern : Pattern) : Type 0 where
  pub count : length pattern ≡ length sets.active
  pub states : (e : ℕ) → NeedsState sets e ↔ ((state : State) × HasState pattern e state)
  pub led : (e : ℕ) (link : Link) → IsLink net e link → NeedsState sets e → LeadsToBare net sets flows slopes e link
      → HasState pattern e Tight
  pub zero : (e : ℕ) (link : Link) → IsLink net e link → NeedsState sets e → number_at flows e ≡ 0ℚ
      → (LeadsToBare net sets flows slopes e link → ⊥) → HasState pattern e Zero
  pub full : (e : ℕ) (link : Link) → IsLink net e link → NeedsState sets e → number_at flows e ≢ 0ℚ
      → Fills link.capacity (number_at flows e) (number_at slopes link.head) → HasState pattern e Full
  pub tight : (e : ℕ) (link : Link) → IsLink net e link → NeedsState sets e → number_at flows e ≢ 0ℚ
      → (Fills link.capacity (number_at flows e) (number_at slopes link.head) → ⊥) → HasState pattern e Tight
