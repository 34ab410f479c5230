-- Theorems on patterns.
use Rattle.std.specs.Prelude.{◌≡◌, ◌≢◌, ◌⊎◌, ℕ, ◌<◌, false, List, length, Option, Some, slice_get, unwrap_or}
use Rattle.nf_rational.specs.Rational.{ℚ}
use Rattle.nf_rational.specs.Operations.{0ℚ}
use Rattle.nf_rational.specs.Order.{◌≤ℚ◌}
use Rattle.nf_model.specs.declared.State.{State}
use Rattle.nf_model.specs.declared.State.TheVariants.{Tight, Full, Zero}
use Rattle.nf_model.specs.Entries.{number_at, Has}
use Rattle.nf_model.specs.Walk.{Hop, IsHop}
use Rattle.nf_model.specs.Network.{Link, Network, IsLink, IsNetwork, hops, unbounded}
use Rattle.nf_model.specs.ThinFlow.{Sets, surplus, IsThinFlow}
use Rattle.nf_model.specs.Pattern.{Pattern, HasState, IsPattern, IsListedIn, Equation, Solves, Meets, IsSolution, IsSolvable}
use Rattle.nf_thin_laws.specs.ActiveLinks.{AreSets, HoldNoCycle}

-- Each node except the source is entered by a Tight, Full or resetting link.
abbrev pub EachIsLed : Network → Sets → Pattern → Type 0
EachIsLed net sets pattern = (v : ℕ) → v < net.nodes → v ≢ net.source → (e : ℕ) × (hop : Hop) × IsHop (hops net) e hop × (hop.head ≡ v)
    × (Has sets.resetting e ⊎ (HasState pattern e Tight ⊎ HasState pattern e Full))

-- A solution of a listed pattern's equations that meets its inequalities is a thin flow, for all capacities, if any. The Tight links need
-- not form a forest for that.
pub record AcceptedPatternIsThin : Type 0 where
  pub listed : (net : Network) (sets : Sets) (rate : ℚ) (pattern : Pattern) (flows slopes : List ℚ) → IsNetwork net → AreSets net sets
      → IsListedIn net sets pattern
      → Solves net sets rate pattern flows slopes → Meets net pattern flows slopes → IsThinFlow net sets rate flows slopes
  pub led : (net : Network) (sets : Sets) (rate : ℚ) (pattern : Pattern) (flows slopes : List ℚ) → IsNetwork net → AreSets net sets
      → IsPattern sets (unbounded net) pattern → EachIsLed net sets pattern
      → Solves net sets rate pattern flows slopes → Meets net pattern flows slopes → IsThinFlow net sets rate flows slopes

-- The slopes of a link's tail and head allow the state, if flow is ignored.
abbrev pub AllowState : ℚ → ℚ → State → Type 0
AllowState tail_slope head_slope Tight = head_slope ≡ tail_slope
AllowState tail_slope head_slope Full = tail_slope ≤ℚ head_slope
AllowState tail_slope head_slope Zero = head_slope ≤ℚ tail_slope

-- If the active links hold no cycle, a solution of a listed pattern that meets its inequalities has the slopes of any thin flow. So these
-- slopes allow each state of a listed and solvable pattern.
pub record SlopesAllowStates : Type 0 where
  pub same : (net : Network) (sets : Sets) (rate : ℚ) (thin_flows thin_slopes : List ℚ) (pattern : Pattern) (flows slopes : List ℚ)
      → IsNetwork net → AreSets net sets
      → HoldNoCycle net sets → IsThinFlow net sets rate thin_flows thin_slopes → IsListedIn net sets pattern
      → Solves net sets rate pattern flows slopes → Meets net pattern flows slopes → slopes ≡ thin_slopes
  pub states : (net : Network) (sets : Sets) (rate : ℚ) (thin_flows thin_slopes : List ℚ) (pattern : Pattern) → IsNetwork net
      → AreSets net sets
      → HoldNoCycle net sets → IsThinFlow net sets rate thin_flows thin_slopes → IsListedIn net sets pattern
      → IsSolvable net sets rate pattern
      → (e : ℕ) (link : Link) (state : State) → IsLink net e link → HasState pattern e state
      → AllowState (number_at thin_slopes link.tail) (number_at thin_slopes link.head) state

-- Flows and slopes meet the homogeneous equations of a pattern. These are the equations of `Solves`, but the source's slope and the value
-- of the flow are 0.
pub record SolvesHomogeneous (net : Network) (sets : Sets) (pattern : Pattern) (flows slopes : List ℚ) : Type 0 where
  pub flow_count : length flows ≡ length net.links
  pub slope_count : length slopes ≡ net.nodes
  pub starts : number_at slopes net.source ≡ 0ℚ
  pub nodes : (v : ℕ) → v < net.nodes → v ≢ net.sink → surplus net flows v ≡ 0ℚ
  pub links : (e : ℕ) (link : Link) (state : Option State) → IsLink net e link → slice_get pattern e ≡ Some state
      → Equation state (unwrap_or (slice_get sets.resetting e) false) link.capacity (number_at flows e) (number_at slopes link.tail)
      (number_at slopes link.head)

-- If the active links hold no cycle, no listed pattern is singular: only 0 solves its homogeneous equations. So its equations have at most
-- one solution, and a solution that meets the inequalities makes the pattern solvable.
pub record NoListedPatternIsSingular : Type 0 where
  pub homogeneous : (net : Network) (sets : Sets) (pattern : Pattern) (flows slopes : List ℚ) → IsNetwork net → AreSets net sets
      → HoldNoCycle net sets
      → IsListedIn net sets pattern → SolvesHomogeneous net sets pattern flows slopes
      → ((e : ℕ) → number_at flows e ≡ 0ℚ) × ((v : ℕ) → number_at slopes v ≡ 0ℚ)
  pub one : (net : Network) (sets : Sets) (rate : ℚ) (pattern : Pattern) (flows slopes other_flows other_slopes : List ℚ) → IsNetwork net
      → AreSets net sets
      → HoldNoCycle net sets → IsListedIn net sets pattern → Solves net sets rate pattern flows slopes
      → Solves net sets rate pattern other_flows other_slopes
      → (flows ≡ other_flows) × (slopes ≡ other_slopes)
  pub solution : (net : Network) (sets : Sets) (rate : ℚ) (pattern : Pattern) (flows slopes : List ℚ) → IsNetwork net → AreSets net sets
      → HoldNoCycle net sets
      → IsListedIn net sets pattern → Solves net sets rate pattern flows slopes → Meets net pattern flows slopes
      → IsSolution net sets rate pattern flows slopes
