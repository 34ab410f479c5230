-- Patterns of link states are used to find thin flows (this project's own form of the cases of a thin flow).
use Rattle.std.specs.Prelude.{◌≡◌, ◌≢◌, ◌⊎◌, ◌↔◌, ℕ, suc, ◌<◌, Bool, true, false, ◌==◌, if◌then◌else◌, List, [], ◌∷◌, length, Option, Some, None, slice_get, unwrap_or, map, Contains}
use Rattle.nf_rational.specs.Rational.{ℚ}
use Rattle.nf_rational.specs.Operations.{0ℚ, 1ℚ, ◌*ℚ◌}
use Rattle.nf_rational.specs.Order.{◌≤ℚ◌}
use Rattle.nf_model.specs.declared.State.{State}
use Rattle.nf_model.specs.declared.State.TheVariants.{Tight, Full, Zero}
use Rattle.nf_model.specs.Entries.{number_at, Has}
use Rattle.nf_model.specs.Walk.{Hop, IsHop}
use Rattle.nf_model.specs.Network.{Link, Network, IsLink, hops, unbounded}
use Rattle.nf_model.specs.ThinFlow.{Sets, surplus}

-- one entry for each link
abbrev pub Pattern : Type 0
Pattern = List (Option State)

abbrev pub HasState : Pattern → ℕ → State → Type 0
HasState pattern e state = slice_get pattern e ≡ Some (Some state)

-- link e is active and not resetting, so a pattern gives it a state
abbrev pub NeedsState : Sets → ℕ → Type 0
NeedsState sets e = Has sets.active e × (Has sets.resetting e → ⊥)

-- exactly the active links that are not resetting have a state, and no unbounded link is Full
pub record IsPattern (sets : Sets) (unbounded : List Bool) (pattern : Pattern) : Type 0 where
  pub count : length pattern ≡ length sets.active
  pub states : (e : ℕ) → NeedsState sets e ↔ ((state : State) × HasState pattern e state)
  pub no_full : (e : ℕ) → Has unbounded e → HasState pattern e Full → ⊥

-- ---- listed patterns

-- the steps lead from v to w along these hops only, each forward or backward
abbrev pub IsTrail : List Hop → (ℕ → Type 0) → List (ℕ × Bool) → ℕ → ℕ → Type 0
IsTrail hops Allowed [] v w = v ≡ w
IsTrail hops Allowed ((e, forward) ∷ steps) v w = (hop : Hop) × IsHop hops e hop × Allowed e
    × (v ≡ (if forward then hop.tail else hop.head)) × IsTrail hops Allowed steps (if forward then hop.head else hop.tail) w

abbrev pub AllDiffer : List ℕ → Type 0
AllDiffer [] = Unit {0}
AllDiffer (e ∷ rest) = (Contains rest e → ⊥) × AllDiffer rest

-- the undirected graph of these hops has no cycle: no closed trail of one hop or more uses each hop at most once
abbrev pub IsForest : List Hop → (ℕ → Type 0) → Type 0
IsForest hops Allowed = (first : ℕ × Bool) (steps : List (ℕ × Bool)) (v : ℕ)
    → AllDiffer (map (λ step. step.0) (first ∷ steps)) → IsTrail hops Allowed (first ∷ steps) v v → ⊥

-- A pattern is listed if its Tight links form a forest, and a Tight, Full or resetting link enters each node except the source.
pub record IsListed (nodes source : ℕ) (hops : List Hop) (sets : Sets) (unbounded : List Bool) (pattern : Pattern) : Type 0 where
  pub states : IsPattern sets unbounded pattern
  pub forest : IsForest hops (λ e. HasState pattern e Tight)
  pub entered : (v : ℕ) → v < nodes → v ≢ source → (e : ℕ) × (hop : Hop) × IsHop hops e hop × (hop.head ≡ v)
      × (Has sets.resetting e ⊎ (HasState pattern e Tight ⊎ HasState pattern e Full))

-- the pattern is listed for this network
abbrev pub IsListedIn : Network → Sets → Pattern → Type 0
IsListedIn net sets pattern = IsListed net.nodes net.source (hops net) sets (unbounded net) pattern

-- ---- the order of patterns

-- orders states: Tight before Full before Zero
abbrev pub rank : Option State → ℕ
rank None = 0
rank (Some Tight) = 1
rank (Some Full) = 2
rank (Some Zero) = 3

-- counts the links at which two patterns differ
abbrev pub changes : Pattern → Pattern → ℕ
changes (a ∷ base) (b ∷ pattern) = if rank a == rank b then changes base pattern else suc (changes base pattern)
changes base pattern = 0

-- p has the earlier state at the first link at which both patterns differ
abbrev pub IsEarlier : Pattern → Pattern → Type 0
IsEarlier (a ∷ p) (b ∷ q) = (rank a < rank b) ⊎ ((a ≡ b) × IsEarlier p q)
IsEarlier p q = ⊥

-- p precedes q: it differs from the base at fewer links, or at equally many and is earlier in link order
abbrev pub IsBefore : Pattern → Pattern → Pattern → Type 0
IsBefore base p q = (changes base p < changes base q) ⊎ ((changes base p ≡ changes base q) × IsEarlier p q)

-- ---- the base pattern of a phase, from the pattern of the last phase

-- link e is the first active one into its head, and no resetting link enters that node
pub record IsFirstInto (hops : List Hop) (sets : Sets) (e : ℕ) (hop : Hop) : Type 0 where
  pub is_hop : IsHop hops e hop
  pub first : (other : ℕ) (before : Hop) → other < e → IsHop hops other before → before.head ≡ hop.head → Has sets.active other → ⊥
  pub no_reset : (other : ℕ) (before : Hop) → IsHop hops other before → before.head ≡ hop.head → Has sets.resetting other → ⊥

-- A link that needs a state has its state of the last phase. If it had none, it is Tight if it is the first active link into a node
-- that no resetting link enters. Otherwise it is Zero.
pub record IsBase (hops : List Hop) (sets : Sets) (last base : Pattern) : Type 0 where
  pub count : length base ≡ length sets.active
  pub states : (e : ℕ) → NeedsState sets e ↔ ((state : State) × HasState base e state)
  pub kept : (e : ℕ) (state : State) → NeedsState sets e → HasState last e state → HasState base e state
  pub first : (e : ℕ) (hop : Hop) → NeedsState sets e → slice_get last e ≡ Some None → IsFirstInto hops sets e hop → HasState base e Tight
  pub later : (e : ℕ) → NeedsState sets e → slice_get last e ≡ Some None → ((hop : Hop) → IsFirstInto hops sets e hop → ⊥)
      → HasState base e Zero

-- ---- solvable patterns

-- the flow fills the link: it is equal to the capacity times the slope of the head
abbrev pub Fills : Option ℚ → ℚ → ℚ → Type 0
Fills capacity flow head_slope = (rate : ℚ) × (capacity ≡ Some rate) × (flow ≡ rate *ℚ head_slope)

-- the equation of a link, by its state; a link without state is resetting or inactive
abbrev pub Equation : Option State → Bool → Option ℚ → ℚ → ℚ → ℚ → Type 0
Equation (Some Tight) resetting capacity flow tail_slope head_slope = head_slope ≡ tail_slope
Equation (Some Full) resetting capacity flow tail_slope head_slope = Fills capacity flow head_slope
Equation (Some Zero) resetting capacity flow tail_slope head_slope = flow ≡ 0ℚ
Equation None true capacity flow tail_slope head_slope = Fills capacity flow head_slope
Equation None false capacity flow tail_slope head_slope = flow ≡ 0ℚ

-- the inequality of a link, by its state
abbrev pub Inequality : Option State → Option ℚ → ℚ → ℚ → ℚ → Type 0
Inequality (Some Tight) capacity flow tail_slope head_slope = (rate : ℚ) → capacity ≡ Some rate → flow ≤ℚ (rate *ℚ head_slope)
Inequality (Some Full) capacity flow tail_slope head_slope = tail_slope ≤ℚ head_slope
Inequality (Some Zero) capacity flow tail_slope head_slope = head_slope ≤ℚ tail_slope
Inequality None capacity flow tail_slope head_slope = Unit {0}

-- Flows and slopes solve the equations of a pattern. The source's slope is 1, the flow is a static flow of this value, and the equation
-- of each link holds.
pub record Solves (net : Network) (sets : Sets) (rate : ℚ) (pattern : Pattern) (flows slopes : List ℚ) : Type 0 where
  pub flow_count : length flows ≡ length net.links
  pub slope_count : length slopes ≡ net.nodes
  pub starts : number_at slopes net.source ≡ 1ℚ
  pub source : surplus net flows net.source ≡ rate
  pub inner : (v : ℕ) → v < net.nodes → v ≢ net.source → v ≢ net.sink → surplus net flows v ≡ 0ℚ
  pub links : (e : ℕ) (link : Link) (state : Option State) → IsLink net e link → slice_get pattern e ≡ Some state
      → Equation state (unwrap_or (slice_get sets.resetting e) false) link.capacity (number_at flows e) (number_at slopes link.tail)
      (number_at slopes link.head)

-- flows and slopes satisfy the inequalities of a pattern, and none of them is negative
pub record Meets (net : Network) (pattern : Pattern) (flows slopes : List ℚ) : Type 0 where
  pub no_negative_flow : (e : ℕ) → 0ℚ ≤ℚ number_at flows e
  pub no_negative_slope : (v : ℕ) → 0ℚ ≤ℚ number_at slopes v
  pub links : (e : ℕ) (link : Link) (state : Option State) → IsLink net e link → slice_get pattern e ≡ Some state
      → Inequality state link.capacity (number_at flows e) (number_at slopes link.tail) (number_at slopes link.head)

-- flows and slopes are the only solution of the equations, and satisfy the inequalities
pub record IsSolution (net : Network) (sets : Sets) (rate : ℚ) (pattern : Pattern) (flows slopes : List ℚ) : Type 0 where
  pub solves : Solves net sets rate pattern flows slopes
  pub only : (other_flows other_slopes : List ℚ) → Solves net sets rate pattern other_flows other_slopes
      → (other_flows ≡ flows) × (other_slopes ≡ slopes)
  pub meets : Meets net pattern flows slopes

-- a pattern is solvable if its equations have exactly one solution, and that solution satisfies its inequalities
pub record IsSolvable (net : Network) (sets : Sets) (rate : ℚ) (pattern : Pattern) : Type 0 where
  pub flows : List ℚ
  pub slopes : List ℚ
  pub solution : IsSolution net sets rate pattern flows slopes
