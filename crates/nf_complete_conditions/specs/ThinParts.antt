-- Conditions of a thin flow, as sums and products.
use Rattle.std.specs.Prelude.{◌≡◌, ◌≢◌, ◌⊎◌, ◌==◌, ◌&&◌, ◌||◌, ℕ, ◌<◌, Bool, true, false, if◌then◌else◌, List, Option, Some, None, slice_get, unwrap_or}
use Rattle.std.specs.Option.{option_map}
use Rattle.nf_rational.specs.Rational.{ℚ}
use Rattle.nf_rational.specs.Operations.{0ℚ, 1ℚ, ◌+ℚ◌, ◌*ℚ◌}
use Rattle.nf_rational.specs.Order.{◌≤ℚ◌, le_ℚ}
use Rattle.nf_model.specs.Entries.{number_at, Has}
use Rattle.nf_model.specs.Network.{Link, Network, IsLink, sum_in, sum_out}
use Rattle.nf_model.specs.ThinFlow.{Sets, Enters}
use Rattle.nf_complete_conditions.specs.Testing.{same_test}

-- ---- at a node
-- the flow of a link, or 0 if the link is not active
abbrev pub active_flow : Sets → List ℚ → ℕ → ℚ
active_flow sets flows e = if unwrap_or (slice_get sets.active e) false then number_at flows e else 0ℚ

-- the inflow of a node: the rate at the source, and the flows of the active links at any other node
abbrev pub brought : Network → Sets → ℚ → List ℚ → ℕ → ℚ
brought net sets rate flows v = if v == net.source then rate else sum_in net.links (active_flow sets flows) v

-- the flows of the active links out of a node, plus the rate at the sink
abbrev pub taken_away : Network → Sets → ℚ → List ℚ → ℕ → ℚ
taken_away net sets rate flows v =
    if v == net.sink then sum_out net.links (active_flow sets flows) v +ℚ rate else sum_out net.links (active_flow sets flows) v

abbrev pub IsBalanced : Network → Sets → ℚ → List ℚ → ℕ → Type 0
IsBalanced net sets rate flows v = brought net sets rate flows v ≡ taken_away net sets rate flows v

-- ---- of a link
-- the flow that fills the link, if it has a capacity
abbrev pub filling : Option ℚ → ℚ → Option ℚ
filling capacity head_slope = option_map (λ rate. rate *ℚ head_slope) capacity

-- The slope condition of an active link. Its flow is x; s and t are the slopes of its tail and head. The slope t is at most the link's exit
-- slope, and equals it if the link has flow.
abbrev pub KeepsSlopes : Bool → Option ℚ → ℚ → ℚ → ℚ → Type 0
KeepsSlopes resets None x s t = (t ≤ℚ s) × ((x ≤ℚ 0ℚ) ⊎ (s ≤ℚ t))
KeepsSlopes true (Some full) x s t = x ≡ full
KeepsSlopes false (Some full) x s t = ((t ≤ℚ s) ⊎ (full ≤ℚ x)) × ((x ≤ℚ 0ℚ) ⊎ ((s ≤ℚ t) × (x ≤ℚ full)))

abbrev pub keeps_test : Bool → Option ℚ → ℚ → ℚ → ℚ → Bool
keeps_test resets None x s t = le_ℚ t s && (le_ℚ x 0ℚ || le_ℚ s t)
keeps_test true (Some full) x s t = same_test x full
keeps_test false (Some full) x s t = (le_ℚ t s || le_ℚ full x) && (le_ℚ x 0ℚ || (le_ℚ s t && le_ℚ x full))

abbrev pub KeepsAt : Sets → List ℚ → List ℚ → ℕ → Link → Type 0
KeepsAt sets flows slopes e link = Has sets.active e
    → KeepsSlopes (unwrap_or (slice_get sets.resetting e) false) (filling link.capacity (number_at slopes link.head)) (number_at flows e)
    (number_at slopes link.tail) (number_at slopes link.head)

-- ---- links into a node
-- link e is active and enters node v
abbrev pub LeadsInto : Network → Sets → ℕ → ℕ → Type 0
LeadsInto net sets v e = (link : Link) × Enters net sets v e link

-- the slopes at the ends of link e are equal
abbrev pub IsLevelAt : Network → List ℚ → ℕ → Type 0
IsLevelAt net slopes e = (link : Link) → IsLink net e link → number_at slopes link.head ≡ number_at slopes link.tail

-- link e is resetting or carries flow
abbrev pub Brings : Sets → List ℚ → ℕ → Type 0
Brings sets flows e = Has sets.resetting e ⊎ (number_at flows e ≢ 0ℚ)

-- node v takes its slope from link e: if all links satisfy the slope condition, the slope of v is the exit slope of e
abbrev pub Takes : Network → Sets → List ℚ → List ℚ → ℕ → ℕ → Type 0
Takes net sets flows slopes v e = LeadsInto net sets v e × (Brings sets flows e ⊎ IsLevelAt net slopes e)

-- ---- the conditions that need no operation
abbrev pub AllNonNegative : List ℚ → Type 0
AllNonNegative numbers = (i : ℕ) → 0ℚ ≤ℚ number_at numbers i

abbrev pub CarriesIfActive : Sets → List ℚ → ℕ → Type 0
CarriesIfActive sets flows e = (Has sets.active e → ⊥) → number_at flows e ≡ 0ℚ

abbrev pub CarriesOnActive : Sets → List ℚ → Type 0
CarriesOnActive sets flows = (e : ℕ) → CarriesIfActive sets flows e

abbrev pub EachIsTaken : Network → Sets → List ℚ → List ℚ → Type 0
EachIsTaken net sets flows slopes = (v : ℕ) → v < net.nodes → v ≢ net.source → (e : ℕ) × Takes net sets flows slopes v e

pub record IsProper (net : Network) (sets : Sets) (flows slopes : List ℚ) : Type 0 where
  pub no_negative_flow : AllNonNegative flows
  pub no_negative_slope : AllNonNegative slopes
  pub active_only : CarriesOnActive sets flows
  pub starts : number_at slopes net.source ≡ 1ℚ
  pub taken : EachIsTaken net sets flows slopes
