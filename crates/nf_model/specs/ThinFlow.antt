-- Slacks, active and resetting links, and thin flows with resetting (Cominetti, Correa and Larré 2015, after Koch and Skutella 2011).
use Rattle.std.specs.Prelude.{◌≡◌, ◌≢◌, ℕ, ◌<◌, Bool, true, false, List, length, Option, Some, None, slice_get, unwrap_or, map}
use Rattle.nf_rational.specs.Rational.{ℚ}
use Rattle.nf_rational.specs.Operations.{0ℚ, 1ℚ, ◌+ℚ◌, ◌-ℚ◌, ◌/ℚ◌}
use Rattle.nf_rational.specs.Order.{◌≤ℚ◌, ◌<ℚ◌, le_ℚ, lt_ℚ, max_ℚ}
use Rattle.nf_model.specs.Entries.{number_at, Has}
use Rattle.nf_model.specs.Walk.{Hop}
use Rattle.nf_model.specs.Network.{Link, Network, IsLink, hops, sum_in, sum_out}

-- ---- slacks and sets

-- the slack is the label of the head, less the sum of the tail's label and the transit time
abbrev pub slack : List ℚ → Hop → ℚ
slack labels hop = number_at labels hop.head -ℚ (number_at labels hop.tail +ℚ hop.transit)

abbrev pub slacks_of : List Hop → List ℚ → List ℚ
slacks_of hops labels = map (slack labels) hops

-- the sets state, for each link, whether it is active, and whether it is resetting
pub record Sets : Type 0 where
  pub active : List Bool
  pub resetting : List Bool

-- a link is active if its slack is at least 0, and resetting if its slack is positive
abbrev pub sets_of : List ℚ → Sets
sets_of slacks = record { active = map (le_ℚ 0ℚ) slacks; resetting = map (lt_ℚ 0ℚ) slacks }

-- returns the active and resetting links of a network at these labels
abbrev pub sets_at : Network → List ℚ → Sets
sets_at net labels = sets_of (slacks_of (hops net) labels)

-- ---- thin flows

-- subtracts the inflow of a node from its outflow, in a static flow
abbrev pub surplus : Network → List ℚ → ℕ → ℚ
surplus net flows v = sum_out net.links (number_at flows) v -ℚ sum_in net.links (number_at flows) v

-- The slope of a link's exit time by departure, for flow that enters at the tail's label (`tail_slope` is the slope of that label). On a
-- resetting link, whose queue is served at the capacity, it is flow over capacity. On an unbounded link, which is never resetting, it is
-- the tail's slope. On any other link, whose queue can only begin to grow, it is the greater of the two.
abbrev pub exit_slope : Bool → Option ℚ → ℚ → ℚ → ℚ
exit_slope resetting None flow tail_slope = tail_slope
exit_slope true (Some capacity) flow tail_slope = flow /ℚ capacity
exit_slope false (Some capacity) flow tail_slope = max_ℚ tail_slope (flow /ℚ capacity)

-- the exit slope of link e
abbrev pub exit_slope_at : Sets → List ℚ → List ℚ → ℕ → Link → ℚ
exit_slope_at sets flows slopes e link =
    exit_slope (unwrap_or (slice_get sets.resetting e) false) link.capacity (number_at flows e) (number_at slopes link.tail)

-- link e is an active link into node v
pub record Enters (net : Network) (sets : Sets) (v e : ℕ) (link : Link) : Type 0 where
  pub is_link : IsLink net e link
  pub active : Has sets.active e
  pub head : link.head ≡ v

-- A thin flow with resetting consists of a static flow of value `rate` on active links alone, and of the slope of each node's label
-- by departure. The slope of the source is 1. The slope of each other node is the least exit slope of the active links into it, of which
-- there is at least one. Each of these links with positive flow has exactly this exit slope.
pub record IsThinFlow (net : Network) (sets : Sets) (rate : ℚ) (flows slopes : List ℚ) : Type 0 where
  pub flow_count : length flows ≡ length net.links
  pub slope_count : length slopes ≡ net.nodes
  pub no_negative_flow : (e : ℕ) → 0ℚ ≤ℚ number_at flows e
  pub no_negative_slope : (v : ℕ) → 0ℚ ≤ℚ number_at slopes v
  pub active_only : (e : ℕ) → (Has sets.active e → ⊥) → number_at flows e ≡ 0ℚ
  pub source : surplus net flows net.source ≡ rate
  pub inner : (v : ℕ) → v < net.nodes → v ≢ net.source → v ≢ net.sink → surplus net flows v ≡ 0ℚ
  pub starts : number_at slopes net.source ≡ 1ℚ
  pub taken : (v : ℕ) → v < net.nodes → v ≢ net.source
      → (e : ℕ) × (link : Link) × Enters net sets v e link × (exit_slope_at sets flows slopes e link ≡ number_at slopes v)
  pub least : (v e : ℕ) (link : Link) → v < net.nodes → v ≢ net.source → Enters net sets v e link
      → number_at slopes v ≤ℚ exit_slope_at sets flows slopes e link
  pub used : (v e : ℕ) (link : Link) → v < net.nodes → v ≢ net.source → Enters net sets v e link → 0ℚ <ℚ number_at flows e
      → exit_slope_at sets flows slopes e link ≡ number_at slopes v
