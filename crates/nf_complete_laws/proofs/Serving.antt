-- Flows and levels that serve each node: the flows fit the levels, and a node's inflow may exceed its outflow and demand. The slopes of an
-- oversupply are such levels.
use Rattle.std.proofs.Common.{◌≡◌, ◌≢◌, ℕ, ◌<◌, ◌⊎◌, Option}
use Rattle.nf_complete_laws.proofs.Common.{ℚ, 0ℚ, 1ℚ, ◌+ℚ◌, ◌≤ℚ◌, ◌<ℚ◌, Has, Link, Network, IsLink, sum_in, sum_out, Sets, Enters, NeedsState, Fills, Fits}
use Rattle.nf_complete_laws.proofs.Common.{demand, IsOversupply}
use Rattle.nf_complete_laws.proofs.Deciding.{Decided, both}
use Rattle.nf_complete_laws.proofs.Bare.{flagged}
use Rattle.nf_complete_laws.proofs.ExistsDeciding.{not_so}
use Rattle.nf_complete_laws.proofs.Fitting.{HasRoom}
use Rattle.nf_complete_laws.proofs.Spare.{HasSpare}

-- `cap` gives the capacity of a link. No level is less than the floor. Idle links carry nothing, and the flows of free links fit.
pub record Serves (net : Network) (cap : Link → Option ℚ) (rate floor : ℚ) (Idle Free : ℕ → Link → Type 0) (flows levels : ℕ → ℚ) : Type 0 where
  pub starts : levels net.source ≡ 1ℚ
  pub keeps_up : (v : ℕ) → v < net.nodes → floor ≤ℚ levels v
  pub idle : (e : ℕ) (link : Link) → IsLink net e link → Idle e link → flows e ≡ 0ℚ
  pub fits : (e : ℕ) (link : Link) → IsLink net e link → Free e link → Fits (cap link) (flows e) (levels link.tail) (levels link.head)
  pub enough : (v : ℕ) → v < net.nodes → v ≢ net.source → sum_out net.links flows v +ℚ demand net rate v ≤ℚ sum_in net.links flows v

-- The nodes with excess are closed: if levels are equal, a free link with room from such a node leads to such a node, and a free link with
-- flow into such a node comes from such a node.
pub record IsClosed (net : Network) (cap : Link → Option ℚ) (rate : ℚ) (Free : ℕ → Link → Type 0) (flows levels : ℕ → ℚ) : Type 0 where
  pub forth : (e : ℕ) (link : Link) → IsLink net e link → Free e link → levels link.head ≡ levels link.tail
      → HasRoom (cap link) (flows e) (levels link.head) → HasSpare net rate flows link.tail → HasSpare net rate flows link.head
  pub back : (e : ℕ) (link : Link) → IsLink net e link → Free e link → levels link.head ≡ levels link.tail → 0ℚ <ℚ flows e
      → HasSpare net rate flows link.head → HasSpare net rate flows link.tail

-- ---- oversupplies
abbrev pub capacity_of : Link → Option ℚ
capacity_of link = link.capacity

abbrev pub IsInactive : Sets → ℕ → Link → Type 0
IsInactive sets e link = Has sets.active e → ⊥

abbrev pub NeedsStateAt : Sets → ℕ → Link → Type 0
NeedsStateAt sets e link = NeedsState sets e

pub needs_or_not : (sets : Sets) (e : ℕ) → Decided (NeedsState sets e)
needs_or_not sets e = both (flagged sets.active e) (not_so (flagged sets.resetting e))

abbrev pub FillsResetting : Network → Sets → (ℕ → ℚ) → (ℕ → ℚ) → Type 0
FillsResetting net sets flows slopes = (e : ℕ) (link : Link) → IsLink net e link → Has sets.resetting e → Fills link.capacity (flows e) (slopes link.head)

-- A link by which a node is entered.
abbrev pub Led : Network → Sets → (ℕ → ℚ) → ℕ → Type 0
Led net sets slopes v = (e : ℕ) × (link : Link) × Enters net sets v e link × (Has sets.resetting e ⊎ (slopes link.tail ≤ℚ slopes link.head))

abbrev pub IsLed : Network → Sets → (ℕ → ℚ) → Type 0
IsLed net sets slopes = (v : ℕ) → v < net.nodes → v ≢ net.source → Led net sets slopes v

module _ (net : Network) (sets : Sets) (rate : ℚ) (flows slopes : ℕ → ℚ) where
  abbrev pub ServesBySlopes : Type 0
  ServesBySlopes = Serves net capacity_of rate 0ℚ (IsInactive sets) (NeedsStateAt sets) flows slopes

  pub Serves-over : IsOversupply net sets rate flows slopes → ServesBySlopes
  Serves-over over = record {
    starts = over.starts;
    keeps_up = over.no_negative_slope;
    idle = over.inactive;
    fits = over.others;
    enough = over.enough;
  }

  pub IsOversupply-serves : ServesBySlopes → FillsResetting net sets flows slopes → IsLed net sets slopes → IsOversupply net sets rate flows slopes
  IsOversupply-serves serves fills led = record {
    starts = serves.starts;
    no_negative_slope = serves.keeps_up;
    inactive = serves.idle;
    resetting = fills;
    others = serves.fits;
    led = led;
    enough = serves.enough;
  }
