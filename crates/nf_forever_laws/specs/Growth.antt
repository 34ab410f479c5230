-- The growth of labels in a phase that never ends (Cominetti, Correa and Olver 2017; Olver, Sering and Vargas Koch 2021).
use Rattle.std.specs.Prelude.{◌≡◌, ◌↔◌, ℕ, ◌<◌, List}
use Rattle.nf_rational.specs.Rational.{ℚ}
use Rattle.nf_rational.specs.Operations.{1ℚ, ◌*ℚ◌, ◌/ℚ◌}
use Rattle.nf_rational.specs.Order.{◌≤ℚ◌, ◌<ℚ◌, lt_ℚ, max_ℚ}
use Rattle.nf_model.specs.Entries.{number_at, Has}
use Rattle.nf_model.specs.Network.{Link, Network, IsNetwork, IsLink, hops}
use Rattle.nf_model.specs.ThinFlow.{Sets, slacks_of, sets_at, IsThinFlow}
use Rattle.nf_model.specs.Phases.{IsUnending}
use Rattle.nf_thin_laws.specs.ActiveLinks.{HoldNoCycle}
use Rattle.nf_forever_laws.specs.Cuts.{Cut, IsStaticCut, cut_capacity, IsLeastCapacity}

-- Labels that grow at these slopes never change the sets: the slack of an inactive link never grows, and that of a resetting link never
-- falls.
pub record KeepsSets (net : Network) (sets : Sets) (slopes : List ℚ) : Type 0 where
  pub inactive : (e : ℕ) (link : Link) → IsLink net e link → (Has sets.active e → ⊥)
      → number_at slopes link.head ≤ℚ number_at slopes link.tail
  pub resetting : (e : ℕ) (link : Link) → IsLink net e link → Has sets.resetting e
      → number_at slopes link.tail ≤ℚ number_at slopes link.head

-- The nodes whose slope is below that of the sink.
abbrev pub slower_than_sink : Network → List ℚ → Cut
slower_than_sink net slopes v = lt_ℚ (number_at slopes v) (number_at slopes net.sink)

-- Each slope is at least 1. The supply rate is at most the slope of the sink times the capacity of any static cut. If the slope of the
-- sink is above 1, the nodes of lesser slope are a static cut, and the supply rate is the slope of the sink times the capacity of that cut.
pub record GrowsByCuts (net : Network) (rate : ℚ) (slopes : List ℚ) : Type 0 where
  pub keeps_up : (v : ℕ) → v < net.nodes → 1ℚ ≤ℚ number_at slopes v
  pub each_cut : (cut : Cut) → IsStaticCut net cut → rate ≤ℚ number_at slopes net.sink *ℚ cut_capacity net cut
  pub bottleneck : 1ℚ <ℚ number_at slopes net.sink → IsStaticCut net (slower_than_sink net slopes)
      × (rate ≡ number_at slopes net.sink *ℚ cut_capacity net (slower_than_sink net slopes))

-- The slope of the sink is 1 exactly if the capacity of each static cut is at least the supply rate. If that slope is above 1, the nodes of
-- lesser slope are a cut of the least capacity: the bottleneck. The slope of the sink is the supply rate over the least capacity, or 1 if
-- that is more.
pub record GrowsByLeastCut (net : Network) (rate : ℚ) (slopes : List ℚ) : Type 0 where
  pub settles : (number_at slopes net.sink ≡ 1ℚ) ↔ ((cut : Cut) → IsStaticCut net cut → rate ≤ℚ cut_capacity net cut)
  pub bottleneck : 1ℚ <ℚ number_at slopes net.sink → IsLeastCapacity net (cut_capacity net (slower_than_sink net slopes))
  pub slope : (least : ℚ) → IsLeastCapacity net least → number_at slopes net.sink ≡ max_ℚ 1ℚ (rate /ℚ least)

-- ---- theorems

-- `sets`: if active links hold no cycle, the slopes of a thin flow that preserve the sets grow by the cuts. `kept`: the slopes of a phase
-- that never ends preserve the sets of its labels. `phase`: the slopes of a phase that never ends grow by the cuts.
pub record EndlessPhaseGrowsByCuts : Type 0 where
  pub sets : (net : Network) (sets : Sets) (rate : ℚ) (flows slopes : List ℚ) → IsNetwork net → HoldNoCycle net sets
      → IsThinFlow net sets rate flows slopes → KeepsSets net sets slopes → GrowsByCuts net rate slopes
  pub kept : (net : Network) (labels slopes : List ℚ) (time : ℚ) → IsUnending net (slacks_of (hops net) labels) slopes time
      → KeepsSets net (sets_at net labels) slopes
  pub phase : (net : Network) (labels : List ℚ) (rate time : ℚ) (flows slopes : List ℚ) → IsNetwork net
      → IsThinFlow net (sets_at net labels) rate flows slopes → IsUnending net (slacks_of (hops net) labels) slopes time
      → GrowsByCuts net rate slopes

-- Slopes that grow by the cuts grow by the least cut.
abbrev pub GrowthIsByLeastCut : Type 0
GrowthIsByLeastCut = (net : Network) (rate : ℚ) (slopes : List ℚ) → IsNetwork net → GrowsByCuts net rate slopes
    → GrowsByLeastCut net rate slopes
