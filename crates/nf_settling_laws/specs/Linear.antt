-- Labels that grow at constant slopes for ever (Cominetti, Correa and Olver 2017; Olver, Sering and Vargas Koch 2021).
use Rattle.std.specs.Prelude.{◌≡◌, ℕ, ◌<◌, List, length, IfSome}
use Rattle.nf_rational.specs.Rational.{ℚ}
use Rattle.nf_rational.specs.Operations.{0ℚ, ◌+ℚ◌, ◌-ℚ◌, ◌*ℚ◌}
use Rattle.nf_rational.specs.Order.{◌≤ℚ◌}
use Rattle.nf_frac_def.specs.Passing.{Passing}
use Rattle.nf_model.specs.Entries.{number_at}
use Rattle.nf_model.specs.Curve.{Within}
use Rattle.nf_model.specs.Network.{Network, IsNetwork}
use Rattle.nf_model.specs.Pattern.{Pattern}
use Rattle.nf_model.specs.Equilibrium.{Flow, label, Equilibrium}
use Rattle.nf_thin_def.specs.PhaseRun.{Standing, flow_of}
use Rattle.nf_phase_def.specs.ToEnd.{Tail}
use Rattle.nf_forever_def.specs.ForeverRun.{NeverEnds, IsForeverRun, Forever, IsForever}
use Rattle.nf_forever_laws.specs.Growth.{GrowsByCuts, GrowsByLeastCut}
use Rattle.nf_forever_laws.specs.TailGrowth.{last_rate, TailGrows}

-- From the departure `from` on, equilibria of the network go on for ever, and in each of them the label of each node grows at the slope
-- of the node. `reaches`: each later departure is described by an equilibrium.
pub record GrowsLinearly (net : Network) (from : ℚ) (slopes : List ℚ) : Type 0 where
  pub not_negative : 0ℚ ≤ℚ from
  pub count : length slopes ≡ net.nodes
  pub reaches : (until : ℚ) → from ≤ℚ until → (flow : Flow) × Equilibrium net flow × (until ≤ℚ flow.reached)
  pub grow : (flow : Flow) (v : ℕ) (departure : ℚ) → Equilibrium net flow → v < net.nodes → Within from flow.reached departure
      → label flow v departure ≡ label flow v from +ℚ (departure -ℚ from) *ℚ number_at slopes v

-- ---- theorems

-- If labels grow at constant slopes for ever, their slopes grow by the cuts and by the least cut, with the last supply rate. The time of
-- the last start of a piece does not matter.
abbrev pub LinearGrowthIsByCuts : Type 0
LinearGrowthIsByCuts = (net : Network) (from : ℚ) (slopes : List ℚ) → IsNetwork net → GrowsLinearly net from slopes
    → GrowsByCuts net (last_rate net) slopes × GrowsByLeastCut net (last_rate net) slopes

-- Runs without a horizon that end in a tail. `linear`: labels grow at the slopes of the tail for ever. `run`: so they grow by the cuts.
-- `told`: the same for the result of the run.
pub record TailGrowsByCuts : Type 0 where
  pub linear : (passes : Passing) (net : Network) (phases patterns : ℕ) (last : Standing) (pattern : Pattern) (tail : Tail) → IsNetwork net
      → IsForeverRun passes net phases patterns last (NeverEnds pattern tail) → GrowsLinearly net last.time tail.slopes
  pub run : (passes : Passing) (net : Network) (phases patterns : ℕ) (last : Standing) (pattern : Pattern) (tail : Tail) → IsNetwork net
      → IsForeverRun passes net phases patterns last (NeverEnds pattern tail) → TailGrows net (flow_of last) tail
  pub told : (passes : Passing) (net : Network) (phases patterns : ℕ) (forever : Forever) → IsNetwork net
      → IsForever passes net phases patterns forever → IfSome forever.tail (TailGrows net forever.flow)
