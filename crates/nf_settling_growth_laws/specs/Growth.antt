-- The least cut decides how fast labels grow in the long run (Cominetti, Correa and Olver 2017; Olver, Sering and Vargas Koch 2021).
use Rattle.std.specs.Prelude.{◌≡◌, ◌↔◌, ℕ, List, [], ◌∷◌, Some, None}
use Rattle.nf_rational.specs.Rational.{ℚ}
use Rattle.nf_rational.specs.Operations.{0ℚ, 1ℚ, ◌+ℚ◌, ◌-ℚ◌, ◌*ℚ◌, ◌/ℚ◌}
use Rattle.nf_rational.specs.Order.{◌≤ℚ◌, max_ℚ}
use Rattle.nf_model.specs.Entries.{number_at}
use Rattle.nf_model.specs.Curve.{Within}
use Rattle.nf_model.specs.Network.{Piece, Network, IsNetwork}
use Rattle.nf_model.specs.Equilibrium.{Flow, label, Equilibrium}
use Rattle.nf_model_laws.specs.MemberLaws.{one_link}
use Rattle.nf_forever_laws.specs.Cuts.{Cut, IsStaticCut, IsLeastCapacity}
use Rattle.nf_phase_def.specs.ToEnd.{Tail}
use Rattle.nf_forever_laws.specs.TailGrowth.{last_rate, TailGrows}
use Rattle.nf_settling_laws.specs.Settling.{IsLastSupply, CutsAreWide}
use Rattle.nf_settling_graded_laws.specs.Grading.{IsGraded}

-- The growth of a network: the last supply rate over the least capacity of a static cut. It is 1 if that is less than 1, or if there is
-- no static cut.
pub record IsGrowth (net : Network) (growth : ℚ) : Type 0 where
  pub least : (least : ℚ) → IsLeastCapacity net least → growth ≡ max_ℚ 1ℚ (last_rate net /ℚ least)
  pub free : ((cut : Cut) → IsStaticCut net cut → ⊥) → growth ≡ 1ℚ

-- In every equilibrium, from the last start of a piece on, the label of the sink differs from `growth` times the departure by at most the
-- bound.
pub record GrowsAt (net : Network) (growth bound : ℚ) : Type 0 where
  pub below : (flow : Flow) (departure : ℚ) → Equilibrium net flow → Within 0ℚ flow.reached departure → IsLastSupply net departure
      → label flow net.sink departure -ℚ growth *ℚ departure ≤ℚ bound
  pub above : (flow : Flow) (departure : ℚ) → Equilibrium net flow → Within 0ℚ flow.reached departure → IsLastSupply net departure
      → growth *ℚ departure -ℚ label flow net.sink departure ≤ℚ bound

-- ---- changes along many departures

-- The departures of the list are in order. None is before `before`, or after the departure reached.
abbrev pub AreInOrder : Flow → ℚ → List ℚ → Type 0
AreInOrder flow before [] = Unit {0}
AreInOrder flow before (departure ∷ later) = (before ≤ℚ departure) × (departure ≤ℚ flow.reached) × AreInOrder flow departure later

-- The sum of the changes of a function from each departure to the next, as absolute values. The first change is that from `before` to the
-- first departure of the list.
abbrev pub sway : (ℚ → ℚ) → ℚ → List ℚ → ℚ
sway f before [] = 0ℚ
sway f before (departure ∷ later) = max_ℚ (f departure -ℚ f before) (f before -ℚ f departure) +ℚ sway f departure later

-- In every equilibrium, from the last start of a piece on, the label of the sink less `growth` times the departure has changes of at most
-- the bound in all, up and down.
abbrev pub SwaysAtMost : Network → ℚ → ℚ → Type 0
SwaysAtMost net growth bound = (flow : Flow) (first : ℚ) (later : List ℚ) → Equilibrium net flow → Within 0ℚ flow.reached first
    → IsLastSupply net first → AreInOrder flow first later
    → sway (λ departure. label flow net.sink departure -ℚ growth *ℚ departure) first later ≤ℚ bound

-- ---- theorems

-- Each network has a growth, and a bound such that the label of the sink differs from the growth times the departure by at most the
-- bound. This holds in every equilibrium, from the last start of a piece on.
abbrev pub BottleneckDecides : Type 0
BottleneckDecides = (net : Network) → IsNetwork net → (growth : ℚ) × IsGrowth net growth × ((bound : ℚ) × GrowsAt net growth bound)

-- Each network has a growth, and a bound of all changes, up and down, of the label of the sink less the growth times the departure. This
-- holds in every equilibrium, from the last start of a piece on. The bound does not depend on the departure reached, so changes die out.
abbrev pub BottleneckSteadies : Type 0
BottleneckSteadies = (net : Network) → IsNetwork net → (growth : ℚ) × IsGrowth net growth × ((bound : ℚ) × SwaysAtMost net growth bound)

-- `level`: in a graded flow of the last supply rate the level of the sink is the growth of the network. `grows`: the label of the sink
-- grows at this level in every equilibrium, up to a bound that depends on the network alone.
pub record GradedFlowDecides : Type 0 where
  pub level : (net : Network) (flows levels : ℕ → ℚ) → IsNetwork net → IsGraded net (last_rate net) flows levels
      → IsGrowth net (levels net.sink)
  pub grows : (net : Network) (flows levels : ℕ → ℚ) → IsNetwork net → IsGraded net (last_rate net) flows levels
      → (bound : ℚ) × GrowsAt net (levels net.sink) bound

-- `only`: a network has one growth. `wide`: it is 1 exactly if the capacity of each static cut is at least the last supply rate.
pub record GrowthIsByCuts : Type 0 where
  pub only : (net : Network) (growth other : ℚ) → IsNetwork net → IsGrowth net growth → IsGrowth net other → growth ≡ other
  pub wide : (net : Network) (growth : ℚ) → IsNetwork net → IsGrowth net growth → (growth ≡ 1ℚ) ↔ CutsAreWide net

-- In the tail of a run the label of the sink grows at the growth of the network.
abbrev pub TailHasGrowth : Type 0
TailHasGrowth = (net : Network) (flow : Flow) (tail : Tail) (growth : ℚ) → IsNetwork net → TailGrows net flow tail → IsGrowth net growth
    → number_at tail.slopes net.sink ≡ growth

-- The growth of the network of one link from source to sink: the last supply rate over the capacity, or 1 if that is less than 1. It is 1
-- if the link is unbounded.
pub record OneLinkGrows : Type 0 where
  pub bounded : (transit capacity growth : ℚ) (pieces : List Piece) → IsGrowth (one_link transit (Some capacity) pieces) growth
      → growth ≡ max_ℚ 1ℚ (last_rate (one_link transit (Some capacity) pieces) /ℚ capacity)
  pub unbounded : (transit growth : ℚ) (pieces : List Piece) → IsGrowth (one_link transit None pieces) growth → growth ≡ 1ℚ
