-- Properties of the network that a run without a horizon implies.
use Rattle.std.specs.Prelude.{◌≡◌, ℕ, List, length, Some, Ok}
use Rattle.nf_rational.specs.Rational.{ℚ}
use Rattle.nf_rational.specs.Operations.{0ℚ}
use Rattle.nf_rational.specs.Order.{◌≤ℚ◌, ◌<ℚ◌}
use Rattle.nf_frac_def.specs.Passing.{Passing}
use Rattle.nf_model.specs.Network.{Network, IsNetwork, hops}
use Rattle.nf_model.specs.ThinFlow.{slacks_of}
use Rattle.nf_model.specs.Pattern.{Pattern}
use Rattle.nf_model.specs.Equilibrium.{Flow, Equilibrium}
use Rattle.nf_net_def.specs.declared.Cause.{Cause}
use Rattle.nf_thin_def.specs.Search.{Found}
use Rattle.nf_thin_def.specs.PhaseRun.{Standing, Goes, Fails, flow_of}
use Rattle.nf_complete_def.specs.Reached.{StopsForNoThinFlow}
use Rattle.nf_phase_def.specs.ToEnd.{Tail}
use Rattle.nf_phase_def.specs.ToEnd.{end_list, SeeksOn, GoesToEnd, FailsOn}
use Rattle.nf_forever_def.specs.ForeverRun.{End, NeverEnds, IsForeverRun, Forever, IsForever}
use Rattle.nf_forever_def.specs.Extended.{up_to, flow_until}

-- However the run ends, its flow is an equilibrium up to the departure reached.
abbrev pub ForeverRunIsEquilibrium : Type 0
ForeverRunIsEquilibrium = (passes : Passing) (net : Network) (phases patterns : ℕ) (last : Standing) (end : End) → IsNetwork net
    → IsForeverRun passes net phases patterns last end → Equilibrium net (flow_of last)

-- If the run ends in a tail, the flow extended by the tail is an equilibrium up to every departure from 0 on.
abbrev pub TailGoesOn : Type 0
TailGoesOn = (passes : Passing) (net : Network) (phases patterns : ℕ) (last : Standing) (pattern : Pattern) (tail : Tail) (until : ℚ)
    → IsNetwork net
    → IsForeverRun passes net phases patterns last (NeverEnds pattern tail) → 0ℚ ≤ℚ until
    → Equilibrium net (flow_until net (flow_of last) tail until)

-- An equilibrium up to a departure is an equilibrium up to each earlier departure.
abbrev pub EquilibriumHoldsBefore : Type 0
EquilibriumHoldsBefore = (net : Network) (flow : Flow) (until : ℚ) → IsNetwork net → Equilibrium net flow → 0ℚ ≤ℚ until
    → until ≤ℚ flow.reached
    → Equilibrium net (up_to flow until)

-- Two runs without a horizon of the same network with the same budgets have the same result.
abbrev pub ForeverHasOneResult : Type 0
ForeverHasOneResult = (passes : Passing) (net : Network) (phases patterns : ℕ) (forever other : Forever)
    → IsForever passes net phases patterns forever
    → IsForever passes net phases patterns other → forever ≡ other

-- If a run stopped because no pattern was left, there is no thin flow where it stopped.
abbrev pub StoppedForeverHasNoThinFlow : Type 0
StoppedForeverHasNoThinFlow = (passes : Passing) (net : Network) (phases patterns : ℕ) (forever : Forever) → IsNetwork net
    → IsForever passes net phases patterns forever
    → StopsForNoThinFlow net forever.stop forever.flow

-- The end of a phase is later than its beginning. With that end as horizon, the phase of a run is a phase of the run without a horizon, and
-- a cause for which there is none is a cause there too.
pub record StepsAgree : Type 0 where
  pub later : (passes : Passing) (net : Network) (slacks slopes : List ℚ) (time end : ℚ) → IsNetwork net
      → end_list passes net slacks slopes time ≡ Ok (Some end) → time <ℚ end
  pub goes : (passes : Passing) (net : Network) (patterns : ℕ) (s new : Standing) (place : ℕ) (pattern : Pattern) (flows slopes : List ℚ)
      (end : ℚ) → length s.last ≡ length net.links
      → SeeksOn passes net patterns s (Found place pattern flows slopes)
      → end_list passes net (slacks_of (hops net) s.labels) slopes s.time ≡ Ok (Some end)
      → Goes passes net end patterns s new → GoesToEnd passes net patterns s new
  pub fails : (passes : Passing) (net : Network) (patterns : ℕ) (s : Standing) (cause : Cause ℚ) (place : ℕ) (pattern : Pattern)
      (flows slopes : List ℚ) (end : ℚ) → length s.last ≡ length net.links
      → SeeksOn passes net patterns s (Found place pattern flows slopes)
      → end_list passes net (slacks_of (hops net) s.labels) slopes s.time ≡ Ok (Some end)
      → Fails passes net end patterns s cause → FailsOn passes net patterns s cause
