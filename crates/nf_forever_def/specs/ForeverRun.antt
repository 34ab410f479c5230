-- The run without a horizon, phase by phase from departure 0. Each phase has the first accepted pattern and the greatest length. The run
-- ends by a stop, or by a phase that can have any length.
use Rattle.std.specs.Prelude.{◌≡◌, ℕ, ◌<◌, Option, Some, None}
use Rattle.nf_rational.specs.Rational.{ℚ}
use Rattle.nf_frac_def.specs.Passing.{Passing}
use Rattle.nf_model.specs.Network.{Network}
use Rattle.nf_model.specs.Pattern.{Pattern}
use Rattle.nf_model.specs.Equilibrium.{Flow}
use Rattle.nf_net_def.specs.declared.Cause.{Cause}
use Rattle.nf_thin_def.specs.PhaseRun.{Standing, IsStart, flow_of}
use Rattle.nf_phase_def.specs.ToEnd.{Tail, GoesToEnd, GoesForever, FailsOn}

-- ---- phase by phase

-- The end of a run: a stop, or a tail with its pattern.
pub data End : Type 0 where
  Stops : Cause ℚ → End
  NeverEnds : Pattern → Tail → End

module _ (passes : Passing) (net : Network) (phases patterns : ℕ) where
  -- The run from one state until it ends.
  pub data RunsForever : Standing → Standing → End → Type 0 where
    at_phases : {s : Standing} → s.made ≡ phases → RunsForever s s (Stops (Cause.Phases s.made))
    fails : {s : Standing} {cause : Cause ℚ} → s.made < phases → FailsOn passes net patterns s cause → RunsForever s s (Stops cause)
    never_ends : {s : Standing} {pattern : Pattern} {tail : Tail} → s.made < phases → GoesForever passes net patterns s pattern tail
        → RunsForever s s (NeverEnds pattern tail)
    goes : {s new last : Standing} {end : End} → s.made < phases → GoesToEnd passes net patterns s new → RunsForever new last end
        → RunsForever s last end

  pub record IsForeverRun (last : Standing) (end : End) : Type 0 where
    pub first : Standing
    pub start : IsStart net first
    pub runs : RunsForever first last end

-- ---- the result

-- The flow up to the departure reached, the number of phases not counting the tail, the pattern of the last one, and why the run stopped or
-- the tail.
pub record Forever : Type 0 where
  pub flow : Flow
  pub phases : ℕ
  pub last : Pattern
  pub stop : Option (Cause ℚ)
  pub tail : Option Tail

abbrev pub forever_of : Standing → End → Forever
forever_of s (Stops cause) = record { flow = flow_of s; phases = s.made; last = s.last; stop = Some cause; tail = None }
forever_of s (NeverEnds pattern tail) = record { flow = flow_of s; phases = s.made; last = pattern; stop = None; tail = Some tail }

pub record IsForever (passes : Passing) (net : Network) (phases patterns : ℕ) (forever : Forever) : Type 0 where
  pub last : Standing
  pub end : End
  pub run : IsForeverRun passes net phases patterns last end
  pub forever_is : forever ≡ forever_of last end
