-- Runs that stopped within a phase; the first phase of their resumption is the remainder of that phase.
use Rattle.std.specs.Prelude.{◌≡◌, ◌≢◌, ℕ, ◌<◌, Option, Some, None, slice_get}
use Rattle.nf_rational.specs.Rational.{ℚ}
use Rattle.nf_rational.specs.Operations.{0ℚ}
use Rattle.nf_rational.specs.Order.{◌<ℚ◌}
use Rattle.nf_frac_def.specs.Passing.{Passing}
use Rattle.nf_model.specs.Network.{Link, Piece, Network, IsLink, IsPiece, hop_of}
use Rattle.nf_model.specs.ThinFlow.{slack}
use Rattle.nf_model.specs.Pattern.{Pattern}
use Rattle.nf_net_def.specs.declared.Cause.{Cause}
use Rattle.nf_net_def.specs.declared.Cause.TheVariants as Cause
use Rattle.nf_thin_def.specs.PhaseRun.{Standing, Bounds, Goes, Fails}

-- The run is mid-phase. No supply piece starts at the departure reached, and each link without a state in the last pattern has nonzero
-- slack.
pub record IsOpen (net : Network) (s : Standing) : Type 0 where
  pub no_start : (i : ℕ) (piece : Piece) → IsPiece net.pieces i piece → piece.start ≢ s.time
  pub apart : (e : ℕ) (link : Link) → IsLink net e link → slice_get s.last e ≡ Some None → slack s.labels (hop_of link) ≢ 0ℚ

-- The next phase is the remainder of an interrupted phase, and the first since the run was restored. A run from the start is not mid-phase
-- before its first phase: no link has a state then, and some have slack 0.
abbrev pub Continues : Network → Standing → Type 0
Continues net s = (s.made ≡ 0) × IsOpen net s

-- The run state with another last pattern.
abbrev pub with_last : Pattern → Standing → Standing
with_last last s =
    record { time = s.time; labels = s.labels; label_curves = s.label_curves; link_curves = s.link_curves; made = s.made; last = last }

module _ (passes : Passing) (net : Network) (horizon : ℚ) (patterns : ℕ) where
  -- One more phase. If it is the remainder of an interrupted phase, the last pattern stays.
  pub data Steps (s : Standing) : Standing → Type 0 where
    continues : {t : Standing} → Continues net s → Goes passes net horizon patterns s t → Steps s (with_last s.last t)
    begins : {t : Standing} → (Continues net s → ⊥) → Goes passes net horizon patterns s t → Steps s t

-- The phases of a run from one state until it ends. They are those of the phase run, except for the remainder of an interrupted phase.
module _ (passes : Passing) (net : Network) (bounds : Bounds) where
  pub data RunsOn : Standing → Standing → Option (Cause ℚ) → Type 0 where
    at_horizon : {s : Standing} → s.time ≡ bounds.horizon → RunsOn s s None
    at_phases : {s : Standing} → s.time <ℚ bounds.horizon → s.made ≡ bounds.phases → RunsOn s s (Some (Cause.Phases s.made))
    fails : {s : Standing} {cause : Cause ℚ} → s.made < bounds.phases → Fails passes net bounds.horizon bounds.patterns s cause
        → RunsOn s s (Some cause)
    steps : {s new last : Standing} {stop : Option (Cause ℚ)} → s.made < bounds.phases
        → Steps passes net bounds.horizon bounds.patterns s new
        → RunsOn new last stop → RunsOn s last stop
