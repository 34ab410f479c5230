-- No run stops because no pattern is left.
use Rattle.std.specs.Prelude.{◌≡◌, ℕ, Option, Some}
use Rattle.nf_rational.specs.Rational.{ℚ}
use Rattle.nf_frac_def.specs.Passing.{Passing}
use Rattle.nf_model.specs.Network.{Network, IsNetwork}
use Rattle.nf_net_def.specs.declared.Cause.{Cause}
use Rattle.nf_net_def.specs.Report.{Report, IsWellFormed}
use Rattle.nf_thin_def.specs.PhaseRun.{Standing, Bounds, IsPhaseRun, IsRunReport}
use Rattle.nf_forever_def.specs.ForeverRun.{Forever, IsForever}
use Rattle.nf_resume_def.specs.Meanings.{IsResumedReport}

-- The stop, if there is one, is not that no pattern is left.
abbrev pub NeverNoPattern : Option (Cause ℚ) → Type 0
NeverNoPattern stop = (phase : ℕ) → stop ≡ Some (Cause.NoPattern phase) → ⊥

pub record NoRunStopsForNoPattern : Type 0 where
  pub run : (passes : Passing) (net : Network) (bounds : Bounds) (last : Standing) (stop : Option (Cause ℚ)) → IsNetwork net
      → IsPhaseRun passes net bounds last stop → NeverNoPattern stop
  pub report : (passes : Passing) (net : Network) (bounds : Bounds) (report : Report) → IsNetwork net → IsRunReport passes net bounds report
      → NeverNoPattern report.stop
  pub resumed : (passes : Passing) (net : Network) (bounds : Bounds) (old : Report) (phases : ℕ) (report : Report) → IsNetwork net
      → IsWellFormed net old
      → IsResumedReport passes net bounds old phases report → NeverNoPattern report.stop
  pub forever : (passes : Passing) (net : Network) (phases patterns : ℕ) (forever : Forever) → IsNetwork net
      → IsForever passes net phases patterns forever → NeverNoPattern forever.stop
