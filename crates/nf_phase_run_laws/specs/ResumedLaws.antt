-- Comparison of a resumed run with the run from the start.
use Rattle.std.specs.Prelude.{◌≡◌, ℕ, length, Option, None, Ok}
use Rattle.nf_frac_def.specs.Passing.{Passing}
use Rattle.nf_model.specs.Network.{Network, IsNetwork}
use Rattle.nf_net_def.specs.declared.Cause.{Cause}
use Rattle.nf_net_def.specs.Report.{Report}
use Rattle.nf_rational.specs.Rational.{ℚ}
use Rattle.nf_thin_def.specs.PhaseRun.{Standing, Bounds, Goes, IsPhaseRun, IsRunReport, report_of}
use Rattle.nf_resume_def.specs.Resuming.{restart_list}
use Rattle.nf_phase_def.specs.Open.{IsOpen}
use Rattle.nf_resume_def.specs.Meanings.{IsResumedReport, NonePassesIn}

-- The run state with another number of phases.
abbrev pub with_made : ℕ → Standing → Standing
with_made made s =
    record { time = s.time; labels = s.labels; label_curves = s.label_curves; link_curves = s.link_curves; made = made; last = s.last }

-- Restoring a run from its report gives the run's state, with no phase counted.
abbrev pub RunIsRestored : Type 0
RunIsRestored = (passes : Passing) (net : Network) (bounds : Bounds) (last first : Standing) (stop : Option (Cause ℚ)) → IsNetwork net
    → IsPhaseRun passes net bounds last stop
    → restart_list passes net (report_of bounds.horizon last stop) ≡ Ok first → first ≡ with_made 0 last

-- Whatever phase follows this run state, no operation of a table or verdict list exceeds its bound in the search for the phase.
abbrev pub NonePassesNext : Passing → Network → Bounds → Standing → Type 0
NonePassesNext passes net bounds s = (new : Standing) (phase : Goes passes net bounds.horizon bounds.patterns s new)
    → NonePassesIn passes net bounds.horizon bounds.patterns s new phase

-- If the run is mid-phase, no operation of a table or verdict list exceeds its bound in the search for the remainder of the phase.
abbrev pub RestFits : Passing → Network → Bounds → Standing → Type 0
RestFits passes net bounds s = IsOpen net s → NonePassesNext passes net bounds s

-- A run has a report, for whatever reason it stopped. A run resumed from it and a run from the start, which both reach a later horizon,
-- have the same report. If the first run ended mid-phase, no operation of a table or verdict list may exceed its bound in the search for
-- the remainder of that phase.
abbrev pub ResumedIsSolved : Type 0
ResumedIsSolved = (passes : Passing) (net : Network) (bounds later resumed : Bounds) (old solved report : Report) (phases : ℕ)
    → IsNetwork net
    → (ran : IsRunReport passes net bounds old) → IsRunReport passes net later solved → solved.stop ≡ None
    → IsResumedReport passes net resumed old phases report → report.stop ≡ None → resumed.horizon ≡ later.horizon
    → RestFits passes net resumed ran.last → report ≡ solved

-- Resuming a report is deterministic: the number of phases and the resulting report are unique. The last pattern of the report must have an
-- entry for each link.
abbrev pub ResumedRunHasOneReport : Type 0
ResumedRunHasOneReport = (passes : Passing) (net : Network) (bounds : Bounds) (old : Report) (phases others : ℕ) (report other : Report)
    → length old.last ≡ length net.links
    → IsResumedReport passes net bounds old phases report → IsResumedReport passes net bounds old others other
    → (phases ≡ others) × (report ≡ other)
