use Rattle.nf_phase_run_laws.proofs.Stops.{never_run, never_report, never_resumed, never_forever}
use Rattle.nf_phase_run_laws.proofs.no_run_stops_for_no_pattern.Goals as goal

pub returns : goal.returns
returns c = record { run = never_run; report = never_report; resumed = never_resumed; forever = never_forever }
