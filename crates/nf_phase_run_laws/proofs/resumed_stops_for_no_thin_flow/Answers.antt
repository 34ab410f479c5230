use Rattle.nf_phase_run_laws.proofs.Stopping.{resumed_stops_for_none}
use Rattle.nf_phase_run_laws.proofs.resumed_stops_for_no_thin_flow.Goals as goal

pub returns : goal.returns
returns c = λ passes net bounds old phases report good formed resumed. resumed_stops_for_none passes net bounds old phases report good formed resumed
