use Rattle.nf_phase_run_laws.proofs.Sequences.{sequences_go_on}
use Rattle.nf_phase_run_laws.proofs.phase_sequences_go_on.Goals as goal

pub returns : goal.returns
returns c = sequences_go_on
