use Rattle.nf_phase_laws.proofs.Sequence.{run_sequence, sequence_ends}
use Rattle.nf_phase_laws.proofs.run_is_phase_sequence.Goals as goal

pub returns : goal.returns
returns c = record {
  is_one = λ passes net bounds last stop good run. run_sequence passes net good bounds last stop run;
  ends = λ passes net bounds last stop phases good run sequence count. sequence_ends passes net good bounds last stop run phases sequence count;
}
