use Rattle.nf_frac_def.proofs.Readings.{passed_in, passed_out, value_in_answer, value_out}
use Rattle.nf_frac_def.proofs.first_passing_is_answered.Goals as goal

pub returns : goal.returns
returns c = record {
  passed = λ passes w p. (passed_out passes w p, passed_in passes w p);
  value = λ passes w x. (value_out passes w x, value_in_answer passes w x);
}
