use Rattle.nf_linear_laws.proofs.Solutions.{one_solution, not_one_solution}
use Rattle.nf_linear_laws.proofs.table_is_solved.Goals as goal

pub returns : goal.returns
returns c = record { one = one_solution; not_one = not_one_solution }
