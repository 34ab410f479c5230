use Rattle.nf_thin_one.proofs.Common.{NoneNegativeBefore}
use Rattle.nf_thin_one.proofs.verdicts.first_negative.Given as goal

abbrev pub invariant-loop-v : goal.invariant-loop-v
invariant-loop-v l = NoneNegativeBefore l.slopes l.v
