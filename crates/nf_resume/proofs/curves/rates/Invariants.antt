use Rattle.nf_resume.proofs.Common.{passes_Q}
use Rattle.nf_resume.proofs.Rates.{RatesTo}
use Rattle.nf_resume.proofs.curves.rates.Given as goal

abbrev pub invariant-loop-i : goal.invariant-loop-i
invariant-loop-i l = RatesTo passes_Q l.curve.points l.i l.rates.items
