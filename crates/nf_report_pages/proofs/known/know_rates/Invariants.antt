use Rattle.std.proofs.Common.{take}
use Rattle.nf_report_pages.proofs.Common.{AllByRecursion, IsFraction}
use Rattle.nf_report_pages.proofs.known.know_rates.Given as goal

abbrev pub invariant-loop-rate : goal.invariant-loop-rate
invariant-loop-rate l = AllByRecursion IsFraction (take l.rate-index l.rates)
