use Rattle.std.proofs.Common.{List, subst}
use Rattle.nf_report_pages.proofs.Common.{AllByRecursion, ℚ, IsFraction}
use Rattle.nf_report_pages.proofs.known.know_trace.Goals as goal

pub returns : goal.returns
returns c = (c.know_points.ensures, subst (λ (rates : List ℚ). AllByRecursion IsFraction rates) c.deref.ensures.value c.know_rates.ensures)
