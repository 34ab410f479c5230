use Rattle.std.proofs.Common.{Some, sym, subst}
use Rattle.nf_report_pages.proofs.Common.{ℚ, Cause, IsReadableCause}
use Rattle.nf_report_pages.proofs.known.know_stop.Goals as goal

pub returns-in-Patterns : goal.returns-in-Patterns
returns-in-Patterns c =
    subst (λ (stop : Cause ℚ). IsReadableCause (Some stop)) (sym c.in-Patterns.is) (c.know_count-in-Patterns.ensures, c.know_count-in-Patterns-2.ensures)

pub returns-in-Passed : goal.returns-in-Passed
returns-in-Passed c =
    subst (λ (stop : Cause ℚ). IsReadableCause (Some stop)) (sym c.in-Passed.is)
    (c.know_count-in-Passed.ensures, c.know_place.ensures, c.recall.ensures, c.recall-in-Passed.ensures)
