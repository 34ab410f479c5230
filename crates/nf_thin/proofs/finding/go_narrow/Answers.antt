use Rattle.nf_thin.proofs.Common.{err_from_is_err_and}
use Rattle.nf_thin.proofs.finding.go_narrow.Goals as goal

pub returns-in_err-whole : goal.returns-in_err-whole
returns-in_err-whole c listing narrow n =
    let p = err_from_is_err_and c.from_residual.result c.from_residual.ensures.1 in rw (p.1, p.2) tt

pub returns-in_err-patterns : goal.returns-in_err-patterns
returns-in_err-patterns c listing narrow n =
    let p = err_from_is_err_and c.from_residual-in_err-patterns.result c.from_residual-in_err-patterns.ensures.1 in rw (p.1, p.2) tt
