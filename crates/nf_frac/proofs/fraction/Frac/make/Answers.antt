use Rattle.std.proofs.Common.{ap}
use Rattle.nf_frac.proofs.Common.{bound_of}
use mir.Syntax.{w128}
use mir.Val.{of_z}
use mir.Facts.{to_z-of_z}
use Rattle.nf_frac.proofs.Form.{stops}
use Rattle.nf_frac.proofs.Made.{made, not_made}
use Rattle.nf_frac.proofs.Passing.{within_along}
use Rattle.nf_frac.proofs.fraction.Frac.make.Goals as goal

pub returns-in_err-value : goal.returns-in_err-value
returns-in_err-value g c =
    stops _ _ _ c.from_residual.ensures
    (not_made c.args.num c.args.den _ _ _ _ (bound_of g.row.BITS) (to_z-of_z c.ranges.num)
    (to_z-of_z c.ranges.den) c.unsigned_abs.ensures.value c.unsigned_abs-2.ensures.value (λ e. c.if-den-eq0.false (ap (of_z w128) e))
    (rw c.bound.ensures.value at c.in_err-value.ensures))

pub returns : goal.returns
returns g c =
    made c.args.num c.args.den _ _ _ _ (bound_of g.row.BITS) (to_z-of_z c.ranges.num)
    (to_z-of_z c.ranges.den) c.unsigned_abs.ensures.value c.unsigned_abs-2.ensures.value (λ e. c.if-den-eq0.false (ap (of_z w128) e))
    c.in_ok-value.value (rw c.bound.ensures.value at c.in_ok-value.ensures)

pub invariant_of-result : goal.invariant_of-result
invariant_of-result g c =
    let w = rw c.bound.ensures.value at c.in_ok-value.ensures in
    within_along (bound_of g.row.BITS) _ _ w.1 w.0
