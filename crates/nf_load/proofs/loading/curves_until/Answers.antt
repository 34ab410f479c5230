use Rattle.std.proofs.Common.{sym}
use Rattle.nf_load.proofs.Common.{err_from_is_err_and, Load, Sum, passes_Q, checked, at_part, checked_cut, outflow_points, was_ok, stops_on, moments_of}
use Rattle.nf_load.proofs.Common.{until_transit}
use Rattle.nf_load.proofs.LoadedCurves.{end_after_0}
use Rattle.nf_load.proofs.LoadingSteps.{end_stops, whole_stops, whole_goes}
use Rattle.nf_load.proofs.Leaves.{exits_of}
use Rattle.nf_load.proofs.loading.curves_until.Goals as goal

pub returns-in_err-end : goal.returns-in_err-end
returns-in_err-end c =
    let p = err_from_is_err_and c.from_residual.result c.from_residual.ensures.1 in
    rw (p.1, p.2) (end_stops passes_Q Load c.args.transit (moments_of c.args.all.now) c.args.all.now c.args.until c.in_err-end.field-0.0 (sym c.in_err-end.ensures))

pub outflow_until-requires-clause-curve : goal.outflow_until-requires-clause-curve
outflow_until-requires-clause-curve c = c.requires.curves.outflow

pub outflow_until-requires-clause-end : goal.outflow_until-requires-clause-end
outflow_until-requires-clause-end c = end_after_0 passes_Q c.args.until c.args.transit c.in_ok-end.end c.requires.until c.requires.transit
    (was_ok Load (checked passes_Q Sum c.args.until c.args.transit) c.in_ok-end.end (sym c.in_ok-end.ensures))

pub returns-in_err-whole_outflow : goal.returns-in_err-whole_outflow
returns-in_err-whole_outflow c =
    let p = err_from_is_err_and c.from_residual-in_err-whole_outflow.result c.from_residual-in_err-whole_outflow.ensures.1 in
    rw (p.1, p.2) (stops_on c.in_err-whole_outflow.field-0.0 (at_part Load (checked_cut passes_Q (outflow_points c.args.all.now) c.in_ok-end.end))
    (at_part Load (until_transit passes_Q c.args.transit (moments_of c.args.all.now) c.args.all.now c.args.until))
    (whole_stops passes_Q Load c.args.transit (moments_of c.args.all.now) c.args.all.now c.args.until c.in_ok-end.end (sym c.in_ok-end.ensures)) c.in_err-whole_outflow.ensures.list)

pub short_curves-requires-clause-curves : goal.short_curves-requires-clause-curves
short_curves-requires-clause-curves c = c.requires.curves

pub returns : goal.returns
returns c =
    let e = whole_goes passes_Q Load c.args.transit (moments_of c.args.all.now) c.args.all.now c.args.until c.in_ok-end.end
    (sym c.in_ok-end.ensures) c.in_ok-whole_outflow.whole_outflow.curve.points c.in_ok-whole_outflow.ensures.list in
    rw e c.short_curves.ensures

pub all_leaving-requires-clause-exits : goal.all_leaving-requires-clause-exits
all_leaving-requires-clause-exits c =
    exits_of c.args.capacity.now c.args.transit (moments_of c.args.all.now) c.args.paces.now c.args.all.now
    c.requires.exits c.requires.paces

pub short_curves-requires-clause-paces : goal.short_curves-requires-clause-paces
short_curves-requires-clause-paces c = (c.args.capacity.now, c.requires.paces)
