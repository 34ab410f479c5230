use Rattle.nf_load.proofs.Common.{err_from_is_err_and, Load, passes_Q, at_part, checked_cut, checked_loading, was_ok, stops_on}
use Rattle.nf_load.proofs.LoadedCurves.{loaded_curves, is_loaded}
use Rattle.nf_load.proofs.LoadingSteps.{cut_stops, cut_goes}
use Rattle.nf_load.proofs.loading.load_link.Goals as goal

pub returns-in_err-cut-clause-list : goal.returns-in_err-cut-clause-list
returns-in_err-cut-clause-list c =
    let p = err_from_is_err_and c.from_residual.result c.from_residual.ensures.1 in
    rw (p.1, p.2) (stops_on c.in_err-cut.field-0.0 (at_part Load (checked_cut passes_Q c.args.inflow.now.points c.args.until))
    (at_part Load (checked_loading passes_Q c.args.transit c.args.capacity c.args.inflow.now.points c.args.until))
    (cut_stops passes_Q Load c.args.transit c.args.capacity c.args.inflow.now.points c.args.until) c.in_err-cut.ensures.list)

pub load_cut-requires-clause-curves : goal.load_cut-requires-clause-curves
load_cut-requires-clause-curves c =
    loaded_curves passes_Q c.args.transit c.args.capacity c.args.inflow.now.points c.args.until c.recall.ensures.curve c.requires.until
    c.in_ok-cut.cut.points
    (was_ok Load (checked_cut passes_Q c.args.inflow.now.points c.args.until) c.in_ok-cut.cut.points c.in_ok-cut.ensures.list) c.requires.begins
    c.requires.rises c.requires.transit c.requires.capacity

pub returns-clause-list : goal.returns-clause-list
returns-clause-list c =
    let e = cut_goes passes_Q Load c.args.transit c.args.capacity c.args.inflow.now.points c.args.until c.in_ok-cut.cut.points c.in_ok-cut.ensures.list in
    rw e c.load_cut.ensures

pub returns-clause-loaded : goal.returns-clause-loaded
returns-clause-loaded c =
    is_loaded passes_Q c.args.transit c.args.capacity c.args.inflow.now.points c.args.until Load c.load_cut.result c.recall.ensures.curve c.requires.begins
    c.requires.rises c.requires.transit c.requires.capacity c.requires.until
    (returns-clause-list c)
