use Rattle.std.proofs.Common.{◌≡◌, List, sym, ap, subst, Ok}
use Rattle.nf_load.proofs.Common.{ℚ, Load, passes_Q, at_part, checked_cut, AreRates}
use Rattle.nf_load.proofs.LoadedCurves.{loaded_curves, is_loaded}
use Rattle.nf_load.proofs.LoadingSteps.{cut_goes}
use Rattle.nf_load.proofs.loading.load_trace.Goals as goal

pub load_cut-requires-clause-curves : goal.load_cut-requires-clause-curves
load_cut-requires-clause-curves c =
    loaded_curves passes_Q c.args.transit c.args.capacity c.args.inflow.now.curve.points c.args.until c.recall.ensures.curve c.requires.until
    c.args.inflow.now.curve.points
    (rw c.as_points.ensures.points at c.ends_at.ensures.whole c.if-ends_at.true) c.requires.begins c.requires.rises c.requires.transit c.requires.capacity

pub load_cut-requires-clause-rates : goal.load_cut-requires-clause-rates
load_cut-requires-clause-rates c = subst (λ (l : List ℚ). AreRates c.args.inflow.now.curve.points l) (sym c.deref.ensures.value) c.requires.rates

pub returns-then-ends_at-clause-list : goal.returns-then-ends_at-clause-list
returns-then-ends_at-clause-list c =
    let whole : checked_cut passes_Q c.args.inflow.now.curve.points c.args.until ≡ Ok c.args.inflow.now.curve.points =
    rw c.as_points.ensures.points at c.ends_at.ensures.whole c.if-ends_at.true in
    let e = cut_goes passes_Q Load c.args.transit c.args.capacity c.args.inflow.now.curve.points c.args.until c.args.inflow.now.curve.points (ap (at_part Load) whole) in
    rw e c.load_cut.ensures

pub returns-then-ends_at-clause-loaded : goal.returns-then-ends_at-clause-loaded
returns-then-ends_at-clause-loaded c =
    is_loaded passes_Q c.args.transit c.args.capacity c.args.inflow.now.curve.points c.args.until Load c.load_cut.result c.recall.ensures.curve
    c.requires.begins c.requires.rises c.requires.transit
    c.requires.capacity c.requires.until (returns-then-ends_at-clause-list c)
