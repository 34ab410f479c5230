use Rattle.std.proofs.Common.{◌≡◌, List, IfOk, subst}
use Rattle.nf_model.specs.Curve.{Point, value}
use Rattle.nf_report_pages.proofs.Parts.{points_there}
use Rattle.library_callers.proofs.routes.travel.Goals as goal

pub returns : goal.returns
returns c =
    let there = points_there c.args.routed.now.travels.items c.args.route c.index-curve.result.now c.index-curve.ensures c.requires.route in
    subst (λ (points : List Point). IfOk c.value.result (λ time. time ≡ value points c.args.departure)) there c.value.ensures.value
