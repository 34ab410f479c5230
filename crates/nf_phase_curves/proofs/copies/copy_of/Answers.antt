use Rattle.std.proofs.Common.{◌∙◌, arith}
use Rattle.nf_phase_curves.proofs.Common.{take_all, IfOk-weaker}
use Rattle.nf_phase_curves.proofs.copies.copy_of.Goals as goal

pub returns : goal.returns
returns c =
    let all = take_all c.len.result c.args.curve.now.points (omega (arith, c.len.ensures.count)) in
    IfOk-weaker c.first_points.result _ _ (λ copy is. is ∙ all) c.first_points.ensures
