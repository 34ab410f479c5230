use Rattle.std.proofs.Common.{◌≡◌, ◌<◌, ◌-◌, length, sym, ap, ◌∙◌, arith}
use Rattle.nf_resume.proofs.Common.{points_at, value_at_end, points_of_each}
use Rattle.nf_resume.proofs.Ends.{end_is, curve_at_is}
use Rattle.nf_resume.proofs.curves.last_label.Goals as goal

pub returns : goal.returns
returns c =
    let inside : c.index.result < length c.args.labels.now = omega (arith, c.index.ensures, c.requires) in
    let here : points_at (points_of_each c.args.labels.now) c.args.node ≡ c.index-labels-index.result.points = ap (points_at (points_of_each c.args.labels.now)) (sym c.index.ensures)
    ∙ curve_at_is c.args.labels.now c.index.result c.index-labels-index.result inside c.index-labels-index.is in
    end_is c.index-labels-index.result.points (c.len.result - 1) c.point-value.result c.point-value.ensures
    (omega (arith, c.len.ensures.count, c.len.ensures.some)) ∙ ap value_at_end (sym here)
