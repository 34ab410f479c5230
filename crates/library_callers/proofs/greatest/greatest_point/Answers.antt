use Rattle.std.proofs.Common.{List, fold, take, sym, ap, ◌∙◌}
use Rattle.std.proofs.lemmas.List.{take_all}
use Rattle.std.proofs.lemmas.List.Sums.{fold_more}
use Rattle.nf_rational.specs.Rational.{ℚ}
use Rattle.nf_model.specs.Curve.{Point}
use Rattle.library_callers.specs.Greatest.{taller}
use Rattle.library_callers.proofs.greatest.greatest_point.Goals as goal

pub loop-point-preserved : goal.loop-point-preserved
loop-point-preserved c =
    c.with_point-greatest.ensures
    ∙ ap (λ (g : ℚ). taller c.args.last g c.point-item.result) c.loop-point.invariant
    ∙ ap (λ (p : Point). taller c.args.last (fold (taller c.args.last) c.args.end (take c.loop-point.point-index c.args.points.now)) p) c.point-item.is
    ∙ sym (fold_more (taller c.args.last) c.args.end c.args.points.now c.loop-point.point-index c.point-item.result c.loop-point-test.true)

pub returns : goal.returns
returns c =
    c.loop-point.invariant
    ∙ ap (λ (l : List Point). fold (taller c.args.last) c.args.end l) (take_all c.loop-point.point-index c.args.points.now c.loop-point-test.false)
