use Rattle.std.proofs.Common.{◌≡◌, List, fold, sym, ap, subst, ◌∙◌}
use Rattle.nf_rational.specs.Rational.{ℚ}
use Rattle.nf_rational.specs.Operations.{0ℚ}
use Rattle.nf_model.specs.Curve.{Point, IsGreatest, value}
use Rattle.library_callers.specs.Greatest.{taller}
use Rattle.library_callers.proofs.Tallest.{is_greatest}
use Rattle.library_callers.proofs.greatest.greatest_value.Goals as goal

pub returns-clause-greatest : goal.returns-clause-greatest
returns-clause-greatest c =
    let points = c.args.curve.now.points in
    let f : c.greatest_point.result ≡ fold (taller c.args.last) (value points c.args.last) points =
    c.greatest_point.ensures ∙ ap (λ (l : List Point). fold (taller c.args.last) c.in_ok-end.end l) c.as_points.ensures.points
    ∙ ap (λ (y : ℚ). fold (taller c.args.last) y points) c.in_ok-end.ensures.value in
    subst (λ (y : ℚ). IsGreatest (value points) 0ℚ c.args.last y) (sym f) (is_greatest points c.args.last c.recall.ensures.curve c.requires)
