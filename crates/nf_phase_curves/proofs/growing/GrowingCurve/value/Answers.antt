use Rattle.std.proofs.Common.{◌∙◌, ap, sym, Option}
use Rattle.nf_phase_curves.proofs.Common.{End, Roomy, end_value, points_to, GrowingCurve}
use Rattle.nf_phase_curves.proofs.Corners.{value-append, value_at_last}
use Rattle.nf_phase_curves.proofs.growing.GrowingCurve.value.Goals as goal

pub returns-in-Some : goal.returns-in-Some
returns-in-Some c =
    value-append c.self.inside.corners.points (c.in-Some.end.time, c.in-Some.end.value)
    ∙ ap (λ (o : Option End). end_value (points_to c.self.inside.corners.points o)) (sym c.in-Some.is)
    ∙ ap (λ (g : Roomy GrowingCurve). end_value g.grown.points) c.self.view_is

pub returns-in-None : goal.returns-in-None
returns-in-None c =
    value_at_last c.self.inside.corners.points c.last-value.result c.last-value.ensures
    ∙ ap (λ (o : Option End). end_value (points_to c.self.inside.corners.points o)) (sym c.in-None.is)
    ∙ ap (λ (g : Roomy GrowingCurve). end_value g.grown.points) c.self.view_is
