use Rattle.std.proofs.Common.{◌<◌, length, refl, sym, ap, subst, ◌∙◌, slice_get}
use Rattle.nf_curve.proofs.Common.{slice_get_read, Grown}
use Rattle.nf_curve.proofs.curve.Curve.point.Goals as goal

pub returns : goal.returns
returns c =
    let within : c.args.index < length c.self.inside.points.items = subst (λ (g : Grown). c.args.index < length g.points) (sym c.self.view_is) c.requires in
    ap (λ (g : Grown). slice_get g.points c.args.index) (sym c.self.view_is)
    ∙ slice_get_read c.self.inside.points.items _ c.args.index c.index.result.now refl within c.index.ensures
