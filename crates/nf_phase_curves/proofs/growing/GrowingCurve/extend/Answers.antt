use Rattle.std.proofs.Common.{List, sym, subst}
use Rattle.nf_phase_curves.proofs.Common.{◌<ℚ◌, Point, last_time, GrowingCurve, time_of_last, Roomy}
use Rattle.nf_phase_curves.proofs.Corners.{still_after}
use Rattle.nf_phase_curves.proofs.growing.GrowingCurve.extend.Goals as goal

pub invariant_of-self : goal.invariant_of-self
invariant_of-self c =
    subst (λ (l : List Point). last_time l <ℚ c.args.time) (sym c.close_unless.ensures)
    (still_after c.keeps_slope-kept.result c.self.inside.corners.points c.self.inside.end c.args.time c.self.invariant
    (subst (λ (g : Roomy GrowingCurve). time_of_last g.grown.points <ℚ c.args.time) (sym c.self.view_is) c.requires.later))
