use Rattle.std.proofs.Common.{subst, sym}
use Rattle.nf_curve.proofs.Common.{◌<ℚ◌, Grown, last_time}
use Rattle.nf_curve.proofs.Points.{IsCurve-append}
use Rattle.nf_curve.proofs.curve.Curve.push.Goals as goal

pub invariant_of-self-2 : goal.invariant_of-self-2
invariant_of-self-2 c =
    rw c.in_ok-push.ensures.items (IsCurve-append _ (c.args.time, c.args.value) c.self.invariant
    (subst (λ (g : Grown). last_time g.points <ℚ c.args.time) (sym c.self.view_is) c.requires))

pub invariant_of-self : goal.invariant_of-self
invariant_of-self c = rw c.in_err-push.ensures.items c.self.invariant
