use Rattle.std.proofs.Common.{◌<◌, List, length, ap, sym, subst, ◌∙◌}
use Rattle.nf_residual.proofs.Common.{Twig, twig_at, IsPathTree}
use Rattle.nf_residual.proofs.Twigs.{IsTree-pushed}
use Rattle.nf_residual.proofs.ways.Ways.add.Goals as goal

pub invariant_of-self-2 : goal.invariant_of-self-2
invariant_of-self-2 c = IsTree-pushed c.self.inside.twigs.items c.push.new.self.items c.args.way c.step_count-count.result c.args.step c.args.distance c.self.invariant
    (subst (λ (t : List Twig). c.args.way < length t) (sym c.self.view_is) c.requires)
    (c.step_count-count.ensures.value ∙ ap (λ (t : List Twig). (twig_at t c.args.way).count) (sym c.self.view_is)) c.in_ok-push.ensures.items

pub invariant_of-self : goal.invariant_of-self
invariant_of-self c = let kept = c.in_err-push.ensures {u = tt} in subst IsPathTree (sym kept.items) c.self.invariant
