use Rattle.std.proofs.Common.{ℕ, ◌<◌, length, sym, ap, subst}
use Rattle.nf_residual.proofs.Common.{IsPathTree, Twig}
use Rattle.nf_residual.proofs.Twigs.{before_within}
use Rattle.nf_residual.proofs.Reading.{twig_read}
use Rattle.nf_residual.proofs.ways.Ways.before.Goals as goal

pub returns-clause-value : goal.returns-clause-value
returns-clause-value c = ap (λ (t : Twig). t.before) (twig_read c.self.inside.twigs.items c.args.self.now c.args.way c.index.result.now c.self.view_is c.requires c.index.ensures)

pub returns-clause-within : goal.returns-clause-within
returns-clause-within c =
    subst (λ (before : ℕ). before < length c.args.self.now) (sym (ap (λ (t : Twig). t.before)
    (twig_read c.self.inside.twigs.items c.args.self.now c.args.way c.index.result.now c.self.view_is c.requires c.index.ensures)))
    (before_within c.args.self.now c.args.way (subst IsPathTree c.self.view_is c.self.invariant) c.requires)
