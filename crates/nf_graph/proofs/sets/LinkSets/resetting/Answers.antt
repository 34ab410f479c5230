use Rattle.std.proofs.Common.{◌<◌, ℕ, length, sym, ap, subst, ◌∙◌}
use Rattle.nf_graph.proofs.Common.{Sets}
use Rattle.nf_graph.proofs.Flags.{flag_of}
use Rattle.nf_graph.proofs.sets.LinkSets.resetting.Goals as goal

pub returns-clause-flag : goal.returns-clause-flag
returns-clause-flag c =
    flag_of c.self.inside.resetting.items c.args.self.now.resetting c.index.result c.args.link c.index-2.result.now (ap (λ (s : Sets). s.resetting) c.self.view_is) c.index.ensures
    (subst (λ (n : ℕ). c.args.link < n) (ap (λ (s : Sets). length s.active) (sym c.self.view_is) ∙ c.self.invariant.count
    ∙ ap (λ (s : Sets). length s.resetting) c.self.view_is) c.requires) c.index-2.ensures
