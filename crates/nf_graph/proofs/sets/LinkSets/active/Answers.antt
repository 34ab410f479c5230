use Rattle.std.proofs.Common.{ap}
use Rattle.nf_graph.proofs.Common.{Sets}
use Rattle.nf_graph.proofs.Flags.{flag_of}
use Rattle.nf_graph.proofs.sets.LinkSets.active.Goals as goal

pub returns-clause-flag : goal.returns-clause-flag
returns-clause-flag c =
    flag_of c.self.inside.active.items c.args.self.now.active c.index.result c.args.link c.index-2.result.now (ap (λ (s : Sets). s.active) c.self.view_is) c.index.ensures
    c.requires c.index-2.ensures
