use Rattle.std.proofs.Common.{sym, ◌∙◌}
use Rattle.nf_net_file.proofs.Common.{Source, Sink}
use Rattle.nf_net_file.proofs.LineWords.{node_said}
use Rattle.nf_net_file.proofs.entry.read_node.Goals as goal

pub returns-clause-source : goal.returns-clause-source
returns-clause-source c =
    node_said (λ name. Source name) c.args.line.now.words c.at.result.now c.read_name.result
    (sym c.len.ensures ∙ c.if-len-ne2.false) c.at.ensures c.read_name.ensures

pub returns-clause-sink : goal.returns-clause-sink
returns-clause-sink c = node_said (λ name. Sink name) c.args.line.now.words c.at.result.now c.read_name.result (sym c.len.ensures ∙ c.if-len-ne2.false) c.at.ensures c.read_name.ensures
