use Rattle.std.proofs.Common.{length, sym, ap, ◌∙◌}
use Rattle.nf_net_def.specs.Named.{Named}
use Rattle.nf_gen.specs.Laws.{IsLadder}
use Rattle.library_callers.proofs.ladder.ladder_size.Goals as goal

pub returns-clause-nodes : goal.returns-clause-nodes
returns-clause-nodes c =
    let ladder : IsLadder c.args.number c.args.rungs = c.ladder_is_named.ensures c.args.number c.args.rungs c.requires.some c.requires.few in
    c.node_count.ensures ∙ (ap (λ (n : Named). n.net.nodes) c.in_ok-net.ensures ∙ (sym ladder.named.numbered.nodes ∙ ladder.nodes))

pub returns-clause-links : goal.returns-clause-links
returns-clause-links c =
    let ladder : IsLadder c.args.number c.args.rungs = c.ladder_is_named.ensures c.args.number c.args.rungs c.requires.some c.requires.few in
    c.link_count.ensures ∙ (ap (λ (n : Named). length n.net.links) c.in_ok-net.ensures ∙ ladder.links)
