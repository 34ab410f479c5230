use Rattle.std.proofs.Common.{[], ◌∷◌, ◌++◌, ◌∙◌, codes}
use Rattle.nf_net.proofs.Common.{digits_of, line_of_words, name_at}
use Rattle.nf_net.proofs.TextLines.{three_pushes}
use Rattle.nf_net.proofs.printing.push_head.Goals as goal

pub push_version-requires : goal.push_version-requires
push_version-requires c = c.version-version.ensures.known

pub returns : goal.returns
returns c =
    three_pushes _ _ _ _ _ _ _ c.in_ok-push_version.ensures c.in_ok-push_node.ensures c.in_ok-push_node-2.ensures
    ∙ (λ i. c.args.out.now.items ++ (line_of_words (codes "nfot" ∷ digits_of (c.version-version.ensures.value i) ∷ [])
    ++ line_of_words (codes "source" ∷ name_at c.args.net.now.node_names (c.source-source.ensures.value i) ∷ [])
    ++ line_of_words (codes "sink" ∷ name_at c.args.net.now.node_names (c.sink-sink.ensures.value i) ∷ [])))
