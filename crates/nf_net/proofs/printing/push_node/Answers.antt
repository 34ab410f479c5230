use Rattle.std.proofs.Common.{[], ◌∷◌}
use Rattle.nf_net.proofs.Common.{name_at, same_line}
use Rattle.nf_net.proofs.printing.push_node.Goals as goal

pub returns : goal.returns
returns c =
    same_line c.push_line.result c.args.out.now.items c.push_line.new.text.items (c.args.key.now ∷ c.as_bytes.result.now ∷ [])
    (c.args.key.now ∷ name_at c.args.net.now.node_names c.args.node ∷ []) (cc) c.push_line.ensures
