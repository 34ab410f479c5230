use Rattle.std.proofs.Common.{◌<◌, sym, ◌∙◌, ap, subst, Some}
use Rattle.nf_net.proofs.Common.{Link}
use Rattle.nf_net.proofs.TextLines.{link_pushed}
use Rattle.nf_net.proofs.printing.push_numbered.Goals as goal

pub node_name-tail-requires : goal.node_name-tail-requires
node_name-tail-requires c =
    subst (λ (l : Link). l.tail < c.args.net.now.net.nodes) (sym c.found.view_is) (c.link-found.ensures.named.network.tails c.args.id c.link-found.result c.link-found.ensures.link)

pub node_name-head-requires : goal.node_name-head-requires
node_name-head-requires c =
    subst (λ (l : Link). l.head < c.args.net.now.net.nodes) (sym c.found.view_is) (c.link-found.ensures.named.network.heads c.args.id c.link-found.result c.link-found.ensures.link)

pub returns : goal.returns
returns c =
    link_pushed c.args.net.now c.args.id _ _ _ _ _ _ c.link-found.ensures.named (c.link-found.ensures.link ∙ ap (λ (l : Link). Some l) (sym c.found.view_is))
    c.link_name-name.ensures c.node_name-tail.ensures c.node_name-head.ensures c.in_ok-push_link.ensures
