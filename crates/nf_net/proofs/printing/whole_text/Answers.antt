use Rattle.nf_net.proofs.WholeText.{whole_by_parts}
use Rattle.nf_net.proofs.printing.whole_text.Goals as goal

pub returns-clause-canonical : goal.returns-clause-canonical
returns-clause-canonical c =
    whole_by_parts c.args.net.now c.idle_links.result.now c.pieces-pieces.result.now c.new-out.result.items _ _ _ _ _ c.idle_links.ensures
    c.pieces-pieces.ensures.value c.new-out.ensures.items
    c.in_ok-push_head.ensures c.in_ok-push_links.ensures c.in_ok-push_idle.ensures c.in_ok-push_pieces.ensures c.in_ok-push_line.ensures
