use Rattle.nf_gen.proofs.Written.{ladder_written}
use Rattle.nf_gen.proofs.generating.ladder_text.Goals as goal

pub returns : goal.returns
returns c =
    ladder_written c.args.number c.args.rungs c.requires.some c.requires.few c.new-draws.result c.push_links.new.draws
    c.new-out.result.items c.push_bytes.new.text.items c.push_links.new.out.items c.push_pieces.new.out.items c.push_bytes-2.new.text.items
    c.new-draws.ensures c.new-out.ensures.items c.in_ok-push_bytes.ensures c.in_ok-push_links.ensures c.in_ok-push_pieces.ensures c.in_ok-push_bytes-2.ensures
