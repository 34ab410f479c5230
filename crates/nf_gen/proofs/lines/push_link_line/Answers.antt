use Rattle.nf_gen.proofs.Common.{digits_of}
use Rattle.nf_gen.proofs.Pushed.{link_line_pushed}
use Rattle.nf_gen.proofs.lines.push_link_line.Goals as goal

pub returns : goal.returns
returns c =
    link_line_pushed c.args.out.now.items c.args.name.now c.args.tail.now c.args.head.now (digits_of c.args.transit) (digits_of c.args.capacity) _ _ _ _ _ _ _
    c.in_ok-push_bytes.ensures c.in_ok-push_word.ensures c.in_ok-push_word-2.ensures c.in_ok-push_word-3.ensures c.in_ok-push_count.ensures c.in_ok-push_count-2.ensures
    c.in_ok-push_bytes-2.ensures
