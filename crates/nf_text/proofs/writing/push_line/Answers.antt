use Rattle.nf_text.proofs.Pushed.{line_pushed}
use Rattle.nf_text.proofs.writing.push_line.Goals as goal

pub returns : goal.returns
returns c =
    line_pushed _ c.args.text.now.items c.args.first.now c.args.words.now _ _ _ c.in_ok-push_bytes.ensures c.in_ok-push_words.ensures c.in_ok-push_bytes-2.ensures
