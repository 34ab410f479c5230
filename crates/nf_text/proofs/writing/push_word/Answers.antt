use Rattle.nf_text.proofs.Pushed.{word_pushed}
use Rattle.nf_text.proofs.writing.push_word.Goals as goal

pub returns : goal.returns
returns c =
    word_pushed c.args.text.now.items c.args.word.now c.push_bytes.new.text.items c.push_bytes-2.new.text.items c.in_ok-push_bytes.ensures c.in_ok-push_bytes-2.ensures
