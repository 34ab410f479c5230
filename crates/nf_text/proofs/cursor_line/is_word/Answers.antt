use Rattle.nf_text.proofs.cursor_line.is_word.Goals as goal

pub returns : goal.returns
returns c = c.is_same.ensures
