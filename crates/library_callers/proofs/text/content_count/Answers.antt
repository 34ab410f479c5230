use Rattle.std.proofs.Common.{not, ◌==◌, length, List, ap, ◌∙◌}
use Rattle.std.specs.Prelude.{count_by}
use Rattle.nf_text_def.specs.Words.{read_lines}
use Rattle.nf_text.specs.declared.Line.{Line}
use Rattle.library_callers.proofs.Contents.{contents_counted}
use Rattle.library_callers.proofs.text.content_count.Goals as goal

pub returns-clause-count : goal.returns-clause-count
returns-clause-count c =
    c.with_words.ensures
    ∙ ap (λ (lines : List Line). count_by (λ (line : Line). not (length line.words.items == 0)) lines) c.deref.ensures.value
    ∙ contents_counted c.args.text.now c.in_ok-read.read.items (read_lines c.args.text.now) c.in_ok-read.ensures.lines
