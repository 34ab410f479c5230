use Rattle.std.proofs.Common.{◌∙◌}
use Rattle.nf_side.proofs.Frame.{same_read, text_refused, lines_drafted}
use Rattle.nf_side.proofs.drafting.read_draft.Goals as goal

pub returns-in-Err-clause-reads : goal.returns-in-Err-clause-reads
returns-in-Err-clause-reads g c =
    text_refused (g.D.SideDraft.frame c.args.net.now) c.args.text.now c.head-head.result
    (c.head-head.ensures c.args.net.now) c.in-Err.fault c.in_file.result c.in_file.ensures c.in-Err.ensures.fault

pub returns-clause-reads : goal.returns-clause-reads
returns-clause-reads g c =
    same_read (λ draft. draft) c.read_lines.result _ _
    (lines_drafted (g.D.SideDraft.frame c.args.net.now) c.args.text.now c.deref.result.now (c.deref.ensures.value ∙ c.in-Ok.ensures.lines) c.in-Ok.ensures.none)
    c.read_lines.ensures.reads
