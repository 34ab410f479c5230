use Rattle.std.proofs.Common.{sym, ap, ◌∙◌}
use Rattle.nf_net_file.proofs.Common.{add_lines, seen_draft}
use Rattle.std.proofs.Math.ListN.{drop_of_length-le}
use Rattle.nf_net_file.proofs.ContentLines.{line_added, line_refused}
use Rattle.nf_net_file.proofs.contents.add_lines.Goals as goal

pub returns-in-Err : goal.returns-in-Err
returns-in-Err c =
    line_refused (seen_draft c.loop-line.draft) c.args.lines.now c.loop-line.line-index c.line-item.result c.loop-line-test.true c.line-item.is _ c.loop-line.invariant
    c.in-Err.fault c.number.result c.in_line.result c.in_line.ensures c.number.ensures c.in-Err.ensures

pub loop-line-preserved : goal.loop-line-preserved
loop-line-preserved c =
    line_added (seen_draft c.loop-line.draft) c.args.lines.now c.loop-line.line-index c.line-item.result c.loop-line-test.true c.line-item.is _ c.loop-line.invariant
    (seen_draft c.add_line.new.self) c.in_default.ensures

pub returns : goal.returns
returns c = sym c.loop-line.invariant ∙ ap (add_lines (seen_draft c.loop-line.draft)) (drop_of_length-le c.args.lines.now c.loop-line-test.false)
