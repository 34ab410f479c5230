use Rattle.std.proofs.Common.{List, [], ◌++◌, ◌∙◌, append-nil}
use Rattle.std.specs.Option.{option_copied}
use Rattle.nf_net_def.specs.Report.{Report, report_lines}
use Rattle.nf_curve.specs.Flows.{seen_flow}
use Rattle.nf_report_pages.specs.Written.{Line}
use Rattle.nf_report_pages.proofs.Gathering.{gathered_next, gathered_failed, gathered_then_failed, gathered_written, parts_refused}
use Rattle.nf_report.proofs.Whole.{head_of, body_of, whole}
use Rattle.nf_report.proofs.report.write_report.Goals as goal

pub put_body-requires-clause-shape : goal.put_body-requires-clause-shape
put_body-requires-clause-shape g c = c.requires.shape

pub put_body-requires-clause-states : goal.put_body-requires-clause-states
put_body-requires-clause-states g c = c.requires.states

pub returns-in_err-put_head-clause-wrote : goal.returns-in_err-put_head-clause-wrote
returns-in_err-put_head-clause-wrote g c =
    let n = c.args.net.now in
    let report : Report = record { horizon = c.args.horizon; flow = seen_flow c.args.flow.now; stop = option_copied c.args.stopped; last = c.args.last.now } in
    parts_refused _ _ _ _ c.new-page.ensures c.from_residual.ensures.0
    (gathered_failed (head_of n report) (body_of n report) (report_lines n report) _ (whole n report) c.from_residual.ensures.0 c.in_err-put_head.ensures)

pub returns-in_err-put_head-clause-reads_back : goal.returns-in_err-put_head-clause-reads_back
returns-in_err-put_head-clause-reads_back g c = c.written_reads_back.ensures.reads_back

pub returns-in_err-put_body-clause-wrote : goal.returns-in_err-put_body-clause-wrote
returns-in_err-put_body-clause-wrote g c =
    let n = c.args.net.now in
    let report : Report = record { horizon = c.args.horizon; flow = seen_flow c.args.flow.now; stop = option_copied c.args.stopped; last = c.args.last.now } in
    let both : List Line = head_of n report ++ body_of n report in
    parts_refused _ _ _ _ c.new-page.ensures c.from_residual-in_err-put_body.ensures.0
    (gathered_then_failed (head_of n report) (body_of n report) [] (report_lines n report) _ (append-nil both ∙ whole n report) c.from_residual-in_err-put_body.ensures.0
    c.in_ok-put_head.ensures c.in_err-put_body.ensures)

pub returns-in_err-put_body-clause-reads_back : goal.returns-in_err-put_body-clause-reads_back
returns-in_err-put_body-clause-reads_back g c = c.written_reads_back.ensures.reads_back

pub returns-clause-wrote : goal.returns-clause-wrote
returns-clause-wrote g c =
    let n = c.args.net.now in
    let report : Report = record { horizon = c.args.horizon; flow = seen_flow c.args.flow.now; stop = option_copied c.args.stopped; last = c.args.last.now } in
    gathered_written _ _ _ _ c.new-page.ensures c.as_slice.ensures.value
    (gathered_next (head_of n report) (body_of n report) (report_lines n report) (whole n report) c.in_ok-put_head.ensures c.in_ok-put_body.ensures) c.write_text.ensures

pub returns-clause-reads_back : goal.returns-clause-reads_back
returns-clause-reads_back g c = c.written_reads_back.ensures.reads_back
