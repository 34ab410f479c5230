use Rattle.std.proofs.Common.{◌++◌, refl, sym, append_assoc, codes}
use Rattle.nf_report_pages.proofs.Common.{point_lines, trace_lines}
use Rattle.nf_report_pages.proofs.Gathering.{gathered_next, gathered_failed, gathered_then_failed}
use Rattle.nf_report_pages.proofs.curves.put_link.Goals as goal

pub returns-in_err-put_trace : goal.returns-in_err-put_trace
returns-in_err-put_trace g c =
    gathered_failed (trace_lines (codes "inflow") c.args.name.now c.args.inflow.now.curve.points c.args.inflow.now.rates.items)
    (trace_lines (codes "outflow") c.args.name.now c.args.outflow.now.curve.points c.args.outflow.now.rates.items
    ++ point_lines (codes "queue") c.args.name.now c.args.queue.now.points) _ _
    (sym (append_assoc (trace_lines (codes "inflow") c.args.name.now c.args.inflow.now.curve.points c.args.inflow.now.rates.items)
    (trace_lines (codes "outflow") c.args.name.now c.args.outflow.now.curve.points c.args.outflow.now.rates.items)
    (point_lines (codes "queue") c.args.name.now c.args.queue.now.points)))
    c.from_residual.ensures.0 c.in_err-put_trace.ensures

pub returns-in_err-put_trace-2 : goal.returns-in_err-put_trace-2
returns-in_err-put_trace-2 g c =
    gathered_then_failed (trace_lines (codes "inflow") c.args.name.now c.args.inflow.now.curve.points c.args.inflow.now.rates.items)
    (trace_lines (codes "outflow") c.args.name.now c.args.outflow.now.curve.points c.args.outflow.now.rates.items)
    (point_lines (codes "queue") c.args.name.now c.args.queue.now.points) _ _ refl
    c.from_residual-in_err-put_trace-2.ensures.0 c.in_ok-put_trace.ensures c.in_err-put_trace-2.ensures

pub returns : goal.returns
returns g c =
    gathered_next (trace_lines (codes "inflow") c.args.name.now c.args.inflow.now.curve.points c.args.inflow.now.rates.items
    ++ trace_lines (codes "outflow") c.args.name.now c.args.outflow.now.curve.points c.args.outflow.now.rates.items)
    (point_lines (codes "queue") c.args.name.now c.args.queue.now.points) _ refl
    (gathered_next (trace_lines (codes "inflow") c.args.name.now c.args.inflow.now.curve.points c.args.inflow.now.rates.items)
    (trace_lines (codes "outflow") c.args.name.now c.args.outflow.now.curve.points c.args.outflow.now.rates.items) _ refl
    c.in_ok-put_trace.ensures c.in_ok-put_trace-2.ensures)
    c.put_curve.ensures
