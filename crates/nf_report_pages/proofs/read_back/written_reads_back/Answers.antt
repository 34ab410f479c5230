use Rattle.std.proofs.Common.{List, map, subst, sym, ap, ◌∙◌}
use Rattle.nf_report_pages.proofs.Common.{AllByRecursion, Report, Grown, seen_flow, seen_trace, Trace, AreFractionPoints, IsFractionTrace}
use Rattle.std.specs.Option.{option_copied}
use Rattle.nf_report_def.specs.ReportFile.{report_in}
use Rattle.nf_report_laws.proofs.ReportBack.{report_back}
use Rattle.nf_report_laws.proofs.ReportFit.{fit}
use Rattle.nf_rational_laws.proofs.Results.{same_Ok}
use Rattle.nf_report_pages.proofs.read_back.written_reads_back.Goals as goal

abbrev CurvesAre : List Grown → Type 0
CurvesAre curves = AllByRecursion AreFractionPoints (map (λ curve. curve.points) curves)

abbrev TracesAre : List Trace → Type 0
TracesAre traces = AllByRecursion IsFractionTrace (map seen_trace traces)

pub returns-clause-readable : goal.returns-clause-readable
returns-clause-readable c = record {
  horizon = c.recall-2.ensures;
  reached = c.recall-3.ensures;
  stop = c.know_cause.ensures;
  labels = subst CurvesAre c.deref.ensures.value c.know_curves.ensures;
  inflows = subst TracesAre c.deref-2.ensures.value c.know_traces.ensures;
  outflows = subst TracesAre c.deref-3.ensures.value c.know_traces-2.ensures;
  queues = subst CurvesAre c.deref-4.ensures.value c.know_curves-2.ensures;
}

pub returns-clause-reads_back : goal.returns-clause-reads_back
returns-clause-reads_back c =
    let report : Report = record { horizon = c.args.horizon; flow = seen_flow c.args.flow.now; stop = option_copied c.args.stopped; last = c.args.last.now } in
    report_back c.args.net.now report c.recall.ensures (fit c.args.net.now report c.recall.ensures c.requires (returns-clause-readable c))

pub returns-clause-only : goal.returns-clause-only
returns-clause-only c other formed readable same =
    let report : Report = record { horizon = c.args.horizon; flow = seen_flow c.args.flow.now; stop = option_copied c.args.stopped; last = c.args.last.now } in
    same_Ok report other (sym (returns-clause-reads_back c) ∙ ap (report_in c.args.net.now) same
    ∙ report_back c.args.net.now other c.recall.ensures (fit c.args.net.now other c.recall.ensures formed readable))
