use Rattle.std.proofs.Common.{◌≡◌, ℕ, List, MatchBool, ap, subst}
use Rattle.std.specs.Option.{option_copied}
use Rattle.nf_edge.specs.Taken.{with_more, TookFront}
use Rattle.nf_net_def.specs.Report.{Report, report_text}
use Rattle.nf_curve.specs.Flows.{seen_flow}
use Rattle.nf_report_read.specs.Files.{seen_report}
use Rattle.library_callers.proofs.Writing.{whole_or_front}
use Rattle.library_callers.proofs.report.write_whole.Goals as goal

pub returns : goal.returns
returns g c =
    let r = c.args.report.now in
    let written : Report = record { horizon = r.horizon; flow = seen_flow r.flow; stop = option_copied c.as_ref-stopped.result; last = r.last } in
    let same : written ≡ seen_report r = cc (c.as_ref-stopped.ensures.value) in
    let took = whole_or_front _ _ (report_text c.args.net.now written) c.write_report.result c.is_ok.result c.write_report.ensures.wrote c.is_ok.ensures.value in
    subst (λ (text : List ℕ). MatchBool c.is_ok.result (g.O.Sink.took c.write_report.new.out ≡ with_more (g.O.Sink.took c.args.out.now) text)
    (TookFront (g.O.Sink.took c.args.out.now) (g.O.Sink.took c.write_report.new.out) text)) (ap (λ (r : Report). report_text c.args.net.now r) same) took
