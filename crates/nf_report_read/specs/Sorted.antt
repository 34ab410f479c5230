-- The curves of a report in a flow, by kind.
use Rattle.std.specs.Prelude.{◌≡◌, List, map}
use Rattle.nf_curve.specs.Flows.{seen_trace}
use Rattle.nf_curve.specs.declared.flow.Flow.{Flow}
use Rattle.nf_report_def.specs.ReportLines.{OfLabel, OfInflow, OfOutflow, OfQueue, ReadCurve}
use Rattle.nf_report_def.specs.ReportFile.{points_read, traces_read}

pub record AreSorted (curves : List ReadCurve) (flow : Flow) : Type 0 where
  pub all_labels : map (λ c. c.points) flow.labels.items ≡ points_read OfLabel curves
  pub all_inflows : map seen_trace flow.inflows.items ≡ traces_read OfInflow curves
  pub all_outflows : map seen_trace flow.outflows.items ≡ traces_read OfOutflow curves
  pub all_queues : map (λ c. c.points) flow.queues.items ≡ points_read OfQueue curves
