-- The growing curves of all links.
use Rattle.std.specs.Prelude.{◌≡◌, ℕ, List, Some, slice_get}
use Rattle.nf_rational.specs.Rational.{ℚ}
use Rattle.nf_rational.specs.Order.{◌<ℚ◌}
use Rattle.nf_model.specs.Entries.{number_at}
use Rattle.nf_model.specs.Network.{Link, Network, IsLink}
use Rattle.nf_thin_def.specs.CurveList.{QueueStep, LinkStep}
use Rattle.nf_thin_def.specs.ReportCurves.{LinkCurves}
use Rattle.nf_thin_def.specs.Ends.{time_of_last}

-- Each curve of the link that the step extends ends before the label to which the step extends it.
pub record LinkEndsBefore (labels : List ℚ) (link : Link) (curves : LinkCurves) (step : LinkStep) : Type 0 where
  pub inflow : (rate : ℚ) → step.inflow_rate ≡ Some rate → time_of_last curves.inflow.points <ℚ number_at labels link.tail
  pub outflow : (rate : ℚ) → step.outflow_rate ≡ Some rate → time_of_last curves.outflow.points <ℚ number_at labels link.head
  pub queue : (queue : QueueStep) → step.queue ≡ Some queue → time_of_last curves.queue.points <ℚ number_at labels link.tail

-- `LinkEndsBefore` holds for every link.
abbrev pub AllLinksEndBefore : Network → List ℚ → List LinkCurves → List LinkStep → Type 0
AllLinksEndBefore net labels curves steps = (e : ℕ) (link : Link) (c : LinkCurves) (step : LinkStep) → IsLink net e link
    → slice_get curves e ≡ Some c → slice_get steps e ≡ Some step
    → LinkEndsBefore labels link c step
