-- The ends of a run's curves.
use Rattle.std.specs.Prelude.{◌≡◌, ℕ, List, Some, None, slice_get}
use Rattle.std.specs.List.{last_or}
use Rattle.std.specs.Option.{option_map_or}
use Rattle.nf_rational.specs.Rational.{ℚ}
use Rattle.nf_rational.specs.Operations.{0ℚ}
use Rattle.nf_model.specs.Entries.{number_at}
use Rattle.nf_model.specs.Curve.{Point}
use Rattle.nf_model.specs.Network.{Link, Network, IsLink}
use Rattle.nf_thin_def.specs.ReportCurves.{GrowingCurve, LinkCurves}
use Rattle.nf_thin_def.specs.PhaseRun.{Standing}

-- The time of the last point.
abbrev pub time_of_last : List Point → ℚ
time_of_last points = option_map_or (λ point. point.0) (last_or None points) 0ℚ

-- A label curve ends at the departure reached. A link's inflow and queue end at its tail's label there, and its outflow at its head's
-- label.
pub record EndsAtLabels (net : Network) (s : Standing) : Type 0 where
  pub labels : (v : ℕ) (curve : GrowingCurve) → slice_get s.label_curves v ≡ Some curve → time_of_last curve.points ≡ s.time
  pub inflows : (e : ℕ) (link : Link) (curves : LinkCurves) → IsLink net e link → slice_get s.link_curves e ≡ Some curves
      → time_of_last curves.inflow.points ≡ number_at s.labels link.tail
  pub outflows : (e : ℕ) (link : Link) (curves : LinkCurves) → IsLink net e link → slice_get s.link_curves e ≡ Some curves
      → time_of_last curves.outflow.points ≡ number_at s.labels link.head
  pub queues : (e : ℕ) (link : Link) (curves : LinkCurves) → IsLink net e link → slice_get s.link_curves e ≡ Some curves
      → time_of_last curves.queue.points ≡ number_at s.labels link.tail
