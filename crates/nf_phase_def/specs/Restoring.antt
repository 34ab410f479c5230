-- Runs restored from a flow, whose state is the end of the flow.
use Rattle.std.specs.Prelude.{◌≡◌, ℕ, ◌<◌, List, [], ◌∷◌, length, map, Option, Some, None, Ok}
use Rattle.std.specs.List.{last_or}
use Rattle.std.specs.Option.{option_map_or}
use Rattle.nf_rational.specs.Rational.{ℚ}
use Rattle.nf_rational.specs.Operations.{0ℚ}
use Rattle.nf_frac_def.specs.Passing.{Passing}
use Rattle.nf_frac_def.specs.Checked.{Checked, each, ◌>>=◌}
use Rattle.nf_model.specs.Curve.{Point}
use Rattle.nf_model.specs.Network.{Link, Network, IsLink}
use Rattle.nf_model.specs.declared.State.TheVariants.{Full}
use Rattle.nf_model.specs.Pattern.{Pattern, HasState}
use Rattle.nf_model.specs.Equilibrium.{Trace, Flow, points_at, points_of, label, Equilibrium}
use Rattle.nf_thin_def.specs.ReportCurves.{GrowingCurve, LinkCurves}
use Rattle.nf_thin_def.specs.PhaseRun.{Standing, IsShortFlow}
use Rattle.nf_thin_def.specs.Ends.{time_of_last}
use Rattle.nf_curve_def.specs.Lines.{checked_slope}

-- The value of the last point.
abbrev pub value_at_end : List Point → ℚ
value_at_end points = option_map_or (λ p. p.1) (last_or None points) 0ℚ

-- The curves of the links, one after the other.
abbrev pub link_curves_of : List Trace → List Trace → List GrowingCurve → List LinkCurves
link_curves_of (inflow ∷ inflows) (outflow ∷ outflows) (queue ∷ queues) =
    record { inflow = inflow; outflow = outflow; queue = queue } ∷ link_curves_of inflows outflows queues
link_curves_of inflows outflows queues = []

-- The run state with these curves, before any further phase.
abbrev pub standing_of : Flow → Pattern → List GrowingCurve → List GrowingCurve → Standing
standing_of flow last label_curves queues = record {
  time = flow.reached;
  labels = map value_at_end flow.labels;
  label_curves = label_curves;
  link_curves = link_curves_of flow.inflows flow.outflows queues;
  made = 0;
  last = last;
}

module _ (passes : Passing) where
  -- The slope of the last piece of a curve, if the curve has more than one point.
  abbrev pub last_slope : List Point → Checked (Option ℚ)
  last_slope (p ∷ q ∷ []) = do
    k ← checked_slope passes p q
    Ok (Some k)
  last_slope (p ∷ q ∷ r ∷ rest) = last_slope (q ∷ r ∷ rest)
  last_slope points = Ok None

  abbrev pub growing : List Point → Checked GrowingCurve
  growing points = do
    slope ← last_slope points
    Ok (record { points = points; slope = slope })

  -- The restored run state: the curves of the nodes, then those of the links.
  unfoldable pub restore_list : Flow → Pattern → Checked Standing
  restore_list flow last = do
    label_curves ← each growing flow.labels
    queues ← each growing flow.queues
    Ok (standing_of flow last label_curves queues)

-- ---- a flow by which a run can be restored

-- Each label curve ends at the departure reached. Each inflow and queue ends at the label of the link's tail there, each outflow at the
-- label of its head.
pub record EndsAtItsLabels (net : Network) (flow : Flow) : Type 0 where
  pub labels : (v : ℕ) → v < net.nodes → time_of_last (points_at flow.labels v) ≡ flow.reached
  pub inflows : (e : ℕ) (link : Link) → IsLink net e link
      → time_of_last (points_at (points_of flow.inflows) e) ≡ label flow link.tail flow.reached
  pub outflows : (e : ℕ) (link : Link) → IsLink net e link
      → time_of_last (points_at (points_of flow.outflows) e) ≡ label flow link.head flow.reached
  pub queues : (e : ℕ) (link : Link) → IsLink net e link → time_of_last (points_at flow.queues e) ≡ label flow link.tail flow.reached

-- No unbounded link is Full.
abbrev pub NoneFull : Network → Pattern → Type 0
NoneFull net last = (e : ℕ) (link : Link) → IsLink net e link → link.capacity ≡ None → HasState last e Full → ⊥

-- The run state is restored from an equilibrium and a pattern of the network's links. The equilibrium is in short form and ends at its
-- labels.
pub record IsRestored (passes : Passing) (net : Network) (s : Standing) : Type 0 where
  pub flow : Flow
  pub last : Pattern
  pub equilibrium : Equilibrium net flow
  pub ends : EndsAtItsLabels net flow
  pub short : IsShortFlow net flow
  pub states : length last ≡ length net.links
  pub no_full : NoneFull net last
  pub stands : restore_list passes flow last ≡ Ok s
