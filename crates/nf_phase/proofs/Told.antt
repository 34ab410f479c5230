-- The contracts on the flow of a run, and on a run restored from it. (`short_reached` states that its curves are in short form.)
use Rattle.std.proofs.Common.{◌≡◌, ℕ, ◌<◌, ap, ◌∙◌, arith, Some, slice_get}
use Rattle.nf_phase.proofs.Common.{slice_get_within, Passing, number_at, Link, Network, IsNetwork, IsLink, label, LinkCurves, Standing, flow_of}
use Rattle.nf_phase.proofs.Common.{time_of_last, EndsAtLabels, label_points, inflow_points, outflow_points, queue_points, entry, EndsAtItsLabels, Reaches}
use Rattle.nf_phase.proofs.Reached.{Stands, Stands-reached}
use Rattle.nf_phase.proofs.Stepped.{ends_reached}
use Rattle.nf_phase.proofs.ShortReached.{keeps_reached}

module _ (passes : Passing) (net : Network) (good : IsNetwork net) (s : Standing) (reaches : Reaches passes net s) where
  stands : Stands net s
  stands = Stands-reached passes net good s reaches

  ends : EndsAtLabels net s
  ends = ends_reached passes net good s reaches

  kept : (v : ℕ) → v < net.nodes → number_at s.labels v ≡ label (flow_of s) v s.time
  kept = (keeps_reached passes net good s reaches).values

  curves_at : (e : ℕ) (link : Link) → IsLink net e link → (c : LinkCurves) × (slice_get s.link_curves e ≡ Some c)
  curves_at e link p = entry s.link_curves e (let b = slice_get_within net.links e link p in let n = stands.well.link_count in omega arith)

  pub ends_told : EndsAtItsLabels net (flow_of s)
  ends_told = record {
    labels = λ v h. (let c = entry s.label_curves v (let n = stands.well.label_count in omega arith) in ap time_of_last (label_points s v c.0 c.1) ∙ ends.labels v c.0 c.1);
    inflows = λ e link p. (let c = curves_at e link p in ap time_of_last (inflow_points s e c.0 c.1) ∙ ends.inflows e link c.0 p c.1 ∙ kept link.tail (good.tails e link p));
    outflows = λ e link p. (let c = curves_at e link p in ap time_of_last (outflow_points s e c.0 c.1) ∙ ends.outflows e link c.0 p c.1 ∙ kept link.head (good.heads e link p));
    queues = λ e link p. (let c = curves_at e link p in ap time_of_last (queue_points s e c.0 c.1) ∙ ends.queues e link c.0 p c.1 ∙ kept link.tail (good.tails e link p));
  }
