use Rattle.std.proofs.Common.{◌∙◌, [], ◌∷◌, ap, map}
use Rattle.nf_phase_curves.proofs.Common.{map-append, seen_trace, Grown}
use Rattle.nf_phase_curves.proofs.Places.{nothing_given}
use Rattle.nf_phase_curves.proofs.flows.add_link.Goals as goal

pub returns-in_err-push : goal.returns-in_err-push
returns-in_err-push c = nothing_given c.from_residual.result _ c.from_residual.ensures.0

pub returns-in_err-push-2 : goal.returns-in_err-push-2
returns-in_err-push-2 c = nothing_given c.from_residual-in_err-push-2.result _ c.from_residual-in_err-push-2.ensures.0

pub returns-in_err-push-3 : goal.returns-in_err-push-3
returns-in_err-push-3 c = nothing_given c.from_residual-in_err-push-3.result _ c.from_residual-in_err-push-3.ensures.0

pub returns : goal.returns
returns c = λ i. record {
  reached = c.args.flow.now.reached;
  labels = map (λ (g : Grown). g.points) c.args.flow.now.labels.items;
  inflows = (ap (map seen_trace) c.in_ok-push.ensures.items ∙ map-append seen_trace c.args.flow.now.inflows.items (c.args.link.inflow ∷ [])) i;
  outflows = (ap (map seen_trace) c.in_ok-push-2.ensures.items ∙ map-append seen_trace c.args.flow.now.outflows.items (c.args.link.outflow ∷ [])) i;
  queues = (ap (map (λ (g : Grown). g.points)) c.in_ok-push-3.ensures.items ∙ map-append (λ (g : Grown). g.points) c.args.flow.now.queues.items (c.args.link.queue ∷ [])) i;
}
