use Rattle.std.proofs.Common.{ap, ◌∙◌}
use Rattle.nf_phase.proofs.Common.{IfOk-weaker, Standing, flow_of, all_grown}
use Rattle.nf_phase_curves.specs.Flows.{flow_so_far}
use Rattle.nf_phase.proofs.run.Run.flow.Goals as goal

pub returns : goal.returns
returns c =
    IfOk-weaker c.copy_flow.result _ _ (λ flow is. is ∙ (λ i. flow_so_far c.self.inside.reached (all_grown (c.deref.ensures.value i)) (all_grown (c.deref-2.ensures.value i)))
    ∙ ap (λ (s : Standing). flow_of s) c.self.view_is) c.copy_flow.ensures
