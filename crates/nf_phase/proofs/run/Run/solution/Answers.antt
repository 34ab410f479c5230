use Rattle.std.proofs.Common.{ap, ◌∙◌}
use Rattle.nf_phase.proofs.Common.{Standing, flow_of}
use Rattle.nf_phase.proofs.run.Run.solution.Goals as goal

pub returns-clause-flow : goal.returns-clause-flow
returns-clause-flow c = c.in_ok-flow.ensures ∙ ap (λ (s : Standing). flow_of s) c.self.view_is

pub returns-clause-phases : goal.returns-clause-phases
returns-clause-phases c = ap (λ (s : Standing). s.made) c.self.view_is

pub returns-clause-last : goal.returns-clause-last
returns-clause-last c = ap (λ (s : Standing). s.last) c.self.view_is
