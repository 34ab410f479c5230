use Rattle.nf_quick_laws.proofs.Nothing.{IsMade-list, EndsAtBudget-list}
use Rattle.nf_quick_laws.proofs.list_pushes_in_order.Goals as goal

pub returns : goal.returns
returns c = record {
  found = λ passes net amount augments quick good h way e. (IsMade-list net good passes amount augments quick h way e).1;
  budget = λ passes net amount augments walks good some way e. EndsAtBudget-list net good passes amount augments walks some way e;
}
