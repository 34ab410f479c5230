use Rattle.std.proofs.Common.{refl, inl, ap, ◌∙◌, List}
use Rattle.nf_app.proofs.Common.{err_from_is_err_and}
use Rattle.nf_quick_def.specs.Quick as lists
use Rattle.nf_app_answers.specs.QuickText.{augments_text}
use Rattle.nf_app.proofs.QuickTold.{budget_given}
use Rattle.nf_app.proofs.answering.end_over_budget.Goals as goal

pub returns-in_err-text : goal.returns-in_err-text
returns-in_err-text c file other amount h pushes =
    let p = err_from_is_err_and c.from_residual.result c.from_residual.ensures.1 in
    rw (p.1, p.2) (inl refl)

pub returns : goal.returns
returns c file other amount h pushes = (
  budget_given c.args.net.now file other amount c.args.augments c.args.walks.items h.0 h.1 pushes,
  c.in_ok-text.ensures ∙ ap (λ (l : List lists.Augment). augments_text c.args.net.now l) c.deref.ensures.value,
)
