use Rattle.std.proofs.Common.{sym, ap, ◌∙◌}
use Rattle.nf_load.proofs.Common.{passes_Q, checked, Difference, Exit}
use Rattle.nf_load.proofs.leaving.is_step.Goals as goal

pub returns-in-Ok : goal.returns-in-Ok
returns-in-Ok c = λ yes. (
  c.in-Ok.field-0,
  sym (c.in-Ok.ensures
      ∙ ap (λ (l : Exit). checked passes_Q Difference l.exit c.before-2.inside.exit) c.after.view_is
      ∙ ap (λ (l : Exit). checked passes_Q Difference c.args.after.now.exit l.exit) c.before-2.view_is),
)
