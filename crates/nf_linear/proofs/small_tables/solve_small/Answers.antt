use Rattle.std.proofs.Common.{map, sym, ap, ◌∙◌, Some, None, Ok}
use Rattle.nf_linear.proofs.Common.{ℚ, values_of}
use Rattle.nf_linear.proofs.SmallTables.{solved_small, solved_wide}
use Rattle.nf_linear.proofs.small_tables.solve_small.Goals as goal

pub returns-in_ok-values-in-Ok-One-clause-small : goal.returns-in_ok-values-in-Ok-One-clause-small
returns-in_ok-values-in-Ok-One-clause-small c =
    let same = ap (map (λ (q : ℚ). q)) (c.in_ok-values-in-Ok-One.ensures ∙ c.deref.ensures.value) in
    solved_small c.args.table _ (c.in-Ok-One.ensures.list ∙ ap Ok (ap (values_of (λ (q : ℚ). q)) c.in-Ok-One.field-0-is ∙ ap Some (sym same)))

pub returns-in_ok-values-in-Ok-One-clause-wide : goal.returns-in_ok-values-in-Ok-One-clause-wide
returns-in_ok-values-in-Ok-One-clause-wide c =
    let same = ap (map (λ (q : ℚ). q)) (c.in_ok-values-in-Ok-One.ensures ∙ c.deref.ensures.value) in
    solved_wide c.args.table _ (c.in-Ok-One.ensures.list ∙ ap Ok (ap (values_of (λ (q : ℚ). q)) c.in-Ok-One.field-0-is ∙ ap Some (sym same)))

pub returns-in-Ok-NotOne-clause-small : goal.returns-in-Ok-NotOne-clause-small
returns-in-Ok-NotOne-clause-small c = solved_small c.args.table None (c.in-Ok-NotOne.ensures.list ∙ ap Ok (ap (values_of (λ (q : ℚ). q)) c.in-Ok-NotOne.field-0-is))

pub returns-in-Ok-NotOne-clause-wide : goal.returns-in-Ok-NotOne-clause-wide
returns-in-Ok-NotOne-clause-wide c = solved_wide c.args.table None (c.in-Ok-NotOne.ensures.list ∙ ap Ok (ap (values_of (λ (q : ℚ). q)) c.in-Ok-NotOne.field-0-is))
