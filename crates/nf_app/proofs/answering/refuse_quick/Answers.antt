use Rattle.std.proofs.Common.{refl, inl, inr, subst, Err}
use Rattle.nf_app.proofs.Common.{passes_Q, IsAnswered, IsInOrder, QuickFault}
use Rattle.nf_app.proofs.QuickTold.{unbounded_given, passed_given}
use Rattle.nf_app.proofs.answering.refuse_quick.Goals as goal

pub returns-in-Budget : goal.returns-in-Budget
returns-in-Budget c file other amount h pushes =
    c.end_over_budget.ensures file other amount (subst (λ (f : QuickFault). IsAnswered passes_Q c.args.net.now.net amount c.args.augments (Err f)) c.in-Budget.is h)
    (subst (λ (f : QuickFault). IsInOrder c.args.net.now.net amount c.args.augments (Err f)) c.in-Budget.is pushes)

pub returns-in-Unbounded : goal.returns-in-Unbounded
returns-in-Unbounded c file other amount h pushes =
    inr (unbounded_given c.args.net.now file other amount c.args.augments c.in-Unbounded.links
    (subst (λ (f : QuickFault). IsAnswered passes_Q c.args.net.now.net amount c.args.augments (Err f)) c.in-Unbounded.is h))

pub returns-in-Passed : goal.returns-in-Passed
returns-in-Passed c file other amount h pushes =
    inr (passed_given c.args.net.now file other amount c.args.augments _ (subst
    (λ (f : QuickFault). IsAnswered passes_Q c.args.net.now.net amount c.args.augments (Err f)) c.in-Passed.is h))

pub returns : goal.returns
returns c file other amount h pushes = inl refl
