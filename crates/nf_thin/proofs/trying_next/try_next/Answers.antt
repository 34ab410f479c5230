use Rattle.std.proofs.Common.{◌≡◌, ℕ, suc, ◌+◌, refl, ◌∙◌, ap, subst, add-one, arith, inr, Err}
use Rattle.nf_thin.proofs.Common.{passes_Q, TriesOne, or_first}
use Rattle.nf_thin.proofs.Searched.{passing_not_accepted, tried}
use Rattle.nf_thin.proofs.trying_next.try_next.Goals as goal

pub returns-in-Ok : goal.returns-in-Ok
returns-in-Ok c =
    tried passes_Q c.args.problem.now.ranking.net.now.net c.args.problem.now.ranking.sets.now c.args.problem.now.rate c.args.pattern.now
    c.args.problem.now.ranking.budget c.args.vain.now _
    (let n = c.if-vain-budget.false in let w = c.requires.within in omega arith) (add-one c.args.vain.now.tried) refl c.in-Ok.found c.in-Ok.ensures

pub returns-in-Err-Passed : goal.returns-in-Err-Passed
returns-in-Err-Passed c =
    let t = subst (λ t. TriesOne passes_Q c.args.problem.now.ranking.net.now.net c.args.problem.now.ranking.sets.now c.args.problem.now.rate
    c.args.pattern.now (Err t)) c.in-Err-Passed.field-0-is c.in-Err-Passed.ensures in (
      let n = c.if-vain-budget.false in let w = c.requires.within in omega arith,
      record {
        one_more = c.note.ensures.tried ∙ omega arith;
        not_accepted = passing_not_accepted passes_Q c.args.problem.now.ranking.net.now.net c.args.problem.now.ranking.sets.now c.args.problem.now.rate
            c.args.pattern.now c.in-Err-Passed.at t;
        noted = inr (
          c.in-Err-Passed.at,
          t,
          c.note.ensures.passed ∙ ap (λ a. or_first c.args.vain.now.passed (c.args.vain.now.tried + 1, a))
              c.in-Err-Passed.at-is ∙ ap (λ (n : ℕ). or_first c.args.vain.now.passed (n, c.in-Err-Passed.at))
              (let e : c.args.vain.now.tried + 1 ≡ suc c.args.vain.now.tried = omega arith in e),
        );
      },
    )
