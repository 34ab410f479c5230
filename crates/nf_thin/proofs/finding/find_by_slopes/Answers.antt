use Rattle.std.proofs.Common.{subst, Option, IfSome}
use Rattle.nf_thin.proofs.Common.{passes_Q, Guides}
use Rattle.nf_thin.specs.declared.sifting.Guide.{Guide}
use Rattle.nf_thin.proofs.finding.find_by_slopes.Goals as goal

pub find_by-requires-clause-guide : goal.find_by-requires-clause-guide
find_by-requires-clause-guide c =
    subst (λ (found : Option Guide). IfSome found (λ guide. Guides passes_Q c.args.problem.now.ranking.net.now.net c.args.problem.now.ranking.sets.now
    c.args.problem.now.rate guide)) c.in-Some.is c.in_ok-guide.ensures
