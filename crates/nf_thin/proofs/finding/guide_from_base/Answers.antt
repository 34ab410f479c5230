use Rattle.std.proofs.Common.{subst, Option, IfSome}
use Rattle.nf_thin.proofs.Common.{Pattern, IsListedIn, posed_pattern}
use Rattle.nf_thin.proofs.finding.guide_from_base.Goals as goal

pub guide_of-requires-clause-first : goal.guide_of-requires-clause-first
guide_of-requires-clause-first c =
    let listed : IsListedIn c.args.problem.now.ranking.net.now.net c.args.problem.now.ranking.sets.now c.in-Some.near =
    subst (λ (found : Option Pattern). IfSome found (λ near. IsListedIn c.args.problem.now.ranking.net.now.net c.args.problem.now.ranking.sets.now
    near)) c.in-Some.is c.in_ok-near.ensures in
    posed_pattern c.args.problem.now.ranking c.requires c.in-Some.near listed.states
