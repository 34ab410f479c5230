use Rattle.std.proofs.Common.{leb-true, arith, subst, Option, IfSome}
use Rattle.nf_thin_rank.proofs.Common.{Pattern, IsListedIn}
use Rattle.nf_thin_rank.proofs.standing.is_late_by.Goals as goal

pub listed_before-requires-clause-listed : goal.listed_before-requires-clause-listed
listed_before-requires-clause-listed c =
    subst (λ (found : Option Pattern). IfSome found (λ listed. IsListedIn c.args.ranking.now.net.now.net c.args.ranking.now.sets.now listed)) c.in-Some.is c.requires.listed

pub returns : goal.returns
returns c told listing place is at =
    let h = c.in_ok-ways.ensures listing place is at in
    let l = leb-true c.args.ranking.now.budget c.in_ok-ways.ways told in omega arith
