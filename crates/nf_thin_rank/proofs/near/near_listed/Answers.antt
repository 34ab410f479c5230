use Rattle.std.proofs.Common.{IfSome}
use Rattle.nf_thin_rank.proofs.Common.{IfOk-weaker, IsListedIn}
use Rattle.nf_thin_rank.proofs.Asking.{first_asked}
use Rattle.nf_thin_rank.proofs.Posed.{posed_pattern}
use Rattle.nf_thin_rank.proofs.near.near_listed.Goals as goal

pub mended-requires : goal.mended-requires
mended-requires c = posed_pattern c.args.ranking.now c.requires.ranking c.args.base.now c.requires.base

pub listing-requires-clause-base : goal.listing-requires-clause-base
listing-requires-clause-base c = c.in_ok-near.ensures.pattern_is

pub returns : goal.returns
returns c = IfOk-weaker c.copy_next.result _ (λ found. IfSome found (λ first. IsListedIn c.args.ranking.now.net.now.net c.args.ranking.now.sets.now first))
    (λ found gives. first_asked c.args.ranking.now.net.now.net c.args.ranking.now.sets.now c.in_ok-patterns.patterns c.copy_next.new.patterns
    c.in_ok-patterns.ensures.asked found gives) c.copy_next.ensures
