use Rattle.std.proofs.Common.{arith}
use Rattle.nf_pattern.proofs.Backing.{last_decided, none_last}
use Rattle.nf_pattern.proofs.walking.TightLinks.is_last_at.Goals as goal

pub index-requires-2 : goal.index-requires-2
index-requires-2 c = let at = c.index.ensures in let below = c.requires in omega arith

pub returns-in-Some : goal.returns-in-Some
returns-in-Some c =
    last_decided c.args.self.now.last.items c.args.node c.index.result c.index-2.result.now c.index.ensures c.requires c.index-2.ensures c.in-Some.last
    c.args.link c.eq.result c.in-Some.is c.eq.ensures

pub returns-in-None : goal.returns-in-None
returns-in-None c = none_last c.args.self.now.last.items c.args.node c.index.result c.index-2.result.now c.index.ensures c.requires c.index-2.ensures c.args.link c.in-None.is
