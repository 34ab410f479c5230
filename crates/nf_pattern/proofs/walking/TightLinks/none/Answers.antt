use Rattle.std.proofs.Common.{sym, ◌∙◌, rules}
use Rattle.nf_pattern.proofs.Holding.{holds_none}
use Rattle.nf_pattern.proofs.walking.TightLinks.none.Goals as goal

pub returns-clause-holds : goal.returns-clause-holds
returns-clause-holds c pattern =
    holds_none c.args.hops.now pattern c.args.nodes c.in_ok-last.last.items c.in_ok-tails.tails.items c.in_ok-heads.heads.items c.requires
    (c.in_ok-last.ensures.items_if_clones_equal (λ y e. search rules))
    (sym c.in_ok-tails.tails.ok.0 ∙ c.in_ok-tails.ensures.len) (sym c.in_ok-heads.heads.ok.0 ∙ c.in_ok-heads.ensures.len)

pub returns-clause-nodes : goal.returns-clause-nodes
returns-clause-nodes c = sym c.in_ok-last.last.ok.0 ∙ c.in_ok-last.ensures.len
