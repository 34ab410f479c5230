use Rattle.std.proofs.Common.{rules, sym, ap, ◌∙◌}
use Rattle.nf_routes_read.proofs.Common.{drop_all, Link}
use Rattle.nf_routes_read.proofs.RouteLinks.{walk_goes, walk_breaks}
use Rattle.nf_routes_read.proofs.walk.is_walk.Goals as goal

pub returns : goal.returns
returns c = search (rules, drop_all c.loop-link.link-index c.args.links.now c.loop-link-test.false)

pub loop-link-preserved : goal.loop-link-preserved
loop-link-preserved c =
    walk_goes c.args.net.now.net.links c.args.links.now c.args.net.now.net.sink c.loop-link.link-index c.loop-link.node c.link-item.result
    c.link.inside.tail c.link.inside.head c.link-link.result
    c.loop-link-test.true c.link-item.is c.link-link.ensures.link (ap (λ (l : Link). l.tail) c.link.view_is)
    (ap (λ (l : Link). l.head) c.link.view_is) (sym c.ne.ensures ∙ c.if-ne.false) ∙ c.loop-link.invariant

pub returns-then-ne : goal.returns-then-ne
returns-then-ne c =
    walk_breaks c.args.net.now.net.links c.args.links.now c.args.net.now.net.sink c.loop-link.link-index c.loop-link.node c.link-item.result
    c.link.inside.tail c.link.inside.head c.link-link.result
    c.loop-link-test.true c.link-item.is c.link-link.ensures.link (ap (λ (l : Link). l.tail) c.link.view_is)
    (sym c.ne.ensures ∙ c.if-ne.true) ∙ c.loop-link.invariant
