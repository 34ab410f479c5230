use Rattle.std.proofs.Common.{List, ℕ, sym, ap, subst, refl, ◌<◌, ◌≤◌, ◌∙◌}
use Rattle.nf_quick_walks.proofs.Common.{Link, HaveFlow}
use Rattle.nf_quick_walks.proofs.WalkByWalk.{way_ends, way_stops, way_goes}
use Rattle.nf_quick_walks.proofs.SpentLinks.{out_has_flow, all_and}
use Rattle.nf_quick_walks.proofs.walks.way_out.Goals as goal

pub returns-in_default-clause-way : goal.returns-in_default-clause-way
returns-in_default-clause-way c =
    let inside : c.loop.counter < c.args.net.now.net.nodes = subst (λ (n : ℕ). c.loop.counter < n) c.node_count-end.ensures c.loop-test.true in
    way_stops c.args.net.now.net c.args.flows.now c.loop.way.items c.loop.node c.loop.counter c.loop.invariant.leads inside (sym c.in_default.ensures.first)

pub loop-preserved : goal.loop-preserved
loop-preserved c =
    let inside : c.loop.counter < c.args.net.now.net.nodes = subst (λ (n : ℕ). c.loop.counter < n) c.node_count-end.ensures c.loop-test.true in
    record {
      leads = way_goes c.args.net.now.net c.args.flows.now c.loop.way.items c.loop.node c.loop.counter c.loop.invariant.leads inside c.in-Some.link
          c.link.result c.push.new.self.items c.node.inside.head
          c.in-Some.ensures.first c.link.ensures.link (c.in-Some.ensures.within c.in-Some.link refl) c.in_ok-push.ensures.items (ap (λ (l : Link). l.head) c.node.view_is);
      flow = subst (λ (w : List ℕ). HaveFlow c.args.flows.now w) (sym c.in_ok-push.ensures.items)
          (all_and c.args.flows.now c.loop.way.items c.in-Some.link c.loop.invariant.flow
          (out_has_flow 0 c.args.net.now.net.links c.loop.node c.args.flows.now c.in-Some.link (sym c.in-Some.ensures.first)));
      spent = c.in-Some.ensures.spent;
      count = c.in-Some.ensures.count ∙ c.loop.invariant.count;
      node = subst (λ (v : ℕ). v < c.args.net.now.net.nodes) (sym (ap (λ (l : Link). l.head) c.node.view_is))
          (c.link.ensures.named.network.heads c.in-Some.link c.link.result c.link.ensures.link);
    }

pub next_out-requires-clause-flows : goal.next_out-requires-clause-flows
next_out-requires-clause-flows c = c.requires.flows

pub returns-clause-way : goal.returns-clause-way
returns-clause-way c =
    way_ends c.args.net.now.net c.args.flows.now c.loop.way.items c.loop.node c.loop.counter c.loop.invariant.leads
    (subst (λ (n : ℕ). n ≤ c.loop.counter) c.node_count-end.ensures c.loop-test.false)

pub link-requires : goal.link-requires
link-requires c = c.in-Some.ensures.within c.in-Some.link refl
