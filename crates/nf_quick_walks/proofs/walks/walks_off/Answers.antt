use Rattle.std.proofs.Common.{◌<◌, ◌≤◌, ◌==◌, List, ℕ, length, replicate, refl, sym, ap, subst, ◌∙◌}
use Rattle.nf_quick_walks.proofs.Common.{length-replicate, err_from_is_err_and, ℚ, passes_Q, way_out, AreSpent, HaveFlow}
use Rattle.nf_quick_walks.proofs.WalkByWalk.{takes_first, takes_all, none_left, take_passes, takes_more, none_there, some_there, within_as}
use Rattle.nf_quick_walks.proofs.SpentLinks.{spent_first, spent_still}
use Rattle.nf_quick_walks.proofs.walks.walks_off.Goals as goal

pub way_out-requires-clause-spent : goal.way_out-requires-clause-spent
way_out-requires-clause-spent c = subst (λ (l : List ℚ). AreSpent c.args.net.now.net.links l c.loop.spent.items) (sym c.deref.ensures.value) c.loop.invariant.spent

pub walk_off-requires : goal.walk_off-requires
walk_off-requires c =
    within_as (length c.args.net.now.net.links) (length c.loop.flows.items) c.in_ok-links.links.items c.in_ok-links.links.items
    (sym c.loop.invariant.takes.count) refl c.in_ok-links.ensures.within

pub returns-then-is_empty : goal.returns-then-is_empty
returns-then-is_empty c =
    let inside : c.loop.counter < length c.args.net.now.net.links = subst (λ (n : ℕ). c.loop.counter < n) c.link_count-end.ensures c.loop-test.true in
    none_left passes_Q c.args.net.now.net c.args.flows.items c.loop.walks.items c.loop.flows.items c.loop.counter c.loop.invariant.takes inside c.in_ok-links.links.items
    (c.in_ok-links.ensures.way ∙ ap (λ (l : List ℚ). way_out c.args.net.now.net l) c.deref.ensures.value)
    (none_there c.in_ok-links.links.items (ap (λ (n : ℕ). n == 0) (sym c.in_ok-links.links.ok.0) ∙ sym c.is_empty.ensures ∙ c.if-is_empty.true))

pub returns-in_err-rated : goal.returns-in_err-rated
returns-in_err-rated c =
    let inside : c.loop.counter < length c.args.net.now.net.links = subst (λ (n : ℕ). c.loop.counter < n) c.link_count-end.ensures c.loop-test.true in
    let p = err_from_is_err_and c.from_residual-in_err-rated.result c.from_residual-in_err-rated.ensures.1 in
    rw (p.1, p.2) (take_passes passes_Q c.args.net.now.net c.args.flows.items c.loop.walks.items c.loop.flows.items c.loop.counter c.loop.invariant.takes inside c.in_ok-links.links.items
    (c.in_ok-links.ensures.way ∙ ap (λ (l : List ℚ). way_out c.args.net.now.net l) c.deref.ensures.value)
    (some_there c.in_ok-links.links.items (ap (λ (n : ℕ). n == 0) (sym c.in_ok-links.links.ok.0) ∙ sym c.is_empty.ensures ∙ c.if-is_empty.false))
    c.in_err-rated.field-0.0 c.in_err-rated.ensures.list)

pub loop-preserved : goal.loop-preserved
loop-preserved c =
    let inside : c.loop.counter < length c.args.net.now.net.links = subst (λ (n : ℕ). c.loop.counter < n) c.link_count-end.ensures c.loop-test.true in
    let lent = c.deref.ensures.value in
    record {
      takes = takes_more passes_Q c.args.net.now.net c.args.flows.items c.loop.walks.items c.loop.flows.items c.loop.counter c.loop.invariant.takes inside c.in_ok-links.links.items
          (c.in_ok-links.ensures.way ∙ ap (λ (l : List ℚ). way_out c.args.net.now.net l) lent)
          (some_there c.in_ok-links.links.items (ap (λ (n : ℕ). n == 0) (sym c.in_ok-links.links.ok.0) ∙ sym c.is_empty.ensures ∙ c.if-is_empty.false))
          c.walk_off.new.flows.items c.in_ok-rated.rated c.push.new.self.items c.in_ok-rated.ensures.list c.in_ok-rated.ensures.count
          c.in_ok-rated.ensures.walk c.in_ok-push.ensures.items;
      spent = spent_still passes_Q _ c.args.net.now.net.links c.loop.flows.items c.walk_off.new.flows.items c.in_ok-links.links.items c.way_out.new.spent.items
          (subst (λ (l : List ℚ). HaveFlow l c.in_ok-links.links.items) lent c.in_ok-links.ensures.flow) c.in_ok-rated.ensures.list
          (subst (λ (l : List ℚ). AreSpent c.args.net.now.net.links l c.way_out.new.spent.items) lent c.in_ok-links.ensures.spent);
      count = c.in_ok-links.ensures.count;
    }

pub returns-in_err-spent : goal.returns-in_err-spent
returns-in_err-spent c =
    let p = err_from_is_err_and c.from_residual.result c.from_residual.ensures.1 in
    rw (p.1, p.2) tt

pub returns-in_err-links : goal.returns-in_err-links
returns-in_err-links c =
    let p = err_from_is_err_and c.from_residual-in_err-links.result c.from_residual-in_err-links.ensures.1 in
    rw (p.1, p.2) tt

pub returns-in_err-push : goal.returns-in_err-push
returns-in_err-push c =
    let p = err_from_is_err_and c.from_residual-in_err-push.result c.from_residual-in_err-push.ensures.1 in
    rw (p.1, p.2) tt

pub loop-init : goal.loop-init
loop-init c =
    let unspent = c.in_ok-spent.ensures {u = tt} in
    let none = unspent.items_if_clones_equal (λ _ e. e) ∙ ap (λ (n : ℕ). replicate n 0) c.node_count.ensures in
    record {
      takes = takes_first passes_Q c.args.net.now.net c.args.flows.items c.new-walks.result.items c.args.flows.items c.new-walks.ensures.items refl c.requires;
      spent = spent_first c.args.net.now.net.links c.args.flows.items c.in_ok-spent.spent.items c.args.net.now.net.nodes none;
      count = ap length none ∙ length-replicate c.args.net.now.net.nodes 0;
    }

pub returns : goal.returns
returns c =
    takes_all passes_Q c.args.net.now.net c.args.flows.items c.loop.walks.items c.loop.flows.items c.loop.counter c.loop.invariant.takes
    (subst (λ (n : ℕ). n ≤ c.loop.counter) c.link_count-end.ensures c.loop-test.false)

pub way_out-requires-clause-count : goal.way_out-requires-clause-count
way_out-requires-clause-count c = c.loop.invariant.count

pub way_out-requires-clause-flows : goal.way_out-requires-clause-flows
way_out-requires-clause-flows c = ap (length {A = ℚ}) c.deref.ensures.value ∙ c.loop.invariant.takes.count
