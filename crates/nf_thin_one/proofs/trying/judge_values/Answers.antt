use Rattle.std.proofs.Common.{ℕ, List, take, ◌∙◌, ap, length, arith}
use Rattle.nf_thin_one.proofs.Common.{length-take-le, ℚ, link_flows_in, onto-length}
use Rattle.nf_thin_one.proofs.Outcomes.{judged_so}
use Rattle.nf_thin_one.proofs.Patterns.{node_fails, link_fails}
use Rattle.nf_thin_one.proofs.trying.judge_values.Goals as goal

pub verdict-requires-clause-flows : goal.verdict-requires-clause-flows
verdict-requires-clause-flows c =
    ap (λ (l : List ℚ). length l) c.deref-2.ensures.value ∙ (ap (λ (l : List ℚ). length l) c.in_ok-flows.ensures
    ∙ (onto-length c.args.sets.now.active _ ∙ c.requires.pattern.sets_are.count))

pub verdict-requires-clause-states : goal.verdict-requires-clause-states
verdict-requires-clause-states c = c.requires.pattern.pattern_is.count ∙ c.requires.pattern.sets_are.count

pub returns-in_ok-pattern-in-Meets : goal.returns-in_ok-pattern-in-Meets
returns-in_ok-pattern-in-Meets c =
    let long = c.truncate.ensures.items ∙ ap (λ (n : ℕ). take n c.args.values.items) c.node_count.ensures in
    let flows = c.in_ok-flows.ensures ∙ ap (λ (l : List ℚ). link_flows_in c.args.net.now.net.nodes c.args.sets.now.active l) c.deref.ensures.value in
    let both = judged_so c.args.net.now.net c.args.pattern.now _ _ _ _ _ _ (c.deref-2.ensures.value ∙ flows) (c.deref-3.ensures.value ∙ long) c.in-Meets.is c.in_ok-verdict.ensures in
    (both.0, flows, long, c.in_ok-pattern-in-Meets.ensures, both.1)

pub returns-in-FailsNode : goal.returns-in-FailsNode
returns-in-FailsNode c =
    let long = c.truncate.ensures.items ∙ ap (λ (n : ℕ). take n c.args.values.items) c.node_count.ensures in
    let flows = c.in_ok-flows.ensures ∙ ap (λ (l : List ℚ). link_flows_in c.args.net.now.net.nodes c.args.sets.now.active l) c.deref.ensures.value in
    let both = judged_so c.args.net.now.net c.args.pattern.now _ _ _ _ _ _ (c.deref-2.ensures.value ∙ flows) (c.deref-3.ensures.value ∙ long) c.in-FailsNode.is c.in_ok-verdict.ensures in
    (both.0, node_fails c.args.net.now.net c.args.pattern.now _ _ c.in-FailsNode.field-0 both.1)

pub returns-in-FailsLink : goal.returns-in-FailsLink
returns-in-FailsLink c =
    let long = c.truncate.ensures.items ∙ ap (λ (n : ℕ). take n c.args.values.items) c.node_count.ensures in
    let flows = c.in_ok-flows.ensures ∙ ap (λ (l : List ℚ). link_flows_in c.args.net.now.net.nodes c.args.sets.now.active l) c.deref.ensures.value in
    let both = judged_so c.args.net.now.net c.args.pattern.now _ _ _ _ _ _ (c.deref-2.ensures.value ∙ flows) (c.deref-3.ensures.value ∙ long) c.in-FailsLink.is c.in_ok-verdict.ensures in
    (both.0, link_fails c.args.net.now.net c.args.pattern.now _ _ c.in-FailsLink.field-0 both.1)

pub verdict-requires-clause-labels : goal.verdict-requires-clause-labels
verdict-requires-clause-labels c =
    ap (λ (l : List ℚ). length l) (c.deref-3.ensures.value ∙ c.truncate.ensures.items)
    ∙ (length-take-le c.node_count.result c.args.values.items (omega (arith, c.node_count.ensures, c.requires.values)) ∙ c.node_count.ensures)
