use Rattle.std.proofs.Common.{ℕ, ◌<◌, ◌≤◌, length, sym, subst, ◌∙◌, take_all, arith}
use Rattle.nf_quick_walks.proofs.WalkByWalk.{flow_more}
use Rattle.nf_quick.proofs.working.flows_of.Goals as goal

pub loop-number-preserved : goal.loop-number-preserved
loop-number-preserved c =
    let inside : c.loop-number.number < length c.args.flow.now = omega (arith, c.requires.flow.count) in
    flow_more c.args.flow.now c.loop-number.flows.items c.push.new.self.items c.loop-number.number c.flow.result inside c.loop-number.invariant c.flow.ensures c.in_ok-push.ensures.items

pub returns : goal.returns
returns c =
    c.loop-number.invariant ∙ take_all c.loop-number.number c.args.flow.now
    (subst (λ (n : ℕ). n ≤ c.loop-number.number) (c.link_count-number-end.ensures ∙ sym c.requires.flow.count) c.loop-number-test.false)
