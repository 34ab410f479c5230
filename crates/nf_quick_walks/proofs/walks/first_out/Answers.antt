use Rattle.std.proofs.Common.{ℕ, ◌<◌, length, sym, ap, subst, ◌∙◌}
use Rattle.nf_quick_walks.proofs.Common.{same_Some, ℚ, is_out}
use Rattle.nf_quick_walks.proofs.WalkByWalk.{found_out, looks_more}
use Rattle.nf_quick_walks.proofs.SpentLinks.{looks_from}
use Rattle.nf_quick_walks.proofs.walks.first_out.Goals as goal

pub loop-number-init : goal.loop-number-init
loop-number-init c = looks_from c.args.net.now.net.links c.args.node c.args.flows.now c.args.spent c.requires.spent

pub returns-then-is_out-clause-first : goal.returns-then-is_out-clause-first
returns-then-is_out-clause-first c =
    sym (found_out c.args.net.now.net.links c.args.node c.args.flows.now c.loop-number.number c.loop-number.invariant c.link-here.result
    c.link-here.ensures.link
    (sym (c.is_out.ensures ∙ ap (λ (x : ℚ). is_out c.link-here.result c.args.node x) c.flow_at.ensures) ∙ c.if-is_out.true))

pub loop-number-preserved : goal.loop-number-preserved
loop-number-preserved c = looks_more c.args.net.now.net.links c.args.node c.args.flows.now c.loop-number.number c.loop-number.invariant c.link-here.result c.link-here.ensures.link
    (sym (c.is_out.ensures ∙ ap (λ (x : ℚ). is_out c.link-here.result c.args.node x) c.flow_at.ensures) ∙ c.if-is_out.false)

pub returns-then-is_out-clause-within : goal.returns-then-is_out-clause-within
returns-then-is_out-clause-within c = λ e same.
    subst (λ (n : ℕ). n < length c.args.net.now.net.links) (same_Some c.loop-number.number e same)
    (subst (λ (n : ℕ). c.loop-number.number < n) c.link_count-number-end.ensures c.loop-number-test.true)
