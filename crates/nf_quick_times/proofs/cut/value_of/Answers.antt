use Rattle.std.proofs.Common.{ℕ, ◌<◌, ◌≤◌, length, sym, subst, arith}
use Rattle.nf_quick_times.proofs.Common.{err_from_is_err_and, passes_Q}
use Rattle.nf_quick_times.proofs.NodeByNode.{values_first, values_all, value_passes, values_more}
use Rattle.nf_quick_times.proofs.cut.value_of.Goals as goal

pub loop-number-init : goal.loop-number-init
loop-number-init c = values_first passes_Q c.args.net.now.net.links c.args.cut.now c.zero-value.result c.zero-value.ensures

pub returns-in_err-value : goal.returns-in_err-value
returns-in_err-value c =
    let p = err_from_is_err_and c.from_residual.result c.from_residual.ensures.1 in
    rw (p.1, p.2) (value_passes passes_Q c.args.net.now.net.links c.args.cut.now c.loop-number.value c.loop-number.number c.loop-number.invariant
    c.link-here.result c.link-here.ensures.link c.in_err-value.field-0.0 c.in_err-value.ensures)

pub loop-number-preserved : goal.loop-number-preserved
loop-number-preserved c = values_more passes_Q c.args.net.now.net.links c.args.cut.now c.loop-number.value c.loop-number.number c.loop-number.invariant
    c.link-here.result c.link-here.ensures.link c.in_ok-value.value c.in_ok-value.ensures

pub returns : goal.returns
returns c =
    let past : length c.args.net.now.net.links ≤ c.loop-number.number = omega arith in
    values_all passes_Q c.args.net.now.net.links c.args.cut.now c.loop-number.value c.loop-number.number c.loop-number.invariant past

pub value_after-requires-clause-head : goal.value_after-requires-clause-head
value_after-requires-clause-head c =
    subst (λ (n : ℕ). c.link-here.result.head < n) (sym c.requires) (c.link-here.ensures.named.network.heads c.loop-number.number c.link-here.result c.link-here.ensures.link)

pub value_after-requires-clause-tail : goal.value_after-requires-clause-tail
value_after-requires-clause-tail c =
    subst (λ (n : ℕ). c.link-here.result.tail < n) (sym c.requires) (c.link-here.ensures.named.network.tails c.loop-number.number c.link-here.result c.link-here.ensures.link)
