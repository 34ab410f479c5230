use Rattle.std.proofs.Common.{◌≡◌, List, drop, ◌+◌, sym, subst, ap, arith}
use Rattle.nf_rational.specs.Rational.{ℚ}
use Rattle.nf_frac_def.specs.Checked.{each}
use Rattle.nf_frac_def.proofs.Each.{with_front}
use Rattle.nf_graph.proofs.Walks.{IsHop-read}
use Rattle.std.proofs.lemmas.Result.{IfOk-from_err, err_from_is_err_and}
use Rattle.nf_frac_def.specs.declared.Part.TheVariants.{Slack}
use Rattle.nf_frac_def.specs.Checked.{at_part}
use Rattle.nf_frac_def.specs.Passing.{passes_Q}
use Rattle.nf_thin_def.specs.Slack.{slack_of, slack_list}
use Rattle.nf_thin_laws.proofs.Exact.{slacks_exact}
use Rattle.nf_sets.proofs.Running.{all_said, given_in, passed_in}
use Rattle.nf_sets.proofs.slacks.Goals as goal

pub returns-in_err-next-clause-list : goal.returns-in_err-next-clause-list
unfolding slack_list
returns-in_err-next-clause-list c =
    let p = err_from_is_err_and c.from_residual-in_err-next.result c.from_residual-in_err-next.ensures.1 in
    rw (p.1, p.2) (passed_in Slack (slack_of passes_Q c.args.labels.now) c.args.hops.now c.loop-hop.slacks.items c.loop-hop.hop-index c.hop-item.result c.in_err-next.field-0.0
    (omega arith) c.hop-item.is c.loop-hop.invariant c.in_err-next.ensures)

pub returns-in_err-next-clause-slacks : goal.returns-in_err-next-clause-slacks
returns-in_err-next-clause-slacks c = IfOk-from_err c.from_residual-in_err-next.result _ c.from_residual-in_err-next.ensures.0

pub returns-clause-list : goal.returns-clause-list
unfolding slack_list
returns-clause-list c =
    ap (at_part Slack) (all_said (slack_of passes_Q c.args.labels.now) c.args.hops.now c.loop-hop.slacks.items c.loop-hop.hop-index
    (omega arith) c.loop-hop.invariant)

pub returns-clause-slacks : goal.returns-clause-slacks
unfolding slack_list
returns-clause-slacks c = slacks_exact passes_Q c.args.hops.now c.args.labels.now c.loop-hop.slacks.items
    (all_said (slack_of passes_Q c.args.labels.now) c.args.hops.now c.loop-hop.slacks.items c.loop-hop.hop-index (omega arith) c.loop-hop.invariant)

pub slack-requires-clause-tail : goal.slack-requires-clause-tail
slack-requires-clause-tail c =
    c.requires.tails c.loop-hop.hop-index c.hop-item.result (IsHop-read c.args.hops.now c.loop-hop.hop-index c.hop-item.result c.loop-hop-test.true
    c.hop-item.is)

pub slack-requires-clause-head : goal.slack-requires-clause-head
slack-requires-clause-head c =
    c.requires.heads c.loop-hop.hop-index c.hop-item.result (IsHop-read c.args.hops.now c.loop-hop.hop-index c.hop-item.result c.loop-hop-test.true
    c.hop-item.is)

pub loop-hop-preserved : goal.loop-hop-preserved
loop-hop-preserved c = subst
    (λ (items : List ℚ). each (slack_of passes_Q c.args.labels.now) c.args.hops.now ≡ with_front items
    (each (slack_of passes_Q c.args.labels.now) (drop (c.loop-hop.hop-index + 1) c.args.hops.now)))
    (sym c.in_ok-push.ensures.items)
    (given_in Slack (slack_of passes_Q c.args.labels.now) c.args.hops.now c.loop-hop.slacks.items c.loop-hop.hop-index c.hop-item.result c.in_ok-next.next
    c.loop-hop-test.true c.hop-item.is c.loop-hop.invariant c.in_ok-next.ensures)
