use Rattle.std.proofs.Common.{ℕ, arith, Ok}
use Rattle.nf_complete_conditions.proofs.Common.{enumerate_from, length-enumerate_from, err_from_is_err_and, passes_Q, each, Link, entry, full_at, KeepsAt}
use Rattle.nf_complete_def.specs.Cancelling.{fulls_list}
use Rattle.nf_complete_conditions.proofs.Telling.{link_at, each_link, link_each, tells_like, told_more, told_stops, told_all}
use Rattle.nf_complete_conditions.proofs.slopes.keep_slopes.Goals as goal

pub returns-in_err-here : goal.returns-in_err-here
unfolding fulls_list
returns-in_err-here c =
    let p = err_from_is_err_and c.from_residual.result c.from_residual.ensures.1 in
    let here = entry c.args.net.now.net.links c.loop-e.e (omega arith) in
    rw (p.1, p.2) (told_stops (full_at passes_Q c.args.sets.now c.args.slopes.now) (λ (q : ℕ × Link). KeepsAt c.args.sets.now c.args.flows.now c.args.slopes.now q.0 q.1)
    (enumerate_from 0 c.args.net.now.net.links) c.loop-e.e (c.loop-e.e, here.0) (link_at c.args.net.now.net.links c.loop-e.e here.0 here.1) c.loop-e.all c.loop-e.invariant
    c.in_err-here.field-0.0 (c.in_err-here.ensures here.0 here.1))

pub keeps_at-requires-clause-sets : goal.keeps_at-requires-clause-sets
keeps_at-requires-clause-sets c = c.requires.sets

pub keeps_at-requires-clause-flows : goal.keeps_at-requires-clause-flows
keeps_at-requires-clause-flows c = c.requires.flows

pub keeps_at-requires-clause-slopes : goal.keeps_at-requires-clause-slopes
keeps_at-requires-clause-slopes c = c.requires.slopes

pub loop-e-preserved : goal.loop-e-preserved
loop-e-preserved c =
    let here = entry c.args.net.now.net.links c.loop-e.e (omega arith) in
    rw (c.both-all.ensures) (told_more (full_at passes_Q c.args.sets.now c.args.slopes.now) (λ (q : ℕ × Link). KeepsAt c.args.sets.now c.args.flows.now c.args.slopes.now q.0 q.1)
    (enumerate_from 0 c.args.net.now.net.links) c.loop-e.e (c.loop-e.e, here.0) (link_at c.args.net.now.net.links c.loop-e.e here.0 here.1) c.loop-e.all c.loop-e.invariant
    c.in_ok-here.here (c.in_ok-here.ensures here.0 here.1))

pub returns : goal.returns
unfolding fulls_list
returns c = tells_like (each (full_at passes_Q c.args.sets.now c.args.slopes.now) (enumerate_from 0 c.args.net.now.net.links)) (Ok c.loop-e.all)
    (each_link (KeepsAt c.args.sets.now c.args.flows.now c.args.slopes.now) c.args.net.now.net.links)
    (link_each (KeepsAt c.args.sets.now c.args.flows.now c.args.slopes.now) c.args.net.now.net.links)
    (told_all (full_at passes_Q c.args.sets.now c.args.slopes.now) (λ (q : ℕ × Link). KeepsAt c.args.sets.now c.args.flows.now c.args.slopes.now q.0 q.1)
    (enumerate_from 0 c.args.net.now.net.links) c.loop-e.e c.loop-e.all (let n = length-enumerate_from 0 c.args.net.now.net.links in omega arith) c.loop-e.invariant)
