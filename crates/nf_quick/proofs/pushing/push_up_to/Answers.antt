use Rattle.std.proofs.Common.{◌<◌, ◌≤◌, Option, sym, ap, subst, ◌∙◌, arith, Ok, IfSome}
use Rattle.nf_quick.proofs.Common.{err_from_is_err_and, IfOk-from_err, passes_Q, Walk, IsShortestWalk, QuickStanding, OverBudget}
use Rattle.nf_quick.proofs.PushByPush.{pushes_first, next_stops, none_next, push_stops, pushes_more, last_stops, last_none, over_budget, halted}
use Rattle.nf_quick.proofs.pushing.push_up_to.Goals as goal

pub loop-init : goal.loop-init
loop-init c = pushes_first passes_Q c.args.net.now.net c.args.amount c.args.augments c.in_ok-standing.standing c.in_ok-standing.ensures.start c.in_ok-standing.ensures.sound

pub returns-in_err-walk-clause-pushed : goal.returns-in_err-walk-clause-pushed
returns-in_err-walk-clause-pushed c =
    let p = err_from_is_err_and c.from_residual-in_err-walk.result c.from_residual-in_err-walk.ensures.1 in
    let inside : c.loop.counter < c.args.augments = omega arith in
    rw (p.1, p.2) (halted passes_Q c.args.net.now.net c.args.amount c.args.augments c.in_err-walk.field-0.0
    (next_stops passes_Q c.args.net.now.net c.args.amount c.args.augments c.loop.standing c.loop.counter c.loop.invariant inside c.in_err-walk.field-0.0
    (c.in_err-walk.ensures.list c.args.amount)))

pub returns-in_default-clause-pushed : goal.returns-in_default-clause-pushed
returns-in_default-clause-pushed c =
    let inside : c.loop.counter < c.args.augments = omega arith in
    none_next passes_Q c.args.net.now.net c.args.amount c.args.augments c.loop.standing c.loop.counter c.loop.invariant inside
    (c.in_ok-walk.ensures.list c.args.amount ∙ ap Ok c.in_default.is)

pub returns-in_err-push_on-clause-pushed : goal.returns-in_err-push_on-clause-pushed
returns-in_err-push_on-clause-pushed c =
    let p = err_from_is_err_and c.from_residual-in_err-push_on.result c.from_residual-in_err-push_on.ensures.1 in
    let inside : c.loop.counter < c.args.augments = omega arith in
    rw (p.1, p.2) (halted passes_Q c.args.net.now.net c.args.amount c.args.augments c.in_err-push_on.field-0.0
    (push_stops passes_Q c.args.net.now.net c.args.amount c.args.augments c.loop.standing c.loop.counter c.loop.invariant inside c.in-Some.walk
    (c.in_ok-walk.ensures.list c.args.amount ∙ ap Ok c.in-Some.is) c.in_err-push_on.field-0.0 c.in_err-push_on.ensures.list))

pub loop-preserved : goal.loop-preserved
loop-preserved c =
    let inside : c.loop.counter < c.args.augments = omega arith in
    pushes_more passes_Q c.args.net.now.net c.args.amount c.args.augments c.loop.standing c.loop.counter c.loop.invariant inside c.in-Some.walk
    (c.in_ok-walk.ensures.list c.args.amount ∙ ap Ok c.in-Some.is)
    c.push_on.new.self c.in_ok-push_on.ensures.list c.push_on.ensures.sound c.push_on.ensures.rate

pub returns-in_err-next-clause-pushed : goal.returns-in_err-next-clause-pushed
returns-in_err-next-clause-pushed c =
    let p = err_from_is_err_and c.from_residual-in_err-next.result c.from_residual-in_err-next.ensures.1 in
    let past : c.args.augments ≤ c.loop.counter = omega arith in
    rw (p.1, p.2) (halted passes_Q c.args.net.now.net c.args.amount c.args.augments c.in_err-next.field-0.0
    (last_stops passes_Q c.args.net.now.net c.args.amount c.args.augments c.loop.standing c.loop.counter c.loop.invariant past c.in_err-next.field-0.0
    (c.in_err-next.ensures.list c.args.amount)))

pub returns-in-Some-2-clause-pushed : goal.returns-in-Some-2-clause-pushed
returns-in-Some-2-clause-pushed c =
    let past : c.args.augments ≤ c.loop.counter = omega arith in
    over_budget passes_Q c.args.net.now.net c.args.amount c.args.augments c.loop.standing c.loop.counter c.loop.invariant past c.in-Some-2.field-0
    (c.in_ok-next.ensures.list c.args.amount ∙ ap Ok c.in-Some-2.is)
    ∙ ap (λ (s : QuickStanding). Ok (OverBudget s.pushed)) (sym c.standing-2.view_is)

pub next-requires-clause-limited : goal.next-requires-clause-limited
next-requires-clause-limited c = c.requires

pub next-requires-2-clause-limited : goal.next-requires-2-clause-limited
next-requires-2-clause-limited c = c.requires

pub returns-in_err-standing-clause-pushed : goal.returns-in_err-standing-clause-pushed
returns-in_err-standing-clause-pushed c = let p = err_from_is_err_and c.from_residual.result c.from_residual.ensures.1 in rw (p.1, p.2) tt

pub returns-in_err-standing-clause-sound : goal.returns-in_err-standing-clause-sound
returns-in_err-standing-clause-sound c = IfOk-from_err c.from_residual.result _ c.from_residual.ensures.0

pub returns-in_err-walk-clause-sound : goal.returns-in_err-walk-clause-sound
returns-in_err-walk-clause-sound c = IfOk-from_err c.from_residual-in_err-walk.result _ c.from_residual-in_err-walk.ensures.0

pub returns-in_err-push_on-clause-sound : goal.returns-in_err-push_on-clause-sound
returns-in_err-push_on-clause-sound c = IfOk-from_err c.from_residual-in_err-push_on.result _ c.from_residual-in_err-push_on.ensures.0

pub returns-in_err-next-clause-sound : goal.returns-in_err-next-clause-sound
returns-in_err-next-clause-sound c = IfOk-from_err c.from_residual-in_err-next.result _ c.from_residual-in_err-next.ensures.0

pub next-requires-clause-sound : goal.next-requires-clause-sound
next-requires-clause-sound c = c.loop.invariant.sound

pub returns-in_default-clause-sound : goal.returns-in_default-clause-sound
returns-in_default-clause-sound c = c.loop.invariant.sound

pub push_on-requires-clause-sound : goal.push_on-requires-clause-sound
push_on-requires-clause-sound c = c.loop.invariant.sound

pub push_on-requires-clause-walk : goal.push_on-requires-clause-walk
push_on-requires-clause-walk c = subst (λ (found : Option Walk). IfSome found (IsShortestWalk c.args.net.now.net c.loop.standing.flows)) c.in-Some.is c.in_ok-walk.ensures.shortest

pub push_on-requires-clause-rate : goal.push_on-requires-clause-rate
push_on-requires-clause-rate c = c.loop.invariant.rate

pub next-requires-2-clause-sound : goal.next-requires-2-clause-sound
next-requires-2-clause-sound c = c.loop.invariant.sound

pub returns-in-None-clause-pushed : goal.returns-in-None-clause-pushed
returns-in-None-clause-pushed c =
    let past : c.args.augments ≤ c.loop.counter = omega arith in
    last_none passes_Q c.args.net.now.net c.args.amount c.args.augments c.loop.standing c.loop.counter c.loop.invariant past
    (c.in_ok-next.ensures.list c.args.amount ∙ ap Ok c.in-None.is)

pub returns-in-None-clause-sound : goal.returns-in-None-clause-sound
returns-in-None-clause-sound c = c.loop.invariant.sound
