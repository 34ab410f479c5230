use Rattle.std.proofs.Common.{refl, subst, option_copied, Ok}
use Rattle.nf_thin.proofs.Common.{err_from_is_err_and, passes_Q, Enumerates, TriesNext}
use Rattle.nf_thin.proofs.Looping.{fewer_left, loop_starts, loop_pattern, loop_finds, loop_fails, loop_goes_on, loop_ends}
use Rattle.nf_thin.proofs.searches.go_through.Goals as goal

pub try_next-requires-clause-pattern : goal.try_next-requires-clause-pattern
try_next-requires-clause-pattern c =
    loop_pattern passes_Q c.args.problem.now.ranking.net.now.net c.args.problem.now.ranking.sets.now c.args.problem.now.rate c.args.patterns.now
    c.args.problem.now.ranking.budget c.requires.problem.named.network c.requires.problem.sets c.requires.question c.args.problem.now.ranking.base.now
    c.requires.base
    c.loop-pattern.patterns c.loop-pattern.vain c.loop-pattern.invariant c.in-Some.pattern.now c.next.follows.lender-at-none
    (subst (λ r. Enumerates c.loop-pattern.patterns (option_copied r) c.next.follows.lender-at-none) c.in-Some.is c.next.follows.holds-at-none)

pub returns-in_err-found : goal.returns-in_err-found
returns-in_err-found c =
    let p = err_from_is_err_and c.from_residual.result c.from_residual.ensures.1 in
    rw (p.1, p.2) (loop_fails passes_Q c.args.problem.now.ranking.net.now.net c.args.problem.now.ranking.sets.now c.args.problem.now.rate
    c.args.patterns.now c.args.problem.now.ranking.budget c.requires.problem.named.network c.requires.problem.sets c.requires.question
    c.args.problem.now.ranking.base.now c.requires.base
    c.loop-pattern.patterns c.loop-pattern.vain c.loop-pattern.invariant c.in-Some.pattern.now c.next.follows.lender-at-none
    (subst (λ r. Enumerates c.loop-pattern.patterns (option_copied r) c.next.follows.lender-at-none) c.in-Some.is c.next.follows.holds-at-none)
    c.try_next.new.vain c.in_err-found.field-0.0
    c.in_err-found.ensures)

pub returns-in-Some-found : goal.returns-in-Some-found
returns-in-Some-found c =
    loop_finds passes_Q c.args.problem.now.ranking.net.now.net c.args.problem.now.ranking.sets.now c.args.problem.now.rate c.args.patterns.now
    c.args.problem.now.ranking.budget c.requires.problem.named.network c.requires.problem.sets c.requires.question c.args.problem.now.ranking.base.now
    c.requires.base
    c.loop-pattern.patterns c.loop-pattern.vain c.loop-pattern.invariant c.in-Some.pattern.now c.next.follows.lender-at-none
    (subst (λ r. Enumerates c.loop-pattern.patterns (option_copied r) c.next.follows.lender-at-none) c.in-Some.is c.next.follows.holds-at-none)
    c.try_next.new.vain c.in-Some-found.thin
    (subst (λ o. TriesNext passes_Q c.args.problem.now.ranking.net.now.net c.args.problem.now.ranking.sets.now c.args.problem.now.rate
    c.args.problem.now.ranking.budget c.in-Some.pattern.now c.loop-pattern.vain c.try_next.new.vain (Ok o)) c.in-Some-found.is c.in_ok-found.ensures)

pub loop-pattern-preserved : goal.loop-pattern-preserved
loop-pattern-preserved c =
    loop_goes_on passes_Q c.args.problem.now.ranking.net.now.net c.args.problem.now.ranking.sets.now c.args.problem.now.rate c.args.patterns.now
    c.args.problem.now.ranking.budget c.requires.problem.named.network c.requires.problem.sets c.requires.question c.args.problem.now.ranking.base.now
    c.requires.base
    c.loop-pattern.patterns c.loop-pattern.vain c.loop-pattern.invariant c.in-Some.pattern.now c.next.follows.lender-at-none
    (subst (λ r. Enumerates c.loop-pattern.patterns (option_copied r) c.next.follows.lender-at-none) c.in-Some.is c.next.follows.holds-at-none)
    c.try_next.new.vain
    (subst (λ o. TriesNext passes_Q c.args.problem.now.ranking.net.now.net c.args.problem.now.ranking.sets.now c.args.problem.now.rate
    c.args.problem.now.ranking.budget c.in-Some.pattern.now c.loop-pattern.vain c.try_next.new.vain (Ok o)) c.in_default-found.is c.in_ok-found.ensures)

pub returns : goal.returns
returns c =
    loop_ends passes_Q c.args.problem.now.ranking.net.now.net c.args.problem.now.ranking.sets.now c.args.problem.now.rate c.args.patterns.now
    c.args.problem.now.ranking.budget c.requires.problem.named.network c.requires.problem.sets c.requires.question c.args.problem.now.ranking.base.now
    c.requires.base
    c.loop-pattern.patterns c.loop-pattern.vain c.loop-pattern.invariant c.next.follows.lender-at-none
    (subst (λ r. Enumerates c.loop-pattern.patterns (option_copied r) c.next.follows.lender-at-none) c.in_default.is c.next.follows.holds-at-none)
    c.fault.result c.fault.ensures

pub loop-pattern-init : goal.loop-pattern-init
loop-pattern-init c =
    loop_starts passes_Q c.args.problem.now.ranking.net.now.net c.args.problem.now.ranking.sets.now c.args.problem.now.rate c.args.patterns.now
    c.args.problem.now.ranking.budget c.requires.problem.named.network c.requires.problem.sets c.requires.question c.args.problem.now.ranking.base.now
    c.requires.base
    c.args.patterns.now _ refl refl refl

pub loop-pattern-smaller : goal.loop-pattern-smaller
loop-pattern-smaller c =
    let told = subst (λ o. TriesNext passes_Q c.args.problem.now.ranking.net.now.net c.args.problem.now.ranking.sets.now c.args.problem.now.rate
    c.args.problem.now.ranking.budget c.in-Some.pattern.now c.loop-pattern.vain c.try_next.new.vain (Ok o)) c.in_default-found.is c.in_ok-found.ensures
    in
    fewer_left c.args.problem.now.ranking.budget c.loop-pattern.vain.tried c.try_next.new.vain.tried told.0 told.1.one_more
