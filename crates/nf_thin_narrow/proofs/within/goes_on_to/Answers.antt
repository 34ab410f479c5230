use Rattle.std.proofs.Common.{subst, arith, option_copied}
use Rattle.nf_thin_narrow.proofs.Common.{Enumerates}
use Rattle.nf_thin_narrow.proofs.Going.{ahead, stands_here, place_here, still_ahead, no_more, not_listed}
use Rattle.nf_thin_narrow.proofs.within.goes_on_to.Goals as goal

pub loop-last-init : goal.loop-last-init
loop-last-init c = record {
  through = c.requires.behind.through;
  later = ahead c.args.patterns.now.question c.args.patterns.now c.args.pattern.now c.requires.behind;
  last = tt;
}

pub returns-in_default-clause-within : goal.returns-in_default-clause-within
returns-in_default-clause-within c listing place is at =
    absurd (no_more c.args.patterns.now.question c.loop-last.patterns c.next.follows.lender-at-none c.loop-last.invariant.through c.args.pattern.now c.loop-last.invariant.later
    (subst (λ r. Enumerates c.loop-last.patterns (option_copied r) c.next.follows.lender-at-none) c.in_default.is c.next.follows.holds-at-none) listing place is at)

pub returns-in_default-clause-stands : goal.returns-in_default-clause-stands
returns-in_default-clause-stands c told listed =
    absurd (not_listed c.args.patterns.now.question c.loop-last.patterns c.next.follows.lender-at-none c.loop-last.invariant.through c.args.pattern.now c.loop-last.invariant.later
    (subst (λ r. Enumerates c.loop-last.patterns (option_copied r) c.next.follows.lender-at-none) c.in_default.is c.next.follows.holds-at-none) c.requires.question listed)

pub returns-in_default-other-clause-within : goal.returns-in_default-other-clause-within
returns-in_default-other-clause-within c listing place is at =
    let here = place_here c.args.patterns.now.question c.loop-last.patterns c.next.follows.lender-at-none c.loop-last.invariant.through c.args.pattern.now c.loop-last.invariant.later
    c.in-Some.listed.now (subst (λ r. Enumerates c.loop-last.patterns (option_copied r) c.next.follows.lender-at-none) c.in-Some.is
    c.next.follows.holds-at-none) (let f = c.ranges.budget.fits in let p = c.place.ensures in let t = c.loop-last-test.true in omega arith)
    (rw c.in_default-other.is at c.other_link-other.ensures) listing place is at in
    let p = c.place.ensures in
    let t = c.loop-last-test.true in
    omega arith

pub returns-in_default-other-clause-stands : goal.returns-in_default-other-clause-stands
returns-in_default-other-clause-stands c told listed =
    stands_here c.args.patterns.now.question c.loop-last.patterns c.next.follows.lender-at-none c.loop-last.invariant.through c.args.pattern.now c.loop-last.invariant.later
    c.in-Some.listed.now (subst (λ r. Enumerates c.loop-last.patterns (option_copied r) c.next.follows.lender-at-none) c.in-Some.is
    c.next.follows.holds-at-none) (let f = c.ranges.budget.fits in let p = c.place.ensures in let t = c.loop-last-test.true in omega arith)
    (rw c.in_default-other.is at c.other_link-other.ensures)

pub loop-last-preserved : goal.loop-last-preserved
loop-last-preserved c =
    let differ = rw c.in-Some-other.is at c.other_link-other.ensures in
    let on = still_ahead c.args.patterns.now.question c.loop-last.patterns c.next.follows.lender-at-none c.loop-last.invariant.through c.args.pattern.now c.loop-last.invariant.later
    c.in-Some.listed.now (subst (λ r. Enumerates c.loop-last.patterns (option_copied r) c.next.follows.lender-at-none) c.in-Some.is
    c.next.follows.holds-at-none) (let f = c.ranges.budget.fits in let p = c.place.ensures in let t = c.loop-last-test.true in omega arith)
    differ.1 in
    record { through = on.through; later = on.later; last = differ.0 }

pub returns-clause-within : goal.returns-clause-within
returns-clause-within c listing place is at =
    let h = c.loop-last.invariant.later listing place is at in
    let p = c.place.ensures in
    let t = c.loop-last-test.false in
    omega arith
