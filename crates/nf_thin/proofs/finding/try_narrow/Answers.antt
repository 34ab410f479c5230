use Rattle.std.proofs.Common.{List, length, true, false, refl, sym, ap, subst, ◌∙◌, arith, Option, Some, None, option_copied, Ok, Err}
use Rattle.nf_thin.proofs.Common.{none-some, err_from_is_err_and, passes_Q, Pattern, IsListedIn, Given, Enumerates, StandsWithin, SiftsNext, TellsStanding}
use Rattle.nf_thin.proofs.Common.{IsInStep, StaysBehind}
use Rattle.nf_model.specs.declared.State.{State}
use Rattle.nf_thin_rank.specs.declared.standing.Standing.{Standing}
use Rattle.nf_thin_rank.specs.Posing.{question_in}
use Rattle.nf_thin.proofs.Narrowing.{none_yet, whole_listed, part_count, whole_count, next_later, next_kept, narrow_found, narrow_beyond, narrow_failed}
use Rattle.nf_thin.proofs.Narrowing.{narrow_on}
use Rattle.nf_thin.proofs.finding.try_narrow.Goals as goal

pub loop-part-init : goal.loop-part-init
loop-part-init c = record {
  same = refl;
  count = ap (λ (l : List (Option State)). length l) c.requires.whole ∙ (c.requires.problem.base.count ∙ c.requires.problem.sets.sets_are.count);
  within = omega arith;
  in_step = λ all is. absurd (none-some all (sym c.requires.pace ∙ is));
  vainly =
      none_yet passes_Q c.args.problem.now.ranking.net.now.net c.args.problem.now.ranking.sets.now c.args.problem.now.rate
      c.args.problem.now.ranking.base.now c.args.narrow.now.forced.now c.args.patterns.now.last c.requires.start;
}

pub fill-requires-clause-pattern : goal.fill-requires-clause-pattern
fill-requires-clause-pattern c = c.loop-part.invariant.count ∙ sym c.link_count.ensures

pub fill-requires-clause-forced : goal.fill-requires-clause-forced
fill-requires-clause-forced c = c.requires.forcing.count ∙ (c.requires.problem.sets.sets_are.count ∙ sym c.link_count.ensures)

pub fill-requires-clause-part : goal.fill-requires-clause-part
fill-requires-clause-part c =
    part_count passes_Q c.args.problem.now.ranking.net.now.net c.args.problem.now.ranking.sets.now c.args.problem.now.rate
    c.args.problem.now.ranking.base.now c.args.narrow.now.forced.now c.requires.problem.sets c.requires.forcing c.loop-part.patterns
    (c.loop-part.invariant.same ∙ c.requires.question)
    c.in-Some.part.now c.next.follows.lender-at-none (subst (λ r. Enumerates c.loop-part.patterns (option_copied r) c.next.follows.lender-at-none)
    c.in-Some.is c.next.follows.holds-at-none)
    ∙ sym c.link_count.ensures

pub keep_up-requires-clause-listed : goal.keep_up-requires-clause-listed
keep_up-requires-clause-listed c =
    subst (λ (x : Pattern). IsListedIn c.args.problem.now.ranking.net.now.net c.args.problem.now.ranking.sets.now x) (sym c.fill.ensures)
    (whole_listed passes_Q c.args.problem.now.ranking.net.now.net c.args.problem.now.ranking.sets.now c.args.problem.now.rate
    c.args.problem.now.ranking.base.now c.args.narrow.now.forced.now c.requires.problem.sets c.requires.forcing c.loop-part.patterns
    (c.loop-part.invariant.same ∙ c.requires.question)
    c.in-Some.part.now c.next.follows.lender-at-none (subst (λ r. Enumerates c.loop-part.patterns (option_copied r) c.next.follows.lender-at-none)
    c.in-Some.is c.next.follows.holds-at-none))

pub keep_up-requires-clause-behind : goal.keep_up-requires-clause-behind
keep_up-requires-clause-behind c =
    subst (λ (x : Pattern). StaysBehind (question_in c.args.problem.now.ranking) c.loop-part.pace x) (sym c.fill.ensures)
    (next_later passes_Q c.args.problem.now.ranking.net.now.net c.args.problem.now.ranking.sets.now c.args.problem.now.rate
    c.args.problem.now.ranking.base.now c.args.narrow.now.forced.now c.requires.problem.sets c.requires.forcing c.loop-part.patterns
    (c.loop-part.invariant.same ∙ c.requires.question)
    c.in-Some.part.now c.next.follows.lender-at-none (subst (λ r. Enumerates c.loop-part.patterns (option_copied r) c.next.follows.lender-at-none)
    c.in-Some.is c.next.follows.holds-at-none)
    c.requires.problem.base c.loop-part.pace c.loop-part.invariant.in_step)

pub returns-then-is_beyond : goal.returns-then-is_beyond
returns-then-is_beyond c =
    narrow_beyond passes_Q c.args.problem.now.ranking.net.now.net c.args.problem.now.ranking.sets.now c.args.problem.now.rate
    c.args.problem.now.ranking.base.now c.args.narrow.now.forced.now c.requires.problem.sets c.requires.forcing c.loop-part.patterns
    (c.loop-part.invariant.same ∙ c.requires.question)
    c.in-Some.part.now c.next.follows.lender-at-none (subst (λ r. Enumerates c.loop-part.patterns (option_copied r) c.next.follows.lender-at-none)
    c.in-Some.is c.next.follows.holds-at-none)
    c.args.problem.now.ranking.budget c.loop-part.vain c.loop-part.vain c.loop-part.invariant.vainly
    (subst (λ (x : Pattern). StandsWithin (question_in c.args.problem.now.ranking) x c.args.problem.now.ranking.budget false) c.fill.ensures
    (subst (λ (s : Standing). TellsStanding (question_in c.args.problem.now.ranking) c.fill.new.pattern c.args.problem.now.ranking.budget s) c.if-is_beyond.ensures
    c.in_ok-standing.ensures.told))

pub sift_next-requires-clause-listed : goal.sift_next-requires-clause-listed
sift_next-requires-clause-listed c =
    subst (λ (x : Pattern). IsListedIn c.args.problem.now.ranking.net.now.net c.args.problem.now.ranking.sets.now x) (sym c.fill.ensures)
    (whole_listed passes_Q c.args.problem.now.ranking.net.now.net c.args.problem.now.ranking.sets.now c.args.problem.now.rate
    c.args.problem.now.ranking.base.now c.args.narrow.now.forced.now c.requires.problem.sets c.requires.forcing c.loop-part.patterns
    (c.loop-part.invariant.same ∙ c.requires.question)
    c.in-Some.part.now c.next.follows.lender-at-none (subst (λ r. Enumerates c.loop-part.patterns (option_copied r) c.next.follows.lender-at-none)
    c.in-Some.is c.next.follows.holds-at-none))

pub returns-in_err-found : goal.returns-in_err-found
returns-in_err-found c listing narrow n =
    let p = err_from_is_err_and c.from_residual-in_err-found.result c.from_residual-in_err-found.ensures.1 in
    rw (p.1, p.2) (narrow_failed passes_Q c.args.problem.now.ranking.net.now.net c.args.problem.now.ranking.sets.now c.args.problem.now.rate
    c.args.problem.now.ranking.base.now c.args.narrow.now.forced.now c.requires.problem.sets c.requires.forcing c.loop-part.patterns
    (c.loop-part.invariant.same ∙ c.requires.question)
    c.in-Some.part.now c.next.follows.lender-at-none (subst (λ r. Enumerates c.loop-part.patterns (option_copied r) c.next.follows.lender-at-none)
    c.in-Some.is c.next.follows.holds-at-none)
    c.args.problem.now.ranking.budget c.loop-part.vain c.sift_next.new.vain c.loop-part.invariant.vainly c.in_err-found.field-0.0
    (subst (λ (x : Pattern). SiftsNext passes_Q c.args.problem.now.ranking.net.now.net c.args.problem.now.ranking.sets.now c.args.problem.now.rate
    c.args.problem.now.ranking.budget x c.loop-part.vain c.sift_next.new.vain (Err c.in_err-found.field-0.0)) c.fill.ensures c.in_err-found.ensures)
    listing narrow n)

pub is_within-requires-clause-pattern : goal.is_within-requires-clause-pattern
is_within-requires-clause-pattern c =
    ap (λ (l : List (Option State)). length l) c.fill.ensures ∙ whole_count passes_Q c.args.problem.now.ranking.net.now.net
    c.args.problem.now.ranking.sets.now c.args.problem.now.rate c.args.problem.now.ranking.base.now c.args.narrow.now.forced.now c.requires.problem.sets
    c.requires.forcing c.loop-part.patterns (c.loop-part.invariant.same ∙ c.requires.question)
    c.in-Some.part.now c.next.follows.lender-at-none (subst (λ r. Enumerates c.loop-part.patterns (option_copied r) c.next.follows.lender-at-none)
    c.in-Some.is c.next.follows.holds-at-none)

pub returns-then-branch : goal.returns-then-branch
returns-then-branch c =
    narrow_found passes_Q c.args.problem.now.ranking.net.now.net c.args.problem.now.ranking.sets.now c.args.problem.now.rate
    c.args.problem.now.ranking.base.now c.args.narrow.now.forced.now c.requires.problem.sets c.requires.forcing c.loop-part.patterns
    (c.loop-part.invariant.same ∙ c.requires.question)
    c.in-Some.part.now c.next.follows.lender-at-none (subst (λ r. Enumerates c.loop-part.patterns (option_copied r) c.next.follows.lender-at-none)
    c.in-Some.is c.next.follows.holds-at-none)
    c.args.problem.now.ranking.budget c.loop-part.vain c.sift_next.new.vain c.loop-part.invariant.vainly c.in-Some-found.thin
    (subst (λ (x : Pattern). SiftsNext passes_Q c.args.problem.now.ranking.net.now.net c.args.problem.now.ranking.sets.now c.args.problem.now.rate
    c.args.problem.now.ranking.budget x c.loop-part.vain c.sift_next.new.vain (Ok (Some c.in-Some-found.thin))) c.fill.ensures
    (subst (λ o. SiftsNext passes_Q c.args.problem.now.ranking.net.now.net c.args.problem.now.ranking.sets.now c.args.problem.now.rate
    c.args.problem.now.ranking.budget c.fill.new.pattern c.loop-part.vain c.sift_next.new.vain (Ok o)) c.in-Some-found.is c.in_ok-found.ensures))
    (subst (λ (x : Pattern). StandsWithin (question_in c.args.problem.now.ranking) x c.args.problem.now.ranking.budget true) c.fill.ensures
    (subst (λ b. StandsWithin (question_in c.args.problem.now.ranking) c.fill.new.pattern c.args.problem.now.ranking.budget b) c.if-branch.true c.in_ok-is_within.ensures))

pub returns-in-Some-found : goal.returns-in-Some-found
returns-in-Some-found c =
    narrow_beyond passes_Q c.args.problem.now.ranking.net.now.net c.args.problem.now.ranking.sets.now c.args.problem.now.rate
    c.args.problem.now.ranking.base.now c.args.narrow.now.forced.now c.requires.problem.sets c.requires.forcing c.loop-part.patterns
    (c.loop-part.invariant.same ∙ c.requires.question)
    c.in-Some.part.now c.next.follows.lender-at-none (subst (λ r. Enumerates c.loop-part.patterns (option_copied r) c.next.follows.lender-at-none)
    c.in-Some.is c.next.follows.holds-at-none)
    c.args.problem.now.ranking.budget c.loop-part.vain c.loop-part.vain c.loop-part.invariant.vainly
    (subst (λ (x : Pattern). StandsWithin (question_in c.args.problem.now.ranking) x c.args.problem.now.ranking.budget false) c.fill.ensures
    (subst (λ b. StandsWithin (question_in c.args.problem.now.ranking) c.fill.new.pattern c.args.problem.now.ranking.budget b) c.if-branch.false c.in_ok-is_within.ensures))

pub loop-part-preserved : goal.loop-part-preserved
loop-part-preserved c =
    let t = subst (λ (x : Pattern). SiftsNext passes_Q c.args.problem.now.ranking.net.now.net c.args.problem.now.ranking.sets.now c.args.problem.now.rate
    c.args.problem.now.ranking.budget x c.loop-part.vain c.sift_next.new.vain (Ok None)) c.fill.ensures
    (subst (λ o. SiftsNext passes_Q c.args.problem.now.ranking.net.now.net c.args.problem.now.ranking.sets.now c.args.problem.now.rate
    c.args.problem.now.ranking.budget c.fill.new.pattern c.loop-part.vain c.sift_next.new.vain (Ok o)) c.in_default-found.is c.in_ok-found.ensures) in
    let gives = (subst (λ r. Enumerates c.loop-part.patterns (option_copied r) c.next.follows.lender-at-none) c.in-Some.is c.next.follows.holds-at-none) in
    record {
      same = ap (λ (g : Given). g.question) gives.1 ∙ c.loop-part.invariant.same;
      count = ap (λ (l : List (Option State)). length l) c.fill.ensures ∙ whole_count passes_Q c.args.problem.now.ranking.net.now.net
          c.args.problem.now.ranking.sets.now c.args.problem.now.rate c.args.problem.now.ranking.base.now c.args.narrow.now.forced.now
          c.requires.problem.sets c.requires.forcing c.loop-part.patterns (c.loop-part.invariant.same ∙ c.requires.question)
          c.in-Some.part.now c.next.follows.lender-at-none (subst (λ r. Enumerates c.loop-part.patterns (option_copied r) c.next.follows.lender-at-none)
          c.in-Some.is c.next.follows.holds-at-none);
      within = (let less = t.0 in let one = t.1.one_more in omega arith);
      in_step = next_kept passes_Q c.args.problem.now.ranking.net.now.net c.args.problem.now.ranking.sets.now c.args.problem.now.rate
          c.args.problem.now.ranking.base.now c.args.narrow.now.forced.now c.requires.problem.sets c.requires.forcing c.loop-part.patterns
          (c.loop-part.invariant.same ∙ c.requires.question)
          c.in-Some.part.now c.next.follows.lender-at-none (subst (λ r. Enumerates c.loop-part.patterns (option_copied r) c.next.follows.lender-at-none)
          c.in-Some.is c.next.follows.holds-at-none)
          c.keep_up.new.self (subst (λ (x : Pattern). IsInStep (question_in c.args.problem.now.ranking) c.keep_up.new.self x) c.fill.ensures
          (c.in_ok-standing.ensures.in_step c.if-is_beyond.ensures));
      vainly = narrow_on passes_Q c.args.problem.now.ranking.net.now.net c.args.problem.now.ranking.sets.now c.args.problem.now.rate
          c.args.problem.now.ranking.base.now c.args.narrow.now.forced.now c.requires.problem.sets c.requires.forcing c.loop-part.patterns
          (c.loop-part.invariant.same ∙ c.requires.question)
          c.in-Some.part.now c.next.follows.lender-at-none (subst (λ r. Enumerates c.loop-part.patterns (option_copied r) c.next.follows.lender-at-none)
          c.in-Some.is c.next.follows.holds-at-none)
          c.args.problem.now.ranking.budget c.loop-part.vain c.sift_next.new.vain c.loop-part.invariant.vainly t;
    }
