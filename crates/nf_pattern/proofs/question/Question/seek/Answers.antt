use Rattle.std.proofs.Common.{subst, sym}
use Rattle.nf_pattern.proofs.Common.{Pattern, IsAssignment, IsTrailOf}
use Rattle.nf_pattern.proofs.Seeking.{sought_first, sought_found, sought_more, sought_none, step_fewer}
use Rattle.nf_pattern.proofs.question.Question.seek.Goals as goal

pub loop-same-init : goal.loop-same-init
loop-same-init c = record {
  sought = sought_first c.args.self.now c.requires.placed.is_question c.args.states.now c.requires.placed.assigned;
  trail = c.requires.placed.on_trail;
  quiet = c.requires.placed.is_quiet;
}

pub failing-requires-clause-assigned : goal.failing-requires-clause-assigned
failing-requires-clause-assigned c = c.loop-same.invariant.sought.assigned

pub advance-requires-clause-assigned : goal.advance-requires-clause-assigned
advance-requires-clause-assigned c = c.loop-same.invariant.sought.assigned

pub returns-in_default-advance-clause-found : goal.returns-in_default-advance-clause-found
returns-in_default-advance-clause-found c =
    sought_none c.args.self.now c.requires.placed.is_question c.args.states.now c.loop-same.states c.loop-same.invariant.sought c.in-Some.same
    c.in-Some.ensures.found.1 c.in_default-advance.ensures.found.0

pub loop-same-smaller : goal.loop-same-smaller
loop-same-smaller c =
    step_fewer c.args.self.now c.requires.placed.is_question c.in-Some.same c.loop-same.states c.advance.new.states c.loop-same.invariant.sought.assigned
    c.in-Some-advance.ensures.found.0

pub loop-same-preserved : goal.loop-same-preserved
loop-same-preserved c = record {
  sought =
      sought_more c.args.self.now c.requires.placed.is_question c.args.states.now c.loop-same.states c.loop-same.invariant.sought c.in-Some.same
      c.in-Some.ensures.found.1 c.advance.new.states c.in-Some-advance.ensures.found.0;
  trail = c.retreat.ensures c.loop-same.states c.advance.new.states c.in-Some.ensures.trail c.loop-same.invariant.sought.assigned c.in-Some-advance.ensures.found.1.1;
  quiet = c.in-Some-advance.ensures.quiet;
}

pub returns-clause-placed : goal.returns-clause-placed
returns-clause-placed c = record {
  is_question = c.requires.placed.is_question;
  assigned = c.loop-same.invariant.sought.assigned;
  on_trail = c.in_default.ensures.trail;
  is_quiet = c.loop-same.invariant.quiet;
}

pub returns-clause-found : goal.returns-clause-found
returns-clause-found c = sought_found c.args.self.now c.requires.placed.is_question c.args.states.now c.loop-same.states c.loop-same.invariant.sought c.in_default.ensures.found

pub returns-in_default-advance-clause-placed : goal.returns-in_default-advance-clause-placed
returns-in_default-advance-clause-placed c = record {
  is_question = c.requires.placed.is_question;
  assigned = subst (λ (x : Pattern). IsAssignment c.args.self.now.base c.args.self.now.unbounded x) (sym c.in_default-advance.ensures.found.1) c.loop-same.invariant.sought.assigned;
  on_trail = subst (λ (x : Pattern). IsTrailOf c.args.self.now x c.failing.new.trail) (sym c.in_default-advance.ensures.found.1) c.in-Some.ensures.trail;
  is_quiet = c.in_default-advance.ensures.quiet;
}

pub failing-requires-clause-question : goal.failing-requires-clause-question
failing-requires-clause-question c = c.requires.placed.is_question

pub retreat-requires : goal.retreat-requires
retreat-requires c = record { left = (c.loop-same.states, c.loop-same.invariant.sought.assigned, c.in-Some.ensures.trail) }
