use Rattle.std.proofs.Common.{length, subst, sym, arith}
use Rattle.nf_pattern.proofs.Common.{Pattern, IsAssignment, IsTrailOf}
use Rattle.nf_pattern.proofs.Choosing.{assigned_length}
use Rattle.nf_pattern.proofs.Seeking.{none_after, match_after}
use Rattle.nf_pattern.proofs.question.Question.after.Goals as goal

pub advance-requires-clause-same : goal.advance-requires-clause-same
advance-requires-clause-same c = let n = assigned_length c.args.self.now.base c.args.self.now.unbounded c.args.states.now c.requires.placed.assigned in omega arith

pub returns-in-None-clause-found : goal.returns-in-None-clause-found
returns-in-None-clause-found c = none_after c.args.self.now c.requires.placed.is_question c.args.states.now c.requires.placed.assigned (length c.args.states.now)
    (let n = assigned_length c.args.self.now.base c.args.self.now.unbounded c.args.states.now c.requires.placed.assigned in omega arith) c.in-None.ensures.found.0

pub returns-in-Some-clause-found : goal.returns-in-Some-clause-found
returns-in-Some-clause-found c =
    match_after c.args.self.now c.requires.placed.is_question c.args.states.now c.advance.new.states c.seek.new.states
    (length c.args.states.now) c.seek.result c.requires.placed.assigned
    (let n = assigned_length c.args.self.now.base c.args.self.now.unbounded c.args.states.now c.requires.placed.assigned in omega arith) c.in-Some.ensures.found.0 c.seek.ensures.found

pub retreat-requires : goal.retreat-requires
retreat-requires c = record { left = (c.args.states.now, c.requires.placed.assigned, c.requires.placed.on_trail) }

pub returns-in-None-clause-placed : goal.returns-in-None-clause-placed
returns-in-None-clause-placed c = record {
  is_question = c.requires.placed.is_question;
  assigned = subst (λ (x : Pattern). IsAssignment c.args.self.now.base c.args.self.now.unbounded x) (sym c.in-None.ensures.found.1) c.requires.placed.assigned;
  on_trail = subst (λ (x : Pattern). IsTrailOf c.args.self.now x c.args.trail.now) (sym c.in-None.ensures.found.1) c.requires.placed.on_trail;
  is_quiet = c.in-None.ensures.quiet;
}

pub seek-requires : goal.seek-requires
seek-requires c = record {
  placed = record {
    is_question = c.requires.placed.is_question;
    assigned = c.in-Some.ensures.found.0.assigned;
    on_trail = c.retreat.ensures c.args.states.now c.advance.new.states c.requires.placed.on_trail c.requires.placed.assigned c.in-Some.ensures.found.1.1;
    is_quiet = c.in-Some.ensures.quiet;
  };
}

pub returns-in-Some-clause-placed : goal.returns-in-Some-clause-placed
returns-in-Some-clause-placed c = c.seek.ensures.placed

pub advance-requires-clause-assigned : goal.advance-requires-clause-assigned
advance-requires-clause-assigned c = c.requires.placed.assigned

pub advance-requires-clause-quiet : goal.advance-requires-clause-quiet
advance-requires-clause-quiet c = c.requires.placed.is_quiet
