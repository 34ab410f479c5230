use Rattle.std.proofs.Common.{sym, ◌∙◌, add-one, arith}
use Rattle.nf_thin.proofs.Common.{none-some, passes_Q, posed_pattern}
use Rattle.nf_thin.proofs.FoundThin.{found_known}
use Rattle.nf_thin.proofs.Refusing.{scaled_at, tried_counts}
use Rattle.nf_thin.proofs.sifting.sift_next.Goals as goal

pub ruled_out_at-requires-clause-sets : goal.ruled_out_at-requires-clause-sets
ruled_out_at-requires-clause-sets c = c.requires.problem.sets.sets_are.count

pub ruled_out_at-requires-clause-scaled : goal.ruled_out_at-requires-clause-scaled
ruled_out_at-requires-clause-scaled c = c.requires.guide.scaled.count

pub ruled_out_at-requires-clause-states : goal.ruled_out_at-requires-clause-states
ruled_out_at-requires-clause-states c = c.requires.listed.states.count ∙ c.requires.problem.sets.sets_are.count

pub is_one_pattern-requires-clause-one : goal.is_one_pattern-requires-clause-one
is_one_pattern-requires-clause-one c = c.requires.guide.known.states

pub is_one_pattern-requires-clause-other : goal.is_one_pattern-requires-clause-other
is_one_pattern-requires-clause-other c = c.requires.listed.states.count ∙ c.requires.problem.sets.sets_are.count

pub try_next-requires-clause-pattern : goal.try_next-requires-clause-pattern
try_next-requires-clause-pattern c = posed_pattern c.args.problem.now.ranking c.requires.problem c.args.pattern.now c.requires.listed.states

pub returns-then-is_one_pattern : goal.returns-then-is_one_pattern
returns-then-is_one_pattern c = (
  let n = c.if-vain-budget.false in let w = c.requires.within in omega arith,
  found_known passes_Q c.args.problem.now.ranking.net.now.net c.args.problem.now.ranking.sets.now c.args.problem.now.rate c.args.guide.now.known
      c.args.pattern.now c.args.vain.now _ c.in_ok-found.found
      c.requires.guide.known c.in_ok-found.ensures (c.is_one_pattern.ensures c.if-is_one_pattern.true) (add-one c.args.vain.now.tried),
)

pub returns-in_default : goal.returns-in_default
returns-in_default c =
    tried_counts passes_Q c.args.problem.now.ranking.net.now.net c.args.problem.now.ranking.sets.now c.args.problem.now.rate
    c.args.problem.now.ranking.budget c.args.pattern.now c.args.vain.now c.try_next.new.vain c.try_next.result c.try_next.ensures

pub returns : goal.returns
returns c = (
  let n = c.if-vain-budget.false in let w = c.requires.within in omega arith,
  record {
    one_more = add-one c.args.vain.now.tried;
    not_accepted = λ accepted. none-some c.in-Some.node (sym (c.in_ok-node.ensures c.args.problem.now.rate accepted.solvable.slopes accepted.solvable.flows
        (scaled_at c.args.problem.now.ranking.net.now.net c.args.problem.now.ranking.sets.now c.args.problem.now.rate c.args.pattern.now c.requires.listed
        accepted.solvable c.args.guide.now.scaled c.args.guide.now.known.slopes.items
        c.requires.guide.slopes c.requires.guide.scaled)
        accepted.solvable.solution.solves accepted.solvable.solution.meets)
        ∙ c.in-Some.is);
  },
)
