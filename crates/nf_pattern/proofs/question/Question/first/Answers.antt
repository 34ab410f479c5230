use Rattle.nf_pattern.proofs.Seeking.{match_start}
use Rattle.nf_pattern.proofs.question.Question.first.Goals as goal

pub seek-requires : goal.seek-requires
seek-requires c = record { placed = c.requires.placed }

pub returns-clause-placed : goal.returns-clause-placed
returns-clause-placed c = c.seek.ensures.placed

pub returns-clause-found : goal.returns-clause-found
returns-clause-found c = match_start c.args.self.now c.requires.placed.is_question c.args.states.now c.requires.base c.seek.new.states c.seek.result c.seek.ensures.found
