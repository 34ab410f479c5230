use Rattle.nf_pattern.proofs.question.Question.find.Goals as goal

pub first-requires-clause-base : goal.first-requires-clause-base
first-requires-clause-base c = c.requires.start c.in-Start.is

pub first-requires-clause-placed : goal.first-requires-clause-placed
first-requires-clause-placed c = c.requires.placed

pub returns-in-Start-clause-placed : goal.returns-in-Start-clause-placed
returns-in-Start-clause-placed c = c.first.ensures.placed

pub returns-in-Start-clause-found : goal.returns-in-Start-clause-found
returns-in-Start-clause-found c = rw c.in-Start.is c.first.ensures.found

pub after-requires : goal.after-requires
after-requires c = record { placed = c.requires.placed }

pub returns-in-Listed-clause-placed : goal.returns-in-Listed-clause-placed
returns-in-Listed-clause-placed c = c.after.ensures.placed

pub returns-in-Listed-clause-found : goal.returns-in-Listed-clause-found
returns-in-Listed-clause-found c = rw c.in-Listed.is c.after.ensures.found

pub returns-in-End-clause-placed : goal.returns-in-End-clause-placed
returns-in-End-clause-placed c = c.requires.placed

pub returns-in-End-clause-found : goal.returns-in-End-clause-found
returns-in-End-clause-found c = rw c.in-End.is (λ r listed later. later)
