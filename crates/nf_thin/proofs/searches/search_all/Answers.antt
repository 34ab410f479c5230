use Rattle.nf_thin.proofs.searches.search_all.Goals as goal

pub go_through-requires-clause-question : goal.go_through-requires-clause-question
go_through-requires-clause-question c = c.in_ok-patterns.ensures.asked

pub go_through-requires-clause-base : goal.go_through-requires-clause-base
go_through-requires-clause-base c = c.in_ok-patterns.ensures.base
