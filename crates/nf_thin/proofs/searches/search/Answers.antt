use Rattle.std.proofs.Common.{arith}
use Rattle.nf_thin.proofs.Common.{passes_Q}
use Rattle.nf_thin.proofs.FoundThin.{found_is_thin, found_is_only}
use Rattle.nf_thin.proofs.searches.search.Goals as goal

pub search_all-requires : goal.search_all-requires
search_all-requires c = record { named = c.recall.ensures; sets = c.requires.sets; base = c.requires.base; budget = (let f = c.ranges.budget.fits in omega arith) }

pub returns-clause-thin : goal.returns-clause-thin
returns-clause-thin c =
    found_is_thin passes_Q c.args.net.now.net c.args.sets.now c.args.rate c.args.base.now c.args.budget c.recall.ensures.network c.requires.sets
    c.in_ok-found.place c.in_ok-found.found.pattern c.in_ok-found.found.flows.items c.in_ok-found.found.slopes.items c.in_ok-found.ensures

pub returns-clause-only : goal.returns-clause-only
returns-clause-only c =
    found_is_only passes_Q c.args.net.now.net c.args.sets.now c.args.rate c.args.base.now c.args.budget c.recall.ensures.network c.requires.sets
    c.in_ok-found.place c.in_ok-found.found.pattern c.in_ok-found.found.flows.items c.in_ok-found.found.slopes.items c.in_ok-found.ensures
