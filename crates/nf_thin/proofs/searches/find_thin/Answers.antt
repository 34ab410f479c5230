use Rattle.std.proofs.Common.{arith}
use Rattle.nf_thin.proofs.Common.{passes_Q}
use Rattle.nf_thin.proofs.FoundThin.{flow_is_thin, flow_is_only}
use Rattle.nf_thin.proofs.searches.find_thin.Goals as goal

pub find_or_search-requires : goal.find_or_search-requires
find_or_search-requires c = record { named = c.recall.ensures; sets = c.requires.sets; base = c.requires.base; budget = (let f = c.ranges.budget.fits in omega arith) }

pub returns-clause-thin : goal.returns-clause-thin
returns-clause-thin c =
    flow_is_thin passes_Q c.args.net.now.net c.args.sets.now c.args.rate c.args.base.now c.args.budget c.recall.ensures.network c.requires.sets
    c.find_or_search.result c.find_or_search.ensures

pub returns-clause-only : goal.returns-clause-only
returns-clause-only c =
    flow_is_only passes_Q c.args.net.now.net c.args.sets.now c.args.rate c.args.base.now c.args.budget c.recall.ensures.network c.requires.sets
    c.find_or_search.result c.find_or_search.ensures
