use Rattle.nf_forever_laws.proofs.Least.{GrowsByLeastCut-cuts}
use Rattle.nf_forever_laws.proofs.growth_is_by_least_cut.Goals as goal

pub returns : goal.returns
returns c = λ net rate slopes good grows. GrowsByLeastCut-cuts net rate slopes good grows
