use Rattle.nf_quick_laws.proofs.Bound.{delivered-le}
use Rattle.nf_quick_laws.proofs.cuts_bound_flows.Goals as goal

pub returns : goal.returns
returns c = λ net entered left time cut good feasible is_cut. delivered-le net entered left time cut good feasible is_cut
