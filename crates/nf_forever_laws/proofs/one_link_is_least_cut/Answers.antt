use Rattle.nf_forever_laws.proofs.Cuts.{IsLeastCapacity-one_link, no_cut-one_link}
use Rattle.nf_forever_laws.proofs.one_link_is_least_cut.Goals as goal

pub returns : goal.returns
returns c = record {
  bounded = λ transit capacity pieces. IsLeastCapacity-one_link transit pieces capacity;
  unbounded = λ transit pieces cut is. no_cut-one_link transit pieces cut is;
}
