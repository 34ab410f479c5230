-- Sets of links of an accepted network.
use Rattle.nf_complete.proofs.Common.{Sets, AreGoodSets}
use Rattle.nf_net_def.specs.Named.{Named}
use Rattle.nf_net_def.specs.WellNamed.{IsNamed}
use Rattle.nf_complete.specs.FitSets.{AreFitSets}

pub good_sets : (n : Named) (sets : Sets) → IsNamed n → AreFitSets n.net sets → AreGoodSets n.net sets
good_sets n sets named fit = record {
  network = named.network;
  sets_are = fit.sets_are;
  acyclic = fit.acyclic;
  bounded = fit.bounded;
}
