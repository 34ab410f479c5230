use Rattle.nf_load_laws.proofs.Loads.{links_loaded}
use Rattle.nf_load_laws.proofs.loads_are.Goals as goal

pub returns : goal.returns
returns c = λ passes net pieces last loaded good many each_is from_0 e.
    links_loaded passes last from_0 net.links pieces loaded many good.transits good.capacities each_is e
