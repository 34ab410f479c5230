use Rattle.nf_unique_laws.proofs.Exits.{exits-same, waits-same}
use Rattle.nf_unique_laws.proofs.exits_are_unique.Goals as goal

pub returns : goal.returns
returns c = record {
  exits = λ net one other good p q e link time exit is w x. exits-same net good one other p q e link is time exit w x;
  waits = λ net one other good p q e link departure is v w. waits-same net good one other p q e link is departure v w;
}
