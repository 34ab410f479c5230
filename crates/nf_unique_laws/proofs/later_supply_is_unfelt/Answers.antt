use Rattle.nf_unique_laws.proofs.Supplies.{labels-alike, queues-alike, pieces-alike}
use Rattle.nf_unique_laws.proofs.later_supply_is_unfelt.Goals as goal

pub returns : goal.returns
returns c = record {
  labels = λ net pieces until one other good are alike p q v departure h w x y. labels-alike net pieces until one other good are alike p q departure w x y v h;
  queues = λ net pieces until one other good are alike p q e link departure time is w x y k. queues-alike net pieces until one other good are alike p q departure w x y e link time is k;
  pieces = λ front back others until h k time w. pieces-alike front back others until h k time w;
}
