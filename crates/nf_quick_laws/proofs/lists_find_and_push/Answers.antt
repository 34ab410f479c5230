use Rattle.nf_quick_laws.proofs.Lists.{IsShortest-list, AreLeastLengths-list}
use Rattle.nf_quick_laws.proofs.Pushes.{IsPush-list}
use Rattle.nf_quick_laws.proofs.lists_find_and_push.Goals as goal

pub returns : goal.returns
returns c = record {
  shortest = λ passes net flows found good sound limited e. IsShortest-list passes net flows good sound.closed limited found e;
  distances = λ passes net flows from distances good sound inside e. AreLeastLengths-list passes net flows good sound.closed from inside distances e;
  pushes = λ passes net flows new walk amount good sound shortest some within e. IsPush-list passes net flows new walk amount good sound shortest some within e;
}
