use Rattle.nf_quick_laws.proofs.Found.{IsFoundAt-list, EachHasLeast-sound}
use Rattle.nf_quick_laws.proofs.rounds_find_first_walks.Goals as goal

pub returns : goal.returns
returns c = record {
  found = λ passes net flows from known good inside closed e v. IsFoundAt-list net flows from good inside closed passes known e v;
  least = λ net flows from good inside closed. EachHasLeast-sound net flows from good inside closed;
}
