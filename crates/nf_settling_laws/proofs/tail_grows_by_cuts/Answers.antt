use Rattle.nf_settling_laws.proofs.Tail.{GrowsLinearly-tail, TailGrows-run, TailGrows-forever}
use Rattle.nf_settling_laws.proofs.tail_grows_by_cuts.Goals as goal

pub returns : goal.returns
returns c = record {
  linear = λ passes net phases patterns last pattern tail good run. GrowsLinearly-tail passes net good phases patterns last pattern tail run;
  run = λ passes net phases patterns last pattern tail good run. TailGrows-run passes net good phases patterns last pattern tail run;
  told = λ passes net phases patterns forever good is. TailGrows-forever passes net good phases patterns forever is;
}
