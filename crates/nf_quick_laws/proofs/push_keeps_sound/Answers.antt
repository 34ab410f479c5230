use Rattle.nf_quick_laws.proofs.NewSteps.{IsSound-pushed, flow_value-pushed, cost_of-pushed, later-pushed, back-pushed}
use Rattle.nf_quick_laws.proofs.push_keeps_sound.Goals as goal

pub returns : goal.returns
returns c = record {
  sound = λ net flows new walk amount good p. IsSound-pushed net flows new walk amount good p.sound p.each p.first p.some p.room p.pushed;
  value = λ net flows new walk amount good p. flow_value-pushed net flows new walk amount good p.sound p.each p.first p.some p.room p.pushed;
  cost = λ net flows new walk amount good p. cost_of-pushed net flows new walk amount good p.sound p.each p.first p.some p.room p.pushed;
  later = λ net flows new walk other amount good p. later-pushed net flows new walk amount good p.sound p.each p.first p.some p.room p.pushed other;
  back = λ net flows new walk other amount good p. back-pushed net flows new walk amount good p.sound p.each p.first p.some p.room p.pushed other;
}
