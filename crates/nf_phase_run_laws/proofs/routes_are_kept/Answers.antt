use Rattle.nf_phase_run_laws.proofs.Carried.{routes_hold}
use Rattle.nf_phase_run_laws.proofs.Verdicts.{are_enough, none_breaks, never_answered}
use Rattle.nf_phase_run_laws.proofs.routes_are_kept.Goals as goal

pub returns : goal.returns
returns c = record {
  holds = λ net flow e given all h. routes_hold net flow given all e;
  enough = λ net flow given. are_enough net flow given;
  none_breaks = λ net flow e sides given all h. none_breaks net flow given e sides all h;
  never_answered = λ passes net flow rule subject time left right given e. never_answered net flow given passes rule subject time left right e;
}
