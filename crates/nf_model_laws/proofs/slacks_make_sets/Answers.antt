use Rattle.nf_model_laws.proofs.Slacks.{active_of_slack, slack_of_active, resetting_of_slack, slack_of_resetting, slack_after-moved}
use Rattle.nf_model_laws.proofs.slacks_make_sets.Goals as goal

pub returns : goal.returns
returns c = record {
  active = λ net labels e link p. (slack_of_active net labels e link p, active_of_slack net labels e link p);
  resetting = λ net labels e link p. (slack_of_resetting net labels e link p, resetting_of_slack net labels e link p);
  moves = slack_after-moved;
}
