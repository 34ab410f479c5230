use Rattle.std.proofs.Common.{rules}
use Rattle.nf_thin_def.specs.Slack.{slack_of}
use Rattle.nf_sets.proofs.slack.Goals as goal

pub returns : goal.returns
unfolding slack_of
returns c = search rules

pub returns-2 : goal.returns-2
unfolding slack_of
returns-2 c = search rules
