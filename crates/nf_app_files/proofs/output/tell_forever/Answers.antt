use Rattle.std.proofs.Common.{◌∙◌, sym}
use Rattle.std.specs.Option.{option_copied}
use Rattle.nf_app_files.proofs.Statuses.{events, no_events}
use Rattle.nf_app_files.proofs.output.tell_forever.Goals as goal

pub returns-in-Phases-clause-status : goal.returns-in-Phases-clause-status
returns-in-Phases-clause-status g c = events (option_copied c.args.stop) (sym c.in-Phases.is ∙ c.tell_stop.ensures.status)

pub returns-in_default-clause-status : goal.returns-in_default-clause-status
returns-in_default-clause-status g c = no_events (option_copied c.args.stop) _ c.tell_stop.ensures.status c.in_default.not-Phases
