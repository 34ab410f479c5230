use Rattle.std.proofs.Common.{sym, ◌∙◌}
use Rattle.nf_routes_read.proofs.RouteNames.{no_name_text}
use Rattle.nf_routes_read.proofs.entry.name_of.Goals as goal
use Rattle.nf_routes_read.proofs.entry.name_of.Goals.{in_default-via-in-Ok+else-is_name, in_default-via-in_default}

pub returns-in_default : goal.returns-in_default
returns-in_default c = elim c.in_default.branch [
  | in_default-via-in-Ok+else-is_name w ↦ sym w.is_name.ensures ∙ w.if-is_name.false
  | in_default-via-in_default w ↦ no_name_text c.args.word.now w.in_default.ensures.cases.0
]
