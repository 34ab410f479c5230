use Rattle.std.proofs.Common.{◌≡◌, drop}
use Rattle.nf_app_words.proofs.Common.{rows_in}
use Rattle.nf_app_words.proofs.Table.{task_of}
use Rattle.nf_app_words.proofs.commands.first_task.Given as goal

abbrev pub invariant-loop-line : goal.invariant-loop-line
invariant-loop-line l = task_of (rows_in l.matches) (drop l.line-index l.table) ≡ task_of (rows_in l.matches) l.table
