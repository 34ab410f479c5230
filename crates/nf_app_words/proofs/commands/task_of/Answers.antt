use Rattle.std.proofs.Common.{◌≡◌, ◌∙◌, ap, map, rules}
use Rattle.nf_app_words.proofs.Common.{first_task, line_of, rows_in}
use Rattle.nf_app_words.specs.Commands.{commands}
use Rattle.nf_app_words.proofs.commands.task_of.Goals as goal

pub returns : goal.returns
unfolding commands
returns c =
    let table : map line_of c.as_slice.result.now ≡ commands = search rules in
    c.first_task.ensures ∙ ap (first_task (rows_in c.args.matches.now)) table
