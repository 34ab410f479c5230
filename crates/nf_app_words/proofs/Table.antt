-- Traversal of tables, entry by entry: commands, and the options of one command.
use Rattle.std.proofs.Common.{Bool, List, map, Option}
use Rattle.nf_app_words.proofs.Common.{Bor, Text, Row, Task, are_met, first_task, need_of, line_of, wanted_of}
use Rattle.nf_app_words.specs.declared.commands.Line.{Line}
use Rattle.nf_app_words.specs.declared.commands.Need.{Need}

module _ (rows : List Row) where
  -- the values of a table's rows
  abbrev pub task_of : List Line → Option Task
  task_of table = first_task rows (map line_of table)

  -- whether options agree with their needs
  abbrev pub all_met : List (Bor Text × Need) → List (Bor Text) → Bool
  all_met wanted names = are_met (map wanted_of wanted) rows (map (λ name. name.now) names)

-- the need of an option
abbrev pub need_in : Text → List (Bor Text × Need) → Option Need
need_in name options = need_of (map wanted_of options) name
