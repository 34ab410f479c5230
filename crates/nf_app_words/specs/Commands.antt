-- The commands, with their files and options.
use Rattle.std.specs.Prelude.{ℕ, Bool, true, false, not, ◌&&◌, ◌==◌, List, [], ◌∷◌, length, Option, Some, None, is_some, option_map, find, codes}
use Rattle.std.specs.List.{list_all}
use Rattle.std.specs.Option.{option_map_or}
use Rattle.std.specs.Str.{bytes_eq}
use Rattle.clap.specs.Walk.{Text, Row}
use Rattle.nf_app_words.specs.declared.commands.Task.{Task}
use Rattle.nf_app_words.specs.declared.commands.Task.TheVariants.{Solve, SolveForever, Show, Load, Check, Quick, Gen, Settle, Resume, Routes}
use Rattle.nf_app_words.specs.declared.commands.Need.{Need}
use Rattle.nf_app_words.specs.declared.commands.Need.TheVariants.{Required, Further}
use Rattle.nf_app_words.specs.CommandLine.{options, word_in, files_in}

-- A row of the table of commands: name, action, number of files, and the options and flags with their needs.
pub record CommandRow : Type 0 where
  pub name : Text
  pub task : Task
  pub files : ℕ
  pub options : List (Text × Need)

-- the options for the budgets of a run
abbrev pub budgets : List (Text × Need)
budgets = (codes "phases", Further) ∷ (codes "patterns", Further) ∷ []

-- The table of commands. `solve` takes either a horizon or the flag `--forever`.
unfoldable pub commands : List CommandRow
commands =
    record { name = codes "solve"; task = Solve; files = 1; options = (codes "horizon", Required) ∷ budgets }
    ∷ record { name = codes "solve"; task = SolveForever; files = 1; options = (codes "forever", Required) ∷ budgets }
    ∷ record { name = codes "show"; task = Show; files = 1; options = [] }
    ∷ record { name = codes "load"; task = Load; files = 2; options = (codes "horizon", Required) ∷ [] }
    ∷ record { name = codes "check"; task = Check; files = 2; options = [] }
    ∷ record { name = codes "quick"; task = Quick; files = 1; options = (codes "amount", Required) ∷ (codes "augments", Further) ∷ [] }
    ∷ record {
      name = codes "gen";
      task = Gen;
      files = 0;
      options = (codes "number", Required) ∷ (codes "rungs", Required) ∷ (codes "horizon", Required) ∷ budgets;
    }
    ∷ record { name = codes "settle"; task = Settle; files = 2; options = [] }
    ∷ record { name = codes "resume"; task = Resume; files = 2; options = (codes "horizon", Required) ∷ budgets }
    ∷ record { name = codes "routes"; task = Routes; files = 2; options = (codes "horizon", Required) ∷ [] }
    ∷ []

-- the words give the option
unfoldable pub is_there : Text → List Row → Bool
is_there name rows = is_some (word_in name rows)

-- the words give the flag: clap then stores the word `true` for it, and otherwise `false`
unfoldable pub is_flagged : Text → List Row → Bool
is_flagged name rows = option_map_or (λ word. bytes_eq word (codes "true")) (word_in name rows) false

-- the need of an option that the command has
abbrev pub need_of : List (Text × Need) → Text → Option Need
need_of wanted name = option_map (λ option. option.1) (find (λ option. bytes_eq option.0 name) wanted)

-- an option that is given or omitted agrees with its need; without a need it must be omitted
abbrev pub is_met : Option Need → Bool → Bool
is_met (Some Required) there = there
is_met (Some Further) there = true
is_met None there = not there

-- each of the named options agrees with its need
abbrev pub are_met : List (Text × Need) → List Row → List Text → Bool
are_met wanted rows names = list_all (λ name. is_met (need_of wanted name) (is_there name rows)) names

-- The number of files agrees, each required option is given, and no option is given that the command does not have.
unfoldable pub fits : CommandRow → List Row → Bool
fits line rows =
    length (files_in rows) == line.files
    && are_met line.options rows options
    && is_met (need_of line.options (codes "forever")) (is_flagged (codes "forever") rows)

-- the word of COMMAND is `name`
unfoldable pub is_named : Text → List Row → Bool
is_named name rows = option_map_or (λ word. bytes_eq word name) (word_in (codes "command") rows) false

-- the action of the first row that the words name and fit
abbrev pub first_task : List Row → List CommandRow → Option Task
first_task rows table = option_map (λ line. line.task) (find (λ line. is_named line.name rows && fits line rows) table)
