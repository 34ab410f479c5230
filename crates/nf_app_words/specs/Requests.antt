-- The requests of the command line.
use Rattle.std.specs.Prelude.{ℕ, ◌≤◌, List, Option, Some, None, option_map, option_and_then, codes}
use Rattle.clap.specs.Walk.{Text, Row}
use Rattle.nf_rational.specs.Rational.{ℚ}
use Rattle.nf_rational.specs.Operations.{0ℚ}
use Rattle.nf_rational.specs.Order.{◌≤ℚ◌}
use Rattle.nf_app_words.specs.declared.commands.Task.{Task}
use Rattle.nf_app_words.specs.declared.commands.Task.TheVariants as task
use Rattle.nf_app_words.specs.CommandLine.{matches_on, file_in}
use Rattle.nf_app_words.specs.Numbers.{not_negative_in, count_in, usual_or_count_in, usual_phases, most_phases, usual_patterns, most_patterns, usual_augments, most_augments, most_number, most_rungs}
use Rattle.nf_app_words.specs.Commands.{commands, first_task}

-- A request. `file` names the network's file, and the second file has the name of its kind. `phases` and `patterns` are budgets: of a run,
-- and of the search in each of its phases. `augments` is the budget of pushed walks.
pub data Request : Type 0 where
  Solve : (file : Text) (horizon : ℚ) (phases patterns : ℕ) → Request
  SolveForever : (file : Text) (phases patterns : ℕ) → Request
  Show : (file : Text) → Request
  Load : (file loads : Text) (horizon : ℚ) → Request
  Check : (file report : Text) → Request
  Quick : (file : Text) (amount : ℚ) (augments : ℕ) → Request
  Gen : (number rungs : ℕ) (horizon : ℚ) (phases patterns : ℕ) → Request
  Settle : (file flows : Text) → Request
  Resume : (file report : Text) (horizon : ℚ) (phases patterns : ℕ) → Request
  Routes : (file routes : Text) (horizon : ℚ) → Request

-- A horizon and an amount are at least 0. Phases, patterns, pushed walks and rungs are at least 1 and at most their limit.
abbrev pub IsCountWithin : ℕ → ℕ → Type 0
IsCountWithin most count = (1 ≤ count) × (count ≤ most)

abbrev pub CanBeAsked : Request → Type 0
CanBeAsked (Solve file horizon phases patterns) = (0ℚ ≤ℚ horizon) × IsCountWithin most_phases phases × IsCountWithin most_patterns patterns
CanBeAsked (SolveForever file phases patterns) = IsCountWithin most_phases phases × IsCountWithin most_patterns patterns
CanBeAsked (Show file) = Unit {0}
CanBeAsked (Load file loads horizon) = 0ℚ ≤ℚ horizon
CanBeAsked (Check file report) = Unit {0}
CanBeAsked (Quick file amount augments) = (0ℚ ≤ℚ amount) × IsCountWithin most_augments augments
CanBeAsked (Gen number rungs horizon phases patterns) =
    (number ≤ most_number) × IsCountWithin most_rungs rungs × (0ℚ ≤ℚ horizon) × IsCountWithin most_phases phases × IsCountWithin most_patterns patterns
CanBeAsked (Settle file flows) = Unit {0}
CanBeAsked (Resume file report horizon phases patterns) = (0ℚ ≤ℚ horizon) × IsCountWithin most_phases phases × IsCountWithin most_patterns patterns
CanBeAsked (Routes file routes horizon) = 0ℚ ≤ℚ horizon

-- ---- the request of the files and numbers, if all are there
abbrev pub solve_request : Option Text → Option ℚ → Option ℕ → Option ℕ → Option Request
solve_request (Some file) (Some horizon) (Some phases) (Some patterns) = Some (Solve file horizon phases patterns)
solve_request file horizon phases patterns = None

abbrev pub forever_request : Option Text → Option ℕ → Option ℕ → Option Request
forever_request (Some file) (Some phases) (Some patterns) = Some (SolveForever file phases patterns)
forever_request file phases patterns = None

abbrev pub load_request : Option Text → Option Text → Option ℚ → Option Request
load_request (Some file) (Some loads) (Some horizon) = Some (Load file loads horizon)
load_request file loads horizon = None

abbrev pub check_request : Option Text → Option Text → Option Request
check_request (Some file) (Some report) = Some (Check file report)
check_request file report = None

abbrev pub quick_request : Option Text → Option ℚ → Option ℕ → Option Request
quick_request (Some file) (Some amount) (Some augments) = Some (Quick file amount augments)
quick_request file amount augments = None

abbrev pub gen_request : Option ℕ → Option ℕ → Option ℚ → Option ℕ → Option ℕ → Option Request
gen_request (Some number) (Some rungs) (Some horizon) (Some phases) (Some patterns) = Some (Gen number rungs horizon phases patterns)
gen_request number rungs horizon phases patterns = None

abbrev pub settle_request : Option Text → Option Text → Option Request
settle_request (Some file) (Some flows) = Some (Settle file flows)
settle_request file flows = None

abbrev pub resume_request : Option Text → Option Text → Option ℚ → Option ℕ → Option ℕ → Option Request
resume_request (Some file) (Some report) (Some horizon) (Some phases) (Some patterns) = Some (Resume file report horizon phases patterns)
resume_request file report horizon phases patterns = None

abbrev pub routes_request : Option Text → Option Text → Option ℚ → Option Request
routes_request (Some file) (Some routes) (Some horizon) = Some (Routes file routes horizon)
routes_request file routes horizon = None

-- ---- the request of a command, from its files and options
unfoldable pub horizon_in : List Row → Option ℚ
horizon_in rows = not_negative_in (codes "horizon") rows

unfoldable pub phases_in : List Row → Option ℕ
phases_in rows = usual_or_count_in usual_phases most_phases (codes "phases") rows

unfoldable pub patterns_in : List Row → Option ℕ
patterns_in rows = usual_or_count_in usual_patterns most_patterns (codes "patterns") rows

unfoldable pub amount_in : List Row → Option ℚ
amount_in rows = not_negative_in (codes "amount") rows

unfoldable pub augments_in : List Row → Option ℕ
augments_in rows = usual_or_count_in usual_augments most_augments (codes "augments") rows

unfoldable pub number_asked : List Row → Option ℕ
number_asked rows = count_in 0 most_number (codes "number") rows

unfoldable pub rungs_in : List Row → Option ℕ
rungs_in rows = count_in 1 most_rungs (codes "rungs") rows

abbrev pub asked : Task → List Row → Option Request
asked task.Solve rows = solve_request (file_in 0 rows) (horizon_in rows) (phases_in rows) (patterns_in rows)
asked task.SolveForever rows = forever_request (file_in 0 rows) (phases_in rows) (patterns_in rows)
asked task.Show rows = option_map (λ file. Show file) (file_in 0 rows)
asked task.Load rows = load_request (file_in 0 rows) (file_in 1 rows) (horizon_in rows)
asked task.Check rows = check_request (file_in 0 rows) (file_in 1 rows)
asked task.Quick rows = quick_request (file_in 0 rows) (amount_in rows) (augments_in rows)
asked task.Gen rows = gen_request (number_asked rows) (rungs_in rows) (horizon_in rows) (phases_in rows) (patterns_in rows)
asked task.Settle rows = settle_request (file_in 0 rows) (file_in 1 rows)
asked task.Resume rows = resume_request (file_in 0 rows) (file_in 1 rows) (horizon_in rows) (phases_in rows) (patterns_in rows)
asked task.Routes rows = routes_request (file_in 0 rows) (file_in 1 rows) (horizon_in rows)

-- the request of the command that fits, if its numbers are within their limits
abbrev pub request_in : List Row → Option Request
request_in rows = option_and_then (λ does. asked does rows) (first_task rows commands)

-- The request of the words, if clap accepts them. The first word is the program's name.
unfoldable pub request_of : List Text → Option Request
request_of words = option_and_then request_in (matches_on words)
