-- The files of each request, the network that it makes, and the bounds of its run.
use Rattle.std.specs.Prelude.{ℕ, List, [], ◌∷◌, Option, Some, None, slice_get, IfSome}
use Rattle.nf_rational.specs.Rational.{ℚ}
use Rattle.nf_net_def.specs.Named.{Named}
use Rattle.nf_thin_def.specs.PhaseRun.{Bounds}
use Rattle.nf_gen.specs.Ladder.{ladder}
use Rattle.nf_phase.specs.declared.solution.Budgets.{Budgets}
use Rattle.nf_phase.specs.Solution.{bounds_of}
use Rattle.nf_app_words.specs.Numbers.{usual_phases, usual_patterns}
use Rattle.nf_app_words.specs.Requests.{Request, Solve, SolveForever, Show, Load, Check, Quick, Gen, Settle, Resume, Routes}
use Rattle.nf_app_files.specs.Files.{Wanted, Visit, input_file, report_file}
use Rattle.nf_app_files.specs.Fetching.{IsLastText}

-- the files that are wanted, in the order in which they are fetched; the first is the network's
abbrev pub files_of : Request → List Wanted
files_of (Solve file horizon phases patterns) = input_file file ∷ []
files_of (SolveForever file phases patterns) = input_file file ∷ []
files_of (Show file) = input_file file ∷ []
files_of (Load file loads horizon) = input_file file ∷ input_file loads ∷ []
files_of (Check file report) = input_file file ∷ report_file report ∷ []
files_of (Quick file amount augments) = input_file file ∷ []
files_of (Gen number rungs horizon phases patterns) = []
files_of (Settle file flows) = input_file file ∷ input_file flows ∷ []
files_of (Resume file report horizon phases patterns) = input_file file ∷ report_file report ∷ []
files_of (Routes file routes horizon) = input_file file ∷ input_file routes ∷ []

-- the network's file, if one is wanted
abbrev pub network_file : Request → Option Wanted
network_file request = slice_get (files_of request) 0

-- the file that is wanted beside the network's, if there is one
abbrev pub other_of : Request → Option Wanted
other_of request = slice_get (files_of request) 1

-- the text is the second file's bytes: as many as the shelf read, and just the known ones, if they are known
abbrev pub OtherIsText : Visit → Request → List ℕ → Type 0
OtherIsText shelf request text = IfSome (other_of request) (λ file. IsLastText shelf file text)

-- the network that is generated for a request, where none is read
abbrev pub generated_by : Request → Option Named
generated_by (Solve file horizon phases patterns) = None
generated_by (SolveForever file phases patterns) = None
generated_by (Show file) = None
generated_by (Load file loads horizon) = None
generated_by (Check file report) = None
generated_by (Quick file amount augments) = None
generated_by (Gen number rungs horizon phases patterns) = Some (ladder number rungs)
generated_by (Settle file flows) = None
generated_by (Resume file report horizon phases patterns) = None
generated_by (Routes file routes horizon) = None

-- ---- the bounds of a run
abbrev pub budgets_of : ℕ → ℕ → Budgets
budgets_of phases patterns = record { phases = phases; patterns = patterns }

abbrev pub usual_budgets : Budgets
usual_budgets = budgets_of usual_phases usual_patterns

abbrev pub bounds_to : ℚ → ℕ → ℕ → Bounds
bounds_to horizon phases patterns = bounds_of horizon (budgets_of phases patterns)
