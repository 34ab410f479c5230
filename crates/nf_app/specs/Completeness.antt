-- How a call ends whose files are known, within their limits and well formed.
use Rattle.std.specs.Prelude.{◌≡◌, ◌≢◌, ℕ, List, [], ◌∷◌, Option, Some, None, IsSome, IsOk, Ok}
use Rattle.nf_rational.specs.Rational.{ℚ}
use Rattle.nf_rational.specs.Order.{◌≤ℚ◌}
use Rattle.nf_frac_def.specs.Passing.{passes_Q}
use Rattle.nf_frac_def.specs.declared.PassedAt.{PassedAt}
use Rattle.nf_model.specs.Equilibrium.{Equilibrium}
use Rattle.nf_net_def.specs.declared.Cause.{Cause}
use Rattle.nf_net_def.specs.Named.{Named}
use Rattle.nf_net_def.specs.Report.{Report}
use Rattle.nf_thin_def.specs.PhaseRun.{Bounds, IsRunReport}
use Rattle.nf_report_def.specs.LoadsFile.{loads_in}
use Rattle.nf_report_def.specs.ReportFile.{report_in}
use Rattle.nf_phase.specs.declared.solution.Budgets.{Budgets}
use Rattle.nf_phase.specs.Solution.{bounds_of}
use Rattle.nf_complete_def.specs.FlowsFile.{flows_in}
use Rattle.nf_forever_def.specs.ForeverRun.{Forever, IsForever}
use Rattle.nf_resume_def.specs.Meanings.{IsResumedReport}
use Rattle.nf_routes_def.specs.RoutesFile.{NamedRoute, ReadsRoutes}
use Rattle.nf_app_answers.specs.declared.status.Status.{Status}
use Rattle.nf_app_words.specs.Requests.{Request, Solve, SolveForever, Show, Load, Check, Quick, Gen, Settle, Resume, Routes}
use Rattle.nf_app.specs.Requests.{generated_by, budgets_of, bounds_to}
use Rattle.nf_app.specs.Refused.{LoadPasses, CheckPasses, RoutesPasses, PassesQuick, SettlePasses, ResumePasses}
use Rattle.nf_app.specs.Told.{Texts, second_bytes, AreTold, BothFit, NetworkIs}
use Rattle.nf_app.specs.Runs.{Call, Run, Asks, NoFault, IsOneOf}

-- ---- runs
-- The phase run of a network, within the budgets, reaches the horizon.
pub record ReachesHorizon (n : Named) (horizon : ℚ) (budgets : Budgets) : Type 0 where
  pub report : Report
  pub is_report : IsRunReport passes_Q n.net (bounds_of horizon budgets) report
  pub no_stop : report.stop ≡ None

-- The run of a network without a horizon, within the budgets, has a tail.
pub record GoesOnForever (n : Named) (phases patterns : ℕ) : Type 0 where
  pub forever : Forever
  pub is_run : IsForever passes_Q n.net phases patterns forever
  pub has_tail : IsSome forever.tail

-- No run that continues the report stops because an operation exceeds the bound.
abbrev pub NeverPasses : Named → Bounds → Report → Type 0
NeverPasses n bounds old = (new : Report) (made phase : ℕ) (place : Option ℕ) (at : PassedAt ℚ)
    → IsResumedReport passes_Q n.net bounds old made new → new.stop ≢ Some (Cause.Passed phase place at)

-- The text is a report whose flow is an equilibrium that isn't beyond the horizon. No operation exceeds the bound, neither when the report
-- is resumed nor in a run that continues it.
pub record CanGoOnFrom (n : Named) (text : List ℕ) (bounds : Bounds) : Type 0 where
  pub old : Report
  pub reads : report_in n text ≡ Ok old
  pub not_earlier : old.flow.reached ≤ℚ bounds.horizon
  pub equilibrium : Equilibrium n.net old.flow
  pub fits : (at : PassedAt ℚ) → ¬ ResumePasses n text bounds.horizon at
  pub never_passes : NeverPasses n bounds old

-- ---- the commands
-- How a command ends with its network and the bytes of its second file. Allocation failure comes beside.
pub record Endings : Type 1 where
  -- the second file, if there is one, is well formed
  pub second_reads : Type 0
  -- then the status is one of these
  pub may : List Status
  -- nothing hinders the command
  pub unhindered : Type 0
  -- then the status is one of these
  pub best : List Status

abbrev pub endings : Named → List ℕ → Request → Endings
endings n text (Solve file horizon phases patterns) = record {
  second_reads = Unit {0};
  may = Status.Ok ∷ Status.Phases ∷ Status.Patterns ∷ Status.Passed ∷ [];
  unhindered = ReachesHorizon n horizon (budgets_of phases patterns);
  best = Status.Ok ∷ [];
}
endings n text (SolveForever file phases patterns) = record {
  second_reads = Unit {0};
  may = Status.Ok ∷ Status.Events ∷ Status.Patterns ∷ Status.Passed ∷ [];
  unhindered = GoesOnForever n phases patterns;
  best = Status.Ok ∷ [];
}
endings n text (Show file) = record { second_reads = Unit {0}; may = Status.Ok ∷ []; unhindered = Unit {0}; best = Status.Ok ∷ [] }
endings n text (Load file loads horizon) = record {
  second_reads = IsOk (loads_in n text);
  may = Status.Ok ∷ Status.Passed ∷ [];
  unhindered = (at : PassedAt ℚ) → ¬ LoadPasses n text horizon at;
  best = Status.Ok ∷ [];
}
endings n text (Check file report) = record {
  second_reads = IsOk (report_in n text);
  may = Status.Ok ∷ Status.NotEquilibrium ∷ Status.Passed ∷ [];
  unhindered = (at : PassedAt ℚ) → ¬ CheckPasses n text at;
  best = Status.Ok ∷ Status.NotEquilibrium ∷ [];
}
endings n text (Quick file amount augments) = record {
  second_reads = Unit {0};
  may = Status.Ok ∷ Status.Augments ∷ Status.Unbounded ∷ Status.Passed ∷ [];
  unhindered = (at : PassedAt ℚ) → ¬ PassesQuick n.net amount augments at;
  best = Status.Ok ∷ Status.Augments ∷ Status.Unbounded ∷ [];
}
endings n text (Gen number rungs horizon phases patterns) = record {
  second_reads = Unit {0};
  may = Status.Ok ∷ Status.Phases ∷ Status.Patterns ∷ Status.Passed ∷ [];
  unhindered = ReachesHorizon n horizon (budgets_of phases patterns);
  best = Status.Ok ∷ [];
}
endings n text (Settle file flows) = record {
  second_reads = IsOk (flows_in n text);
  may = Status.Ok ∷ Status.NotThin ∷ Status.Passed ∷ [];
  unhindered = (at : PassedAt ℚ) → ¬ SettlePasses n text at;
  best = Status.Ok ∷ Status.NotThin ∷ [];
}
endings n text (Resume file report horizon phases patterns) = record {
  second_reads = IsOk (report_in n text);
  may = Status.Ok ∷ Status.Phases ∷ Status.Patterns ∷ Status.Passed ∷ Status.NotEquilibrium ∷ Status.Earlier ∷ [];
  unhindered = CanGoOnFrom n text (bounds_to horizon phases patterns);
  best = Status.Ok ∷ Status.Phases ∷ Status.Patterns ∷ [];
}
endings n text (Routes file routes horizon) = record {
  second_reads = (read : List NamedRoute) × ReadsRoutes n text (Ok read);
  may = Status.Ok ∷ Status.Passed ∷ [];
  unhindered = (at : PassedAt ℚ) → ¬ RoutesPasses n text horizon at;
  best = Status.Ok ∷ [];
}

-- ---- the premise
-- The words ask this. The texts of its files are known, within their limits, and well formed; and the network is this.
pub record ToldRequest (call : Call) : Type 0 where
  pub request : Request
  pub asks : Asks call request
  pub texts : Texts
  pub told : AreTold call.shelf.told request texts
  pub fit : BothFit request texts
  pub net : Named
  pub reads : NetworkIs (generated_by request) texts.network (Ok net)
  pub second_reads : (endings net (second_bytes texts) request).second_reads

-- how the command of a request ends
abbrev pub endings_of : {call : Call} → ToldRequest call → Endings
endings_of t = endings t.net (second_bytes t.texts) t.request

-- ---- the clause
pub record EndsWell (run : Run) (t : ToldRequest run.call) : Type 0 where
  pub ends : IsOneOf run.status (Status.Memory ∷ (endings_of t).may)
  pub unhindered : (endings_of t).unhindered → IsOneOf run.status (Status.Memory ∷ (endings_of t).best)

abbrev pub IsComplete : Run → Type 0
IsComplete run = NoFault run → (t : ToldRequest run.call) → EndsWell run t
