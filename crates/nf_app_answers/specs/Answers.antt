-- The answers of the program, with statuses and texts.
use Rattle.std.specs.Prelude.{ℕ, List, [], Option, Some, None}
use Rattle.nf_rational.specs.Rational.{ℚ}
use Rattle.nf_frac_def.specs.declared.PassedAt.{PassedAt}
use Rattle.nf_net_def.specs.declared.Cause.{Cause}
use Rattle.nf_net_def.specs.Named.{Named}
use Rattle.nf_net_def.specs.NetLines.{Broken}
use Rattle.nf_net_def.specs.NetText.{canonical}
use Rattle.nf_net_def.specs.Report.{Report, report_text}
use Rattle.nf_load_def.specs.Loading.{Loaded as Loading}
use Rattle.nf_check_def.specs.declared.Answer.{Answer as Verdict}
use Rattle.nf_check_def.specs.declared.Answer.TheVariants.{Yes, No}
use Rattle.nf_report_def.specs.LoadsFile.{LoadsBroken}
use Rattle.nf_report_def.specs.ReportFile.{ReportBroken}
use Rattle.nf_report_def.specs.Texts.{load_text, answer_text}
use Rattle.nf_quick_def.specs.Quick.{Augment, Quick}
use Rattle.nf_model.specs.Pattern.{Pattern}
use Rattle.nf_complete_def.specs.FlowsFile.{FlowsBroken}
use Rattle.nf_complete_def.specs.SettleText.{settled_text}
use Rattle.nf_routes_def.specs.RoutesFile.{RoutesBroken, NamedRoute}
use Rattle.nf_routes_def.specs.RoutesList.{Routed}
use Rattle.nf_routes_def.specs.RoutesText.{routed_text}
use Rattle.nf_forever_def.specs.ForeverRun.{Forever}
use Rattle.nf_forever_def.specs.ForeverText.{forever_text}
use Rattle.nf_app_answers.specs.ErrorLines.{memory_line, usage_text, shelf_failed_line, shelf_too_long_line, network_line, loads_line, flows_line, routes_line, report_fault_line, stopped_line, passed_line, no_equilibrium_line, augments_line, unbounded_line, no_thin_flow_line, earlier_line}
use Rattle.nf_app_answers.specs.QuickText.{quick_text, augments_text}
use Rattle.nf_app_answers.specs.GenText.{gen_text}
use Rattle.nf_app_answers.specs.declared.arrival.Arrival.{Arrival}
use Rattle.nf_app_answers.specs.declared.status.Status.{Status}

-- The answers of the program. `n` is the network, with its names.
pub data ProgramAnswer : Type 0 where
  -- the report of a run in the file's network, and a run in it without a horizon
  Solved : (n : Named) (report : Report) → ProgramAnswer
  SolvedForever : (n : Named) (forever : Forever) → ProgramAnswer
  -- the network
  Shown : (n : Named) → ProgramAnswer
  -- the loading of each link up to a horizon
  Loaded : (n : Named) (horizon : ℚ) (loaded : List Loading) → ProgramAnswer
  -- the verdict on the flow of a report
  Checked : (n : Named) (verdict : Verdict ℕ ℕ ℚ) → ProgramAnswer
  -- a quickest flow, and the arrival in an equilibrium; or the walks pushed for one, as many as the budget `augments` allows
  Quickest : (n : Named) (quick : Quick) (arrival : Arrival) → ProgramAnswer
  TooManyWalks : (n : Named) (augments : ℕ) (walks : List Augment) → ProgramAnswer
  -- the run in the ladder of a number and its rungs, with the number of phases that were made
  Generated : (number rungs : ℕ) (n : Named) (made : ℕ) (report : Report) → ProgramAnswer
  -- the pattern and the flows of a settled thin flow
  Settled : (n : Named) (pattern : Pattern) (flows : List ℚ) → ProgramAnswer
  -- the loading along routes up to a horizon
  Distributed : (n : Named) (routes : List NamedRoute) (horizon : ℚ) (routed : Routed) → ProgramAnswer
  -- an allocation failed; the words are no request; a file could not be fetched, or is too long
  NoMemory : ProgramAnswer
  NoRequest : ProgramAnswer
  ShelfFailed : ProgramAnswer
  ShelfTooLong : ProgramAnswer
  -- a file breaks a rule
  Malformed : (broken : Broken) → ProgramAnswer
  MalformedLoads : (broken : LoadsBroken) → ProgramAnswer
  MalformedFlows : (broken : FlowsBroken) → ProgramAnswer
  MalformedRoutes : (broken : RoutesBroken) → ProgramAnswer
  MalformedReport : (broken : ReportBroken) → ProgramAnswer
  -- this operation of the command exceeds the bound
  Passes : (at : PassedAt ℚ) → ProgramAnswer
  -- a walk of unbounded links leads to the sink, so there is no quickest flow
  Unbounded : ProgramAnswer
  -- the flows and slopes of the file are no thin flow
  NotThin : ProgramAnswer
  -- the horizon is before the departure that the report's flow has reached
  Earlier : ProgramAnswer

-- ---- the status
abbrev pub status_number : Status → ℕ
status_number Status.Ok = 0
status_number Status.Memory = 1
status_number Status.Usage = 2
status_number Status.Shelf = 3
status_number Status.Malformed = 4
status_number Status.Phases = 5
status_number Status.Patterns = 6
status_number Status.Passed = 7
status_number Status.NoPattern = 8
status_number Status.Output = 9
status_number Status.NotEquilibrium = 10
status_number Status.Augments = 11
status_number Status.Events = 12
status_number Status.Unbounded = 14
status_number Status.NotThin = 15
status_number Status.Earlier = 16

abbrev pub status_of_cause : Cause ℚ → Status
status_of_cause (Cause.Phases made) = Status.Phases
status_of_cause (Cause.Patterns phase tried) = Status.Patterns
status_of_cause (Cause.Passed phase place at) = Status.Passed
status_of_cause (Cause.NoPattern phase) = Status.NoPattern

abbrev pub status_of_stop : Option (Cause ℚ) → Status
status_of_stop None = Status.Ok
status_of_stop (Some cause) = status_of_cause cause

-- without a horizon, the budget of phases has its own status
abbrev pub status_of_forever : Option (Cause ℚ) → Status
status_of_forever (Some (Cause.Phases made)) = Status.Events
status_of_forever stop = status_of_stop stop

abbrev pub status_of_verdict : Verdict ℕ ℕ ℚ → Status
status_of_verdict Yes = Status.Ok
status_of_verdict (No rule subject time left right) = Status.NotEquilibrium

abbrev pub status_of : ProgramAnswer → Status
status_of (Solved n report) = status_of_stop report.stop
status_of (SolvedForever n forever) = status_of_forever forever.stop
status_of (Shown n) = Status.Ok
status_of (Loaded n horizon loaded) = Status.Ok
status_of (Checked n verdict) = status_of_verdict verdict
status_of (Quickest n quick arrival) = Status.Ok
status_of (TooManyWalks n augments walks) = Status.Augments
status_of (Generated number rungs n made report) = status_of_stop report.stop
status_of (Settled n pattern flows) = Status.Ok
status_of (Distributed n routes horizon routed) = Status.Ok
status_of NoMemory = Status.Memory
status_of NoRequest = Status.Usage
status_of ShelfFailed = Status.Shelf
status_of ShelfTooLong = Status.Shelf
status_of (Malformed broken) = Status.Malformed
status_of (MalformedLoads broken) = Status.Malformed
status_of (MalformedFlows broken) = Status.Malformed
status_of (MalformedRoutes broken) = Status.Malformed
status_of (MalformedReport broken) = Status.Malformed
status_of (Passes at) = Status.Passed
status_of Unbounded = Status.Unbounded
status_of NotThin = Status.NotThin
status_of Earlier = Status.Earlier

-- ---- the texts
abbrev pub out_text : ProgramAnswer → List ℕ
out_text (Solved n report) = report_text n report
out_text (SolvedForever n forever) = forever_text n forever
out_text (Shown n) = canonical n
out_text (Loaded n horizon loaded) = load_text n horizon loaded
out_text (Checked n verdict) = answer_text n verdict
out_text (Quickest n quick arrival) = quick_text n quick arrival
out_text (TooManyWalks n augments walks) = augments_text n walks
out_text (Generated number rungs n made report) = gen_text number rungs n made report
out_text (Settled n pattern flows) = settled_text n pattern flows
out_text (Distributed n routes horizon routed) = routed_text n routes horizon routed
out_text answer = []

-- the answers with a text for the output: all but the refusals
abbrev pub HasOutput : ProgramAnswer → Type 0
HasOutput NoMemory = ⊥
HasOutput NoRequest = ⊥
HasOutput ShelfFailed = ⊥
HasOutput ShelfTooLong = ⊥
HasOutput (Malformed broken) = ⊥
HasOutput (MalformedLoads broken) = ⊥
HasOutput (MalformedFlows broken) = ⊥
HasOutput (MalformedRoutes broken) = ⊥
HasOutput (MalformedReport broken) = ⊥
HasOutput (Passes at) = ⊥
HasOutput Unbounded = ⊥
HasOutput NotThin = ⊥
HasOutput Earlier = ⊥
HasOutput answer = Unit {0}

abbrev pub text_of_stop : Option (Cause ℚ) → List ℕ
text_of_stop None = []
text_of_stop (Some cause) = stopped_line cause

abbrev pub text_of_verdict : Verdict ℕ ℕ ℚ → List ℕ
text_of_verdict Yes = []
text_of_verdict (No rule subject time left right) = no_equilibrium_line

abbrev pub err_text : ProgramAnswer → List ℕ
err_text (Solved n report) = text_of_stop report.stop
err_text (SolvedForever n forever) = text_of_stop forever.stop
err_text (Shown n) = []
err_text (Loaded n horizon loaded) = []
err_text (Checked n verdict) = text_of_verdict verdict
err_text (Quickest n quick arrival) = []
err_text (TooManyWalks n augments walks) = augments_line augments
err_text (Generated number rungs n made report) = text_of_stop report.stop
err_text (Settled n pattern flows) = []
err_text (Distributed n routes horizon routed) = []
err_text NoMemory = memory_line
err_text NoRequest = usage_text
err_text ShelfFailed = shelf_failed_line
err_text ShelfTooLong = shelf_too_long_line
err_text (Malformed broken) = network_line broken
err_text (MalformedLoads broken) = loads_line broken
err_text (MalformedFlows broken) = flows_line broken
err_text (MalformedRoutes broken) = routes_line broken
err_text (MalformedReport broken) = report_fault_line broken
err_text (Passes at) = passed_line at
err_text Unbounded = unbounded_line
err_text NotThin = no_thin_flow_line
err_text Earlier = earlier_line
