-- Why a command that has its network gives no full answer. `text` is the bytes of its second file.
use Rattle.std.specs.Prelude.{◌≡◌, ◌⊎◌, ℕ, List, Ok, Err}
use Rattle.nf_rational.specs.Rational.{ℚ}
use Rattle.nf_rational.specs.Operations.{0ℚ}
use Rattle.nf_rational.specs.Order.{◌≤ℚ◌, ◌<ℚ◌}
use Rattle.nf_frac_def.specs.Passing.{passes_Q}
use Rattle.nf_frac_def.specs.declared.PassedAt.{PassedAt}
use Rattle.nf_model.specs.Network.{Piece, Network}
use Rattle.nf_model.specs.Phases.{AreStartLabels}
use Rattle.nf_net_def.specs.Named.{Named}
use Rattle.nf_net_def.specs.Report.{Report}
use Rattle.nf_check_def.specs.declared.Answer.{Answer as Verdict}
use Rattle.nf_check_def.specs.CheckList.{check_list}
use Rattle.nf_report_def.specs.LoadsFile.{loads_in}
use Rattle.nf_quick_def.specs.Steps.{IsUnboundedWalk}
use Rattle.nf_quick_def.specs.Quick.{Augment, Quick, FoundQuick, Budget}
use Rattle.nf_quick_def.specs.InOrder.{EndsAtBudget}
use Rattle.nf_quick.specs.Answered.{HasNoWay}
use Rattle.nf_complete_def.specs.FlowsFile.{GivenFlows, flows_in}
use Rattle.nf_routes_def.specs.RoutesFile.{NamedRoute, ReadsRoutes}
use Rattle.nf_resume_def.specs.Resuming.{resume_list}
use Rattle.nf_resume.specs.Faults.{IsRefusedReport}
use Rattle.nf_app_answers.specs.Answers.{ProgramAnswer, Checked, TooManyWalks, MalformedLoads, MalformedFlows, MalformedRoutes, MalformedReport, Passes, Unbounded, NotThin, Earlier}
use Rattle.nf_app.specs.Lists.{loading_list, flow_list, departs_list, by_route_list}
use Rattle.nf_app.specs.Reports.{IsReportText, IsNoReportText}
use Rattle.nf_app.specs.Settling.{AreNotThin, PassesFirst}

-- the answer has this form, with a value of which this holds
abbrev pub AnswersAs : {A : Type 0} → (A → ProgramAnswer) → (A → Type 0) → ProgramAnswer → Type 0
AnswersAs {A} form Holds answer = (a : A) × (answer ≡ form a) × Holds a

-- ---- an operation exceeds the bound
pub record LoadPasses (n : Named) (text : List ℕ) (horizon : ℚ) (at : PassedAt ℚ) : Type 0 where
  pub pieces : List (List Piece)
  pub read : loads_in n text ≡ Ok pieces
  pub passes : loading_list n pieces horizon ≡ Err at

pub record CheckPasses (n : Named) (text : List ℕ) (at : PassedAt ℚ) : Type 0 where
  pub report : Report
  pub read : IsReportText n text report
  pub passes : check_list passes_Q n.net report.flow ≡ Err at

pub record RoutesPasses (n : Named) (text : List ℕ) (horizon : ℚ) (at : PassedAt ℚ) : Type 0 where
  pub routes : List NamedRoute
  pub read : ReadsRoutes n text (Ok routes)
  pub passes : by_route_list n routes horizon ≡ Err at

-- of the list of the flow, or else of that of the departure
pub record PassesQuick (net : Network) (amount : ℚ) (augments : ℕ) (at : PassedAt ℚ) : Type 0 where
  pub no_way : HasNoWay net amount
  pub passes : (flow_list net amount augments ≡ Err at)
      ⊎ ((quick : Quick) × (flow_list net amount augments ≡ Ok (FoundQuick quick)) × (departs_list net amount ≡ Err at))

-- at the labels of departure 0
pub record SettlePasses (n : Named) (text : List ℕ) (at : PassedAt ℚ) : Type 0 where
  pub given : GivenFlows
  pub read : flows_in n text ≡ Ok given
  pub labels : List ℚ
  pub are_start : AreStartLabels n.net labels
  pub passes : PassesFirst n.net labels given at

pub record ResumePasses (n : Named) (text : List ℕ) (horizon : ℚ) (at : PassedAt ℚ) : Type 0 where
  pub old : Report
  pub read : IsReportText n text old
  pub not_earlier : old.flow.reached ≤ℚ horizon
  pub passes : resume_list passes_Q n.net old ≡ Err at

-- ---- other causes
-- the flows and slopes are no thin flow at the labels of departure 0
pub record IsNotThin (n : Named) (text : List ℕ) : Type 0 where
  pub given : GivenFlows
  pub read : flows_in n text ≡ Ok given
  pub labels : List ℚ
  pub are_start : AreStartLabels n.net labels
  pub not_thin : AreNotThin n.net labels given

-- as many walks as allowed were pushed, these, and the next is shorter than the time
pub record IsOverBudget (net : Network) (amount : ℚ) (augments : ℕ) (walks : List Augment) : Type 0 where
  pub no_way : HasNoWay net amount
  pub computed : flow_list net amount augments ≡ Ok (Budget walks)
  pub pushed : EndsAtBudget net amount augments walks

-- the amount is above 0, and a walk of unbounded links leads from source to sink
abbrev pub IsUnbounded : Network → ℚ → Type 0
IsUnbounded net amount = (0ℚ <ℚ amount) × ((walk : List ℕ) × IsUnboundedWalk net walk net.source net.sink)

-- the flow of the report is no equilibrium, with the verdict of the check
pub record IsNoStart (n : Named) (text : List ℕ) (horizon : ℚ) (verdict : Verdict ℕ ℕ ℚ) : Type 0 where
  pub old : Report
  pub read : IsReportText n text old
  pub not_earlier : old.flow.reached ≤ℚ horizon
  pub refused : IsRefusedReport passes_Q n.net old verdict

-- the horizon is before the departure that the report's flow has reached
pub record IsTooEarly (n : Named) (text : List ℕ) (horizon : ℚ) : Type 0 where
  pub old : Report
  pub read : IsReportText n text old
  pub earlier : horizon <ℚ old.flow.reached

-- ---- the commands
abbrev pub LoadRefused : Named → List ℕ → ℚ → ProgramAnswer → Type 0
LoadRefused n text horizon answer = AnswersAs MalformedLoads (λ broken. loads_in n text ≡ Err broken) answer
    ⊎ AnswersAs Passes (LoadPasses n text horizon) answer

abbrev pub CheckRefused : Named → List ℕ → ProgramAnswer → Type 0
CheckRefused n text answer = AnswersAs MalformedReport (IsNoReportText n text) answer ⊎ AnswersAs Passes (CheckPasses n text) answer

-- the last rule of routes files is broken exactly where the routes hold a circle
abbrev pub RoutesRefused : Named → List ℕ → ℚ → ProgramAnswer → Type 0
RoutesRefused n text horizon answer = AnswersAs MalformedRoutes (λ broken. ReadsRoutes n text (Err broken)) answer
    ⊎ AnswersAs Passes (RoutesPasses n text horizon) answer

abbrev pub QuickRefused : Named → ℚ → ℕ → ProgramAnswer → Type 0
QuickRefused n amount augments answer = AnswersAs (TooManyWalks n augments) (IsOverBudget n.net amount augments) answer
    ⊎ AnswersAs Passes (PassesQuick n.net amount augments) answer
    ⊎ ((answer ≡ Unbounded) × IsUnbounded n.net amount)

abbrev pub SettleRefused : Named → List ℕ → ProgramAnswer → Type 0
SettleRefused n text answer = AnswersAs MalformedFlows (λ broken. flows_in n text ≡ Err broken) answer
    ⊎ AnswersAs Passes (SettlePasses n text) answer
    ⊎ ((answer ≡ NotThin) × IsNotThin n text)

abbrev pub ResumeRefused : Named → List ℕ → ℚ → ProgramAnswer → Type 0
ResumeRefused n text horizon answer = AnswersAs MalformedReport (IsNoReportText n text) answer
    ⊎ AnswersAs Passes (ResumePasses n text horizon) answer
    ⊎ ((answer ≡ Earlier) × IsTooEarly n text horizon)
    ⊎ AnswersAs (Checked n) (IsNoStart n text horizon) answer
