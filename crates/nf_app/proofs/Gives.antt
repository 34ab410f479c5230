-- The answer of a request as a function of its texts, where lists and runs determine it.
use Rattle.std.proofs.Common.{◌≡◌, ◌⊎◌, ℕ, List, Option, Some, None, Result, Ok, Err}
use Rattle.nf_app.proofs.Common.{ℚ, ◌≤ℚ◌, ◌<ℚ◌, passes_Q, PassedAt, Piece, Network, Pattern, AreStartLabels, label, Named, Report, Bounds, IsRunReport}
use Rattle.nf_app.proofs.Common.{check_list, LoadsBroken, loads_in, ReportBroken, report_in, HasNoWay, bounds_of, FlowsBroken, GivenFlows, flows_in}
use Rattle.nf_app.proofs.Common.{Forever, IsForever, RoutesBroken, NamedRoute, routes_in, Refused, Stands, resume_list, IsResumedReport, Request, Solve}
use Rattle.nf_app.proofs.Common.{SolveForever, Show, Load, Check, Quick, Gen, Settle, Resume, Routes, Arrival, ProgramAnswer, Solved, SolvedForever, Shown}
use Rattle.nf_app.proofs.Common.{Loaded, Checked, Quickest, TooManyWalks, Generated, Settled, Distributed, MalformedLoads, MalformedFlows, MalformedRoutes}
use Rattle.nf_app.proofs.Common.{MalformedReport, Passes, Unbounded, NotThin, Earlier, bounds_to, usual_budgets, loading_list, flow_list, departs_list}
use Rattle.nf_app.proofs.Common.{by_route_list, arrival_of, IsUnbounded, AreSettled, AreNotThin, PassesFirst}
use Rattle.nf_quick_def.specs.Quick.{Quick as QuickFlow, FoundQuick, Budget}
use Rattle.nf_quick_def.specs.Quick as quick
use Rattle.nf_resume_def.specs.Resuming as resuming

-- ---- what a request gives with its network, and with the text of the other file that it wants
-- what a list computes, or the operation of it that passes
abbrev pub or_passes : {A : Type 0} → (A → ProgramAnswer) → Result A (PassedAt ℚ) → ProgramAnswer
or_passes make (Ok value) = make value
or_passes make (Err at) = Passes at

-- `load`: by what was read as pieces of the links
abbrev pub load_answer : Named → ℚ → Result (List (List Piece)) LoadsBroken → ProgramAnswer
load_answer n horizon (Ok pieces) = or_passes (λ loaded. Loaded n horizon loaded) (loading_list n pieces horizon)
load_answer n horizon (Err broken) = MalformedLoads broken

-- `check`: by what was read as a report
abbrev pub check_answer : Named → Result Report ReportBroken → ProgramAnswer
check_answer n (Ok report) = or_passes (λ verdict. Checked n verdict) (check_list passes_Q n.net report.flow)
check_answer n (Err broken) = MalformedReport broken

-- `routes`: by what was read as routes
abbrev pub routes_answer : Named → ℚ → Result (List NamedRoute) RoutesBroken → ProgramAnswer
routes_answer n horizon (Ok routes) = or_passes (λ routed. Distributed n routes horizon routed) (by_route_list n routes horizon)
routes_answer n horizon (Err broken) = MalformedRoutes broken

-- `quick`: the arrival is the label of the sink, in the run to the departure within the usual budgets, or why that run stopped
abbrev pub Arrives : Network → Option ℚ → Arrival → Type 0
Arrives net None arrival = arrival ≡ Arrival.Never
Arrives net (Some departs) arrival =
    (report : Report) × IsRunReport passes_Q net (bounds_of departs usual_budgets) report
    × (arrival ≡ arrival_of report.stop (label report.flow net.sink departs))

abbrev pub DepartsGive : Named → QuickFlow → Result (Option ℚ) (PassedAt ℚ) → ProgramAnswer → Type 0
DepartsGive n flow (Ok departs) answer = (arrival : Arrival) × Arrives n.net departs arrival × (answer ≡ Quickest n flow arrival)
DepartsGive n flow (Err at) answer = answer ≡ Passes at

abbrev pub FlowGives : Named → ℚ → ℕ → Result quick.QuickOutcome (PassedAt ℚ) → ProgramAnswer → Type 0
FlowGives n amount augments (Ok (FoundQuick flow)) answer = DepartsGive n flow (departs_list n.net amount) answer
FlowGives n amount augments (Ok (Budget walks)) answer = answer ≡ TooManyWalks n augments walks
FlowGives n amount augments (Err at) answer = answer ≡ Passes at

abbrev pub QuickGives : Named → ℚ → ℕ → ProgramAnswer → Type 0
QuickGives n amount augments answer =
    (IsUnbounded n.net amount × (answer ≡ Unbounded))
    ⊎ (HasNoWay n.net amount × FlowGives n amount augments (flow_list n.net amount augments) answer)

-- `settle`: at the labels of departure 0
abbrev pub StartGives : Named → List ℚ → GivenFlows → ProgramAnswer → Type 0
StartGives n labels given answer =
    ((pattern : Pattern) × (flows : List ℚ) × (answer ≡ Settled n pattern flows) × AreSettled n.net labels given pattern flows)
    ⊎ ((answer ≡ NotThin) × AreNotThin n.net labels given)
    ⊎ ((at : PassedAt ℚ) × (answer ≡ Passes at) × PassesFirst n.net labels given at)

abbrev pub SettleGives : Named → Result GivenFlows FlowsBroken → ProgramAnswer → Type 0
SettleGives n (Ok given) answer = (labels : List ℚ) × AreStartLabels n.net labels × StartGives n labels given answer
SettleGives n (Err broken) answer = answer ≡ MalformedFlows broken

-- `resume`: the horizon comes first, then the list of resuming, then the run that goes on
abbrev pub RestGives : Named → Bounds → Report → Result resuming.Restart (PassedAt ℚ) → ProgramAnswer → Type 0
RestGives n bounds old (Ok (Stands first)) answer = (made : ℕ) × (report : Report) × IsResumedReport passes_Q n.net bounds old made report
    × (answer ≡ Solved n report)
RestGives n bounds old (Ok (Refused verdict)) answer = answer ≡ Checked n verdict
RestGives n bounds old (Err at) answer = answer ≡ Passes at

abbrev pub ResumeGives : Named → Bounds → Result Report ReportBroken → ProgramAnswer → Type 0
ResumeGives n bounds (Ok old) answer =
    ((bounds.horizon <ℚ old.flow.reached) × (answer ≡ Earlier))
    ⊎ ((old.flow.reached ≤ℚ bounds.horizon) × RestGives n bounds old (resume_list passes_Q n.net old) answer)
ResumeGives n bounds (Err broken) answer = answer ≡ MalformedReport broken

abbrev pub Gives : Named → List ℕ → Request → ProgramAnswer → Type 0
Gives n text (Solve file horizon phases patterns) answer =
    (report : Report) × IsRunReport passes_Q n.net (bounds_to horizon phases patterns) report × (answer ≡ Solved n report)
Gives n text (SolveForever file phases patterns) answer = (forever : Forever) × IsForever passes_Q n.net phases patterns forever
    × (answer ≡ SolvedForever n forever)
Gives n text (Show file) answer = answer ≡ Shown n
Gives n text (Load file loads horizon) answer = answer ≡ load_answer n horizon (loads_in n text)
Gives n text (Check file report) answer = answer ≡ check_answer n (report_in n text)
Gives n text (Quick file amount augments) answer = QuickGives n amount augments answer
Gives n text (Gen number rungs horizon phases patterns) answer =
    (report : Report) × (run : IsRunReport passes_Q n.net (bounds_to horizon phases patterns) report)
    × (answer ≡ Generated number rungs n run.last.made report)
Gives n text (Settle file flows) answer = SettleGives n (flows_in n text) answer
Gives n text (Resume file report horizon phases patterns) answer =
    ResumeGives n (bounds_to horizon phases patterns) (report_in n text) answer
Gives n text (Routes file routes horizon) answer = answer ≡ routes_answer n horizon (routes_in n text)
