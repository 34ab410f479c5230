-- The full answer of each command that has its network. `text` is the bytes of its second file.
use Rattle.std.specs.Prelude.{◌≡◌, ◌↔◌, ℕ, List, Option, None, IfSome, IsSome, Ok}
use Rattle.nf_rational.specs.Rational.{ℚ}
use Rattle.nf_rational.specs.Operations.{0ℚ}
use Rattle.nf_rational.specs.Order.{◌≤ℚ◌}
use Rattle.nf_frac_def.specs.Passing.{passes_Q}
use Rattle.nf_model.specs.Network.{Piece}
use Rattle.nf_model.specs.Pattern.{Pattern}
use Rattle.nf_model.specs.Phases.{AreStartLabels}
use Rattle.nf_model.specs.Equilibrium.{Equilibrium}
use Rattle.nf_net_def.specs.Named.{Named}
use Rattle.nf_net_def.specs.NetFile.{Reads}
use Rattle.nf_net_def.specs.NetText.{canonical}
use Rattle.nf_net_def.specs.Report.{Report, IsWellFormed}
use Rattle.nf_thin_def.specs.PhaseRun.{Bounds, IsRunReport, IsShortFlow}
use Rattle.nf_phase_laws.specs.RunLaws.{KeepsLabels}
use Rattle.nf_load_def.specs.Loading.{Loaded as Loading}
use Rattle.nf_load_def.specs.Meanings.{AreLoaded}
use Rattle.nf_check_def.specs.declared.Answer.{Answer as Verdict}
use Rattle.nf_check_def.specs.Rules.{Checks}
use Rattle.nf_check_def.specs.CheckList.{check_list}
use Rattle.nf_check.specs.Answers.{IsExact}
use Rattle.nf_report_def.specs.LoadsFile.{loads_in}
use Rattle.nf_phase_run_laws.specs.ReadableLaws.{ReadsBack}
use Rattle.nf_quick_def.specs.Quick.{Quick as QuickFlow, FoundQuick}
use Rattle.nf_quick_def.specs.Answers.{IsQuickFlow}
use Rattle.nf_quick_def.specs.InOrder.{ComesOfPushes}
use Rattle.nf_quick_def.specs.Departures.{IsDeparture}
use Rattle.nf_quick.specs.Answered.{HasNoWay}
use Rattle.nf_phase_def.specs.Restoring.{EndsAtItsLabels}
use Rattle.nf_phase.specs.Solution.{EndsAll, IsRunSolution}
use Rattle.nf_complete_def.specs.FlowsFile.{GivenFlows, flows_in}
use Rattle.nf_forever_def.specs.ForeverRun.{Forever, IsForever}
use Rattle.nf_forever_def.specs.Extended.{flow_until}
use Rattle.nf_forever_laws.specs.TailGrowth.{TailGrows}
use Rattle.nf_resume_def.specs.Meanings.{IsResumedReport, GoesOnFrom}
use Rattle.nf_routes_def.specs.RoutesFile.{NamedRoute, routes_of, ReadsRoutes}
use Rattle.nf_routes_def.specs.RoutesList.{Routed}
use Rattle.nf_routes_def.specs.Meanings.{IsRouted, RoutesArrive}
use Rattle.nf_app_answers.specs.declared.arrival.Arrival.{Arrival}
use Rattle.nf_app_answers.specs.Answers.{ProgramAnswer, Solved, SolvedForever, Shown, Loaded, Checked, Quickest, Generated, Settled, Distributed}
use Rattle.nf_app.specs.Lists.{loading_list, flow_list, departs_list, by_route_list}
use Rattle.nf_app.specs.Reports.{IsReportText}
use Rattle.nf_app.specs.Arrivals.{IsArrivalOf}
use Rattle.nf_app.specs.Settling.{AreSettled}

-- `solve`: the report of the phase run. Its flow is an equilibrium up to the departure reached. The curves are in short form, and end at
-- that departure or at the labels there. Each phase sequence to the horizon with as many phases ends there too.
pub record SolveAnswer (n : Named) (bounds : Bounds) (answer : ProgramAnswer) : Type 0 where
  pub report : Report
  pub is : answer ≡ Solved n report
  pub well_formed : IsWellFormed n.net report
  pub equilibrium : Equilibrium n.net report.flow
  pub run : IsRunReport passes_Q n.net bounds report
  pub only_end : EndsAll n.net bounds.horizon run.last
  pub labels : KeepsLabels n.net run.last
  pub short : IsShortFlow n.net report.flow
  pub ends : EndsAtItsLabels n.net report.flow
  pub reads_back : ReadsBack n report

-- `solve --forever`: the run without a horizon. It has a tail exactly if it isn't stopped. The flow that goes on by the tail is an
-- equilibrium up to every departure from 0 on. Travel times settle there, or grow, by the static cuts of the network.
pub record ForeverAnswer (n : Named) (phases patterns : ℕ) (answer : ProgramAnswer) : Type 0 where
  pub forever : Forever
  pub is : answer ≡ SolvedForever n forever
  pub equilibrium : Equilibrium n.net forever.flow
  pub tail : IsSome forever.tail ↔ (forever.stop ≡ None)
  pub goes_on : IfSome forever.tail
      (λ tail. (until : ℚ) → 0ℚ ≤ℚ until → Equilibrium n.net (flow_until n.net forever.flow tail until))
  pub grows : IfSome forever.tail (TailGrows n.net forever.flow)
  pub run : IsForever passes_Q n.net phases patterns forever
  pub short : IsShortFlow n.net forever.flow
  pub ends : EndsAtItsLabels n.net forever.flow

-- `resume`: the report of the run that continues the report read, with the values of that report as far as it goes.
pub record ResumeAnswer (n : Named) (text : List ℕ) (bounds : Bounds) (answer : ProgramAnswer) : Type 0 where
  pub old : Report
  pub read : IsReportText n text old
  pub not_earlier : old.flow.reached ≤ℚ bounds.horizon
  pub new : Report
  pub is : answer ≡ Solved n new
  pub well_formed : IsWellFormed n.net new
  pub equilibrium : Equilibrium n.net new.flow
  pub goes_on : GoesOnFrom n.net old.flow new.flow
  pub made : ℕ
  pub resumed : IsResumedReport passes_Q n.net bounds old made new
  pub short : IsShortFlow n.net new.flow
  pub ends : EndsAtItsLabels n.net new.flow
  pub reads_back : ReadsBack n new

-- `check`: the verdict on the flow of the report read: `yes` exactly of equilibria, else the first broken rule with two different values.
pub record CheckAnswer (n : Named) (text : List ℕ) (answer : ProgramAnswer) : Type 0 where
  pub report : Report
  pub read : IsReportText n text report
  pub verdict : Verdict ℕ ℕ ℚ
  pub is : answer ≡ Checked n verdict
  pub exact : IsExact n.net report.flow verdict
  pub first_broken : Checks n.net report.flow verdict
  pub computed : check_list passes_Q n.net report.flow ≡ Ok verdict

-- `load`: the loading of each link by the pieces read, at every time up to the horizon.
pub record LoadAnswer (n : Named) (text : List ℕ) (horizon : ℚ) (answer : ProgramAnswer) : Type 0 where
  pub pieces : List (List Piece)
  pub read : loads_in n text ≡ Ok pieces
  pub loaded : List Loading
  pub is : answer ≡ Loaded n horizon loaded
  pub loadings : AreLoaded horizon n.net.links pieces loaded
  pub computed : loading_list n pieces horizon ≡ Ok loaded

-- `routes`: the loading along the routes read, which hold no circle; all that was sent arrives, first in, first out at each link.
pub record RoutesAnswer (n : Named) (text : List ℕ) (horizon : ℚ) (answer : ProgramAnswer) : Type 0 where
  pub routes : List NamedRoute
  pub read : ReadsRoutes n text (Ok routes)
  pub routed : Routed
  pub is : answer ≡ Distributed n routes horizon routed
  pub loadings : IsRouted n.net (routes_of routes) horizon routed
  pub arrives : RoutesArrive n.net (routes_of routes) horizon routed
  pub computed : by_route_list n routes horizon ≡ Ok routed

-- `quick`: a quickest flow of the amount, made by shortest walks pushed in order. The arrival is that of the least departure by which the
-- amount is supplied. The arrival is no earlier than the flow's time.
pub record QuickAnswer (n : Named) (amount : ℚ) (augments : ℕ) (answer : ProgramAnswer) : Type 0 where
  pub quick : QuickFlow
  pub arrival : Arrival
  pub is : answer ≡ Quickest n quick arrival
  pub bounded : HasNoWay n.net amount
  pub quickest : IsQuickFlow n.net amount quick
  pub pushes : ComesOfPushes n.net amount augments quick
  pub departs : Option ℚ
  pub least : IsDeparture n.net amount departs
  pub arrives : IsArrivalOf n.net departs arrival
  pub no_earlier : (time : ℚ) → arrival ≡ Arrival.At time → quick.time ≤ℚ time
  pub computed : flow_list n.net amount augments ≡ Ok (FoundQuick quick)
  pub departs_computed : departs_list n.net amount ≡ Ok departs

-- `gen`: the summary of the phase run in the ladder of a number.
pub record GenAnswer (number rungs : ℕ) (n : Named) (bounds : Bounds) (answer : ProgramAnswer) : Type 0 where
  pub report : Report
  pub made : ℕ
  pub is : answer ≡ Generated number rungs n made report
  pub solution : IsRunSolution n.net bounds made report

-- `show`: the network's canonical text, which reads as the same network.
pub record ShowAnswer (n : Named) (answer : ProgramAnswer) : Type 0 where
  pub is : answer ≡ Shown n
  pub reads_back : Reads (canonical n) (Ok n)

-- `settle`: the flows and the pattern to which the thin flow read is settled, at the labels of departure 0.
pub record SettleAnswer (n : Named) (text : List ℕ) (answer : ProgramAnswer) : Type 0 where
  pub given : GivenFlows
  pub read : flows_in n text ≡ Ok given
  pub labels : List ℚ
  pub are_start : AreStartLabels n.net labels
  pub pattern : Pattern
  pub flows : List ℚ
  pub is : answer ≡ Settled n pattern flows
  pub settled : AreSettled n.net labels given pattern flows
