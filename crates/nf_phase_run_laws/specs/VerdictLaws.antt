-- A checker answers yes for equilibria and reports of runs. The rule of shortest routes is never the first broken rule.
use Rattle.std.specs.Prelude.{◌≡◌, ◌≢◌, ◌↔◌, ℕ, ◌<◌, length, Ok}
use Rattle.nf_rational.specs.Rational.{ℚ}
use Rattle.nf_frac_def.specs.Passing.{Passing, passes_Q}
use Rattle.nf_model.specs.Network.{Network, IsNetwork}
use Rattle.nf_model.specs.Equilibrium.{Flow, Equilibrium}
use Rattle.nf_net_def.specs.Named.{Named}
use Rattle.nf_net_def.specs.WellNamed.{IsNamed}
use Rattle.nf_net_def.specs.Report.{Report, IsWellFormed, report_text}
use Rattle.nf_thin_def.specs.PhaseRun.{Bounds, IsRunReport}
use Rattle.nf_curve_def.specs.Lines.{Sides}
use Rattle.nf_check_def.specs.declared.CheckRule.{CheckRule}
use Rattle.nf_check_def.specs.declared.CheckRule.TheVariants.{C8}
use Rattle.nf_check_def.specs.declared.Subject.{Subject}
use Rattle.nf_check_def.specs.declared.Answer.{Answer}
use Rattle.nf_check_def.specs.declared.Answer.TheVariants.{Yes, No}
use Rattle.nf_check_def.specs.Rules.{Test, Route, IsTest, rule_of, Holds, Breaks}
use Rattle.nf_check_def.specs.CheckList.{check_list}
use Rattle.nf_check_laws.specs.Laws.{CanBeChecked}
use Rattle.nf_report_def.specs.ReportFile.{report_in}
use Rattle.nf_phase_run_laws.specs.ReadableLaws.{AreReadable}

-- ---- yes
-- If no operation passes, a checker answers yes for each equilibrium.
abbrev pub EquilibriumIsAnsweredYes : Type 0
EquilibriumIsAnsweredYes = (passes : Passing) (net : Network) (flow : Flow) (answer : Answer ℕ ℕ ℚ) → IsNetwork net → Equilibrium net flow
    → check_list passes net flow ≡ Ok answer → answer ≡ Yes

-- If no operation passes, a checker answers yes for the report of a phase run of the network, for any cause of a stop.
abbrev pub RunIsAnsweredYes : Type 0
RunIsAnsweredYes = (running checking : Passing) (net : Network) (bounds : Bounds) (report : Report) (answer : Answer ℕ ℕ ℚ) → IsNetwork net
    → IsRunReport running net bounds report
    → check_list checking net report.flow ≡ Ok answer → answer ≡ Yes

-- If no operation passes, a checker answers yes for each report that is read from the text of a run's report.
abbrev pub WrittenIsAnsweredYes : Type 0
WrittenIsAnsweredYes = (n : Named) (bounds : Bounds) (report read : Report) (answer : Answer ℕ ℕ ℚ) → IsNamed n → AreReadable bounds
    → IsWellFormed n.net report → IsRunReport passes_Q n.net bounds report
    → report_in n (report_text n report) ≡ Ok read → check_list passes_Q n.net read.flow ≡ Ok answer → answer ≡ Yes

-- ---- shortest routes
-- all rules except possibly C8 hold; C8 states that flow takes shortest routes only
abbrev pub AllButRoutesHold : Network → Flow → Type 0
AllButRoutesHold net flow = (test : Test) → IsTest net test → rule_of test ≢ C8 → Holds net flow test

-- If all rules except possibly C8 hold, C8 holds too: flow that is conserved along earliest arrivals takes shortest routes. Hence C1 to
-- C7 hold exactly for equilibria. Nothing breaks C8 if they hold, and no checker answers no for C8.
pub record RoutesAreKept : Type 0 where
  pub holds : (net : Network) (flow : Flow) (e : ℕ) → CanBeChecked net flow → AllButRoutesHold net flow → e < length net.links
      → Holds net flow (Route e)
  pub enough : (net : Network) (flow : Flow) → CanBeChecked net flow → AllButRoutesHold net flow ↔ Equilibrium net flow
  pub none_breaks : (net : Network) (flow : Flow) (e : ℕ) (sides : Sides) → CanBeChecked net flow → AllButRoutesHold net flow
      → e < length net.links → ¬ Breaks net flow (Route e) sides
  pub never_answered : (passes : Passing) (net : Network) (flow : Flow) (rule : CheckRule) (subject : Subject ℕ ℕ) (time left right : ℚ)
      → CanBeChecked net flow
      → check_list passes net flow ≡ Ok (No rule subject time left right) → rule ≢ C8
