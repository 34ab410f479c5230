-- The flows that an answer describes. Each is an equilibrium.
use Rattle.std.specs.Prelude.{◌≡◌, ℕ, List, Ok, IfSome}
use Rattle.nf_rational.specs.Rational.{ℚ}
use Rattle.nf_rational.specs.Operations.{0ℚ}
use Rattle.nf_rational.specs.Order.{◌≤ℚ◌}
use Rattle.nf_model.specs.Network.{Network}
use Rattle.nf_model.specs.Equilibrium.{Flow}
use Rattle.nf_net_def.specs.Named.{Named}
use Rattle.nf_net_def.specs.Report.{Report}
use Rattle.nf_check_def.specs.declared.Answer.{Answer as Verdict}
use Rattle.nf_check_def.specs.declared.Answer.TheVariants.{Yes, No}
use Rattle.nf_report_def.specs.ReportFile.{report_in}
use Rattle.nf_forever_def.specs.ForeverRun.{Forever}
use Rattle.nf_forever_def.specs.Extended.{flow_until}
use Rattle.nf_app_words.specs.Requests.{Request, Check}
use Rattle.nf_app_answers.specs.Answers.{ProgramAnswer, Solved, SolvedForever, Checked, Generated}

-- A fact about a flow of a network.
abbrev pub FlowFact : Type 1
FlowFact = Network → Flow → Type 0

-- Of a run without a horizon: of the flow up to the departure reached; and with a tail, of the flow up to every departure from 0 on.
abbrev pub OfForever : FlowFact → Network → Forever → Type 0
OfForever Holds net forever = Holds net forever.flow
    × IfSome forever.tail (λ tail. (until : ℚ) → 0ℚ ≤ℚ until → Holds net (flow_until net forever.flow tail until))

-- Of a text that `check` answers yes: of the flow of the report that the text is read as.
abbrev pub OfYes : FlowFact → Named → List ℕ → Verdict ℕ ℕ ℚ → Type 0
OfYes Holds n text Yes = (report : Report) → report_in n text ≡ Ok report → Holds n.net report.flow
OfYes Holds n text (No rule subject time left right) = Unit {0}

-- Of an answer: of the flow of a report, of a run without a horizon, and of a text that `check` answers yes. Other answers describe no
-- flow.
abbrev pub OfEachFlow : FlowFact → List ℕ → Request → ProgramAnswer → Type 0
OfEachFlow Holds text request (Solved n report) = Holds n.net report.flow
OfEachFlow Holds text request (Generated number rungs n made report) = Holds n.net report.flow
OfEachFlow Holds text request (SolvedForever n forever) = OfForever Holds n.net forever
OfEachFlow Holds text (Check file name) (Checked n verdict) = OfYes Holds n text verdict
OfEachFlow Holds text request answer = Unit {0}
