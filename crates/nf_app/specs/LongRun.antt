-- The long run: what each equilibrium of an answer's network does from the last start of a supply piece on, and what follows for the answer
-- (Cominetti, Correa and Olver 2017; Olver, Sering and Vargas Koch 2021).
use Rattle.std.specs.Prelude.{◌≡◌, ℕ, ◌<◌, List, IfSome}
use Rattle.nf_rational.specs.Rational.{ℚ}
use Rattle.nf_rational.specs.Operations.{0ℚ, 1ℚ}
use Rattle.nf_rational.specs.Order.{◌≤ℚ◌, ◌<ℚ◌}
use Rattle.nf_model.specs.Entries.{number_at}
use Rattle.nf_model.specs.Network.{Network}
use Rattle.nf_model.specs.Equilibrium.{Flow}
use Rattle.nf_net_def.specs.Report.{Report}
use Rattle.nf_phase_def.specs.ToEnd.{Tail}
use Rattle.nf_forever_def.specs.ForeverRun.{Forever}
use Rattle.nf_settling_laws.specs.Settling.{IsLastSupply, CutsAreWide, Settles}
use Rattle.nf_settling_laws.specs.Excess.{excess}
use Rattle.nf_settling_growth_laws.specs.Growth.{IsGrowth, GrowsAt, SwaysAtMost}
use Rattle.nf_app_words.specs.Requests.{Request, Solve, SolveForever, Gen}
use Rattle.nf_app_answers.specs.Answers.{ProgramAnswer, Solved, SolvedForever, Generated}
use Rattle.nf_app.specs.Runs.{Run, IsComputed}
use Rattle.nf_app.specs.AnswerFlows.{OfEachFlow}

-- ---- the network
-- What the network alone determines of all its equilibria.
pub record NetworkLongRun (net : Network) : Type 0 where
  -- The growth is the last supply rate over the least capacity of a static cut, or 1 if that is less.
  pub growth : ℚ
  pub is_growth : IsGrowth net growth
  -- In every equilibrium, from the last start of a piece on, the label of the sink differs from the growth times the departure by at most
  -- this.
  pub distance : ℚ
  pub grows : GrowsAt net growth distance
  -- There the changes of this difference, up and down, add up to at most this.
  pub change : ℚ
  pub sways : SwaysAtMost net growth change
  -- If no static cut has a smaller capacity than the last supply rate, all equilibria are steady from one departure on.
  pub settles : CutsAreWide net → (from : ℚ) × Settles net from

-- ---- the answer
-- From the last start of a piece on, the excess of a flow never rises from one departure to a later one.
abbrev pub ExcessNeverRises : Network → Flow → Type 0
ExcessNeverRises net flow = (first later : ℚ) → 0ℚ ≤ℚ first → IsLastSupply net first → first ≤ℚ later → later ≤ℚ flow.reached
    → excess net flow later ≤ℚ excess net flow first

-- Let all equilibria be steady from one departure on. A run to a horizon that passes this departure reaches its horizon.
abbrev pub ReachesOnceSteady : Network → Report → Type 0
ReachesOnceSteady net report = (from : ℚ) → Settles net from → from <ℚ report.flow.reached → report.flow.reached ≡ report.horizon

-- `steady`: if all equilibria are steady from one departure on, each label grows at slope 1 in the tail. `growth`: the label of the sink
-- grows at the growth of the network.
pub record TailInLongRun (net : Network) (tail : Tail) : Type 0 where
  pub steady : (from : ℚ) → Settles net from → (v : ℕ) → v < net.nodes → number_at tail.slopes v ≡ 1ℚ
  pub growth : (growth : ℚ) → IsGrowth net growth → number_at tail.slopes net.sink ≡ growth

-- `before`: if all equilibria are steady from one departure on, the phases before the tail end by this departure.
pub record ForeverInLongRun (net : Network) (forever : Forever) : Type 0 where
  pub before : (from : ℚ) → Settles net from → forever.flow.reached ≤ℚ from
  pub tail : IfSome forever.tail (TailInLongRun net)

-- Of the runs of `solve` and `gen`. Other answers have no run from departure 0 on.
abbrev pub RunInLongRun : Request → ProgramAnswer → Type 0
RunInLongRun (Solve file horizon phases patterns) (Solved n report) = ReachesOnceSteady n.net report
RunInLongRun (Gen number rungs horizon phases patterns) (Generated _ _ n made report) = ReachesOnceSteady n.net report
RunInLongRun (SolveForever file phases patterns) (SolvedForever n forever) = ForeverInLongRun n.net forever
RunInLongRun request answer = Unit {0}

-- What follows for an answer: for each flow that it describes, and for its run.
pub record AnswerLongRun (text : List ℕ) (request : Request) (answer : ProgramAnswer) : Type 0 where
  pub excess : OfEachFlow ExcessNeverRises text request answer
  pub run : RunInLongRun request answer

-- ---- the promise
-- Whichever answer is computed from the text that was read in this call, and whatever a run stopped for.
pub record LongRun (run : Run) : Type 0 where
  pub network : (answer : ProgramAnswer) (c : IsComputed run.call answer) → NetworkLongRun c.net.net
  pub answer : (answer : ProgramAnswer) (c : IsComputed run.call answer) → AnswerLongRun c.second c.request answer
