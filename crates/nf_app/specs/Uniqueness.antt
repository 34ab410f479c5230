-- What of an answer is the same in every equilibrium of its network, whoever made it.
use Rattle.std.specs.Prelude.{◌≡◌, ℕ, List, Some}
use Rattle.nf_rational.specs.Rational.{ℚ}
use Rattle.nf_rational.specs.Order.{◌≤ℚ◌}
use Rattle.nf_model.specs.Network.{Network}
use Rattle.nf_model.specs.Equilibrium.{Flow, label, Equilibrium}
use Rattle.nf_quick_def.specs.Departures.{IsDeparture}
use Rattle.nf_unique_laws.specs.UniqueLaws.{SameInAll}
use Rattle.nf_app_words.specs.Requests.{Request, Quick}
use Rattle.nf_app_answers.specs.Answers.{ProgramAnswer, Quickest}
use Rattle.nf_app_answers.specs.declared.arrival.Arrival.{Arrival}
use Rattle.nf_app.specs.Runs.{Run, IsComputed}
use Rattle.nf_app.specs.AnswerFlows.{OfEachFlow}

-- Of the equilibrium line of `quick`: in every equilibrium that describes the least departure by which the amount is supplied, the arrival
-- after that departure is at this time.
abbrev pub SameArrival : Network → ℚ → Arrival → Type 0
SameArrival net amount (Arrival.At time) = (departs : ℚ) × IsDeparture net amount (Some departs)
    × ((other : Flow) → Equilibrium net other → departs ≤ℚ other.reached → label other net.sink departs ≡ time)
SameArrival net amount arrival = Unit {0}

-- Of an answer to `quick`: of its equilibrium line.
abbrev pub IsSameArrival : Request → ProgramAnswer → Type 0
IsSameArrival (Quick file amount augments) (Quickest n quick arrival) = SameArrival n.net amount arrival
IsSameArrival request answer = Unit {0}

-- Of an answer: of each flow that it describes, and of the line of `quick`.
pub record IsSameInAll (text : List ℕ) (request : Request) (answer : ProgramAnswer) : Type 0 where
  pub flows : OfEachFlow SameInAll text request answer
  pub arrival : IsSameArrival request answer

-- whichever answer is computed from the text that was read in this call, and whatever a run stopped for
abbrev pub AnswerIsSameInAll : Run → Type 0
AnswerIsSameInAll run = (answer : ProgramAnswer) (c : IsComputed run.call answer) → IsSameInAll c.second c.request answer
