-- Walks pushed in order, and the quickest flow that they make (shortest residual walks go back to Ford and Fulkerson 1958).
use Rattle.std.specs.Prelude.{◌≡◌, ℕ, ◌≤◌, List, [], ◌∷◌, length, replicate}
use Rattle.nf_rational.specs.Rational.{ℚ}
use Rattle.nf_rational.specs.Operations.{0ℚ, ◌-ℚ◌, ◌*ℚ◌}
use Rattle.nf_rational.specs.Order.{◌≤ℚ◌, ◌<ℚ◌}
use Rattle.nf_model.specs.Entries.{number_at}
use Rattle.nf_model.specs.Network.{Network}
use Rattle.nf_quick_def.specs.Steps.{Step, IsResidualWalk, walk_length}
use Rattle.nf_quick_def.specs.Flows.{flow_value, cost_of}
use Rattle.nf_quick_def.specs.Rounds.{Walk}
use Rattle.nf_quick_def.specs.Quick.{Augment, Quick}
use Rattle.nf_quick_def.specs.Answers.{IsShortestWalk}
use Rattle.nf_quick_def.specs.Pushed.{IsPushed}
use Rattle.nf_quick_def.specs.Through.{through}
use Rattle.nf_quick_def.specs.NodeTimes.{AreNodeTimes}

-- ---- repetition of a static flow over time
-- The amount that a static flow, repeated until `time`, delivers to the sink by then: time times value, minus cost.
abbrev pub repeated : Network → List ℚ → ℚ → ℚ
repeated net flows time = time *ℚ flow_value net flows -ℚ cost_of net flows

-- `time` is the time by which the repeated flow delivers the amount; a flow of value 0 has no such time.
pub record IsTimeOf (net : Network) (amount : ℚ) (flows : List ℚ) (time : ℚ) : Type 0 where
  pub some : 0ℚ <ℚ flow_value net flows
  pub comes : repeated net flows time ≡ amount

-- `length` is below the time of the flow, if the flow has a time.
abbrev pub IsEarly : Network → ℚ → List ℚ → ℚ → Type 0
IsEarly net amount flows length = (time : ℚ) → IsTimeOf net amount flows time → length <ℚ time

-- ---- walks pushed in order
abbrev pub no_flow : Network → List ℚ
no_flow net = replicate (length net.links) 0ℚ

-- A push of the first shortest residual walk with its whole room, if that walk is shorter than the time so far.
pub record IsFullPush (net : Network) (amount : ℚ) (before : List ℚ) (augment : Augment) (after : List ℚ) : Type 0 where
  pub shortest : IsShortestWalk net before augment.walk
  pub early : IsEarly net amount before augment.walk.length
  pub whole : augment.amount ≡ augment.walk.room
  pub pushed : IsPushed before augment.walk.steps augment.amount after

-- Such pushes, one after the other, lead from the first flow to the last.
abbrev pub ArePushed : Network → ℚ → List ℚ → List Augment → List ℚ → Type 0
ArePushed net amount flows [] last = flows ≡ last
ArePushed net amount flows (augment ∷ walks) last = (next : List ℚ) × IsFullPush net amount flows augment next
    × ArePushed net amount next walks last

-- ---- the results
-- A quickest flow that results from the flow 0 by at most `augments` pushes. No residual walk from source to sink is shorter than its time.
-- Repeating the static flow delivers the amount by that time. The walks of the quickest flow carry the whole static flow. The cut times
-- follow from its residual distances.
pub record ComesOfPushes (net : Network) (amount : ℚ) (augments : ℕ) (quick : Quick) : Type 0 where
  pub walks : List Augment
  pub within : length walks ≤ augments
  pub flows : List ℚ
  pub pushed : ArePushed net amount (no_flow net) walks flows
  pub none_shorter : (walk : List Step) → IsResidualWalk net flows walk net.source net.sink → quick.time ≤ℚ walk_length net walk
  pub comes : repeated net flows quick.time ≡ amount
  pub carried : (e : ℕ) → through quick.walks e ≡ number_at flows e
  pub cut : AreNodeTimes net flows quick.time quick.cut

-- Exactly `augments` walks were pushed, and the next one is shorter than the time of the resulting flow.
pub record EndsAtBudget (net : Network) (amount : ℚ) (augments : ℕ) (walks : List Augment) : Type 0 where
  pub many : length walks ≡ augments
  pub flows : List ℚ
  pub pushed : ArePushed net amount (no_flow net) walks flows
  pub next : Walk
  pub next_is : IsShortestWalk net flows next
  pub time : ℚ
  pub time_is : IsTimeOf net amount flows time
  pub shorter : next.length <ℚ time
