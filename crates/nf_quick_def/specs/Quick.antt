-- All operations of a quickest flow. Shortest residual walks are pushed with their whole room, until none is left or the next is at least
-- as long as the time. Then the flow is decomposed into walks, and the cut is computed.
use Rattle.std.specs.Prelude.{ℕ, zero, suc, Bool, true, false, if◌then◌else◌, List, [], ◌∷◌, ◌++◌, length, Option, Some, None, unwrap_or, replicate, Ok}
use Rattle.nf_rational.specs.Rational.{ℚ}
use Rattle.nf_rational.specs.Operations.{0ℚ}
use Rattle.nf_rational.specs.Order.{lt_ℚ, le_ℚ}
use Rattle.nf_frac_def.specs.Passing.{Passing}
use Rattle.nf_frac_def.specs.Checked.{Checked, ◌>>=◌}
use Rattle.nf_model.specs.Network.{Network}
use Rattle.nf_model.specs.Quickest.{Fed}
use Rattle.nf_quick_def.specs.Rounds.{Walk, shortest_list, distances_list}
use Rattle.nf_quick_def.specs.Pushes.{push_list, time_list}
use Rattle.nf_quick_def.specs.Walks.{walks_off}
use Rattle.nf_quick_def.specs.Cuts.{node_times_list, value_list}

-- A pushed walk with the pushed rate.
pub record Augment : Type 0 where
  pub walk : Walk
  pub amount : ℚ

-- A quickest flow: its time, its fed walks, and a cut whose value is the amount.
pub record Quick : Type 0 where
  pub time : ℚ
  pub walks : List Fed
  pub cut : List ℚ
  pub value : ℚ

-- The state of the pushes: the flow, the pushed walks, and their totals; no time before the first push.
pub record QuickStanding : Type 0 where
  pub flows : List ℚ
  pub pushed : List Augment
  pub rate : ℚ
  pub cost : ℚ
  pub time : Option ℚ

-- The result of the pushes: no walk is left to push, or the budget is exceeded.
pub data Pushed : Type 0 where
  Done : QuickStanding → Pushed
  OverBudget : List Augment → Pushed

abbrev pub start_of : Network → QuickStanding
start_of net = record { flows = replicate (length net.links) 0ℚ; pushed = []; rate = 0ℚ; cost = 0ℚ; time = None }

-- The walk is shorter than the time. Before the first push there is no time, and each walk counts as shorter.
abbrev pub is_early : ℚ → Option ℚ → Bool
is_early length None = true
is_early length (Some time) = lt_ℚ length time

module _ (passes : Passing) (net : Network) (amount : ℚ) where
  -- The state after a push with the whole room.
  abbrev pub push_on : QuickStanding → Walk → Checked QuickStanding
  push_on s walk = do
    flows ← push_list passes walk.steps walk.room s.flows
    times ← time_list passes amount s.rate s.cost walk.room walk.length
    Ok (record {
      flows = flows;
      pushed = s.pushed ++ record { walk = walk; amount = walk.room } ∷ [];
      rate = times.rate;
      cost = times.cost;
      time = Some times.time;
    })

  -- The walk to push next, if it is shorter than the time.
  abbrev pub next_of : QuickStanding → Option Walk → Option Walk
  next_of s None = None
  next_of s (Some walk) = if is_early walk.length s.time then Some walk else None

  abbrev pub next_list : QuickStanding → Checked (Option Walk)
  next_list s = do
    found ← shortest_list passes net s.flows
    Ok (next_of s found)

  abbrev pub ended : QuickStanding → Option Walk → Pushed
  ended s None = Done s
  ended s (Some walk) = OverBudget s.pushed

  -- The push of the next walk, if there is one, and the later pushes.
  abbrev pub push_and : (QuickStanding → Checked Pushed) → QuickStanding → Option Walk → Checked Pushed
  push_and later s None = Ok (Done s)
  push_and later s (Some walk) = do
    new ← push_on s walk
    later new

  -- At most `left` pushes.
  abbrev pub push_up_to : ℕ → QuickStanding → Checked Pushed
  push_up_to zero s = do
    next ← next_list s
    Ok (ended s next)
  push_up_to (suc left) s = do
    next ← next_list s
    push_and (λ new. push_up_to left new) s next

  -- The quickest flow made of the static flow that the pushes reach.
  unfoldable pub finish_list : List ℚ → ℚ → Checked Quick
  finish_list flows time = do
    walks ← walks_off passes (length net.links) net flows
    from_source ← distances_list passes net flows net.source
    from_sink ← distances_list passes net flows net.sink
    cut ← node_times_list passes time from_source from_sink
    value ← value_list passes net.links cut
    Ok (record { time = time; walks = walks; cut = cut; value = value })

-- The quickest flow, or the pushed walks if the budget is exceeded.
pub data QuickOutcome : Type 0 where
  FoundQuick : Quick → QuickOutcome
  Budget : List Augment → QuickOutcome

-- The result for the amount 0: time 0, no walks, a cut of zeros.
abbrev pub nothing : Network → Quick
nothing net = record { time = 0ℚ; walks = []; cut = replicate net.nodes 0ℚ; value = 0ℚ }

module _ (passes : Passing) (net : Network) (amount : ℚ) where
  abbrev pub answer_list : Pushed → Checked QuickOutcome
  answer_list (OverBudget pushed) = Ok (Budget pushed)
  answer_list (Done s) = do
    quick ← finish_list passes net amount s.flows (unwrap_or s.time 0ℚ)
    Ok (FoundQuick quick)

  abbrev pub quickest_of : Bool → ℕ → Checked QuickOutcome
  quickest_of true augments = Ok (FoundQuick (nothing net))
  quickest_of false augments = push_up_to passes net amount augments (start_of net) >>= answer_list

  -- The definition has a meaning only for networks in which each walk from source to sink has a link with a capacity.
  unfoldable pub quickest_list : ℕ → Checked QuickOutcome
  quickest_list augments = quickest_of (le_ℚ amount 0ℚ) augments
