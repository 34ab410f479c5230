-- The curve operations: how the curves of each link are extended in a phase, in link order.
use Rattle.std.specs.Prelude.{ℕ, Bool, true, false, List, Option, Some, None, slice_get, unwrap_or, Ok}
use Rattle.std.specs.List.{enumerate_from}
use Rattle.nf_rational.specs.Rational.{ℚ}
use Rattle.nf_rational.specs.Operations.{0ℚ}
use Rattle.nf_frac_def.specs.Passing.{Passing}
use Rattle.nf_frac_def.specs.Checked.{Checked, checked, each, ◌>>=◌}
use Rattle.nf_frac_def.specs.declared.Op.TheVariants.{Sum, Difference, Product, Quotient}
use Rattle.nf_model.specs.declared.State.{State}
use Rattle.nf_model.specs.declared.State.TheVariants.{Full}
use Rattle.nf_model.specs.Entries.{number_at}
use Rattle.nf_model.specs.Network.{Link, Network}
use Rattle.nf_model.specs.ThinFlow.{Sets}
use Rattle.nf_model.specs.Pattern.{Pattern}
use Rattle.nf_rational.specs.Signs.{is_positive}

-- The extension of a queue: its size at the phase's end, and its slope until then, by the time at the link's tail.
pub record QueueStep : Type 0 where
  pub size : ℚ
  pub slope : ℚ

-- The extension of a link's curves in a phase. `amount` has entered the link by the phase's end. The inflow rate is by the time at the
-- tail, and the outflow rate by the time at the head. There is no inflow rate and no queue step if the tail's label is constant, since no
-- time passes at the tail. There is no outflow rate if the head's label is constant.
pub record LinkStep : Type 0 where
  pub amount : ℚ
  pub inflow_rate : Option ℚ
  pub outflow_rate : Option ℚ
  pub queue : Option QueueStep

-- The flow fills the link: the link is resetting or Full.
abbrev pub is_filled : Option State → Bool → Bool
is_filled (Some Full) resetting = true
is_filled state resetting = resetting

-- The values that the operations read for a link. The labels of its ends are those at the phase's end, and the slopes are of these labels.
pub record LinkPhase : Type 0 where
  pub capacity : Option ℚ
  pub transit : ℚ
  pub flow : ℚ
  pub filled : Bool
  pub tail_slope : ℚ
  pub head_slope : ℚ
  pub tail_label : ℚ
  pub head_label : ℚ

-- The values of a link with its number. The flow is 0 if the link is not active.
abbrev pub link_phase : Sets → Pattern → List ℚ → List ℚ → List ℚ → ℕ × Link → LinkPhase
link_phase sets pattern flows slopes labels (e, link) = record {
  capacity = link.capacity;
  transit = link.transit;
  flow = number_at flows e;
  filled = is_filled (unwrap_or (slice_get pattern e) None) (unwrap_or (slice_get sets.resetting e) false);
  tail_slope = number_at slopes link.tail;
  head_slope = number_at slopes link.head;
  tail_label = number_at labels link.tail;
  head_label = number_at labels link.head;
}

module _ (passes : Passing) where
  -- Flow over slope, if the slope is greater than 0.
  abbrev pub rate_over : Bool → ℚ → ℚ → Checked (Option ℚ)
  rate_over false flow slope = Ok None
  rate_over true flow slope = do
    rate ← checked passes Quotient flow slope
    Ok (Some rate)

  -- Capacity times slack, if the slack is greater than 0.
  abbrev pub size_at : Bool → Option ℚ → ℚ → Checked ℚ
  size_at true (Some capacity) slack = checked passes Product capacity slack
  size_at above capacity slack = Ok 0ℚ

  -- Inflow rate less capacity, if the link is filled.
  abbrev pub slope_at : Bool → Option ℚ → ℚ → Checked ℚ
  slope_at true (Some capacity) rate = checked passes Difference rate capacity
  slope_at filled capacity rate = Ok 0ℚ

  -- The queue step, if there is an inflow rate.
  abbrev pub queue_step : LinkPhase → Option ℚ → Checked (Option QueueStep)
  queue_step link None = Ok None
  queue_step link (Some rate) = do
    a ← checked passes Sum link.tail_label link.transit
    slack ← checked passes Difference link.head_label a
    size ← size_at (is_positive slack) link.capacity slack
    slope ← slope_at link.filled link.capacity rate
    Ok (Some (record { size = size; slope = slope }))

  abbrev pub link_step : ℚ → ℚ → LinkPhase → Checked LinkStep
  link_step length so_far link = do
    p ← checked passes Product length link.flow
    amount ← checked passes Sum so_far p
    inflow_rate ← rate_over (is_positive link.tail_slope) link.flow link.tail_slope
    outflow_rate ← rate_over (is_positive link.head_slope) link.flow link.head_slope
    queue ← queue_step link inflow_rate
    Ok (record { amount = amount; inflow_rate = inflow_rate; outflow_rate = outflow_rate; queue = queue })

  -- The curve operations of all links. `labels` are at the phase's end; `amounts` had entered the links by the phase's start.
  unfoldable pub curve_list : Network → Sets → Pattern → ℚ → List ℚ → List ℚ → List ℚ → List ℚ → Checked (List LinkStep)
  curve_list net sets pattern length flows slopes labels amounts =
      each (λ numbered. link_step length (number_at amounts numbered.0) (link_phase sets pattern flows slopes labels numbered))
      (enumerate_from 0 net.links)
