-- The invariant of phases: a property of the curves of a flow at every departure up to `until`, preserved by each phase. Functions of time
-- give the flow. `amount e time` is the amount that entered link e by that time. `label v departure` is the earliest arrival at node v of
-- particles that leave the source at that departure.
use Rattle.std.specs.Prelude.{◌≡◌, ◌≢◌, ℕ, ◌<◌, List, length, Option, Some, None, slice_get}
use Rattle.nf_rational.specs.Rational.{ℚ}
use Rattle.nf_rational.specs.Operations.{0ℚ, ◌+ℚ◌, ◌-ℚ◌, ◌*ℚ◌}
use Rattle.nf_rational.specs.Order.{◌≤ℚ◌, ◌<ℚ◌, max_ℚ}
use Rattle.nf_model.specs.Entries.{number_at}
use Rattle.nf_model.specs.Curve.{Within}
use Rattle.nf_model.specs.Network.{Link, Network, IsLink, sum_in, sum_out, supply}
use Rattle.nf_model.specs.Queue.{IsQueue}
use Rattle.nf_model_laws.specs.Affine.{IsAffine}
use Rattle.nf_model_laws.specs.EarliestLaws.{InflowsRise}

-- The slack of a link: the label of its head minus the label of its tail and the transit time.
abbrev pub link_slack : (ℕ → ℚ → ℚ) → Link → ℚ → ℚ
link_slack label link departure = label link.head departure -ℚ (label link.tail departure +ℚ link.transit)

-- The queue whose waiting time is the slack, if the slack is above 0; 0 for an unbounded link.
abbrev pub queue_by_slack : Option ℚ → ℚ → ℚ
queue_by_slack None slack = 0ℚ
queue_by_slack (Some capacity) slack = capacity *ℚ max_ℚ 0ℚ slack

-- The tail of a link.
abbrev pub tail_or : Option Link → ℕ
tail_or None = 0
tail_or (Some link) = link.tail

abbrev pub tail_of : Network → ℕ → ℕ
tail_of net e = tail_or (slice_get net.links e)

-- The amount sent into link e of what leaves the source by a departure.
abbrev pub sent : Network → (ℕ → ℚ → ℚ) → (ℕ → ℚ → ℚ) → ℕ → ℚ → ℚ
sent net amount label e departure = amount e (label (tail_of net e) departure)

pub record HoldsUpTo (net : Network) (amount label : ℕ → ℚ → ℚ) (until : ℚ) : Type 0 where
  pub begun : 0ℚ ≤ℚ until
  -- Labels never fall, attain each value between two of theirs, and are not negative. The label of the source is the departure.
  pub source : (departure : ℚ) → Within 0ℚ until departure → label net.source departure ≡ departure
  pub label_rises : (v : ℕ) (earlier later : ℚ) → v < net.nodes → 0ℚ ≤ℚ earlier → earlier ≤ℚ later → later ≤ℚ until
      → label v earlier ≤ℚ label v later
  pub label_takes : (v : ℕ) (time : ℚ) → v < net.nodes → label v 0ℚ ≤ℚ time → time ≤ℚ label v until
      → (departure : ℚ) × Within 0ℚ until departure × (label v departure ≡ time)
  pub label_not_negative : (v : ℕ) → v < net.nodes → 0ℚ ≤ℚ label v 0ℚ
  -- Nothing is on the links at time 0, nothing is sent into them before the flow that leaves the source at time 0, and inflows never fall.
  pub amount_rises : InflowsRise net amount
  pub amount_starts : (e : ℕ) → e < length net.links → amount e 0ℚ ≡ 0ℚ
  pub sent_starts : (e : ℕ) (link : Link) → IsLink net e link → sent net amount label e 0ℚ ≡ 0ℚ
  -- The sent amounts are a static flow whose value is the supply.
  pub inner : (v : ℕ) (departure : ℚ) → v < net.nodes → v ≢ net.source → v ≢ net.sink → Within 0ℚ until departure
      → sum_in net.links (λ e. sent net amount label e departure) v ≡ sum_out net.links (λ e. sent net amount label e departure) v
  pub supplied : (departure : ℚ) → Within 0ℚ until departure
      → sum_in net.links (λ e. sent net amount label e departure) net.source +ℚ supply net departure
      ≡ sum_out net.links (λ e. sent net amount label e departure) net.source
  pub drained : (departure : ℚ) → Within 0ℚ until departure
      → sum_in net.links (λ e. sent net amount label e departure) net.sink
      ≡ sum_out net.links (λ e. sent net amount label e departure) net.sink +ℚ supply net departure
  -- The queue that a particle meets is the queue of the slack, and no slack of an unbounded link is above 0.
  pub queue : (e : ℕ) (link : Link) (departure : ℚ) → IsLink net e link → Within 0ℚ until departure
      → IsQueue link.capacity (amount e) (label link.tail departure) (queue_by_slack link.capacity (link_slack label link departure))
  pub unbounded : (e : ℕ) (link : Link) (departure : ℚ) → IsLink net e link → link.capacity ≡ None → Within 0ℚ until departure
      → link_slack label link departure ≤ℚ 0ℚ
  -- An active link leads into each node except the source.
  pub entered : (v : ℕ) (departure : ℚ) → v < net.nodes → v ≢ net.source → Within 0ℚ until departure
      → (e : ℕ) × (link : Link) × IsLink net e link × (link.head ≡ v) × (0ℚ ≤ℚ link_slack label link departure)
  -- If the slack is at most 0, nothing entered the link since the latest time of entry that reaches the head by its label, and no queue
  -- existed at that time.
  pub idle : (e : ℕ) (link : Link) (departure time : ℚ) → IsLink net e link → Within 0ℚ until departure
      → link_slack label link departure ≤ℚ 0ℚ
      → 0ℚ ≤ℚ time → label link.head departure -ℚ link.transit ≤ℚ time → time ≤ℚ label link.tail departure
      → amount e time ≡ sent net amount label e departure
  pub idle_queue : (e : ℕ) (link : Link) (departure : ℚ) → IsLink net e link → Within 0ℚ until departure
      → link_slack label link departure ≤ℚ 0ℚ
      → 0ℚ ≤ℚ label link.head departure -ℚ link.transit → IsQueue link.capacity (amount e) (label link.head departure -ℚ link.transit) 0ℚ
  -- Whatever is sent into a link directly after a departure is sent into an active link.
  pub used : (e : ℕ) (link : Link) (departure : ℚ) → IsLink net e link → 0ℚ ≤ℚ departure → departure <ℚ until
      → ((later : ℚ) → departure <ℚ later → later ≤ℚ until → sent net amount label e departure <ℚ sent net amount label e later)
      → 0ℚ ≤ℚ link_slack label link departure

-- `labels` are the labels of the nodes at a departure.
abbrev pub LabelsAre : Network → (ℕ → ℚ → ℚ) → ℚ → List ℚ → Type 0
LabelsAre net label departure labels = (v : ℕ) → v < net.nodes → label v departure ≡ number_at labels v

-- The start: nothing enters a link, and `labels` are the labels of departure 0.
pub record StartsEmpty (net : Network) (labels : List ℚ) (amount label : ℕ → ℚ → ℚ) : Type 0 where
  pub nothing : (e : ℕ) (time : ℚ) → e < length net.links → 0ℚ ≤ℚ time → amount e time ≡ 0ℚ
  pub labels_are : LabelsAre net label 0ℚ labels

-- A flow is extended from departure `until` by `length`; everything before stays. Each label changes at its slope. While the label of its
-- tail rises, a link receives flow at one rate, which per departure is `flow`; afterwards it receives nothing.
pub record GoesOn (net : Network) (amount label : ℕ → ℚ → ℚ) (until length : ℚ) (flow slope : ℕ → ℚ)
    (amount' label' : ℕ → ℚ → ℚ) : Type 0 where
  pub label_before : (v : ℕ) (departure : ℚ) → v < net.nodes → Within 0ℚ until departure → label' v departure ≡ label v departure
  pub label_after : (v : ℕ) (while : ℚ) → v < net.nodes → Within 0ℚ length while
      → label' v (until +ℚ while) ≡ label v until +ℚ slope v *ℚ while
  pub amount_before : (e : ℕ) (link : Link) (time : ℚ) → IsLink net e link → Within 0ℚ (label link.tail until) time
      → amount' e time ≡ amount e time
  pub amount_after : (e : ℕ) (link : Link) → IsLink net e link → (rate : ℚ) × (rate *ℚ slope link.tail ≡ flow e)
      × IsAffine (amount' e) (label link.tail until) (label link.tail until +ℚ slope link.tail *ℚ length) rate
  pub amount_ends : (e : ℕ) (link : Link) (time : ℚ) → IsLink net e link → label link.tail until +ℚ slope link.tail *ℚ length ≤ℚ time
      → amount' e time ≡ amount' e (label link.tail until +ℚ slope link.tail *ℚ length)
