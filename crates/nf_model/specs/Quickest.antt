-- Feasible flows over time with waiting at nodes, cuts over time, and quickest flows. The form in continuous time is this project's own.
-- Ford and Fulkerson 1958 introduced temporally repeated flows, in discrete time. These definitions ignore the network's supply.
use Rattle.std.specs.Prelude.{◌≡◌, ◌≢◌, ℕ, ◌<◌, ◌==◌, if◌then◌else◌, List, [], ◌∷◌, length, Option, Some, None}
use Rattle.nf_rational.specs.Rational.{ℚ}
use Rattle.nf_rational.specs.Operations.{0ℚ, ◌+ℚ◌, ◌-ℚ◌, ◌*ℚ◌}
use Rattle.nf_rational.specs.Order.{◌≤ℚ◌, min_ℚ, max_ℚ}
use Rattle.nf_model.specs.Entries.{number_at}
use Rattle.nf_model.specs.Curve.{NeverFalls, HasCurve}
use Rattle.nf_model.specs.Walk.{Hop, transit_of, transit_sum}
use Rattle.nf_model.specs.Network.{Link, Network, IsLink, sum_in, sum_out}

-- ---- feasible flows: `entered e time` and `left e time` are the amounts that entered and left link e by a time

-- f is an amount: f is 0 up to time 0, never falls, and is a curve from time 0 on
pub record IsAmount (f : ℚ → ℚ) : Type 0 where
  pub before : (time : ℚ) → time ≤ℚ 0ℚ → f time ≡ 0ℚ
  pub rises : NeverFalls f
  pub has_curve : HasCurve f

-- The flow is feasible. Flow leaves a link no earlier than one transit time after its entry. A link lets out at most its capacity per
-- unit of time. No more leaves a node other than the source than has arrived there.
pub record IsFeasible (net : Network) (entered left : ℕ → ℚ → ℚ) : Type 0 where
  pub amounts_entered : (e : ℕ) → e < length net.links → IsAmount (entered e)
  pub amounts_left : (e : ℕ) → e < length net.links → IsAmount (left e)
  pub transit : (e : ℕ) (link : Link) (time : ℚ) → IsLink net e link → left e time ≤ℚ entered e (time -ℚ link.transit)
  pub capacity : (e : ℕ) (link : Link) (rate earlier later : ℚ) → IsLink net e link → link.capacity ≡ Some rate → earlier ≤ℚ later
      → (left e later -ℚ left e earlier) ≤ℚ (rate *ℚ (later -ℚ earlier))
  pub nodes : (v : ℕ) (time : ℚ) → v < net.nodes → v ≢ net.source
      → sum_out net.links (λ e. entered e time) v ≤ℚ sum_in net.links (λ e. left e time) v

-- returns the amount that arrived at the sink by a time, less what left the sink again
abbrev pub delivered : Network → (ℕ → ℚ → ℚ) → (ℕ → ℚ → ℚ) → ℚ → ℚ
delivered net entered left time = sum_in net.links (λ e. left e time) net.sink -ℚ sum_out net.links (λ e. entered e time) net.sink

-- the flow is feasible and delivers at least this amount by a time
pub record Delivers (net : Network) (entered left : ℕ → ℚ → ℚ) (amount time : ℚ) : Type 0 where
  pub feasible : IsFeasible net entered left
  pub enough : amount ≤ℚ delivered net entered left time

-- This is the least time by which a feasible flow delivers the amount. Some flow delivers the amount by this time. No flow delivers it by
-- an earlier time that is at least 0.
pub record IsQuickest (net : Network) (amount time : ℚ) : Type 0 where
  pub not_negative : 0ℚ ≤ℚ time
  pub entered : ℕ → ℚ → ℚ
  pub left : ℕ → ℚ → ℚ
  pub delivers : Delivers net entered left amount time
  pub least : (other_entered other_left : ℕ → ℚ → ℚ) (other : ℚ) → 0ℚ ≤ℚ other → Delivers net other_entered other_left amount other
      → time ≤ℚ other

-- ---- cuts over time

-- A cut over time has one time for each node, 0 at the source and `time` at the sink. Along an unbounded link the node time grows by at
-- most the transit time.
pub record IsCut (net : Network) (time : ℚ) (cut : List ℚ) : Type 0 where
  pub count : length cut ≡ net.nodes
  pub source : number_at cut net.source ≡ 0ℚ
  pub sink : number_at cut net.sink ≡ time
  pub unbounded : (e : ℕ) (link : Link) → IsLink net e link → link.capacity ≡ None
      → number_at cut link.head ≤ℚ (number_at cut link.tail +ℚ link.transit)

-- returns the greatest amount that a link passes on between the times of its ends: 0, or the capacity times the duration by which the
-- head's time exceeds the tail's time plus the transit time. On an unbounded link of a cut the amount is 0.
abbrev pub let_through : Option ℚ → ℚ → ℚ → ℚ → ℚ
let_through None transit tail_time head_time = 0ℚ
let_through (Some capacity) transit tail_time head_time = capacity *ℚ max_ℚ 0ℚ (head_time -ℚ transit -ℚ tail_time)

-- sums `let_through` over the links
abbrev pub cut_sum : List Link → List ℚ → ℚ
cut_sum [] cut = 0ℚ
cut_sum (link ∷ links) cut = let_through link.capacity link.transit (number_at cut link.tail) (number_at cut link.head) +ℚ cut_sum links cut

abbrev pub cut_value : Network → List ℚ → ℚ
cut_value net cut = cut_sum net.links cut

-- ---- temporally repeated flows: walks from source to sink, each fed at its rate from time 0 on, as long as the flow can
-- ---- still arrive by the end

-- a walk and the rate of its feed
pub record Fed : Type 0 where
  pub rate : ℚ
  pub walk : List ℕ

-- returns the amount arrived by `time`, fed at `rate` during [0, `length`] and delayed by `delay`
abbrev pub come : ℚ → ℚ → ℚ → ℚ → ℚ
come rate length delay time = rate *ℚ max_ℚ 0ℚ (min_ℚ length (time -ℚ delay))

-- returns the amount along one walk that entered link e by `time`, if flow reaches the first of these links after `delay`
abbrev pub entered_along : List Hop → ℚ → ℚ → ℕ → List ℕ → ℚ → ℚ → ℚ
entered_along hops rate length e [] delay time = 0ℚ
entered_along hops rate length e (f ∷ walk) delay time =
    (if f == e then come rate length delay time else 0ℚ) +ℚ entered_along hops rate length e walk (delay +ℚ transit_of hops f) time

-- returns the amount along all walks together that entered link e by `time`, if the flow ends at `until`
abbrev pub entered_by : List Hop → List Fed → ℚ → ℕ → ℚ → ℚ
entered_by hops [] until e time = 0ℚ
entered_by hops (fed ∷ rest) until e time =
    entered_along hops fed.rate (until -ℚ transit_sum hops fed.walk) e fed.walk 0ℚ time +ℚ entered_by hops rest until e time

-- returns the amount along all walks together that left link e by `time`: what entered it one transit time before
abbrev pub left_by : List Hop → List Fed → ℚ → ℕ → ℚ → ℚ
left_by hops walks until e time = entered_by hops walks until e (time -ℚ transit_of hops e)
