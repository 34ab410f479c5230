-- The lists of a phase: slacks, the extension, the labels at the end, and how the curves go on.
use Rattle.std.proofs.Common.{ℕ, List, Bool, true, false, map, Option, Some, None}
use Rattle.nf_phase_run_laws.proofs.Common.{AllByRecursion, enumerate_from, ℚ, 0ℚ, Sum, Difference, Product, Quotient, passes_Q, checked, at_part}
use Rattle.nf_phase_run_laws.proofs.Common.{number_at, Hop, Link, Network, hops, next_change, Sets, slacks_of, sets_at, Pattern, IsFraction, is_zero}
use Rattle.nf_phase_run_laws.proofs.Common.{is_positive, are_opposite, amount_so_far, IsFractionOrNone, Extend, Advance, Curve, lesser, to_zero, after_link}
use Rattle.nf_phase_run_laws.proofs.Common.{least_after, until_change, QueueStep, LinkStep, LinkPhase, rate_over, size_at, slope_at, queue_step, link_step}
use Rattle.nf_phase_run_laws.proofs.Common.{link_phase, Standing, PhaseStep}
use Rattle.nf_thin_def.specs.Slack.{slack_of, slack_list}
use Rattle.nf_thin_def.specs.Extend.{extend_list}
use Rattle.nf_thin_def.specs.Advance.{Advanced, label_after, labels_after, advance_list, cut_at}
use Rattle.nf_thin_def.specs.CurveList.{curve_list}
use Rattle.nf_thin_def.specs.PhaseRun.{phase_lists}
use Rattle.nf_phase_run_laws.proofs.Lists.{all_numbered}
use Rattle.nf_phase_run_laws.proofs.Fractions.{AreFractions, zero_fraction, least_fraction, number_fraction, IsFractionLink, HasFractions, change_fraction}
use Rattle.nf_phase_run_laws.proofs.Fractions.{hop_fractions}
use Rattle.nf_phase_run_laws.proofs.Fits.{Fits, AreOperands, AreOperandsAt, ok_fits, then_fits, each_fits, fold_fits, part_fits, one}

-- ---- slacks
slack_fits : (labels : List ℚ) (hop : Hop) → AreFractions labels → IsFraction hop.transit → Fits AreOperands IsFraction (slack_of passes_Q labels hop)
unfolding slack_of
slack_fits labels hop all h =
    then_fits (checked passes_Q Sum (number_at labels hop.tail) hop.transit) _
    (one Sum (number_at labels hop.tail) hop.transit (number_fraction labels hop.tail all) h)
    (λ a k. one Difference (number_at labels hop.head) a (number_fraction labels hop.head all) k)

pub slack_list_fits : (net : Network) → HasFractions net → (labels : List ℚ) → AreFractions labels → Fits AreOperands AreFractions (slack_list passes_Q (hops net) labels)
unfolding slack_list
slack_list_fits net has labels all =
    each_fits AreOperands (λ (hop : Hop). IsFraction hop.transit) IsFraction (slack_of passes_Q labels) (λ hop h. slack_fits labels hop all h) (hops net) (hop_fractions net has)

abbrev AreAdvanced : Advanced → Type 0
AreAdvanced advanced = IsFraction advanced.length × AreFractions advanced.labels

-- ---- the extension
lesser_fraction : (least : Option ℚ) (length : ℚ) → IsFractionOrNone least → IsFraction length → IsFractionOrNone (lesser least length)
lesser_fraction None length h k = k
lesser_fraction (Some least) length h k = least_fraction least length h k

to_zero_fits : (goes : Bool) (least : Option ℚ) (slack change : ℚ) → IsFractionOrNone least → IsFraction slack → IsFraction change
    → Fits AreOperands IsFractionOrNone (to_zero passes_Q goes least slack change)
to_zero_fits false least slack change h k l = ok_fits AreOperands IsFractionOrNone least h
to_zero_fits true least slack change h k l = then_fits (checked passes_Q Difference 0ℚ slack) _ (one Difference 0ℚ slack zero_fraction k)
    (λ m n. then_fits (checked passes_Q Quotient m change) _ (one Quotient m change n l)
    (λ length o. ok_fits AreOperands IsFractionOrNone (lesser least length) (lesser_fraction least length h o)))

after_link_fits : (zero : Bool) (least : Option ℚ) (slack tail_slope head_slope : ℚ) → IsFractionOrNone least → IsFraction slack → IsFraction tail_slope → IsFraction head_slope
    → Fits AreOperands IsFractionOrNone (after_link passes_Q zero least slack tail_slope head_slope)
after_link_fits true least slack tail_slope head_slope h k l m = ok_fits AreOperands IsFractionOrNone least h
after_link_fits false least slack tail_slope head_slope h k l m =
    then_fits (checked passes_Q Difference head_slope tail_slope) _ (one Difference head_slope tail_slope m l)
    (λ change n. to_zero_fits (are_opposite slack change) least slack change h k n)

until_fits : (least : Option ℚ) (time : ℚ) (change : Option ℚ) → IsFractionOrNone least → IsFraction time → IsFractionOrNone change
    → Fits AreOperands IsFractionOrNone (until_change passes_Q least time change)
until_fits least time None h k l = ok_fits AreOperands IsFractionOrNone least h
until_fits least time (Some change) h k l =
    then_fits (checked passes_Q Difference change time) _ (one Difference change time l k)
    (λ length m. ok_fits AreOperands IsFractionOrNone (lesser least length) (lesser_fraction least length h m))

module _ (net : Network) (has : HasFractions net) where
  extend_fits : (slacks slopes : List ℚ) (time : ℚ) → AreFractions slacks → AreFractions slopes → IsFraction time
      → Fits AreOperands IsFractionOrNone (extend_list passes_Q net slacks slopes time)
  unfolding extend_list
  extend_fits slacks slopes time h k l = then_fits _ _
      (fold_fits AreOperands (λ (numbered : ℕ × Link). IsFractionLink numbered.1) IsFractionOrNone (least_after passes_Q slacks slopes)
      (λ least numbered m n. after_link_fits (is_zero (number_at slacks numbered.0)) least (number_at slacks numbered.0) (number_at slopes numbered.1.tail)
      (number_at slopes numbered.1.head) m
      (number_fraction slacks numbered.0 h) (number_fraction slopes numbered.1.tail k) (number_fraction slopes numbered.1.head k))
      None (enumerate_from 0 net.links) tt (all_numbered IsFractionLink 0 net.links has.links))
      (λ least m. until_fits least time (next_change net time) m l (change_fraction net has time))

  -- ---- the labels at the end
  cut_fraction : (left : ℚ) (extension : Option ℚ) → IsFraction left → IsFractionOrNone extension → IsFraction (cut_at left extension)
  cut_fraction left None h k = h
  cut_fraction left (Some extension) h k = least_fraction left extension h k

  label_fits : (length : ℚ) (slopes : List ℚ) (numbered : ℕ × ℚ) → IsFraction length → AreFractions slopes → IsFraction numbered.1
      → Fits AreOperands IsFraction (label_after passes_Q length slopes numbered)
  label_fits length slopes numbered h k l = then_fits (checked passes_Q Product length (number_at slopes numbered.0)) _
      (one Product length (number_at slopes numbered.0) h (number_fraction slopes numbered.0 k)) (λ p m. one Sum numbered.1 p l m)

  labels_fit : (length : ℚ) (labels slopes : List ℚ) → IsFraction length → AreFractions labels → AreFractions slopes
      → Fits AreOperands AreFractions (labels_after passes_Q length labels slopes)
  unfolding labels_after
  labels_fit length labels slopes h k l = each_fits AreOperands (λ (numbered : ℕ × ℚ). IsFraction numbered.1) IsFraction (label_after passes_Q length slopes)
      (λ numbered m. label_fits length slopes numbered h l m) (enumerate_from 0 labels) (all_numbered IsFraction 0 labels k)

  advance_fits : (horizon time : ℚ) (extension : Option ℚ) (labels slopes : List ℚ) → IsFraction horizon → IsFraction time → IsFractionOrNone extension
      → AreFractions labels → AreFractions slopes
      → Fits AreOperands AreAdvanced (advance_list passes_Q horizon time extension labels slopes)
  unfolding advance_list
  advance_fits horizon time extension labels slopes h k l m n = then_fits (checked passes_Q Difference horizon time) _ (one Difference horizon time h k)
      (λ left o. (let cut : IsFraction (cut_at left extension) = cut_fraction left extension o l in
      then_fits (labels_after passes_Q (cut_at left extension) labels slopes) _ (labels_fit (cut_at left extension) labels slopes cut m n)
      (λ new all. ok_fits AreOperands AreAdvanced (record { length = cut_at left extension; labels = new }) (cut, all))))

-- ---- how the curves go on
pub record IsFractionQueue (queue : QueueStep) : Type 0 where
  pub size : IsFraction queue.size
  pub slope : IsFraction queue.slope

abbrev pub IsFractionQueueOrNone : Option QueueStep → Type 0
IsFractionQueueOrNone None = Unit {0}
IsFractionQueueOrNone (Some queue) = IsFractionQueue queue

pub record IsFractionStep (step : LinkStep) : Type 0 where
  pub amount : IsFraction step.amount
  pub inflow_rate : IsFractionOrNone step.inflow_rate
  pub outflow_rate : IsFractionOrNone step.outflow_rate
  pub queue : IsFractionQueueOrNone step.queue

record IsFractionPhase (link : LinkPhase) : Type 0 where
  pub capacity : IsFractionOrNone link.capacity
  pub transit : IsFraction link.transit
  pub flow : IsFraction link.flow
  pub tail_slope : IsFraction link.tail_slope
  pub head_slope : IsFraction link.head_slope
  pub tail_label : IsFraction link.tail_label
  pub head_label : IsFraction link.head_label

rate_fits : (moves : Bool) (flow slope : ℚ) → IsFraction flow → IsFraction slope → Fits AreOperands IsFractionOrNone (rate_over passes_Q moves flow slope)
rate_fits false flow slope h k = ok_fits AreOperands IsFractionOrNone None tt
rate_fits true flow slope h k = then_fits (checked passes_Q Quotient flow slope) _ (one Quotient flow slope h k) (λ rate l. ok_fits AreOperands IsFractionOrNone (Some rate) l)

size_fits : (above : Bool) (capacity : Option ℚ) (slack : ℚ) → IsFractionOrNone capacity → IsFraction slack → Fits AreOperands IsFraction (size_at passes_Q above capacity slack)
size_fits true (Some capacity) slack h k = one Product capacity slack h k
size_fits true None slack h k = ok_fits AreOperands IsFraction 0ℚ zero_fraction
size_fits false capacity slack h k = ok_fits AreOperands IsFraction 0ℚ zero_fraction

slope_fits : (filled : Bool) (capacity : Option ℚ) (rate : ℚ) → IsFractionOrNone capacity → IsFraction rate → Fits AreOperands IsFraction (slope_at passes_Q filled capacity rate)
slope_fits true (Some capacity) rate h k = one Difference rate capacity k h
slope_fits true None rate h k = ok_fits AreOperands IsFraction 0ℚ zero_fraction
slope_fits false capacity rate h k = ok_fits AreOperands IsFraction 0ℚ zero_fraction

queue_fits : (link : LinkPhase) (rate : Option ℚ) → IsFractionPhase link → IsFractionOrNone rate → Fits AreOperands IsFractionQueueOrNone (queue_step passes_Q link rate)
queue_fits link None h k = ok_fits AreOperands IsFractionQueueOrNone None tt
queue_fits link (Some rate) h k = then_fits (checked passes_Q Sum link.tail_label link.transit) _ (one Sum link.tail_label link.transit h.tail_label h.transit)
    (λ a l. then_fits (checked passes_Q Difference link.head_label a) _ (one Difference link.head_label a h.head_label l)
    (λ slack m. then_fits (size_at passes_Q (is_positive slack) link.capacity slack) _ (size_fits (is_positive slack) link.capacity slack h.capacity m)
    (λ size n. then_fits (slope_at passes_Q link.filled link.capacity rate) _ (slope_fits link.filled link.capacity rate h.capacity k)
    (λ slope o. ok_fits AreOperands IsFractionQueueOrNone (Some (record { size = size; slope = slope })) (record { size = n; slope = o })))))

step_fits : (length so_far : ℚ) (link : LinkPhase) → IsFraction length → IsFraction so_far → IsFractionPhase link
    → Fits AreOperands IsFractionStep (link_step passes_Q length so_far link)
step_fits length so_far link h k l = then_fits (checked passes_Q Product length link.flow) _ (one Product length link.flow h l.flow)
    (λ p m. then_fits (checked passes_Q Sum so_far p) _ (one Sum so_far p k m)
    (λ amount n. then_fits (rate_over passes_Q (is_positive link.tail_slope) link.flow link.tail_slope) _
    (rate_fits (is_positive link.tail_slope) link.flow link.tail_slope l.flow l.tail_slope)
    (λ inflow_rate o. then_fits (rate_over passes_Q (is_positive link.head_slope) link.flow link.head_slope) _
    (rate_fits (is_positive link.head_slope) link.flow link.head_slope l.flow l.head_slope)
    (λ outflow_rate q. then_fits (queue_step passes_Q link inflow_rate) _ (queue_fits link inflow_rate l o)
    (λ queue r. ok_fits AreOperands IsFractionStep (record { amount = amount; inflow_rate = inflow_rate; outflow_rate = outflow_rate; queue = queue })
    (record { amount = n; inflow_rate = o; outflow_rate = q; queue = r }))))))

-- what a phase comes to
pub record AreSteps (step : PhaseStep) : Type 0 where
  pub length : IsFraction step.length
  pub labels : AreFractions step.labels
  pub links : AllByRecursion IsFractionStep step.links

module _ (net : Network) (has : HasFractions net) where
  phase_fractions : (sets : Sets) (pattern : Pattern) (flows slopes labels : List ℚ) (numbered : ℕ × Link) → AreFractions flows → AreFractions slopes
      → AreFractions labels → IsFractionLink numbered.1
      → IsFractionPhase (link_phase sets pattern flows slopes labels numbered)
  phase_fractions sets pattern flows slopes labels (e, link) h k l m = record {
    capacity = m.1;
    transit = m.0;
    flow = number_fraction flows e h;
    tail_slope = number_fraction slopes link.tail k;
    head_slope = number_fraction slopes link.head k;
    tail_label = number_fraction labels link.tail l;
    head_label = number_fraction labels link.head l;
  }

  curve_fits : (sets : Sets) (pattern : Pattern) (length : ℚ) (flows slopes labels amounts : List ℚ) → IsFraction length → AreFractions flows
      → AreFractions slopes → AreFractions labels → AreFractions amounts
      → Fits AreOperands (AllByRecursion IsFractionStep) (curve_list passes_Q net sets pattern length flows slopes labels amounts)
  unfolding curve_list
  curve_fits sets pattern length flows slopes labels amounts h k l m n = each_fits AreOperands (λ (numbered : ℕ × Link). IsFractionLink numbered.1) IsFractionStep _
      (λ (numbered : ℕ × Link) o. step_fits length (number_at amounts numbered.0) (link_phase sets pattern flows slopes labels numbered) h (number_fraction amounts numbered.0 n)
      (phase_fractions sets pattern flows slopes labels numbered k l m o))
      (enumerate_from 0 net.links) (all_numbered IsFractionLink 0 net.links has.links)

  -- ---- the three lists in order
  pub phase_fits : (horizon : ℚ) (s : Standing) (pattern : Pattern) (flows slopes : List ℚ) → IsFraction horizon → IsFraction s.time → AreFractions s.labels
      → AreFractions (slacks_of (hops net) s.labels)
      → AreFractions (map amount_so_far s.link_curves) → AreFractions flows → AreFractions slopes → Fits AreOperandsAt AreSteps (phase_lists passes_Q net horizon s pattern flows slopes)
  unfolding phase_lists
  phase_fits horizon s pattern flows slopes h t l k a f p =
      let slacks : List ℚ = slacks_of (hops net) s.labels in
      then_fits (at_part Extend (extend_list passes_Q net slacks slopes s.time)) _
      (part_fits Extend (extend_list passes_Q net slacks slopes s.time) (extend_fits net has slacks slopes s.time k p t))
      (λ extension m. then_fits (at_part Advance (advance_list passes_Q horizon s.time extension s.labels slopes)) _
      (part_fits Advance (advance_list passes_Q horizon s.time extension s.labels slopes) (advance_fits net has horizon s.time extension s.labels slopes h t m l p))
      (λ advanced n. (let amounts : List ℚ = map amount_so_far s.link_curves in
      let links = curve_list passes_Q net (sets_at net s.labels) pattern advanced.length flows slopes advanced.labels amounts in
      then_fits (at_part Curve links) _
      (part_fits Curve links (curve_fits (sets_at net s.labels) pattern advanced.length flows slopes advanced.labels amounts n.0 f p n.1 a))
      (λ steps o. ok_fits AreOperandsAt AreSteps (record { length = advanced.length; labels = advanced.labels; links = steps }) (record { length = n.0; labels = n.1; links = o })))))
