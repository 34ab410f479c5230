-- If no operation of a sequence passes, its value is also that of the sequence in which fewer operations can pass.
-- So it is the exact value: that of the sequence in which no operation can pass.
use Rattle.std.proofs.Common.{◌≡◌, ℕ, zero, suc, ◌+◌, List, [], ◌∷◌, Bool, true, false, length, refl, sym, ap, ◌∙◌, arith, Option, Some, None, Ok, map}
use Rattle.std.proofs.Common.{slice_get, unwrap_or}
use Rattle.nf_thin_laws.proofs.Common.{enumerate_from, ℚ, 0ℚ, ◌+ℚ◌, ◌-ℚ◌, ◌*ℚ◌, Passing, never, State, Tight, Full, Zero, number_at, Hop, Link, Network}
use Rattle.nf_thin_laws.proofs.Common.{hops, next_change, Sets, slack, slacks_of, moved, Pattern, Sum, Difference, Product, Quotient, Checked, each, ◌>>=◌}
use Rattle.nf_thin_laws.proofs.Common.{is_zero, is_positive, are_opposite, to_zero, after_link, least_after, until_change, Advanced, label_after, cut_at}
use Rattle.nf_thin_laws.proofs.Common.{LinkPhase, rate_over, size_at, slope_at, queue_step, link_step, link_phase}
use Rattle.nf_frac_def.specs.Checked.{checked}
use Rattle.nf_frac_def.proofs.Exact.{GivesAs, PassesFewer, bind, each_as, fold_as, same, same_value, one, none_passes, each_exact}
use Rattle.nf_thin_def.specs.Slack.{slack_of, slack_list}
use Rattle.nf_thin_def.specs.Verdict.{bound_on, bound_of, verdict_list}
use Rattle.nf_thin_def.specs.Extend.{extend_list}
use Rattle.nf_thin_def.specs.Advance.{labels_after, advance_list}
use Rattle.nf_thin_def.specs.CurveList.{curve_list}

module _ (passes fewer : Passing) (none_more : PassesFewer passes fewer) where
  -- ---- each operation sequence
  slack_as : (labels : List ℚ) (hop : Hop) → GivesAs (slack_of passes labels hop) (slack_of fewer labels hop)
  unfolding slack_of
  slack_as labels hop = bind (checked passes Sum (number_at labels hop.tail) hop.transit) (checked fewer Sum (number_at labels hop.tail) hop.transit) _ _
      (one passes fewer none_more Sum (number_at labels hop.tail) hop.transit) (λ a. one passes fewer none_more Difference (number_at labels hop.head) a)

  slack_list_under : (hops : List Hop) (labels : List ℚ) → GivesAs (slack_list passes hops labels) (slack_list fewer hops labels)
  unfolding slack_list
  slack_list_under hops labels = each_as (slack_of passes labels) (slack_of fewer labels) (slack_as labels) hops

  -- ---- verdict
  bound_as : (state : Option State) (capacity : Option ℚ) (head_slope : ℚ) → GivesAs (bound_on passes state capacity head_slope) (bound_on fewer state capacity head_slope)
  bound_as (Some Tight) (Some capacity) head_slope = bind _ _ _ _ (one passes fewer none_more Product capacity head_slope) (λ bound. same (Ok (Some bound)))
  bound_as (Some Tight) None head_slope = same (Ok None)
  bound_as (Some Full) capacity head_slope = same (Ok None)
  bound_as (Some Zero) capacity head_slope = same (Ok None)
  bound_as None capacity head_slope = same (Ok None)

  verdict_list_under : (net : Network) (pattern : Pattern) (slopes : List ℚ) → GivesAs (verdict_list passes net pattern slopes) (verdict_list fewer net pattern slopes)
  unfolding verdict_list
  verdict_list_under net pattern slopes = each_as (bound_of passes pattern slopes) (bound_of fewer pattern slopes)
      (λ numbered. bound_as (unwrap_or (slice_get pattern numbered.0) None) numbered.1.capacity (number_at slopes numbered.1.head)) (enumerate_from 0 net.links)

  -- ---- extend
  to_zero_as : (goes : Bool) (least : Option ℚ) (slack change : ℚ) → GivesAs (to_zero passes goes least slack change) (to_zero fewer goes least slack change)
  to_zero_as false least slack change = same (Ok least)
  to_zero_as true least slack change = bind _ _ _ _ (one passes fewer none_more Difference 0ℚ slack) (λ m. bind _ _ _ _ (one passes fewer none_more Quotient m change) (λ length. same _))

  after_as : (zero : Bool) (least : Option ℚ) (slack tail_slope head_slope : ℚ)
      → GivesAs (after_link passes zero least slack tail_slope head_slope) (after_link fewer zero least slack tail_slope head_slope)
  after_as true least slack tail_slope head_slope = same (Ok least)
  after_as false least slack tail_slope head_slope =
      bind _ _ _ _ (one passes fewer none_more Difference head_slope tail_slope) (λ change. to_zero_as (are_opposite slack change) least slack change)

  until_as : (least : Option ℚ) (time : ℚ) (change : Option ℚ) → GivesAs (until_change passes least time change) (until_change fewer least time change)
  until_as least time None = same (Ok least)
  until_as least time (Some change) = bind _ _ _ _ (one passes fewer none_more Difference change time) (λ length. same _)

  extend_list_under : (net : Network) (slacks slopes : List ℚ) (time : ℚ) → GivesAs (extend_list passes net slacks slopes time) (extend_list fewer net slacks slopes time)
  unfolding extend_list
  extend_list_under net slacks slopes time = bind _ _ _ _
      (fold_as (least_after passes slacks slopes) (least_after fewer slacks slopes)
      (λ least numbered. after_as (is_zero (number_at slacks numbered.0)) least (number_at slacks numbered.0) (number_at slopes numbered.1.tail) (number_at slopes numbered.1.head))
      None (enumerate_from 0 net.links))
      (λ least. until_as least time (next_change net time))

  -- ---- advance
  label_as : (length : ℚ) (slopes : List ℚ) (numbered : ℕ × ℚ) → GivesAs (label_after passes length slopes numbered) (label_after fewer length slopes numbered)
  label_as length slopes numbered = bind _ _ _ _ (one passes fewer none_more Product length (number_at slopes numbered.0)) (λ p. one passes fewer none_more Sum numbered.1 p)

  labels_as : (length : ℚ) (labels slopes : List ℚ) → GivesAs (labels_after passes length labels slopes) (labels_after fewer length labels slopes)
  unfolding labels_after
  labels_as length labels slopes = each_as (label_after passes length slopes) (label_after fewer length slopes) (label_as length slopes) (enumerate_from 0 labels)

  advance_list_under : (horizon time : ℚ) (extension : Option ℚ) (labels slopes : List ℚ)
      → GivesAs (advance_list passes horizon time extension labels slopes) (advance_list fewer horizon time extension labels slopes)
  unfolding advance_list
  advance_list_under horizon time extension labels slopes =
      bind _ _ _ _ (one passes fewer none_more Difference horizon time) (λ left. bind _ _ _ _ (labels_as (cut_at left extension) labels slopes)
      (λ new_labels. same _))

  -- ---- curve
  rate_as : (moves : Bool) (flow slope : ℚ) → GivesAs (rate_over passes moves flow slope) (rate_over fewer moves flow slope)
  rate_as false flow slope = same (Ok None)
  rate_as true flow slope = bind _ _ _ _ (one passes fewer none_more Quotient flow slope) (λ rate. same _)

  size_as : (above : Bool) (capacity : Option ℚ) (slack : ℚ) → GivesAs (size_at passes above capacity slack) (size_at fewer above capacity slack)
  size_as true (Some capacity) slack = one passes fewer none_more Product capacity slack
  size_as true None slack = same (Ok 0ℚ)
  size_as false capacity slack = same (Ok 0ℚ)

  slope_as : (filled : Bool) (capacity : Option ℚ) (rate : ℚ) → GivesAs (slope_at passes filled capacity rate) (slope_at fewer filled capacity rate)
  slope_as true (Some capacity) rate = one passes fewer none_more Difference rate capacity
  slope_as true None rate = same (Ok 0ℚ)
  slope_as false capacity rate = same (Ok 0ℚ)

  queue_as : (link : LinkPhase) (rate : Option ℚ) → GivesAs (queue_step passes link rate) (queue_step fewer link rate)
  queue_as link None = same (Ok None)
  queue_as link (Some rate) = bind _ _ _ _ (one passes fewer none_more Sum link.tail_label link.transit) (λ a. bind _ _ _ _ (one passes fewer none_more Difference link.head_label a)
      (λ slack. bind _ _ _ _ (size_as (is_positive slack) link.capacity slack) (λ size. bind _ _ _ _ (slope_as link.filled link.capacity rate) (λ slope. same _))))

  step_as : (length so_far : ℚ) (link : LinkPhase) → GivesAs (link_step passes length so_far link) (link_step fewer length so_far link)
  step_as length so_far link = bind _ _ _ _ (one passes fewer none_more Product length link.flow) (λ p. bind _ _ _ _ (one passes fewer none_more Sum so_far p)
      (λ amount. bind _ _ _ _ (rate_as (is_positive link.tail_slope) link.flow link.tail_slope)
      (λ inflow_rate. bind _ _ _ _ (rate_as (is_positive link.head_slope) link.flow link.head_slope)
      (λ outflow_rate. bind _ _ _ _ (queue_as link inflow_rate) (λ queue. same _)))))

  curve_list_under : (net : Network) (sets : Sets) (pattern : Pattern) (length : ℚ) (flows slopes labels amounts : List ℚ)
      → GivesAs (curve_list passes net sets pattern length flows slopes labels amounts) (curve_list fewer net sets pattern length flows slopes labels amounts)
  unfolding curve_list
  curve_list_under net sets pattern length flows slopes labels amounts =
      each_as _ _ (λ (numbered : ℕ × Link). step_as length (number_at amounts numbered.0) (link_phase sets pattern flows slopes labels numbered)) (enumerate_from 0 net.links)

-- ---- no operation can pass
pub slack_list_as : (passes : Passing) (hops : List Hop) (labels : List ℚ) → GivesAs (slack_list passes hops labels) (slack_list never hops labels)
slack_list_as passes = slack_list_under passes never (none_passes passes)

pub verdict_list_as : (passes : Passing) (net : Network) (pattern : Pattern) (slopes : List ℚ) → GivesAs (verdict_list passes net pattern slopes) (verdict_list never net pattern slopes)
verdict_list_as passes = verdict_list_under passes never (none_passes passes)

pub extend_list_as : (passes : Passing) (net : Network) (slacks slopes : List ℚ) (time : ℚ)
    → GivesAs (extend_list passes net slacks slopes time) (extend_list never net slacks slopes time)
extend_list_as passes = extend_list_under passes never (none_passes passes)

pub advance_list_as : (passes : Passing) (horizon time : ℚ) (extension : Option ℚ) (labels slopes : List ℚ)
    → GivesAs (advance_list passes horizon time extension labels slopes) (advance_list never horizon time extension labels slopes)
advance_list_as passes = advance_list_under passes never (none_passes passes)

pub curve_list_as : (passes : Passing) (net : Network) (sets : Sets) (pattern : Pattern) (length : ℚ) (flows slopes labels amounts : List ℚ)
    → GivesAs (curve_list passes net sets pattern length flows slopes labels amounts) (curve_list never net sets pattern length flows slopes labels amounts)
curve_list_as passes = curve_list_under passes never (none_passes passes)

-- ---- the values of the slack and advance operations, by the model's definitions
slack_exact : (labels : List ℚ) (hop : Hop) → slack_of never labels hop ≡ Ok (slack labels hop)
unfolding slack_of checked
slack_exact labels hop = refl

pub slacks_exact : (passes : Passing) (hops : List Hop) (labels slacks : List ℚ) → slack_list passes hops labels ≡ Ok slacks → slacks ≡ slacks_of hops labels
unfolding slack_list
slacks_exact passes hops labels slacks e =
    same_value (slack_list never hops labels) slacks (slacks_of hops labels) (slack_list_as passes hops labels slacks e)
    (each_exact (slack_of never labels) (slack labels) (slack_exact labels) hops)

-- The moved labels of the nodes from a number on.
abbrev moved_label : ℚ → List ℚ → ℕ × ℚ → ℚ
moved_label length slopes numbered = numbered.1 +ℚ length *ℚ number_at slopes numbered.0

moved_from : (while : ℚ) (slopes : List ℚ) (k : ℕ) (labels rest : List ℚ) → ((v : ℕ) → number_at slopes (k + v) ≡ number_at rest v) → length rest ≡ length labels
    → map (moved_label while slopes) (enumerate_from k labels) ≡ moved labels rest while
moved_from while slopes k [] [] at count = refl
moved_from while slopes k [] (r ∷ rest) at count = absurd (omega arith)
moved_from while slopes k (x ∷ labels) [] at count = absurd (omega arith)
moved_from while slopes k (x ∷ labels) (r ∷ rest) at count =
    let first : number_at slopes k ≡ r = ap (number_at slopes) (let e : k ≡ k + 0 = omega arith in e) ∙ at 0 in
    let later : map (moved_label while slopes) (enumerate_from (k + 1) labels) ≡ moved labels rest while =
    moved_from while slopes (k + 1) labels rest (λ v. ap (number_at slopes) (let e : (k + 1) + v ≡ k + suc v = omega arith in e) ∙ at (suc v)) (omega arith) in
    ap (λ (w : ℚ). (x +ℚ while *ℚ w) ∷ map (moved_label while slopes) (enumerate_from (k + 1) labels)) first ∙ ap (λ (ws : List ℚ). (x +ℚ while *ℚ r) ∷ ws) later

label_exact : (while : ℚ) (slopes : List ℚ) (numbered : ℕ × ℚ) → label_after never while slopes numbered ≡ Ok (moved_label while slopes numbered)
unfolding checked
label_exact while slopes numbered = refl

labels_exact : (while : ℚ) (labels slopes : List ℚ) → length slopes ≡ length labels → labels_after never while labels slopes ≡ Ok (moved labels slopes while)
unfolding labels_after
labels_exact while labels slopes count =
    each_exact (label_after never while slopes) (moved_label while slopes) (label_exact while slopes) (enumerate_from 0 labels)
    ∙ ap Ok (moved_from while slopes 0 labels slopes (λ v. ap (number_at slopes) (let e : 0 + v ≡ v = omega arith in e)) count)

advance_exact : (horizon time : ℚ) (extension : Option ℚ) (labels slopes : List ℚ) → length slopes ≡ length labels
    → advance_list never horizon time extension labels slopes
    ≡ Ok (record { length = cut_at (horizon -ℚ time) extension; labels = moved labels slopes (cut_at (horizon -ℚ time) extension) })
unfolding advance_list checked
advance_exact horizon time extension labels slopes count =
    ap (λ (w : Checked (List ℚ)). w >>= λ new. Ok (record { length = cut_at (horizon -ℚ time) extension; labels = new }))
    (labels_exact (cut_at (horizon -ℚ time) extension) labels slopes count)

pub advanced_exact : (passes : Passing) (horizon time : ℚ) (extension : Option ℚ) (labels slopes : List ℚ) (new : Advanced) → length slopes ≡ length labels
    → advance_list passes horizon time extension labels slopes ≡ Ok new → (new.length ≡ cut_at (horizon -ℚ time) extension) × (new.labels ≡ moved labels slopes new.length)
advanced_exact passes horizon time extension labels slopes new count e =
    let same = same_value (advance_list never horizon time extension labels slopes) new
    (record { length = cut_at (horizon -ℚ time) extension; labels = moved labels slopes (cut_at (horizon -ℚ time) extension) })
    (advance_list_as passes horizon time extension labels slopes new e) (advance_exact horizon time extension labels slopes count) in
    let long : new.length ≡ cut_at (horizon -ℚ time) extension = ap (λ (a : Advanced). a.length) same in
    (long, ap (λ (a : Advanced). a.labels) same ∙ ap (moved labels slopes) (sym long))
