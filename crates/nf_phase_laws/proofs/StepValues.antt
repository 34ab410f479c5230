-- The values of the curve list for a link, in terms of the model's definitions.
use Rattle.std.proofs.Common.{◌≡◌, ℕ, ◌+◌, List, length, Bool, true, false, ⊎_elim, sym, ap, refl, ◌∙◌, arith, Option, Some, None, Ok, slice_get}
use Rattle.nf_phase_laws.proofs.Common.{enumerate_from, ℚ, 0ℚ, ◌+ℚ◌, ◌-ℚ◌, ◌*ℚ◌, ◌/ℚ◌, ◌≤ℚ◌, ◌<ℚ◌, lt_ℚ, ≤ℚ_of_lt, lt_ℚ_cases, max0_of, length-enumerated}
use Rattle.nf_phase_laws.proofs.Common.{Passing, number_at, Link, Network, IsLink, Sets, Pattern, is_positive, never, enumerated, queue_by_slack}
use Rattle.nf_phase_laws.proofs.Common.{false≢true, bind_at, Checked, ◌>>=◌, QueueStep, LinkStep, LinkPhase, rate_over, size_at, slope_at, queue_step}
use Rattle.nf_phase_laws.proofs.Common.{link_step, link_phase, curve_list_as}
use Rattle.nf_frac_def.proofs.Each.{each_length, each_at}
use Rattle.nf_frac_def.specs.Checked.{checked}
use Rattle.nf_thin_def.specs.CurveList.{curve_list}
use Rattle.nf_phase_laws.proofs.Idle.{queue_by_slack-low}

-- ---- the values
abbrev pub filled_slope : Bool → Option ℚ → ℚ → ℚ
filled_slope true (Some capacity) rate = rate -ℚ capacity
filled_slope filled capacity rate = 0ℚ

abbrev pub rate_value : Bool → ℚ → ℚ → Option ℚ
rate_value false flow slope = None
rate_value true flow slope = Some (flow /ℚ slope)

abbrev pub queue_value : LinkPhase → Option ℚ → Option QueueStep
queue_value link None = None
queue_value link (Some rate) =
    Some (record {
      size = queue_by_slack link.capacity (link.head_label -ℚ (link.tail_label +ℚ link.transit));
      slope =
          filled_slope link.filled link.capacity rate;
    })

abbrev pub step_value : ℚ → ℚ → LinkPhase → LinkStep
step_value length so_far link = record {
  amount = so_far +ℚ length *ℚ link.flow;
  inflow_rate = rate_value (is_positive link.tail_slope) link.flow link.tail_slope;
  outflow_rate = rate_value (is_positive link.head_slope) link.flow link.head_slope;
  queue = queue_value link (rate_value (is_positive link.tail_slope) link.flow link.tail_slope);
}

-- ---- tests of signs

pub positive_of : (x : ℚ) → is_positive x ≡ true → 0ℚ <ℚ x
positive_of x e = ⊎_elim (λ (w : (lt_ℚ 0ℚ x ≡ true) × (0ℚ <ℚ x)). w.1) (λ (w : (lt_ℚ 0ℚ x ≡ false) × (x ≤ℚ 0ℚ)). absurd (false≢true (sym w.0 ∙ e))) (lt_ℚ_cases 0ℚ x)

pub none_of : (x : ℚ) → is_positive x ≡ false → x ≤ℚ 0ℚ
none_of x e = ⊎_elim (λ (w : (lt_ℚ 0ℚ x ≡ true) × (0ℚ <ℚ x)). absurd (false≢true (sym e ∙ w.0))) (λ (w : (lt_ℚ 0ℚ x ≡ false) × (x ≤ℚ 0ℚ)). w.1) (lt_ℚ_cases 0ℚ x)

-- ---- no operation exceeds its bound
rate_exact : (b : Bool) (flow slope : ℚ) → rate_over never b flow slope ≡ Ok (rate_value b flow slope)
unfolding checked
rate_exact true flow slope = refl
rate_exact false flow slope = refl

size_exact : (b : Bool) (capacity : Option ℚ) (slack : ℚ) → is_positive slack ≡ b → size_at never b capacity slack ≡ Ok (queue_by_slack capacity slack)
unfolding checked
size_exact true (Some c) slack e = ap (λ (y : ℚ). Ok (c *ℚ y)) (sym (max0_of slack (≤ℚ_of_lt _ _ (positive_of slack e))))
size_exact true None slack e = refl
size_exact false (Some c) slack e = ap (λ (y : ℚ). Ok y) (sym (queue_by_slack-low (Some c) slack (none_of slack e)))
size_exact false None slack e = refl

slope_exact : (b : Bool) (capacity : Option ℚ) (rate : ℚ) → slope_at never b capacity rate ≡ Ok (filled_slope b capacity rate)
unfolding checked
slope_exact true (Some c) rate = refl
slope_exact true None rate = refl
slope_exact false capacity rate = refl

queue_exact : (link : LinkPhase) (rate : Option ℚ) → queue_step never link rate ≡ Ok (queue_value link rate)
unfolding checked
queue_exact link None = refl
queue_exact link (Some rate) =
    bind_at (size_at never (is_positive (link.head_label -ℚ (link.tail_label +ℚ link.transit))) link.capacity (link.head_label -ℚ (link.tail_label +ℚ link.transit)))
    (queue_by_slack link.capacity (link.head_label -ℚ (link.tail_label +ℚ link.transit)))
    (λ size. slope_at never link.filled link.capacity rate >>= λ slope. Ok (Some (record { size = size; slope = slope })))
    (size_exact (is_positive (link.head_label -ℚ (link.tail_label +ℚ link.transit))) link.capacity (link.head_label -ℚ (link.tail_label +ℚ link.transit)) refl)
    ∙ bind_at (slope_at never link.filled link.capacity rate) (filled_slope link.filled link.capacity rate)
    (λ slope. Ok (Some (record { size = queue_by_slack link.capacity (link.head_label -ℚ (link.tail_label +ℚ link.transit)); slope = slope })))
    (slope_exact link.filled link.capacity rate)

step_exact : (length so_far : ℚ) (link : LinkPhase) → link_step never length so_far link ≡ Ok (step_value length so_far link)
unfolding checked
step_exact length so_far link =
    let amount : ℚ = so_far +ℚ length *ℚ link.flow in
    let into : Option ℚ = rate_value (is_positive link.tail_slope) link.flow link.tail_slope in
    let out : Option ℚ = rate_value (is_positive link.head_slope) link.flow link.head_slope in
    bind_at (rate_over never (is_positive link.tail_slope) link.flow link.tail_slope) into
    (λ inflow_rate. rate_over never (is_positive link.head_slope) link.flow link.head_slope >>= λ outflow_rate. queue_step never link inflow_rate
    >>= λ queue. Ok (record { amount = amount; inflow_rate = inflow_rate; outflow_rate = outflow_rate; queue = queue }))
    (rate_exact (is_positive link.tail_slope) link.flow link.tail_slope)
    ∙ bind_at (rate_over never (is_positive link.head_slope) link.flow link.head_slope) out
    (λ outflow_rate. queue_step never link into >>= λ queue. Ok (record { amount = amount; inflow_rate = into; outflow_rate = outflow_rate; queue = queue }))
    (rate_exact (is_positive link.head_slope) link.flow link.head_slope)
    ∙ bind_at (queue_step never link into) (queue_value link into) (λ queue. Ok
    (record { amount = amount; inflow_rate = into; outflow_rate = out; queue = queue })) (queue_exact link into)

-- ---- each entry has its value
pub steps-length : (passes : Passing) (net : Network) (sets : Sets) (pattern : Pattern) (while : ℚ) (flows slopes labels amounts : List ℚ) (steps : List LinkStep)
    → curve_list passes net sets pattern while flows slopes labels amounts ≡ Ok steps → length steps ≡ length net.links
unfolding curve_list
steps-length passes net sets pattern while flows slopes labels amounts steps h =
    each_length (λ (numbered : ℕ × Link). link_step passes while (number_at amounts numbered.0) (link_phase sets pattern flows slopes labels numbered))
    (enumerate_from 0 net.links) steps h
    ∙ length-enumerated 0 net.links

pub step_value_at : (passes : Passing) (net : Network) (sets : Sets) (pattern : Pattern) (length : ℚ) (flows slopes labels amounts : List ℚ) (steps : List LinkStep)
    → curve_list passes net sets pattern length flows slopes labels amounts ≡ Ok steps → (e : ℕ) (link : Link) → IsLink net e link
    → slice_get steps e ≡ Some (step_value length (number_at amounts e) (link_phase sets pattern flows slopes labels (e, link)))
unfolding curve_list
step_value_at passes net sets pattern length flows slopes labels amounts steps h e link p =
    let found = each_at (λ (numbered : ℕ × Link). link_step never length (number_at amounts numbered.0)
    (link_phase sets pattern flows slopes labels numbered)) (enumerate_from 0 net.links) steps
    e (0 + e, link) (curve_list_as passes net sets pattern length flows slopes labels amounts steps h) (enumerated 0 net.links e link p) in
    found.1 ∙ ap (λ (s : LinkStep). Some s) (same found.0 (step_value length (number_at amounts (0 + e)) (link_phase sets pattern flows slopes labels (0 + e, link)))
    (sym found.2 ∙ step_exact length (number_at amounts (0 + e)) (link_phase sets pattern flows slopes labels (0 + e, link))))
    ∙ ap (λ (i : ℕ). Some (step_value length (number_at amounts i) (link_phase sets pattern flows slopes labels (i, link)))) (let z : 0 + e ≡ e = omega arith in z)
  where
    same : (s t : LinkStep) → ◌≡◌ {A = Checked LinkStep} (Ok s) (Ok t) → s ≡ t
    same s t e = cc
