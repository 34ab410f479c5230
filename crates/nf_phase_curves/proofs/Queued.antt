-- The result of a queue step if its slope exceeds the bound, and of a link step if a rate or its queue does.
use Rattle.std.proofs.Common.{◌≡◌, sym, ap, ◌∙◌, Bool, Option, Some, Ok, Err}
use Rattle.nf_phase_curves.proofs.Common.{ℚ, Curve, PassedAt, Passing, checked, at_part, is_positive, LinkPhase, QueueStep, rate_over, size_at, slope_at}
use Rattle.nf_phase_curves.proofs.Common.{queue_step, link_step, after_ok, after_err}
use Rattle.nf_frac_def.specs.declared.Op.TheVariants.{Sum, Difference, Product}

pub size_passes : (passes : Passing) (link seen : LinkPhase) (rate arrival slack : ℚ) (above : Bool) (p : PassedAt ℚ) → link ≡ seen
    → checked passes Sum link.tail_label link.transit ≡ Ok arrival → checked passes Difference link.head_label arrival ≡ Ok slack
    → above ≡ is_positive slack → at_part Curve (size_at passes above link.capacity slack) ≡ Err p → at_part Curve (queue_step passes seen (Some rate)) ≡ Err p
size_passes passes link seen rate arrival slack above p same e f is g =
    ap (λ (l : LinkPhase). at_part Curve (queue_step passes l (Some rate))) (sym same)
    ∙ after_ok Curve (checked passes Sum link.tail_label link.transit) _ arrival (ap (at_part Curve) e)
    ∙ after_ok Curve (checked passes Difference link.head_label arrival) _ slack (ap (at_part Curve) f)
    ∙ after_err Curve (size_at passes (is_positive slack) link.capacity slack) _ p (ap (λ (b : Bool). at_part Curve (size_at passes b link.capacity slack)) (sym is) ∙ g)

pub queue_step_is : (passes : Passing) (link seen : LinkPhase) (rate arrival slack size slope : ℚ) (above : Bool) → link ≡ seen
    → checked passes Sum link.tail_label link.transit ≡ Ok arrival → checked passes Difference link.head_label arrival ≡ Ok slack
    → above ≡ is_positive slack → at_part Curve (size_at passes above link.capacity slack) ≡ Ok size → at_part Curve (slope_at passes link.filled link.capacity rate) ≡ Ok slope
    → at_part Curve (queue_step passes seen (Some rate)) ≡ Ok (Some (record { size = size; slope = slope }))
queue_step_is passes link seen rate arrival slack size slope above same e f is g h =
    ap (λ (l : LinkPhase). at_part Curve (queue_step passes l (Some rate))) (sym same)
    ∙ after_ok Curve (checked passes Sum link.tail_label link.transit) _ arrival (ap (at_part Curve) e)
    ∙ after_ok Curve (checked passes Difference link.head_label arrival) _ slack (ap (at_part Curve) f)
    ∙ after_ok Curve (size_at passes (is_positive slack) link.capacity slack) _ size (ap (λ (b : Bool). at_part Curve (size_at passes b link.capacity slack)) (sym is) ∙ g)
    ∙ after_ok Curve (slope_at passes link.filled link.capacity rate) _ slope h

pub slope_passes : (passes : Passing) (link seen : LinkPhase) (rate arrival slack size : ℚ) (above : Bool) (p : PassedAt ℚ) → link ≡ seen
    → checked passes Sum link.tail_label link.transit ≡ Ok arrival → checked passes Difference link.head_label arrival ≡ Ok slack
    → above ≡ is_positive slack → at_part Curve (size_at passes above link.capacity slack) ≡ Ok size → at_part Curve (slope_at passes link.filled link.capacity rate) ≡ Err p
    → at_part Curve (queue_step passes seen (Some rate)) ≡ Err p
slope_passes passes link seen rate arrival slack size above p same e f is g h =
    ap (λ (l : LinkPhase). at_part Curve (queue_step passes l (Some rate))) (sym same)
    ∙ after_ok Curve (checked passes Sum link.tail_label link.transit) _ arrival (ap (at_part Curve) e)
    ∙ after_ok Curve (checked passes Difference link.head_label arrival) _ slack (ap (at_part Curve) f)
    ∙ after_ok Curve (size_at passes (is_positive slack) link.capacity slack) _ size (ap (λ (b : Bool). at_part Curve (size_at passes b link.capacity slack)) (sym is) ∙ g)
    ∙ after_err Curve (slope_at passes link.filled link.capacity rate) _ p h

module _ (passes : Passing) (length so_far : ℚ) (link seen : LinkPhase) (flowed amount : ℚ) (same : link ≡ seen)
    (e : checked passes Product length link.flow ≡ Ok flowed) (f : checked passes Sum so_far flowed ≡ Ok amount) (tail : Bool) (is_tail : tail ≡ is_positive link.tail_slope) where
  pub inflow_passes : (p : PassedAt ℚ) → at_part Curve (rate_over passes tail link.flow link.tail_slope) ≡ Err p → at_part Curve (link_step passes length so_far seen) ≡ Err p
  inflow_passes p h =
      ap (λ (l : LinkPhase). at_part Curve (link_step passes length so_far l)) (sym same)
      ∙ after_ok Curve (checked passes Product length link.flow) _ flowed (ap (at_part Curve) e)
      ∙ after_ok Curve (checked passes Sum so_far flowed) _ amount (ap (at_part Curve) f)
      ∙ after_err Curve (rate_over passes (is_positive link.tail_slope) link.flow link.tail_slope) _ p
      (ap (λ (b : Bool). at_part Curve (rate_over passes b link.flow link.tail_slope)) (sym is_tail) ∙ h)

  module _ (inflow : Option ℚ) (inflow_is : at_part Curve (rate_over passes tail link.flow link.tail_slope) ≡ Ok inflow) (head : Bool)
      (is_head : head ≡ is_positive link.head_slope) where
    pub outflow_passes : (p : PassedAt ℚ) → at_part Curve (rate_over passes head link.flow link.head_slope) ≡ Err p → at_part Curve (link_step passes length so_far seen) ≡ Err p
    outflow_passes p h =
        ap (λ (l : LinkPhase). at_part Curve (link_step passes length so_far l)) (sym same)
        ∙ after_ok Curve (checked passes Product length link.flow) _ flowed (ap (at_part Curve) e)
        ∙ after_ok Curve (checked passes Sum so_far flowed) _ amount (ap (at_part Curve) f)
        ∙ after_ok Curve (rate_over passes (is_positive link.tail_slope) link.flow link.tail_slope) _ inflow
        (ap (λ (b : Bool). at_part Curve (rate_over passes b link.flow link.tail_slope)) (sym is_tail) ∙ inflow_is)
        ∙ after_err Curve (rate_over passes (is_positive link.head_slope) link.flow link.head_slope) _ p
        (ap (λ (b : Bool). at_part Curve (rate_over passes b link.flow link.head_slope)) (sym is_head) ∙ h)

    pub queue_passes : (outflow : Option ℚ) → at_part Curve (rate_over passes head link.flow link.head_slope) ≡ Ok outflow → (p : PassedAt ℚ)
        → at_part Curve (queue_step passes seen inflow) ≡ Err p
        → at_part Curve (link_step passes length so_far seen) ≡ Err p
    queue_passes outflow outflow_is p h =
        ap (λ (l : LinkPhase). at_part Curve (link_step passes length so_far l)) (sym same)
        ∙ after_ok Curve (checked passes Product length link.flow) _ flowed (ap (at_part Curve) e)
        ∙ after_ok Curve (checked passes Sum so_far flowed) _ amount (ap (at_part Curve) f)
        ∙ after_ok Curve (rate_over passes (is_positive link.tail_slope) link.flow link.tail_slope) _ inflow
        (ap (λ (b : Bool). at_part Curve (rate_over passes b link.flow link.tail_slope)) (sym is_tail) ∙ inflow_is)
        ∙ after_ok Curve (rate_over passes (is_positive link.head_slope) link.flow link.head_slope) _ outflow
        (ap (λ (b : Bool). at_part Curve (rate_over passes b link.flow link.head_slope)) (sym is_head) ∙ outflow_is)
        ∙ after_err Curve (queue_step passes link inflow) _ p (ap (λ (l : LinkPhase). at_part Curve (queue_step passes l inflow)) same ∙ h)

    pub link_step_is : (outflow : Option ℚ) → at_part Curve (rate_over passes head link.flow link.head_slope) ≡ Ok outflow → (queue : Option QueueStep)
        → at_part Curve (queue_step passes seen inflow) ≡ Ok queue
        → at_part Curve (link_step passes length so_far seen) ≡ Ok (record { amount = amount; inflow_rate = inflow; outflow_rate = outflow; queue = queue })
    link_step_is outflow outflow_is queue h =
        ap (λ (l : LinkPhase). at_part Curve (link_step passes length so_far l)) (sym same)
        ∙ after_ok Curve (checked passes Product length link.flow) _ flowed (ap (at_part Curve) e)
        ∙ after_ok Curve (checked passes Sum so_far flowed) _ amount (ap (at_part Curve) f)
        ∙ after_ok Curve (rate_over passes (is_positive link.tail_slope) link.flow link.tail_slope) _ inflow
        (ap (λ (b : Bool). at_part Curve (rate_over passes b link.flow link.tail_slope)) (sym is_tail) ∙ inflow_is)
        ∙ after_ok Curve (rate_over passes (is_positive link.head_slope) link.flow link.head_slope) _ outflow
        (ap (λ (b : Bool). at_part Curve (rate_over passes b link.flow link.head_slope)) (sym is_head) ∙ outflow_is)
        ∙ after_ok Curve (queue_step passes link inflow) _ queue (ap (λ (l : LinkPhase). at_part Curve (queue_step passes l inflow)) same ∙ h)
