-- One link that is supplied at one rate: its flow, by the values of its curves.
use Rattle.std.proofs.Common.{◌≡◌, zero, suc, List, [], ◌∷◌, Bool, if◌then◌else◌, ⊎_elim, Option, Some, None, sym, ap, subst, refl, ◌∙◌}
use Rattle.nf_model_laws.proofs.Common.{ℚ, 0ℚ, 1ℚ, ◌+ℚ◌, ◌-ℚ◌, ◌*ℚ◌, ◌/ℚ◌, ◌≤ℚ◌, ◌<ℚ◌, reading_of, ≤ℚ_of_lt, lt_or_le_ℚ, not_both_ℚ, ps_whole, test_of_le}
use Rattle.nf_model_laws.proofs.Common.{test_of_lt, max0_none, max0_of, le, lt, eq, le_times, eq_times, linear_le, linear_lt, linear_eq, Within, NeverFalls}
use Rattle.nf_model_laws.proofs.Common.{Piece, ArePieces, rate_from, supplied, IsQueue, IsExit, IsOutflow, waiting, Flow, label, inflow, outflow, queue}
use Rattle.nf_model_laws.proofs.Common.{HasShape, HasSlopes, IsAffine, queue_after, IsPositive, one_link, at_rate, NotBefore, FillsLink, ≤ℚ_refl, ≤ℚ_trans}
use Rattle.nf_model_laws.proofs.Affine.{quotient-times, le_from_times, same_from_times}
use Rattle.nf_model_laws.proofs.Queues.{IsOutflow-early}
use Rattle.nf_model_laws.specs.SupplyLaws.{NoStartBetween}
use Rattle.nf_model_laws.proofs.Supply.{supplied-goes_on, supplied-begins}
use Rattle.nf_model_laws.proofs.Step.{IsQueue-after, IsQueue-at_0}
use Rattle.nf_model_laws.proofs.Exits.{IsOutflow-at_exit, waiting-none}
use Rattle.nf_rational_laws.proofs.Field.{zero-*ℚ}

-- ---- the supply

-- from time 0 on, as long as no other piece starts
first_rate : (rate : ℚ) (later : List Piece) → ArePieces (at_rate rate later) → rate_from 0ℚ (at_rate rate later) 0ℚ ≡ rate
first_rate rate later pieces = ap (λ (b : Bool). if b then rate_from rate later 0ℚ else 0ℚ) (test_of_le 0ℚ 0ℚ (≤ℚ_refl 0ℚ)) ∙ goes_on later pieces
  where
    goes_on : (later : List Piece) → ArePieces (at_rate rate later) → rate_from rate later 0ℚ ≡ rate
    goes_on [] pieces = refl
    goes_on (next ∷ rest) pieces = ap (λ (b : Bool). if b then rate_from next.rate rest 0ℚ else rate) (test_of_lt next.start 0ℚ (pieces.rise 0 _ next refl refl))

nothing_between : (rate : ℚ) (later : List Piece) (horizon time : ℚ) → NotBefore horizon later → time ≤ℚ horizon → NoStartBetween (at_rate rate later) 0ℚ time
nothing_between rate later horizon time alone h zero piece p after = absurd (not_both_ℚ 0ℚ 0ℚ (subst (λ (q : Piece). 0ℚ <ℚ q.start) (sym (same _ piece p)) after) (≤ℚ_refl 0ℚ))
  where
    same : (a b : Piece) → ◌≡◌ {A = Option Piece} (Some a) (Some b) → a ≡ b
    same a b e = cc
nothing_between rate later horizon time alone h (suc i) piece p after = ≤ℚ_trans _ _ _ h (alone i piece p)

from_none : (r t s u m : ℚ) → s ≡ u +ℚ m *ℚ (t -ℚ 0ℚ) → u ≡ 0ℚ → m ≡ r → s ≡ r *ℚ t
from_none r t s u m e f g = linear_eq (r ∷ t ∷ s ∷ u ∷ m ∷ []) (eq e ∷ eq f ∷ eq_times t g ∷ []) (search reading_of) tt tt

pub supplied-at_rate : (rate : ℚ) (later : List Piece) (horizon time : ℚ) → ArePieces (at_rate rate later) → NotBefore horizon later
    → Within 0ℚ horizon time → supplied (at_rate rate later) time ≡ rate *ℚ time
supplied-at_rate rate later horizon time pieces alone w =
    from_none rate time _ (supplied (at_rate rate later) 0ℚ) _ (supplied-goes_on (at_rate rate later) 0ℚ time pieces w.0 (nothing_between rate later horizon time alone w.1))
    (supplied-begins (at_rate rate later) pieces) (first_rate rate later pieces)

-- ---- the flow, by the values of its curves: the label of the sink moves at the slope, and the queue by what it gains
pub record IsSteady (transit : ℚ) (capacity : Option ℚ) (pieces : List Piece) (rate slope gain : ℚ) (flow : Flow) : Type 0 where
  pub begins : 0ℚ ≤ℚ flow.reached
  pub shape : HasShape (one_link transit capacity pieces) flow
  pub inflow_rates : HasSlopes flow.inflows
  pub outflow_rates : HasSlopes flow.outflows
  pub rises : NeverFalls (inflow flow 0)
  pub source : (t : ℚ) → Within 0ℚ flow.reached t → label flow 0 t ≡ t
  pub sink : (t : ℚ) → Within 0ℚ flow.reached t → label flow 1 t ≡ transit +ℚ slope *ℚ t
  pub entered : (t : ℚ) → Within 0ℚ flow.reached t → inflow flow 0 t ≡ rate *ℚ t
  pub left_early : (t : ℚ) → 0ℚ ≤ℚ t → t <ℚ transit → outflow flow 0 t ≡ 0ℚ
  pub left_later : (t : ℚ) → Within 0ℚ flow.reached t → outflow flow 0 (transit +ℚ slope *ℚ t) ≡ rate *ℚ t
  pub waits : (t : ℚ) → Within 0ℚ flow.reached t → queue flow 0 t ≡ gain *ℚ t

-- what capacity and rate make of it
pub record IsState (capacity : Option ℚ) (rate slope gain : ℚ) : Type 0 where
  pub slope_ps : 0ℚ <ℚ slope
  pub queue_is : (t : ℚ) → 0ℚ ≤ℚ t → queue_after capacity rate 0ℚ t ≡ gain *ℚ t
  pub exit_is : (t : ℚ) → t +ℚ waiting capacity (gain *ℚ t) ≡ slope *ℚ t

no_time : (a b r : ℚ) → a ≡ r *ℚ 0ℚ → b ≡ a → b ≡ 0ℚ
no_time a b r e f = linear_eq (a ∷ b ∷ r ∷ []) (eq e ∷ eq f ∷ []) (search reading_of) tt tt

on_line : (a b r t : ℚ) → a ≡ r *ℚ t → b ≡ 0ℚ → a ≡ b +ℚ r *ℚ (t -ℚ 0ℚ)
on_line a b r t e f = linear_eq (a ∷ b ∷ r ∷ t ∷ []) (eq e ∷ eq f ∷ []) (search reading_of) tt tt

from_0 : (t : ℚ) → t -ℚ 0ℚ ≡ t
from_0 t = linear_eq (t ∷ []) [] (search reading_of) tt tt

sum_up : (l t r w k : ℚ) → l ≡ r +ℚ k → t +ℚ w ≡ k → l ≡ t +ℚ r +ℚ w
sum_up l t r w k e f = linear_eq (l ∷ t ∷ r ∷ w ∷ k ∷ []) (eq e ∷ eq f ∷ []) (search reading_of) tt tt

-- the departure of who arrives at a time
arrives : (r k t s : ℚ) → s *ℚ k ≡ t -ℚ r → r +ℚ k *ℚ s ≡ t
arrives r k t s e = linear_eq (r ∷ k ∷ t ∷ s ∷ []) (eq e ∷ []) (search reading_of) tt tt

departs_after : (r k t s : ℚ) → s *ℚ k ≡ t -ℚ r → r ≤ℚ t → k *ℚ 0ℚ ≤ℚ k *ℚ s
departs_after r k t s e h = linear_le (r ∷ k ∷ t ∷ s ∷ []) (eq e ∷ le h ∷ []) (search reading_of) tt

departs_by : (r k t s h : ℚ) → s *ℚ k ≡ t -ℚ r → t ≤ℚ r +ℚ k *ℚ h → k *ℚ s ≤ℚ k *ℚ h
departs_by r k t s h e l = linear_le (r ∷ k ∷ t ∷ s ∷ h ∷ []) (eq e ∷ le l ∷ []) (search reading_of) tt

module _ (transit : ℚ) (capacity : Option ℚ) (later : List Piece) (rate slope gain : ℚ) (flow : Flow) (c : IsPositive capacity) (pieces : ArePieces (at_rate rate later))
    (state : IsState capacity rate slope gain) (steady : IsSteady transit capacity (at_rate rate later) rate slope gain flow) (alone : NotBefore flow.reached later) where
  abbrev amount : ℚ → ℚ
  amount = inflow flow 0

  none_at_0 : amount 0ℚ ≡ 0ℚ
  none_at_0 = no_time (amount 0ℚ) (amount 0ℚ) rate (steady.entered 0ℚ (≤ℚ_refl 0ℚ, steady.begins)) refl

  line : IsAffine amount 0ℚ flow.reached rate
  line = record { line = λ t h k. on_line (amount t) (amount 0ℚ) rate t (steady.entered t (h, k)) none_at_0 }

  is_queue : (t : ℚ) → Within 0ℚ flow.reached t → IsQueue capacity amount t (gain *ℚ t)
  is_queue t w = subst (λ (y : ℚ). IsQueue capacity amount t y) (ap (λ (s : ℚ). queue_after capacity rate 0ℚ s) (from_0 t) ∙ state.queue_is t w.0)
      (IsQueue-after capacity amount 0ℚ flow.reached rate 0ℚ t line (IsQueue-at_0 capacity amount) w.0 w.1)

  is_exit : (t : ℚ) → Within 0ℚ flow.reached t → IsExit transit capacity amount t (label flow 1 t)
  is_exit t w = record {
    queue = gain *ℚ t;
    is_queue = is_queue t w;
    is_sum = sum_up (label flow 1 t) t transit _ (slope *ℚ t) (steady.sink t w) (state.exit_is t);
  }

  out_late : (t : ℚ) → transit ≤ℚ t → t ≤ℚ label flow 1 flow.reached → IsOutflow transit capacity amount t (outflow flow 0 t)
  out_late t h k =
      let d : ℚ = (t -ℚ transit) /ℚ slope in
      let e : d *ℚ slope ≡ t -ℚ transit = quotient-times (t -ℚ transit) slope state.slope_ps in
      let w : Within 0ℚ flow.reached d = (
        le_from_times slope 0ℚ d state.slope_ps (departs_after transit slope t d e h),
        le_from_times slope d flow.reached state.slope_ps (departs_by transit slope t d flow.reached e
            (subst (λ (l : ℚ). t ≤ℚ l) (steady.sink flow.reached (steady.begins, ≤ℚ_refl flow.reached)) k)),
      ) in
      let at : transit +ℚ slope *ℚ d ≡ t = arrives transit slope t d e in
      subst (λ (s : ℚ). IsOutflow transit capacity amount s (outflow flow 0 s)) at
      (subst (λ (y : ℚ). IsOutflow transit capacity amount (transit +ℚ slope *ℚ d) y) (steady.entered d w ∙ sym (steady.left_later d w))
      (subst (λ (s : ℚ). IsOutflow transit capacity amount s (amount d)) (steady.sink d w)
      (IsOutflow-at_exit transit capacity amount d (label flow 1 d) c steady.rises w.0 (is_exit d w))))

  is_out : (t : ℚ) → Within 0ℚ (label flow 1 flow.reached) t → IsOutflow transit capacity amount t (outflow flow 0 t)
  is_out t w = ⊎_elim
      (λ (l : t <ℚ transit). subst (λ (y : ℚ). IsOutflow transit capacity amount t y) (sym (steady.left_early t w.0 l)) (IsOutflow-early transit capacity amount t l))
      (λ (l : transit ≤ℚ t). out_late t l w.1)
      (lt_or_le_ℚ t transit)

  pub FillsLink-steady : FillsLink transit capacity (at_rate rate later) flow
  FillsLink-steady = record {
    begins = steady.begins;
    shape = steady.shape;
    inflow_rates = steady.inflow_rates;
    outflow_rates = steady.outflow_rates;
    starts = none_at_0;
    rises = steady.rises;
    supplied = λ t w. steady.entered t w ∙ sym (supplied-at_rate rate later flow.reached t pieces alone w);
    source = steady.source;
    sink = is_exit;
    outflows = is_out;
    queues = λ t w. subst (λ (y : ℚ). IsQueue capacity amount t y) (sym (steady.waits t w)) (is_queue t w);
  }

-- ---- the two states
gained : (r c t : ℚ) → 0ℚ +ℚ (r -ℚ c) *ℚ t ≡ (r -ℚ c) *ℚ t
gained r c t = linear_eq (r ∷ c ∷ t ∷ []) [] (search reading_of) tt tt

gains : (r c t : ℚ) → c ≤ℚ r → 0ℚ ≤ℚ t → 0ℚ ≤ℚ 0ℚ +ℚ (r -ℚ c) *ℚ t
gains r c t h k = linear_le (r ∷ c ∷ t ∷ []) (le_times k h ∷ []) (search reading_of) tt

exit_full : (r c t k w : ℚ) → k *ℚ c ≡ r → w *ℚ c ≡ (r -ℚ c) *ℚ t → c *ℚ (t +ℚ w) ≡ c *ℚ (k *ℚ t)
exit_full r c t k w e f = linear_eq (r ∷ c ∷ t ∷ k ∷ w ∷ []) (eq_times t e ∷ eq f ∷ []) (search reading_of) tt tt

slope_above : (r c k : ℚ) → 0ℚ <ℚ c → c ≤ℚ r → k *ℚ c ≡ r → c *ℚ 0ℚ <ℚ c *ℚ k
slope_above r c k h l e = linear_lt (r ∷ c ∷ k ∷ []) (lt h ∷ le l ∷ eq e ∷ []) (search reading_of) tt

lt_from_times : (c x y : ℚ) → 0ℚ <ℚ c → c *ℚ x <ℚ c *ℚ y → x <ℚ y
lt_from_times c x y h l = ⊎_elim
    (λ (k : x <ℚ y). k)
    (λ (k : y ≤ℚ x). absurd (not_both_ℚ (c *ℚ x) (c *ℚ y) l (linear_le (c ∷ x ∷ y ∷ []) (le_times (≤ℚ_of_lt _ _ h) k ∷ []) (search reading_of) tt)))
    (lt_or_le_ℚ x y)

pub IsState-full : (capacity rate slope : ℚ) → 0ℚ <ℚ capacity → capacity ≤ℚ rate → slope *ℚ capacity ≡ rate → IsState (Some capacity) rate slope (rate -ℚ capacity)
IsState-full capacity rate slope c h e = record {
  slope_ps = lt_from_times capacity 0ℚ slope c (slope_above rate capacity slope c h e);
  queue_is = λ t n. max0_of _ (gains rate capacity t h n) ∙ gained rate capacity t;
  exit_is = λ t. same_from_times capacity _ _ c (exit_full rate capacity t slope _ e (quotient-times ((rate -ℚ capacity) *ℚ t) capacity c));
}

loses : (r c t : ℚ) → r ≤ℚ c → 0ℚ ≤ℚ t → 0ℚ +ℚ (r -ℚ c) *ℚ t ≤ℚ 0ℚ
loses r c t h k = linear_le (r ∷ c ∷ t ∷ []) (le_times k h ∷ []) (search reading_of) tt

at_once : (t w : ℚ) → w ≡ 0ℚ → t +ℚ w ≡ 1ℚ *ℚ t
at_once t w e = linear_eq (t ∷ w ∷ []) (eq e ∷ []) (search reading_of) tt tt

stays_empty : (capacity : Option ℚ) (rate t : ℚ) → ((bound : ℚ) → capacity ≡ Some bound → rate ≤ℚ bound) → 0ℚ ≤ℚ t → queue_after capacity rate 0ℚ t ≡ 0ℚ
stays_empty None rate t h n = refl
stays_empty (Some bound) rate t h n = max0_none _ (loses rate bound t (h bound refl) n)

pub IsState-tight : (capacity : Option ℚ) (rate : ℚ) → ((bound : ℚ) → capacity ≡ Some bound → rate ≤ℚ bound) → IsState capacity rate 1ℚ 0ℚ
IsState-tight capacity rate h = record {
  slope_ps = ps_whole 0;
  queue_is = λ t n. stays_empty capacity rate t h n ∙ sym (zero-*ℚ t);
  exit_is = λ t. at_once t _ (ap (λ (q : ℚ). waiting capacity q) (zero-*ℚ t) ∙ waiting-none capacity);
}
