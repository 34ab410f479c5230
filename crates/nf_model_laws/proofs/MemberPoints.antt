-- One link that is supplied at one rate: its flow, point by point.
use Rattle.std.proofs.Common.{◌≡◌, ℕ, zero, suc, List, [], ◌∷◌, inl, inr, Option, Some, None, slice_get, sym, ap, subst, refl, ◌∙◌}
use Rattle.nf_model_laws.proofs.Common.{ℚ, 0ℚ, 1ℚ, ◌+ℚ◌, ◌-ℚ◌, ◌*ℚ◌, ◌/ℚ◌, ◌≤ℚ◌, ◌<ℚ◌, reading_of, ≤ℚ_of_lt, ps_times, not_both_ℚ, lt, eq, le_times, eq_times}
use Rattle.nf_model_laws.proofs.Common.{linear_le, linear_lt, linear_eq, without_zero, zero_of_zero_times, Piece, ArePieces, Trace, Flow, points_at, points_of}
use Rattle.nf_model_laws.proofs.Common.{HasShape, Equilibrium, IsPositive, one_link, at_rate, NotBefore, delayed_trace, prompt_trace, IsOutTrace, steady_flow}
use Rattle.nf_rational_laws.proofs.Signs.{times_one}
use Rattle.nf_model.specs.Curve.{Within, slope as slope_of, value, IsCurve, AreSlopes}
use Rattle.nf_model_laws.proofs.Affine.{quotient-times, same_from_times}
use Rattle.nf_model_laws.proofs.Curves.{value-line, value-before, value-after, slope-unique, NeverFalls-value}
use Rattle.nf_model_laws.proofs.MemberLink.{node_cases, only_0, Equilibrium-one_link}
use Rattle.nf_model_laws.proofs.MemberSteady.{IsSteady, IsState, FillsLink-steady, IsState-full, IsState-tight}

-- ---- from one point to the next
rise : (s t v w k : ℚ) → w ≡ v +ℚ k *ℚ (t -ℚ s) → k *ℚ (t -ℚ s) ≡ w -ℚ v
rise s t v w k e = linear_eq (s ∷ t ∷ v ∷ w ∷ k ∷ []) (eq e ∷ []) (search reading_of) tt tt

pub slope-is : (p q : ℚ × ℚ) (k : ℚ) → p.0 <ℚ q.0 → q.1 ≡ p.1 +ℚ k *ℚ (q.0 -ℚ p.0) → k ≡ slope_of p q
slope-is p q k h e = slope-unique p q k h (rise p.0 q.0 p.1 q.1 k e)

-- a curve of two points
pub value-two : (p q : ℚ × ℚ) (k t : ℚ) → p.0 <ℚ q.0 → q.1 ≡ p.1 +ℚ k *ℚ (q.0 -ℚ p.0) → t ≤ℚ q.0 → value (p ∷ q ∷ []) t ≡ p.1 +ℚ k *ℚ (t -ℚ p.0)
value-two p q k t h e l = value-line p q [] t (h, tt) l ∙ ap (λ (n : ℚ). p.1 +ℚ n *ℚ (t -ℚ p.0)) (sym (slope-is p q k h e))

from_0 : (v w k h : ℚ) → w ≡ v +ℚ k *ℚ h → w ≡ v +ℚ k *ℚ (h -ℚ 0ℚ)
from_0 v w k h e = linear_eq (v ∷ w ∷ k ∷ h ∷ []) (eq e ∷ []) (search reading_of) tt tt

to_0 : (v w k t : ℚ) → w ≡ v +ℚ k *ℚ (t -ℚ 0ℚ) → w ≡ v +ℚ k *ℚ t
to_0 v w k t e = linear_eq (v ∷ w ∷ k ∷ t ∷ []) (eq e ∷ []) (search reading_of) tt tt

value-from_0 : (v h w k t : ℚ) → 0ℚ <ℚ h → w ≡ v +ℚ k *ℚ h → t ≤ℚ h → value ((0ℚ, v) ∷ (h, w) ∷ []) t ≡ v +ℚ k *ℚ t
value-from_0 v h w k t l e b = to_0 v _ k t (value-two (0ℚ, v) (h, w) k t l (from_0 v w k h e) b)

starts_0 : (w a : ℚ) → w ≡ a → w ≡ 0ℚ +ℚ a
starts_0 w a e = linear_eq (w ∷ a ∷ []) (eq e ∷ []) (search reading_of) tt tt

-- from (0, 0)
value-from_none : (h w k t : ℚ) → 0ℚ <ℚ h → w ≡ k *ℚ h → t ≤ℚ h → value ((0ℚ, 0ℚ) ∷ (h, w) ∷ []) t ≡ k *ℚ t
value-from_none h w k t l e b = without_zero _ _ (value-from_0 0ℚ h w k t l (starts_0 w _ e) b)

one_time : (h t : ℚ) → h ≡ 0ℚ +ℚ 1ℚ *ℚ h
one_time h t = linear_eq (h ∷ []) [] (search reading_of) tt tt

just_time : (y t : ℚ) → y ≡ 0ℚ +ℚ 1ℚ *ℚ t → y ≡ t
just_time y t e = linear_eq (y ∷ t ∷ []) (eq e ∷ []) (search reading_of) tt tt

-- ---- lists of one
one_trace : (P : Trace → Type 0) (x : Trace) → P x → (e : ℕ) (trace : Trace) → slice_get (x ∷ []) e ≡ Some trace → P trace
one_trace P x p zero trace e = subst P (same x trace e) p
  where
    same : (a b : Trace) → ◌≡◌ {A = Option Trace} (Some a) (Some b) → a ≡ b
    same a b q = cc
one_trace P x p (suc i) trace e = absurd (none e)
  where
    none : ◌≡◌ {A = Option Trace} None (Some trace) → ⊥
    none q = cc

-- ---- the outflow: 0 before the transit time, and then at one rate
pub record IsOut (transit slope rate horizon : ℚ) (trace : Trace) : Type 0 where
  pub curve : IsCurve trace.points
  pub slopes : AreSlopes trace.points trace.rates
  pub early : (t : ℚ) → 0ℚ ≤ℚ t → t <ℚ transit → value trace.points t ≡ 0ℚ
  pub later : (t : ℚ) → Within 0ℚ horizon t → value trace.points (transit +ℚ slope *ℚ t) ≡ rate *ℚ t

module _ (transit slope rate out_rate horizon arrival amount : ℚ) (h : 0ℚ <ℚ horizon) (k : 0ℚ <ℚ slope) (each : out_rate *ℚ slope ≡ rate)
    (arrives : arrival ≡ transit +ℚ slope *ℚ horizon) (enters : amount ≡ rate *ℚ horizon) where
  last_later : transit <ℚ arrival
  last_later = by_product (ps_times slope horizon k h) arrives
    where
      by_product : 0ℚ <ℚ slope *ℚ horizon → arrival ≡ transit +ℚ slope *ℚ horizon → transit <ℚ arrival
      by_product p e = linear_lt (transit ∷ slope ∷ horizon ∷ arrival ∷ []) (lt p ∷ eq e ∷ []) (search reading_of) tt

  last_rise : amount ≡ 0ℚ +ℚ out_rate *ℚ (arrival -ℚ transit)
  last_rise =
      linear_eq (transit ∷ slope ∷ rate ∷ out_rate ∷ horizon ∷ arrival ∷ amount ∷ []) (eq enters ∷ eq_times horizon each ∷ eq_times out_rate arrives ∷ [])
      (search reading_of) tt tt

  arrival_in : (t : ℚ) → Within 0ℚ horizon t → Within transit arrival (transit +ℚ slope *ℚ t)
  arrival_in t w = (
    linear_le (transit ∷ slope ∷ t ∷ []) (le_times (≤ℚ_of_lt _ _ k) w.0 ∷ []) (search reading_of) tt,
    linear_le (transit ∷ slope ∷ t ∷ horizon ∷ arrival ∷ []) (eq arrives ∷ le_times (≤ℚ_of_lt _ _ k) w.1 ∷ []) (search reading_of) tt,
  )

  out_at : (t y : ℚ) → y ≡ 0ℚ +ℚ out_rate *ℚ ((transit +ℚ slope *ℚ t) -ℚ transit) → y ≡ rate *ℚ t
  out_at t y e = linear_eq (transit ∷ slope ∷ rate ∷ out_rate ∷ t ∷ y ∷ []) (eq e ∷ eq_times t each ∷ []) (search reading_of depth 12) tt tt

  on_last : (t : ℚ) → Within 0ℚ horizon t → value ((transit, 0ℚ) ∷ (arrival, amount) ∷ []) (transit +ℚ slope *ℚ t) ≡ rate *ℚ t
  on_last t w = out_at t _ (value-two (transit, 0ℚ) (arrival, amount) out_rate (transit +ℚ slope *ℚ t) last_later last_rise (arrival_in t w).1)

  flat : (t : ℚ) → 0ℚ ≡ 0ℚ +ℚ 0ℚ *ℚ t
  flat t = linear_eq (t ∷ []) [] (search reading_of) tt tt

  pub IsOut-delayed : 0ℚ <ℚ transit → IsOut transit slope rate horizon (delayed_trace transit arrival amount out_rate)
  IsOut-delayed l = record {
    curve = (refl, (l, (last_later, tt)));
    slopes = (slope-is (0ℚ, 0ℚ) (transit, 0ℚ) 0ℚ l (flat _), (slope-is (transit, 0ℚ) (arrival, amount) out_rate last_later last_rise, tt));
    early = λ t n b. value-before (0ℚ, 0ℚ) (transit, 0ℚ) ((arrival, amount) ∷ []) t b
        ∙ ap (λ (n : ℚ). 0ℚ +ℚ n *ℚ (t -ℚ 0ℚ)) (sym (slope-is (0ℚ, 0ℚ) (transit, 0ℚ) 0ℚ l (flat _))) ∙ sym (flat _);
    later = λ t w. value-after (0ℚ, 0ℚ) (transit, 0ℚ) ((arrival, amount) ∷ []) (transit +ℚ slope *ℚ t) (arrival_in t w).0 ∙ on_last t w;
  }

  pub IsOut-prompt : transit ≡ 0ℚ → IsOut transit slope rate horizon (prompt_trace arrival amount out_rate)
  IsOut-prompt e = record {
    curve = (refl, (subst (λ (s : ℚ). s <ℚ arrival) e last_later, tt));
    slopes = (subst (λ (s : ℚ). out_rate ≡ slope_of (s, 0ℚ) (arrival, amount)) e (slope-is (transit, 0ℚ) (arrival, amount) out_rate last_later last_rise), tt);
    early = λ t n b. absurd (not_both_ℚ t 0ℚ (subst (λ (s : ℚ). t <ℚ s) e b) n);
    later = λ t w. subst (λ (s : ℚ). value ((s, 0ℚ) ∷ (arrival, amount) ∷ []) (transit +ℚ slope *ℚ t) ≡ rate *ℚ t) e (on_last t w);
  }

  pub IsOut-trace : (trace : Trace) → IsOutTrace transit arrival amount out_rate trace → IsOut transit slope rate horizon trace
  IsOut-trace trace (inl p) = subst (λ (x : Trace). IsOut transit slope rate horizon x) (sym p.1) (IsOut-delayed p.0)
  IsOut-trace trace (inr p) = subst (λ (x : Trace). IsOut transit slope rate horizon x) (sym p.1) (IsOut-prompt p.0)

-- ---- the flow
module _ (transit : ℚ) (capacity : Option ℚ) (later : List Piece) (rate slope gain horizon arrival amount waits : ℚ) (trace : Trace) (n : 0ℚ ≤ℚ rate) (h : 0ℚ <ℚ horizon)
    (arrives : arrival ≡ transit +ℚ slope *ℚ horizon) (enters : amount ≡ rate *ℚ horizon) (wait : waits ≡ gain *ℚ horizon) (out : IsOut transit slope rate horizon trace) where
  abbrev flow : Flow
  flow = steady_flow transit rate horizon arrival amount waits trace

  two : (v w : ℚ) → IsCurve ((0ℚ, v) ∷ (horizon, w) ∷ [])
  two v w = (refl, (h, tt))

  nn_amount : 0ℚ ≤ℚ amount
  nn_amount = linear_le (rate ∷ horizon ∷ amount ∷ []) (eq enters ∷ le_times n (≤ℚ_of_lt _ _ h) ∷ []) (search reading_of) tt

  shape : HasShape (one_link transit capacity (at_rate rate later)) flow
  shape = record {
    labels = record { count = refl; each = λ i k. node_cases (λ (i : ℕ). IsCurve (points_at flow.labels i)) i k (two 0ℚ horizon) (two transit arrival) };
    inflows = record { count = refl; each = λ i k. only_0 (λ (i : ℕ). IsCurve (points_at (points_of flow.inflows) i)) i k (two 0ℚ amount) };
    outflows = record { count = refl; each = λ i k. only_0 (λ (i : ℕ). IsCurve (points_at (points_of flow.outflows) i)) i k out.curve };
    queues = record { count = refl; each = λ i k. only_0 (λ (i : ℕ). IsCurve (points_at flow.queues i)) i k (two 0ℚ waits) };
  }

  pub IsSteady-points : IsSteady transit capacity (at_rate rate later) rate slope gain flow
  IsSteady-points = record {
    begins = ≤ℚ_of_lt _ _ h;
    shape = shape;
    inflow_rates = one_trace (λ (t : Trace). AreSlopes t.points t.rates) (record { points = (0ℚ, 0ℚ) ∷ (horizon, amount) ∷ []; rates = rate ∷ [] })
        (slope-is (0ℚ, 0ℚ) (horizon, amount) rate h (from_0 0ℚ amount rate horizon (starts_0 amount _ enters)), tt);
    outflow_rates = one_trace (λ (t : Trace). AreSlopes t.points t.rates) trace out.slopes;
    rises = NeverFalls-value ((0ℚ, 0ℚ) ∷ (horizon, amount) ∷ []) (two 0ℚ amount) (nn_amount, tt);
    source = λ t w. just_time _ t (value-from_0 0ℚ horizon horizon 1ℚ t h (one_time horizon t) w.1);
    sink = λ t w. value-from_0 transit horizon arrival slope t h arrives w.1;
    entered = λ t w. value-from_none horizon amount rate t h enters w.1;
    left_early = out.early;
    left_later = out.later;
    waits = λ t w. value-from_none horizon waits gain t h wait w.1;
  }

  pub Equilibrium-steady : 0ℚ ≤ℚ transit → IsPositive capacity → ArePieces (at_rate rate later) → NotBefore horizon later → IsState capacity rate slope gain
      → Equilibrium (one_link transit capacity (at_rate rate later)) flow
  Equilibrium-steady l c p alone state =
      Equilibrium-one_link transit capacity (at_rate rate later) flow l c p
      (FillsLink-steady transit capacity later rate slope gain flow c p state IsSteady-points alone)

-- ---- full
pub Equilibrium-full : (transit capacity rate horizon arrival amount waits : ℚ) (later : List Piece) (trace : Trace)
    → 0ℚ ≤ℚ transit → 0ℚ <ℚ capacity → capacity ≤ℚ rate → 0ℚ <ℚ horizon → ArePieces (at_rate rate later) → NotBefore horizon later
    → amount ≡ rate *ℚ horizon → waits ≡ (rate -ℚ capacity) *ℚ horizon → capacity *ℚ (arrival -ℚ transit) ≡ amount → IsOutTrace transit arrival amount capacity trace
    → Equilibrium (one_link transit (Some capacity) (at_rate rate later)) (steady_flow transit rate horizon arrival amount waits trace)
Equilibrium-full transit capacity rate horizon arrival amount waits later trace l c over h p alone enters wait at out =
    Equilibrium-steady transit (Some capacity) later rate slope (rate -ℚ capacity) horizon arrival amount waits trace (p.rates 0 _ refl) h arrives enters wait
    (IsOut-trace transit slope rate capacity horizon arrival amount h state.slope_ps (turned slope capacity rate each) arrives enters trace out)
    l (λ r some. subst (λ (x : ℚ). 0ℚ <ℚ x) (same_rate capacity r some) c) p alone state
  where
    same_rate : (a b : ℚ) → ◌≡◌ {A = Option ℚ} (Some a) (Some b) → a ≡ b
    same_rate a b q = cc

    slope : ℚ
    slope = rate /ℚ capacity

    each : slope *ℚ capacity ≡ rate
    each = quotient-times rate capacity c

    turned : (k c r : ℚ) → k *ℚ c ≡ r → c *ℚ k ≡ r
    turned k c r e = linear_eq (k ∷ c ∷ r ∷ []) (eq e ∷ []) (search reading_of) tt tt

    state : IsState (Some capacity) rate slope (rate -ℚ capacity)
    state = IsState-full capacity rate slope c over each

    by_capacity : (c a t m k r h : ℚ) → c *ℚ (a -ℚ t) ≡ m → m ≡ r *ℚ h → k *ℚ c ≡ r → c *ℚ a ≡ c *ℚ (t +ℚ k *ℚ h)
    by_capacity c a t m k r h e f g = linear_eq (c ∷ a ∷ t ∷ m ∷ k ∷ r ∷ h ∷ []) (eq e ∷ eq f ∷ eq_times h g ∷ []) (search reading_of) tt tt

    arrives : arrival ≡ transit +ℚ slope *ℚ horizon
    arrives = same_from_times capacity _ _ c (by_capacity capacity arrival transit amount slope rate horizon at enters each)

-- ---- tight
pub Equilibrium-tight : (transit : ℚ) (capacity : Option ℚ) (rate horizon arrival amount : ℚ) (later : List Piece) (trace : Trace)
    → 0ℚ ≤ℚ transit → IsPositive capacity → ((bound : ℚ) → capacity ≡ Some bound → rate ≤ℚ bound) → 0ℚ <ℚ horizon → ArePieces (at_rate rate later) → NotBefore horizon later
    → amount ≡ rate *ℚ horizon → arrival ≡ transit +ℚ horizon → IsOutTrace transit arrival amount rate trace
    → Equilibrium (one_link transit capacity (at_rate rate later)) (steady_flow transit rate horizon arrival amount 0ℚ trace)
Equilibrium-tight transit capacity rate horizon arrival amount later trace l c under h p alone enters at out =
    Equilibrium-steady transit capacity later rate 1ℚ 0ℚ horizon arrival amount 0ℚ trace (p.rates 0 _ refl) h arrives enters (zero_of_zero_times horizon)
    (IsOut-trace transit 1ℚ rate rate horizon arrival amount h state.slope_ps (times_one rate) arrives enters trace out)
    l c p alone state
  where
    state : IsState capacity rate 1ℚ 0ℚ
    state = IsState-tight capacity rate under

    arrives : arrival ≡ transit +ℚ 1ℚ *ℚ horizon
    arrives = linear_eq (arrival ∷ transit ∷ horizon ∷ []) (eq at ∷ []) (search reading_of) tt tt
