-- Any equilibrium satisfies the invariant of phases up to the departure that it reached.
use Rattle.std.proofs.Common.{◌≡◌, ℕ, [], ◌∷◌, ⊎_elim, Option, Some, None, sym, ap, subst, refl, ◌∙◌}
use Rattle.nf_phase_equilibrium_laws.proofs.Common.{ℚ, 0ℚ, ◌+ℚ◌, ◌-ℚ◌, ◌*ℚ◌, ◌/ℚ◌, ◌≤ℚ◌, ◌<ℚ◌, max_ℚ, reading_of, ≤ℚ_of_lt, ≤ℚ_antisymm, lt_or_le_ℚ, not_both_ℚ}
use Rattle.nf_phase_equilibrium_laws.proofs.Common.{less_nn, le, lt, eq, eq_times, linear_le, linear_lt, linear_eq, Within, Link, Network, IsNetwork, IsLink}
use Rattle.nf_phase_equilibrium_laws.proofs.Common.{sum_in, sum_out, supply, IsQueue, IsExit, IsOutflow, waiting, Flow, label, inflow, outflow, queue}
use Rattle.nf_phase_equilibrium_laws.proofs.Common.{points_at, Balances, Equilibrium, nn-quotient, quotient-times, same_from_times, value-takes_between}
use Rattle.nf_phase_equilibrium_laws.proofs.Common.{IsQueue-none, IsQueue-nn, IsQueue-unique, IsQueue-from_IsOutflow, IsOutflow-unique, IsExit-after}
use Rattle.nf_phase_equilibrium_laws.proofs.Common.{IsPositive-link, sum_in-same, sum_out-same, link_slack, queue_by_slack, sent, HoldsUpTo, max0_none, max0_of}
use Rattle.nf_phase_equilibrium_laws.proofs.Common.{≤ℚ_refl, ≤ℚ_trans, in_time, times_second_zero}
use Rattle.nf_model_laws.specs.Capacity.{IsPositive}
use Rattle.nf_phase_laws.specs.Description.{DescribesLinks}
use Rattle.nf_phase_laws.proofs.Holds.{sent-is, queue_early, outflow_early}
use Rattle.nf_phase_equilibrium_laws.proofs.Served.{outflow-entered, outflow-waits}
use Rattle.nf_phase_equilibrium_laws.proofs.Printed.{rises-link, starts-link, first, labels-at, source-at, label-nn, label-order, up_to_now, not_undercut, comes_out-at, none-before}
use Rattle.nf_rational_laws.proofs.Signs.{zero_from_same}
use Rattle.nf_rational_laws.proofs.Facts.{same_of_plus_zero}

-- ---- over plain numbers: a and b the labels at the tail and the head, r the transit time, x the exit, q the queue, c the capacity
no_slack : (a b r x : ℚ) → x ≡ a +ℚ r +ℚ 0ℚ → b ≤ℚ x → b -ℚ (a +ℚ r) ≤ℚ 0ℚ
no_slack a b r x e h = linear_le (a ∷ b ∷ r ∷ x ∷ []) (eq e ∷ le h ∷ []) (search reading_of) tt

slack_nn : (a b r : ℚ) → a +ℚ r ≤ℚ b → 0ℚ ≤ℚ b -ℚ (a +ℚ r)
slack_nn a b r h = linear_le (a ∷ b ∷ r ∷ []) (le h ∷ []) (search reading_of) tt

wait_is : (a b r w : ℚ) → b ≡ a +ℚ r +ℚ w → b -ℚ (a +ℚ r) ≡ w
wait_is a b r w e = linear_eq (a ∷ b ∷ r ∷ w ∷ []) (eq e ∷ []) (search reading_of) tt tt

all_waits : (c q w m : ℚ) → w *ℚ c ≡ q → m ≡ w → q ≡ c *ℚ m
all_waits c q w m e f = linear_eq (c ∷ q ∷ w ∷ m ∷ []) (eq e ∷ eq_times c f ∷ []) (search reading_of) tt tt

no_wait : (c w q : ℚ) → w *ℚ c ≡ q → q ≡ 0ℚ → c *ℚ w ≡ c *ℚ 0ℚ
no_wait c w q e f = linear_eq (c ∷ w ∷ q ∷ []) (eq e ∷ eq f ∷ []) (search reading_of) tt tt

back_again : (b r : ℚ) → b ≡ (b -ℚ r) +ℚ r
back_again b r = linear_eq (b ∷ r ∷ []) [] (search reading_of) tt tt

more_in : (s u t : ℚ) → s +ℚ u ≡ t +ℚ 0ℚ → s +ℚ u ≡ t
more_in s u t e = linear_eq (s ∷ u ∷ t ∷ []) (eq e ∷ []) (search reading_of) tt tt

more_out : (s u t : ℚ) → s +ℚ 0ℚ ≡ t +ℚ u → s ≡ t +ℚ u
more_out s u t e = linear_eq (s ∷ u ∷ t ∷ []) (eq e ∷ []) (search reading_of) tt tt

module _ (net : Network) (flow : Flow) (good : IsNetwork net) (is : Equilibrium net flow) where
  abbrev F : ℕ → ℚ → ℚ
  F = inflow flow

  abbrev l : ℕ → ℚ → ℚ
  l = label flow

  abbrev x : ℕ → ℚ → ℚ
  x = sent net F l

  x-is : (e : ℕ) (link : Link) (departure : ℚ) → IsLink net e link → x e departure ≡ F e (l link.tail departure)
  x-is e link departure p = sent-is net F l e link departure p

  positive : (e : ℕ) (link : Link) → IsLink net e link → IsPositive link.capacity
  positive e link p = IsPositive-link net e link good p

  -- ---- the amounts sent are conserved
  ins : (v : ℕ) (departure extra_in extra_out : ℚ) → Within 0ℚ flow.reached departure → Balances net F v (l v departure) extra_in extra_out
      → sum_in net.links (λ e. x e departure) v +ℚ extra_in ≡ sum_out net.links (λ e. x e departure) v +ℚ extra_out
  ins v departure extra_in extra_out w b =
      ap (λ (s : ℚ). s +ℚ extra_in) (sum_in-same net.links (λ e. x e departure) b.outs v (λ e link p here. x-is e link departure p
      ∙ IsOutflow-unique link.transit link.capacity (F e) (l v departure) (F e (l link.tail departure)) (b.outs e)
      (subst (λ (k : ℕ). IsOutflow link.transit link.capacity (F e) (l k departure) (F e (l link.tail departure))) here
      (comes_out-at net flow good is e link departure p w)) (b.outflows e link p here)))
      ∙ b.sums
      ∙ ap (λ (s : ℚ). s +ℚ extra_out) (sum_out-same net.links (λ e. F e (l v departure)) (λ e. x e departure) v
      (λ e link p here. ap (λ (k : ℕ). F e (l k departure)) (sym here) ∙ sym (x-is e link departure p)))

  -- ---- queues: of an unbounded link, and of one with a capacity
  slack-unbounded : (e : ℕ) (link : Link) (departure : ℚ) → IsLink net e link → link.capacity ≡ None → Within 0ℚ flow.reached departure → link_slack l link departure ≤ℚ 0ℚ
  slack-unbounded e link departure p none w =
      let u : (exit : ℚ) × IsExit link.transit link.capacity (F e) (l link.tail departure) exit × (l link.head departure ≤ℚ exit) = not_undercut net flow good is e link departure p w in
      no_slack (l link.tail departure) (l link.head departure) link.transit u.0
      (u.1.is_sum ∙ ap (λ (z : ℚ). l link.tail departure +ℚ link.transit +ℚ z) (ap (λ (c : Option ℚ). waiting c u.1.queue) none)) u.2

  queue-bounded : (e : ℕ) (link : Link) (departure rate : ℚ) → IsLink net e link → link.capacity ≡ Some rate → Within 0ℚ flow.reached departure
      → IsQueue link.capacity (F e) (l link.tail departure) (rate *ℚ max_ℚ 0ℚ (link_slack l link departure))
  queue-bounded e link departure rate p some w =
      let u : (exit : ℚ) × IsExit link.transit link.capacity (F e) (l link.tail departure) exit × (l link.head departure ≤ℚ exit) = not_undercut net flow good is e link departure p w in
      let sum : u.0 ≡ l link.tail departure +ℚ link.transit +ℚ u.1.queue /ℚ rate = u.1.is_sum
      ∙ ap (λ (c : Option ℚ). l link.tail departure +ℚ link.transit +ℚ waiting c u.1.queue) some in
      let served : u.1.queue /ℚ rate *ℚ rate ≡ u.1.queue = quotient-times u.1.queue rate (positive e link p rate some) in
      subst (λ (y : ℚ). IsQueue link.capacity (F e) (l link.tail departure) y)
      (⊎_elim
      (λ (h : 0ℚ <ℚ u.1.queue).
      let at : l link.head departure ≡ u.0 = ⊎_elim
      (λ (k : l link.head departure <ℚ u.0). absurd (not_both_ℚ _ _
      (outflow-waits link.transit link.capacity (F e) (positive e link p) (rises-link net flow good is e link p) (starts-link net flow good is e link p)
      rate (l link.tail departure) u.1.queue u.0 (l link.head departure) (F e (l link.tail departure)) some (label-nn net flow good is link.tail departure (good.tails e link p) w)
      u.1.is_queue h sum k (comes_out-at net flow good is e link departure p w)) (≤ℚ_refl _)))
      (λ (k : u.0 ≤ℚ l link.head departure). ≤ℚ_antisymm _ _ u.2 k)
      (lt_or_le_ℚ (l link.head departure) u.0) in
      let s : link_slack l link departure ≡ u.1.queue /ℚ rate = wait_is (l link.tail departure) (l link.head departure) link.transit _ (at ∙ sum) in
      all_waits rate u.1.queue (u.1.queue /ℚ rate) _ served (max0_of _ (subst (λ (z : ℚ). 0ℚ ≤ℚ z) (sym s) (wait-nn rate u.1.queue (positive e link p rate some) (≤ℚ_of_lt _ _ h))) ∙ s))
      (λ (h : u.1.queue ≤ℚ 0ℚ).
      let none : u.1.queue ≡ 0ℚ = ≤ℚ_antisymm _ _ h (IsQueue-nn link.capacity (F e) (l link.tail departure) u.1.queue u.1.is_queue) in
      none ∙ sym (times_second_zero rate _ (max0_none _ (no_slack (l link.tail departure) (l link.head departure) link.transit u.0
      (sum ∙ ap (λ (z : ℚ). l link.tail departure +ℚ link.transit +ℚ z) (wait-none rate u.1.queue (positive e link p rate some) none)) u.2))))
      (lt_or_le_ℚ 0ℚ u.1.queue))
      u.1.is_queue
    where
      wait-nn : (c q : ℚ) → 0ℚ <ℚ c → 0ℚ ≤ℚ q → 0ℚ ≤ℚ q /ℚ c
      wait-nn c q h k = nn-quotient q c k h

      wait-none : (c q : ℚ) → 0ℚ <ℚ c → q ≡ 0ℚ → q /ℚ c ≡ 0ℚ
      wait-none c q h e = same_from_times c (q /ℚ c) 0ℚ h (no_wait c (q /ℚ c) q (quotient-times q c h) e)

  queue-is : (e : ℕ) (link : Link) (departure : ℚ) → IsLink net e link → Within 0ℚ flow.reached departure
      → IsQueue link.capacity (F e) (l link.tail departure) (queue_by_slack link.capacity (link_slack l link departure))
  queue-is e link departure p w = by link.capacity refl
    where
      by : (c : Option ℚ) → link.capacity ≡ c → IsQueue link.capacity (F e) (l link.tail departure) (queue_by_slack link.capacity (link_slack l link departure))
      by None none = subst (λ (c : Option ℚ). IsQueue c (F e) (l link.tail departure) (queue_by_slack c (link_slack l link departure))) (sym none)
          (IsQueue-none (F e) (l link.tail departure))
      by (Some rate) some = subst (λ (c : Option ℚ). IsQueue link.capacity (F e) (l link.tail departure) (queue_by_slack c (link_slack l link departure)))
          (sym some) (queue-bounded e link departure rate p some w)

  -- ---- the slack is at most 0
  idle-is : (e : ℕ) (link : Link) (departure time : ℚ) → IsLink net e link → Within 0ℚ flow.reached departure → link_slack l link departure ≤ℚ 0ℚ
      → 0ℚ ≤ℚ time → l link.head departure -ℚ link.transit ≤ℚ time → time ≤ℚ l link.tail departure → F e time ≡ F e (l link.tail departure)
  idle-is e link departure time p w low h i j = ≤ℚ_antisymm _ _ (rises-link net flow good is e link p time (l link.tail departure) h j) (⊎_elim
      (λ (k : l link.head departure <ℚ link.transit). subst (λ (z : ℚ). z ≤ℚ F e time) (sym ((comes_out-at net flow good is e link departure p w).early k))
      (subst (λ (z : ℚ). z ≤ℚ F e time) (starts-link net flow good is e link p) (rises-link net flow good is e link p 0ℚ time (≤ℚ_refl 0ℚ) h)))
      (λ (k : link.transit ≤ℚ l link.head departure). ≤ℚ_trans _ _ _
      (outflow-entered link.transit link.capacity (F e) (positive e link p) (rises-link net flow good is e link p) (starts-link net flow good is e link p)
      (l link.head departure) _ k (comes_out-at net flow good is e link departure p w))
      (rises-link net flow good is e link p (l link.head departure -ℚ link.transit) time (less_nn link.transit (l link.head departure) k) i))
      (lt_or_le_ℚ (l link.head departure) link.transit))

  idle_queue-is : (e : ℕ) (link : Link) (departure : ℚ) → IsLink net e link → Within 0ℚ flow.reached departure → link_slack l link departure ≤ℚ 0ℚ
      → 0ℚ ≤ℚ l link.head departure -ℚ link.transit → IsQueue link.capacity (F e) (l link.head departure -ℚ link.transit) 0ℚ
  idle_queue-is e link departure p w low h =
      let same : F e (l link.head departure -ℚ link.transit) ≡ F e (l link.tail departure) =
      idle-is e link departure (l link.head departure -ℚ link.transit) p w low h (≤ℚ_refl _) (in_time (l link.tail departure) (l link.head departure) link.transit low) in
      subst (λ (y : ℚ). IsQueue link.capacity (F e) (l link.head departure -ℚ link.transit) y) (zero_from_same _ _ (sym same))
      (IsQueue-from_IsOutflow link.transit link.capacity (F e) (l link.head departure -ℚ link.transit) (l link.head departure) (F e (l link.tail departure))
      (back_again (l link.head departure) link.transit) h (comes_out-at net flow good is e link departure p w))

  -- ---- the exit at the label of the head implies that the slack is at least 0
  active : (e : ℕ) (link : Link) (departure : ℚ) → IsLink net e link → IsExit link.transit link.capacity (F e) (l link.tail departure)
      (l link.head departure) → 0ℚ ≤ℚ link_slack l link departure
  active e link departure p exit =
      slack_nn (l link.tail departure) (l link.head departure) link.transit
      (IsExit-after link.transit link.capacity (F e) (l link.tail departure) (l link.head departure) (positive e link p) exit)

  -- ---- the theorem
  pub HoldsUpTo-equilibrium : HoldsUpTo net F l flow.reached
  HoldsUpTo-equilibrium = record {
    begun = is.reached;
    source = source-at net flow good is;
    label_rises = label-order net flow good is;
    label_takes = λ v time h i j. value-takes_between (points_at flow.labels v) flow.reached time (is.shape.labels.each v h) is.reached i j;
    label_not_negative = λ v h. label-nn net flow good is v 0ℚ h (first net flow good is);
    amount_rises = is.nash.rises;
    amount_starts = is.nash.starts;
    sent_starts = λ e link p. x-is e link 0ℚ p ∙ none-before net flow good is e link p;
    inner = λ v departure h a b w. same_of_plus_zero _ _ (ins v departure 0ℚ 0ℚ w (is.nash.conserves.inner v (l v departure) h a b (up_to_now net flow good is v departure h w)));
    supplied = λ departure w. more_in _ _ _ (ins net.source departure (supply net departure) 0ℚ w
        (subst (λ (z : ℚ). Balances net F net.source z (supply net departure) 0ℚ) (sym (source-at net flow good is departure w)) (is.nash.conserves.source departure w)));
    drained = λ departure w. more_out _ _ _ (ins net.sink departure 0ℚ (supply net departure) w (is.nash.conserves.sink departure w));
    queue = queue-is;
    unbounded = slack-unbounded;
    entered = λ v departure h other w.
        let n : (e : ℕ) × (link : Link) × IsLink net e link × (link.head ≡ v)
        × IsExit link.transit link.capacity (F e) (l link.tail departure) (l link.head departure) =
        (labels-at net flow good is departure w).entered v h other in
        (n.0, n.1, n.2, n.3, active n.0 n.1 departure n.2 n.4);
    idle = λ e link departure time p w low h i j. idle-is e link departure time p w low h i j ∙ sym (x-is e link departure p);
    idle_queue = idle_queue-is;
    used = λ e link departure p h k grows. active e link departure p (is.nash.only_shortest e link departure p h k
        (λ later a b. along _ _ _ _ (x-is e link departure p) (x-is e link later p) (grows later a b)));
  }
    where
      along : (a b c d : ℚ) → a ≡ c → b ≡ d → a <ℚ b → c <ℚ d
      along a b c d e f h = linear_lt (a ∷ b ∷ c ∷ d ∷ []) (eq e ∷ eq f ∷ lt h ∷ []) (search reading_of) tt

  -- ---- the equilibrium describes its links
  pub DescribesLinks-equilibrium : DescribesLinks net F l (outflow flow) (queue flow) flow.reached
  DescribesLinks-equilibrium = record {
    outflows = λ e link departure p w. IsOutflow-unique link.transit link.capacity (F e) (l link.head departure) _ _
        (is.outflows e link (l link.head departure) p (up_to_now net flow good is link.head departure (good.heads e link p) w))
        (comes_out-at net flow good is e link departure p w) ∙ sym (x-is e link departure p);
    outflows_early = λ e link time p w. IsOutflow-unique link.transit link.capacity (F e) time _ _
        (is.outflows e link time p (w.0, ≤ℚ_trans _ _ _ w.1 (up_to_now net flow good is link.head 0ℚ (good.heads e link p) (first net flow good is)).1))
        (outflow_early net F l flow.reached good HoldsUpTo-equilibrium e link time p w.0 w.1);
    queues = λ e link departure p w. IsQueue-unique link.capacity (F e) (l link.tail departure) _ _
        (is.queues e link (l link.tail departure) p (up_to_now net flow good is link.tail departure (good.tails e link p) w)) (queue-is e link departure p w);
    queues_early = λ e link time p w. IsQueue-unique link.capacity (F e) time _ _
        (is.queues e link time p (w.0, ≤ℚ_trans _ _ _ w.1 (up_to_now net flow good is link.tail 0ℚ (good.tails e link p) (first net flow good is)).1))
        (queue_early net F l flow.reached good HoldsUpTo-equilibrium e link time p w.0 w.1);
  }
