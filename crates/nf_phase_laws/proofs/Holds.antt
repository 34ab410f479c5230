-- A flow that satisfies the invariant of phases is a Nash flow over time.
use Rattle.std.proofs.Common.{◌≡◌, ◌≢◌, ℕ, ◌<◌, ◌≤◌, [], ◌∷◌, length, get_or, slice_get, ⊎_elim, Option, Some, None, sym, ap, subst, refl, ◌∙◌, arith}
use Rattle.nf_phase_laws.proofs.Common.{slice_get_within, slice_get_cases, ℚ, 0ℚ, ◌+ℚ◌, ◌-ℚ◌, ◌*ℚ◌, ◌≤ℚ◌, ◌<ℚ◌, max_ℚ, reading_of, ≤ℚ_of_lt, ≤ℚ_antisymm}
use Rattle.nf_phase_laws.proofs.Common.{lt_or_le_ℚ, not_both_ℚ, less_nn, le, lt, eq, le_times, linear_le, linear_lt, linear_eq, Within, NeverFalls}
use Rattle.nf_phase_laws.proofs.Common.{IsGreatest, Link, Network, IsNetwork, IsLink, sum_in, sum_out, supply, IsQueue, IsExit, IsOutflow, IsEarliest}
use Rattle.nf_phase_laws.proofs.Common.{Balances, IsNashFlow, IsPositive, AreLabels, le_from_times, IsOutflow-from_IsQueue, IsOutflow-early}
use Rattle.nf_phase_laws.proofs.Common.{IsEarliest-label, IsPositive-link, sum_out-same, sum_in-none, sum_out-none, link_slack, queue_by_slack, tail_or}
use Rattle.nf_phase_laws.proofs.Common.{sent, HoldsUpTo, ≤ℚ_refl, ≤ℚ_trans, in_time}
use Rattle.nf_model_laws.proofs.Exits.{IsOutflow-at_exit}
use Rattle.nf_phase_laws.proofs.Idle.{max0_cases, waiting-by_slack, IsQueue-before_any}

-- The amount sent into a link, by its tail.
pub sent-is : (net : Network) (amount label : ℕ → ℚ → ℚ) (e : ℕ) (link : Link) (departure : ℚ) → IsLink net e link
    → sent net amount label e departure ≡ amount e (label link.tail departure)
sent-is net amount label e link departure p = ap (λ (o : Option Link). amount e (label (tail_or o) departure)) p

-- each number below the count of the links has its link
pub link_within : (net : Network) (e : ℕ) → e < length net.links → (link : Link) × IsLink net e link
link_within net e h = ⊎_elim
    (λ (w : (link : Link) × (e < length net.links) × IsLink net e link × (get_or net.links e link ≡ link)). (w.0, w.2))
    (λ (w : (length net.links ≤ e) × (slice_get net.links e ≡ None)). absurd (omega arith))
    (slice_get_cases net.links e).1

-- ---- over plain numbers: a and b the labels at the tail and the head, r the transit time, m the wait
late_enough : (a b r m : ℚ) → m ≡ max_ℚ 0ℚ (b -ℚ (a +ℚ r)) → b ≤ℚ a +ℚ r +ℚ m
late_enough a b r m e = max0_cases (b -ℚ (a +ℚ r)) m e
    (λ f _. linear_le (a ∷ b ∷ r ∷ m ∷ []) (eq f ∷ []) (search reading_of) tt)
    (λ f k. linear_le (a ∷ b ∷ r ∷ m ∷ []) (eq f ∷ lt k ∷ []) (search reading_of) tt)

just_then : (a b r m : ℚ) → m ≡ max_ℚ 0ℚ (b -ℚ (a +ℚ r)) → 0ℚ ≤ℚ b -ℚ (a +ℚ r) → b ≡ a +ℚ r +ℚ m
just_then a b r m e h = max0_cases (b -ℚ (a +ℚ r)) m e
    (λ f _. linear_eq (a ∷ b ∷ r ∷ m ∷ []) (eq f ∷ []) (search reading_of) tt tt)
    (λ f k. absurd (not_both_ℚ _ _ k h))

-- Nothing has entered, so nothing waits: f, g and z are the amounts at a, at t and at 0, and c is the capacity.
empty : (f g z c a t m : ℚ) → f ≡ 0ℚ → z ≡ 0ℚ → z ≤ℚ g → 0ℚ ≤ℚ c → t ≤ℚ a → f -ℚ g -ℚ c *ℚ (a -ℚ t) ≡ c *ℚ m → c *ℚ m ≤ℚ c *ℚ 0ℚ
empty f g z c a t m d e h low k i = linear_le (f ∷ g ∷ z ∷ c ∷ a ∷ t ∷ m ∷ []) (eq d ∷ eq e ∷ le h ∷ le_times low k ∷ eq i ∷ []) (search reading_of) tt

wait_none : (capacity : Option ℚ) (amount : ℚ → ℚ) (a s : ℚ) → IsPositive capacity → NeverFalls amount → amount 0ℚ ≡ 0ℚ → amount a ≡ 0ℚ → (capacity ≡ None → s ≤ℚ 0ℚ)
    → IsQueue capacity amount a (queue_by_slack capacity s) → s ≤ℚ 0ℚ
wait_none None amount a s c rises z f none q = none refl
wait_none (Some rate) amount a s c rises z f none q =
    let g : IsGreatest (λ less_nn. amount a -ℚ amount less_nn -ℚ rate *ℚ (a -ℚ less_nn)) 0ℚ a (rate *ℚ max_ℚ 0ℚ s) = q.bounded rate refl in
    let low : max_ℚ 0ℚ s ≤ℚ 0ℚ = le_from_times rate _ _ (c rate refl)
    (empty (amount a) (amount g.taken.0) (amount 0ℚ) rate a g.taken.0 _ f z (rises 0ℚ g.taken.0 (≤ℚ_refl 0ℚ) g.taken.1.0) (≤ℚ_of_lt _ _ (c rate refl)) g.taken.1.1 g.taken.2) in
    max0_cases s _ refl (λ e _. subst (λ (m : ℚ). m ≤ℚ 0ℚ) e low) (λ _ l. ≤ℚ_of_lt _ _ l)

module _ (net : Network) (amount label : ℕ → ℚ → ℚ) (until : ℚ) (good : IsNetwork net) (holds : HoldsUpTo net amount label until) where
  positive : (e : ℕ) (link : Link) → IsLink net e link → IsPositive link.capacity
  positive e link p = IsPositive-link net e link good p

  pub amount_rises : (e : ℕ) (link : Link) → IsLink net e link → NeverFalls (amount e)
  amount_rises e link p = holds.amount_rises e (slice_get_within net.links e link p)

  pub amount_starts : (e : ℕ) (link : Link) → IsLink net e link → amount e 0ℚ ≡ 0ℚ
  amount_starts e link p = holds.amount_starts e (slice_get_within net.links e link p)

  pub first : Within 0ℚ until 0ℚ
  first = (≤ℚ_refl 0ℚ, holds.begun)

  pub label_not_negative : (v : ℕ) (departure : ℚ) → v < net.nodes → Within 0ℚ until departure → 0ℚ ≤ℚ label v departure
  label_not_negative v departure h w = ≤ℚ_trans _ _ _ (holds.label_not_negative v h) (holds.label_rises v 0ℚ departure h (≤ℚ_refl 0ℚ) w.0 w.1)

  -- ---- labels
  exit_at : (e : ℕ) (link : Link) (departure : ℚ) → IsLink net e link → Within 0ℚ until departure
      → IsExit link.transit link.capacity (amount e) (label link.tail departure) (label link.tail departure +ℚ link.transit +ℚ max_ℚ 0ℚ (link_slack label link departure))
  exit_at e link departure p w = record {
    queue = queue_by_slack link.capacity (link_slack label link departure);
    is_queue = holds.queue e link departure p w;
    is_sum = ap (λ (m : ℚ). label link.tail departure +ℚ link.transit +ℚ m)
        (sym (waiting-by_slack link.capacity (link_slack label link departure) (positive e link p) (λ none. holds.unbounded e link departure p none w)));
  }

  pub exit_active : (e : ℕ) (link : Link) (departure : ℚ) → IsLink net e link → Within 0ℚ until departure → 0ℚ ≤ℚ link_slack label link departure
      → IsExit link.transit link.capacity (amount e) (label link.tail departure) (label link.head departure)
  exit_active e link departure p w h = subst (λ (x : ℚ). IsExit link.transit link.capacity (amount e) (label link.tail departure) x)
      (sym (just_then (label link.tail departure) (label link.head departure) link.transit _ refl h)) (exit_at e link departure p w)

  pub AreLabels-at : (departure : ℚ) → Within 0ℚ until departure → AreLabels net amount departure (λ v. label v departure)
  AreLabels-at departure w = record {
    source = holds.source departure w;
    not_before = λ e link p _. (
      label link.tail departure +ℚ link.transit +ℚ max_ℚ 0ℚ (link_slack label link departure),
      exit_at e link departure p w,
      late_enough (label link.tail departure) (label link.head departure) link.transit _ refl,
    );
    entered = λ v h other.
        let n : (e : ℕ) × (link : Link) × IsLink net e link × (link.head ≡ v) × (0ℚ ≤ℚ link_slack label link departure) = holds.entered v departure h other w in
        (n.0, n.1, n.2, n.3, exit_active n.0 n.1 departure n.2 w n.4);
  }

  pub labels_earliest : (v : ℕ) (departure : ℚ) → v < net.nodes → Within 0ℚ until departure → IsEarliest net amount v departure (label v departure)
  labels_earliest v departure h w = IsEarliest-label net amount departure (λ v. label v departure) good holds.amount_rises (AreLabels-at departure w) v h

  -- ---- outflows: the amount that entered by a departure has left by the label of the head
  pub slack_start : (e : ℕ) (link : Link) → IsLink net e link → link_slack label link 0ℚ ≤ℚ 0ℚ
  slack_start e link p = wait_none link.capacity (amount e) (label link.tail 0ℚ) _ (positive e link p) (amount_rises e link p) (amount_starts e link p)
      (sym (sent-is net amount label e link 0ℚ p) ∙ holds.sent_starts e link p) (λ none. holds.unbounded e link 0ℚ p none first) (holds.queue e link 0ℚ p first)

  less_none : (y x : ℚ) → y ≡ x → y -ℚ 0ℚ ≡ x
  less_none y x e = linear_eq (y ∷ x ∷ []) (eq e ∷ []) (search reading_of) tt tt

  back_again : (b r : ℚ) → b ≡ (b -ℚ r) +ℚ r
  back_again b r = linear_eq (b ∷ r ∷ []) [] (search reading_of) tt tt

  too_early : (b r : ℚ) → b -ℚ r <ℚ 0ℚ → b <ℚ r
  too_early b r h = linear_lt (b ∷ r ∷ []) (lt h ∷ []) (search reading_of) tt

  outflow_unused : (e : ℕ) (link : Link) (departure : ℚ) → IsLink net e link → Within 0ℚ until departure → link_slack label link departure ≤ℚ 0ℚ
      → IsOutflow link.transit link.capacity (amount e) (label link.head departure) (sent net amount label e departure)
  outflow_unused e link departure p w l = ⊎_elim
      (λ (k : label link.head departure -ℚ link.transit <ℚ 0ℚ). subst (λ (x : ℚ). IsOutflow link.transit link.capacity (amount e) (label link.head departure) x)
      (sym (amount_starts e link p) ∙ holds.idle e link departure 0ℚ p w l (≤ℚ_refl 0ℚ) (≤ℚ_of_lt _ _ k) (label_not_negative link.tail departure (good.tails e link p) w))
      (IsOutflow-early link.transit link.capacity (amount e) (label link.head departure) (too_early _ _ k)))
      (λ (k : 0ℚ ≤ℚ label link.head departure -ℚ link.transit). subst (λ (x : ℚ). IsOutflow link.transit link.capacity (amount e) (label link.head departure) x)
      (less_none _ _ (holds.idle e link departure (label link.head departure -ℚ link.transit) p w l k (≤ℚ_refl _)
      (in_time (label link.tail departure) (label link.head departure) link.transit l)))
      (IsOutflow-from_IsQueue link.transit link.capacity (amount e) (label link.head departure -ℚ link.transit) (label link.head departure) 0ℚ
      (back_again (label link.head departure) link.transit) k
      (holds.idle_queue e link departure p w l k)))
      (lt_or_le_ℚ (label link.head departure -ℚ link.transit) 0ℚ)

  pub outflow_at : (e : ℕ) (link : Link) (departure : ℚ) → IsLink net e link → Within 0ℚ until departure
      → IsOutflow link.transit link.capacity (amount e) (label link.head departure) (sent net amount label e departure)
  outflow_at e link departure p w = ⊎_elim
      (λ (l : 0ℚ <ℚ link_slack label link departure). subst (λ (x : ℚ). IsOutflow link.transit link.capacity (amount e) (label link.head departure) x)
      (sym (sent-is net amount label e link departure p))
      (IsOutflow-at_exit link.transit link.capacity (amount e) (label link.tail departure) (label link.head departure) (positive e link p) (amount_rises e link p)
      (label_not_negative link.tail departure (good.tails e link p) w) (exit_active e link departure p w (≤ℚ_of_lt _ _ l))))
      (λ (l : link_slack label link departure ≤ℚ 0ℚ). outflow_unused e link departure p w l)
      (lt_or_le_ℚ 0ℚ (link_slack label link departure))

  -- ---- before the first arrival at a link's head nothing leaves it
  pub none_yet : (e : ℕ) (link : Link) (time : ℚ) → IsLink net e link → 0ℚ ≤ℚ time → time ≤ℚ label link.tail 0ℚ → amount e time ≡ 0ℚ
  none_yet e link time p h k = ≤ℚ_antisymm _ _
      (subst (λ (x : ℚ). amount e time ≤ℚ x) (sym (sent-is net amount label e link 0ℚ p) ∙ holds.sent_starts e link p) (amount_rises e link p time (label link.tail 0ℚ) h k))
      (subst (λ (x : ℚ). x ≤ℚ amount e time) (amount_starts e link p) (amount_rises e link p 0ℚ time (≤ℚ_refl 0ℚ) h))

  pub queue_early : (e : ℕ) (link : Link) (time : ℚ) → IsLink net e link → 0ℚ ≤ℚ time → time ≤ℚ label link.tail 0ℚ → IsQueue link.capacity (amount e) time 0ℚ
  queue_early e link time p h k = IsQueue-before_any link.capacity (amount e) time (positive e link p) h
      (λ t i j. none_yet e link t p i (≤ℚ_trans _ _ _ j k) ∙ sym (amount_starts e link p))

  soon : (a b r z : ℚ) → z ≤ℚ b → b -ℚ (a +ℚ r) ≤ℚ 0ℚ → z -ℚ r ≤ℚ a
  soon a b r z h k = linear_le (a ∷ b ∷ r ∷ z ∷ []) (le h ∷ le k ∷ []) (search reading_of) tt

  pub outflow_early : (e : ℕ) (link : Link) (time : ℚ) → IsLink net e link → 0ℚ ≤ℚ time → time ≤ℚ label link.head 0ℚ → IsOutflow link.transit link.capacity (amount e) time 0ℚ
  outflow_early e link time p h k = ⊎_elim
      (λ (l : time <ℚ link.transit). IsOutflow-early link.transit link.capacity (amount e) time l)
      (λ (l : link.transit ≤ℚ time).
      let before : time -ℚ link.transit ≤ℚ label link.tail 0ℚ = soon (label link.tail 0ℚ) (label link.head 0ℚ) link.transit time k (slack_start e link p) in
      subst (λ (x : ℚ). IsOutflow link.transit link.capacity (amount e) time x) (less_none _ _ (none_yet e link (time -ℚ link.transit) p (less_nn _ _ l) before))
      (IsOutflow-from_IsQueue link.transit link.capacity (amount e) (time -ℚ link.transit) time 0ℚ (back_again time link.transit) (less_nn _ _ l)
      (queue_early e link (time -ℚ link.transit) p (less_nn _ _ l) before)))
      (lt_or_le_ℚ time link.transit)

  -- ---- conservation
  balance_at : (v : ℕ) (departure extra_in extra_out : ℚ) → Within 0ℚ until departure
      → sum_in net.links (λ e. sent net amount label e departure) v +ℚ extra_in ≡ sum_out net.links (λ e. sent net amount label e departure) v +ℚ extra_out
      → Balances net amount v (label v departure) extra_in extra_out
  balance_at v departure extra_in extra_out w sums = record {
    outs = λ e. sent net amount label e departure;
    outflows = λ e link p h. subst (λ (k : ℕ). IsOutflow link.transit link.capacity (amount e) (label k departure) (sent net amount label e departure)) h
        (outflow_at e link departure p w);
    sums = sums ∙ ap (λ (s : ℚ). s +ℚ extra_out) (sum_out-same net.links (λ e. sent net amount label e departure) (λ e. amount e (label v departure)) v
        (λ e link p h. sent-is net amount label e link departure p ∙ ap (λ (k : ℕ). amount e (label k departure)) h));
  }

  balance_early : (v : ℕ) (time : ℚ) → 0ℚ ≤ℚ time → time ≤ℚ label v 0ℚ → Balances net amount v time 0ℚ 0ℚ
  balance_early v time h k = record {
    outs = λ _. 0ℚ;
    outflows = λ e link p at. outflow_early e link time p h (subst (λ (j : ℕ). time ≤ℚ label j 0ℚ) (sym at) k);
    sums = ap (λ (s : ℚ). s +ℚ 0ℚ) (sum_in-none net.links v ∙ sym (sum_out-none net.links v)
        ∙ sum_out-same net.links (λ _. 0ℚ) (λ e. amount e time) v (λ e link p at. sym (none_yet e link time p h (subst (λ (j : ℕ). time ≤ℚ label j 0ℚ) (sym at) k))));
  }

  balance_inner : (v : ℕ) (time : ℚ) → v < net.nodes → v ≢ net.source → v ≢ net.sink → Within 0ℚ (label v until) time → Balances net amount v time 0ℚ 0ℚ
  balance_inner v time h a b w = ⊎_elim
      (λ (l : time <ℚ label v 0ℚ). balance_early v time w.0 (≤ℚ_of_lt _ _ l))
      (λ (l : label v 0ℚ ≤ℚ time).
      let t : (s : ℚ) × Within 0ℚ until s × (label v s ≡ time) = holds.label_takes v time h l w.1 in
      subst (λ (z : ℚ). Balances net amount v z 0ℚ 0ℚ) t.2 (balance_at v t.0 0ℚ 0ℚ t.1 (ap (λ (s : ℚ). s +ℚ 0ℚ) (holds.inner v t.0 h a b t.1))))
      (lt_or_le_ℚ time (label v 0ℚ))

  nothing_more : (s t : ℚ) → s ≡ t → s ≡ t +ℚ 0ℚ
  nothing_more s t e = linear_eq (s ∷ t ∷ []) (eq e ∷ []) (search reading_of) tt tt

  nothing_less : (s t : ℚ) → s ≡ t → s +ℚ 0ℚ ≡ t
  nothing_less s t e = linear_eq (s ∷ t ∷ []) (eq e ∷ []) (search reading_of) tt tt

  along : (a b x y : ℚ) → a ≡ x → b ≡ y → x <ℚ y → a <ℚ b
  along a b x y e f h = linear_lt (a ∷ b ∷ x ∷ y ∷ []) (eq e ∷ eq f ∷ lt h ∷ []) (search reading_of) tt

  -- ---- the theorem
  pub IsNashFlow-from_HoldsUpTo : IsNashFlow net amount label until
  IsNashFlow-from_HoldsUpTo = record {
    starts = holds.amount_starts;
    rises = holds.amount_rises;
    labels = labels_earliest;
    conserves = record {
      inner = balance_inner;
      source = λ time w. subst (λ (z : ℚ). Balances net amount net.source z (supply net time) 0ℚ) (holds.source time w)
          (balance_at net.source time (supply net time) 0ℚ w (nothing_more _ _ (holds.supplied time w)));
      sink_early = λ time w. balance_early net.sink time w.0 w.1;
      sink = λ departure w. balance_at net.sink departure 0ℚ (supply net departure) w (nothing_less _ _ (holds.drained departure w));
    };
    only_shortest = λ e link departure p h k grows. exit_active e link departure p (h, ≤ℚ_of_lt _ _ k)
        (holds.used e link departure p h k (λ later a b. along _ _ _ _ (sent-is net amount label e link departure p) (sent-is net amount label e link later p) (grows later a b)));
  }
