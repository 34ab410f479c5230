-- An equilibrium, up to the departure that it reached, is a feasible flow over time, and delivers the supply by the sink's label.
use Rattle.std.proofs.Common.{◌≡◌, ◌≢◌, ℕ, ◌<◌, [], ◌∷◌, ⊎_elim, true, false, eqb, Option, Some, unwrap_or, option_map, sym, ap, subst, ◌∙◌}
use Rattle.nf_rational_laws.proofs.Facts.{same_of_plus_zero}
use Rattle.nf_unique_laws.proofs.Common.{eqb_tells, slice_get_within, ℚ, 0ℚ, ◌+ℚ◌, ◌-ℚ◌, ◌*ℚ◌, ◌≤ℚ◌, ◌<ℚ◌, reading_of, ≤ℚ_of_lt, ≤ℚ_of_same, lt_or_le_ℚ, le, eq}
use Rattle.nf_unique_laws.proofs.Common.{linear_le, linear_eq, ≤ℚ_refl, ≤ℚ_trans, Within, Link, Network, IsNetwork, IsLink, sum_in, sum_out, supply, IsOutflow}
use Rattle.nf_unique_laws.proofs.Common.{Flow, points_at, points_of, label, inflow, outflow, Balances, Equilibrium, IsOutflow-unique, tail_or, link_within}
use Rattle.nf_unique_laws.proofs.Common.{HoldsUpTo-equilibrium, clipped, entered_of, left_of}
use Rattle.nf_model.specs.Quickest.{IsAmount, IsFeasible, delivered, IsQuickest}
use Rattle.nf_model_laws.proofs.Earliest.{IsPositive-link}
use Rattle.nf_model_laws.proofs.Sums.{sum_in-same, sum_out-same}
use Rattle.nf_model_laws.proofs.Supply.{supplied-begins, supplied-rises}
use Rattle.nf_quick_def.specs.Quick.{Quick}
use Rattle.nf_quick_def.specs.Answers.{IsQuickFlow}
use Rattle.nf_quick_def.specs.Departures.{IsDeparture}
use Rattle.nf_phase_equilibrium_laws.proofs.Printed.{rises-link, starts-link, label-nn, label-order, comes_out-at}
use Rattle.nf_unique_laws.proofs.Clipped.{clipped-within, clipped-is, HasCurve-clipped}
use Rattle.nf_unique_laws.proofs.OneLink.{AllServed, entered-before, entered-rises, left-before, left-rises, left-room, left-late, left-queue}

-- ---- plain numbers: the amounts that entered and left, and the supply
balanced : (i o : ℚ) → i +ℚ 0ℚ ≡ o +ℚ 0ℚ → o ≤ℚ i
balanced i o e = linear_le (i ∷ o ∷ []) (eq e ∷ []) (search reading_of) tt

stays : (i o u : ℚ) → i +ℚ 0ℚ ≡ o +ℚ u → 0ℚ ≤ℚ u → o ≤ℚ i
stays i o u e h = linear_le (i ∷ o ∷ u ∷ []) (eq e ∷ le h ∷ []) (search reading_of) tt

what_stays : (i o u : ℚ) → i +ℚ 0ℚ ≡ o +ℚ u → i -ℚ o ≡ u
what_stays i o u e = linear_eq (i ∷ o ∷ u ∷ []) (eq e ∷ []) (search reading_of) tt tt

module _ (net : Network) (flow : Flow) (good : IsNetwork net) (is : Equilibrium net flow) where
  abbrev F : ℕ → ℚ → ℚ
  F = inflow flow

  abbrev G : ℕ → ℚ → ℚ
  G = outflow flow

  abbrev l : ℕ → ℚ → ℚ
  l = label flow

  -- the label of a node at the departure reached
  abbrev end : ℕ → ℚ
  end v = l v flow.reached

  now : Within 0ℚ flow.reached flow.reached
  now = (is.reached, ≤ℚ_refl flow.reached)

  end-nn : (v : ℕ) → v < net.nodes → 0ℚ ≤ℚ end v
  end-nn v h = label-nn net flow good is v flow.reached h now

  -- ---- link by link
  pub entered-is : (e : ℕ) (link : Link) (time : ℚ) → IsLink net e link → entered_of net flow e time ≡ F e (clipped (end link.tail) time)
  entered-is e link time p = ap (λ (o : Option Link). F e (clipped (end (tail_or o)) time)) p

  pub left-is : (e : ℕ) (link : Link) (time : ℚ) → IsLink net e link → left_of net flow e time ≡ G e (clipped (end link.head) time)
  left-is e link time p = ap (λ (o : Option Link). G e (clipped (end (unwrap_or (option_map (λ (k : Link). k.head) o) 0)) time)) p

  -- up to the labels at the departure reached, as the flow says
  pub enters-is : (e : ℕ) (link : Link) (time : ℚ) → IsLink net e link → Within 0ℚ (end link.tail) time → entered_of net flow e time ≡ F e time
  enters-is e link time p w = entered-is e link time p ∙ ap (F e) (clipped-is (end link.tail) time w)

  pub leaves-is : (e : ℕ) (link : Link) (time : ℚ) → IsLink net e link → Within 0ℚ (end link.head) time → left_of net flow e time ≡ G e time
  leaves-is e link time p w = left-is e link time p ∙ ap (G e) (clipped-is (end link.head) time w)

  tail-nn : (e : ℕ) (link : Link) → IsLink net e link → 0ℚ ≤ℚ end link.tail
  tail-nn e link p = end-nn link.tail (good.tails e link p)

  head-nn : (e : ℕ) (link : Link) → IsLink net e link → 0ℚ ≤ℚ end link.head
  head-nn e link p = end-nn link.head (good.heads e link p)

  -- Statements on the link's own functions hold for these functions.
  to_entered : (P : (ℚ → ℚ) → Type 0) (e : ℕ) (link : Link) → IsLink net e link → P (λ time. F e (clipped (end link.tail) time)) → P (λ time. entered_of net flow e time)
  to_entered P e link p h = subst (λ (o : Option Link). P (λ time. F e (clipped (end (tail_or o)) time))) (sym p) h

  to_left : (P : (ℚ → ℚ) → Type 0) (e : ℕ) (link : Link) → IsLink net e link → P (λ time. G e (clipped (end link.head) time)) → P (λ time. left_of net flow e time)
  to_left P e link p h = subst (λ (o : Option Link). P (λ time. G e (clipped (end (unwrap_or (option_map (λ (k : Link). k.head) o) 0)) time))) (sym p) h

  module _ (e : ℕ) (link : Link) (p : IsLink net e link) where
    served : AllServed link.transit link.capacity (F e) (end link.tail) (end link.head) (G e)
    served = record {
      positive = IsPositive-link net e link good p;
      rises = rises-link net flow good is e link p;
      starts = starts-link net flow good is e link p;
      forward = good.transits e link p;
      tail_nn = tail-nn e link p;
      head_nn = head-nn e link p;
      out_is = λ time w. is.outflows e link time p w;
      all_out = comes_out-at net flow good is e link flow.reached p now;
    }

    amount_entered : IsAmount (λ time. F e (clipped (end link.tail) time))
    amount_entered = record {
      before = entered-before link.transit link.capacity (F e) (end link.tail) (end link.head) (G e) served;
      rises = λ earlier later _ h. entered-rises link.transit link.capacity (F e) (end link.tail) (end link.head) (G e) served earlier later h;
      has_curve = HasCurve-clipped (points_at (points_of flow.inflows) e) (end link.tail) (is.shape.inflows.each e (slice_get_within net.links e link p)) (tail-nn e link p);
    }

    amount_left : IsAmount (λ time. G e (clipped (end link.head) time))
    amount_left = record {
      before = left-before link.transit link.capacity (F e) (end link.tail) (end link.head) (G e) served;
      rises = λ earlier later _ h. left-rises link.transit link.capacity (F e) (end link.tail) (end link.head) (G e) served earlier later h;
      has_curve = HasCurve-clipped (points_at (points_of flow.outflows) e) (end link.head) (is.shape.outflows.each e (slice_get_within net.links e link p)) (head-nn e link p);
    }

    in_time : (time : ℚ) → left_of net flow e time ≤ℚ entered_of net flow e (time -ℚ link.transit)
    in_time time = to_entered (λ (f : ℚ → ℚ). left_of net flow e time ≤ℚ f (time -ℚ link.transit)) e link p
        (to_left (λ (g : ℚ → ℚ). g time ≤ℚ F e (clipped (end link.tail) (time -ℚ link.transit))) e link p
        (left-late link.transit link.capacity (F e) (end link.tail) (end link.head) (G e) served time))

    in_capacity : (rate earlier later : ℚ) → link.capacity ≡ Some rate → earlier ≤ℚ later → left_of net flow e later -ℚ left_of net flow e earlier ≤ℚ rate *ℚ (later -ℚ earlier)
    in_capacity rate earlier later some h = to_left (λ (g : ℚ → ℚ). g later -ℚ g earlier ≤ℚ rate *ℚ (later -ℚ earlier)) e link p
        (left-room link.transit link.capacity (F e) (end link.tail) (end link.head) (G e) served rate earlier later some h)

    pub by_queue : (time : ℚ) → 0ℚ ≤ℚ time → IsOutflow link.transit link.capacity (entered_of net flow e) time (left_of net flow e time)
    by_queue time h = to_entered (λ (f : ℚ → ℚ). IsOutflow link.transit link.capacity f time (left_of net flow e time)) e link p
        (to_left (λ (g : ℚ → ℚ). IsOutflow link.transit link.capacity (λ t. F e (clipped (end link.tail) t)) time (g time)) e link p
        (left-queue link.transit link.capacity (F e) (end link.tail) (end link.head) (G e) served time h))

  -- ---- node by node: only the time up to the label of the node matters
  outs-at : (v : ℕ) (time : ℚ) → sum_out net.links (λ e. entered_of net flow e time) v ≡ sum_out net.links (λ e. F e (clipped (end v) time)) v
  outs-at v time = sum_out-same net.links (λ e. entered_of net flow e time) (λ e. F e (clipped (end v) time)) v
      (λ e link p here. entered-is e link time p ∙ ap (λ (k : ℕ). F e (clipped (end k) time)) here)

  ins-at : (v : ℕ) (time : ℚ) → sum_in net.links (λ e. left_of net flow e time) v ≡ sum_in net.links (λ e. G e (clipped (end v) time)) v
  ins-at v time = sum_in-same net.links (λ e. left_of net flow e time) (λ e. G e (clipped (end v) time)) v
      (λ e link p here. left-is e link time p ∙ ap (λ (k : ℕ). G e (clipped (end k) time)) here)

  -- the flow's own outflows balance
  sums : (v : ℕ) (time extra_in extra_out : ℚ) → Within 0ℚ (end v) time → Balances net F v time extra_in extra_out
      → sum_in net.links (λ e. G e time) v +ℚ extra_in ≡ sum_out net.links (λ e. F e time) v +ℚ extra_out
  sums v time extra_in extra_out w b =
      ap (λ (s : ℚ). s +ℚ extra_in) (sum_in-same net.links (λ e. G e time) b.outs v (λ e link p here.
      IsOutflow-unique link.transit link.capacity (F e) time (G e time) (b.outs e)
      (is.outflows e link time p (subst (λ (k : ℕ). Within 0ℚ (end k) time) (sym here) w)) (b.outflows e link p here)))
      ∙ b.sums

  -- At a node other than source and sink nothing waits.
  pub none_waits : (v : ℕ) (time : ℚ) → v < net.nodes → v ≢ net.source → v ≢ net.sink
      → sum_in net.links (λ e. left_of net flow e time) v ≡ sum_out net.links (λ e. entered_of net flow e time) v
  none_waits v time h a b =
      let w : Within 0ℚ (end v) (clipped (end v) time) = clipped-within (end v) time (end-nn v h) in
      ins-at v time ∙ same_of_plus_zero _ _ (sums v (clipped (end v) time) 0ℚ 0ℚ w (is.nash.conserves.inner v (clipped (end v) time) h a b w)) ∙ sym (outs-at v time)

  supply-nn : (departure : ℚ) → 0ℚ ≤ℚ departure → 0ℚ ≤ℚ supply net departure
  supply-nn departure h = subst (λ (z : ℚ). z ≤ℚ supply net departure) (supplied-begins net.pieces good.pieces) (supplied-rises net.pieces good.pieces 0ℚ departure (≤ℚ_refl 0ℚ) h)

  up_to_now : (departure : ℚ) → Within 0ℚ flow.reached departure → Within 0ℚ (end net.sink) (l net.sink departure)
  up_to_now departure w = (
    label-nn net flow good is net.sink departure good.sink w,
    label-order net flow good is net.sink departure flow.reached good.sink w.0 w.1
        (≤ℚ_refl flow.reached),
  )

  at-sink : (time : ℚ) → Within 0ℚ (end net.sink) time → sum_out net.links (λ e. F e time) net.sink ≤ℚ sum_in net.links (λ e. G e time) net.sink
  at-sink time w = ⊎_elim
      (λ (h : time <ℚ l net.sink 0ℚ). balanced _ _ (sums net.sink time 0ℚ 0ℚ w (is.nash.conserves.sink_early time (w.0, ≤ℚ_of_lt _ _ h))))
      (λ (h : l net.sink 0ℚ ≤ℚ time).
      let d : (departure : ℚ) × Within 0ℚ flow.reached departure × (l net.sink departure ≡ time) = (HoldsUpTo-equilibrium net flow good is).label_takes net.sink time good.sink h w.1 in
      stays _ _ (supply net d.0) (sums net.sink time 0ℚ (supply net d.0) w
      (subst (λ (z : ℚ). Balances net F net.sink z 0ℚ (supply net d.0)) d.2 (is.nash.conserves.sink d.0 d.1))) (supply-nn d.0 d.1.0))
      (lt_or_le_ℚ time (l net.sink 0ℚ))

  at-node : (v : ℕ) (time : ℚ) → v < net.nodes → v ≢ net.source → Within 0ℚ (end v) time → sum_out net.links (λ e. F e time) v ≤ℚ sum_in net.links (λ e. G e time) v
  at-node v time h other w = ⊎_elim
      (λ (s : (eqb v net.sink ≡ true) × (v ≡ net.sink)). subst (λ (k : ℕ). sum_out net.links (λ e. F e time) k ≤ℚ sum_in net.links (λ e. G e time) k) (sym s.1)
      (at-sink time (subst (λ (k : ℕ). Within 0ℚ (end k) time) s.1 w)))
      (λ (s : (eqb v net.sink ≡ false) × (v ≢ net.sink)). balanced _ _ (sums v time 0ℚ 0ℚ w (is.nash.conserves.inner v time h other s.1 w)))
      (eqb_tells v net.sink)

  nodes : (v : ℕ) (time : ℚ) → v < net.nodes → v ≢ net.source → sum_out net.links (λ e. entered_of net flow e time) v ≤ℚ sum_in net.links (λ e. left_of net flow e time) v
  nodes v time h other = ≤ℚ_trans _ _ _ (≤ℚ_of_same _ _ (outs-at v time)) (≤ℚ_trans _ _ _ (at-node v (clipped (end v) time) h other (clipped-within (end v) time (end-nn v h)))
      (≤ℚ_of_same _ _ (sym (ins-at v time))))

  -- ---- the theorem
  pub IsFeasible-equilibrium : IsFeasible net (entered_of net flow) (left_of net flow)
  IsFeasible-equilibrium = record {
    amounts_entered = λ e h. let link : (link : Link) × IsLink net e link = link_within net e h in to_entered IsAmount e link.0 link.1 (amount_entered e link.0 link.1);
    amounts_left = λ e h. let link : (link : Link) × IsLink net e link = link_within net e h in to_left IsAmount e link.0 link.1 (amount_left e link.0 link.1);
    transit = λ e link time p. in_time e link p time;
    capacity = λ e link rate earlier later p some h. in_capacity e link p rate earlier later some h;
    nodes = nodes;
  }

  -- the supply by a departure is delivered by the label of the sink
  pub delivered-is : (departure : ℚ) → Within 0ℚ flow.reached departure → delivered net (entered_of net flow) (left_of net flow) (l net.sink departure) ≡ supply net departure
  delivered-is departure w =
      let at : clipped (end net.sink) (l net.sink departure) ≡ l net.sink departure = clipped-is (end net.sink) (l net.sink departure) (up_to_now departure w) in
      ap (λ (s : ℚ). s -ℚ sum_out net.links (λ e. entered_of net flow e (l net.sink departure)) net.sink)
      (ins-at net.sink (l net.sink departure) ∙ ap (λ (z : ℚ). sum_in net.links (λ e. G e z) net.sink) at)
      ∙ ap (λ (s : ℚ). sum_in net.links (λ e. G e (l net.sink departure)) net.sink -ℚ s)
      (outs-at net.sink (l net.sink departure) ∙ ap (λ (z : ℚ). sum_out net.links (λ e. F e z) net.sink) at)
      ∙ what_stays _ _ (supply net departure) (sums net.sink (l net.sink departure) 0ℚ (supply net departure) (up_to_now departure w) (is.nash.conserves.sink departure w))

  -- ---- so a quickest flow of at most this amount takes no longer
  pub quickest-le : (amount departure time : ℚ) → Within 0ℚ flow.reached departure → amount ≤ℚ supply net departure → IsQuickest net amount time → time ≤ℚ l net.sink departure
  quickest-le amount departure time w h q = q.least (entered_of net flow) (left_of net flow) (l net.sink departure) (label-nn net flow good is net.sink departure good.sink w)
      (record { feasible = IsFeasible-equilibrium; enough = ≤ℚ_trans _ _ _ h (≤ℚ_of_same _ _ (sym (delivered-is departure w))) })

  -- The comparison that `quick` prints.
  pub quick-le : (amount departure : ℚ) (quick : Quick) → IsQuickFlow net amount quick → IsDeparture net amount (Some departure) → departure ≤ℚ flow.reached
      → quick.time ≤ℚ l net.sink departure
  quick-le amount departure quick is_quick departs h = quickest-le amount departure quick.time (departs.0, h) departs.1 is_quick.quickest
