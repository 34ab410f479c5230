-- The invariant of phases at the start: nothing has entered a link, and the labels are the least transit sums.
use Rattle.std.proofs.Common.{◌≡◌, ◌≢◌, ℕ, ◌<◌, List, [], ◌∷◌, ⊎_elim, true, false, eqb, sym, ap, subst, ◌∙◌}
use Rattle.nf_phase_laws.proofs.Common.{eqb_tells, slice_get_within, ℚ, 0ℚ, ◌+ℚ◌, ◌-ℚ◌, ◌≤ℚ◌, reading_of, ≤ℚ_of_same, ≤ℚ_antisymm, nn_plus, not_both_ℚ, le}
use Rattle.nf_phase_laws.proofs.Common.{eq, linear_le, linear_eq, number_at, Within, IsWalk, IsLeastTransit, transit_sum, Link, Network, IsNetwork, IsLink}
use Rattle.nf_phase_laws.proofs.Common.{hops, sum_in, sum_out, supply, IsQueue, AreStartLabels, AreTransitLabels, IsWalk-starts, StartsWith, transit_of-is}
use Rattle.nf_phase_laws.proofs.Common.{IsPositive-link, sum_in-same, sum_out-same, sum_in-none, sum_out-none, supplied-begins, link_slack, queue_by_slack}
use Rattle.nf_phase_laws.proofs.Common.{sent, HoldsUpTo, StartsEmpty, ≤ℚ_refl, AreTransitLabels-least}
use Rattle.nf_phase_laws.proofs.Idle.{queue_by_slack-low, IsQueue-before_any}
use Rattle.nf_phase_laws.proofs.Holds.{sent-is}

-- no walk has a negative transit sum
pub transit_sum-not_negative : (net : Network) → IsNetwork net → (walk : List ℕ) (u v : ℕ) → IsWalk (hops net) walk u v → 0ℚ ≤ℚ transit_sum (hops net) walk
transit_sum-not_negative net good [] u v w = ≤ℚ_refl 0ℚ
transit_sum-not_negative net good (e ∷ walk) u v w =
    let s : StartsWith net e walk u v = IsWalk-starts net e walk u v w in
    nn_plus _ _ (subst (λ (t : ℚ). 0ℚ ≤ℚ t) (sym (transit_of-is net e s.link s.is_link)) (good.transits e s.link s.is_link)) (transit_sum-not_negative net good walk s.link.head v s.rest)

module _ (net : Network) (labels : List ℚ) (amount label : ℕ → ℚ → ℚ) (good : IsNetwork net) (least : AreStartLabels net labels) (start : StartsEmpty net labels amount label) where
  transit_labels : AreTransitLabels net (number_at labels)
  transit_labels = AreTransitLabels-least net (number_at labels) good least.each

  pub label_not_negative : (v : ℕ) → v < net.nodes → 0ℚ ≤ℚ label v 0ℚ
  label_not_negative v h =
      let l : IsLeastTransit (hops net) net.source v (number_at labels v) = least.each v h in
      subst (λ (a : ℚ). 0ℚ ≤ℚ a) (l.taken.2 ∙ sym (start.labels_are v h)) (transit_sum-not_negative net good l.taken.0 net.source v l.taken.1)

  -- The only departure so far.
  pub at_first : (P : ℚ → Type 0) → P 0ℚ → (departure : ℚ) → Within 0ℚ 0ℚ departure → P departure
  at_first P p departure w = subst P (≤ℚ_antisymm _ _ w.0 w.1) p

  source_first : label net.source 0ℚ ≡ 0ℚ
  source_first = start.labels_are net.source good.source ∙ transit_labels.source

  -- ---- no slack is above 0
  into_source : (a b r : ℚ) → b ≡ 0ℚ → 0ℚ ≤ℚ a → 0ℚ ≤ℚ r → b -ℚ (a +ℚ r) ≤ℚ 0ℚ
  into_source a b r e h k = linear_le (a ∷ b ∷ r ∷ []) (eq e ∷ le h ∷ le k ∷ []) (search reading_of) tt

  into_other : (a b c d r : ℚ) → a ≡ c → b ≡ d → d ≤ℚ c +ℚ r → b -ℚ (a +ℚ r) ≤ℚ 0ℚ
  into_other a b c d r e f h = linear_le (a ∷ b ∷ c ∷ d ∷ r ∷ []) (eq e ∷ eq f ∷ le h ∷ []) (search reading_of) tt

  pub slack_none : (e : ℕ) (link : Link) → IsLink net e link → link_slack label link 0ℚ ≤ℚ 0ℚ
  slack_none e link p = ⊎_elim
      (λ (s : (eqb link.head net.source ≡ true) × (link.head ≡ net.source)).
      into_source (label link.tail 0ℚ) (label link.head 0ℚ) link.transit (ap (λ (v : ℕ). label v 0ℚ) s.1 ∙ source_first)
      (label_not_negative link.tail (good.tails e link p)) (good.transits e link p))
      (λ (s : (eqb link.head net.source ≡ false) × (link.head ≢ net.source)).
      into_other (label link.tail 0ℚ) (label link.head 0ℚ) _ _ link.transit (start.labels_are link.tail (good.tails e link p))
      (start.labels_are link.head (good.heads e link p)) (transit_labels.none_shorter e link p s.1))
      (eqb_tells link.head net.source)

  -- ---- each node but the source has an active link into it
  just_there : (a b c d y r : ℚ) → a ≡ c → b ≡ d → d ≡ y → y ≡ c +ℚ r → 0ℚ ≤ℚ b -ℚ (a +ℚ r)
  just_there a b c d y r e f g h = linear_le (a ∷ b ∷ c ∷ d ∷ y ∷ r ∷ []) (eq e ∷ eq f ∷ eq g ∷ eq h ∷ []) (search reading_of) tt

  entered_first : (v : ℕ) → v < net.nodes → v ≢ net.source → (e : ℕ) × (link : Link) × IsLink net e link × (link.head ≡ v) × (0ℚ ≤ℚ link_slack label link 0ℚ)
  entered_first v h other =
      let n : (e : ℕ) × (link : Link) × IsLink net e link × (link.head ≡ v) × (number_at labels v ≡ number_at labels link.tail +ℚ link.transit) = transit_labels.entered v h other in (
        n.0,
        n.1,
        n.2,
        n.3,
        just_there (label n.1.tail 0ℚ) (label n.1.head 0ℚ) _ _ _ n.1.transit (start.labels_are n.1.tail (good.tails n.0 n.1 n.2))
            (start.labels_are n.1.head (good.heads n.0 n.1 n.2)) (ap (number_at labels) n.3) n.4,
      )

  -- ---- nothing is sent, and nothing waits
  nothing_at : (e : ℕ) (link : Link) (time : ℚ) → IsLink net e link → 0ℚ ≤ℚ time → amount e time ≡ 0ℚ
  nothing_at e link time p h = start.nothing e time (slice_get_within net.links e link p) h

  pub nothing_sent : (e : ℕ) (link : Link) → IsLink net e link → sent net amount label e 0ℚ ≡ 0ℚ
  nothing_sent e link p = sent-is net amount label e link 0ℚ p ∙ nothing_at e link (label link.tail 0ℚ) p (label_not_negative link.tail (good.tails e link p))

  no_queue : (e : ℕ) (link : Link) (time : ℚ) → IsLink net e link → 0ℚ ≤ℚ time → IsQueue link.capacity (amount e) time 0ℚ
  no_queue e link time p h =
      IsQueue-before_any link.capacity (amount e) time (IsPositive-link net e link good p) h
      (λ t i _. nothing_at e link t p i ∙ sym (nothing_at e link 0ℚ p (≤ℚ_refl 0ℚ)))

  in_none : (v : ℕ) → sum_in net.links (λ e. sent net amount label e 0ℚ) v ≡ 0ℚ
  in_none v = sum_in-same net.links (λ e. sent net amount label e 0ℚ) (λ _. 0ℚ) v (λ e link p _. nothing_sent e link p) ∙ sum_in-none net.links v

  out_none : (v : ℕ) → sum_out net.links (λ e. sent net amount label e 0ℚ) v ≡ 0ℚ
  out_none v = sum_out-same net.links (λ e. sent net amount label e 0ℚ) (λ _. 0ℚ) v (λ e link p _. nothing_sent e link p) ∙ sum_out-none net.links v

  add_none : (i u o : ℚ) → i ≡ 0ℚ → u ≡ 0ℚ → o ≡ 0ℚ → i +ℚ u ≡ o
  add_none i u o e f g = linear_eq (i ∷ u ∷ o ∷ []) (eq e ∷ eq f ∷ eq g ∷ []) (search reading_of) tt tt

  same_none : (x y : ℚ) → x ≡ 0ℚ → y ≡ 0ℚ → x ≤ℚ y
  same_none x y e f = linear_le (x ∷ y ∷ []) (eq e ∷ eq f ∷ []) (search reading_of) tt

  unsupplied : supply net 0ℚ ≡ 0ℚ
  unsupplied = supplied-begins net.pieces good.pieces

  same_label : (v : ℕ) (s t : ℚ) → 0ℚ ≤ℚ s → s ≤ℚ t → t ≤ℚ 0ℚ → label v s ≤ℚ label v t
  same_label v s t h k j = ≤ℚ_of_same _ _ (ap (label v) (linear_eq (s ∷ t ∷ []) (le h ∷ le k ∷ le j ∷ []) (search reading_of) tt tt))

  -- ---- the theorem
  pub HoldsUpTo-start : HoldsUpTo net amount label 0ℚ
  HoldsUpTo-start = record {
    begun = ≤ℚ_refl 0ℚ;
    source = at_first (λ departure. label net.source departure ≡ departure) source_first;
    label_rises = λ v s t _ h k j. same_label v s t h k j;
    label_takes = λ v time h i j. (0ℚ, (≤ℚ_refl 0ℚ, ≤ℚ_refl 0ℚ), ≤ℚ_antisymm _ _ i j);
    label_not_negative = label_not_negative;
    amount_rises = λ e h s t i j. same_none _ _ (start.nothing e s h i) (start.nothing e t h (linear_le (s ∷ t ∷ []) (le i ∷ le j ∷ []) (search reading_of) tt));
    amount_starts = λ e h. start.nothing e 0ℚ h (≤ℚ_refl 0ℚ);
    sent_starts = nothing_sent;
    inner = λ v departure h a b w. at_first (λ departure. sum_in net.links (λ e. sent net amount label e departure) v ≡ sum_out net.links (λ e. sent net amount label e departure) v)
        (in_none v ∙ sym (out_none v)) departure w;
    supplied = at_first (λ departure. sum_in net.links (λ e. sent net amount label e departure) net.source +ℚ supply net departure ≡ sum_out net.links
        (λ e. sent net amount label e departure) net.source)
        (add_none _ _ _ (in_none net.source) unsupplied (out_none net.source));
    drained = at_first (λ departure. sum_in net.links (λ e. sent net amount label e departure) net.sink ≡ sum_out net.links
        (λ e. sent net amount label e departure) net.sink +ℚ supply net departure)
        (sym (add_none _ _ _ (out_none net.sink) unsupplied (in_none net.sink)));
    queue = λ e link departure p w. at_first (λ departure. IsQueue link.capacity (amount e) (label link.tail departure) (queue_by_slack link.capacity (link_slack label link departure)))
        (subst (λ (y : ℚ). IsQueue link.capacity (amount e) (label link.tail 0ℚ) y) (sym (queue_by_slack-low link.capacity _ (slack_none e link p)))
        (no_queue e link (label link.tail 0ℚ) p (label_not_negative link.tail (good.tails e link p)))) departure w;
    unbounded = λ e link departure p _ w. at_first (λ departure. link_slack label link departure ≤ℚ 0ℚ) (slack_none e link p) departure w;
    entered = λ v departure h other w. at_first (λ departure. (e : ℕ) × (link : Link) × IsLink net e link × (link.head ≡ v) × (0ℚ ≤ℚ link_slack label link departure))
        (entered_first v h other) departure w;
    idle = λ e link departure time p w _ h _ _. at_first (λ departure. amount e time ≡ sent net amount label e departure)
        (nothing_at e link time p h ∙ sym (nothing_sent e link p)) departure w;
    idle_queue = λ e link departure p w _ h. no_queue e link _ p h;
    used = λ e link departure p h k grows. absurd (not_both_ℚ _ _ k h);
  }
