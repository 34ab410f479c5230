-- A thin flow for the sets of the slacks, link by link, in the form that a phase requires.
use Rattle.std.proofs.Common.{◌≡◌, ◌≢◌, ℕ, ◌<◌, List, [], ◌∷◌, ◌⊎◌, inl, inr, ⊎_elim, Bool, true, false, Option, Some, None, slice_get, sym, ap, subst}
use Rattle.std.proofs.Common.{refl, ◌∙◌, unwrap_or}
use Rattle.nf_phase_laws.proofs.Common.{ℚ, 0ℚ, 1ℚ, ◌+ℚ◌, ◌-ℚ◌, ◌*ℚ◌, ◌/ℚ◌, ◌≤ℚ◌, ◌<ℚ◌, max_ℚ, reading_of, ≤ℚ_of_same, ≤ℚ_of_lt, not_both_ℚ, max_ℚ_cases, le}
use Rattle.nf_phase_laws.proofs.Common.{lt, eq, le_times, linear_le, linear_eq, linear_false, number_at, Within, IsWalk, transit_sum, Link, Network}
use Rattle.nf_phase_laws.proofs.Common.{IsNetwork, IsLink, hop_of, hops, sum_in, sum_out, Arrives, IsEarliest, slack, sets_at, exit_slope, exit_slope_at}
use Rattle.nf_phase_laws.proofs.Common.{Enters, IsThinFlow, IsPositive, quotient-times, IsExit-after, IsWalk-link, transit_of-is, IsPositive-link}
use Rattle.nf_phase_laws.proofs.Common.{active_of_slack, slack_of_active, resetting_of_slack, slack_of_resetting, link_slack, HoldsUpTo, ≤ℚ_refl, max_left}
use Rattle.nf_phase_laws.proofs.Common.{plus_zero_le, same_Some, IsThinFlow-sink}
use Rattle.nf_thin_laws.proofs.LinkLaws.{full_of}
use Rattle.nf_phase_laws.proofs.Holds.{labels_earliest}

-- ---- an active link: s is its slack, x its flow, l and m the slopes at its tail and its head
pub record LinkLaw (capacity : Option ℚ) (s x l m : ℚ) : Type 0 where
  pub full : (c : ℚ) → capacity ≡ Some c → 0ℚ <ℚ s → x ≡ c *ℚ m
  pub upper : (c : ℚ) → capacity ≡ Some c → s ≤ℚ 0ℚ → (m ≤ℚ l) ⊎ (c *ℚ m ≤ℚ x)
  pub used : (c : ℚ) → capacity ≡ Some c → s ≤ℚ 0ℚ → 0ℚ <ℚ x → (l ≤ℚ m) × (x ≤ℚ c *ℚ m)
  pub free : capacity ≡ None → m ≤ℚ l
  pub free_used : capacity ≡ None → 0ℚ <ℚ x → l ≤ℚ m

filled : (x c m q : ℚ) → 0ℚ <ℚ c → q *ℚ c ≡ x → m ≤ℚ q → c *ℚ m ≤ℚ x
filled x c m q h e k = let low : 0ℚ ≤ℚ c = ≤ℚ_of_lt _ _ h in linear_le (x ∷ c ∷ m ∷ q ∷ []) (eq e ∷ le_times low k ∷ []) (search reading_of) tt

at_most : (x c m q : ℚ) → 0ℚ <ℚ c → q *ℚ c ≡ x → q ≤ℚ m → x ≤ℚ c *ℚ m
at_most x c m q h e k = let low : 0ℚ ≤ℚ c = ≤ℚ_of_lt _ _ h in linear_le (x ∷ c ∷ m ∷ q ∷ []) (eq e ∷ le_times low k ∷ []) (search reading_of) tt

LinkLaw-bounded : (resets : Bool) (c s x l m : ℚ) → 0ℚ <ℚ c → 0ℚ ≤ℚ x → 0ℚ ≤ℚ m → (0ℚ <ℚ s → resets ≡ true) → (s ≤ℚ 0ℚ → resets ≡ false)
    → m ≤ℚ exit_slope resets (Some c) x l → (0ℚ <ℚ x → exit_slope resets (Some c) x l ≡ m) → LinkLaw (Some c) s x l m
LinkLaw-bounded true c s x l m h n i above_0 none low u = record {
  full = λ d e k. subst (λ (z : ℚ). x ≡ z *ℚ m) (same_Some c d e) (full_of x c m (x /ℚ c) h n i (quotient-times x c h) low u);
  upper = λ d e k. absurd (cc (none k));
  used = λ d e k. absurd (cc (none k));
  free = λ e. absurd (cc);
  free_used = λ e. absurd (cc);
}
LinkLaw-bounded false c s x l m h n i above_0 none low u = record {
  full = λ d e k. absurd (cc (above_0 k));
  upper = λ d e k. subst (λ (z : ℚ). (m ≤ℚ l) ⊎ (z *ℚ m ≤ℚ x)) (same_Some c d e) (⊎_elim
      (λ (w : (max_ℚ l q ≡ q) × (l ≤ℚ q)). inr (filled x c m q h (quotient-times x c h) (subst (λ (z : ℚ). m ≤ℚ z) w.0 low)))
      (λ (w : (max_ℚ l q ≡ l) × (q <ℚ l)). inl (subst (λ (z : ℚ). m ≤ℚ z) w.0 low))
      (max_ℚ_cases l q));
  used = λ d e k f. subst (λ (z : ℚ). (l ≤ℚ m) × (x ≤ℚ z *ℚ m)) (same_Some c d e) (⊎_elim
      (λ (w : (max_ℚ l q ≡ q) × (l ≤ℚ q)). (subst (λ (z : ℚ). l ≤ℚ z) (sym w.0 ∙ u f) w.1, at_most x c m q h (quotient-times x c h) (≤ℚ_of_same _ _ (sym w.0 ∙ u f))))
      (λ (w : (max_ℚ l q ≡ l) × (q <ℚ l)). (≤ℚ_of_same _ _ (sym w.0 ∙ u f), at_most x c m q h (quotient-times x c h) (subst (λ (z : ℚ). q ≤ℚ z) (sym w.0 ∙ u f) (≤ℚ_of_lt _ _ w.1))))
      (max_ℚ_cases l q));
  free = λ e. absurd (cc);
  free_used = λ e. absurd (cc);
}
  where
    q : ℚ
    q = x /ℚ c

pub LinkLaw-of : (resets : Bool) (capacity : Option ℚ) (s x l m : ℚ) → IsPositive capacity → 0ℚ ≤ℚ x → 0ℚ ≤ℚ m → (0ℚ <ℚ s → resets ≡ true) → (s ≤ℚ 0ℚ → resets ≡ false)
    → m ≤ℚ exit_slope resets capacity x l → (0ℚ <ℚ x → exit_slope resets capacity x l ≡ m) → LinkLaw capacity s x l m
LinkLaw-of resets None s x l m h n i above_0 none low u = record {
  full = λ c e. absurd (cc);
  upper = λ c e. absurd (cc);
  used = λ c e. absurd (cc);
  free = λ _. low;
  free_used = λ _ k. ≤ℚ_of_same _ _ (u k);
}
LinkLaw-of resets (Some c) s x l m h n i above_0 none low u = LinkLaw-bounded resets c s x l m (h c refl) n i above_0 none low u

-- On a link that is not resetting the exit slope is at least the tail's slope.
pub exit_slope-tail : (capacity : Option ℚ) (x l : ℚ) → l ≤ℚ exit_slope false capacity x l
exit_slope-tail None x l = ≤ℚ_refl l
exit_slope-tail (Some c) x l = max_left l (x /ℚ c)

-- ---- a thin flow for the slacks of the links: x the flows of the links, slope those of the labels of the nodes
pub record IsThinBy (net : Network) (slack : Link → ℚ) (rate : ℚ) (x slope : ℕ → ℚ) : Type 0 where
  pub flow_nn : (e : ℕ) → 0ℚ ≤ℚ x e
  pub slope_nn : (v : ℕ) → 0ℚ ≤ℚ slope v
  pub starts : slope net.source ≡ 1ℚ
  pub inactive : (e : ℕ) (link : Link) → IsLink net e link → slack link <ℚ 0ℚ → x e ≡ 0ℚ
  pub law : (e : ℕ) (link : Link) → IsLink net e link → 0ℚ ≤ℚ slack link → LinkLaw link.capacity (slack link) (x e) (slope link.tail) (slope link.head)
  pub entered : (v : ℕ) → v < net.nodes → v ≢ net.source
      → (e : ℕ) × (link : Link) × IsLink net e link × (link.head ≡ v) × (0ℚ ≤ℚ slack link) × (slack link ≤ℚ 0ℚ → slope link.tail ≤ℚ slope link.head)
  pub inner : (v : ℕ) → v < net.nodes → v ≢ net.source → v ≢ net.sink → sum_in net.links x v ≡ sum_out net.links x v
  pub supplied : sum_in net.links x net.source +ℚ rate ≡ sum_out net.links x net.source
  pub drained : sum_in net.links x net.sink ≡ sum_out net.links x net.sink +ℚ rate

-- ---- a walk takes at least its transit times
Arrives-after : (net : Network) (amount : ℕ → ℚ → ℚ) → IsNetwork net → (walk : List ℕ) (time arrival : ℚ) → Arrives net amount walk time arrival
    → time +ℚ transit_sum (hops net) walk ≤ℚ arrival
Arrives-after net amount good [] time arrival a = plus_zero_le time arrival a
Arrives-after net amount good (e ∷ walk) time arrival (link, p, exit, is_exit, rest) =
    more time exit arrival link.transit _ _ (transit_of-is net e link p) (IsExit-after link.transit link.capacity (amount e) time exit
    (IsPositive-link net e link good p) is_exit) (Arrives-after net amount good walk exit arrival rest)
  where
    more : (t x a r q l : ℚ) → q ≡ r → t +ℚ r ≤ℚ x → x +ℚ l ≤ℚ a → t +ℚ (q +ℚ l) ≤ℚ a
    more t x a r q l e h k = linear_le (t ∷ x ∷ a ∷ r ∷ q ∷ l ∷ []) (eq e ∷ le h ∷ le k ∷ []) (search reading_of) tt

module _ (net : Network) (amount label : ℕ → ℚ → ℚ) (until : ℚ) (labels : List ℚ) (good : IsNetwork net) (holds : HoldsUpTo net amount label until)
    (same : (v : ℕ) → v < net.nodes → label v until ≡ number_at labels v) where
  now : Within 0ℚ until until
  now = (holds.begun, ≤ℚ_refl until)

  -- No active link leads into the source: otherwise a walk to its tail and back would take no time.
  no_time : (a b u r q t : ℚ) → b ≡ u → 0ℚ ≤ℚ b -ℚ (a +ℚ r) → u +ℚ t ≤ℚ a → q ≡ r → 0ℚ <ℚ q +ℚ t → ⊥
  no_time a b u r q t e h k f c = linear_false (a ∷ b ∷ u ∷ r ∷ q ∷ t ∷ []) (eq e ∷ le h ∷ le k ∷ eq f ∷ lt c ∷ []) (search reading_of) tt

  pub no_entry : (e : ℕ) (link : Link) → IsLink net e link → 0ℚ ≤ℚ link_slack label link until → link.head ≢ net.source
  no_entry e link p h at =
      let f : IsEarliest net amount link.tail until (label link.tail until) = labels_earliest net amount label until good holds link.tail until (good.tails e link p) now in
      let walk : List ℕ = f.taken.0 in
      no_time (label link.tail until) (label link.head until) until link.transit _ _ (ap (λ (v : ℕ). label v until) at ∙ holds.source until now) h
      (Arrives-after net amount good walk until (label link.tail until) f.taken.2) (transit_of-is net e link p)
      (good.cycles e walk link.tail (IsWalk-link net e walk link.tail link p (subst (λ (v : ℕ). IsWalk (hops net) walk v link.tail) (sym at) f.taken.1)))

  -- ---- the slacks are those of the labels
  pub slack-is : (e : ℕ) (link : Link) → IsLink net e link → slack labels (hop_of link) ≡ link_slack label link until
  slack-is e link p = by_labels _ _ _ _ link.transit (same link.head (good.heads e link p)) (same link.tail (good.tails e link p))
    where
      by_labels : (b a d c r : ℚ) → b ≡ d → a ≡ c → d -ℚ (c +ℚ r) ≡ b -ℚ (a +ℚ r)
      by_labels b a d c r e f = linear_eq (b ∷ a ∷ d ∷ c ∷ r ∷ []) (eq e ∷ eq f ∷ []) (search reading_of) tt tt

  module _ (rate : ℚ) (flows slopes : List ℚ) (thin : IsThinFlow net (sets_at net labels) rate flows slopes) where
    active_at : (e : ℕ) (link : Link) → IsLink net e link → 0ℚ ≤ℚ link_slack label link until → Enters net (sets_at net labels) link.head e link
    active_at e link p h = record { is_link = p; active = active_of_slack net labels e link p (subst (λ (s : ℚ). 0ℚ ≤ℚ s) (sym (slack-is e link p)) h); head = refl }

    abbrev resets : ℕ → Bool
    resets e = unwrap_or (slice_get (sets_at net labels).resetting e) false

    resets_above : (e : ℕ) (link : Link) → IsLink net e link → 0ℚ <ℚ link_slack label link until → resets e ≡ true
    resets_above e link p h = ap (λ (o : Option Bool). unwrap_or o false) (resetting_of_slack net labels e link p (subst (λ (s : ℚ). 0ℚ <ℚ s) (sym (slack-is e link p)) h))

    not_above : (e : ℕ) (link : Link) → IsLink net e link → link_slack label link until ≤ℚ 0ℚ → resets e ≡ false
    not_above e link p h = by_flag (slice_get (sets_at net labels).resetting e) refl
      where
        by_flag : (o : Option Bool) → slice_get (sets_at net labels).resetting e ≡ o → resets e ≡ false
        by_flag None f = ap (λ (o : Option Bool). unwrap_or o false) f
        by_flag (Some false) f = ap (λ (o : Option Bool). unwrap_or o false) f
        by_flag (Some true) f = absurd (not_both_ℚ _ _ (subst (λ (s : ℚ). 0ℚ <ℚ s) (slack-is e link p) (slack_of_resetting net labels e link p f)) h)

    inner_sum : (i o : ℚ) → o -ℚ i ≡ 0ℚ → i ≡ o
    inner_sum i o e = linear_eq (i ∷ o ∷ []) (eq e ∷ []) (search reading_of) tt tt

    source_sum : (i o r : ℚ) → o -ℚ i ≡ r → i +ℚ r ≡ o
    source_sum i o r e = linear_eq (i ∷ o ∷ r ∷ []) (eq e ∷ []) (search reading_of) tt tt

    sink_sum : (i o r : ℚ) → o -ℚ i ≡ 0ℚ -ℚ r → i ≡ o +ℚ r
    sink_sum i o r e = linear_eq (i ∷ o ∷ r ∷ []) (eq e ∷ []) (search reading_of) tt tt

    abbrev Entry : ℕ → Type 0
    Entry v = (e : ℕ) × (link : Link) × IsLink net e link × (link.head ≡ v) × (0ℚ ≤ℚ link_slack label link until)
        × (link_slack label link until ≤ℚ 0ℚ → number_at slopes link.tail ≤ℚ number_at slopes link.head)

    by_entry : (v : ℕ) → (e : ℕ) × (link : Link) × Enters net (sets_at net labels) v e link × (exit_slope_at (sets_at net labels) flows slopes e link ≡ number_at slopes v) → Entry v
    by_entry v (e, link, n, r) = (
      e,
      link,
      n.is_link,
      n.head,
      subst (λ (s : ℚ). 0ℚ ≤ℚ s) (slack-is e link n.is_link) (slack_of_active net labels e link n.is_link n.active),
      λ h. subst (λ (k : ℕ). number_at slopes link.tail ≤ℚ number_at slopes k) (sym n.head)
          (subst (λ (y : ℚ). number_at slopes link.tail ≤ℚ y) (ap (λ (b : Bool). exit_slope b link.capacity (number_at flows e)
          (number_at slopes link.tail)) (sym (not_above e link n.is_link h)) ∙ r)
          (exit_slope-tail link.capacity (number_at flows e) (number_at slopes link.tail))),
    )

    pub IsThinBy-of : IsThinBy net (λ link. link_slack label link until) rate (number_at flows) (number_at slopes)
    IsThinBy-of = record {
      flow_nn = thin.no_negative_flow;
      slope_nn = thin.no_negative_slope;
      starts = thin.starts;
      inactive = λ e link p h. thin.active_only e (λ a. not_both_ℚ _ _ h (subst (λ (s : ℚ). 0ℚ ≤ℚ s) (slack-is e link p) (slack_of_active net labels e link p a)));
      law = λ e link p h. LinkLaw-of (resets e) link.capacity (link_slack label link until) (number_at flows e) (number_at slopes link.tail) (number_at slopes link.head)
          (IsPositive-link net e link good p) (thin.no_negative_flow e) (thin.no_negative_slope link.head) (resets_above e link p) (not_above e link p)
          (thin.least link.head e link (good.heads e link p) (no_entry e link p h) (active_at e link p h))
          (thin.used link.head e link (good.heads e link p) (no_entry e link p h) (active_at e link p h));
      entered = λ v h other. by_entry v (thin.taken v h other);
      inner = λ v h a b. inner_sum _ _ (thin.inner v h a b);
      supplied = source_sum _ _ rate thin.source;
      drained = sink_sum _ _ rate (IsThinFlow-sink net good (sets_at net labels) rate flows slopes thin);
    }
