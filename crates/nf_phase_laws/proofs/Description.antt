-- Outflows and queues described by departure are the outflows and queues of the links.
use Rattle.std.proofs.Common.{◌≡◌, ℕ, ◌<◌, List, [], ◌∷◌, ⊎_elim, Option, Some, None, sym, ap, subst, ◌∙◌}
use Rattle.nf_phase_laws.proofs.Common.{ℚ, 0ℚ, ◌+ℚ◌, ◌-ℚ◌, ◌*ℚ◌, ◌≤ℚ◌, ◌<ℚ◌, max_ℚ, reading_of, ≤ℚ_of_lt, ≤ℚ_antisymm, lt_or_le_ℚ, le, eq, le_times}
use Rattle.nf_phase_laws.proofs.Common.{eq_times, linear_le, linear_eq, number_at, Within, Link, Network, IsNetwork, IsLink, hops, rate_at, IsQueue}
use Rattle.nf_phase_laws.proofs.Common.{IsOutflow, slacks_of, sets_at, IsThinFlow, Lasts, AreStartLabels, IsAffine, same_from_times, link_slack}
use Rattle.nf_phase_laws.proofs.Common.{queue_by_slack, sent, HoldsUpTo, LabelsAre, StartsEmpty, GoesOn, DescribesLinks, DescriptionGoesOn, ≤ℚ_refl}
use Rattle.nf_phase_laws.proofs.Common.{≤ℚ_trans, max0_none, max0_of}
use Rattle.nf_phase_laws.proofs.Idle.{queue_by_slack-low}
use Rattle.nf_phase_laws.proofs.Holds as held
use Rattle.nf_phase_laws.proofs.Start.{at_first, label_not_negative, nothing_sent, slack_none}
use Rattle.nf_phase_laws.proofs.Lasting.{step_of}
use Rattle.nf_phase_laws.proofs.Phase.{PhaseStep, by_time, sent_before, sent_after, slack_before, slack_after, rises_on, line_order, still_nn}

module _ (net : Network) (amount label outflow queue : ℕ → ℚ → ℚ) (until : ℚ) (good : IsNetwork net) (holds : HoldsUpTo net amount label until)
    (describes : DescribesLinks net amount label outflow queue until) where
  pub IsOutflow-described : (e : ℕ) (link : Link) (time : ℚ) → IsLink net e link → Within 0ℚ (label link.head until) time
      → IsOutflow link.transit link.capacity (amount e) time (outflow e time)
  IsOutflow-described e link time p w = ⊎_elim
      (λ (l : time <ℚ label link.head 0ℚ). subst (λ (y : ℚ). IsOutflow link.transit link.capacity (amount e) time y) (sym (describes.outflows_early e link time p (w.0, ≤ℚ_of_lt _ _ l)))
      (held.outflow_early net amount label until good holds e link time p w.0 (≤ℚ_of_lt _ _ l)))
      (λ (l : label link.head 0ℚ ≤ℚ time).
      let t : (s : ℚ) × Within 0ℚ until s × (label link.head s ≡ time) = holds.label_takes link.head time (good.heads e link p) l w.1 in
      subst (λ (z : ℚ). IsOutflow link.transit link.capacity (amount e) z (outflow e z)) t.2
      (subst (λ (y : ℚ). IsOutflow link.transit link.capacity (amount e) (label link.head t.0) y) (sym (describes.outflows e link t.0 p t.1))
      (held.outflow_at net amount label until good holds e link t.0 p t.1)))
      (lt_or_le_ℚ time (label link.head 0ℚ))

  pub IsQueue-described : (e : ℕ) (link : Link) (time : ℚ) → IsLink net e link → Within 0ℚ (label link.tail until) time → IsQueue link.capacity (amount e) time (queue e time)
  IsQueue-described e link time p w = ⊎_elim
      (λ (l : time <ℚ label link.tail 0ℚ). subst (λ (y : ℚ). IsQueue link.capacity (amount e) time y) (sym (describes.queues_early e link time p (w.0, ≤ℚ_of_lt _ _ l)))
      (held.queue_early net amount label until good holds e link time p w.0 (≤ℚ_of_lt _ _ l)))
      (λ (l : label link.tail 0ℚ ≤ℚ time).
      let t : (s : ℚ) × Within 0ℚ until s × (label link.tail s ≡ time) = holds.label_takes link.tail time (good.tails e link p) l w.1 in
      subst (λ (z : ℚ). IsQueue link.capacity (amount e) z (queue e z)) t.2
      (subst (λ (y : ℚ). IsQueue link.capacity (amount e) (label link.tail t.0) y) (sym (describes.queues e link t.0 p t.1)) (holds.queue e link t.0 p t.1)))
      (lt_or_le_ℚ time (label link.tail 0ℚ))

-- ---- over a phase the queue that is met changes at one rate by departure: s is the slack at the beginning, l and m the slopes at the
-- tail and the head, d the length
steady : (c s m l t : ℚ) → c *ℚ (s +ℚ (m -ℚ l) *ℚ t) ≡ c *ℚ s +ℚ (c *ℚ (m -ℚ l)) *ℚ t
steady c s m l t = linear_eq (c ∷ s ∷ m ∷ l ∷ t ∷ []) [] (search reading_of) tt tt

times_none : (c y z t : ℚ) → y ≡ 0ℚ → z ≡ 0ℚ → c *ℚ y ≡ c *ℚ z +ℚ 0ℚ *ℚ t
times_none c y z t e f = linear_eq (c ∷ y ∷ z ∷ t ∷ []) (eq_times c e ∷ eq_times c f ∷ []) (search reading_of) tt tt

falls : (s m l t : ℚ) → s ≤ℚ 0ℚ → m ≤ℚ l → 0ℚ ≤ℚ t → s +ℚ (m -ℚ l) *ℚ t ≤ℚ 0ℚ
falls s m l t h k j = linear_le (s ∷ m ∷ l ∷ t ∷ []) (le h ∷ le_times j k ∷ []) (search reading_of) tt

abbrev Steadily : Option ℚ → ℚ → ℚ → ℚ → ℚ → Type 0
Steadily capacity s m l d = (k : ℚ) × ((t : ℚ) → Within 0ℚ d t → queue_by_slack capacity (s +ℚ (m -ℚ l) *ℚ t) ≡ queue_by_slack capacity s +ℚ k *ℚ t)

runs_on : (c s m l d : ℚ) → 0ℚ ≤ℚ s → ((t : ℚ) → Within 0ℚ d t → 0ℚ ≤ℚ s +ℚ (m -ℚ l) *ℚ t) → Steadily (Some c) s m l d
runs_on c s m l d h k = (
  c *ℚ (m -ℚ l),
  λ t w. subst (λ (y : ℚ). c *ℚ y ≡ c *ℚ max_ℚ 0ℚ s +ℚ (c *ℚ (m -ℚ l)) *ℚ t) (sym (max0_of _ (k t w)))
      (subst (λ (y : ℚ). c *ℚ (s +ℚ (m -ℚ l) *ℚ t) ≡ c *ℚ y +ℚ (c *ℚ (m -ℚ l)) *ℚ t) (sym (max0_of s h)) (steady c s m l t)),
)

stays_none : (c s m l d : ℚ) → s ≤ℚ 0ℚ → ((t : ℚ) → Within 0ℚ d t → s +ℚ (m -ℚ l) *ℚ t ≤ℚ 0ℚ) → Steadily (Some c) s m l d
stays_none c s m l d h k = (0ℚ, λ t w. times_none c _ _ t (max0_none _ (k t w)) (max0_none s h))

none_more : (t : ℚ) → 0ℚ ≡ 0ℚ +ℚ 0ℚ *ℚ t
none_more t = linear_eq (t ∷ []) [] (search reading_of) tt tt

pub queue_by_slack-steadily : (capacity : Option ℚ) (s m l d : ℚ) → ((t : ℚ) → s <ℚ 0ℚ → Within 0ℚ d t → s +ℚ (m -ℚ l) *ℚ t ≤ℚ 0ℚ)
    → ((t : ℚ) → 0ℚ <ℚ s → Within 0ℚ d t → 0ℚ ≤ℚ s +ℚ (m -ℚ l) *ℚ t) → Steadily capacity s m l d
queue_by_slack-steadily None s m l d below above = (0ℚ, λ t w. none_more t)
queue_by_slack-steadily (Some c) s m l d below above = ⊎_elim
    (λ (h : 0ℚ <ℚ s). runs_on c s m l d (≤ℚ_of_lt _ _ h) (λ t w. above t h w))
    (λ (h : s ≤ℚ 0ℚ). ⊎_elim
    (λ (i : s <ℚ 0ℚ). stays_none c s m l d h (λ t w. below t i w))
    (λ (i : 0ℚ ≤ℚ s). ⊎_elim
    (λ (j : m <ℚ l). stays_none c s m l d h (λ t w. falls s m l t h (≤ℚ_of_lt _ _ j) w.0))
    (λ (j : l ≤ℚ m). runs_on c s m l d i (λ t w. still_nn s m l t i j w.0))
    (lt_or_le_ℚ m l))
    (lt_or_le_ℚ s 0ℚ))
    (lt_or_le_ℚ 0ℚ s)

-- ---- two lines that agree at both ends: y and w at the time t and at the end d, by the rate r; z and w by k
on_rate : (v q a l t r x f : ℚ) → f ≡ v +ℚ r *ℚ ((a +ℚ l *ℚ t) -ℚ a) → v ≡ q → r *ℚ l ≡ x → f ≡ q +ℚ x *ℚ t
on_rate v q a l t r x f e i g = linear_eq (v ∷ q ∷ a ∷ l ∷ t ∷ r ∷ x ∷ f ∷ []) (eq e ∷ eq i ∷ eq_times t g ∷ []) (search reading_of depth 12) tt tt

same_rates : (r l k d q a w : ℚ) → 0ℚ <ℚ d → w ≡ q +ℚ r *ℚ ((a +ℚ l *ℚ d) -ℚ a) → w ≡ q +ℚ k *ℚ d → r *ℚ l ≡ k
same_rates r l k d q a w h e f = same_from_times d _ _ h (linear_eq (r ∷ l ∷ k ∷ d ∷ q ∷ a ∷ w ∷ []) (eq e ∷ eq f ∷ []) (search reading_of depth 12) tt tt)

agree : (y z w v q a l t d r k : ℚ) → 0ℚ ≤ℚ t → t ≤ℚ d → v ≡ q → y ≡ v +ℚ r *ℚ ((a +ℚ l *ℚ t) -ℚ a) → w ≡ v +ℚ r *ℚ ((a +ℚ l *ℚ d) -ℚ a) → w ≡ q +ℚ k *ℚ d → z ≡ q +ℚ k *ℚ t → y ≡ z
agree y z w v q a l t d r k h j i e f g o = ⊎_elim
    (λ (n : 0ℚ <ℚ d). on_rate v q a l t r k y e i (same_rates r l k d q a w n (at_q f) g) ∙ sym o)
    (λ (n : d ≤ℚ 0ℚ).
    let s : t ≡ 0ℚ = ≤ℚ_antisymm _ _ (≤ℚ_trans _ _ _ j n) h in
    linear_eq (y ∷ z ∷ v ∷ q ∷ a ∷ l ∷ t ∷ r ∷ k ∷ []) (eq e ∷ eq i ∷ eq o ∷ eq_times (r *ℚ l) s ∷ eq_times k s ∷ []) (search reading_of depth 12) tt tt)
    (lt_or_le_ℚ 0ℚ d)
  where
    at_q : w ≡ v +ℚ r *ℚ ((a +ℚ l *ℚ d) -ℚ a) → w ≡ q +ℚ r *ℚ ((a +ℚ l *ℚ d) -ℚ a)
    at_q e = linear_eq (w ∷ v ∷ q ∷ r ∷ a ∷ l ∷ d ∷ []) (eq e ∷ eq i ∷ []) (search reading_of depth 12) tt tt

past : (a l t : ℚ) → 0ℚ ≤ℚ l → 0ℚ ≤ℚ t → a ≤ℚ a +ℚ l *ℚ t
past a l t h k = linear_le (a ∷ l ∷ t ∷ []) (le_times h k ∷ []) (search reading_of) tt

module _ (net : Network) (amount label : ℕ → ℚ → ℚ) (until length rate : ℚ) (x slope : ℕ → ℚ) (amount' label' : ℕ → ℚ → ℚ)
    (step : PhaseStep net amount label until length rate x slope amount' label') (outflow queue outflow' queue' : ℕ → ℚ → ℚ)
    (describes : DescribesLinks net amount label outflow queue until) (goes : DescriptionGoesOn net label until length x slope label' outflow queue outflow' queue') where
  now : Within 0ℚ until until
  now = (step.holds.begun, ≤ℚ_refl until)

  first : Within 0ℚ until 0ℚ
  first = (≤ℚ_refl 0ℚ, step.holds.begun)

  -- The label of a node up to the beginning of the phase, where nothing changes.
  so_far : (v : ℕ) (time : ℚ) → v < net.nodes → Within 0ℚ until time → Within 0ℚ (label v until) (label v time)
  so_far v time h w = (held.label_not_negative net amount label until step.good step.holds v time h w, rises_on net amount label until length rate x slope amount' label' step v time h w)

  out_before : (e : ℕ) (link : Link) (time : ℚ) → IsLink net e link → Within 0ℚ until time → outflow' e (label' link.head time) ≡ sent net amount' label' e time
  out_before e link time p w = ap (outflow' e) (step.goes.label_before link.head time (step.good.heads e link p) w)
      ∙ goes.outflow_before e link (label link.head time) p (so_far link.head time (step.good.heads e link p) w) ∙ describes.outflows e link time p w
      ∙ sym (sent_before net amount label until length rate x slope amount' label' step e link time p w)

  out_after : (e : ℕ) (link : Link) (t : ℚ) → IsLink net e link → Within 0ℚ length t → outflow' e (label' link.head (until +ℚ t)) ≡ sent net amount' label' e (until +ℚ t)
  out_after e link t p w =
      let r : (r : ℚ) × (r *ℚ slope link.head ≡ x e) × IsAffine (outflow' e) (label link.head until)
      (label link.head until +ℚ slope link.head *ℚ length) r = goes.outflow_after e link p in
      let n : 0ℚ ≤ℚ slope link.head = step.thin.slope_nn link.head in
      ap (outflow' e) (step.goes.label_after link.head t (step.good.heads e link p) w)
      ∙ on_rate (outflow' e (label link.head until)) (sent net amount label e until) (label link.head until) (slope link.head) t r.0 (x e) _
      (r.2.line (label link.head until +ℚ slope link.head *ℚ t) (past _ (slope link.head) t n w.0) (line_order _ (slope link.head) t length n w.1))
      (goes.outflow_before e link (label link.head until) p (so_far link.head until (step.good.heads e link p) now) ∙ describes.outflows e link until p now) r.1
      ∙ sym (sent_after net amount label until length rate x slope amount' label' step e link t p w)

  abbrev QueueIs : ℕ → Link → ℚ → Type 0
  QueueIs e link time = queue' e (label' link.tail time) ≡ queue_by_slack link.capacity (link_slack label' link time)

  queue_at_start : (e : ℕ) (link : Link) (time : ℚ) → IsLink net e link → Within 0ℚ until time
      → queue' e (label link.tail time) ≡ queue_by_slack link.capacity (link_slack label link time)
  queue_at_start e link time p w = goes.queue_before e link (label link.tail time) p (so_far link.tail time (step.good.tails e link p) w) ∙ describes.queues e link time p w

  wait_before : (e : ℕ) (link : Link) (time : ℚ) → IsLink net e link → Within 0ℚ until time → QueueIs e link time
  wait_before e link time p w = ap (queue' e) (step.goes.label_before link.tail time (step.good.tails e link p) w) ∙ queue_at_start e link time p w
      ∙ ap (queue_by_slack link.capacity) (sym (slack_before net amount label until length rate x slope amount' label' step e link time p w))

  wait_after : (e : ℕ) (link : Link) (t : ℚ) → IsLink net e link → Within 0ℚ length t → QueueIs e link (until +ℚ t)
  wait_after e link t p w =
      let s : ℚ = link_slack label link until in
      let r : (r : ℚ) × IsAffine (queue' e) (label link.tail until) (label link.tail until +ℚ slope link.tail *ℚ length) r = goes.queue_after e link p in
      let n : 0ℚ ≤ℚ slope link.tail = step.thin.slope_nn link.tail in
      let k : (k : ℚ) × ((t : ℚ) → Within 0ℚ length t → queue_by_slack link.capacity (s +ℚ (slope link.head -ℚ slope link.tail) *ℚ t) ≡ queue_by_slack link.capacity s +ℚ k *ℚ t) =
      queue_by_slack-steadily link.capacity s (slope link.head) (slope link.tail) length (λ t h w. step.below e link t p h w) (λ t h w. step.above e link t p h w) in
      let moves : (t : ℚ) → Within 0ℚ length t → queue_by_slack link.capacity (link_slack label' link (until +ℚ t)) ≡ queue_by_slack link.capacity s +ℚ k.0 *ℚ t =
      λ t w. ap (queue_by_slack link.capacity) (slack_after net amount label until length rate x slope amount' label' step e link t p w) ∙ k.1 t w in
      let whole : Within 0ℚ length length = (step.some, ≤ℚ_refl length) in
      ap (queue' e) (step.goes.label_after link.tail t (step.good.tails e link p) w)
      ∙ agree _ _ _ (queue' e (label link.tail until)) (queue_by_slack link.capacity s) (label link.tail until) (slope link.tail) t length r.0 k.0 w.0 w.1
      (queue_at_start e link until p now)
      (r.1.line (label link.tail until +ℚ slope link.tail *ℚ t) (past _ (slope link.tail) t n w.0) (line_order _ (slope link.tail) t length n w.1))
      (r.1.line (label link.tail until +ℚ slope link.tail *ℚ length) (past _ (slope link.tail) length n step.some) (≤ℚ_refl _))
      (goes.queue_end e link p ∙ moves length whole) (moves t w)

  early : (v : ℕ) (time : ℚ) → v < net.nodes → Within 0ℚ (label' v 0ℚ) time → Within 0ℚ (label v 0ℚ) time
  early v time h w = (w.0, subst (λ (a : ℚ). time ≤ℚ a) (step.goes.label_before v 0ℚ h first) w.1)

  sooner : (v : ℕ) (time : ℚ) → v < net.nodes → Within 0ℚ (label v 0ℚ) time → Within 0ℚ (label v until) time
  sooner v time h w = (w.0, ≤ℚ_trans _ _ _ w.1 (rises_on net amount label until length rate x slope amount' label' step v 0ℚ h first))

  pub DescribesLinks-phase : DescribesLinks net amount' label' outflow' queue' (until +ℚ length)
  DescribesLinks-phase = record {
    outflows = λ e link time p w. by_time until length (λ time. outflow' e (label' link.head time) ≡ sent net amount' label' e time)
        (λ time w. out_before e link time p w) (λ t w. out_after e link t p w) time w;
    outflows_early = λ e link time p w.
        let n : Within 0ℚ (label link.head 0ℚ) time = early link.head time (step.good.heads e link p) w in
        goes.outflow_before e link time p (sooner link.head time (step.good.heads e link p) n) ∙ describes.outflows_early e link time p n;
    queues = λ e link time p w. by_time until length (λ time. QueueIs e link time) (λ time w. wait_before e link time p w) (λ t w. wait_after e link t p w) time w;
    queues_early = λ e link time p w.
        let n : Within 0ℚ (label link.tail 0ℚ) time = early link.tail time (step.good.tails e link p) w in
        goes.queue_before e link time p (sooner link.tail time (step.good.tails e link p) n) ∙ describes.queues_early e link time p n;
  }

-- ---- the theorems by lists
pub DescribesLinks-start : (net : Network) (labels : List ℚ) (amount label outflow queue : ℕ → ℚ → ℚ) → IsNetwork net → AreStartLabels net labels → StartsEmpty net labels amount label
    → ((e : ℕ) (link : Link) (time : ℚ) → IsLink net e link → 0ℚ ≤ℚ time → outflow e time ≡ 0ℚ) → ((e : ℕ) (link : Link) (time : ℚ) → IsLink net e link → 0ℚ ≤ℚ time → queue e time ≡ 0ℚ)
    → DescribesLinks net amount label outflow queue 0ℚ
DescribesLinks-start net labels amount label outflow queue good least begun out wait = record {
  outflows = λ e link departure p w. at_first net labels amount label good least begun (λ departure. outflow e (label link.head departure) ≡ sent net amount label e departure)
      (out e link (label link.head 0ℚ) p (label_not_negative net labels amount label good least begun link.head (good.heads e link p))
      ∙ sym (nothing_sent net labels amount label good least begun e link p)) departure w;
  outflows_early = λ e link time p w. out e link time p w.0;
  queues =
      λ e link departure p w. at_first net labels amount label good least begun
      (λ departure. queue e (label link.tail departure) ≡ queue_by_slack link.capacity (link_slack label link departure))
      (wait e link (label link.tail 0ℚ) p (label_not_negative net labels amount label good least begun link.tail (good.tails e link p))
      ∙ sym (queue_by_slack-low link.capacity _ (slack_none net labels amount label good least begun e link p))) departure w;
  queues_early = λ e link time p w. wait e link time p w.0;
}

pub DescribesLinks-lasts : (net : Network) (amount label amount' label' : ℕ → ℚ → ℚ) (until length : ℚ) (labels flows slopes : List ℚ) (outflow queue outflow' queue' : ℕ → ℚ → ℚ)
    → IsNetwork net → HoldsUpTo net amount label until → LabelsAre net label until labels → IsThinFlow net (sets_at net labels) (rate_at net until) flows slopes
    → Lasts net (slacks_of (hops net) labels) slopes until length → GoesOn net amount label until length (number_at flows) (number_at slopes) amount' label'
    → DescribesLinks net amount label outflow queue until → DescriptionGoesOn net label until length (number_at flows) (number_at slopes) label' outflow queue outflow' queue'
    → DescribesLinks net amount' label' outflow' queue' (until +ℚ length)
DescribesLinks-lasts net amount label amount' label' until length labels flows slopes outflow queue outflow' queue' good holds same thin lasts goes describes further =
    DescribesLinks-phase net amount label until length (rate_at net until) (number_at flows) (number_at slopes) amount' label'
    (step_of net amount label amount' label' until length labels flows slopes good holds same thin lasts goes) outflow queue outflow' queue' describes further
