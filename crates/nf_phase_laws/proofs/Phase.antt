-- A phase preserves the invariant: if it holds up to a departure, it holds up to the end of a phase that begins there.
use Rattle.std.proofs.Common.{◌≡◌, ◌≢◌, ℕ, ◌<◌, [], ◌∷◌, ⊎_elim, Option, None, sym, ap, subst, refl, ◌∙◌}
use Rattle.nf_phase_laws.proofs.Common.{slice_get_within, ℚ, 0ℚ, 1ℚ, ◌+ℚ◌, ◌-ℚ◌, ◌*ℚ◌, ◌≤ℚ◌, ◌<ℚ◌, reading_of, ≤ℚ_of_same, ≤ℚ_of_lt, ≤ℚ_antisymm}
use Rattle.nf_phase_laws.proofs.Common.{lt_or_le_ℚ, not_both_ℚ, le, lt, eq, le_times, eq_times, linear_le, linear_lt, linear_eq, linear_false, Within}
use Rattle.nf_phase_laws.proofs.Common.{NeverFalls, Link, Network, IsNetwork, IsLink, sum_in, sum_out, supply, IsQueue, IsAffine, same_from_times}
use Rattle.nf_phase_laws.proofs.Common.{IsQueue-same, IsQueue-at_0, line_takes, IsPositive-link, sum_in-same, sum_out-same, sum_in-line, sum_out-line}
use Rattle.nf_phase_laws.proofs.Common.{link_slack, queue_by_slack, sent, HoldsUpTo, GoesOn, ≤ℚ_refl, ≤ℚ_trans, same_slacks, in_time, less_le}
use Rattle.nf_phase_laws.proofs.Idle.{queue_by_slack-low, IsQueue-stays_empty}
use Rattle.nf_phase_laws.proofs.Holds as held
use Rattle.nf_phase_laws.proofs.Holds.{link_within}
use Rattle.nf_phase_laws.proofs.Thin.{IsThinBy}
use Rattle.nf_phase_laws.proofs.QueueCases.{LinkStep, IsQueue-by_slack, unused_below, unbounded_below}
use Rattle.nf_phase_laws.proofs.Rising.{le_along, NeverFalls-goes_on}

-- Facts on a phase.
pub record PhaseStep (net : Network) (amount label : ℕ → ℚ → ℚ) (until length rate : ℚ) (x slope : ℕ → ℚ) (amount' label' : ℕ → ℚ → ℚ) : Type 0 where
  pub good : IsNetwork net
  pub holds : HoldsUpTo net amount label until
  pub thin : IsThinBy net (λ link. link_slack label link until) rate x slope
  pub some : 0ℚ ≤ℚ length
  pub below : (e : ℕ) (link : Link) (t : ℚ) → IsLink net e link → link_slack label link until <ℚ 0ℚ → Within 0ℚ length t
      → link_slack label link until +ℚ (slope link.head -ℚ slope link.tail) *ℚ t ≤ℚ 0ℚ
  pub above : (e : ℕ) (link : Link) (t : ℚ) → IsLink net e link → 0ℚ <ℚ link_slack label link until → Within 0ℚ length t
      → 0ℚ ≤ℚ link_slack label link until +ℚ (slope link.head -ℚ slope link.tail) *ℚ t
  pub goes : GoesOn net amount label until length x slope amount' label'
  pub supply_after : (t : ℚ) → Within 0ℚ length t → supply net (until +ℚ t) ≡ supply net until +ℚ rate *ℚ t

-- ---- steps over plain numbers
after_start : (a l t y : ℚ) → 0ℚ ≤ℚ l → 0ℚ ≤ℚ t → y ≡ a +ℚ l *ℚ t → a ≤ℚ y
after_start a l t y h k e = linear_le (a ∷ l ∷ t ∷ y ∷ []) (eq e ∷ le_times h k ∷ []) (search reading_of) tt

pub line_order : (a l s t : ℚ) → 0ℚ ≤ℚ l → s ≤ℚ t → a +ℚ l *ℚ s ≤ℚ a +ℚ l *ℚ t
line_order a l s t h k = linear_le (a ∷ l ∷ s ∷ t ∷ []) (le_times h k ∷ []) (search reading_of) tt

slack_line : (b b' a a' r l m t : ℚ) → b' ≡ b +ℚ m *ℚ t → a' ≡ a +ℚ l *ℚ t → b' -ℚ (a' +ℚ r) ≡ b -ℚ (a +ℚ r) +ℚ (m -ℚ l) *ℚ t
slack_line b b' a a' r l m t e f = linear_eq (b ∷ b' ∷ a ∷ a' ∷ r ∷ l ∷ m ∷ t ∷ []) (eq e ∷ eq f ∷ []) (search reading_of) tt tt

from_zero : (a l u : ℚ) → a +ℚ l *ℚ u ≡ a +ℚ l *ℚ (u -ℚ 0ℚ)
from_zero a l u = linear_eq (a ∷ l ∷ u ∷ []) [] (search reading_of) tt tt

on_the_line : (f v a l t r x y : ℚ) → f ≡ v +ℚ r *ℚ ((a +ℚ l *ℚ t) -ℚ a) → v ≡ y → r *ℚ l ≡ x → f ≡ y +ℚ x *ℚ t
on_the_line f v a l t r x y e i g = linear_eq (f ∷ v ∷ a ∷ l ∷ t ∷ r ∷ x ∷ y ∷ []) (eq e ∷ eq i ∷ eq_times t g ∷ []) (search reading_of depth 12) tt tt

pub still_nn : (s m l t : ℚ) → 0ℚ ≤ℚ s → l ≤ℚ m → 0ℚ ≤ℚ t → 0ℚ ≤ℚ s +ℚ (m -ℚ l) *ℚ t
still_nn s m l t h k j = linear_le (s ∷ m ∷ l ∷ t ∷ []) (le h ∷ le_times j k ∷ []) (search reading_of) tt

-- Without flow the amount is constant.
flat : (f y r a l t z : ℚ) → f ≡ y +ℚ r *ℚ (z -ℚ a) → r *ℚ l ≡ 0ℚ → 0ℚ ≤ℚ l → a <ℚ z → z ≤ℚ a +ℚ l *ℚ t → f ≡ y
flat f y r a l t z e g n h k = ⊎_elim
    (λ (u : 0ℚ <ℚ l). let d : r ≡ 0ℚ = same_from_times l r 0ℚ u (linear_eq (r ∷ l ∷ []) (eq g ∷ []) (search reading_of) tt tt) in
    linear_eq (f ∷ y ∷ r ∷ z ∷ a ∷ []) (eq e ∷ eq_times (z -ℚ a) d ∷ []) (search reading_of) tt tt)
    (λ (u : l ≤ℚ 0ℚ). let d : l ≡ 0ℚ = ≤ℚ_antisymm _ _ u n in
    absurd (linear_false (a ∷ l ∷ t ∷ z ∷ []) (lt h ∷ le k ∷ eq_times t d ∷ []) (search reading_of) tt))
    (lt_or_le_ℚ 0ℚ l)

no_flow : (y x t z : ℚ) → x ≡ 0ℚ → z ≡ y +ℚ x *ℚ t → y ≡ z
no_flow y x t z e f = linear_eq (y ∷ x ∷ t ∷ z ∷ []) (eq_times t e ∷ eq f ∷ []) (search reading_of) tt tt

at_the_end : (a b r z : ℚ) → 0ℚ ≤ℚ b -ℚ (a +ℚ r) → b -ℚ r ≤ℚ z → z ≤ℚ a → z ≡ a
at_the_end a b r z h i j = linear_eq (a ∷ b ∷ r ∷ z ∷ []) (le h ∷ le i ∷ le j ∷ []) (search reading_of) tt tt

sooner : (b b' r z : ℚ) → b ≤ℚ b' → b' -ℚ r ≤ℚ z → b -ℚ r ≤ℚ z
sooner b b' r z h i = linear_le (b ∷ b' ∷ r ∷ z ∷ []) (le h ∷ le i ∷ []) (search reading_of) tt

same_time : (a b r : ℚ) → b -ℚ (a +ℚ r) ≤ℚ 0ℚ → 0ℚ ≤ℚ b -ℚ (a +ℚ r) → a ≡ b -ℚ r
same_time a b r h k = linear_eq (a ∷ b ∷ r ∷ []) (le h ∷ le k ∷ []) (search reading_of) tt tt

has_flow : (y x s t a b : ℚ) → 0ℚ ≤ℚ x → a ≡ y +ℚ x *ℚ s → b ≡ y +ℚ x *ℚ t → a <ℚ b → 0ℚ <ℚ x
has_flow y x s t a b n e f h = ⊎_elim (λ (k : 0ℚ <ℚ x). k)
    (λ (k : x ≤ℚ 0ℚ). let d : x ≡ 0ℚ = ≤ℚ_antisymm _ _ k n in absurd (linear_false (y ∷ x ∷ s ∷ t ∷ a ∷ b ∷ [])
    (eq e ∷ eq f ∷ lt h ∷ eq_times s d ∷ eq_times t d ∷ []) (search reading_of) tt))
    (lt_or_le_ℚ 0ℚ x)

lt_along : (a b c d : ℚ) → a ≡ b → c ≡ d → a <ℚ c → b <ℚ d
lt_along a b c d e f h = linear_lt (a ∷ b ∷ c ∷ d ∷ []) (eq e ∷ eq f ∷ lt h ∷ []) (search reading_of) tt

-- Both sides of a preserved sum: i and o at first, j and k by time, and u and r beside them.
both_inner : (i' o' i o j k t : ℚ) → i' ≡ i +ℚ j *ℚ t → o' ≡ o +ℚ k *ℚ t → i ≡ o → j ≡ k → i' ≡ o'
both_inner i' o' i o j k t a b c d = linear_eq (i' ∷ o' ∷ i ∷ o ∷ j ∷ k ∷ t ∷ []) (eq a ∷ eq b ∷ eq c ∷ eq_times t d ∷ []) (search reading_of) tt tt

both_source : (i' o' u' i o u j k r t : ℚ) → i' ≡ i +ℚ j *ℚ t → o' ≡ o +ℚ k *ℚ t → u' ≡ u +ℚ r *ℚ t → i +ℚ u ≡ o → j +ℚ r ≡ k → i' +ℚ u' ≡ o'
both_source i' o' u' i o u j k r t a b s c d = linear_eq (i' ∷ o' ∷ u' ∷ i ∷ o ∷ u ∷ j ∷ k ∷ r ∷ t ∷ []) (eq a ∷ eq b ∷ eq s ∷ eq c ∷ eq_times t d ∷ []) (search reading_of) tt tt

both_sink : (i' o' u' i o u j k r t : ℚ) → i' ≡ i +ℚ j *ℚ t → o' ≡ o +ℚ k *ℚ t → u' ≡ u +ℚ r *ℚ t → i ≡ o +ℚ u → j ≡ k +ℚ r → i' ≡ o' +ℚ u'
both_sink i' o' u' i o u j k r t a b s c d = linear_eq (i' ∷ o' ∷ u' ∷ i ∷ o ∷ u ∷ j ∷ k ∷ r ∷ t ∷ []) (eq a ∷ eq b ∷ eq s ∷ eq c ∷ eq_times t d ∷ []) (search reading_of) tt tt

source_moves : (a u l t : ℚ) → a ≡ u → l ≡ 1ℚ → a +ℚ l *ℚ t ≡ u +ℚ t
source_moves a u l t e f = linear_eq (a ∷ u ∷ l ∷ t ∷ []) (eq e ∷ eq_times t f ∷ []) (search reading_of) tt tt

-- up to the beginning of the phase, and from there on
pub by_time : (until length : ℚ) (P : ℚ → Type 0) → ((time : ℚ) → Within 0ℚ until time → P time) → ((t : ℚ) → Within 0ℚ length t → P (until +ℚ t))
    → (time : ℚ) → Within 0ℚ (until +ℚ length) time → P time
by_time until length P f g time w = ⊎_elim
    (λ (l : time <ℚ until). f time (w.0, ≤ℚ_of_lt _ _ l))
    (λ (l : until ≤ℚ time). subst P (linear_eq (until ∷ time ∷ []) [] (search reading_of) tt tt)
    (g (time -ℚ until) (linear_le (until ∷ time ∷ []) (le l ∷ []) (search reading_of) tt, linear_le (until ∷ time ∷ length ∷ []) (le w.1 ∷ []) (search reading_of) tt)))
    (lt_or_le_ℚ time until)

module _ (net : Network) (amount label : ℕ → ℚ → ℚ) (until length rate : ℚ) (x slope : ℕ → ℚ) (amount' label' : ℕ → ℚ → ℚ)
    (step : PhaseStep net amount label until length rate x slope amount' label') where
  abbrev old_sent : ℕ → ℚ → ℚ
  old_sent = sent net amount label

  abbrev new_sent : ℕ → ℚ → ℚ
  new_sent = sent net amount' label'

  now : Within 0ℚ until until
  now = (step.holds.begun, ≤ℚ_refl until)

  first : Within 0ℚ until 0ℚ
  first = (≤ℚ_refl 0ℚ, step.holds.begun)

  longer : (time : ℚ) → Within 0ℚ until time → Within 0ℚ (until +ℚ length) time
  longer time w = (w.0, linear_le (until ∷ length ∷ time ∷ []) (le w.1 ∷ le step.some ∷ []) (search reading_of) tt)

  later : (t : ℚ) → Within 0ℚ length t → Within 0ℚ (until +ℚ length) (until +ℚ t)
  later t w = (linear_le (until ∷ t ∷ []) (le step.holds.begun ∷ le w.0 ∷ []) (search reading_of) tt, linear_le (until ∷ length ∷ t ∷ []) (le w.1 ∷ []) (search reading_of) tt)

  tails : (e : ℕ) (link : Link) → IsLink net e link → link.tail < net.nodes
  tails = step.good.tails

  heads : (e : ℕ) (link : Link) → IsLink net e link → link.head < net.nodes
  heads = step.good.heads

  -- ---- labels
  label_rises : (v : ℕ) (s t : ℚ) → v < net.nodes → 0ℚ ≤ℚ s → s ≤ℚ t → t ≤ℚ until +ℚ length → label' v s ≤ℚ label' v t
  label_rises v s t h i j k = by_time until length (λ t. s ≤ℚ t → label' v s ≤ℚ label' v t)
      (λ t w j. le_along _ _ _ _ (step.goes.label_before v s h (i, ≤ℚ_trans _ _ _ j w.1)) (step.goes.label_before v t h w) (step.holds.label_rises v s t h i j w.1))
      (λ t w j. by_time until length (λ s. s ≤ℚ until +ℚ t → label' v s ≤ℚ label' v (until +ℚ t))
      (λ s u j. le_along _ _ _ _ (step.goes.label_before v s h u) refl (≤ℚ_trans _ _ _ (step.holds.label_rises v s until h u.0 u.1 (≤ℚ_refl until))
      (after_start (label v until) (slope v) t _ (step.thin.slope_nn v) w.0 (step.goes.label_after v t h w))))
      (λ s u j. le_along _ _ _ _ (step.goes.label_after v s h u) (step.goes.label_after v t h w)
      (line_order (label v until) (slope v) s t (step.thin.slope_nn v) (linear_le (until ∷ s ∷ t ∷ []) (le j ∷ []) (search reading_of) tt)))
      s (i, ≤ℚ_trans _ _ _ j (linear_le (until ∷ t ∷ length ∷ []) (le w.1 ∷ []) (search reading_of) tt)) j)
      t (≤ℚ_trans _ _ _ i j, k) j

  label_takes : (v : ℕ) (y : ℚ) → v < net.nodes → label' v 0ℚ ≤ℚ y → y ≤ℚ label' v (until +ℚ length) → (time : ℚ) × Within 0ℚ (until +ℚ length) time × (label' v time ≡ y)
  label_takes v y h i j = ⊎_elim
      (λ (l : label v until <ℚ y).
      let u : (u : ℚ) × (0ℚ ≤ℚ u) × (u ≤ℚ length) × (label v until +ℚ slope v *ℚ (u -ℚ 0ℚ) ≡ y) =
      line_takes 0ℚ length (label v until) (slope v) y (label' v (until +ℚ length)) step.some
      (step.goes.label_after v length h (step.some, ≤ℚ_refl length) ∙ from_zero (label v until) (slope v) length) (≤ℚ_of_lt _ _ l) j in
      (until +ℚ u.0, later u.0 (u.1, u.2), step.goes.label_after v u.0 h (u.1, u.2) ∙ from_zero (label v until) (slope v) u.0 ∙ u.3))
      (λ (l : y ≤ℚ label v until).
      let u : (time : ℚ) × Within 0ℚ until time × (label v time ≡ y) = step.holds.label_takes v y h (subst (λ (z : ℚ). z ≤ℚ y) (step.goes.label_before v 0ℚ h first) i) l in
      (u.0, longer u.0 u.1, step.goes.label_before v u.0 h u.1 ∙ u.2))
      (lt_or_le_ℚ (label v until) y)

  label_nn : (v : ℕ) (time : ℚ) → v < net.nodes → Within 0ℚ until time → 0ℚ ≤ℚ label v time
  label_nn v time h w = held.label_not_negative net amount label until step.good step.holds v time h w

  pub rises_on : (v : ℕ) (time : ℚ) → v < net.nodes → Within 0ℚ until time → label v time ≤ℚ label v until
  rises_on v time h w = step.holds.label_rises v time until h w.0 w.1 (≤ℚ_refl until)

  pub slack_before : (e : ℕ) (link : Link) (time : ℚ) → IsLink net e link → Within 0ℚ until time → link_slack label' link time ≡ link_slack label link time
  slack_before e link time p w = same_slacks _ _ _ _ link.transit (step.goes.label_before link.head time (heads e link p) w) (step.goes.label_before link.tail time (tails e link p) w)

  pub slack_after : (e : ℕ) (link : Link) (t : ℚ) → IsLink net e link → Within 0ℚ length t
      → link_slack label' link (until +ℚ t) ≡ link_slack label link until +ℚ (slope link.head -ℚ slope link.tail) *ℚ t
  slack_after e link t p w = slack_line _ _ _ _ link.transit _ _ t (step.goes.label_after link.head t (heads e link p) w) (step.goes.label_after link.tail t (tails e link p) w)

  link_step : (e : ℕ) (link : Link) (t : ℚ) → IsLink net e link → Within 0ℚ length t
      → LinkStep link.capacity (link_slack label link until) (link_slack label' link (until +ℚ t)) (x e) (slope link.tail) (slope link.head) t
  link_step e link t p w = record {
    positive = IsPositive-link net e link step.good p;
    slope_nn = step.thin.slope_nn link.tail;
    time_nn = w.0;
    flow_nn = step.thin.flow_nn e;
    moves = slack_after e link t p w;
    inactive = step.thin.inactive e link p;
    law = step.thin.law e link p;
    below = λ h. subst (λ (n : ℚ). n ≤ℚ 0ℚ) (sym (slack_after e link t p w)) (step.below e link t p h w);
    above = λ h. subst (λ (n : ℚ). 0ℚ ≤ℚ n) (sym (slack_after e link t p w)) (step.above e link t p h w);
  }

  -- ---- the amounts sent
  past : (e : ℕ) (link : Link) (t : ℚ) → Within 0ℚ length t → label link.tail until ≤ℚ label link.tail until +ℚ slope link.tail *ℚ t
  past e link t w = after_start (label link.tail until) (slope link.tail) t _ (step.thin.slope_nn link.tail) w.0 refl

  before_end : (e : ℕ) (link : Link) (t : ℚ) → Within 0ℚ length t → label link.tail until +ℚ slope link.tail *ℚ t ≤ℚ label link.tail until +ℚ slope link.tail *ℚ length
  before_end e link t w = line_order (label link.tail until) (slope link.tail) t length (step.thin.slope_nn link.tail) w.1

  new_is : (e : ℕ) (link : Link) (time : ℚ) → IsLink net e link → new_sent e time ≡ amount' e (label' link.tail time)
  new_is e link time p = held.sent-is net amount' label' e link time p

  old_is : (e : ℕ) (link : Link) (time : ℚ) → IsLink net e link → old_sent e time ≡ amount e (label link.tail time)
  old_is e link time p = held.sent-is net amount label e link time p

  amount_until : (e : ℕ) (link : Link) → IsLink net e link → amount' e (label link.tail until) ≡ old_sent e until
  amount_until e link p = step.goes.amount_before e link (label link.tail until) p (label_nn link.tail until (tails e link p) now, ≤ℚ_refl _) ∙ sym (old_is e link until p)

  pub sent_before : (e : ℕ) (link : Link) (time : ℚ) → IsLink net e link → Within 0ℚ until time → new_sent e time ≡ old_sent e time
  sent_before e link time p w = new_is e link time p ∙ ap (amount' e) (step.goes.label_before link.tail time (tails e link p) w)
      ∙ step.goes.amount_before e link (label link.tail time) p (label_nn link.tail time (tails e link p) w, rises_on link.tail time (tails e link p) w)
      ∙ sym (old_is e link time p)

  pub sent_after : (e : ℕ) (link : Link) (t : ℚ) → IsLink net e link → Within 0ℚ length t → new_sent e (until +ℚ t) ≡ old_sent e until +ℚ x e *ℚ t
  sent_after e link t p w =
      let r : (r : ℚ) × (r *ℚ slope link.tail ≡ x e) × IsAffine (amount' e) (label link.tail until) (label link.tail until +ℚ slope link.tail *ℚ length) r =
      step.goes.amount_after e link p in
      new_is e link (until +ℚ t) p ∙ ap (amount' e) (step.goes.label_after link.tail t (tails e link p) w)
      ∙ on_the_line _ _ (label link.tail until) (slope link.tail) t r.0 (x e) (old_sent e until)
      (r.2.line (label link.tail until +ℚ slope link.tail *ℚ t) (past e link t w) (before_end e link t w)) (amount_until e link p) r.1

  amount_rises : (e : ℕ) (link : Link) → IsLink net e link → NeverFalls (amount' e)
  amount_rises e link p =
      let r : (r : ℚ) × (r *ℚ slope link.tail ≡ x e) × IsAffine (amount' e) (label link.tail until) (label link.tail until +ℚ slope link.tail *ℚ length) r =
      step.goes.amount_after e link p in
      NeverFalls-goes_on (amount e) (amount' e) (label link.tail until) (slope link.tail) length r.0 (x e) (label_nn link.tail until (tails e link p) now)
      (step.thin.slope_nn link.tail) (step.thin.flow_nn e) step.some
      (step.holds.amount_rises e (slice_get_within net.links e link p)) (λ t w. step.goes.amount_before e link t p w) r.1 r.2 (λ t h. step.goes.amount_ends e link t p h)

  -- ---- queues
  same_amount : (e : ℕ) (link : Link) (time : ℚ) → IsLink net e link → time ≤ℚ label link.tail until → (t : ℚ) → Within 0ℚ time t → amount e t ≡ amount' e t
  same_amount e link time p h t w = sym (step.goes.amount_before e link t p (w.0, ≤ℚ_trans _ _ _ w.1 h))

  queue_until : (e : ℕ) (link : Link) → IsLink net e link → IsQueue link.capacity (amount' e) (label link.tail until) (queue_by_slack link.capacity (link_slack label link until))
  queue_until e link p =
      IsQueue-same link.capacity (amount e) (amount' e) (label link.tail until) _ (same_amount e link (label link.tail until) p (≤ℚ_refl _))
      (step.holds.queue e link until p now)

  abbrev QueueAt : ℕ → Link → ℚ → Type 0
  QueueAt e link time = IsQueue link.capacity (amount' e) (label' link.tail time) (queue_by_slack link.capacity (link_slack label' link time))

  queue_before : (e : ℕ) (link : Link) (time : ℚ) → IsLink net e link → Within 0ℚ until time → QueueAt e link time
  queue_before e link time p w =
      subst (λ (a : ℚ). IsQueue link.capacity (amount' e) a (queue_by_slack link.capacity (link_slack label' link time)))
      (sym (step.goes.label_before link.tail time (tails e link p) w))
      (subst (λ (s : ℚ). IsQueue link.capacity (amount' e) (label link.tail time) (queue_by_slack link.capacity s)) (sym (slack_before e link time p w))
      (IsQueue-same link.capacity (amount e) (amount' e) (label link.tail time) _
      (same_amount e link (label link.tail time) p (rises_on link.tail time (tails e link p) w)) (step.holds.queue e link time p w)))

  queue_after : (e : ℕ) (link : Link) (t : ℚ) → IsLink net e link → Within 0ℚ length t → QueueAt e link (until +ℚ t)
  queue_after e link t p w =
      let r : (r : ℚ) × (r *ℚ slope link.tail ≡ x e) × IsAffine (amount' e) (label link.tail until) (label link.tail until +ℚ slope link.tail *ℚ length) r =
      step.goes.amount_after e link p in
      subst (λ (a : ℚ). IsQueue link.capacity (amount' e) a (queue_by_slack link.capacity (link_slack label' link (until +ℚ t))))
      (sym (step.goes.label_after link.tail t (tails e link p) w))
      (IsQueue-by_slack link.capacity (amount' e) (label link.tail until) _ r.0 _ _ (x e) (slope link.tail) (slope link.head) t
      (link_step e link t p w) r.1 r.2 (past e link t w) (before_end e link t w) (queue_until e link p))

  queue : (e : ℕ) (link : Link) (time : ℚ) → IsLink net e link → Within 0ℚ (until +ℚ length) time → QueueAt e link time
  queue e link time p w = by_time until length (λ time. QueueAt e link time) (λ time w. queue_before e link time p w) (λ t w. queue_after e link t p w) time w

  -- No slack of an unbounded link rises above 0.
  unbounded : (e : ℕ) (link : Link) (time : ℚ) → IsLink net e link → link.capacity ≡ None → Within 0ℚ (until +ℚ length) time → link_slack label' link time ≤ℚ 0ℚ
  unbounded e link time p none w = by_time until length (λ time. link_slack label' link time ≤ℚ 0ℚ)
      (λ time w. subst (λ (s : ℚ). s ≤ℚ 0ℚ) (sym (slack_before e link time p w)) (step.holds.unbounded e link time p none w))
      (λ t w. unbounded_below (link_slack label link until) (link_slack label' link (until +ℚ t)) (x e) (slope link.tail) (slope link.head) t
      (subst (λ (c : Option ℚ). LinkStep c (link_slack label link until) (link_slack label' link (until +ℚ t)) (x e) (slope link.tail) (slope link.head) t) none (link_step e link t p w))
      (step.holds.unbounded e link until p none now))
      time w

  -- ---- each node is entered
  abbrev EnteredAt : ℕ → ℚ → Type 0
  EnteredAt v time = (e : ℕ) × (link : Link) × IsLink net e link × (link.head ≡ v) × (0ℚ ≤ℚ link_slack label' link time)

  entered_before : (v : ℕ) (time : ℚ) → Within 0ℚ until time → (e : ℕ) × (link : Link) × IsLink net e link × (link.head ≡ v) × (0ℚ ≤ℚ link_slack label link time) → EnteredAt v time
  entered_before v time w (e, link, p, at, s) = (e, link, p, at, subst (λ (z : ℚ). 0ℚ ≤ℚ z) (sym (slack_before e link time p w)) s)

  entered_after : (v : ℕ) (t : ℚ) → Within 0ℚ length t
      → (e : ℕ) × (link : Link) × IsLink net e link × (link.head ≡ v) × (0ℚ ≤ℚ link_slack label link until)
      × (link_slack label link until ≤ℚ 0ℚ → slope link.tail ≤ℚ slope link.head) → EnteredAt v (until +ℚ t)
  entered_after v t w (e, link, p, at, s, tight) = (
    e,
    link,
    p,
    at,
    subst (λ (z : ℚ). 0ℚ ≤ℚ z) (sym (slack_after e link t p w)) (⊎_elim
        (λ (u : 0ℚ <ℚ link_slack label link until). step.above e link t p u w)
        (λ (u : link_slack label link until ≤ℚ 0ℚ). still_nn _ _ _ t s (tight u) w.0)
        (lt_or_le_ℚ 0ℚ (link_slack label link until))),
  )

  entered : (v : ℕ) (time : ℚ) → v < net.nodes → v ≢ net.source → Within 0ℚ (until +ℚ length) time → EnteredAt v time
  entered v time h other w = by_time until length (λ time. EnteredAt v time)
      (λ time w. entered_before v time w (step.holds.entered v time h other w))
      (λ t w. entered_after v t w (step.thin.entered v h other)) time w

  -- ---- a link that isn't used
  unused : (e : ℕ) (link : Link) (t : ℚ) → IsLink net e link → Within 0ℚ length t → link_slack label' link (until +ℚ t) <ℚ 0ℚ → (link_slack label link until ≤ℚ 0ℚ) × (x e ≡ 0ℚ)
  unused e link t p w n = unused_below link.capacity _ _ (x e) (slope link.tail) (slope link.head) t (link_step e link t p w) n

  -- From the time on from which a link without flow would have to be used.
  idle_amount : (e : ℕ) (link : Link) (t z : ℚ) → IsLink net e link → Within 0ℚ length t → link_slack label link until ≤ℚ 0ℚ → x e ≡ 0ℚ
      → 0ℚ ≤ℚ z → label link.head until -ℚ link.transit ≤ℚ z → z ≤ℚ label link.tail until +ℚ slope link.tail *ℚ t → amount' e z ≡ old_sent e until
  idle_amount e link t z p w s f h i j = ⊎_elim
      (λ (u : label link.tail until <ℚ z).
      let r : (r : ℚ) × (r *ℚ slope link.tail ≡ x e) × IsAffine (amount' e) (label link.tail until) (label link.tail until +ℚ slope link.tail *ℚ length) r =
      step.goes.amount_after e link p in
      flat (amount' e z) (amount' e (label link.tail until)) r.0 (label link.tail until) (slope link.tail) t z
      (r.2.line z (≤ℚ_of_lt _ _ u) (≤ℚ_trans _ _ _ j (before_end e link t w))) (r.1 ∙ f) (step.thin.slope_nn link.tail) u j
      ∙ amount_until e link p)
      (λ (u : z ≤ℚ label link.tail until). step.goes.amount_before e link z p (h, u) ∙ step.holds.idle e link until z p now s h i u)
      (lt_or_le_ℚ (label link.tail until) z)

  abbrev IdleAt : ℕ → Link → ℚ → Type 0
  IdleAt e link time = link_slack label' link time ≤ℚ 0ℚ → (z : ℚ) → 0ℚ ≤ℚ z → label' link.head time -ℚ link.transit ≤ℚ z → z ≤ℚ label' link.tail time → amount' e z ≡ new_sent e time

  head_rises : (e : ℕ) (link : Link) (t : ℚ) → IsLink net e link → Within 0ℚ length t → label link.head until ≤ℚ label' link.head (until +ℚ t)
  head_rises e link t p w = after_start (label link.head until) (slope link.head) t _ (step.thin.slope_nn link.head) w.0 (step.goes.label_after link.head t (heads e link p) w)

  idle_before : (e : ℕ) (link : Link) (time : ℚ) → IsLink net e link → Within 0ℚ until time → IdleAt e link time
  idle_before e link time p w s z h i j =
      let k : z ≤ℚ label link.tail time = subst (λ (a : ℚ). z ≤ℚ a) (step.goes.label_before link.tail time (tails e link p) w) j in
      step.goes.amount_before e link z p (h, ≤ℚ_trans _ _ _ k (rises_on link.tail time (tails e link p) w))
      ∙ step.holds.idle e link time z p w (subst (λ (n : ℚ). n ≤ℚ 0ℚ) (slack_before e link time p w) s) h
      (subst (λ (b : ℚ). b -ℚ link.transit ≤ℚ z) (step.goes.label_before link.head time (heads e link p) w) i) k
      ∙ sym (sent_before e link time p w)

  idle_after : (e : ℕ) (link : Link) (t : ℚ) → IsLink net e link → Within 0ℚ length t → IdleAt e link (until +ℚ t)
  idle_after e link t p w s z h i j = ⊎_elim
      (λ (n : link_slack label' link (until +ℚ t) <ℚ 0ℚ).
      let u : (link_slack label link until ≤ℚ 0ℚ) × (x e ≡ 0ℚ) = unused e link t p w n in
      idle_amount e link t z p w u.0 u.1 h (sooner _ _ link.transit z (head_rises e link t p w) i) (subst (λ (a : ℚ). z ≤ℚ a) (step.goes.label_after link.tail t (tails e link p) w) j)
      ∙ no_flow _ (x e) t _ u.1 (sent_after e link t p w))
      (λ (n : 0ℚ ≤ℚ link_slack label' link (until +ℚ t)).
      ap (amount' e) (at_the_end (label' link.tail (until +ℚ t)) (label' link.head (until +ℚ t)) link.transit z n i j) ∙ sym (new_is e link (until +ℚ t) p))
      (lt_or_le_ℚ (link_slack label' link (until +ℚ t)) 0ℚ)

  idle : (e : ℕ) (link : Link) (time : ℚ) → IsLink net e link → Within 0ℚ (until +ℚ length) time → IdleAt e link time
  idle e link time p w = by_time until length (λ time. IdleAt e link time) (λ time w. idle_before e link time p w) (λ t w. idle_after e link t p w) time w

  -- ---- an empty queue stays empty without inflow
  idle_from : (e : ℕ) (link : Link) (t start z : ℚ) → IsLink net e link → Within 0ℚ length t → link_slack label link until ≤ℚ 0ℚ → x e ≡ 0ℚ
      → 0ℚ ≤ℚ start → label link.head until -ℚ link.transit ≤ℚ start → start ≤ℚ z → z ≤ℚ label link.tail until +ℚ slope link.tail *ℚ t
      → IsQueue link.capacity (amount' e) start 0ℚ → IsQueue link.capacity (amount' e) z 0ℚ
  idle_from e link t start z p w s f h i j k q = IsQueue-stays_empty link.capacity (amount' e) start z (IsPositive-link net e link step.good p) j
      (λ y a b. idle_amount e link t y p w s f (≤ℚ_trans _ _ _ h a) (≤ℚ_trans _ _ _ i a) (≤ℚ_trans _ _ _ b k) ∙ sym (idle_amount e link t start p w s f h i (≤ℚ_trans _ _ _ j k))) q

  idle_queue_until : (e : ℕ) (link : Link) → IsLink net e link → link_slack label link until ≤ℚ 0ℚ → 0ℚ ≤ℚ label link.head until -ℚ link.transit
      → IsQueue link.capacity (amount' e) (label link.head until -ℚ link.transit) 0ℚ
  idle_queue_until e link p s h =
      IsQueue-same link.capacity (amount e) (amount' e) _ 0ℚ (same_amount e link _ p
      (in_time (label link.tail until) (label link.head until) link.transit s)) (step.holds.idle_queue e link until p now s h)

  abbrev EmptyAt : ℕ → Link → ℚ → Type 0
  EmptyAt e link time = link_slack label' link time ≤ℚ 0ℚ → 0ℚ ≤ℚ label' link.head time -ℚ link.transit → IsQueue link.capacity (amount' e) (label' link.head time -ℚ link.transit) 0ℚ

  empty_before : (e : ℕ) (link : Link) (time : ℚ) → IsLink net e link → Within 0ℚ until time → EmptyAt e link time
  empty_before e link time p w s h =
      let k : link_slack label link time ≤ℚ 0ℚ = subst (λ (n : ℚ). n ≤ℚ 0ℚ) (slack_before e link time p w) s in
      subst (λ (b : ℚ). IsQueue link.capacity (amount' e) (b -ℚ link.transit) 0ℚ) (sym (step.goes.label_before link.head time (heads e link p) w))
      (IsQueue-same link.capacity (amount e) (amount' e) _ 0ℚ
      (same_amount e link _ p (≤ℚ_trans _ _ _ (in_time (label link.tail time) (label link.head time) link.transit k) (rises_on link.tail time (tails e link p) w)))
      (step.holds.idle_queue e link time p w k (subst (λ (b : ℚ). 0ℚ ≤ℚ b -ℚ link.transit) (step.goes.label_before link.head time (heads e link p) w) h)))

  empty_unused : (e : ℕ) (link : Link) (t : ℚ) → IsLink net e link → Within 0ℚ length t → (link_slack label link until ≤ℚ 0ℚ) × (x e ≡ 0ℚ) → EmptyAt e link (until +ℚ t)
  empty_unused e link t p w u s h =
      let k : label link.head until -ℚ link.transit ≤ℚ label' link.head (until +ℚ t) -ℚ link.transit = less_le _ _ link.transit (head_rises e link t p w) in
      let j : label' link.head (until +ℚ t) -ℚ link.transit ≤ℚ label link.tail until +ℚ slope link.tail *ℚ t =
      subst (λ (a : ℚ). label' link.head (until +ℚ t) -ℚ link.transit ≤ℚ a) (step.goes.label_after link.tail t (tails e link p) w) (in_time _ _ link.transit s) in
      ⊎_elim
      (λ (l : label link.head until -ℚ link.transit <ℚ 0ℚ). idle_from e link t 0ℚ _ p w u.0 u.1 (≤ℚ_refl 0ℚ) (≤ℚ_of_lt _ _ l) h j (IsQueue-at_0 link.capacity (amount' e)))
      (λ (l : 0ℚ ≤ℚ label link.head until -ℚ link.transit). idle_from e link t (label link.head until -ℚ link.transit) _ p w u.0 u.1 l (≤ℚ_refl _) k j (idle_queue_until e link p u.0 l))
      (lt_or_le_ℚ (label link.head until -ℚ link.transit) 0ℚ)

  empty_after : (e : ℕ) (link : Link) (t : ℚ) → IsLink net e link → Within 0ℚ length t → EmptyAt e link (until +ℚ t)
  empty_after e link t p w s h = ⊎_elim
      (λ (n : link_slack label' link (until +ℚ t) <ℚ 0ℚ). empty_unused e link t p w (unused e link t p w n) s h)
      (λ (n : 0ℚ ≤ℚ link_slack label' link (until +ℚ t)).
      subst (λ (y : ℚ). IsQueue link.capacity (amount' e) (label' link.head (until +ℚ t) -ℚ link.transit) y) (queue_by_slack-low link.capacity _ s)
      (subst (λ (a : ℚ). IsQueue link.capacity (amount' e) a (queue_by_slack link.capacity (link_slack label' link (until +ℚ t))))
      (same_time (label' link.tail (until +ℚ t)) (label' link.head (until +ℚ t)) link.transit s n)
      (queue_after e link t p w)))
      (lt_or_le_ℚ (link_slack label' link (until +ℚ t)) 0ℚ)

  -- ---- a used link is active
  with_flow : (e : ℕ) (link : Link) (t : ℚ) → IsLink net e link → Within 0ℚ length t → 0ℚ <ℚ x e → 0ℚ ≤ℚ link_slack label' link (until +ℚ t)
  with_flow e link t p w f = ⊎_elim
      (λ (n : link_slack label' link (until +ℚ t) <ℚ 0ℚ). absurd (not_both_ℚ _ _ f (≤ℚ_of_same _ _ (unused e link t p w n).1)))
      (λ (n : 0ℚ ≤ℚ link_slack label' link (until +ℚ t)). n)
      (lt_or_le_ℚ (link_slack label' link (until +ℚ t)) 0ℚ)

  used : (e : ℕ) (link : Link) (time : ℚ) → IsLink net e link → 0ℚ ≤ℚ time → time <ℚ until +ℚ length
      → ((later : ℚ) → time <ℚ later → later ≤ℚ until +ℚ length → new_sent e time <ℚ new_sent e later) → 0ℚ ≤ℚ link_slack label' link time
  used e link time p h k grows = ⊎_elim
      (λ (l : time <ℚ until). let w : Within 0ℚ until time = (h, ≤ℚ_of_lt _ _ l) in
      subst (λ (n : ℚ). 0ℚ ≤ℚ n) (sym (slack_before e link time p w)) (step.holds.used e link time p h l
      (λ after a b. let v : Within 0ℚ until after = (≤ℚ_trans _ _ _ h (≤ℚ_of_lt _ _ a), b) in
      lt_along _ _ _ _ (sent_before e link time p w) (sent_before e link after p v) (grows after a (longer after v).1))))
      (λ (l : until ≤ℚ time).
      let d : until +ℚ (time -ℚ until) ≡ time = linear_eq (until ∷ time ∷ []) [] (search reading_of) tt tt in
      let w : Within 0ℚ length (time -ℚ until) = (
        linear_le (until ∷ time ∷ []) (le l ∷ []) (search reading_of) tt,
        linear_le (until ∷ time ∷ length ∷ []) (lt k ∷ []) (search reading_of) tt,
      ) in
      subst (λ (z : ℚ). 0ℚ ≤ℚ link_slack label' link z) d (with_flow e link (time -ℚ until) p w
      (has_flow (old_sent e until) (x e) (time -ℚ until) length _ _ (step.thin.flow_nn e) (sent_after e link (time -ℚ until) p w) (sent_after e link length p (step.some, ≤ℚ_refl length))
      (subst (λ (z : ℚ). new_sent e z <ℚ new_sent e (until +ℚ length)) (sym d) (grows (until +ℚ length) k (≤ℚ_refl _))))))
      (lt_or_le_ℚ time until)

  -- ---- conservation
  in_before : (v : ℕ) (time : ℚ) → Within 0ℚ until time → sum_in net.links (λ e. new_sent e time) v ≡ sum_in net.links (λ e. old_sent e time) v
  in_before v time w = sum_in-same net.links _ _ v (λ e link p at. sent_before e link time p w)

  out_before : (v : ℕ) (time : ℚ) → Within 0ℚ until time → sum_out net.links (λ e. new_sent e time) v ≡ sum_out net.links (λ e. old_sent e time) v
  out_before v time w = sum_out-same net.links _ _ v (λ e link p at. sent_before e link time p w)

  in_after : (v : ℕ) (t : ℚ) → Within 0ℚ length t → sum_in net.links (λ e. new_sent e (until +ℚ t)) v ≡ sum_in net.links (λ e. old_sent e until) v +ℚ sum_in net.links x v *ℚ t
  in_after v t w =
      sum_in-same net.links (λ e. new_sent e (until +ℚ t)) (λ e. old_sent e until +ℚ x e *ℚ t) v (λ e link p at. sent_after e link t p w)
      ∙ sum_in-line net.links (λ e. old_sent e until) x t v

  out_after : (v : ℕ) (t : ℚ) → Within 0ℚ length t → sum_out net.links (λ e. new_sent e (until +ℚ t)) v ≡ sum_out net.links (λ e. old_sent e until) v +ℚ sum_out net.links x v *ℚ t
  out_after v t w =
      sum_out-same net.links (λ e. new_sent e (until +ℚ t)) (λ e. old_sent e until +ℚ x e *ℚ t) v (λ e link p at. sent_after e link t p w)
      ∙ sum_out-line net.links (λ e. old_sent e until) x t v

  -- ---- the theorem
  pub HoldsUpTo-phase : HoldsUpTo net amount' label' (until +ℚ length)
  HoldsUpTo-phase = record {
    begun = linear_le (until ∷ length ∷ []) (le step.holds.begun ∷ le step.some ∷ []) (search reading_of) tt;
    source = by_time until length (λ time. label' net.source time ≡ time)
        (λ time w. step.goes.label_before net.source time step.good.source w ∙ step.holds.source time w)
        (λ t w. step.goes.label_after net.source t step.good.source w ∙ source_moves _ _ _ t (step.holds.source until now) step.thin.starts);
    label_rises = label_rises;
    label_takes = label_takes;
    label_not_negative = λ v h. subst (λ (a : ℚ). 0ℚ ≤ℚ a) (sym (step.goes.label_before v 0ℚ h first)) (step.holds.label_not_negative v h);
    amount_rises = λ e h. amount_rises e (link_within net e h).0 (link_within net e h).1;
    amount_starts = λ e h. step.goes.amount_before e (link_within net e h).0 0ℚ (link_within net e h).1
        (≤ℚ_refl 0ℚ, label_nn _ until (tails e (link_within net e h).0 (link_within net e h).1) now) ∙ step.holds.amount_starts e h;
    sent_starts = λ e link p. sent_before e link 0ℚ p first ∙ step.holds.sent_starts e link p;
    inner = λ v time h a b w. by_time until length (λ time. sum_in net.links (λ e. new_sent e time) v ≡ sum_out net.links (λ e. new_sent e time) v)
        (λ time w. in_before v time w ∙ step.holds.inner v time h a b w ∙ sym (out_before v time w))
        (λ t w. both_inner _ _ _ _ _ _ t (in_after v t w) (out_after v t w) (step.holds.inner v until h a b now) (step.thin.inner v h a b)) time w;
    supplied = by_time until length (λ time. sum_in net.links (λ e. new_sent e time) net.source +ℚ supply net time ≡ sum_out net.links (λ e. new_sent e time) net.source)
        (λ time w. ap (λ (s : ℚ). s +ℚ supply net time) (in_before net.source time w) ∙ step.holds.supplied time w ∙ sym (out_before net.source time w))
        (λ t w. both_source _ _ _ _ _ _ _ _ rate t (in_after net.source t w) (out_after net.source t w) (step.supply_after t w) (step.holds.supplied until now) step.thin.supplied);
    drained = by_time until length (λ time. sum_in net.links (λ e. new_sent e time) net.sink ≡ sum_out net.links (λ e. new_sent e time) net.sink +ℚ supply net time)
        (λ time w. in_before net.sink time w ∙ step.holds.drained time w ∙ ap (λ (s : ℚ). s +ℚ supply net time) (sym (out_before net.sink time w)))
        (λ t w. both_sink _ _ _ _ _ _ _ _ rate t (in_after net.sink t w) (out_after net.sink t w) (step.supply_after t w) (step.holds.drained until now) step.thin.drained);
    queue = queue;
    unbounded = unbounded;
    entered = entered;
    idle = λ e link time t p w s h i j. idle e link time p w s t h i j;
    idle_queue = λ e link time p w s h. by_time until length (λ time. EmptyAt e link time) (λ time w. empty_before e link time p w) (λ t w. empty_after e link t p w) time w s h;
    used = used;
  }
