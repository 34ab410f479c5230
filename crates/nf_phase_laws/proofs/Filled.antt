-- The slope of a queue over a phase: inflow rate minus capacity on a filled link, and 0 otherwise.
use Rattle.std.proofs.Common.{◌≡◌, ℕ, List, [], ◌∷◌, get_or, Bool, true, false, ⊎_elim, sym, ap, subst, refl, ◌∙◌, arith, Option, Some, None, slice_get}
use Rattle.std.proofs.Common.{unwrap_or}
use Rattle.nf_phase_laws.proofs.Common.{none-some, same_Some, slice_get-get_or, slice_get_within, ℚ, 0ℚ, ◌+ℚ◌, ◌-ℚ◌, ◌*ℚ◌, ◌/ℚ◌, ◌≤ℚ◌, ◌<ℚ◌, max_ℚ}
use Rattle.nf_phase_laws.proofs.Common.{reading_of, ≤ℚ_of_lt, lt_or_le_ℚ, le, eq, le_times, eq_times, linear_le, linear_eq, number_at, Has, Link, Network}
use Rattle.nf_phase_laws.proofs.Common.{IsLink, hop_of, hops, unbounded, slack, slacks_of, sets_at, Pattern, NeedsState, HasState, IsPattern, Fills}
use Rattle.nf_phase_laws.proofs.Common.{Equation, Solves, Meets, slack_after, Lasts, quotient-times, slack_at, active_of_slack, slack_of_active}
use Rattle.nf_phase_laws.proofs.Common.{resetting_of_slack, slack_of_resetting, is_filled, queue_by_slack, ≤ℚ_refl, max0_of, false≢true, AreSets-sets_at}
use Rattle.nf_model.specs.declared.State.{State}
use Rattle.nf_model.specs.declared.State.TheVariants.{Tight, Full, Zero}
use Rattle.nf_phase_laws.proofs.Idle.{queue_by_slack-low}
use Rattle.nf_phase_laws.proofs.StepValues.{filled_slope}

-- Facts on a link that the flow fills, and on one that it doesn't: its slacks at the ends of the phase.
pub record Filled (capacity : Option ℚ) (s n x m : ℚ) (filled : Bool) : Type 0 where
  pub full : filled ≡ true → (c : ℚ) → capacity ≡ Some c → (x ≡ c *ℚ m) × (0ℚ ≤ℚ s) × (0ℚ ≤ℚ n)
  pub empty : filled ≡ false → (s ≤ℚ 0ℚ) × (n ≤ℚ 0ℚ)

-- ---- the slope
none_slope : (k y z : ℚ) → y ≡ 0ℚ → z ≡ 0ℚ → 0ℚ *ℚ k ≡ y -ℚ z
none_slope k y z e f = linear_eq (k ∷ y ∷ z ∷ []) (eq e ∷ eq f ∷ []) (search reading_of) tt tt

full_slope : (c s n x l m t q u v : ℚ) → q *ℚ l ≡ x → x ≡ c *ℚ m → n ≡ s +ℚ t *ℚ (m -ℚ l) → u ≡ n → v ≡ s → (q -ℚ c) *ℚ (l *ℚ t) ≡ c *ℚ u -ℚ c *ℚ v
full_slope c s n x l m t q u v e f g h k =
    linear_eq (c ∷ s ∷ n ∷ x ∷ l ∷ m ∷ t ∷ q ∷ u ∷ v ∷ []) (eq_times t e ∷ eq_times t f ∷ eq_times c g ∷ eq_times c h ∷ eq_times c k ∷ []) (search reading_of) tt tt

pub queue_slope : (capacity : Option ℚ) (s n x l m t : ℚ) (filled : Bool) → Filled capacity s n x m filled → n ≡ s +ℚ t *ℚ (m -ℚ l) → 0ℚ <ℚ l
    → filled_slope filled capacity (x /ℚ l) *ℚ (l *ℚ t) ≡ queue_by_slack capacity n -ℚ queue_by_slack capacity s
queue_slope None s n x l m t true k e h = none_slope (l *ℚ t) 0ℚ 0ℚ refl refl
queue_slope None s n x l m t false k e h = none_slope (l *ℚ t) 0ℚ 0ℚ refl refl
queue_slope (Some c) s n x l m t true k e h =
    let f = k.full refl c refl in
    full_slope c s n x l m t (x /ℚ l) (max_ℚ 0ℚ n) (max_ℚ 0ℚ s) (quotient-times x l h) f.0 e (max0_of n f.2) (max0_of s f.1)
queue_slope (Some c) s n x l m t false k e h =
    let f = k.empty refl in
    none_slope (l *ℚ t) _ _ (queue_by_slack-low (Some c) n f.1) (queue_by_slack-low (Some c) s f.0)

-- ---- the links of a phase
tight_low : (z t m l : ℚ) → z ≤ℚ 0ℚ → m ≡ l → z +ℚ t *ℚ (m -ℚ l) ≤ℚ 0ℚ
tight_low z t m l h e = linear_le (z ∷ t ∷ m ∷ l ∷ []) (le h ∷ eq_times t e ∷ []) (search reading_of) tt

zero_low : (z t m l : ℚ) → z ≤ℚ 0ℚ → m ≤ℚ l → 0ℚ ≤ℚ t → z +ℚ t *ℚ (m -ℚ l) ≤ℚ 0ℚ
zero_low z t m l h k j = linear_le (z ∷ t ∷ m ∷ l ∷ []) (le h ∷ le_times j k ∷ []) (search reading_of) tt

full_high : (z t m l : ℚ) → 0ℚ ≤ℚ z → l ≤ℚ m → 0ℚ ≤ℚ t → 0ℚ ≤ℚ z +ℚ t *ℚ (m -ℚ l)
full_high z t m l h k j = linear_le (z ∷ t ∷ m ∷ l ∷ []) (le h ∷ le_times j k ∷ []) (search reading_of) tt

not_some : (s : State) → ◌≡◌ {A = Option State} None (Some s) → ⊥
not_some s e = cc

module _ (net : Network) (labels : List ℚ) (rate time length_of : ℚ) (pattern : Pattern) (flows slopes : List ℚ) (is_pattern : IsPattern (sets_at net labels) (unbounded net) pattern)
    (solves : Solves net (sets_at net labels) rate pattern flows slopes) (meets : Meets net pattern flows slopes)
    (lasts : Lasts net (slacks_of (hops net) labels) slopes time length_of) where
  abbrev resets : ℕ → Bool
  resets e = unwrap_or (slice_get (sets_at net labels).resetting e) false

  abbrev before : ℕ → ℚ
  before e = number_at (slacks_of (hops net) labels) e

  abbrev after : ℕ → Link → ℚ
  after e link = slack_after (slacks_of (hops net) labels) slopes e link length_of

  abbrev FilledAt : ℕ → Link → Bool → Type 0
  FilledAt e link filled = Filled link.capacity (before e) (after e link) (number_at flows e) (number_at slopes link.head) filled

  module _ (e : ℕ) (link : Link) (p : IsLink net e link) where
    idle : (b : Bool) → b ≡ false → before e ≤ℚ 0ℚ → after e link ≤ℚ 0ℚ → FilledAt e link b
    idle b f h k = record { full = λ t. absurd (false≢true (sym f ∙ t)); empty = λ _. (h, k) }

    busy : (b : Bool) → b ≡ true → Fills link.capacity (number_at flows e) (number_at slopes link.head) → 0ℚ ≤ℚ before e → 0ℚ ≤ℚ after e link → FilledAt e link b
    busy b f fills h k = record {
      full = λ _ c d. (fills.2 ∙ ap (λ (y : ℚ). y *ℚ number_at slopes link.head) (same_Some fills.0 c (sym fills.1 ∙ d)), h, k);
      empty = λ t. absurd (false≢true (sym t ∙ f));
    }

    not_resetting : (Has (sets_at net labels).resetting e → ⊥) → resets e ≡ false
    not_resetting none = by_flag (slice_get (sets_at net labels).resetting e) refl
      where
        by_flag : (o : Option Bool) → slice_get (sets_at net labels).resetting e ≡ o → resets e ≡ false
        by_flag None f = ap (λ (o : Option Bool). unwrap_or o false) f
        by_flag (Some false) f = ap (λ (o : Option Bool). unwrap_or o false) f
        by_flag (Some true) f = absurd (none f)

    low : (Has (sets_at net labels).resetting e → ⊥) → before e ≤ℚ 0ℚ
    low none = subst (λ (z : ℚ). z ≤ℚ 0ℚ) (sym (slack_at net labels e link p))
        (⊎_elim (λ (h : 0ℚ <ℚ slack labels (hop_of link)). absurd (none (resetting_of_slack net labels e link p h)))
        (λ (h : slack labels (hop_of link) ≤ℚ 0ℚ). h) (lt_or_le_ℚ 0ℚ (slack labels (hop_of link))))

    high : Has (sets_at net labels).active e → 0ℚ ≤ℚ before e
    high active = subst (λ (z : ℚ). 0ℚ ≤ℚ z) (sym (slack_at net labels e link p)) (slack_of_active net labels e link p active)

    beyond : (Has (sets_at net labels).active e → ⊥) → before e <ℚ 0ℚ
    beyond none = subst (λ (z : ℚ). z <ℚ 0ℚ) (sym (slack_at net labels e link p))
        (⊎_elim (λ (h : slack labels (hop_of link) <ℚ 0ℚ). h) (λ (h : 0ℚ ≤ℚ slack labels (hop_of link)). absurd
        (none (active_of_slack net labels e link p h))) (lt_or_le_ℚ (slack labels (hop_of link)) 0ℚ))

    needs : (state : State) → HasState pattern e state → NeedsState (sets_at net labels) e
    needs state h = (is_pattern.states e).1 (state, h)

    inactive : slice_get pattern e ≡ Some None → (Has (sets_at net labels).resetting e → ⊥) → FilledAt e link (resets e)
    inactive h none =
        let outside : before e <ℚ 0ℚ = beyond (λ active. (let s = (is_pattern.states e).0 (active, none) in not_some s.0 (same_Some None (Some s.0) (sym h ∙ s.1)))) in
        idle (resets e) (not_resetting none) (≤ℚ_of_lt _ _ outside) (lasts.inactive e link length_of p outside (lasts.not_negative, ≤ℚ_refl length_of))

    stateless : slice_get pattern e ≡ Some None → (o : Option Bool) → slice_get (sets_at net labels).resetting e ≡ o → FilledAt e link (resets e)
    stateless h (Some true) f =
        let above : 0ℚ <ℚ before e = subst (λ (z : ℚ). 0ℚ <ℚ z) (sym (slack_at net labels e link p)) (slack_of_resetting net labels e link p f) in
        let flag : resets e ≡ true = ap (λ (o : Option Bool). unwrap_or o false) f in
        busy (resets e) flag
        (subst (λ (b : Bool). Equation None b link.capacity (number_at flows e) (number_at slopes link.tail) (number_at slopes link.head)) flag (solves.links e link None p h))
        (≤ℚ_of_lt _ _ above) (lasts.resetting e link length_of p above (lasts.not_negative, ≤ℚ_refl length_of))
    stateless h (Some false) f = inactive h (λ k. absurd (false≢true (same_Some false true (sym f ∙ k))))
    stateless h None f = inactive h (λ k. absurd (none-some true (sym f ∙ k)))

    by_state : (state : Option State) → slice_get pattern e ≡ Some state → FilledAt e link (is_filled state (resets e))
    by_state (Some Tight) h =
        let n = needs Tight h in
        idle (resets e) (not_resetting n.1) (low n.1) (tight_low (before e) length_of (number_at slopes link.head) (number_at slopes link.tail) (low n.1)
        (solves.links e link (Some Tight) p h))
    by_state (Some Full) h =
        let n = needs Full h in
        busy true refl (solves.links e link (Some Full) p h) (high n.0)
        (full_high (before e) length_of (number_at slopes link.head) (number_at slopes link.tail) (high n.0) (meets.links e link (Some Full) p h) lasts.not_negative)
    by_state (Some Zero) h =
        let n = needs Zero h in
        idle (resets e) (not_resetting n.1) (low n.1)
        (zero_low (before e) length_of (number_at slopes link.head) (number_at slopes link.tail) (low n.1) (meets.links e link (Some Zero) p h) lasts.not_negative)
    by_state None h = stateless h (slice_get (sets_at net labels).resetting e) refl

    has_entry : slice_get pattern e ≡ Some (get_or pattern e None)
    has_entry = slice_get-get_or pattern e None
        (let a = is_pattern.count in let b = (AreSets-sets_at net labels).count in let c = slice_get_within net.links e link p in omega arith)

    pub Filled-at : FilledAt e link (is_filled (unwrap_or (slice_get pattern e) None) (resets e))
    Filled-at = subst (λ (o : Option (Option State)). FilledAt e link (is_filled (unwrap_or o None) (resets e))) (sym has_entry) (by_state (get_or pattern e None) has_entry)
