-- Queues, exits and outflows of a link, for any cumulative inflow.
use Rattle.std.proofs.Common.{◌≡◌, [], ◌∷◌, Option, Some, None, sym, ap, subst, refl, ◌∙◌, ⊎_elim}
use Rattle.nf_model_laws.proofs.Common.{ℚ, 0ℚ, ◌+ℚ◌, ◌-ℚ◌, ◌*ℚ◌, ◌≤ℚ◌, ◌<ℚ◌, reading_of, ≤ℚ_of_same, ≤ℚ_antisymm, lt_or_le_ℚ, not_both_ℚ, less_nn, le, eq}
use Rattle.nf_model_laws.proofs.Common.{eq_times, linear_le, linear_eq, Within, IsGreatest, IsLeast, NeverFalls, IsQueue, IsExit, IsOutflow, waiting}
use Rattle.nf_model_laws.proofs.Common.{IsPositive, ≤ℚ_refl, ≤ℚ_trans, less_zero, same_Some}
use Rattle.nf_model_laws.proofs.Affine.{nn-quotient, quotient-times, le_from_times}
use Rattle.nf_rational_laws.proofs.Signs.{zero_from_same}

-- ---- at most one value
pub IsGreatest-unique : (f : ℚ → ℚ) (a b y z : ℚ) → IsGreatest f a b y → IsGreatest f a b z → y ≡ z
IsGreatest-unique f a b y z p q = ≤ℚ_antisymm y z (at_most y z p q) (at_most z y q p)
  where
    at_most : (y z : ℚ) → IsGreatest f a b y → IsGreatest f a b z → y ≤ℚ z
    at_most y z p q = subst (λ (x : ℚ). x ≤ℚ z) p.taken.2 (q.bound p.taken.0 p.taken.1)

pub IsLeast-unique : (f : ℚ → ℚ) (a b y z : ℚ) → IsLeast f a b y → IsLeast f a b z → y ≡ z
IsLeast-unique f a b y z p q = ≤ℚ_antisymm y z (at_most y z p q) (at_most z y q p)
  where
    at_most : (y z : ℚ) → IsLeast f a b y → IsLeast f a b z → y ≤ℚ z
    at_most y z p q = subst (λ (x : ℚ). y ≤ℚ x) q.taken.2 (p.bound q.taken.0 q.taken.1)

pub IsQueue-unique : (capacity : Option ℚ) (amount : ℚ → ℚ) (time y z : ℚ) → IsQueue capacity amount time y → IsQueue capacity amount time z → y ≡ z
IsQueue-unique None amount time y z p q = p.unbounded refl ∙ sym (q.unbounded refl)
IsQueue-unique (Some rate) amount time y z p q = IsGreatest-unique _ _ _ y z (p.bounded rate refl) (q.bounded rate refl)

pub IsExit-unique : (transit : ℚ) (capacity : Option ℚ) (amount : ℚ → ℚ) (time y z : ℚ) → IsExit transit capacity amount time y → IsExit transit capacity amount time z → y ≡ z
IsExit-unique transit capacity amount time y z p q =
    p.is_sum ∙ ap (λ (x : ℚ). time +ℚ transit +ℚ waiting capacity x) (IsQueue-unique capacity amount time p.queue q.queue p.is_queue q.is_queue) ∙ sym q.is_sum

pub IsOutflow-unique : (transit : ℚ) (capacity : Option ℚ) (amount : ℚ → ℚ) (time y z : ℚ) → IsOutflow transit capacity amount time y → IsOutflow transit capacity amount time z → y ≡ z
IsOutflow-unique transit capacity amount time y z p q = ⊎_elim
    (λ (l : time <ℚ transit). p.early l ∙ sym (q.early l))
    (λ (l : transit ≤ℚ time). late capacity l p q)
    (lt_or_le_ℚ time transit)
  where
    late : (capacity : Option ℚ) → transit ≤ℚ time → IsOutflow transit capacity amount time y → IsOutflow transit capacity amount time z → y ≡ z
    late None l p q = p.unbounded l refl ∙ sym (q.unbounded l refl)
    late (Some rate) l p q = IsLeast-unique _ _ _ y z (p.bounded rate l refl) (q.bounded rate l refl)

-- ---- a queue from its one case
no_rate : {X : Type 0} (rate : ℚ) → ◌≡◌ {A = Option ℚ} None (Some rate) → X
no_rate rate e = absurd (cc)

pub IsQueue-none : (amount : ℚ → ℚ) (time : ℚ) → IsQueue None amount time 0ℚ
IsQueue-none amount time = record { unbounded = λ _. refl; bounded = λ rate e. no_rate rate e }

pub IsQueue-some : (rate : ℚ) (amount : ℚ → ℚ) (time queue : ℚ) → IsGreatest (λ since. amount time -ℚ amount since -ℚ rate *ℚ (time -ℚ since)) 0ℚ time queue
    → IsQueue (Some rate) amount time queue
IsQueue-some rate amount time queue p = record {
  unbounded = λ e. no_rate rate (sym e);
  bounded = λ other e. subst (λ (r : ℚ). IsGreatest (λ since. amount time -ℚ amount since -ℚ r *ℚ (time -ℚ since)) 0ℚ time queue) (same_Some rate other e) p;
}

-- ---- a queue is at least 0
pub IsGreatest-order : (f : ℚ → ℚ) (a b y : ℚ) → IsGreatest f a b y → a ≤ℚ b
IsGreatest-order f a b y p = ≤ℚ_trans _ _ _ p.taken.1.0 p.taken.1.1

none_now : (a c t y : ℚ) → a -ℚ a -ℚ c *ℚ (t -ℚ t) ≤ℚ y → 0ℚ ≤ℚ y
none_now a c t y h = linear_le (a ∷ c ∷ t ∷ y ∷ []) (le h ∷ []) (search reading_of) tt

pub IsQueue-nn : (capacity : Option ℚ) (amount : ℚ → ℚ) (time y : ℚ) → IsQueue capacity amount time y → 0ℚ ≤ℚ y
IsQueue-nn None amount time y p = ≤ℚ_of_same _ _ (sym (p.unbounded refl))
IsQueue-nn (Some rate) amount time y p =
    let g : IsGreatest (λ since. amount time -ℚ amount since -ℚ rate *ℚ (time -ℚ since)) 0ℚ time y = p.bounded rate refl in
    none_now (amount time) rate time y (g.bound time (IsGreatest-order _ _ _ _ g, ≤ℚ_refl time))

pub waiting-nn : (capacity : Option ℚ) (queue : ℚ) → IsPositive capacity → 0ℚ ≤ℚ queue → 0ℚ ≤ℚ waiting capacity queue
waiting-nn None queue c h = ≤ℚ_refl 0ℚ
waiting-nn (Some rate) queue c h = nn-quotient queue rate h (c rate refl)

-- ---- the outflow is what has come, less the queue, the transit time later
back_in : (x z r t : ℚ) → z ≡ x +ℚ r → t ≤ℚ x → t ≤ℚ z -ℚ r
back_in x z r t e h = linear_le (x ∷ z ∷ r ∷ t ∷ []) (le h ∷ eq e ∷ []) (search reading_of) tt

back_out : (x z r t : ℚ) → z ≡ x +ℚ r → t ≤ℚ z -ℚ r → t ≤ℚ x
back_out x z r t e h = linear_le (x ∷ z ∷ r ∷ t ∷ []) (le h ∷ eq e ∷ []) (search reading_of) tt

back : (x z r : ℚ) → z ≡ x +ℚ r → x ≡ z -ℚ r
back x z r e = linear_eq (x ∷ z ∷ r ∷ []) (eq e ∷ []) (search reading_of) tt tt

turned : (a b c x z r t y : ℚ) → z ≡ x +ℚ r → a -ℚ b -ℚ c *ℚ (x -ℚ t) ≡ y → b +ℚ c *ℚ (z -ℚ r -ℚ t) ≡ a -ℚ y
turned a b c x z r t y e f = linear_eq (a ∷ b ∷ c ∷ x ∷ z ∷ r ∷ t ∷ y ∷ []) (eq_times c e ∷ eq f ∷ []) (search reading_of) tt tt

turned_le : (a b c x z r t y : ℚ) → z ≡ x +ℚ r → a -ℚ b -ℚ c *ℚ (x -ℚ t) ≤ℚ y → a -ℚ y ≤ℚ b +ℚ c *ℚ (z -ℚ r -ℚ t)
turned_le a b c x z r t y e f = linear_le (a ∷ b ∷ c ∷ x ∷ z ∷ r ∷ t ∷ y ∷ []) (eq_times c e ∷ le f ∷ []) (search reading_of) tt

later_by : (x z r : ℚ) → z ≡ x +ℚ r → 0ℚ ≤ℚ x → r ≤ℚ z
later_by x z r e h = linear_le (x ∷ z ∷ r ∷ []) (eq e ∷ le h ∷ []) (search reading_of) tt

pub IsOutflow-early : (transit : ℚ) (capacity : Option ℚ) (amount : ℚ → ℚ) (time : ℚ) → time <ℚ transit → IsOutflow transit capacity amount time 0ℚ
IsOutflow-early transit capacity amount time l = record {
  early = λ _. refl;
  unbounded = λ h _. absurd (not_both_ℚ _ _ l h);
  bounded = λ rate h _. absurd (not_both_ℚ _ _ l h);
}

pub IsOutflow-from_IsQueue : (transit : ℚ) (capacity : Option ℚ) (amount : ℚ → ℚ) (time later y : ℚ) → later ≡ time +ℚ transit → 0ℚ ≤ℚ time → IsQueue capacity amount time y
    → IsOutflow transit capacity amount later (amount time -ℚ y)
IsOutflow-from_IsQueue transit capacity amount time later y e h p = record {
  early = λ l. absurd (not_both_ℚ _ _ l (later_by time later transit e h));
  unbounded = λ _ none. less_zero (amount time) y (p.unbounded none) ∙ ap amount (back time later transit e);
  bounded = λ rate _ some.
      let g : IsGreatest (λ since. amount time -ℚ amount since -ℚ rate *ℚ (time -ℚ since)) 0ℚ time y = p.bounded rate some in
      record {
        taken = (g.taken.0, (g.taken.1.0, back_in time later transit _ e g.taken.1.1), turned _ _ rate time later transit g.taken.0 y e g.taken.2);
        bound = λ t w. turned_le _ _ rate time later transit t y e (g.bound t (w.0, back_out time later transit t e w.1));
      };
}

turned_back : (a b c x z r t y : ℚ) → z ≡ x +ℚ r → b +ℚ c *ℚ (z -ℚ r -ℚ t) ≡ y → a -ℚ b -ℚ c *ℚ (x -ℚ t) ≡ a -ℚ y
turned_back a b c x z r t y e f = linear_eq (a ∷ b ∷ c ∷ x ∷ z ∷ r ∷ t ∷ y ∷ []) (eq_times c e ∷ eq f ∷ []) (search reading_of) tt tt

turned_back_le : (a b c x z r t y : ℚ) → z ≡ x +ℚ r → y ≤ℚ b +ℚ c *ℚ (z -ℚ r -ℚ t) → a -ℚ b -ℚ c *ℚ (x -ℚ t) ≤ℚ a -ℚ y
turned_back_le a b c x z r t y e f = linear_le (a ∷ b ∷ c ∷ x ∷ z ∷ r ∷ t ∷ y ∷ []) (eq_times c e ∷ le f ∷ []) (search reading_of) tt

pub IsQueue-from_IsOutflow : (transit : ℚ) (capacity : Option ℚ) (amount : ℚ → ℚ) (time later y : ℚ) → later ≡ time +ℚ transit → 0ℚ ≤ℚ time → IsOutflow transit capacity amount later y
    → IsQueue capacity amount time (amount time -ℚ y)
IsQueue-from_IsOutflow transit capacity amount time later y e h p = record {
  unbounded = λ none. zero_from_same y (amount time) (p.unbounded (later_by time later transit e h) none ∙ ap amount (sym (back time later transit e)));
  bounded = λ rate some.
      let l : IsLeast (λ since. amount since +ℚ rate *ℚ (later -ℚ transit -ℚ since)) 0ℚ (later -ℚ transit) y = p.bounded rate (later_by time later transit e h) some in
      record {
        taken = (l.taken.0, (l.taken.1.0, back_out time later transit _ e l.taken.1.1), turned_back _ _ rate time later transit l.taken.0 y e l.taken.2);
        bound = λ t w. turned_back_le _ _ rate time later transit t y e (l.bound t (w.0, back_in time later transit t e w.1));
      };
}

-- ---- exits
exit_after : (x r q : ℚ) → 0ℚ ≤ℚ q → x +ℚ r ≤ℚ x +ℚ r +ℚ q
exit_after x r q h = linear_le (x ∷ r ∷ q ∷ []) (le h ∷ []) (search reading_of) tt

pub IsExit-after : (transit : ℚ) (capacity : Option ℚ) (amount : ℚ → ℚ) (time exit : ℚ) → IsPositive capacity → IsExit transit capacity amount time exit → time +ℚ transit ≤ℚ exit
IsExit-after transit capacity amount time exit c p =
    subst (λ (x : ℚ). time +ℚ transit ≤ℚ x) (sym p.is_sum) (exit_after time transit _ (waiting-nn capacity p.queue c (IsQueue-nn capacity amount time p.queue p.is_queue)))

-- by a queue over time, the times of leaving keep their order
kept : (a a' b c s t u y z : ℚ) → a ≤ℚ a' → a -ℚ b -ℚ c *ℚ (s -ℚ u) ≡ y → a' -ℚ b -ℚ c *ℚ (t -ℚ u) ≤ℚ z → c *ℚ s +ℚ y ≤ℚ c *ℚ t +ℚ z
kept a a' b c s t u y z h e k = linear_le (a ∷ a' ∷ b ∷ c ∷ s ∷ t ∷ u ∷ y ∷ z ∷ []) (le h ∷ eq e ∷ le k ∷ []) (search reading_of) tt

pub IsQueue-keeps : (rate : ℚ) (amount : ℚ → ℚ) (s t y z : ℚ) → amount s ≤ℚ amount t → s ≤ℚ t → IsQueue (Some rate) amount s y
    → IsQueue (Some rate) amount t z → rate *ℚ s +ℚ y ≤ℚ rate *ℚ t +ℚ z
IsQueue-keeps rate amount s t y z h k p q =
    let g : IsGreatest (λ since. amount s -ℚ amount since -ℚ rate *ℚ (s -ℚ since)) 0ℚ s y = p.bounded rate refl in
    kept (amount s) (amount t) (amount g.taken.0) rate s t g.taken.0 y z h g.taken.2 ((q.bounded rate refl).bound g.taken.0 (g.taken.1.0, ≤ℚ_trans _ _ _ g.taken.1.1 k))

exit_order : (c s t r y z u v : ℚ) → c *ℚ s +ℚ y ≤ℚ c *ℚ t +ℚ z → u *ℚ c ≡ y → v *ℚ c ≡ z → c *ℚ (s +ℚ r +ℚ u) ≤ℚ c *ℚ (t +ℚ r +ℚ v)
exit_order c s t r y z u v h e f = linear_le (c ∷ s ∷ t ∷ r ∷ y ∷ z ∷ u ∷ v ∷ []) (le h ∷ eq e ∷ eq f ∷ []) (search reading_of) tt

exit_sums : (transit : ℚ) (capacity : Option ℚ) (amount : ℚ → ℚ) (s t y z : ℚ) → IsPositive capacity → NeverFalls amount → s ≤ℚ t
    → IsQueue capacity amount s y → IsQueue capacity amount t z
    → s +ℚ transit +ℚ waiting capacity y ≤ℚ t +ℚ transit +ℚ waiting capacity z
exit_sums transit None amount s t y z c rises k p q = linear_le (s ∷ t ∷ transit ∷ []) (le k ∷ []) (search reading_of) tt
exit_sums transit (Some rate) amount s t y z c rises k p q =
    le_from_times rate _ _ (c rate refl) (exit_order rate s t transit y z _ _
    (IsQueue-keeps rate amount s t y z (rises s t (IsGreatest-order _ _ _ _ (p.bounded rate refl)) k) k p q) (quotient-times y rate (c rate refl)) (quotient-times z rate (c rate refl)))

pub IsExit-monotone : (transit : ℚ) (capacity : Option ℚ) (amount : ℚ → ℚ) (s t y z : ℚ) → IsPositive capacity → NeverFalls amount → s ≤ℚ t
    → IsExit transit capacity amount s y → IsExit transit capacity amount t z → y ≤ℚ z
IsExit-monotone transit capacity amount s t y z c rises k p q =
    subst (λ (x : ℚ). x ≤ℚ z) (sym p.is_sum) (subst (λ (x : ℚ). s +ℚ transit +ℚ waiting capacity p.queue ≤ℚ x) (sym q.is_sum)
    (exit_sums transit capacity amount s t p.queue q.queue c rises k p.is_queue q.is_queue))

-- ---- only what has come up to a time counts then
IsGreatest-same : (f g : ℚ → ℚ) (a b y : ℚ) → ((t : ℚ) → Within a b t → f t ≡ g t) → IsGreatest f a b y → IsGreatest g a b y
IsGreatest-same f g a b y e p = record {
  taken = (p.taken.0, p.taken.1, sym (e p.taken.0 p.taken.1) ∙ p.taken.2);
  bound = λ t w. subst (λ (z : ℚ). z ≤ℚ y) (e t w) (p.bound t w);
}

IsLeast-same : (f g : ℚ → ℚ) (a b y : ℚ) → ((t : ℚ) → Within a b t → f t ≡ g t) → IsLeast f a b y → IsLeast g a b y
IsLeast-same f g a b y e p = record {
  taken = (p.taken.0, p.taken.1, sym (e p.taken.0 p.taken.1) ∙ p.taken.2);
  bound = λ t w. subst (λ (z : ℚ). y ≤ℚ z) (e t w) (p.bound t w);
}

pub IsQueue-same : (capacity : Option ℚ) (f g : ℚ → ℚ) (time y : ℚ) → ((t : ℚ) → Within 0ℚ time t → f t ≡ g t) → IsQueue capacity f time y → IsQueue capacity g time y
IsQueue-same capacity f g time y e p = record {
  unbounded = p.unbounded;
  bounded = λ rate some. IsGreatest-same _ _ 0ℚ time y (λ t w. both rate time t (e time (≤ℚ_trans _ _ _ w.0 w.1, ≤ℚ_refl time)) (e t w)) (p.bounded rate some);
}
  where
    both : (rate s t : ℚ) → f s ≡ g s → f t ≡ g t → f s -ℚ f t -ℚ rate *ℚ (s -ℚ t) ≡ g s -ℚ g t -ℚ rate *ℚ (s -ℚ t)
    both rate s t a b = cc

pub IsExit-same : (transit : ℚ) (capacity : Option ℚ) (f g : ℚ → ℚ) (time exit : ℚ) → ((t : ℚ) → Within 0ℚ time t → f t ≡ g t)
    → IsExit transit capacity f time exit → IsExit transit capacity g time exit
IsExit-same transit capacity f g time exit e p = record { queue = p.queue; is_queue = IsQueue-same capacity f g time p.queue e p.is_queue; is_sum = p.is_sum }

pub IsOutflow-same : (transit : ℚ) (capacity : Option ℚ) (f g : ℚ → ℚ) (time out : ℚ) → ((t : ℚ) → Within 0ℚ (time -ℚ transit) t → f t ≡ g t)
    → IsOutflow transit capacity f time out → IsOutflow transit capacity g time out
IsOutflow-same transit capacity f g time out e p = record {
  early = p.early;
  unbounded = λ l none. p.unbounded l none ∙ e (time -ℚ transit) (less_nn transit time l, ≤ℚ_refl _);
  bounded = λ rate l some. IsLeast-same _ _ 0ℚ (time -ℚ transit) out (λ t w. ap (λ (x : ℚ). x +ℚ rate *ℚ (time -ℚ transit -ℚ t)) (e t w)) (p.bounded rate l some);
}
