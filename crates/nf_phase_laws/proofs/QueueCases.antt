-- The queue of a link over one phase. Here c is the capacity, s the slack at the beginning and n the slack after the time t by departure.
-- The slopes at tail and head are l and m; the flow is x by departure and r by time.
use Rattle.std.proofs.Common.{◌≡◌, [], ◌∷◌, ◌⊎◌, ⊎_elim, Option, Some, None, sym, subst, refl}
use Rattle.nf_phase_laws.proofs.Common.{ℚ, 0ℚ, ◌+ℚ◌, ◌-ℚ◌, ◌*ℚ◌, ◌≤ℚ◌, ◌<ℚ◌, max_ℚ, reading_of, ≤ℚ_of_same, ≤ℚ_of_lt, ≤ℚ_antisymm, lt_or_le_ℚ, not_both_ℚ}
use Rattle.nf_phase_laws.proofs.Common.{le, lt, eq, le_times, eq_times, linear_le, linear_eq, linear_false, IsQueue, IsAffine, IsPositive, le_from_times}
use Rattle.nf_phase_laws.proofs.Common.{IsQueue-none, IsQueue-step, IsQueue-step_empty, queue_by_slack, ≤ℚ_trans, max0_none, max0_of, times_second_zero}
use Rattle.nf_phase_laws.proofs.Thin.{LinkLaw}

queue_goal : (r c l x q t y : ℚ) → r *ℚ l ≡ x → y ≡ q +ℚ (x -ℚ c *ℚ l) *ℚ t → (a : ℚ) → y ≡ q +ℚ (r -ℚ c) *ℚ ((a +ℚ l *ℚ t) -ℚ a)
queue_goal r c l x q t y e f a = linear_eq (r ∷ c ∷ l ∷ x ∷ q ∷ t ∷ y ∷ a ∷ []) (eq_times t e ∷ eq f ∷ []) (search reading_of depth 12) tt tt

queue_goal_le : (r c l x q t : ℚ) → r *ℚ l ≡ x → q +ℚ (x -ℚ c *ℚ l) *ℚ t ≤ℚ 0ℚ → (a : ℚ) → q +ℚ (r -ℚ c) *ℚ ((a +ℚ l *ℚ t) -ℚ a) ≤ℚ 0ℚ
queue_goal_le r c l x q t e f a = linear_le (r ∷ c ∷ l ∷ x ∷ q ∷ t ∷ a ∷ []) (eq_times t e ∷ le f ∷ []) (search reading_of depth 12) tt

-- The queue q changes by x - c l and is c n, at least 0; or it is 0, and n is at most 0.
data QueueCase (c l x q t n : ℚ) : Type 0 where
  runs : 0ℚ ≤ℚ n → c *ℚ n ≡ q +ℚ (x -ℚ c *ℚ l) *ℚ t → QueueCase c l x q t n
  stays : n ≤ℚ 0ℚ → q +ℚ (x -ℚ c *ℚ l) *ℚ t ≤ℚ 0ℚ → QueueCase c l x q t n

queue_resetting : (c s l m x t n : ℚ) → x ≡ c *ℚ m → n ≡ s +ℚ (m -ℚ l) *ℚ t → 0ℚ ≤ℚ n → QueueCase c l x (c *ℚ s) t n
queue_resetting c s l m x t n e f h = runs h (linear_eq (c ∷ s ∷ l ∷ m ∷ x ∷ t ∷ n ∷ []) (eq_times t e ∷ eq_times c f ∷ []) (search reading_of) tt tt)

queue_inactive : (c q l x t n : ℚ) → 0ℚ ≤ℚ c → 0ℚ ≤ℚ l → 0ℚ ≤ℚ t → q ≡ 0ℚ → x ≡ 0ℚ → n ≤ℚ 0ℚ → QueueCase c l x q t n
queue_inactive c q l x t n h k j d e f =
    let p : 0ℚ ≤ℚ l *ℚ t = linear_le (l ∷ t ∷ []) (le_times k j ∷ []) (search reading_of) tt in
    stays f (linear_le (c ∷ q ∷ l ∷ x ∷ t ∷ []) (eq d ∷ eq_times t e ∷ le_times h p ∷ []) (search reading_of) tt)

-- a link with slack 0: with flow
tight_used : (c s l m x t n : ℚ) → 0ℚ ≤ℚ c → 0ℚ ≤ℚ t → s ≡ 0ℚ → n ≡ s +ℚ (m -ℚ l) *ℚ t → l ≤ℚ m → x ≤ℚ c *ℚ m → (m ≤ℚ l) ⊎ (c *ℚ m ≤ℚ x) → QueueCase c l x (c *ℚ s) t n
tight_used c s l m x t n h j d e u v w = ⊎_elim
    (λ (k : m ≤ℚ l). stays (linear_le (s ∷ l ∷ m ∷ t ∷ n ∷ []) (eq d ∷ eq e ∷ le_times j k ∷ []) (search reading_of) tt)
    (full (≤ℚ_antisymm _ _ k u)))
    (λ (k : c *ℚ m ≤ℚ x). runs (linear_le (s ∷ l ∷ m ∷ t ∷ n ∷ []) (eq d ∷ eq e ∷ le_times j u ∷ []) (search reading_of) tt)
    (same (≤ℚ_antisymm _ _ v k)))
    w
  where
    full : m ≡ l → c *ℚ s +ℚ (x -ℚ c *ℚ l) *ℚ t ≤ℚ 0ℚ
    full g = let z : x ≤ℚ c *ℚ l = subst (λ (k : ℚ). x ≤ℚ c *ℚ k) g v in
        linear_le (c ∷ s ∷ l ∷ x ∷ t ∷ []) (eq_times c d ∷ le_times j z ∷ []) (search reading_of) tt

    same : x ≡ c *ℚ m → c *ℚ n ≡ c *ℚ s +ℚ (x -ℚ c *ℚ l) *ℚ t
    same g = linear_eq (c ∷ s ∷ l ∷ m ∷ x ∷ t ∷ n ∷ []) (eq_times t g ∷ eq_times c e ∷ []) (search reading_of) tt tt

-- A link with slack 0, without flow.
tight_unused : (c s l m x t n : ℚ) → 0ℚ <ℚ c → 0ℚ ≤ℚ l → 0ℚ ≤ℚ t → s ≡ 0ℚ → n ≡ s +ℚ (m -ℚ l) *ℚ t → x ≡ 0ℚ → (m ≤ℚ l) ⊎ (c *ℚ m ≤ℚ x) → QueueCase c l x (c *ℚ s) t n
tight_unused c s l m x t n h i j d e f w =
    queue_inactive c (c *ℚ s) l x t n (≤ℚ_of_lt _ _ h) i j (linear_eq (c ∷ s ∷ []) (eq_times c d ∷ []) (search reading_of) tt tt) f
    (linear_le (s ∷ l ∷ m ∷ t ∷ n ∷ []) (eq d ∷ eq e ∷ le_times j low ∷ []) (search reading_of) tt)
  where
    low : m ≤ℚ l
    low = ⊎_elim (λ (k : m ≤ℚ l). k)
        (λ (k : c *ℚ m ≤ℚ x). ≤ℚ_trans _ _ _ (le_from_times c m 0ℚ h (linear_le (c ∷ m ∷ x ∷ []) (le k ∷ eq f ∷ []) (search reading_of) tt)) i) w

queue_tight : (c s l m x t n : ℚ) → 0ℚ <ℚ c → 0ℚ ≤ℚ l → 0ℚ ≤ℚ t → 0ℚ ≤ℚ x → s ≡ 0ℚ → n ≡ s +ℚ (m -ℚ l) *ℚ t → LinkLaw (Some c) s x l m → QueueCase c l x (c *ℚ s) t n
queue_tight c s l m x t n h i j k d e p = ⊎_elim
    (λ (g : 0ℚ <ℚ x). let u : (l ≤ℚ m) × (x ≤ℚ c *ℚ m) = p.used c refl (≤ℚ_of_same _ _ d) g in
    tight_used c s l m x t n (≤ℚ_of_lt _ _ h) j d e u.0 u.1 (p.upper c refl (≤ℚ_of_same _ _ d)))
    (λ (g : x ≤ℚ 0ℚ). tight_unused c s l m x t n h i j d e (≤ℚ_antisymm _ _ g k) (p.upper c refl (≤ℚ_of_same _ _ d)))
    (lt_or_le_ℚ 0ℚ x)

-- Facts on a link over a phase.
pub record LinkStep (capacity : Option ℚ) (s n x l m t : ℚ) : Type 0 where
  pub positive : IsPositive capacity
  pub slope_nn : 0ℚ ≤ℚ l
  pub time_nn : 0ℚ ≤ℚ t
  pub flow_nn : 0ℚ ≤ℚ x
  pub moves : n ≡ s +ℚ (m -ℚ l) *ℚ t
  pub inactive : s <ℚ 0ℚ → x ≡ 0ℚ
  pub law : 0ℚ ≤ℚ s → LinkLaw capacity s x l m
  pub below : s <ℚ 0ℚ → n ≤ℚ 0ℚ
  pub above : 0ℚ <ℚ s → 0ℚ ≤ℚ n

queue_case : (c s n x l m t : ℚ) → LinkStep (Some c) s n x l m t → QueueCase c l x (c *ℚ max_ℚ 0ℚ s) t n
queue_case c s n x l m t k = ⊎_elim
    (λ (h : 0ℚ <ℚ s). subst (λ (y : ℚ). QueueCase c l x (c *ℚ y) t n) (sym (max0_of s (≤ℚ_of_lt _ _ h)))
    (queue_resetting c s l m x t n ((k.law (≤ℚ_of_lt _ _ h)).full c refl h) k.moves (k.above h)))
    (λ (h : s ≤ℚ 0ℚ). ⊎_elim
    (λ (i : s <ℚ 0ℚ). queue_inactive c _ l x t n (≤ℚ_of_lt _ _ (k.positive c refl)) k.slope_nn k.time_nn (times_second_zero c _ (max0_none s h)) (k.inactive i) (k.below i))
    (λ (i : 0ℚ ≤ℚ s). subst (λ (y : ℚ). QueueCase c l x (c *ℚ y) t n) (sym (max0_of s i))
    (queue_tight c s l m x t n (k.positive c refl) k.slope_nn k.time_nn k.flow_nn (≤ℚ_antisymm _ _ h i) k.moves (k.law i)))
    (lt_or_le_ℚ s 0ℚ))
    (lt_or_le_ℚ 0ℚ s)

by_case : (c : ℚ) (f : ℚ → ℚ) (a end r l x t q n : ℚ) → 0ℚ <ℚ c → r *ℚ l ≡ x → IsAffine f a end r → a ≤ℚ a +ℚ l *ℚ t → a +ℚ l *ℚ t ≤ℚ end
    → IsQueue (Some c) f a q → QueueCase c l x q t n → IsQueue (Some c) f (a +ℚ l *ℚ t) (c *ℚ max_ℚ 0ℚ n)
by_case c f a end r l x t q n pos e line h k before (runs i d) = subst (λ (y : ℚ). IsQueue (Some c) f (a +ℚ l *ℚ t) (c *ℚ y)) (sym (max0_of n i))
    (IsQueue-step c f a end r q line before (a +ℚ l *ℚ t) (c *ℚ n) h k (queue_goal r c l x q t _ e d a) (times_nn c n pos i))
  where
    times_nn : (c n : ℚ) → 0ℚ <ℚ c → 0ℚ ≤ℚ n → 0ℚ ≤ℚ c *ℚ n
    times_nn c n h k = let low : 0ℚ ≤ℚ c = ≤ℚ_of_lt _ _ h in linear_le (c ∷ n ∷ []) (le_times low k ∷ []) (search reading_of) tt
by_case c f a end r l x t q n pos e line h k before (stays i d) = subst (λ (y : ℚ). IsQueue (Some c) f (a +ℚ l *ℚ t) y) (times_none c _ (max0_none n i))
    (IsQueue-step_empty c f a end r q line before (a +ℚ l *ℚ t) h k (queue_goal_le r c l x q t e d a))
  where
    times_none : (c m : ℚ) → m ≡ 0ℚ → 0ℚ ≡ c *ℚ m
    times_none c m e = linear_eq (c ∷ m ∷ []) (eq_times c e ∷ []) (search reading_of) tt tt

-- ---- the queue that a particle meets stays that of the slack
pub IsQueue-by_slack : (capacity : Option ℚ) (f : ℚ → ℚ) (a end r s n x l m t : ℚ) → LinkStep capacity s n x l m t → r *ℚ l ≡ x → IsAffine f a end r
    → a ≤ℚ a +ℚ l *ℚ t → a +ℚ l *ℚ t ≤ℚ end
    → IsQueue capacity f a (queue_by_slack capacity s) → IsQueue capacity f (a +ℚ l *ℚ t) (queue_by_slack capacity n)
IsQueue-by_slack None f a end r s n x l m t k e line h j before = IsQueue-none f (a +ℚ l *ℚ t)
IsQueue-by_slack (Some c) f a end r s n x l m t k e line h j before = by_case c f a end r l x t _ n (k.positive c refl) e line h j before (queue_case c s n x l m t k)

-- ---- where the slack falls below 0, the link was not resetting and has no flow
used_slope : (capacity : Option ℚ) (s x l m : ℚ) → LinkLaw capacity s x l m → s ≤ℚ 0ℚ → 0ℚ <ℚ x → l ≤ℚ m
used_slope None s x l m p h k = p.free_used refl k
used_slope (Some c) s x l m p h k = (p.used c refl h k).0

shrinks : (s n m l t : ℚ) → n ≡ s +ℚ (m -ℚ l) *ℚ t → n <ℚ 0ℚ → 0ℚ ≤ℚ s → 0ℚ ≤ℚ t → l ≤ℚ m → ⊥
shrinks s n m l t e h k j i = linear_false (s ∷ n ∷ m ∷ l ∷ t ∷ []) (eq e ∷ lt h ∷ le k ∷ le_times j i ∷ []) (search reading_of) tt

pub unused_below : (capacity : Option ℚ) (s n x l m t : ℚ) → LinkStep capacity s n x l m t → n <ℚ 0ℚ → (s ≤ℚ 0ℚ) × (x ≡ 0ℚ)
unused_below capacity s n x l m t k h = ⊎_elim
    (λ (i : 0ℚ <ℚ s). absurd (not_both_ℚ _ _ h (k.above i)))
    (λ (i : s ≤ℚ 0ℚ). (
      i,
      ⊎_elim
          (λ (j : s <ℚ 0ℚ). k.inactive j)
          (λ (j : 0ℚ ≤ℚ s). ⊎_elim
          (λ (f : 0ℚ <ℚ x). absurd (shrinks s n m l t k.moves h j k.time_nn (used_slope capacity s x l m (k.law j) i f)))
          (λ (f : x ≤ℚ 0ℚ). ≤ℚ_antisymm _ _ f k.flow_nn)
          (lt_or_le_ℚ 0ℚ x))
          (lt_or_le_ℚ s 0ℚ),
    ))
    (lt_or_le_ℚ 0ℚ s)

-- ---- on an unbounded link the slack stays at most 0
pub unbounded_below : (s n x l m t : ℚ) → LinkStep None s n x l m t → s ≤ℚ 0ℚ → n ≤ℚ 0ℚ
unbounded_below s n x l m t k h = ⊎_elim
    (λ (i : s <ℚ 0ℚ). k.below i)
    (λ (i : 0ℚ ≤ℚ s). level s n m l t k.moves h k.time_nn ((k.law i).free refl))
    (lt_or_le_ℚ s 0ℚ)
  where
    level : (s n m l t : ℚ) → n ≡ s +ℚ (m -ℚ l) *ℚ t → s ≤ℚ 0ℚ → 0ℚ ≤ℚ t → m ≤ℚ l → n ≤ℚ 0ℚ
    level s n m l t e h k j = linear_le (s ∷ n ∷ m ∷ l ∷ t ∷ []) (eq e ∷ le h ∷ le_times k j ∷ []) (search reading_of) tt
