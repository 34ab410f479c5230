-- One step of a queue: while the inflow is affine. `rate` is its slope, `capacity` the rate at which the queue is served.
use Rattle.std.proofs.Common.{◌≡◌, [], ◌∷◌, ⊎_elim, Option, Some, None, sym, subst, refl, ◌∙◌}
use Rattle.nf_model_laws.proofs.Common.{ℚ, ◌+ℚ◌, ◌-ℚ◌, ◌*ℚ◌, 0ℚ, ◌≤ℚ◌, ◌<ℚ◌, max_ℚ, reading_of, ≤ℚ_of_lt, ≤ℚ_of_same, ≤ℚ_antisymm, lt_or_le_ℚ, max_ℚ_cases, le}
use Rattle.nf_model_laws.proofs.Common.{eq, le_times, linear_le, linear_eq, Within, IsGreatest, IsQueue, IsAffine, queue_after, ≤ℚ_refl, ≤ℚ_trans}
use Rattle.nf_model_laws.proofs.Queues.{IsQueue-nn, IsGreatest-order, IsQueue-none, IsQueue-some}

-- what each earlier time gives, over plain numbers: a is the amount at the start, b at the earlier time u, d at x
from_before : (r c s x u q z a b d : ℚ) → d ≡ a +ℚ r *ℚ (x -ℚ s) → a -ℚ b -ℚ c *ℚ (s -ℚ u) ≤ℚ q → q +ℚ (r -ℚ c) *ℚ (x -ℚ s) ≤ℚ z → d -ℚ b -ℚ c *ℚ (x -ℚ u) ≤ℚ z
from_before r c s x u q z a b d e h k = linear_le (r ∷ c ∷ s ∷ x ∷ u ∷ q ∷ z ∷ a ∷ b ∷ d ∷ []) (eq e ∷ le h ∷ le k ∷ []) (search reading_of) tt

slower : (r c s x u z a b d : ℚ) → d ≡ a +ℚ r *ℚ (x -ℚ s) → b ≡ a +ℚ r *ℚ (u -ℚ s) → r ≤ℚ c → u ≤ℚ x → 0ℚ ≤ℚ z → d -ℚ b -ℚ c *ℚ (x -ℚ u) ≤ℚ z
slower r c s x u z a b d e f h k n =
    let run : 0ℚ ≤ℚ x -ℚ u = linear_le (x ∷ u ∷ []) (le k ∷ []) (search reading_of) tt in
    linear_le (r ∷ c ∷ s ∷ x ∷ u ∷ z ∷ a ∷ b ∷ d ∷ []) (eq e ∷ eq f ∷ le n ∷ le_times run h ∷ []) (search reading_of) tt

faster : (r c s x u q z a b d : ℚ) → d ≡ a +ℚ r *ℚ (x -ℚ s) → b ≡ a +ℚ r *ℚ (u -ℚ s) → c ≤ℚ r → s ≤ℚ u → 0ℚ ≤ℚ q → q +ℚ (r -ℚ c) *ℚ (x -ℚ s) ≤ℚ z → d -ℚ b -ℚ c *ℚ (x -ℚ u) ≤ℚ z
faster r c s x u q z a b d e f h k n m =
    let over : 0ℚ ≤ℚ r -ℚ c = linear_le (r ∷ c ∷ []) (le h ∷ []) (search reading_of) tt in
    linear_le (r ∷ c ∷ s ∷ x ∷ u ∷ q ∷ z ∷ a ∷ b ∷ d ∷ []) (eq e ∷ eq f ∷ le n ∷ le m ∷ le_times over k ∷ []) (search reading_of) tt

taken_before : (r c s x u q a b d : ℚ) → d ≡ a +ℚ r *ℚ (x -ℚ s) → a -ℚ b -ℚ c *ℚ (s -ℚ u) ≡ q → d -ℚ b -ℚ c *ℚ (x -ℚ u) ≡ q +ℚ (r -ℚ c) *ℚ (x -ℚ s)
taken_before r c s x u q a b d e f = linear_eq (r ∷ c ∷ s ∷ x ∷ u ∷ q ∷ a ∷ b ∷ d ∷ []) (eq e ∷ eq f ∷ []) (search reading_of) tt tt

taken_now : (c x d : ℚ) → d -ℚ d -ℚ c *ℚ (x -ℚ x) ≡ 0ℚ
taken_now c x d = linear_eq (c ∷ x ∷ d ∷ []) [] (search reading_of) tt tt

-- what each time up to now gives
abbrev ahead : ℚ → (ℚ → ℚ) → ℚ → ℚ → ℚ
ahead capacity amount time since = amount time -ℚ amount since -ℚ capacity *ℚ (time -ℚ since)

module _ (capacity : ℚ) (amount : ℚ → ℚ) (start end rate queue : ℚ) (line : IsAffine amount start end rate) (before : IsQueue (Some capacity) amount start queue) where
  was : IsGreatest (ahead capacity amount start) 0ℚ start queue
  was = before.bounded capacity refl

  bound_step : (time y : ℚ) → start ≤ℚ time → time ≤ℚ end → 0ℚ ≤ℚ y → queue +ℚ (rate -ℚ capacity) *ℚ (time -ℚ start) ≤ℚ y
      → (since : ℚ) → Within 0ℚ time since → ahead capacity amount time since ≤ℚ y
  bound_step time y h k n m since w = ⊎_elim
      (λ (l : since <ℚ start). from_before rate capacity start time since queue y _ _ _ (line.line time h k) (was.bound since (w.0, ≤ℚ_of_lt _ _ l)) m)
      (λ (l : start ≤ℚ since). ⊎_elim
      (λ (f : rate <ℚ capacity). slower rate capacity start time since y _ _ _ (line.line time h k) (line.line since l (≤ℚ_trans _ _ _ w.1 k)) (≤ℚ_of_lt _ _ f) w.1 n)
      (λ (f : capacity ≤ℚ rate). faster rate capacity start time since queue y _ _ _ (line.line time h k) (line.line since l (≤ℚ_trans _ _ _ w.1 k)) f l
      (IsQueue-nn (Some capacity) amount start queue before) m)
      (lt_or_le_ℚ rate capacity))
      (lt_or_le_ℚ since start)

  -- the queue goes by rate - capacity as long as that is not below 0
  pub IsQueue-step : (time y : ℚ) → start ≤ℚ time → time ≤ℚ end → y ≡ queue +ℚ (rate -ℚ capacity) *ℚ (time -ℚ start) → 0ℚ ≤ℚ y → IsQueue (Some capacity) amount time y
  IsQueue-step time y h k e n = IsQueue-some capacity amount time y (record {
    taken = (was.taken.0, (was.taken.1.0, ≤ℚ_trans _ _ _ was.taken.1.1 h), taken_before rate capacity start time was.taken.0 queue _ _ _ (line.line time h k) was.taken.2 ∙ sym e);
    bound = bound_step time y h k n (≤ℚ_of_same _ _ (sym e));
  })

  -- and is 0 where that would be below 0
  pub IsQueue-step_empty : (time : ℚ) → start ≤ℚ time → time ≤ℚ end → queue +ℚ (rate -ℚ capacity) *ℚ (time -ℚ start) ≤ℚ 0ℚ → IsQueue (Some capacity) amount time 0ℚ
  IsQueue-step_empty time h k e = IsQueue-some capacity amount time 0ℚ (record {
    taken = (time, (≤ℚ_trans _ _ _ (IsGreatest-order _ _ _ _ was) h, ≤ℚ_refl time), taken_now capacity time (amount time));
    bound = bound_step time 0ℚ h k (≤ℚ_refl 0ℚ) e;
  })

  -- both in one
  pub IsQueue-step_max : (time : ℚ) → start ≤ℚ time → time ≤ℚ end → IsQueue (Some capacity) amount time (max_ℚ 0ℚ (queue +ℚ (rate -ℚ capacity) *ℚ (time -ℚ start)))
  IsQueue-step_max time h k =
      let y : ℚ = queue +ℚ (rate -ℚ capacity) *ℚ (time -ℚ start) in
      ⊎_elim
      (λ (w : (max_ℚ 0ℚ y ≡ y) × (0ℚ ≤ℚ y)). subst (λ (z : ℚ). IsQueue (Some capacity) amount time z) (sym w.0) (IsQueue-step time y h k refl w.1))
      (λ (w : (max_ℚ 0ℚ y ≡ 0ℚ) × (y <ℚ 0ℚ)). subst (λ (z : ℚ). IsQueue (Some capacity) amount time z) (sym w.0) (IsQueue-step_empty time h k (≤ℚ_of_lt _ _ w.1)))
      (max_ℚ_cases 0ℚ y)

-- ---- for any capacity
pub IsQueue-after : (capacity : Option ℚ) (amount : ℚ → ℚ) (start end rate queue time : ℚ) → IsAffine amount start end rate → IsQueue capacity amount start queue
    → start ≤ℚ time → time ≤ℚ end → IsQueue capacity amount time (queue_after capacity rate queue (time -ℚ start))
IsQueue-after None amount start end rate queue time line before h k = IsQueue-none amount time
IsQueue-after (Some capacity) amount start end rate queue time line before h k = IsQueue-step_max capacity amount start end rate queue line before time h k

-- ---- at the beginning

-- at time 0 nothing waits
pub IsQueue-at_0 : (capacity : Option ℚ) (amount : ℚ → ℚ) → IsQueue capacity amount 0ℚ 0ℚ
IsQueue-at_0 None amount = IsQueue-none amount 0ℚ
IsQueue-at_0 (Some capacity) amount = IsQueue-some capacity amount 0ℚ 0ℚ (record {
  taken = (0ℚ, (≤ℚ_refl 0ℚ, ≤ℚ_refl 0ℚ), taken_now capacity 0ℚ (amount 0ℚ));
  bound = λ t w. ≤ℚ_of_same _ _ (subst (λ (s : ℚ). ahead capacity amount 0ℚ s ≡ 0ℚ) (≤ℚ_antisymm 0ℚ t w.0 w.1) (taken_now capacity 0ℚ (amount 0ℚ)));
})
