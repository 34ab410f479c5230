-- Slacks as waiting times, and queues where nothing enters.
use Rattle.std.proofs.Common.{◌≡◌, [], ◌∷◌, ⊎_elim, Option, Some, None, sym, refl, ◌∙◌}
use Rattle.nf_phase_laws.proofs.Common.{ℚ, 0ℚ, ◌+ℚ◌, ◌-ℚ◌, ◌*ℚ◌, ◌/ℚ◌, ◌≤ℚ◌, ◌<ℚ◌, max_ℚ, reading_of, ≤ℚ_of_lt, max_ℚ_cases, max0_none, eq, le_times}
use Rattle.nf_phase_laws.proofs.Common.{linear_le, linear_eq, IsQueue, waiting, IsPositive, quotient-times, same_from_times, IsQueue-none}
use Rattle.nf_phase_laws.proofs.Common.{IsQueue-step_empty, IsQueue-at_0, queue_by_slack, ≤ℚ_refl, times_second_zero}

-- ---- the greater of 0 and a number
pub max0_cases : {P : Type 0} (s m : ℚ) → m ≡ max_ℚ 0ℚ s → (m ≡ s → 0ℚ ≤ℚ s → P) → (m ≡ 0ℚ → s <ℚ 0ℚ → P) → P
max0_cases s m e f g = ⊎_elim
    (λ (w : (max_ℚ 0ℚ s ≡ s) × (0ℚ ≤ℚ s)). f (e ∙ w.0) w.1)
    (λ (w : (max_ℚ 0ℚ s ≡ 0ℚ) × (s <ℚ 0ℚ)). g (e ∙ w.0) w.1) (max_ℚ_cases 0ℚ s)

-- ---- a particle that meets the queue of a slack waits for the slack
times-quotient : (c m : ℚ) → 0ℚ <ℚ c → c *ℚ m /ℚ c ≡ m
times-quotient c m h = same_from_times c _ m h (turn (c *ℚ m /ℚ c) c (c *ℚ m) (quotient-times (c *ℚ m) c h))
  where
    turn : (q c p : ℚ) → q *ℚ c ≡ p → c *ℚ q ≡ p
    turn q c p e = linear_eq (q ∷ c ∷ p ∷ []) (eq e ∷ []) (search reading_of) tt tt

pub waiting-by_slack : (capacity : Option ℚ) (s : ℚ) → IsPositive capacity → (capacity ≡ None → s ≤ℚ 0ℚ) → waiting capacity (queue_by_slack capacity s) ≡ max_ℚ 0ℚ s
waiting-by_slack None s c h = sym (max0_none s (h refl))
waiting-by_slack (Some rate) s c h = times-quotient rate (max_ℚ 0ℚ s) (c rate refl)

pub queue_by_slack-low : (capacity : Option ℚ) (s : ℚ) → s ≤ℚ 0ℚ → queue_by_slack capacity s ≡ 0ℚ
queue_by_slack-low None s h = refl
queue_by_slack-low (Some rate) s h = times_second_zero rate _ (max0_none s h)

-- ---- where nothing enters, an empty queue stays empty
empties : (c z a : ℚ) → 0ℚ ≤ℚ c → a ≤ℚ z → 0ℚ +ℚ (0ℚ -ℚ c) *ℚ (z -ℚ a) ≤ℚ 0ℚ
empties c z a h k = linear_le (c ∷ z ∷ a ∷ []) (le_times h k ∷ []) (search reading_of) tt

level : (y z a t : ℚ) → y ≡ z → y ≡ z +ℚ 0ℚ *ℚ (t -ℚ a)
level y z a t e = linear_eq (y ∷ z ∷ a ∷ t ∷ []) (eq e ∷ []) (search reading_of) tt tt

pub IsQueue-stays_empty : (capacity : Option ℚ) (amount : ℚ → ℚ) (start time : ℚ) → IsPositive capacity → start ≤ℚ time
    → ((t : ℚ) → start ≤ℚ t → t ≤ℚ time → amount t ≡ amount start) → IsQueue capacity amount start 0ℚ → IsQueue capacity amount time 0ℚ
IsQueue-stays_empty None amount start time c h same q = IsQueue-none amount time
IsQueue-stays_empty (Some rate) amount start time c h same q =
    IsQueue-step_empty rate amount start time 0ℚ 0ℚ (record { line = λ t i j. level _ _ start t (same t i j) }) q time h (≤ℚ_refl time)
    (empties rate time start (≤ℚ_of_lt _ _ (c rate refl)) h)

-- If nothing has entered so far, nothing waits.
pub IsQueue-before_any : (capacity : Option ℚ) (amount : ℚ → ℚ) (time : ℚ) → IsPositive capacity → 0ℚ ≤ℚ time
    → ((t : ℚ) → 0ℚ ≤ℚ t → t ≤ℚ time → amount t ≡ amount 0ℚ) → IsQueue capacity amount time 0ℚ
IsQueue-before_any capacity amount time c h same = IsQueue-stays_empty capacity amount 0ℚ time c h same (IsQueue-at_0 capacity amount)
