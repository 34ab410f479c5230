-- First in, first out: what has left a link by an exit is what had entered it by the time of entry.
use Rattle.std.proofs.Common.{◌≡◌, [], ◌∷◌, ⊎_elim, Option, Some, None, ap, subst, refl, ◌∙◌}
use Rattle.nf_model_laws.proofs.Common.{ℚ, 0ℚ, ◌+ℚ◌, ◌-ℚ◌, ◌*ℚ◌, ◌/ℚ◌, ◌≤ℚ◌, ◌<ℚ◌, reading_of, ≤ℚ_of_lt, lt_or_le_ℚ, /ℚ_is, le, eq, le_times, eq_times}
use Rattle.nf_model_laws.proofs.Common.{linear_le, linear_eq, IsGreatest, NeverFalls, IsQueue, IsExit, IsOutflow, waiting, IsPositive, ≤ℚ_trans, less_zero}
use Rattle.nf_rational_laws.proofs.Field.{zero-*ℚ}
use Rattle.nf_model_laws.proofs.Affine.{nn-quotient, quotient-times}
use Rattle.nf_model_laws.proofs.Queues.{IsQueue-some, IsQueue-nn, IsGreatest-order, IsQueue-unique, IsOutflow-from_IsQueue}
use Rattle.nf_model_laws.proofs.Step.{IsQueue-at_0}

-- ---- when what entered at a time leaves the queue, the queue is just what has entered since
-- over plain numbers: a entered by x, b by the time t, d by z, which is x and the wait w
still_taken : (a b c d t w x z q : ℚ) → z ≡ x +ℚ w → w *ℚ c ≡ q → a -ℚ b -ℚ c *ℚ (x -ℚ t) ≡ q → d -ℚ b -ℚ c *ℚ (z -ℚ t) ≡ d -ℚ a
still_taken a b c d t w x z q e f g = linear_eq (a ∷ b ∷ c ∷ d ∷ t ∷ w ∷ x ∷ z ∷ q ∷ []) (eq_times c e ∷ eq f ∷ eq g ∷ []) (search reading_of) tt tt

before_entry : (a b c d t w x z q : ℚ) → z ≡ x +ℚ w → w *ℚ c ≡ q → a -ℚ b -ℚ c *ℚ (x -ℚ t) ≤ℚ q → d -ℚ b -ℚ c *ℚ (z -ℚ t) ≤ℚ d -ℚ a
before_entry a b c d t w x z q e f g = linear_le (a ∷ b ∷ c ∷ d ∷ t ∷ w ∷ x ∷ z ∷ q ∷ []) (eq_times c e ∷ eq f ∷ le g ∷ []) (search reading_of) tt

after_entry : (a b c d t z : ℚ) → a ≤ℚ b → 0ℚ <ℚ c → t ≤ℚ z → d -ℚ b -ℚ c *ℚ (z -ℚ t) ≤ℚ d -ℚ a
after_entry a b c d t z h k l = linear_le (a ∷ b ∷ c ∷ d ∷ t ∷ z ∷ []) (le h ∷ le_times (≤ℚ_of_lt _ _ k) l ∷ []) (search reading_of) tt

later_on : (x w z : ℚ) → z ≡ x +ℚ w → 0ℚ ≤ℚ w → x ≤ℚ z
later_on x w z e h = linear_le (x ∷ w ∷ z ∷ []) (eq e ∷ le h ∷ []) (search reading_of) tt

pub IsQueue-served : (rate : ℚ) (amount : ℚ → ℚ) (time later queue : ℚ) → 0ℚ <ℚ rate → NeverFalls amount → IsQueue (Some rate) amount time queue → later ≡ time +ℚ queue /ℚ rate
    → IsQueue (Some rate) amount later (amount later -ℚ amount time)
IsQueue-served rate amount time later queue c rises p e = IsQueue-some rate amount later _ (record {
  taken = (g.taken.0, (g.taken.1.0, ≤ℚ_trans _ _ _ g.taken.1.1 after), still_taken _ _ rate _ g.taken.0 _ time later queue e served g.taken.2);
  bound = λ since w. ⊎_elim
      (λ (l : since <ℚ time). before_entry _ _ rate _ since _ time later queue e served (g.bound since (w.0, ≤ℚ_of_lt _ _ l)))
      (λ (l : time ≤ℚ since). after_entry _ _ rate _ since later (rises time since (IsGreatest-order _ _ _ _ g) l) c w.1)
      (lt_or_le_ℚ since time);
})
  where
    g : IsGreatest (λ since. amount time -ℚ amount since -ℚ rate *ℚ (time -ℚ since)) 0ℚ time queue
    g = p.bounded rate refl

    served : queue /ℚ rate *ℚ rate ≡ queue
    served = quotient-times queue rate c

    after : time ≤ℚ later
    after = later_on time (queue /ℚ rate) later e (nn-quotient queue rate (IsQueue-nn (Some rate) amount time queue p) c)

-- ---- what has left by an exit
all_but : (a d : ℚ) → d -ℚ (d -ℚ a) ≡ a
all_but a d = linear_eq (a ∷ d ∷ []) [] (search reading_of) tt tt

no_wait : (t r x : ℚ) → x ≡ t +ℚ r +ℚ 0ℚ → x ≡ t +ℚ r
no_wait t r x e = linear_eq (t ∷ r ∷ x ∷ []) (eq e ∷ []) (search reading_of) tt tt

wait_first : (t r w x : ℚ) → x ≡ t +ℚ r +ℚ w → x ≡ (t +ℚ w) +ℚ r
wait_first t r w x e = linear_eq (t ∷ r ∷ w ∷ x ∷ []) (eq e ∷ []) (search reading_of) tt tt

pub IsOutflow-at_exit : (transit : ℚ) (capacity : Option ℚ) (amount : ℚ → ℚ) (time exit : ℚ) → IsPositive capacity → NeverFalls amount → 0ℚ ≤ℚ time
    → IsExit transit capacity amount time exit
    → IsOutflow transit capacity amount exit (amount time)
IsOutflow-at_exit transit None amount time exit c rises h p =
    subst (λ (y : ℚ). IsOutflow transit None amount exit y) (less_zero (amount time) p.queue (p.is_queue.unbounded refl))
    (IsOutflow-from_IsQueue transit None amount time exit p.queue (no_wait time transit exit p.is_sum) h p.is_queue)
IsOutflow-at_exit transit (Some rate) amount time exit c rises h p =
    subst (λ (y : ℚ). IsOutflow transit (Some rate) amount exit y) (all_but (amount time) (amount later))
    (IsOutflow-from_IsQueue transit (Some rate) amount later exit (amount later -ℚ amount time) (wait_first time transit (p.queue /ℚ rate) exit p.is_sum)
    (≤ℚ_trans _ _ _ h (later_on time (p.queue /ℚ rate) later refl (nn-quotient p.queue rate (IsQueue-nn (Some rate) amount time p.queue p.is_queue) (c rate refl))))
    (IsQueue-served rate amount time later p.queue (c rate refl) rises p.is_queue refl))
  where
    later : ℚ
    later = time +ℚ p.queue /ℚ rate

-- ---- before anything has entered
pub waiting-none : (capacity : Option ℚ) → waiting capacity 0ℚ ≡ 0ℚ
waiting-none None = refl
waiting-none (Some rate) = /ℚ_is 0ℚ rate ∙ zero-*ℚ _

none_first : (r w x : ℚ) → x ≡ 0ℚ +ℚ r +ℚ w → w ≡ 0ℚ → x ≡ r
none_first r w x e f = linear_eq (r ∷ w ∷ x ∷ []) (eq e ∷ eq f ∷ []) (search reading_of) tt tt

-- the first to enter, at time 0, leaves after the transit time
pub IsExit-at_0 : (transit : ℚ) (capacity : Option ℚ) (amount : ℚ → ℚ) (exit : ℚ) → IsExit transit capacity amount 0ℚ exit → exit ≡ transit
IsExit-at_0 transit capacity amount exit p = none_first transit (waiting capacity p.queue) exit p.is_sum
    (ap (λ (q : ℚ). waiting capacity q) (IsQueue-unique capacity amount 0ℚ p.queue 0ℚ p.is_queue (IsQueue-at_0 capacity amount)) ∙ waiting-none capacity)
