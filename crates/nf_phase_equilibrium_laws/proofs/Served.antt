-- The amount that has left a link by a time. It never falls. It is at most the amount that had entered by a time with a later exit, and
-- less if something waited at that time.
use Rattle.std.proofs.Common.{◌≡◌, [], ◌∷◌, ⊎_elim, Option, Some, None, sym, subst, refl}
use Rattle.nf_phase_equilibrium_laws.proofs.Common.{ℚ, 0ℚ, ◌+ℚ◌, ◌-ℚ◌, ◌*ℚ◌, ◌/ℚ◌, ◌≤ℚ◌, ◌<ℚ◌, reading_of, ≤ℚ_of_lt, ≤ℚ_of_same, lt_or_le_ℚ, less_nn, le, lt}
use Rattle.nf_phase_equilibrium_laws.proofs.Common.{eq, le_times, eq_times, linear_le, linear_lt, IsGreatest, IsLeast, NeverFalls, IsQueue, IsExit, IsOutflow}
use Rattle.nf_phase_equilibrium_laws.proofs.Common.{ps-times_gap, quotient-times, ≤ℚ_refl, ≤ℚ_trans, less_le}
use Rattle.nf_model_laws.specs.Capacity.{IsPositive}
use Rattle.nf_model_laws.proofs.Exits.{IsOutflow-at_exit}

-- ---- over plain numbers: f entered by the time u, at least 0, and c the capacity
nn_later : (f c z r u y : ℚ) → 0ℚ ≤ℚ f → 0ℚ <ℚ c → u ≤ℚ z -ℚ r → f +ℚ c *ℚ (z -ℚ r -ℚ u) ≡ y → 0ℚ ≤ℚ y
nn_later f c z r u y h k w e = linear_le (f ∷ c ∷ z ∷ r ∷ u ∷ y ∷ []) (le h ∷ le_times (≤ℚ_of_lt _ _ k) w ∷ eq e ∷ []) (search reading_of) tt

later_more : (f c s t r u x y : ℚ) → 0ℚ <ℚ c → s ≤ℚ t → x ≤ℚ f +ℚ c *ℚ (s -ℚ r -ℚ u) → f +ℚ c *ℚ (t -ℚ r -ℚ u) ≡ y → x ≤ℚ y
later_more f c s t r u x y k h l e = linear_le (f ∷ c ∷ s ∷ t ∷ r ∷ u ∷ x ∷ y ∷ []) (le_times (≤ℚ_of_lt _ _ k) h ∷ le l ∷ eq e ∷ []) (search reading_of) tt

at_once : (f g c s t r u x y : ℚ) → 0ℚ <ℚ c → u ≤ℚ t -ℚ r → f ≤ℚ g → x ≤ℚ f +ℚ c *ℚ (s -ℚ r -ℚ (s -ℚ r)) → g +ℚ c *ℚ (t -ℚ r -ℚ u) ≡ y → x ≤ℚ y
at_once f g c s t r u x y k h m l e = linear_le (f ∷ g ∷ c ∷ s ∷ t ∷ r ∷ u ∷ x ∷ y ∷ []) (le m ∷ le_times (≤ℚ_of_lt _ _ k) h ∷ le l ∷ eq e ∷ []) (search reading_of) tt

at_entry : (f c s r x : ℚ) → x ≤ℚ f +ℚ c *ℚ (s -ℚ r -ℚ (s -ℚ r)) → x ≤ℚ f
at_entry f c s r x h = linear_le (f ∷ c ∷ s ∷ r ∷ x ∷ []) (le h ∷ []) (search reading_of) tt

module _ (transit : ℚ) (capacity : Option ℚ) (amount : ℚ → ℚ) (positive : IsPositive capacity) (rises : NeverFalls amount) (starts : amount 0ℚ ≡ 0ℚ) where
  pub amount-nn : (time : ℚ) → 0ℚ ≤ℚ time → 0ℚ ≤ℚ amount time
  amount-nn time h = subst (λ (x : ℚ). x ≤ℚ amount time) starts (rises 0ℚ time (≤ℚ_refl 0ℚ) h)

  pub outflow-nn : (time out : ℚ) → IsOutflow transit capacity amount time out → 0ℚ ≤ℚ out
  outflow-nn time out p = ⊎_elim
      (λ (l : time <ℚ transit). ≤ℚ_of_same _ _ (sym (p.early l)))
      (λ (l : transit ≤ℚ time). by capacity refl l)
      (lt_or_le_ℚ time transit)
    where
      by : (c : Option ℚ) → capacity ≡ c → transit ≤ℚ time → 0ℚ ≤ℚ out
      by None e l = subst (λ (x : ℚ). 0ℚ ≤ℚ x) (sym (p.unbounded l e)) (amount-nn _ (less_nn transit time l))
      by (Some rate) e l =
          let g : IsLeast (λ since. amount since +ℚ rate *ℚ (time -ℚ transit -ℚ since)) 0ℚ (time -ℚ transit) out = p.bounded rate l e in
          nn_later _ rate time transit g.taken.0 out (amount-nn g.taken.0 g.taken.1.0) (positive rate e) g.taken.1.1 g.taken.2

  -- At most what had entered one transit time before has left.
  pub outflow-entered : (time out : ℚ) → transit ≤ℚ time → IsOutflow transit capacity amount time out → out ≤ℚ amount (time -ℚ transit)
  outflow-entered time out l p = by capacity refl
    where
      by : (c : Option ℚ) → capacity ≡ c → out ≤ℚ amount (time -ℚ transit)
      by None e = ≤ℚ_of_same _ _ (p.unbounded l e)
      by (Some rate) e =
          let g : IsLeast (λ since. amount since +ℚ rate *ℚ (time -ℚ transit -ℚ since)) 0ℚ (time -ℚ transit) out = p.bounded rate l e in
          at_entry _ rate time transit out (g.bound (time -ℚ transit) (less_nn transit time l, ≤ℚ_refl _))

  pub outflow-rises : (earlier later x y : ℚ) → earlier ≤ℚ later → IsOutflow transit capacity amount earlier x → IsOutflow transit capacity amount later y → x ≤ℚ y
  outflow-rises earlier later x y h p q = ⊎_elim
      (λ (l : earlier <ℚ transit). subst (λ (z : ℚ). z ≤ℚ y) (sym (p.early l)) (outflow-nn later y q))
      (λ (l : transit ≤ℚ earlier). by capacity refl l)
      (lt_or_le_ℚ earlier transit)
    where
      by : (c : Option ℚ) → capacity ≡ c → transit ≤ℚ earlier → x ≤ℚ y
      by None e l = subst (λ (z : ℚ). x ≤ℚ z) (sym (q.unbounded (≤ℚ_trans _ _ _ l h) e))
          (subst (λ (z : ℚ). z ≤ℚ amount (later -ℚ transit)) (sym (p.unbounded l e)) (rises _ _ (less_nn transit earlier l) (less_le earlier later transit h)))
      by (Some rate) e l =
          let f : IsLeast (λ since. amount since +ℚ rate *ℚ (earlier -ℚ transit -ℚ since)) 0ℚ (earlier -ℚ transit) x = p.bounded rate l e in
          let g : IsLeast (λ since. amount since +ℚ rate *ℚ (later -ℚ transit -ℚ since)) 0ℚ (later -ℚ transit) y = q.bounded rate (≤ℚ_trans _ _ _ l h) e in
          ⊎_elim
          (λ (k : earlier -ℚ transit <ℚ g.taken.0). at_once (amount (earlier -ℚ transit)) (amount g.taken.0) rate earlier later transit g.taken.0 x y (positive rate e) g.taken.1.1
          (rises _ _ (less_nn transit earlier l) (≤ℚ_of_lt _ _ k)) (f.bound (earlier -ℚ transit) (less_nn transit earlier l, ≤ℚ_refl _)) g.taken.2)
          (λ (k : g.taken.0 ≤ℚ earlier -ℚ transit). later_more (amount g.taken.0) rate earlier later transit g.taken.0 x y (positive rate e) h
          (f.bound g.taken.0 (g.taken.1.0, k)) g.taken.2)
          (lt_or_le_ℚ (earlier -ℚ transit) g.taken.0)

  -- By a time that isn't later than the exit of an entry, at most the amount that had entered by then has left.
  pub outflow-by_exit : (entry exit time out : ℚ) → 0ℚ ≤ℚ entry → IsExit transit capacity amount entry exit → time ≤ℚ exit
      → IsOutflow transit capacity amount time out → out ≤ℚ amount entry
  outflow-by_exit entry exit time out h e l p = outflow-rises time exit out (amount entry) l p (IsOutflow-at_exit transit capacity amount entry exit positive rises h e)

  -- ---- less, if the exit is later and something waits at the entry: a entered by the entry, b by the time u of the
  -- queue's greatest value; q waits, w is the wait, c the capacity.
  not_yet : (a b c u n q w z r x o : ℚ) → a -ℚ b -ℚ c *ℚ (n -ℚ u) ≡ q → w *ℚ c ≡ q → x ≡ n +ℚ r +ℚ w → 0ℚ <ℚ c *ℚ (x -ℚ z) → o ≤ℚ b +ℚ c *ℚ (z -ℚ r -ℚ u) → o <ℚ a
  not_yet a b c u n q w z r x o e f g h l = linear_lt (a ∷ b ∷ c ∷ u ∷ n ∷ q ∷ w ∷ z ∷ r ∷ x ∷ o ∷ []) (eq e ∷ eq f ∷ eq_times c g ∷ lt h ∷ le l ∷ []) (search reading_of) tt

  before_that : (a b c u n q d o : ℚ) → a -ℚ b -ℚ c *ℚ (n -ℚ u) ≡ q → 0ℚ <ℚ q → 0ℚ <ℚ c → u ≤ℚ n → d ≤ℚ b → o ≤ℚ d → o <ℚ a
  before_that a b c u n q d o e h k l i j = linear_lt (a ∷ b ∷ c ∷ u ∷ n ∷ q ∷ d ∷ o ∷ []) (eq e ∷ lt h ∷ le_times (≤ℚ_of_lt _ _ k) l ∷ le i ∷ le j ∷ []) (search reading_of) tt

  pub outflow-waits : (rate entry queue exit time out : ℚ) → capacity ≡ Some rate → 0ℚ ≤ℚ entry → IsQueue capacity amount entry queue → 0ℚ <ℚ queue
      → exit ≡ entry +ℚ transit +ℚ queue /ℚ rate
      → time <ℚ exit → IsOutflow transit capacity amount time out → out <ℚ amount entry
  outflow-waits rate entry queue exit time out e h q some x l p =
      let g : IsGreatest (λ since. amount entry -ℚ amount since -ℚ rate *ℚ (entry -ℚ since)) 0ℚ entry queue = q.bounded rate e in
      let c : 0ℚ <ℚ rate = positive rate e in
      ⊎_elim
      (λ (k : time <ℚ transit). before_that (amount entry) (amount g.taken.0) rate g.taken.0 entry queue 0ℚ out g.taken.2 some c g.taken.1.1
      (amount-nn g.taken.0 g.taken.1.0) (≤ℚ_of_same _ _ (p.early k)))
      (λ (k : transit ≤ℚ time).
      let f : IsLeast (λ since. amount since +ℚ rate *ℚ (time -ℚ transit -ℚ since)) 0ℚ (time -ℚ transit) out = p.bounded rate k e in
      ⊎_elim
      (λ (j : time -ℚ transit <ℚ g.taken.0). before_that (amount entry) (amount g.taken.0) rate g.taken.0 entry queue (amount (time -ℚ transit)) out g.taken.2 some c g.taken.1.1
      (rises _ _ (less_nn transit time k) (≤ℚ_of_lt _ _ j)) (outflow-entered time out k p))
      (λ (j : g.taken.0 ≤ℚ time -ℚ transit). not_yet (amount entry) (amount g.taken.0) rate g.taken.0 entry queue
      (queue /ℚ rate) time transit exit out g.taken.2 (quotient-times queue rate c) x
      (ps-times_gap rate time exit c l) (f.bound g.taken.0 (g.taken.1.0, j)))
      (lt_or_le_ℚ (time -ℚ transit) g.taken.0))
      (lt_or_le_ℚ time transit)
