-- From one departure to the next, the distance of the sink's label from its line changes by at most what the store falls, times a constant.
-- So all its changes together are bounded.
use Rattle.std.proofs.Common.{◌≡◌, ℕ, List, [], ◌∷◌, ⊎_elim}
use Rattle.nf_settling_growth_laws.proofs.Common.{ℚ, 0ℚ, 1ℚ, ◌+ℚ◌, ◌-ℚ◌, ◌*ℚ◌, ◌≤ℚ◌, ◌<ℚ◌, max_ℚ, reading_of, ≤ℚ_of_lt, lt_or_le_ℚ, less_nn, nn_times, ≤ℚ_trans}
use Rattle.nf_settling_growth_laws.proofs.Common.{max_left, max_keeps, max0_of, max0_none, le, eq, le_times, eq_times, linear_le, linear_eq, nn_plus_one}
use Rattle.nf_settling_growth_laws.proofs.Common.{gap_np, times_le, number_at, Network, IsNetwork, Flow, label, Equilibrium, last_rate, IsLastSupply}
use Rattle.nf_settling_growth_laws.proofs.Common.{last_start, last_rate-not_negative, IsGraded, sway, AreInOrder, SwaysAtMost, BottleneckSteadies}
use Rattle.nf_settling_laws.proofs.Intervals.{IsInterval, over_intervals}
use Rattle.nf_settling_growth_laws.proofs.Reserve.{in_transit}
use Rattle.nf_settling_growth_laws.proofs.Growing.{IsGrowth-level}
use Rattle.nf_settling_graded_laws.proofs.Exists.{graded_flow-exists}
use Rattle.nf_settling_growth_laws.proofs.Decides.{near-is, last_start-least, first_nn, pace, pace_nn, most, stored, follows, stored_low, first_started, stored_high, growth_one, settles, steepest, steepest_nn, slope_le}

-- ---- over plain numbers
room_nn : (m v h : ℚ) → 0ℚ ≤ℚ m → 0ℚ -ℚ h ≤ℚ v → 0ℚ ≤ℚ m *ℚ (v +ℚ h)
room_nn m v h n k = linear_le (m ∷ v ∷ h ∷ []) (le_times n k ∷ []) (search reading_of) tt

one_more : (x s m v w h : ℚ) → x ≤ℚ m *ℚ (v -ℚ w) → s ≤ℚ m *ℚ (w +ℚ h) → x +ℚ s ≤ℚ m *ℚ (v +ℚ h)
one_more x s m v w h i k = linear_le (x ∷ s ∷ m ∷ v ∷ w ∷ h ∷ []) (le i ∷ le k ∷ []) (search reading_of) tt

at_first : (s m u v p h x y : ℚ) → s ≤ℚ m *ℚ (v +ℚ h) → x -ℚ y ≤ℚ m *ℚ (u -ℚ v) → y -ℚ x ≤ℚ m *ℚ (u -ℚ v) → u ≤ℚ p → 0ℚ ≤ℚ m → s ≤ℚ m *ℚ (p +ℚ h)
at_first s m u v p h x y i j k l n = linear_le (s ∷ m ∷ u ∷ v ∷ p ∷ h ∷ x ∷ y ∷ []) (le i ∷ le j ∷ le k ∷ le_times n l ∷ []) (search reading_of) tt

add_up : (x s a b : ℚ) → x ≤ℚ a -ℚ b → s ≤ℚ b → x +ℚ s ≤ℚ a
add_up x s a b h k = linear_le (x ∷ s ∷ a ∷ b ∷ []) (le h ∷ le k ∷ []) (search reading_of) tt

later_supply : (net : Network) (a b : ℚ) → a ≤ℚ b → IsLastSupply net a → IsLastSupply net b
later_supply net a b h started i piece p = ≤ℚ_trans _ _ _ (started i piece p) h

module _ (net : Network) (good : IsNetwork net) (flows levels : ℕ → ℚ) (graded : IsGraded net (last_rate net) flows levels) where
  abbrev off : Flow → ℚ → ℚ
  off flow t = label flow net.sink t -ℚ levels net.sink *ℚ t

  -- ---- a rate above 0
  module _ (more : 0ℚ <ℚ last_rate net) where
    abbrev held : ℚ
    held = in_transit net good (last_rate net) flows levels graded

    abbrev quick : ℚ
    quick = pace net good flows levels graded more

    module _ (flow : Flow) (is : Equilibrium net flow) where
      abbrev kept : ℚ → ℚ
      kept t = stored net good flows levels graded more flow is t

      step : (c t : ℚ) → 0ℚ ≤ℚ c → IsLastSupply net c → c ≤ℚ t → t ≤ℚ flow.reached
          → (off flow t -ℚ off flow c ≤ℚ quick *ℚ (kept c -ℚ kept t)) × (off flow c -ℚ off flow t ≤ℚ quick *ℚ (kept c -ℚ kept t))
      step c t n started h l = near-is (levels net.sink) quick c (label flow net.sink c) (kept c) t (label flow net.sink t) (kept t)
          (follows net good flows levels graded more flow is c n started t h l)

      sways : (later : List ℚ) (c : ℚ) → 0ℚ ≤ℚ c → c ≤ℚ flow.reached → IsLastSupply net c → AreInOrder flow c later
          → sway (off flow) c later ≤ℚ quick *ℚ (kept c +ℚ held)
      sways [] c n l started o = room_nn quick (kept c) held (pace_nn net good flows levels graded more)
          (stored_low net good flows levels graded more flow is c n l)
      sways (t ∷ later) c n l started o =
          let w : (off flow t -ℚ off flow c ≤ℚ quick *ℚ (kept c -ℚ kept t)) × (off flow c -ℚ off flow t ≤ℚ quick *ℚ (kept c -ℚ kept t)) = step c t n started
          o.0 o.1 in
          one_more _ _ quick (kept c) (kept t) held (max_keeps (λ z. z ≤ℚ quick *ℚ (kept c -ℚ kept t)) _ _ w.0 w.1)
          (sways later t (≤ℚ_trans _ _ _ n o.0) o.1 (later_supply net c t o.0 started) o.2)

      sways_all : (later : List ℚ) (c : ℚ) → 0ℚ ≤ℚ c → c ≤ℚ flow.reached → IsLastSupply net c → AreInOrder flow c later
          → sway (off flow) c later ≤ℚ quick *ℚ (most net good flows levels graded more +ℚ held)
      sways_all later c n l started o =
          let h : last_start net.pieces ≤ℚ c = last_start-least net.pieces c n started in
          let w : (off flow c -ℚ off flow (last_start net.pieces) ≤ℚ quick *ℚ (kept (last_start net.pieces) -ℚ kept c)) ×
          (off flow (last_start net.pieces) -ℚ off flow c ≤ℚ quick *ℚ (kept (last_start net.pieces) -ℚ kept c))
          = step (last_start net.pieces) c (first_nn net good flows levels graded) (first_started net good flows levels graded more flow is) h l in
          at_first _ quick (kept (last_start net.pieces)) (kept c) _ held (off flow c) (off flow (last_start net.pieces)) (sways later c n l started o) w.0 w.1
          (stored_high net good flows levels graded more flow is (≤ℚ_trans _ _ _ h l)) (pace_nn net good flows levels graded more)

    steadies-above : (bound : ℚ) × SwaysAtMost net (levels net.sink) bound
    steadies-above = (
      quick *ℚ (most net good flows levels graded more +ℚ held),
      λ flow first later is w started o.
          sways_all flow is later first w.0 w.1 started o,
    )

  -- ---- the rate 0: labels change at a bounded rate until the equilibrium is steady
  module _ (nothing : last_rate net ≤ℚ 0ℚ) where
    abbrev until : ℚ
    until = (settles net good flows levels graded nothing).0

    abbrev most_steep : ℚ
    most_steep = steepest net good flows levels graded nothing +ℚ 1ℚ

    steep_nn : 0ℚ ≤ℚ most_steep
    steep_nn = nn_plus_one _ (steepest_nn net good flows levels graded nothing)

    until_nn : 0ℚ ≤ℚ until
    until_nn = (settles net good flows levels graded nothing).1.not_negative

    module _ (flow : Flow) (is : Equilibrium net flow) where
      -- The change from c to t is at most m, up and down.
      abbrev Changes : ℚ → ℚ → ℚ → Type 0
      Changes c t m = (off flow t -ℚ off flow c ≤ℚ m) × (off flow c -ℚ off flow t ≤ℚ m)

      abbrev Slow : ℚ → ℚ → Type 0
      Slow c t = Changes c t (most_steep *ℚ (t -ℚ c))

      slow : (c : ℚ) → 0ℚ ≤ℚ c → IsLastSupply net c → (t : ℚ) → c ≤ℚ t → t ≤ℚ flow.reached → Slow c t
      slow c n started t h l = over_intervals net good flow is (Slow c) onward c n started t h l (same _ c most_steep, same _ c most_steep)
        where
          same : (x c m : ℚ) → x -ℚ x ≤ℚ m *ℚ (c -ℚ c)
          same x c m = linear_le (x ∷ c ∷ m ∷ []) [] (search reading_of) tt

          up : (x y z g b s a c d : ℚ) → c <ℚ d → y ≡ x +ℚ s *ℚ (d -ℚ c) → g ≡ 1ℚ → s ≤ℚ b → (x -ℚ g *ℚ c) -ℚ z ≤ℚ (b +ℚ 1ℚ) *ℚ (c -ℚ a)
              → (y -ℚ g *ℚ d) -ℚ z ≤ℚ (b +ℚ 1ℚ) *ℚ (d -ℚ a)
          up x y z g b s a c d o e f h k =
              let gap : 0ℚ ≤ℚ d -ℚ c = less_nn c d (≤ℚ_of_lt _ _ o) in
              linear_le (x ∷ y ∷ z ∷ g ∷ b ∷ s ∷ a ∷ c ∷ d ∷ []) (eq e ∷ eq_times c f ∷ eq_times d f ∷ le_times gap h ∷ le k ∷ le gap ∷ [])
              (search reading_of) tt

          down : (x y z g b s a c d : ℚ) → c <ℚ d → y ≡ x +ℚ s *ℚ (d -ℚ c) → g ≡ 1ℚ → 0ℚ ≤ℚ s → 0ℚ ≤ℚ b → z -ℚ (x -ℚ g *ℚ c) ≤ℚ (b +ℚ 1ℚ) *ℚ (c -ℚ a)
              → z -ℚ (y -ℚ g *ℚ d) ≤ℚ (b +ℚ 1ℚ) *ℚ (d -ℚ a)
          down x y z g b s a c d o e f h i k =
              let gap : 0ℚ ≤ℚ d -ℚ c = less_nn c d (≤ℚ_of_lt _ _ o) in
              linear_le (x ∷ y ∷ z ∷ g ∷ b ∷ s ∷ a ∷ c ∷ d ∷ []) (eq e ∷ eq_times c f ∷ eq_times d f ∷ le_times gap h ∷ le_times gap i ∷ le k ∷ le gap ∷ [])
              (search reading_of) tt

          onward : (a d : ℚ) → IsInterval net flow a d → Slow c a → Slow c d
          onward a d i w = (
            up (label flow net.sink a) (label flow net.sink d) (off flow c) (levels net.sink) (steepest net good flows levels graded nothing)
                (number_at i.slopes net.sink) c a d i.order (i.moved net.sink good.sink)
                (growth_one net good flows levels graded nothing) (slope_le net good flows levels graded nothing flow is a d i) w.0,
            down (label flow net.sink a) (label flow net.sink d) (off flow c) (levels net.sink) (steepest net good flows levels graded nothing)
                (number_at i.slopes net.sink) c a d i.order (i.moved net.sink good.sink)
                (growth_one net good flows levels graded nothing) (i.thin.no_negative_slope net.sink) (steepest_nn net good flows levels graded nothing) w.1,
          )

      -- From `until` on nothing changes.
      stands : (t : ℚ) → until ≤ℚ t → t ≤ℚ flow.reached → off flow t ≡ off flow until
      stands t h l = same (label flow net.sink t) (label flow net.sink until) t until (levels net.sink)
          (((settles net good flows levels graded nothing).1.steady flow is).labels net.sink t good.sink (h, l))
          (growth_one net good flows levels graded nothing)
        where
          same : (x y t s g : ℚ) → x ≡ y +ℚ (t -ℚ s) → g ≡ 1ℚ → x -ℚ g *ℚ t ≡ y -ℚ g *ℚ s
          same x y t s g e f = linear_eq (x ∷ y ∷ t ∷ s ∷ g ∷ []) (eq e ∷ eq_times t f ∷ eq_times s f ∷ []) (search reading_of) tt tt

      abbrev left : ℚ → ℚ
      left t = most_steep *ℚ max_ℚ 0ℚ (until -ℚ t)

      step_none : (c t : ℚ) → 0ℚ ≤ℚ c → IsLastSupply net c → c ≤ℚ t → t ≤ℚ flow.reached → Changes c t (left c -ℚ left t)
      step_none c t n started h l = ⊎_elim
          (λ (k : c <ℚ until). ⊎_elim
          (λ (m : t <ℚ until). let w : Slow c t = slow c n started t h l in (
            before _ _ _ (early c k) (early t m) w.0,
            before _ _ _ (early c k)
                (early t m) w.1,
          ))
          (λ (m : until ≤ℚ t).
          let w : Slow c until = slow c n started until (≤ℚ_of_lt _ _ k) (≤ℚ_trans _ _ _ m l) in (
            across (off flow t) (off flow until) (off flow c) _ _ (stands t m l) (early c k) (late t m) w.0,
            across_back (off flow t) (off flow until)
                (off flow c) _ _ (stands t m l) (early c k) (late t m) w.1,
          ))
          (lt_or_le_ℚ t until))
          (λ (k : until ≤ℚ c).
          let e : off flow c ≡ off flow until = stands c k (≤ℚ_trans _ _ _ h l) in
          let f : off flow t ≡ off flow until = stands t (≤ℚ_trans _ _ _ k h) l in (
            after (off flow t) (off flow c) (off flow until) _ _ f e (late c k) (late t (≤ℚ_trans _ _ _ k h)),
            after (off flow c) (off flow t)
                (off flow until) _ _ e f (late c k) (late t (≤ℚ_trans _ _ _ k h)),
          ))
          (lt_or_le_ℚ c until)
        where
          early : (t : ℚ) → t <ℚ until → max_ℚ 0ℚ (until -ℚ t) ≡ until -ℚ t
          early t k = max0_of _ (less_nn t until (≤ℚ_of_lt _ _ k))

          late : (t : ℚ) → until ≤ℚ t → max_ℚ 0ℚ (until -ℚ t) ≡ 0ℚ
          late t k = max0_none _ (gap_np until t k)

          before : (x a b : ℚ) → a ≡ until -ℚ c → b ≡ until -ℚ t → x ≤ℚ most_steep *ℚ (t -ℚ c) → x ≤ℚ most_steep *ℚ a -ℚ most_steep *ℚ b
          before x a b e f h = by most_steep until e f h
            where
              by : (m u : ℚ) → a ≡ u -ℚ c → b ≡ u -ℚ t → x ≤ℚ m *ℚ (t -ℚ c) → x ≤ℚ m *ℚ a -ℚ m *ℚ b
              by m u e f h = linear_le (x ∷ a ∷ b ∷ c ∷ t ∷ m ∷ u ∷ []) (eq_times m e ∷ eq_times m f ∷ le h ∷ []) (search reading_of) tt

          across : (x y z a b : ℚ) → x ≡ y → a ≡ until -ℚ c → b ≡ 0ℚ → y -ℚ z ≤ℚ most_steep *ℚ (until -ℚ c) → x -ℚ z ≤ℚ most_steep *ℚ a -ℚ most_steep *ℚ b
          across x y z a b e f g h = by most_steep until f h
            where
              by : (m u : ℚ) → a ≡ u -ℚ c → y -ℚ z ≤ℚ m *ℚ (u -ℚ c) → x -ℚ z ≤ℚ m *ℚ a -ℚ m *ℚ b
              by m u f h = linear_le (x ∷ y ∷ z ∷ a ∷ b ∷ c ∷ m ∷ u ∷ []) (eq e ∷ eq_times m f ∷ eq_times m g ∷ le h ∷ []) (search reading_of) tt

          across_back : (x y z a b : ℚ) → x ≡ y → a ≡ until -ℚ c → b ≡ 0ℚ → z -ℚ y ≤ℚ most_steep *ℚ (until -ℚ c) → z -ℚ x ≤ℚ most_steep *ℚ a -ℚ most_steep *ℚ b
          across_back x y z a b e f g h = by most_steep until f h
            where
              by : (m u : ℚ) → a ≡ u -ℚ c → z -ℚ y ≤ℚ m *ℚ (u -ℚ c) → z -ℚ x ≤ℚ m *ℚ a -ℚ m *ℚ b
              by m u f h = linear_le (x ∷ y ∷ z ∷ a ∷ b ∷ c ∷ m ∷ u ∷ []) (eq e ∷ eq_times m f ∷ eq_times m g ∷ le h ∷ []) (search reading_of) tt

          after : (x y z a b : ℚ) → x ≡ z → y ≡ z → a ≡ 0ℚ → b ≡ 0ℚ → x -ℚ y ≤ℚ most_steep *ℚ a -ℚ most_steep *ℚ b
          after x y z a b e f g h = by most_steep
            where
              by : (m : ℚ) → x -ℚ y ≤ℚ m *ℚ a -ℚ m *ℚ b
              by m = linear_le (x ∷ y ∷ z ∷ a ∷ b ∷ m ∷ []) (eq e ∷ eq f ∷ eq_times m g ∷ eq_times m h ∷ []) (search reading_of) tt

      sways_none : (later : List ℚ) (c : ℚ) → 0ℚ ≤ℚ c → c ≤ℚ flow.reached → IsLastSupply net c → AreInOrder flow c later → sway (off flow) c later ≤ℚ left c
      sways_none [] c n l started o = nn_times most_steep _ steep_nn (max_left 0ℚ (until -ℚ c))
      sways_none (t ∷ later) c n l started o =
          let w : Changes c t (left c -ℚ left t) = step_none c t n started o.0 o.1 in
          add_up _ _ (left c) (left t) (max_keeps (λ z. z ≤ℚ left c -ℚ left t) _ _ w.0 w.1)
          (sways_none later t (≤ℚ_trans _ _ _ n o.0) o.1 (later_supply net c t o.0 started) o.2)

      left_le : (c : ℚ) → 0ℚ ≤ℚ c → left c ≤ℚ most_steep *ℚ until
      left_le c n = times_le most_steep _ until steep_nn (max_keeps (λ z. z ≤ℚ until) 0ℚ (until -ℚ c) until_nn (less until c n))
        where
          less : (u c : ℚ) → 0ℚ ≤ℚ c → u -ℚ c ≤ℚ u
          less u c h = linear_le (u ∷ c ∷ []) (le h ∷ []) (search reading_of) tt

    steadies-none : (bound : ℚ) × SwaysAtMost net (levels net.sink) bound
    steadies-none = (
      most_steep *ℚ until,
      λ flow first later is w started o. ≤ℚ_trans _ _ _ (sways_none flow is later first w.0 w.1 started o)
          (left_le flow is first w.0),
    )

  steadies : (bound : ℚ) × SwaysAtMost net (levels net.sink) bound
  steadies = ⊎_elim steadies-above steadies-none (lt_or_le_ℚ 0ℚ (last_rate net))

pub bottleneck-steadies : BottleneckSteadies
bottleneck-steadies net good =
    let w = graded_flow-exists net (last_rate net) good (last_rate-not_negative net good) in
    (w.1 net.sink, IsGrowth-level net w.0 w.1 good w.2, steadies net good w.0 w.1 w.2)
