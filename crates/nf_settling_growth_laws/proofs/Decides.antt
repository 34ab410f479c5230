-- The label of the sink leaves the line of its growth only while the store falls, and by at most a constant times that. The store is bounded
-- from above at the last start of a piece, and from below at every departure.
use Rattle.std.proofs.Common.{◌≡◌, ℕ, suc, ◌<◌, List, [], ◌∷◌, ⊎_elim, sym, subst, refl}
use Rattle.nf_settling_growth_laws.proofs.Common.{ℚ, 0ℚ, 1ℚ, ◌+ℚ◌, ◌-ℚ◌, ◌*ℚ◌, ◌/ℚ◌, ◌≤ℚ◌, ◌<ℚ◌, max_ℚ, reading_of, ≤ℚ_of_lt, lt_or_le_ℚ, less_nn, <ℚ_irrefl}
use Rattle.nf_settling_growth_laws.proofs.Common.{≤ℚ_refl, ≤ℚ_trans, max_left, max_right, max_keeps, le, lt, eq, le_times, eq_times, linear_le, linear_lt}
use Rattle.nf_settling_growth_laws.proofs.Common.{nn_of_one, number_at, Piece, Network, IsNetwork, IsPiece, Sets, sets_at, IsThinFlow, Flow, label, inflow}
use Rattle.nf_settling_growth_laws.proofs.Common.{Equilibrium, quotient-times, Cut, IsStaticCut, cut_capacity, last_rate, IsLastSupply, CutsAreWide, Settles}
use Rattle.nf_settling_growth_laws.proofs.Common.{link_sum, capacity_or_0, last_start, last_start-not_negative, IsLastSupply-from, last_rate-not_negative}
use Rattle.nf_settling_growth_laws.proofs.Common.{label_bound, label_bound-not_negative, label-bounded, IsGraded, GrowsAt, GradedFlowDecides}
use Rattle.nf_phase_laws.proofs.Holds.{label_not_negative}
use Rattle.nf_phase_equilibrium_laws.proofs.Invariant.{HoldsUpTo-equilibrium}
use Rattle.nf_complete_laws.proofs.Deciding.{same_or_not}
use Rattle.nf_forever_laws.proofs.Cuts.{cut_capacity-positive}
use Rattle.nf_settling_laws.proofs.Rates.{AreLabelSets, HoldsForAll, bound_of_all}
use Rattle.nf_settling_laws.proofs.Steep.{bound_of_rate}
use Rattle.nf_settling_laws.proofs.Along.{labels_at, active_count, resetting_count, AreLabelSets-at}
use Rattle.nf_settling_laws.proofs.Settles.{equilibria-settle}
use Rattle.nf_settling_laws.proofs.Intervals.{IsInterval, over_intervals}
use Rattle.nf_settling_growth_laws.proofs.Store.{store, drift, drift-le, drift-lt}
use Rattle.nf_settling_growth_laws.proofs.Reserve.{in_transit, store-low, store-high, store-step}
use Rattle.nf_settling_growth_laws.proofs.Growing.{IsGrowth-level, level-cut, level-one}

-- The last start is at most each departure after which no piece starts.
pub last_start-least : (pieces : List Piece) (time : ℚ) → 0ℚ ≤ℚ time → ((i : ℕ) (piece : Piece) → IsPiece pieces i piece → piece.start ≤ℚ time)
    → last_start pieces ≤ℚ time
last_start-least [] time n h = n
last_start-least (piece ∷ later) time n h = max_keeps (λ z. z ≤ℚ time) piece.start (last_start later) (h 0 piece refl)
    (last_start-least later time n (λ i p e. h (suc i) p e))

-- ---- over plain numbers: s is the slope of the sink, g its growth, and r the drift
pub Apart : ℚ → ℚ → ℚ → ℚ → Type 0
Apart s g m r = (s -ℚ g ≤ℚ m *ℚ (0ℚ -ℚ r)) × (g -ℚ s ≤ℚ m *ℚ (0ℚ -ℚ r))

apart-grow : (s g b c r : ℚ) → b ≤ℚ c → r ≤ℚ 0ℚ → Apart s g b r → Apart s g c r
unfolding Apart
apart-grow s g b c r h n a = (wider _ a.0, wider _ a.1)
  where
    wider : (x : ℚ) → x ≤ℚ b *ℚ (0ℚ -ℚ r) → x ≤ℚ c *ℚ (0ℚ -ℚ r)
    wider x k =
        let low : 0ℚ ≤ℚ 0ℚ -ℚ r = linear_le (r ∷ []) (le n ∷ []) (search reading_of) tt in
        linear_le (x ∷ b ∷ c ∷ r ∷ []) (le k ∷ le_times low h ∷ []) (search reading_of) tt

apart-same : (s g r : ℚ) → s ≡ g → Apart s g 0ℚ r
unfolding Apart
apart-same s g r e = (
  linear_le (s ∷ g ∷ r ∷ []) (eq e ∷ []) (search reading_of) tt,
  linear_le (s ∷ g ∷ r ∷ []) (eq e ∷ [])
      (search reading_of) tt,
)

apart-other : (s g r : ℚ) → r <ℚ 0ℚ → (m : ℚ) × Apart s g m r
unfolding Apart
apart-other s g r h = (
  max_ℚ (s -ℚ g) (g -ℚ s) /ℚ (0ℚ -ℚ r),
  (subst (λ (z : ℚ). s -ℚ g ≤ℚ z) (sym times) (max_left _ _), subst (λ (z : ℚ). g -ℚ s ≤ℚ z) (sym times) (max_right _ _)),
)
  where
    times : max_ℚ (s -ℚ g) (g -ℚ s) /ℚ (0ℚ -ℚ r) *ℚ (0ℚ -ℚ r) ≡ max_ℚ (s -ℚ g) (g -ℚ s)
    times = quotient-times _ (0ℚ -ℚ r) (linear_lt (r ∷ []) (lt h ∷ []) (search reading_of) tt)

-- x is the label at c, y at d; v is the store at c, w at d; j and u are those at the first departure f.
pub Near : ℚ → ℚ → ℚ → ℚ → ℚ → ℚ → ℚ → ℚ → Type 0
Near g m f j u d y w = ((y -ℚ g *ℚ d) -ℚ (j -ℚ g *ℚ f) ≤ℚ m *ℚ (u -ℚ w)) × ((j -ℚ g *ℚ f) -ℚ (y -ℚ g *ℚ d) ≤ℚ m *ℚ (u -ℚ w))

near-first : (g m f j u : ℚ) → Near g m f j u f j u
unfolding Near
near-first g m f j u = (
  linear_le (g ∷ m ∷ f ∷ j ∷ u ∷ []) [] (search reading_of) tt,
  linear_le (g ∷ m ∷ f ∷ j ∷ u ∷ []) []
      (search reading_of) tt,
)

near-on : (g m f j u c x v d y w s r : ℚ) → c <ℚ d → y ≡ x +ℚ s *ℚ (d -ℚ c) → w ≡ v +ℚ (d -ℚ c) *ℚ r → Apart s g m r → Near g m f j u c x v
    → Near g m f j u d y w
unfolding Apart Near
near-on g m f j u c x v d y w s r o e h a n = (above a.0 n.0, below a.1 n.1)
  where
    gap : 0ℚ ≤ℚ d -ℚ c
    gap = less_nn c d (≤ℚ_of_lt _ _ o)

    above : s -ℚ g ≤ℚ m *ℚ (0ℚ -ℚ r) → (x -ℚ g *ℚ c) -ℚ (j -ℚ g *ℚ f) ≤ℚ m *ℚ (u -ℚ v) → (y -ℚ g *ℚ d) -ℚ (j -ℚ g *ℚ f) ≤ℚ m *ℚ (u -ℚ w)
    above i k = linear_le (g ∷ m ∷ f ∷ j ∷ u ∷ c ∷ x ∷ v ∷ d ∷ y ∷ w ∷ s ∷ r ∷ []) (eq e ∷ eq_times m h ∷ le_times gap i ∷ le k ∷ [])
        (search reading_of) tt

    below : g -ℚ s ≤ℚ m *ℚ (0ℚ -ℚ r) → (j -ℚ g *ℚ f) -ℚ (x -ℚ g *ℚ c) ≤ℚ m *ℚ (u -ℚ v) → (j -ℚ g *ℚ f) -ℚ (y -ℚ g *ℚ d) ≤ℚ m *ℚ (u -ℚ w)
    below i k = linear_le (g ∷ m ∷ f ∷ j ∷ u ∷ c ∷ x ∷ v ∷ d ∷ y ∷ w ∷ s ∷ r ∷ []) (eq e ∷ eq_times m h ∷ le_times gap i ∷ le k ∷ [])
        (search reading_of) tt

pub near-is : (g m f j u d y w : ℚ) → Near g m f j u d y w
    → ((y -ℚ g *ℚ d) -ℚ (j -ℚ g *ℚ f) ≤ℚ m *ℚ (u -ℚ w)) × ((j -ℚ g *ℚ f) -ℚ (y -ℚ g *ℚ d) ≤ℚ m *ℚ (u -ℚ w))
unfolding Near
near-is g m f j u d y w n = n

-- The bound: b is one of the label at f, p one of the store there, and h that of what is in transit.
near-bound : (g m f j u d y w b p h : ℚ) → Near g m f j u d y w → 0ℚ ≤ℚ m → 0ℚ ≤ℚ g → 0ℚ ≤ℚ f → 0ℚ ≤ℚ j → j ≤ℚ b → u ≤ℚ p → 0ℚ -ℚ h ≤ℚ w
    → (y -ℚ g *ℚ d ≤ℚ (b +ℚ g *ℚ f) +ℚ m *ℚ (p +ℚ h)) × (g *ℚ d -ℚ y ≤ℚ (b +ℚ g *ℚ f) +ℚ m *ℚ (p +ℚ h))
unfolding Near
near-bound g m f j u d y w b p h n m_nn g_nn f_nn j_nn j_le u_le w_ge = (above n.0, below n.1)
  where
    above : (y -ℚ g *ℚ d) -ℚ (j -ℚ g *ℚ f) ≤ℚ m *ℚ (u -ℚ w) → y -ℚ g *ℚ d ≤ℚ (b +ℚ g *ℚ f) +ℚ m *ℚ (p +ℚ h)
    above k = linear_le (g ∷ m ∷ f ∷ j ∷ u ∷ d ∷ y ∷ w ∷ b ∷ p ∷ h ∷ []) (le k ∷ le j_le ∷ le_times g_nn f_nn ∷ le_times m_nn u_le ∷ le_times m_nn
        w_ge ∷ []) (search reading_of) tt

    below : (j -ℚ g *ℚ f) -ℚ (y -ℚ g *ℚ d) ≤ℚ m *ℚ (u -ℚ w) → g *ℚ d -ℚ y ≤ℚ (b +ℚ g *ℚ f) +ℚ m *ℚ (p +ℚ h)
    below k = linear_le (g ∷ m ∷ f ∷ j ∷ u ∷ d ∷ y ∷ w ∷ b ∷ p ∷ h ∷ []) (le k ∷ le j_nn ∷ le j_le ∷ le_times m_nn u_le ∷ le_times m_nn w_ge ∷ [])
        (search reading_of) tt

module _ (net : Network) (good : IsNetwork net) (flows levels : ℕ → ℚ) (graded : IsGraded net (last_rate net) flows levels) where
  nn : 0ℚ ≤ℚ last_rate net
  nn = last_rate-not_negative net good

  pub first_nn : 0ℚ ≤ℚ last_start net.pieces
  first_nn = last_start-not_negative net.pieces

  abbrev growth : ℚ
  growth = levels net.sink

  growth_nn : 0ℚ ≤ℚ levels net.sink
  growth_nn = nn_of_one (levels net.sink) (graded.keeps_up net.sink good.sink)

  latest : ℚ
  latest = label_bound net good (last_start net.pieces)

  latest_nn : 0ℚ ≤ℚ latest
  unfolding latest
  latest_nn = label_bound-not_negative net good (last_start net.pieces) first_nn

  label_nn : (flow : Flow) → Equilibrium net flow → (v : ℕ) (t : ℚ) → v < net.nodes → 0ℚ ≤ℚ t → t ≤ℚ flow.reached → 0ℚ ≤ℚ label flow v t
  label_nn flow is v t h i j = label_not_negative net (inflow flow) (label flow) flow.reached (good) (HoldsUpTo-equilibrium net flow good is) v t h (i, j)

  -- ---- a rate above 0
  module _ (more : 0ℚ <ℚ last_rate net) where
    Holds : Sets → List ℚ → ℚ → Type 0
    Holds sets slopes m = Apart (number_at slopes net.sink) (levels net.sink) m (drift net sets (last_rate net) levels slopes)

    holds-grow : (sets : Sets) (thin_flows slopes : List ℚ) (b c : ℚ) → b ≤ℚ c → AreLabelSets net sets
        → IsThinFlow net sets (last_rate net) thin_flows slopes → Holds sets slopes b → Holds sets slopes c
    unfolding Holds
    holds-grow sets thin_flows slopes b c h label_sets thin a = apart-grow (number_at slopes net.sink) (levels net.sink) b c
        (drift net sets (last_rate net) levels slopes) h
        (drift-le net good (last_rate net) flows levels graded nn sets label_sets.are label_sets.acyclic thin_flows slopes thin) a

    holds-some : (sets : Sets) (thin_flows slopes : List ℚ) → AreLabelSets net sets → IsThinFlow net sets (last_rate net) thin_flows slopes
        → (m : ℚ) × Holds sets slopes m
    unfolding Holds
    holds-some sets thin_flows slopes label_sets thin = ⊎_elim
        (λ (e : number_at slopes net.sink ≡ levels net.sink).
        (0ℚ, apart-same (number_at slopes net.sink) (levels net.sink) (drift net sets (last_rate net) levels slopes) e))
        (λ (apart : number_at slopes net.sink ≡ levels net.sink → ⊥). apart-other (number_at slopes net.sink) (levels net.sink)
        (drift net sets (last_rate net) levels slopes)
        (drift-lt net good (last_rate net) flows levels graded nn sets label_sets.are label_sets.acyclic thin_flows slopes thin more apart))
        (same_or_not (number_at slopes net.sink) (levels net.sink))

    some_pace : (m : ℚ) × HoldsForAll net (last_rate net) Holds m
    some_pace = bound_of_all net good (last_rate net) nn Holds holds-grow holds-some

    pub pace : ℚ
    pace = max_ℚ 0ℚ some_pace.0

    pub pace_nn : 0ℚ ≤ℚ pace
    unfolding pace
    pace_nn = max_left 0ℚ some_pace.0

    -- An upper bound of the store at the first departure.
    pub most : ℚ
    most = link_sum net.links (λ e link. capacity_or_0 link.capacity *ℚ latest) +ℚ last_rate net *ℚ latest

    far : ℚ
    far = (latest +ℚ levels net.sink *ℚ last_start net.pieces) +ℚ pace *ℚ (most +ℚ in_transit net good (last_rate net) flows levels graded)

    module _ (flow : Flow) (is : Equilibrium net flow) where
      abbrev pub at : ℚ → ℕ → ℚ
      at t v = label flow v t

      abbrev pub stored : ℚ → ℚ
      stored t = store net (last_rate net) levels (at t)

      -- ---- from a departure after the last start of a piece on
      module _ (from : ℚ) (from_nn : 0ℚ ≤ℚ from) (started : IsLastSupply net from) where
        abbrev pub Follows : ℚ → Type 0
        Follows t = Near (levels net.sink) pace from (label flow net.sink from) (stored from) t (label flow net.sink t) (stored t)

        one_stretch : (c d : ℚ) → IsInterval net flow c d → Follows c → Follows d
        unfolding pace Holds
        one_stretch c d i n = near-on (levels net.sink) pace from (label flow net.sink from) (stored from) c (label flow net.sink c) (stored c) d
            (label flow net.sink d) (stored d)
            (number_at i.slopes net.sink) (drift net (sets_at net (labels_at net flow c)) (last_rate net) levels i.slopes) i.order (i.moved net.sink good.sink)
            (store-step net good (last_rate net) flows levels graded (sets_at net (labels_at net flow c)) i.slopes (at c) (at d)
            (d -ℚ c) i.moved i.filled_by) apart n
          where
            label_sets : AreLabelSets net (sets_at net (labels_at net flow c))
            label_sets = AreLabelSets-at net good flow is c (i.not_negative, ≤ℚ_trans _ _ _ (≤ℚ_of_lt _ _ i.order) i.within)

            apart : Apart (number_at i.slopes net.sink) (levels net.sink) pace (drift net (sets_at net (labels_at net flow c)) (last_rate net) levels i.slopes)
            apart = holds-grow (sets_at net (labels_at net flow c)) i.flows i.slopes some_pace.0 (max_ℚ 0ℚ some_pace.0) (max_right 0ℚ some_pace.0)
                label_sets i.thin
                (some_pace.1 (sets_at net (labels_at net flow c)) (active_count net good flow is c)
                (resetting_count net good flow is c) label_sets i.flows i.slopes i.thin)

        pub follows : (t : ℚ) → from ≤ℚ t → t ≤ℚ flow.reached → Follows t
        follows t h l = over_intervals net good flow is Follows one_stretch from from_nn started t h l
            (near-first (levels net.sink) pace from (label flow net.sink from) (stored from))

      pub stored_low : (t : ℚ) → 0ℚ ≤ℚ t → t ≤ℚ flow.reached → 0ℚ -ℚ in_transit net good (last_rate net) flows levels graded ≤ℚ stored t
      stored_low t n l = store-low net good (last_rate net) flows levels graded (at t)
          (λ e link p none. (HoldsUpTo-equilibrium net flow good is).unbounded e link t p none (n, l))

      -- ---- from the last start of a piece on
      abbrev first : ℚ
      first = last_start net.pieces

      pub first_started : IsLastSupply net (last_start net.pieces)
      first_started = IsLastSupply-from net (last_start net.pieces) (≤ℚ_refl _)

      module _ (l : last_start net.pieces ≤ℚ flow.reached) where
        first_high : (v : ℕ) → v < net.nodes → label flow v first ≤ℚ latest
        unfolding latest
        first_high v k = label-bounded net good flow is first (first_nn, l) v k

        pub stored_high : stored (last_start net.pieces) ≤ℚ most
        unfolding most
        stored_high = store-high net good (last_rate net) flows levels graded (at first) latest nn latest_nn (λ v k. label_nn flow is v first k first_nn l)
            first_high

      module _ (t : ℚ) (h : first ≤ℚ t) (l : t ≤ℚ flow.reached) where
        first_within : first ≤ℚ flow.reached
        first_within = ≤ℚ_trans _ _ _ h l

        stays_near : (label flow net.sink t -ℚ levels net.sink *ℚ t ≤ℚ far) × (levels net.sink *ℚ t -ℚ label flow net.sink t ≤ℚ far)
        unfolding far
        stays_near = near-bound (levels net.sink) pace first (label flow net.sink first) (stored first) t (label flow net.sink t) (stored t) latest most
            (in_transit net good (last_rate net) flows levels graded) (follows first first_nn first_started t h l) pace_nn growth_nn first_nn
            (label_nn flow is net.sink first good.sink first_nn first_within) (first_high first_within net.sink good.sink) (stored_high first_within)
            (stored_low t (≤ℚ_trans _ _ _ first_nn h) l)

    grows-above : (bound : ℚ) × GrowsAt net (levels net.sink) bound
    grows-above = (
      far,
      record {
        below = λ flow t is w started. (stays_near flow is t (last_start-least net.pieces t w.0 started) w.1).0;
        above = λ flow t is w started. (stays_near flow is t (last_start-least net.pieces t w.0 started) w.1).1;
      },
    )

  -- ---- the rate 0: all cuts are wide, so equilibria settle
  module _ (nothing : last_rate net ≤ℚ 0ℚ) where
    wide : CutsAreWide net
    wide cut is = ≤ℚ_trans _ _ _ nothing (≤ℚ_of_lt _ _ (cut_capacity-positive net cut is good))

    pub growth_one : levels net.sink ≡ 1ℚ
    growth_one = level-one net good (last_rate net) flows levels graded
        (λ h. let w : (cut : Cut) × IsStaticCut net cut × (last_rate net ≡ levels net.sink *ℚ cut_capacity net cut) = level-cut net good
        (last_rate net) flows levels graded h in
        none_by (last_rate net) (levels net.sink) (cut_capacity net w.0) nothing h w.2 (cut_capacity-positive net w.0 w.1 good))
      where
        none_by : (u g c : ℚ) → u ≤ℚ 0ℚ → 1ℚ <ℚ g → u ≡ g *ℚ c → 0ℚ <ℚ c → ⊥
        none_by u g c h k e l =
            let low : 0ℚ ≤ℚ c = ≤ℚ_of_lt _ _ l in
            let one : 1ℚ ≤ℚ g = ≤ℚ_of_lt _ _ k in
            <ℚ_irrefl 0ℚ (linear_lt (u ∷ g ∷ c ∷ []) (le h ∷ eq e ∷ lt l ∷ le_times low one ∷ []) (search reading_of) tt)

    pub settles : (from : ℚ) × Settles net from
    settles = equilibria-settle net good wide

    from : ℚ
    from = settles.0

    pub steepest : ℚ
    steepest = max_ℚ 0ℚ (bound_of_rate net good (last_rate net) nn).0

    pub steepest_nn : 0ℚ ≤ℚ steepest
    unfolding steepest
    steepest_nn = max_left 0ℚ (bound_of_rate net good (last_rate net) nn).0

    long : ℚ
    long = (latest +ℚ steepest *ℚ settles.0) +ℚ settles.0

    module _ (flow : Flow) (is : Equilibrium net flow) where
      abbrev start : ℚ
      start = last_start net.pieces

      abbrev Slow : ℚ → Type 0
      Slow t = label flow net.sink t ≤ℚ latest +ℚ steepest *ℚ (t -ℚ start)

      pub slope_le : (c d : ℚ) → (i : IsInterval net flow c d) → number_at i.slopes net.sink ≤ℚ steepest
      unfolding steepest
      slope_le c d i = ≤ℚ_trans _ _ _
          (((bound_of_rate net good (last_rate net) nn).1 (sets_at net (labels_at net flow c)) (active_count net good flow is c)
          (resetting_count net good flow is c)
          (AreLabelSets-at net good flow is c (i.not_negative, ≤ℚ_trans _ _ _ (≤ℚ_of_lt _ _ i.order) i.within)) i.flows i.slopes i.thin).slopes_below net.sink)
          (max_right 0ℚ (bound_of_rate net good (last_rate net) nn).0)

      slow_on : (c d : ℚ) → IsInterval net flow c d → Slow c → Slow d
      slow_on c d i k = onward (label flow net.sink c) (label flow net.sink d) latest steepest (number_at i.slopes net.sink) c d start i.order k
          (i.moved net.sink good.sink) (slope_le c d i)
        where
          onward : (x y b g s c d f : ℚ) → c <ℚ d → x ≤ℚ b +ℚ g *ℚ (c -ℚ f) → y ≡ x +ℚ s *ℚ (d -ℚ c) → s ≤ℚ g → y ≤ℚ b +ℚ g *ℚ (d -ℚ f)
          onward x y b g s c d f o h e k =
              let gap : 0ℚ ≤ℚ d -ℚ c = less_nn c d (≤ℚ_of_lt _ _ o) in
              linear_le (x ∷ y ∷ b ∷ g ∷ s ∷ c ∷ d ∷ f ∷ []) (le h ∷ eq e ∷ le_times gap k ∷ []) (search reading_of) tt

      slow : (t : ℚ) → start ≤ℚ t → t ≤ℚ flow.reached → Slow t
      unfolding latest
      slow t h l = over_intervals net good flow is Slow slow_on start first_nn (IsLastSupply-from net start (≤ℚ_refl _)) t h l
          (at_start _ _ steepest start first_high)
        where
          at_start : (x b g f : ℚ) → x ≤ℚ b → x ≤ℚ b +ℚ g *ℚ (f -ℚ f)
          at_start x b g f h = linear_le (x ∷ b ∷ g ∷ f ∷ []) (le h ∷ []) (search reading_of) tt

          first_high : label flow net.sink start ≤ℚ latest
          first_high = label-bounded net good flow is start (first_nn, ≤ℚ_trans _ _ _ h l) net.sink good.sink

      -- Up to the departure from which on the equilibrium is steady, labels are bounded.
      before : (t : ℚ) → start ≤ℚ t → t ≤ℚ flow.reached → t ≤ℚ settles.0 → (label flow net.sink t -ℚ t ≤ℚ long) × (t -ℚ label flow net.sink t ≤ℚ long)
      unfolding long
      before t h l k = (
        high (label flow net.sink t) t latest steepest settles.0 start (slow t h l) steepest_nn first_nn (≤ℚ_trans _ _ _ first_nn h) k,
        low (label flow net.sink t) t latest steepest settles.0 latest_nn steepest_nn (label_nn flow is net.sink t good.sink (≤ℚ_trans _ _ _ first_nn h) l)
            (≤ℚ_trans _ _ _ first_nn h) k,
      )
        where
          high : (x t b g s f : ℚ) → x ≤ℚ b +ℚ g *ℚ (t -ℚ f) → 0ℚ ≤ℚ g → 0ℚ ≤ℚ f → 0ℚ ≤ℚ t → t ≤ℚ s → x -ℚ t ≤ℚ (b +ℚ g *ℚ s) +ℚ s
          high x t b g s f h n m j k =
              let less : t -ℚ f ≤ℚ s = linear_le (t ∷ f ∷ s ∷ []) (le m ∷ le k ∷ []) (search reading_of) tt in
              linear_le (x ∷ t ∷ b ∷ g ∷ s ∷ f ∷ []) (le h ∷ le j ∷ le k ∷ le_times n less ∷ []) (search reading_of) tt

          low : (x t b g s : ℚ) → 0ℚ ≤ℚ b → 0ℚ ≤ℚ g → 0ℚ ≤ℚ x → 0ℚ ≤ℚ t → t ≤ℚ s → t -ℚ x ≤ℚ (b +ℚ g *ℚ s) +ℚ s
          low x t b g s n m i j k =
              let s_nn : 0ℚ ≤ℚ s = ≤ℚ_trans _ _ _ j k in
              linear_le (x ∷ t ∷ b ∷ g ∷ s ∷ []) (le n ∷ le i ∷ le k ∷ le_times m s_nn ∷ []) (search reading_of) tt

      bounded : (t : ℚ) → start ≤ℚ t → t ≤ℚ flow.reached → (label flow net.sink t -ℚ t ≤ℚ long) × (t -ℚ label flow net.sink t ≤ℚ long)
      bounded t h l = ⊎_elim
          (λ (k : t <ℚ settles.0). before t h l (≤ℚ_of_lt _ _ k))
          (λ (k : settles.0 ≤ℚ t). after k)
          (lt_or_le_ℚ t settles.0)
        where
          after : settles.0 ≤ℚ t → (label flow net.sink t -ℚ t ≤ℚ long) × (t -ℚ label flow net.sink t ≤ℚ long)
          after k =
              let b : (label flow net.sink settles.0 -ℚ settles.0 ≤ℚ long) × (settles.0 -ℚ label flow net.sink settles.0 ≤ℚ long) = before settles.0
              start_le (≤ℚ_trans _ _ _ k l) (≤ℚ_refl _) in
              let e : label flow net.sink t ≡ label flow net.sink settles.0 +ℚ (t -ℚ settles.0) = (settles.1.steady flow is).labels net.sink t good.sink
              (k, l) in (
                high (label flow net.sink t) (label flow net.sink settles.0) t settles.0 long e b.0,
                low (label flow net.sink t)
                    (label flow net.sink settles.0) t settles.0 long e b.1,
              )
            where
              start_le : start ≤ℚ settles.0
              start_le = last_start-least net.pieces settles.0 settles.1.not_negative settles.1.supply

              high : (x y t s b : ℚ) → x ≡ y +ℚ (t -ℚ s) → y -ℚ s ≤ℚ b → x -ℚ t ≤ℚ b
              high x y t s b e h = linear_le (x ∷ y ∷ t ∷ s ∷ b ∷ []) (eq e ∷ le h ∷ []) (search reading_of) tt

              low : (x y t s b : ℚ) → x ≡ y +ℚ (t -ℚ s) → s -ℚ y ≤ℚ b → t -ℚ x ≤ℚ b
              low x y t s b e h = linear_le (x ∷ y ∷ t ∷ s ∷ b ∷ []) (eq e ∷ le h ∷ []) (search reading_of) tt

    grows-none : (bound : ℚ) × GrowsAt net (levels net.sink) bound
    grows-none = (
      long,
      record {
        below = λ flow t is w started. high (label flow net.sink t) (levels net.sink) t long growth_one
            (bounded flow is t (last_start-least net.pieces t w.0 started) w.1).0;
        above = λ flow t is w started. low (label flow net.sink t) (levels net.sink) t long growth_one
            (bounded flow is t (last_start-least net.pieces t w.0 started) w.1).1;
      },
    )
      where
        high : (x g t b : ℚ) → g ≡ 1ℚ → x -ℚ t ≤ℚ b → x -ℚ g *ℚ t ≤ℚ b
        high x g t b e h = linear_le (x ∷ g ∷ t ∷ b ∷ []) (eq_times t e ∷ le h ∷ []) (search reading_of) tt

        low : (x g t b : ℚ) → g ≡ 1ℚ → t -ℚ x ≤ℚ b → g *ℚ t -ℚ x ≤ℚ b
        low x g t b e h = linear_le (x ∷ g ∷ t ∷ b ∷ []) (eq_times t e ∷ le h ∷ []) (search reading_of) tt

  pub grows-at : (bound : ℚ) × GrowsAt net (levels net.sink) bound
  grows-at = ⊎_elim grows-above grows-none (lt_or_le_ℚ 0ℚ (last_rate net))

pub graded_flow-decides : GradedFlowDecides
graded_flow-decides = record {
  level = λ net flows levels good graded. IsGrowth-level net flows levels good graded;
  grows = λ net flows levels good graded. grows-at net good flows levels graded;
}
