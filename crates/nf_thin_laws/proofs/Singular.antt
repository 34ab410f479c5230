-- The equations of a listed pattern have at most one solution, if the active links hold no cycle.
-- Of two solutions, take the nodes at which the slope of the first is greater. Tight links do not lead into or out of these nodes.
-- Links without flow do not count. A filled link carries more into the nodes, and not more out of them.
-- Conservation makes both equal, so no filled link leads into the nodes. But backward along the links by which the pattern is listed, one
-- must.
use Rattle.std.proofs.Common.{◌≡◌, ◌≢◌, ℕ, ◌<◌, ◌≤◌, List, [], ◌∷◌, length, ◌⊎◌, inl, inr, ⊎_elim, Bool, true, false, if◌then◌else◌, eqb, Option, Some}
use Rattle.std.proofs.Common.{None, slice_get, sym, ap, subst, refl, ◌∙◌, arith}
use Rattle.nf_thin_laws.proofs.Common.{cases_lt, eqb_tells, ℚ, 0ℚ, 1ℚ, ◌+ℚ◌, ◌-ℚ◌, ◌*ℚ◌, ◌≤ℚ◌, ◌<ℚ◌, lt_ℚ, reading_of, ≤ℚ_of_same, ≤ℚ_antisymm, ≤ℚ_of_lt}
use Rattle.nf_thin_laws.proofs.Common.{lt_or_le_ℚ, not_both_ℚ, lt_ℚ_cases, le, lt, eq, le_times, linear_le, linear_lt, linear_eq, linear_false, State}
use Rattle.nf_thin_laws.proofs.Common.{Tight, Full, Zero, number_at, Link, Network, IsLink, IsNetwork, Sets, surplus, Enters, Pattern, HasState, IsListedIn}
use Rattle.nf_thin_laws.proofs.Common.{Fills, Equation, Solves, Meets, IsSolution, ps-times_gap, IsPositive-link, carried-each, fall, out_less_in, AreSets}
use Rattle.nf_thin_laws.proofs.Common.{HoldNoCycle, SolvesHomogeneous, entry, same_entries, sum_in-line, sum_out-line, sum_in-none, sum_out-none}
use Rattle.nf_thin_laws.proofs.Common.{sink_takes}
use Rattle.nf_thin_laws.proofs.Flags.{flag, entry_beyond, number_at-beyond}
use Rattle.nf_thin_laws.proofs.Patterns.{FillBoth, FillBoth-of, Stands, with_state, resets, inactive, stands, Leads, by_tight, by_full, by_reset, led}
use Rattle.nf_thin_laws.proofs.Cuts.{fall_none, fall_into, fall_out, fall_same, into_equal, same_carried}
use Rattle.nf_thin_laws.proofs.Forests.{Dart, Carries, forest-none}
use Rattle.nf_thin_laws.proofs.ActiveLinks.{none_first}

-- ---- filled links: x and y are their flows, t and v the slopes of their heads
fill_more : (x y c t v : ℚ) → 0ℚ <ℚ c → x ≡ c *ℚ t → y ≡ c *ℚ v → v <ℚ t → y <ℚ x
fill_more x y c t v h e f k = linear_lt (x ∷ y ∷ c ∷ t ∷ v ∷ []) (eq e ∷ eq f ∷ lt (ps-times_gap c v t h k) ∷ []) (search reading_of) tt

fill_at_most : (x y c t v : ℚ) → 0ℚ <ℚ c → x ≡ c *ℚ t → y ≡ c *ℚ v → t ≤ℚ v → x ≤ℚ y
fill_at_most x y c t v h e f k = let low : 0ℚ ≤ℚ c = ≤ℚ_of_lt _ _ h in linear_le (x ∷ y ∷ c ∷ t ∷ v ∷ []) (eq e ∷ eq f ∷ le_times low k ∷ []) (search reading_of) tt

-- flows and slopes as functions, which meet the equations of the links
abbrev pub MeetsLinks : Network → Sets → Pattern → (ℕ → ℚ) → (ℕ → ℚ) → Type 0
MeetsLinks net sets pattern x l = (e : ℕ) (link : Link) (state : Option State) → IsLink net e link → slice_get pattern e ≡ Some state
    → Equation state (flag sets.resetting e) link.capacity (x e) (l link.tail) (l link.head)

module _ (net : Network) (sets : Sets) (pattern : Pattern) (good : IsNetwork net) (are : AreSets net sets) (acyclic : HoldNoCycle net sets) (listed : IsListedIn net sets pattern) where
  module _ (x l y m : ℕ → ℚ) (first : MeetsLinks net sets pattern x l) (second : MeetsLinks net sets pattern y m) where
    -- how two solutions compare on a link
    data Compared (e : ℕ) (link : Link) : Type 0 where
      tight : HasState pattern e Tight → l link.head ≡ l link.tail → m link.head ≡ m link.tail → Compared e link
      filled : FillBoth (x e) (l link.head) (y e) (m link.head) → Compared e link

    resetting_filled : (e : ℕ) (link : Link) → IsLink net e link → slice_get pattern e ≡ Some None → flag sets.resetting e ≡ true → Compared e link
    resetting_filled e link p h f = filled (FillBoth-of link.capacity _ _ _ _ (IsPositive-link net e link good p)
        (subst (λ (b : Bool). Equation None b link.capacity (x e) (l link.tail) (l link.head)) f (first e link None p h))
        (subst (λ (b : Bool). Equation None b link.capacity (y e) (m link.tail) (m link.head)) f (second e link None p h)))

    full_filled : (e : ℕ) (link : Link) → IsLink net e link → HasState pattern e Full → Compared e link
    full_filled e link p h = filled (FillBoth-of link.capacity _ _ _ _ (IsPositive-link net e link good p) (first e link (Some Full) p h) (second e link (Some Full) p h))

    compared : (e : ℕ) (link : Link) → IsLink net e link → Compared e link ⊎ (x e ≡ y e)
    compared e link p = go (stands net sets pattern are listed.states e link p)
      where
        go : Stands pattern sets e → Compared e link ⊎ (x e ≡ y e)
        go (with_state Tight h f a) = inl (tight h (first e link (Some Tight) p h) (second e link (Some Tight) p h))
        go (with_state Full h f a) = inl (full_filled e link p h)
        go (with_state Zero h f a) = inr (first e link (Some Zero) p h ∙ sym (second e link (Some Zero) p h))
        go (resets h f a) = inl (resetting_filled e link p h f)
        go (inactive h f a) = inr
            (subst (λ (b : Bool). Equation None b link.capacity (x e) (l link.tail) (l link.head)) f (first e link None p h)
            ∙ sym (subst (λ (b : Bool). Equation None b link.capacity (y e) (m link.tail) (m link.head)) f (second e link None p h)))

    compared_leads : (e : ℕ) (link : Link) → IsLink net e link → Leads pattern sets e → Compared e link
    compared_leads e link p (by_tight h f) = tight h (first e link (Some Tight) p h) (second e link (Some Tight) p h)
    compared_leads e link p (by_full h f) = full_filled e link p h
    compared_leads e link p (by_reset h f) = resetting_filled e link p h f

    module _ (same_source : l net.source ≡ m net.source) (same_nodes : (v : ℕ) → v < net.nodes → v ≢ net.sink → out_less_in net.links x v ≡ out_less_in net.links y v) where
      -- 1 if the first slope is greater, and 0 otherwise.
      abbrev side : ℕ → ℚ
      side v = if lt_ℚ (m v) (l v) then 1ℚ else 0ℚ

      abbrev Greater : ℕ → Type 0
      Greater v = m v <ℚ l v

      abbrev NotGreater : ℕ → Type 0
      NotGreater v = l v ≤ℚ m v

      side_cases : (v : ℕ) → ((side v ≡ 1ℚ) × Greater v) ⊎ ((side v ≡ 0ℚ) × NotGreater v)
      side_cases v = ⊎_elim
          (λ (w : (lt_ℚ (m v) (l v) ≡ true) × Greater v). inl (ap (λ (b : Bool). if b then 1ℚ else 0ℚ) w.0, w.1))
          (λ (w : (lt_ℚ (m v) (l v) ≡ false) × NotGreater v). inr (ap (λ (b : Bool). if b then 1ℚ else 0ℚ) w.0, w.1))
          (lt_ℚ_cases (m v) (l v))

      -- Both ends of a Tight link are in the set, or neither is.
      apart : (a b c d : ℚ) → a ≡ b → c ≡ d → c <ℚ a → b ≤ℚ d → ⊥
      apart a b c d e f h k = linear_false (a ∷ b ∷ c ∷ d ∷ []) (eq e ∷ eq f ∷ lt h ∷ le k ∷ []) (search reading_of) tt

      one_side : (link : Link) → l link.head ≡ l link.tail → m link.head ≡ m link.tail → side link.tail ≡ side link.head
      one_side link e f = ⊎_elim
          (λ (v : (side link.tail ≡ 1ℚ) × Greater link.tail). ⊎_elim
          (λ (w : (side link.head ≡ 1ℚ) × Greater link.head). v.0 ∙ sym w.0)
          (λ (w : (side link.head ≡ 0ℚ) × NotGreater link.head). absurd (apart _ _ _ _ (sym e) (sym f) v.1 w.1))
          (side_cases link.head))
          (λ (v : (side link.tail ≡ 0ℚ) × NotGreater link.tail). ⊎_elim
          (λ (w : (side link.head ≡ 1ℚ) × Greater link.head). absurd (apart _ _ _ _ e f w.1 v.1))
          (λ (w : (side link.head ≡ 0ℚ) × NotGreater link.head). v.0 ∙ sym w.0)
          (side_cases link.head))
          (side_cases link.tail)

      filled_le : (e : ℕ) (link : Link) → FillBoth (x e) (l link.head) (y e) (m link.head) → x e *ℚ fall side link ≤ℚ y e *ℚ fall side link
      filled_le e link f = ⊎_elim
          (λ (v : (side link.tail ≡ 1ℚ) × Greater link.tail). ⊎_elim
          (λ (w : (side link.head ≡ 1ℚ) × Greater link.head). fall_none (x e) (y e) _ _ (v.0 ∙ sym w.0))
          (λ (w : (side link.head ≡ 0ℚ) × NotGreater link.head). fall_out (x e) (y e) _ _ v.0 w.0 (fill_at_most _ _ f.rate _ _ f.positive f.first f.second w.1))
          (side_cases link.head))
          (λ (v : (side link.tail ≡ 0ℚ) × NotGreater link.tail). ⊎_elim
          (λ (w : (side link.head ≡ 1ℚ) × Greater link.head). fall_into (x e) (y e) _ _ v.0 w.0 (≤ℚ_of_lt _ _ (fill_more _ _ f.rate _ _ f.positive f.first f.second w.1)))
          (λ (w : (side link.head ≡ 0ℚ) × NotGreater link.head). fall_none (x e) (y e) _ _ (v.0 ∙ sym w.0))
          (side_cases link.head))
          (side_cases link.tail)

      each_le : (e : ℕ) (link : Link) → IsLink net e link → x e *ℚ fall side link ≤ℚ y e *ℚ fall side link
      each_le e link p = ⊎_elim (λ (c : Compared e link). go c) (λ (s : x e ≡ y e). fall_same (x e) (y e) _ _ s) (compared e link p)
        where
          go : Compared e link → x e *ℚ fall side link ≤ℚ y e *ℚ fall side link
          go (tight h a b) = fall_none (x e) (y e) _ _ (one_side link a b)
          go (filled f) = filled_le e link f

      each_same : (e : ℕ) (link : Link) → IsLink net e link → x e *ℚ fall side link ≡ y e *ℚ fall side link
      each_same e link p = carried-each side net.links x y each_le (≤ℚ_of_same _ _ (sym (same_carried net side x y good same_nodes))) e link p

      -- A link by which the pattern is listed also comes from the set.
      tail_greater : (e : ℕ) (link : Link) → IsLink net e link → Compared e link → Greater link.head → Greater link.tail
      tail_greater e link p c g = ⊎_elim
          (λ (w : (side link.tail ≡ 1ℚ) × Greater link.tail). w.1)
          (λ (w : (side link.tail ≡ 0ℚ) × NotGreater link.tail). absurd (go c w.0 w.1))
          (side_cases link.tail)
        where
          head_side : side link.head ≡ 1ℚ
          head_side = ⊎_elim
              (λ (w : (side link.head ≡ 1ℚ) × Greater link.head). w.0)
              (λ (w : (side link.head ≡ 0ℚ) × NotGreater link.head). absurd (not_both_ℚ _ _ g w.1))
              (side_cases link.head)

          go : Compared e link → side link.tail ≡ 0ℚ → NotGreater link.tail → ⊥
          go (tight h a b) s n = apart _ _ _ _ a b g n
          go (filled f) s n = not_both_ℚ _ _ (fill_more _ _ f.rate _ _ f.positive f.first f.second g) (≤ℚ_of_same _ _ (into_equal (x e) (y e) _ _ s head_side (each_same e link p)))

      back : (v : ℕ) → v < net.nodes → Greater v → (e : ℕ) × (link : Link) × Enters net sets v e link × Greater link.tail
      back v h g =
          let t : (e : ℕ) × (link : Link) × Enters net sets v e link × Leads pattern sets e =
          led net sets pattern are listed.states listed.entered v h (λ e. not_both_ℚ _ _ (subst Greater e g) (≤ℚ_of_same _ _ same_source)) in
          (t.0, t.1, t.2, tail_greater t.0 t.1 t.2.is_link (compared_leads t.0 t.1 t.2.is_link t.3) (subst Greater (sym t.2.head) g))

      at_most : (v : ℕ) → v < net.nodes → l v ≤ℚ m v
      at_most v h = ⊎_elim
          (λ (g : Greater v). absurd (none_first net sets good acyclic Greater back v h g))
          (λ (g : NotGreater v). g) (lt_or_le_ℚ (m v) (l v))

  module _ (x l y m : ℕ → ℚ) (first : MeetsLinks net sets pattern x l) (second : MeetsLinks net sets pattern y m)
      (same_source : l net.source ≡ m net.source) (same_nodes : (v : ℕ) → v < net.nodes → v ≢ net.sink → out_less_in net.links x v ≡ out_less_in net.links y v) where
    pub same_slopes : (v : ℕ) → v < net.nodes → l v ≡ m v
    same_slopes v h = ≤ℚ_antisymm _ _ (at_most x l y m first second same_source same_nodes v h) (at_most y m x l second first (sym same_source) (λ k i o. sym (same_nodes k i o)) v h)

    -- ---- so the flows differ only on Tight links, which form a forest
    abbrev difference : ℕ → ℚ
    difference e = x e +ℚ y e *ℚ (0ℚ -ℚ 1ℚ)

    tight_or_same : (e : ℕ) (link : Link) → IsLink net e link → HasState pattern e Tight ⊎ (x e ≡ y e)
    tight_or_same e link p = ⊎_elim (λ (c : Compared x l y m first second e link). go c) (λ (s : x e ≡ y e). inr s) (compared x l y m first second e link p)
      where
        go : Compared x l y m first second e link → HasState pattern e Tight ⊎ (x e ≡ y e)
        go (tight h a b) = inl h
        go (filled f) = inr (f.first ∙ ap (λ (z : ℚ). f.rate *ℚ z) (same_slopes link.head (good.heads e link p)) ∙ sym f.second)

    level : (a b : ℚ) → a ≡ b → a +ℚ b *ℚ (0ℚ -ℚ 1ℚ) ≡ 0ℚ
    level a b e = linear_eq (a ∷ b ∷ []) (eq e ∷ []) (search reading_of) tt tt

    level_back : (a b : ℚ) → a +ℚ b *ℚ (0ℚ -ℚ 1ℚ) ≡ 0ℚ → a ≡ b
    level_back a b e = linear_eq (a ∷ b ∷ []) (eq e ∷ []) (search reading_of) tt tt

    node_line : (o p i j r s : ℚ) → o ≡ p +ℚ r *ℚ (0ℚ -ℚ 1ℚ) → i ≡ j +ℚ s *ℚ (0ℚ -ℚ 1ℚ) → p -ℚ j ≡ r -ℚ s → o -ℚ i ≡ 0ℚ
    node_line o p i j r s e f g = linear_eq (o ∷ p ∷ i ∷ j ∷ r ∷ s ∷ []) (eq e ∷ eq f ∷ eq g ∷ []) (search reading_of) tt tt

    balanced_inner : (v : ℕ) → v < net.nodes → v ≢ net.sink → out_less_in net.links difference v ≡ 0ℚ
    balanced_inner v h other = node_line _ _ _ _ _ _ (sum_out-line net.links x y (0ℚ -ℚ 1ℚ) v) (sum_in-line net.links x y (0ℚ -ℚ 1ℚ) v) (same_nodes v h other)

    balanced : (v : ℕ) → v < net.nodes → out_less_in net.links difference v ≡ 0ℚ
    balanced v h = ⊎_elim
        (λ (s : (eqb v net.sink ≡ true) × (v ≡ net.sink)). subst (λ (k : ℕ). out_less_in net.links difference k ≡ 0ℚ) (sym s.1)
        (sink_takes net good difference 0ℚ (balanced_inner net.source good.source good.apart) (λ w k _ o. balanced_inner w k o) ∙ linear_eq [] [] (search reading_of) tt tt))
        (λ (s : (eqb v net.sink ≡ false) × (v ≢ net.sink)). balanced_inner v h s.1)
        (eqb_tells v net.sink)

    not_level : (forward : Bool) (z : ℚ) → Carries net difference forward z → z ≡ 0ℚ → ⊥
    not_level true z h e = not_both_ℚ _ _ h (≤ℚ_of_same _ _ e)
    not_level false z h e = not_both_ℚ _ _ h (≤ℚ_of_same _ _ (sym e))

    allowed : (e : ℕ) (forward : Bool) (u v : ℕ) → Dart net difference e forward u v → HasState pattern e Tight
    allowed e forward u v dart = ⊎_elim
        (λ (h : HasState pattern e Tight). h)
        (λ (s : x e ≡ y e). absurd (not_level forward (difference e) dart.carries (level (x e) (y e) s)))
        (tight_or_same e dart.link dart.is_link)

    pub same_flows : (e : ℕ) (link : Link) → IsLink net e link → x e ≡ y e
    same_flows e link p = level_back (x e) (y e) (forest-none net difference (λ k. HasState pattern k Tight) listed.forest allowed good balanced e link p)

  -- ---- for lists
  same_lists : (x y : List ℚ) → length x ≡ length net.links → length y ≡ length net.links → ((e : ℕ) (link : Link) → IsLink net e link → number_at x e ≡ number_at y e) → x ≡ y
  same_lists x y p q f = same_entries 0ℚ x y (p ∙ sym q) (λ e h. let n : (link : Link) × IsLink net e link = entry net.links e (subst (λ (k : ℕ). e < k) p h) in f e n.0 n.1)

  module _ (rate : ℚ) (x l y m : List ℚ) (p : Solves net sets rate pattern x l) (q : Solves net sets rate pattern y m) where
    same_source : number_at l net.source ≡ number_at m net.source
    same_source = p.starts ∙ sym q.starts

    same_nodes : (v : ℕ) → v < net.nodes → v ≢ net.sink → surplus net x v ≡ surplus net y v
    same_nodes v h other = ⊎_elim
        (λ (o : (eqb v net.source ≡ true) × (v ≡ net.source)). subst (λ (k : ℕ). surplus net x k ≡ surplus net y k) (sym o.1) (p.source ∙ sym q.source))
        (λ (o : (eqb v net.source ≡ false) × (v ≢ net.source)). p.inner v h o.1 other ∙ sym (q.inner v h o.1 other))
        (eqb_tells v net.source)

    pub Solves-unique : (x ≡ y) × (l ≡ m)
    Solves-unique = (
      same_lists x y p.flow_count q.flow_count (same_flows (number_at x) (number_at l) (number_at y) (number_at m) p.links q.links same_source same_nodes),
      same_entries 0ℚ l m (p.slope_count ∙ sym q.slope_count)
          (λ v h. same_slopes (number_at x) (number_at l) (number_at y) (number_at m) p.links q.links same_source same_nodes v (subst (λ (k : ℕ). v < k) p.slope_count h)),
    )

  pub IsSolution-met : (rate : ℚ) (x l : List ℚ) → Solves net sets rate pattern x l → Meets net pattern x l → IsSolution net sets rate pattern x l
  IsSolution-met rate x l p meets = record { solves = p; only = λ y m q. Solves-unique rate y m x l q p; meets = meets }

  -- ---- the homogeneous equations: 0 solves them too
  no_fill : (capacity : Option ℚ) (x t : ℚ) → Fills capacity x t → Fills capacity 0ℚ 0ℚ
  no_fill capacity x t f = (f.0, f.1, linear_eq (f.0 ∷ []) [] (search reading_of) tt tt)

  zero_meets : (state : Option State) (b : Bool) (capacity : Option ℚ) (x s t : ℚ) → Equation state b capacity x s t → Equation state b capacity 0ℚ 0ℚ 0ℚ
  zero_meets (Some Tight) b capacity x s t e = refl
  zero_meets (Some Full) b capacity x s t e = no_fill capacity x t e
  zero_meets (Some Zero) b capacity x s t e = refl
  zero_meets None true capacity x s t e = no_fill capacity x t e
  zero_meets None false capacity x s t e = refl

  module _ (x l : List ℚ) (p : SolvesHomogeneous net sets pattern x l) where
    second : MeetsLinks net sets pattern (λ _. 0ℚ) (λ _. 0ℚ)
    second e link state q h = zero_meets state (flag sets.resetting e) link.capacity (number_at x e) (number_at l link.tail) (number_at l link.head) (p.links e link state q h)

    nil_nodes : (v : ℕ) → out_less_in net.links (λ _. 0ℚ) v ≡ 0ℚ
    nil_nodes v = less _ _ (sum_out-none net.links v) (sum_in-none net.links v)
      where
        less : (a b : ℚ) → a ≡ 0ℚ → b ≡ 0ℚ → a -ℚ b ≡ 0ℚ
        less a b e f = linear_eq (a ∷ b ∷ []) (eq e ∷ eq f ∷ []) (search reading_of) tt tt

    nodes : (v : ℕ) → v < net.nodes → v ≢ net.sink → out_less_in net.links (number_at x) v ≡ out_less_in net.links (λ _. 0ℚ) v
    nodes v h other = p.nodes v h other ∙ sym (nil_nodes v)

    pub SolvesHomogeneous-flows : (e : ℕ) → number_at x e ≡ 0ℚ
    SolvesHomogeneous-flows e = go (slice_get net.links e) refl
      where
        go : (o : Option Link) → slice_get net.links e ≡ o → number_at x e ≡ 0ℚ
        go (Some link) q = same_flows (number_at x) (number_at l) (λ _. 0ℚ) (λ _. 0ℚ) p.links second p.starts nodes e link q
        go None q = number_at-beyond x e (let c : length x ≡ length net.links = p.flow_count in let n : length net.links ≤ e = entry_beyond net.links e q in omega arith)

    pub SolvesHomogeneous-slopes : (v : ℕ) → number_at l v ≡ 0ℚ
    SolvesHomogeneous-slopes v = ⊎_elim
        (λ (h : v < net.nodes). same_slopes (number_at x) (number_at l) (λ _. 0ℚ) (λ _. 0ℚ) p.links second p.starts nodes v h)
        (λ (h : net.nodes ≤ v). number_at-beyond l v (let c : length l ≡ net.nodes = p.slope_count in omega arith))
        (cases_lt v net.nodes)
