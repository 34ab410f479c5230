-- The states of links in the pattern of settled flows. The flows solve the pattern's equations and satisfy its inequalities.
use Rattle.std.proofs.Common.{◌≡◌, ◌≢◌, ℕ, ◌<◌, List, [], ◌∷◌, ◌⊎◌, inl, inr, ⊎_elim, Bool, true, false, Option, Some, None, slice_get, sym, ap, subst}
use Rattle.std.proofs.Common.{refl, ◌∙◌, is_none}
use Rattle.nf_complete_laws.proofs.Common.{same_Some, slice_get-map, none-some, ℚ, 0ℚ, ◌*ℚ◌, ◌≤ℚ◌, ◌<ℚ◌, reading_of, ≤ℚ_of_lt, ≤ℚ_antisymm, lt_or_le_ℚ}
use Rattle.nf_complete_laws.proofs.Common.{nn_times, le, eq, linear_le, ps_apart, State, Tight, Full, Zero, number_at, Has, Hop, IsHop, Link, Network}
use Rattle.nf_complete_laws.proofs.Common.{IsLink, hop_of, hops, unbounded, Sets, exit_slope, exit_slope_at, Enters, IsThinFlow, Pattern, HasState}
use Rattle.nf_complete_laws.proofs.Common.{NeedsState, IsPattern, Fills, Equation, Inequality, Solves, Meets, IsPositive, IsPositive-link, hop_at, flag}
use Rattle.nf_complete_laws.proofs.Common.{flag-cases, exit_tight, IsInterior, IsBare, LeadsToBare, IsSettledPattern, AreGoodSets, some_or_none}
use Rattle.nf_complete_laws.proofs.Common.{le_from_times, LinkLaw, link_law}
use Rattle.std.specs.Option.{option_map}
use Rattle.nf_complete_laws.proofs.Levels.{state_law, interior-level}
use Rattle.nf_complete_laws.proofs.Deciding.{Decided, same_or_not, First, NoLink, first_or_none}
use Rattle.nf_complete_laws.proofs.Bare.{flagged, Brings, brings_or_not, IsBare-none, LevelInto, level_or_not, IsFirstLevel-first, leads_or_not}

-- ---- plain numbers: x is the flow of a link, s and t the slopes of its tail and its head
pub fills_or_not : (capacity : Option ℚ) (x t : ℚ) → Decided (Fills capacity x t)
fills_or_not None x t = inr (λ f. absurd (none-some f.0 f.1))
fills_or_not (Some c) x t = ⊎_elim
    (λ (e : x ≡ c *ℚ t). inl (c, refl, e))
    (λ (n : x ≡ c *ℚ t → ⊥). inr (λ f. n (f.2 ∙ ap (λ (z : ℚ). z *ℚ t) (sym (same_Some c f.0 f.1)))))
    (same_or_not x (c *ℚ t))

below_full : (capacity : Option ℚ) (x s t : ℚ) → LinkLaw false capacity x s t → 0ℚ <ℚ x → (Fills capacity x t → ⊥) → (c : ℚ) → capacity ≡ Some c → x <ℚ c *ℚ t
below_full None x s t l h n c e = absurd (cc)
below_full (Some d) x s t l h n c e = subst (λ (z : ℚ). x <ℚ z *ℚ t) (same_Some d c e) (⊎_elim
    (λ (w : x <ℚ d *ℚ t). w)
    (λ (w : d *ℚ t ≤ℚ x). absurd (n (d, refl, ≤ℚ_antisymm _ _ (l.used refl h).1 w)))
    (lt_or_le_ℚ x (d *ℚ t)))

-- an empty link
empty_slopes : (capacity : Option ℚ) (x s t : ℚ) → IsPositive capacity → LinkLaw false capacity x s t → x ≡ 0ℚ → 0ℚ ≤ℚ s → t ≤ℚ s
empty_slopes None x s t p l e n = l.upper
empty_slopes (Some c) x s t p l e n = ⊎_elim
    (λ (w : t ≤ℚ s). w)
    (λ (w : c *ℚ t ≤ℚ x). below (le_from_times c t 0ℚ (p c refl) (zero w)))
    (l.upper refl)
  where
    zero : c *ℚ t ≤ℚ x → c *ℚ t ≤ℚ c *ℚ 0ℚ
    zero w = linear_le (c ∷ t ∷ x ∷ []) (le w ∷ eq e ∷ []) (search reading_of) tt

    below : t ≤ℚ 0ℚ → t ≤ℚ s
    below w = linear_le (s ∷ t ∷ []) (le w ∷ le n ∷ []) (search reading_of) tt

pub empty_exit : (capacity : Option ℚ) (x s : ℚ) → IsPositive capacity → x ≡ 0ℚ → 0ℚ ≤ℚ s → exit_slope false capacity x s ≡ s
empty_exit capacity x s p e n = exit_tight capacity x s s p refl (λ c h. at_most c (≤ℚ_of_lt _ _ (p c h)))
  where
    at_most : (c : ℚ) → 0ℚ ≤ℚ c → x ≤ℚ c *ℚ s
    at_most c h = let w : 0ℚ ≤ℚ c *ℚ s = nn_times c s h n in linear_le (x ∷ c ∷ s ∷ []) (eq e ∷ le w ∷ []) (search reading_of) tt

reset_fills : (capacity : Option ℚ) (x s t : ℚ) → (capacity ≡ None → ⊥) → LinkLaw true capacity x s t → Fills capacity x t
reset_fills None x s t n l = absurd (n refl)
reset_fills (Some c) x s t n l = (c, refl, l.full refl)

full_up : (capacity : Option ℚ) (x s t : ℚ) → LinkLaw false capacity x s t → 0ℚ <ℚ x → Fills capacity x t → s ≤ℚ t
full_up None x s t l h f = absurd (none-some f.0 f.1)
full_up (Some c) x s t l h f = (l.used refl h).0

module _ (net : Network) (sets : Sets) (rate : ℚ) (flows slopes : List ℚ) (pattern : Pattern) (good : AreGoodSets net sets) (thin : IsThinFlow net sets rate flows slopes)
    (settled : IsSettledPattern net sets flows slopes pattern) where
  abbrev x : ℕ → ℚ
  x e = number_at flows e

  abbrev l : ℕ → ℚ
  l v = number_at slopes v

  law : (e : ℕ) (link : Link) → IsLink net e link → NeedsState sets e → LinkLaw false link.capacity (x e) (l link.tail) (l link.head)
  law = state_law net sets rate flows slopes good.network good.acyclic thin

  -- the classes of a link that needs a state
  pub data Class (e : ℕ) (link : Link) : Type 0 where
    led : HasState pattern e Tight → LeadsToBare net sets flows slopes e link → Class e link
    empty : HasState pattern e Zero → x e ≡ 0ℚ → Class e link
    full : HasState pattern e Full → 0ℚ <ℚ x e → Fills link.capacity (x e) (l link.head) → Class e link
    between : HasState pattern e Tight → IsInterior net sets slopes flows e → Class e link

  pub class : (e : ℕ) (link : Link) → IsLink net e link → NeedsState sets e → Class e link
  class e link p n = ⊎_elim
      (λ (w : LeadsToBare net sets flows slopes e link). led (settled.led e link p n w) w)
      (λ (w : LeadsToBare net sets flows slopes e link → ⊥). ⊎_elim
      (λ (h : 0ℚ <ℚ x e). ⊎_elim
      (λ (f : Fills link.capacity (x e) (l link.head)). full (settled.full e link p n (ps_apart (x e) h) f) h f)
      (λ (f : Fills link.capacity (x e) (l link.head) → ⊥). between (settled.tight e link p n (ps_apart (x e) h) f)
      (record { link = link; is_link = p; needs = n; some = h; not_full = below_full link.capacity _ _ _ (law e link p n) h f }))
      (fills_or_not link.capacity (x e) (l link.head)))
      (λ (z : x e ≡ 0ℚ). empty (settled.zero e link p n z w) z)
      (some_or_none (x e) (thin.no_negative_flow e)))
      (leads_or_not net sets rate flows slopes good.network thin e link p n.0)

  -- the state that a class gives
  abbrev Known : ℕ → Link → State → Type 0
  Known e link Tight = number_at slopes link.head ≡ number_at slopes link.tail
  Known e link Full = (0ℚ <ℚ x e) × Fills link.capacity (x e) (l link.head)
  Known e link Zero = x e ≡ 0ℚ

  state_of : (e : ℕ) (link : Link) → IsLink net e link → NeedsState sets e → (state : State) × HasState pattern e state × Known e link state
  state_of e link p n = by (class e link p n)
    where
      by : Class e link → (state : State) × HasState pattern e state × Known e link state
      by (led h b) = (Tight, h, b.first.level)
      by (empty h z) = (Zero, h, z)
      by (full h k f) = (Full, h, (k, f))
      by (between h i) = (Tight, h, interior-level net sets rate flows slopes good.network good.acyclic thin e i link p)

  same_state : (e : ℕ) (a b : State) → HasState pattern e a → HasState pattern e b → a ≡ b
  same_state e a b h k = cc

  not_reset : (e : ℕ) → NeedsState sets e → flag sets.resetting e ≡ false
  not_reset e n = ⊎_elim
      (λ (w : (flag sets.resetting e ≡ true) × Has sets.resetting e). absurd (n.1 w.1))
      (λ (w : (flag sets.resetting e ≡ false) × (Has sets.resetting e → ⊥)). w.0)
      (flag-cases sets.resetting e)

  -- ---- equations and inequalities
  known-equation : (e : ℕ) (link : Link) (b : Bool) (state : State) → Known e link state → Equation (Some state) b link.capacity (x e) (l link.tail) (l link.head)
  known-equation e link b Tight k = k
  known-equation e link b Full k = k.1
  known-equation e link b Zero k = k

  at_most : (capacity : Option ℚ) (y s t : ℚ) → IsPositive capacity → LinkLaw false capacity y s t → 0ℚ ≤ℚ y → 0ℚ ≤ℚ t → (c : ℚ) → capacity ≡ Some c → y ≤ℚ c *ℚ t
  at_most None y s t p w n m c e = absurd (cc)
  at_most (Some d) y s t p w n m c e = subst (λ (z : ℚ). y ≤ℚ z *ℚ t) (same_Some d c e) (⊎_elim
      (λ (h : 0ℚ <ℚ y). (w.used refl h).1)
      (λ (h : y ≡ 0ℚ). zero h (≤ℚ_of_lt _ _ (p d refl)))
      (some_or_none y n))
    where
      zero : y ≡ 0ℚ → 0ℚ ≤ℚ d → y ≤ℚ d *ℚ t
      zero h k = let q : 0ℚ ≤ℚ d *ℚ t = nn_times d t k m in linear_le (y ∷ d ∷ t ∷ []) (eq h ∷ le q ∷ []) (search reading_of) tt

  known-inequality : (e : ℕ) (link : Link) → IsLink net e link → NeedsState sets e → (state : State) → Known e link state
      → Inequality (Some state) link.capacity (x e) (l link.tail) (l link.head)
  known-inequality e link p n Tight k =
      at_most link.capacity (x e) (l link.tail) (l link.head) (IsPositive-link net e link good.network p) (law e link p n) (thin.no_negative_flow e)
      (thin.no_negative_slope link.head)
  known-inequality e link p n Full k = full_up link.capacity (x e) (l link.tail) (l link.head) (law e link p n) k.0 k.1
  known-inequality e link p n Zero k =
      empty_slopes link.capacity (x e) (l link.tail) (l link.head) (IsPositive-link net e link good.network p) (law e link p n) k
      (thin.no_negative_slope link.tail)

  stateless : (e : ℕ) (link : Link) → IsLink net e link → (NeedsState sets e → ⊥) → Equation None (flag sets.resetting e) link.capacity (x e) (l link.tail) (l link.head)
  stateless e link p n = ⊎_elim
      (λ (r : (flag sets.resetting e ≡ true) × Has sets.resetting e). subst (λ (b : Bool). Equation None b link.capacity (x e) (l link.tail) (l link.head)) (sym r.0)
      (reset_fills link.capacity (x e) (l link.tail) (l link.head) (λ h. good.bounded e link p h r.1)
      (subst (λ (b : Bool). LinkLaw b link.capacity (x e) (l link.tail) (l link.head)) r.0
      (link_law net sets rate good.network good.acyclic flows slopes thin e link p (good.sets_are.resetting e r.1)))))
      (λ (r : (flag sets.resetting e ≡ false) × (Has sets.resetting e → ⊥)). subst (λ (b : Bool). Equation None b link.capacity (x e) (l link.tail) (l link.head)) (sym r.0)
      (thin.active_only e (λ a. n (a, r.1))))
      (flag-cases sets.resetting e)

  -- an entry of the pattern is the state of a link that needs one, or none
  by_entry : (e : ℕ) (link : Link) (P : Option State → Type 0) → IsLink net e link → ((n : NeedsState sets e) (state : State) → Known e link state → P (Some state))
      → ((NeedsState sets e → ⊥) → P None) → (entry : Option State) → slice_get pattern e ≡ Some entry → P entry
  by_entry e link P p f g None h = g (λ n. absurd (none_of n))
    where
      none_of : NeedsState sets e → ⊥
      none_of n = let s = (settled.states e).0 n in clash_none s.0 (same_Some (Some s.0) None (sym s.1 ∙ h))
        where
          clash_none : (s : State) → Some s ≡ None → ⊥
          clash_none s k = cc
  by_entry e link P p f g (Some state) h =
      let n = (settled.states e).1 (state, h) in
      let s = state_of e link p n in
      f n state (subst (λ (k : State). Known e link k) (same_state e s.0 state s.1 h) s.2)

  pub Solves-settled : Solves net sets rate pattern flows slopes
  Solves-settled = record {
    flow_count = thin.flow_count;
    slope_count = thin.slope_count;
    starts = thin.starts;
    source = thin.source;
    inner = thin.inner;
    links = λ e link entry p h. by_entry e link (λ o. Equation o (flag sets.resetting e) link.capacity (x e) (l link.tail) (l link.head)) p
        (λ n state k. known-equation e link (flag sets.resetting e) state k) (λ n. stateless e link p n) entry h;
  }

  pub Meets-settled : Meets net pattern flows slopes
  Meets-settled = record {
    no_negative_flow = thin.no_negative_flow;
    no_negative_slope = thin.no_negative_slope;
    links = λ e link entry p h. by_entry e link (λ o. Inequality o link.capacity (x e) (l link.tail) (l link.head)) p
        (λ n state k. known-inequality e link p n state k) (λ n. tt) entry h;
  }

  -- ---- listed: states
  unbounded_none : (e : ℕ) (link : Link) → IsLink net e link → Has (unbounded net) e → link.capacity ≡ None
  unbounded_none e link p h =
      by link.capacity (same_Some (is_none link.capacity) true (sym (slice_get-map (λ (m : Link). is_none m.capacity) net.links e
      ∙ ap (option_map (λ (m : Link). is_none m.capacity)) p) ∙ h))
    where
      by : (o : Option ℚ) → is_none o ≡ true → o ≡ None
      by None k = refl
      by (Some c) k = absurd (cc)

  pub IsPattern-settled : IsPattern sets (unbounded net) pattern
  IsPattern-settled = record { count = settled.count; states = settled.states; no_full = no_full }
    where
      no_full : (e : ℕ) → Has (unbounded net) e → HasState pattern e Full → ⊥
      no_full e u h = by (slice_get net.links e) refl
        where
          filled : (link : Link) → IsLink net e link → (0ℚ <ℚ x e) × Fills link.capacity (x e) (l link.head) → ⊥
          filled link p k = none-some k.1.0 (sym (unbounded_none e link p u) ∙ k.1.1)

          beyond : slice_get net.links e ≡ None → ⊥
          beyond k = none_set (sym (slice_get-map (λ (m : Link). is_none m.capacity) net.links e ∙ ap (option_map (λ (m : Link). is_none m.capacity)) k) ∙ u)
            where
              none_set : None ≡ Some true → ⊥
              none_set e = cc

          by : (o : Option Link) → slice_get net.links e ≡ o → ⊥
          by None k = beyond k
          by (Some link) p = let s = state_of e link p ((settled.states e).1 (Full, h)) in
              filled link p (subst (λ (k : State). Known e link k) (same_state e s.0 Full s.1 h) s.2)

  -- ---- listed: each node but the source is entered
  abbrev Entered : ℕ → Type 0
  Entered v = (e : ℕ) × (hop : Hop) × IsHop (hops net) e hop × (hop.head ≡ v) × (Has sets.resetting e ⊎ (HasState pattern e Tight ⊎ HasState pattern e Full))

  by_class : (e : ℕ) (link : Link) → (x e ≡ 0ℚ → ⊥) → Class e link → HasState pattern e Tight ⊎ HasState pattern e Full
  by_class e link z (led h b) = inl h
  by_class e link z (empty h k) = absurd (z k)
  by_class e link z (full h k f) = inr h
  by_class e link z (between h i) = inl h

  brought : (v : ℕ) → First net.links (Brings net sets rate flows slopes good.network thin v) → Entered v
  brought v f = (
    f.0,
    hop_of f.1,
    hop_at net f.0 f.1 f.2,
    f.3.1.0,
    ⊎_elim
        (λ (r : Has sets.resetting f.0). inl r)
        (λ (z : x f.0 ≡ 0ℚ → ⊥). ⊎_elim
        (λ (r : Has sets.resetting f.0). inl r)
        (λ (r : Has sets.resetting f.0 → ⊥). inr (by_class f.0 f.1 z (class f.0 f.1 f.2 (f.3.0, r))))
        (flagged sets.resetting f.0))
        f.3.1.1,
  )

  level_taken : (v e : ℕ) (link : Link) → IsBare net sets flows v → Enters net sets v e link → exit_slope_at sets flows slopes e link ≡ l v
      → number_at slopes link.head ≡ number_at slopes link.tail
  level_taken v e link b n t =
      let z = b.bare e link n in
      ap l n.head ∙ sym t ∙ ap (λ (r : Bool). exit_slope r link.capacity (x e) (l link.tail)) (not_reset e (n.active, z.0))
      ∙ empty_exit link.capacity (x e) (l link.tail) (IsPositive-link net e link good.network n.is_link) z.1 (thin.no_negative_slope link.tail)

  bare_entered : (v : ℕ) → v < net.nodes → v ≢ net.source → IsBare net sets flows v → Entered v
  bare_entered v h other b = ⊎_elim
      (λ (f : First net.links (LevelInto net sets rate flows slopes good.network thin v)).
      let n : NeedsState sets f.0 = (f.3.0, (b.bare f.0 f.1 (record { is_link = f.2; active = f.3.0; head = f.3.1.0 })).0) in (
        f.0,
        hop_of f.1,
        hop_at net f.0 f.1 f.2,
        f.3.1.0,
        inr (inl (settled.led f.0 f.1 f.2 n (record {
          enters = record { is_link = f.2; active = f.3.0; head = refl };
          bare = subst (λ (k : ℕ). IsBare net sets flows k) (sym f.3.1.0) b;
          first = IsFirstLevel-first net sets rate flows slopes good.network thin v f;
        }))),
      ))
      (λ (none : NoLink net.links (LevelInto net sets rate flows slopes good.network thin v)).
      let t = thin.taken v h other in
      absurd (none t.0 t.1 t.2.is_link (t.2.active, (t.2.head, level_taken v t.0 t.1 b t.2 t.3))))
      (first_or_none net.links (LevelInto net sets rate flows slopes good.network thin v) (level_or_not net sets rate flows slopes good.network thin v))

  pub entered-settled : (v : ℕ) → v < net.nodes → v ≢ net.source → Entered v
  entered-settled v h other = ⊎_elim
      (λ (f : First net.links (Brings net sets rate flows slopes good.network thin v)). brought v f)
      (λ (n : NoLink net.links (Brings net sets rate flows slopes good.network thin v)). bare_entered v h other (IsBare-none net sets rate flows slopes good.network thin v other n))
      (first_or_none net.links (Brings net sets rate flows slopes good.network thin v) (brings_or_not net sets rate flows slopes good.network thin v))
