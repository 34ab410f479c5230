-- After an interrupted phase, its pattern restricted to the links that need a state is a listed pattern, with the same unique solution.
use Rattle.std.proofs.Common.{◌≡◌, ℕ, List, [], ◌∷◌, length, ◌⊎◌, inl, inr, ⊎_elim, Bool, true, false, Option, Some, None, slice_get, unwrap_or, sym, ap}
use Rattle.std.proofs.Common.{subst, refl, ◌∙◌, arith}
use Rattle.nf_resume_laws.proofs.Common.{slice_get_within, same_Some, ℚ, 0ℚ, ◌+ℚ◌, ◌-ℚ◌, ◌*ℚ◌, ◌≤ℚ◌, ◌<ℚ◌, reading_of, ≤ℚ_of_lt, ≤ℚ_of_same, ≤ℚ_antisymm}
use Rattle.nf_resume_laws.proofs.Common.{lt_or_le_ℚ, not_both_ℚ, less_nn, eq, eq_times, le_times, linear_le, linear_eq, gap_np, entry, number_at, Has, Link}
use Rattle.nf_resume_laws.proofs.Common.{Network, IsNetwork, IsLink, hops, hop_of, Sets, slack, sets_at, Pattern, HasState, NeedsState, IsTrail, IsListedIn}
use Rattle.nf_resume_laws.proofs.Common.{IsBase, Equation, Inequality, Solves, IsSolution, is_filled, State, active_of_slack, slack_of_active}
use Rattle.nf_resume_laws.proofs.Common.{resetting_of_slack, slack_of_resetting}
use Rattle.nf_model.specs.declared.State.TheVariants.{Tight, Full, Zero}
use Rattle.nf_model.specs.Walk.{Hop, IsHop}
use Rattle.nf_model_laws.proofs.Networks.{by_link, hop_at}

-- ---- the state of a link in the remainder: o before and b after; r and t say whether it is resetting before and after
pub data GoesOn (r t : Bool) : Option State → Option State → Type 0 where
  keeps : (state : State) → r ≡ false → t ≡ false → GoesOn r t (Some state) (Some state)
  fills : t ≡ true → GoesOn r t (Some Full) None
  drops : r ≡ false → t ≡ false → GoesOn r t (Some Zero) None
  stays : r ≡ t → GoesOn r t None None

equation_on : (r t : Bool) (o b : Option State) (capacity : Option ℚ) (flow tail head : ℚ) → GoesOn r t o b → Equation o r capacity flow tail head → Equation b t capacity flow tail head
equation_on r t o b capacity flow tail head (keeps Tight _ _) e = e
equation_on r t o b capacity flow tail head (keeps Full _ _) e = e
equation_on r t o b capacity flow tail head (keeps Zero _ _) e = e
equation_on r t o b capacity flow tail head (fills h) e = subst (λ (t : Bool). Equation None t capacity flow tail head) (sym h) e
equation_on r t o b capacity flow tail head (drops _ h) e = subst (λ (t : Bool). Equation None t capacity flow tail head) (sym h) e
equation_on r t o b capacity flow tail head (stays h) e = subst (λ (t : Bool). Equation None t capacity flow tail head) h e

equation_back : (r t : Bool) (o b : Option State) (capacity : Option ℚ) (flow tail head : ℚ) → GoesOn r t o b → Equation b t capacity flow tail head
    → Equation o r capacity flow tail head
equation_back r t o b capacity flow tail head (keeps Tight _ _) e = e
equation_back r t o b capacity flow tail head (keeps Full _ _) e = e
equation_back r t o b capacity flow tail head (keeps Zero _ _) e = e
equation_back r t o b capacity flow tail head (fills h) e = subst (λ (t : Bool). Equation None t capacity flow tail head) h e
equation_back r t o b capacity flow tail head (drops _ h) e = subst (λ (t : Bool). Equation None t capacity flow tail head) h e
equation_back r t o b capacity flow tail head (stays h) e = subst (λ (t : Bool). Equation None t capacity flow tail head) (sym h) e

inequality_on : (r t : Bool) (o b : Option State) (capacity : Option ℚ) (flow tail head : ℚ) → GoesOn r t o b → Inequality o capacity flow tail head
    → Inequality b capacity flow tail head
inequality_on r t o b capacity flow tail head (keeps Tight _ _) e = e
inequality_on r t o b capacity flow tail head (keeps Full _ _) e = e
inequality_on r t o b capacity flow tail head (keeps Zero _ _) e = e
inequality_on r t o b capacity flow tail head (fills h) e = tt
inequality_on r t o b capacity flow tail head (drops _ h) e = tt
inequality_on r t o b capacity flow tail head (stays h) e = tt

-- whether the flow fills the link stays the same
pub filled-same : (r t : Bool) (o b : Option State) → GoesOn r t o b → is_filled o r ≡ is_filled b t
filled-same r t o b (keeps Tight h k) = h ∙ sym k
filled-same r t o b (keeps Full h k) = refl
filled-same r t o b (keeps Zero h k) = h ∙ sym k
filled-same r t o b (fills h) = sym h
filled-same r t o b (drops h k) = h ∙ sym k
filled-same r t o b (stays h) = h

abbrev pub resets : Sets → ℕ → Bool
resets sets e = unwrap_or (slice_get sets.resetting e) false

-- ---- flags, by slack
module _ (net : Network) (labels : List ℚ) (e : ℕ) (link : Link) (p : IsLink net e link) where
  resets-high : 0ℚ <ℚ slack labels (hop_of link) → resets (sets_at net labels) e ≡ true
  resets-high h = ap (λ (o : Option Bool). unwrap_or o false) (resetting_of_slack net labels e link p h)

  resets-low : slack labels (hop_of link) ≤ℚ 0ℚ → resets (sets_at net labels) e ≡ false
  resets-low h = by (slice_get (sets_at net labels).resetting e) refl
    where
      by : (o : Option Bool) → slice_get (sets_at net labels).resetting e ≡ o → unwrap_or o false ≡ false
      by None k = refl
      by (Some false) k = refl
      by (Some true) k = absurd (not_both_ℚ _ _ (slack_of_resetting net labels e link p k) h)

  needs-zero : slack labels (hop_of link) ≡ 0ℚ → NeedsState (sets_at net labels) e
  needs-zero z = (active_of_slack net labels e link p (≤ℚ_of_same _ _ (sym z)), λ r. not_both_ℚ _ _ (slack_of_resetting net labels e link p r) (≤ℚ_of_same _ _ z))

  zero-needs : NeedsState (sets_at net labels) e → slack labels (hop_of link) ≡ 0ℚ
  zero-needs n =
      ≤ℚ_antisymm _ _ (⊎_elim (λ (h : 0ℚ <ℚ slack labels (hop_of link)). absurd (n.1 (resetting_of_slack net labels e link p h)))
      (λ (h : slack labels (hop_of link) ≤ℚ 0ℚ). h) (lt_or_le_ℚ 0ℚ (slack labels (hop_of link))))
      (slack_of_active net labels e link p n.0)

-- ---- a phase: the labels at first and at the interruption
module _ (net : Network) (good : IsNetwork net) (labels labels' slopes flows : List ℚ) (rate done : ℚ) (pattern base : Pattern) (some : 0ℚ <ℚ done)
    (moves : (e : ℕ) (link : Link) → IsLink net e link → slack labels' (hop_of link) ≡ slack labels (hop_of link) +ℚ done *ℚ (number_at slopes link.head -ℚ number_at slopes link.tail))
    (stays_below : (e : ℕ) (link : Link) → IsLink net e link → slack labels (hop_of link) <ℚ 0ℚ → slack labels' (hop_of link) <ℚ 0ℚ)
    (stays_above : (e : ℕ) (link : Link) → IsLink net e link → 0ℚ <ℚ slack labels (hop_of link) → 0ℚ <ℚ slack labels' (hop_of link))
    (listed : IsListedIn net (sets_at net labels) pattern) (solution : IsSolution net (sets_at net labels) rate pattern flows slopes)
    (count : length base ≡ length net.links) (same_count : length pattern ≡ length net.links)
    (is_base : IsBase (hops net) (sets_at net labels') pattern base) where
  abbrev before : ℕ → Bool
  before = resets (sets_at net labels)

  abbrev after : ℕ → Bool
  after = resets (sets_at net labels')

  -- The side to which a link with slack 0 moves, by its state.
  flat : (z c d y : ℚ) → y ≡ z +ℚ d *ℚ c → z ≡ 0ℚ → c ≡ 0ℚ → y ≡ 0ℚ
  flat z c d y e f g = linear_eq (z ∷ c ∷ d ∷ y ∷ []) (eq e ∷ eq f ∷ eq_times d g ∷ []) (search reading_of) tt tt

  up : (z c d y : ℚ) → y ≡ z +ℚ d *ℚ c → z ≡ 0ℚ → 0ℚ ≤ℚ c → 0ℚ <ℚ d → 0ℚ ≤ℚ y
  up z c d y e f g h = let n : 0ℚ ≤ℚ d = ≤ℚ_of_lt _ _ h in linear_le (z ∷ c ∷ d ∷ y ∷ []) (eq e ∷ eq f ∷ le_times n g ∷ []) (search reading_of) tt

  down : (z c d y : ℚ) → y ≡ z +ℚ d *ℚ c → z ≡ 0ℚ → c ≤ℚ 0ℚ → 0ℚ <ℚ d → y ≤ℚ 0ℚ
  down z c d y e f g h = let n : 0ℚ ≤ℚ d = ≤ℚ_of_lt _ _ h in linear_le (z ∷ c ∷ d ∷ y ∷ []) (eq e ∷ eq f ∷ le_times n g ∷ []) (search reading_of) tt

  no_gap : (a b : ℚ) → b ≡ a → b -ℚ a ≡ 0ℚ
  no_gap a b e = linear_eq (a ∷ b ∷ []) (eq e ∷ []) (search reading_of) tt tt

  -- A link without a state at the interruption: the base has none there.
  no_state : (e : ℕ) (b : Option State) → slice_get base e ≡ Some b → (NeedsState (sets_at net labels') e → ⊥) → b ≡ None
  no_state e None h n = refl
  no_state e (Some state) h n = absurd (n ((is_base.states e).1 (state, h)))

  no_state_before : (e : ℕ) (o : Option State) → slice_get pattern e ≡ Some o → (NeedsState (sets_at net labels) e → ⊥) → o ≡ None
  no_state_before e None h n = refl
  no_state_before e (Some state) h n = absurd (n ((listed.states.states e).1 (state, h)))

  module _ (e : ℕ) (link : Link) (p : IsLink net e link) where
    not_needed : (l : List ℚ) → (slack l (hop_of link) ≡ 0ℚ → ⊥) → NeedsState (sets_at net l) e → ⊥
    not_needed l h n = h (zero-needs net l e link p n)

    -- from slack 0, by the state
    by_state : (state : State) → HasState pattern e state → slack labels (hop_of link) ≡ 0ℚ → (b : Option State) → slice_get base e ≡ Some b → GoesOn (before e) (after e) (Some state) b
    by_state state has first b at = ⊎_elim
        (λ (h : slack labels' (hop_of link) <ℚ 0ℚ).
        subst (λ (b : Option State). GoesOn (before e) (after e) (Some state) b) (sym (no_state e b at (not_needed labels' (λ z. not_both_ℚ _ _ h (≤ℚ_of_same _ _ (sym z))))))
        (below state has h))
        (λ (h : 0ℚ ≤ℚ slack labels' (hop_of link)). ⊎_elim
        (λ (k : 0ℚ <ℚ slack labels' (hop_of link)).
        subst (λ (b : Option State). GoesOn (before e) (after e) (Some state) b) (sym (no_state e b at (not_needed labels' (λ z. not_both_ℚ _ _ k (≤ℚ_of_same _ _ z)))))
        (above state has k))
        (λ (k : slack labels' (hop_of link) ≤ℚ 0ℚ).
        subst (λ (b : Option State). GoesOn (before e) (after e) (Some state) b)
        (same_Some (Some state) b (sym (is_base.kept e state (needs-zero net labels' e link p (≤ℚ_antisymm _ _ k h)) has) ∙ at))
        (keeps state (resets-low net labels e link p (≤ℚ_of_same _ _ first)) (resets-low net labels' e link p k)))
        (lt_or_le_ℚ 0ℚ (slack labels' (hop_of link))))
        (lt_or_le_ℚ (slack labels' (hop_of link)) 0ℚ)
      where
        below : (state : State) → HasState pattern e state → slack labels' (hop_of link) <ℚ 0ℚ → GoesOn (before e) (after e) (Some state) None
        below Tight has h = absurd (not_both_ℚ _ _ h (≤ℚ_of_same _ _ (sym (flat _ _ done _ (moves e link p) first (no_gap _ _ (solution.solves.links e link (Some Tight) p has))))))
        below Full has h = absurd (not_both_ℚ _ _ h (up _ _ done _ (moves e link p) first (less_nn _ _ (solution.meets.links e link (Some Full) p has)) some))
        below Zero has h = drops (resets-low net labels e link p (≤ℚ_of_same _ _ first)) (resets-low net labels' e link p (≤ℚ_of_lt _ _ h))

        above : (state : State) → HasState pattern e state → 0ℚ <ℚ slack labels' (hop_of link) → GoesOn (before e) (after e) (Some state) None
        above Tight has h = absurd (not_both_ℚ _ _ h (≤ℚ_of_same _ _ (flat _ _ done _ (moves e link p) first (no_gap _ _ (solution.solves.links e link (Some Tight) p has)))))
        above Full has h = fills (resets-high net labels' e link p h)
        above Zero has h = absurd (not_both_ℚ _ _ h (down _ _ done _ (moves e link p) first (gap_np _ _ (solution.meets.links e link (Some Zero) p has)) some))

    without_state : (b : Option State) → slice_get base e ≡ Some b → (slack labels' (hop_of link) ≡ 0ℚ → ⊥) → before e ≡ after e → GoesOn (before e) (after e) None b
    without_state b at apart same = subst (λ (b : Option State). GoesOn (before e) (after e) None b) (sym (no_state e b at (not_needed labels' apart))) (stays same)

    pub goes-on : (o b : Option State) → slice_get pattern e ≡ Some o → slice_get base e ≡ Some b → GoesOn (before e) (after e) o b
    goes-on o b has at = ⊎_elim
        (λ (h : slack labels (hop_of link) <ℚ 0ℚ).
        subst (λ (o : Option State). GoesOn (before e) (after e) o b) (sym (no_state_before e o has (not_needed labels (λ z. not_both_ℚ _ _ h (≤ℚ_of_same _ _ (sym z))))))
        (without_state b at (λ z. not_both_ℚ _ _ (stays_below e link p h) (≤ℚ_of_same _ _ (sym z)))
        (resets-low net labels e link p (≤ℚ_of_lt _ _ h) ∙ sym (resets-low net labels' e link p (≤ℚ_of_lt _ _ (stays_below e link p h))))))
        (λ (h : 0ℚ ≤ℚ slack labels (hop_of link)). ⊎_elim
        (λ (k : 0ℚ <ℚ slack labels (hop_of link)).
        subst (λ (o : Option State). GoesOn (before e) (after e) o b) (sym (no_state_before e o has (not_needed labels (λ z. not_both_ℚ _ _ k (≤ℚ_of_same _ _ z)))))
        (without_state b at (λ z. not_both_ℚ _ _ (stays_above e link p k) (≤ℚ_of_same _ _ z))
        (resets-high net labels e link p k ∙ sym (resets-high net labels' e link p (stays_above e link p k)))))
        (λ (k : slack labels (hop_of link) ≤ℚ 0ℚ).
        let first : slack labels (hop_of link) ≡ 0ℚ = ≤ℚ_antisymm _ _ k h in
        let state : (state : State) × HasState pattern e state = (listed.states.states e).0 (needs-zero net labels e link p first) in
        subst (λ (o : Option State). GoesOn (before e) (after e) o b) (same_Some (Some state.0) o (sym state.1 ∙ has)) (by_state state.0 state.1 first b at))
        (lt_or_le_ℚ 0ℚ (slack labels (hop_of link))))
        (lt_or_le_ℚ (slack labels (hop_of link)) 0ℚ)

  entry_before : (e : ℕ) (link : Link) → IsLink net e link → (o : Option State) × (slice_get pattern e ≡ Some o)
  entry_before e link p = entry pattern e (let h = slice_get_within net.links e link p in let c = same_count in omega arith)

  entry_after : (e : ℕ) (link : Link) → IsLink net e link → (b : Option State) × (slice_get base e ≡ Some b)
  entry_after e link p = entry base e (let h = slice_get_within net.links e link p in let c = count in omega arith)

  -- ---- the same solutions
  -- The equations of the nodes are those of any pattern.
  solves_with : (old new : Sets) (p q : Pattern) (f l : List ℚ) → Solves net old rate p f l
      → ((e : ℕ) (link : Link) (state : Option State) → IsLink net e link → slice_get q e ≡ Some state
      → Equation state (unwrap_or (slice_get new.resetting e) false) link.capacity (number_at f e) (number_at l link.tail) (number_at l link.head)) → Solves net new rate q f l
  solves_with old new p q f l s links = record { flow_count = s.flow_count; slope_count = s.slope_count; starts = s.starts; source = s.source; inner = s.inner; links = links }

  pub Solves-on : (f l : List ℚ) → Solves net (sets_at net labels) rate pattern f l → Solves net (sets_at net labels') rate base f l
  Solves-on f l s =
      solves_with (sets_at net labels) (sets_at net labels') pattern base f l s
      (λ e link b p at. let o : (o : Option State) × (slice_get pattern e ≡ Some o) = entry_before e link p in
      equation_on (before e) (after e) o.0 b link.capacity _ _ _ (goes-on e link p o.0 b o.1 at) (s.links e link o.0 p o.1))

  pub Solves-back : (f l : List ℚ) → Solves net (sets_at net labels') rate base f l → Solves net (sets_at net labels) rate pattern f l
  Solves-back f l s =
      solves_with (sets_at net labels') (sets_at net labels) base pattern f l s
      (λ e link o p has. let b : (b : Option State) × (slice_get base e ≡ Some b) = entry_after e link p in
      equation_back (before e) (after e) o b.0 link.capacity _ _ _ (goes-on e link p o b.0 has b.1) (s.links e link b.0 p b.1))

  pub IsSolution-restricted : IsSolution net (sets_at net labels') rate base flows slopes
  IsSolution-restricted = record {
    solves = Solves-on flows slopes solution.solves;
    only = λ f l s. solution.only f l (Solves-back f l s);
    meets = record {
      no_negative_flow = solution.meets.no_negative_flow;
      no_negative_slope = solution.meets.no_negative_slope;
      links = λ e link b p at. let o : (o : Option State) × (slice_get pattern e ≡ Some o) = entry_before e link p in
          inequality_on (before e) (after e) o.0 b link.capacity _ _ _ (goes-on e link p o.0 b o.1 at) (solution.meets.links e link o.0 p o.1);
    };
  }

  -- ---- the pattern is listed: its states are states of the pattern
  link_of : (e : ℕ) (state : State) → HasState base e state → (link : Link) × IsLink net e link
  link_of e state h = entry net.links e (let k = slice_get_within base e (Some state) h in let c = count in omega arith)

  from_pattern : (e : ℕ) (state : State) → HasState base e state → HasState pattern e state
  from_pattern e state h =
      let l : (link : Link) × IsLink net e link = link_of e state h in
      let o : (o : Option State) × (slice_get pattern e ≡ Some o) = entry_before e l.0 l.1 in
      o.1 ∙ ap (λ (o : Option State). Some o) (kept o.0 state (goes-on e l.0 l.1 o.0 (Some state) o.1 h))
    where
      kept : (o : Option State) (state : State) → GoesOn (before e) (after e) o (Some state) → o ≡ Some state
      kept o state (keeps _ _ _) = refl

  trail_on : (hs : List Hop) (steps : List (ℕ × Bool)) (v w : ℕ) → IsTrail hs (λ e. HasState base e Tight) steps v w → IsTrail hs (λ e. HasState pattern e Tight) steps v w
  trail_on hs [] v w t = t
  trail_on hs ((e, true) ∷ steps) v w t = (t.0, t.1, from_pattern e Tight t.2, t.3, trail_on hs steps _ w t.4)
  trail_on hs ((e, false) ∷ steps) v w t = (t.0, t.1, from_pattern e Tight t.2, t.3, trail_on hs steps _ w t.4)

  abbrev Into : ℕ → Type 0
  Into v = (e : ℕ) × (hop : Hop) × IsHop (hops net) e hop × (hop.head ≡ v) × (Has (sets_at net labels').resetting e ⊎ (HasState base e Tight ⊎ HasState base e Full))

  into_by : (v e : ℕ) (link : Link) → IsLink net e link → link.head ≡ v → (Has (sets_at net labels).resetting e ⊎ (HasState pattern e Tight ⊎ HasState pattern e Full)) → Into v
  into_by v e link p at w =
      let b : (b : Option State) × (slice_get base e ≡ Some b) = entry_after e link p in (
        e,
        hop_of link,
        hop_at net e link p,
        at,
        ⊎_elim
            (λ (r : Has (sets_at net labels).resetting e). inl (resetting_of_slack net labels' e link p (stays_above e link p (slack_of_resetting net labels e link p r))))
            (λ (s : HasState pattern e Tight ⊎ HasState pattern e Full). ⊎_elim
            (λ (t : HasState pattern e Tight). inr (inl (b.1 ∙ ap (λ (o : Option State). Some o) (tight b.0 (goes-on e link p (Some Tight) b.0 t b.1)))))
            (λ (t : HasState pattern e Full). full b.0 b.1 (goes-on e link p (Some Full) b.0 t b.1)) s) w,
      )
    where
      tight : (b : Option State) → GoesOn (before e) (after e) (Some Tight) b → b ≡ Some Tight
      tight b (keeps _ _ _) = refl

      flagged : after e ≡ true → Has (sets_at net labels').resetting e
      flagged h = by (slice_get (sets_at net labels').resetting e) refl h
        where
          by : (o : Option Bool) → slice_get (sets_at net labels').resetting e ≡ o → unwrap_or o false ≡ true → slice_get (sets_at net labels').resetting e ≡ Some true
          by None k h = absurd (cc)
          by (Some false) k h = absurd (cc)
          by (Some true) k h = k

      full : (b : Option State) → slice_get base e ≡ Some b → GoesOn (before e) (after e) (Some Full) b
          → Has (sets_at net labels').resetting e ⊎ (HasState base e Tight ⊎ HasState base e Full)
      full b h (keeps _ _ _) = inr (inr h)
      full b h (fills t) = inl (flagged t)

  into : (v e : ℕ) (hop : Hop) → IsHop (hops net) e hop → hop.head ≡ v → (Has (sets_at net labels).resetting e ⊎ (HasState pattern e Tight ⊎ HasState pattern e Full)) → Into v
  into v e hop p =
      by_link net (λ (h : Hop). h.head ≡ v → (Has (sets_at net labels).resetting e ⊎ (HasState pattern e Tight ⊎ HasState pattern e Full)) → Into v) e
      (λ link q. into_by v e link q) hop p

  pub IsListed-restricted : IsListedIn net (sets_at net labels') base
  IsListed-restricted = record {
    states = record { count = is_base.count; states = is_base.states; no_full = λ e u h. listed.states.no_full e u (from_pattern e Full h) };
    forest = λ first steps v differ trail. listed.forest first steps v differ (trail_on (hops net) (first ∷ steps) v v trail);
    entered = λ v h other. let w = listed.entered v h other in into v w.0 w.1 w.2 w.3 w.4;
  }
