-- A solution of a listed pattern's equations that meets its inequalities is a thin flow.
use Rattle.std.proofs.Common.{◌≡◌, ◌≢◌, ℕ, ◌<◌, ◌≤◌, List, length, Bool, true, false, Option, Some, None, slice_get, sym, ap, subst, refl, ◌∙◌, arith}
use Rattle.nf_thin_laws.proofs.Common.{ℚ, 0ℚ, ◌≤ℚ◌, ◌<ℚ◌, ≤ℚ_of_same, not_both_ℚ, State, Tight, Full, Zero, number_at, Has, Link, Network, IsLink}
use Rattle.nf_thin_laws.proofs.Common.{IsNetwork, unbounded, Sets, exit_slope, exit_slope_at, Enters, IsThinFlow, Pattern, HasState, IsPattern, Equation}
use Rattle.nf_thin_laws.proofs.Common.{Solves, Meets, IsPositive-link, AreSets, EachIsLed}
use Rattle.nf_thin_laws.proofs.Flags.{entry_beyond, number_at-beyond, flag}
use Rattle.nf_thin_laws.proofs.ExitSlopes.{exit_resetting, exit_full, exit_tight, exit_zero}
use Rattle.nf_thin_laws.proofs.Patterns.{Stands, with_state, resets, inactive, stands, Leads, by_tight, by_full, by_reset, led}

-- ---- an active link in a pattern: its exit slope is the slope of its head, or it carries nothing and its exit slope is
-- at least that slope
data Exits (exit t x : ℚ) : Type 0 where
  just : exit ≡ t → Exits exit t x
  idle : t ≤ℚ exit → x ≡ 0ℚ → Exits exit t x

module _ (net : Network) (sets : Sets) (rate : ℚ) (pattern : Pattern) (flows slopes : List ℚ) (good : IsNetwork net) (are : AreSets net sets)
    (is_pattern : IsPattern sets (unbounded net) pattern) (leads : EachIsLed net sets pattern) (solves : Solves net sets rate pattern flows slopes)
    (meets : Meets net pattern flows slopes) where
  abbrev exit_of : ℕ → Link → ℚ
  exit_of e link = exit_slope_at sets flows slopes e link

  by_flag : (e : ℕ) (link : Link) (b : Bool) (P : ℚ → Type 0) → flag sets.resetting e ≡ b
      → P (exit_slope b link.capacity (number_at flows e) (number_at slopes link.tail)) → P (exit_of e link)
  by_flag e link b P h p = subst (λ (c : Bool). P (exit_slope c link.capacity (number_at flows e) (number_at slopes link.tail))) (sym h) p

  abbrev Just : ℕ → Link → Type 0
  Just e link = exit_of e link ≡ number_at slopes link.head

  resetting_just : (e : ℕ) (link : Link) → IsLink net e link → slice_get pattern e ≡ Some None → flag sets.resetting e ≡ true → Just e link
  resetting_just e link p h f = by_flag e link true (λ (z : ℚ). z ≡ number_at slopes link.head) f
      (exit_resetting link.capacity _ _ _ (IsPositive-link net e link good p)
      (subst (λ (b : Bool). Equation None b link.capacity (number_at flows e) (number_at slopes link.tail) (number_at slopes link.head)) f (solves.links e link None p h)))

  tight_just : (e : ℕ) (link : Link) → IsLink net e link → HasState pattern e Tight → flag sets.resetting e ≡ false → Just e link
  tight_just e link p h f = by_flag e link false (λ (z : ℚ). z ≡ number_at slopes link.head) f
      (exit_tight link.capacity _ _ _ (IsPositive-link net e link good p) (solves.links e link (Some Tight) p h) (meets.links e link (Some Tight) p h))

  full_just : (e : ℕ) (link : Link) → IsLink net e link → HasState pattern e Full → flag sets.resetting e ≡ false → Just e link
  full_just e link p h f = by_flag e link false (λ (z : ℚ). z ≡ number_at slopes link.head) f
      (exit_full link.capacity _ _ _ (IsPositive-link net e link good p) (solves.links e link (Some Full) p h) (meets.links e link (Some Full) p h))

  abbrev ExitsAt : ℕ → Link → Type 0
  ExitsAt e link = Exits (exit_of e link) (number_at slopes link.head) (number_at flows e)

  by_state : (e : ℕ) (link : Link) (state : State) → IsLink net e link → HasState pattern e state → flag sets.resetting e ≡ false → ExitsAt e link
  by_state e link Tight p h f = just (tight_just e link p h f)
  by_state e link Full p h f = just (full_just e link p h f)
  by_state e link Zero p h f =
      idle (by_flag e link false (λ (z : ℚ). number_at slopes link.head ≤ℚ z) f
      (exit_zero link.capacity (number_at flows e) _ _ (meets.links e link (Some Zero) p h)))
      (solves.links e link (Some Zero) p h)

  exits : (e : ℕ) (link : Link) → IsLink net e link → Has sets.active e → ExitsAt e link
  exits e link p a = go (stands net sets pattern are is_pattern e link p)
    where
      go : Stands pattern sets e → ExitsAt e link
      go (with_state state h f _) = by_state e link state p h f
      go (resets h f _) = just (resetting_just e link p h f)
      go (inactive h f none) = absurd (none a)

  at_least : (t exit x : ℚ) → Exits exit t x → t ≤ℚ exit
  at_least t exit x (just e) = ≤ℚ_of_same _ _ (sym e)
  at_least t exit x (idle h e) = h

  with_flow : (t exit x : ℚ) → Exits exit t x → 0ℚ <ℚ x → exit ≡ t
  with_flow t exit x (just e) h = e
  with_flow t exit x (idle k e) h = absurd (not_both_ℚ _ _ h (≤ℚ_of_same _ _ e))

  -- ---- a link that is not active carries nothing
  no_flow : (e : ℕ) → (Has sets.active e → ⊥) → number_at flows e ≡ 0ℚ
  no_flow e none = go (slice_get net.links e) refl
    where
      idle_at : (link : Link) → IsLink net e link → Stands pattern sets e → number_at flows e ≡ 0ℚ
      idle_at link p (with_state state h f a) = absurd (none a)
      idle_at link p (resets h f a) = absurd (none a)
      idle_at link p (inactive h f _) = subst (λ (b : Bool). Equation None b link.capacity (number_at flows e) (number_at slopes link.tail) (number_at slopes link.head)) f
          (solves.links e link None p h)

      go : (o : Option Link) → slice_get net.links e ≡ o → number_at flows e ≡ 0ℚ
      go (Some link) p = idle_at link p (stands net sets pattern are is_pattern e link p)
      go None p = number_at-beyond flows e
          (let c : length flows ≡ length net.links = solves.flow_count in let n : length net.links ≤ e = entry_beyond net.links e p in omega arith)

  -- ---- each node except the source is entered by a link whose exit slope is the node's slope
  leads_just : (e : ℕ) (link : Link) → IsLink net e link → Leads pattern sets e → Just e link
  leads_just e link p (by_tight h f) = tight_just e link p h f
  leads_just e link p (by_full h f) = full_just e link p h f
  leads_just e link p (by_reset h f) = resetting_just e link p h f

  taken : (v : ℕ) → v < net.nodes → v ≢ net.source → (e : ℕ) × (link : Link) × Enters net sets v e link × (exit_of e link ≡ number_at slopes v)
  taken v h other =
      let l : (e : ℕ) × (link : Link) × Enters net sets v e link × Leads pattern sets e = led net sets pattern are is_pattern leads v h other in
      (l.0, l.1, l.2, leads_just l.0 l.1 l.2.is_link l.3 ∙ ap (number_at slopes) l.2.head)

  pub IsThinFlow-accepted : IsThinFlow net sets rate flows slopes
  IsThinFlow-accepted = record {
    flow_count = solves.flow_count;
    slope_count = solves.slope_count;
    no_negative_flow = meets.no_negative_flow;
    no_negative_slope = meets.no_negative_slope;
    active_only = no_flow;
    source = solves.source;
    inner = solves.inner;
    starts = solves.starts;
    taken = taken;
    least = λ v e link h other n. subst (λ (k : ℕ). number_at slopes k ≤ℚ exit_of e link) n.head (at_least _ _ _ (exits e link n.is_link n.active));
    used = λ v e link h other n k. with_flow _ _ _ (exits e link n.is_link n.active) k ∙ ap (number_at slopes) n.head;
  }
