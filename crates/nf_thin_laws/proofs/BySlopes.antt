-- The slopes of a thin flow force states.
use Rattle.std.proofs.Common.{◌≡◌, ◌≢◌, ◌⊎◌, inl, inr, ℕ, Bool, true, false, List, length, refl, sym, ap, subst, ◌∙◌, if◌then◌else◌, Option, Some, None}
use Rattle.std.proofs.Common.{slice_get, is_none, unwrap_or}
use Rattle.nf_thin_laws.proofs.Common.{None_of_test, none-some, same_Some, ℚ, ◌≤ℚ◌, ◌<ℚ◌, lt_ℚ, ≤ℚ_of_same, not_both_ℚ, lt_ℚ_cases, State, Tight, Full}
use Rattle.nf_thin_laws.proofs.Common.{Zero, number_at, Has, Link, Network, IsLink, IsNetwork, unbounded, Sets, exit_slope, Enters, IsThinFlow, Pattern}
use Rattle.nf_thin_laws.proofs.Common.{HasState, NeedsState, IsPattern, IsListedIn, IsSolvable, AreSets, HoldNoCycle, AllowState, slice_get-image}
use Rattle.nf_thin_laws.proofs.Common.{forced_state, forced_at, forced_by, IsForcing, HasForced}
use Rattle.nf_thin_laws.proofs.Slopes.{NoneEntersSource-thin}
use Rattle.nf_thin_laws.proofs.States.{AllowState-thin}
use Rattle.nf_thin_laws.proofs.Entrywise.{entrywise-length, entrywise-parts}

-- The forced state of a link, and its reason.
abbrev Why : State → ℚ → ℚ → Type 0
Why f s t = ((f ≡ Full) × (s <ℚ t)) ⊎ ((f ≡ Zero) × (t <ℚ s))

abbrev inner : Bool → Option State
inner x = if x then Some Zero else None

abbrev outer : Bool → Bool → Option State
outer y x = if x then Some Full else inner y

told : (b : Option State) (s t : ℚ) (f : State) → forced_state b s t ≡ Some f → (state : State) × (b ≡ Some state) × Why f s t
told None s t f h = absurd (none-some f h)
told (Some b) s t f h = (b, refl, by (lt_ℚ_cases s t) (lt_ℚ_cases t s))
  where
    by : ((lt_ℚ s t ≡ true) × (s <ℚ t)) ⊎ ((lt_ℚ s t ≡ false) × (t ≤ℚ s)) → ((lt_ℚ t s ≡ true) × (t <ℚ s)) ⊎ ((lt_ℚ t s ≡ false) × (s ≤ℚ t)) → Why f s t
    by (inl w) other = inl (same_Some f Full (sym h ∙ ap (outer (lt_ℚ t s)) w.0), w.1)
    by (inr v) (inl w) = inr (same_Some f Zero (sym h ∙ (ap (outer (lt_ℚ t s)) v.0 ∙ ap inner w.0)), w.1)
    by (inr v) (inr w) = absurd (none-some f (sym (ap (outer (lt_ℚ t s)) v.0 ∙ ap inner w.0) ∙ h))

abbrev unlimited : Link → Bool
unlimited here = is_none here.capacity

unbounded_exit : (resetting : Bool) (capacity : Option ℚ) (flow s : ℚ) → capacity ≡ None → exit_slope resetting capacity flow s ≡ s
unbounded_exit true None flow s e = refl
unbounded_exit false None flow s e = refl
unbounded_exit true (Some c) flow s e = absurd (none-some c (sym e))
unbounded_exit false (Some c) flow s e = absurd (none-some c (sym e))

module _ (net : Network) (sets : Sets) (rate : ℚ) (base : Pattern) (flows slopes : List ℚ) (good : IsNetwork net) (are : AreSets net sets) (acyclic : HoldNoCycle net sets)
    (flags : length sets.resetting ≡ length net.links) (is_base : IsPattern sets (unbounded net) base) (thin : IsThinFlow net sets rate flows slopes) where
  why : (e : ℕ) (f : State) → HasState (forced_by net slopes base) e f
      → (link : Link) × IsLink net e link × NeedsState sets e × Why f (number_at slopes link.tail) (number_at slopes link.head)
  why e f h =
      let w = entrywise-parts (forced_at slopes) net.links base e (Some f) h in
      let t = told w.1 (number_at slopes (w.0).tail) (number_at slopes (w.0).head) f (sym w.4) in
      (w.0, w.2, (is_base.states e).1 (t.0, w.3 ∙ ap (λ (x : Option State). Some x) t.1), t.2)

  no_unbounded : (e : ℕ) (link : Link) → IsLink net e link → Has sets.active e → Has (unbounded net) e → number_at slopes link.tail <ℚ number_at slopes link.head → ⊥
  no_unbounded e link p a u less = not_both_ℚ (number_at slopes link.tail) (number_at slopes link.head) less
      (subst (λ (x : ℚ). number_at slopes link.head ≤ℚ x)
      (unbounded_exit (unwrap_or (slice_get sets.resetting e) false) link.capacity (number_at flows e) (number_at slopes link.tail) capacity)
      (thin.least link.head e link (good.heads e link p) other enters))
    where
      enters : Enters net sets link.head e link
      enters = record { is_link = p; active = a; head = refl }

      other : link.head ≢ net.source
      other h = NoneEntersSource-thin net sets rate good acyclic flows slopes thin e link (record { is_link = p; active = a; head = h })

      capacity : link.capacity ≡ None
      capacity = None_of_test link.capacity (same_Some (unlimited link) true (sym (slice_get-image unlimited net.links e link p) ∙ u))

  not_tight : (s t : ℚ) → Why Tight s t → ⊥
  not_tight s t (inl w) = cc
  not_tight s t (inr w) = cc

  full_ahead : (s t : ℚ) → Why Full s t → s <ℚ t
  full_ahead s t (inl w) = w.1
  full_ahead s t (inr w) = absurd (cc)

  pub forcing : IsForcing sets (unbounded net) (forced_by net slopes base)
  forcing = record {
    count = entrywise-length (forced_at slopes) net.links base (sym (is_base.count ∙ are.count)) ∙ is_base.count;
    flags = flags ∙ sym are.count;
    needed = λ e f h. (why e f h).2;
    not_tight = λ e h. let w = why e Tight h in not_tight _ _ w.3;
    no_full = λ e u h. let w = why e Full h in no_unbounded e w.0 w.1 w.2.0 u (full_ahead _ _ w.3);
  }

  -- a state that the slopes allow is the one that they force
  one_state : (s t : ℚ) (f state : State) → Why f s t → AllowState s t state → state ≡ f
  one_state s t f Tight (inl w) a = absurd (not_both_ℚ s t w.1 (≤ℚ_of_same t s a))
  one_state s t f Full (inl w) a = sym w.0
  one_state s t f Zero (inl w) a = absurd (not_both_ℚ s t w.1 a)
  one_state s t f Tight (inr w) a = absurd (not_both_ℚ t s w.1 (≤ℚ_of_same s t (sym a)))
  one_state s t f Full (inr w) a = absurd (not_both_ℚ t s w.1 a)
  one_state s t f Zero (inr w) a = sym w.0

  pub allowed : (pattern : Pattern) → IsListedIn net sets pattern → IsSolvable net sets rate pattern → HasForced (forced_by net slopes base) pattern
  allowed pattern listed solvable e f h =
      let w = why e f h in
      let s = (listed.states.states e).0 w.2 in
      let same = one_state (number_at slopes (w.0).tail) (number_at slopes (w.0).head) f s.0 w.3
      (AllowState-thin net sets rate flows slopes pattern good are acyclic thin listed solvable e w.0 s.0 w.1 s.1) in
      s.1 ∙ ap (λ (x : State). Some (Some x)) same
