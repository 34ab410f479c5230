-- Two parallel links from source to sink, both active: the listing of their patterns from the base (Tight, Zero).
use Rattle.std.proofs.Common.{◌≡◌, ℕ, zero, suc, ◌<◌, List, [], ◌∷◌, Bool, true, false, length, map, refl, sym, ap, ◌∙◌, subst, arith, inl, inr, ◌⊎◌, ◌↔◌}
use Rattle.std.proofs.Common.{Option, Some, slice_get, slice_index_or, Contains}
use Rattle.nf_thin_laws.proofs.Common.{none-some, same_Some, State, Tight, Full, Zero, Has, Hop, IsHop, Network, hops, unbounded, Sets, Pattern, HasState}
use Rattle.nf_thin_laws.proofs.Common.{NeedsState, IsPattern, IsTrail, AllDiffer, IsForest, IsListedIn, IsBefore, HasPlace, IsListingIn, n, link, two_links}
use Rattle.nf_thin_laws.proofs.Patterns.{none_leads}
use Rattle.nf_thin_laws.proofs.Listings.{NextInOrder, all_in_order, ordered_by_place}

abbrev parallel : Network
parallel = record two_links { links = link 0 1 (n 1) (Some (n 2)) ∷ link 0 1 (n 1) (Some (n 2)) ∷ []; pieces = record { start = n 0; rate = n 1 } ∷ [] }

abbrev both : Sets
both = record { active = true ∷ true ∷ []; resetting = false ∷ false ∷ [] }

abbrev states : State → State → Pattern
states a b = Some a ∷ Some b ∷ []

abbrev seven : List Pattern
seven = states Tight Zero
    ∷ states Tight Full
    ∷ states Full Zero
    ∷ states Full Tight
    ∷ states Full Full
    ∷ states Zero Tight
    ∷ states Zero Full
    ∷ []

-- ---- the patterns
states_of : (a b : State) (e : ℕ) → NeedsState both e ↔ ((state : State) × HasState (states a b) e state)
states_of a b zero = (λ h. (a, refl), λ h. (refl, λ k. cc))
states_of a b (suc zero) = (λ h. (b, refl), λ h. (refl, λ k. cc))
states_of a b (suc (suc e)) = (λ h. absurd (none-some true h.0), λ h. absurd (none-some (Some h.0) h.1))

none_unbounded : (e : ℕ) → Has (unbounded parallel) e → ⊥
none_unbounded zero h = cc
none_unbounded (suc zero) h = cc
none_unbounded (suc (suc e)) h = cc

is_pattern : (a b : State) → IsPattern both (unbounded parallel) (states a b)
is_pattern a b = record { count = refl; states = states_of a b; no_full = λ e h k. none_unbounded e h }

-- ---- the forest: a single link makes no cycle
one_tight : (a b : State) → (a ≡ Tight → b ≡ Tight → ⊥) → (e f : ℕ) → HasState (states a b) e Tight → HasState (states a b) f Tight → e ≡ f
one_tight a b not_both zero zero h k = refl
one_tight a b not_both zero (suc zero) h k = absurd (not_both (same_Some a Tight (same_Some _ _ h)) (same_Some b Tight (same_Some _ _ k)))
one_tight a b not_both zero (suc (suc f)) h k = cc
one_tight a b not_both (suc zero) zero h k = absurd (not_both (same_Some a Tight (same_Some _ _ k)) (same_Some b Tight (same_Some _ _ h)))
one_tight a b not_both (suc zero) (suc zero) h k = refl
one_tight a b not_both (suc zero) (suc (suc f)) h k = cc
one_tight a b not_both (suc (suc e)) f h k = cc

-- where a trail over these links ends
abbrev two_hops : List Hop
two_hops = hops parallel

tail_is_source : (e : ℕ) (hop : Hop) → IsHop two_hops e hop → hop.tail ≡ 0
tail_is_source zero hop h = ap (λ (k : Hop). k.tail) (sym (same_Some _ hop h))
tail_is_source (suc zero) hop h = ap (λ (k : Hop). k.tail) (sym (same_Some _ hop h))
tail_is_source (suc (suc e)) hop h = cc

head_is_sink : (e : ℕ) (hop : Hop) → IsHop two_hops e hop → hop.head ≡ 1
head_is_sink zero hop h = ap (λ (k : Hop). k.head) (sym (same_Some _ hop h))
head_is_sink (suc zero) hop h = ap (λ (k : Hop). k.head) (sym (same_Some _ hop h))
head_is_sink (suc (suc e)) hop h = cc

module _ (Allowed : ℕ → Type 0) (one : (e f : ℕ) → Allowed e → Allowed f → e ≡ f) where
  forest_at : (e : ℕ) (forward : Bool) (steps : List (ℕ × Bool)) (v : ℕ) → AllDiffer (map (λ step. step.0) ((e, forward) ∷ steps))
      → IsTrail two_hops Allowed ((e, forward) ∷ steps) v v → ⊥
  forest_at e true [] v differ trail = let tail = tail_is_source e trail.0 trail.1 in let head = head_is_sink e trail.0 trail.1 in let a = trail.3 in let b = trail.4 in omega arith
  forest_at e false [] v differ trail = let tail = tail_is_source e trail.0 trail.1 in let head = head_is_sink e trail.0 trail.1 in let a = trail.3 in let b = trail.4 in omega arith
  forest_at e forward ((f, again) ∷ steps) v differ trail = differ.0 (0, omega arith, one f e trail.4.2 trail.2)

  forest_of_one : IsForest two_hops Allowed
  forest_of_one first steps v differ trail = forest_at first.0 first.1 steps v differ trail

-- ---- listed patterns: not both are Tight, and not both are Zero
abbrev Brings : State → Type 0
Brings s = (s ≡ Tight) ⊎ (s ≡ Full)

entered_by : (a b : State) → Brings a ⊎ Brings b → (e : ℕ) × (hop : Hop) × IsHop two_hops e hop × (hop.head ≡ 1)
    × (Has both.resetting e ⊎ (HasState (states a b) e Tight ⊎ HasState (states a b) e Full))
entered_by a b (inl (inl h)) = (0, _, refl, refl, inr (inl (ap Some (ap Some h))))
entered_by a b (inl (inr h)) = (0, _, refl, refl, inr (inr (ap Some (ap Some h))))
entered_by a b (inr (inl h)) = (1, _, refl, refl, inr (inl (ap Some (ap Some h))))
entered_by a b (inr (inr h)) = (1, _, refl, refl, inr (inr (ap Some (ap Some h))))

is_listed : (a b : State) → (a ≡ Tight → b ≡ Tight → ⊥) → Brings a ⊎ Brings b → IsListedIn parallel both (states a b)
is_listed a b not_both some = record {
  states = is_pattern a b;
  forest = forest_of_one (λ e. HasState (states a b) e Tight) (one_tight a b not_both);
  entered = λ v below not_source. (let is_sink : 1 ≡ v = omega (arith, not_source) in
      subst (λ (w : ℕ). (e : ℕ) × (hop : Hop) × IsHop two_hops e hop × (hop.head ≡ w) × (Has both.resetting e ⊎ (HasState (states a b) e Tight ⊎ HasState (states a b) e Full)))
      is_sink (entered_by a b some));
}

seven_listed : (i : ℕ) (p : Pattern) → slice_get seven i ≡ Some p → IsListedIn parallel both p
seven_listed zero p h = subst (IsListedIn parallel both) (same_Some _ p h) (is_listed Tight Zero (λ e f. cc) (inl (inl refl)))
seven_listed (suc zero) p h = subst (IsListedIn parallel both) (same_Some _ p h) (is_listed Tight Full (λ e f. cc) (inl (inl refl)))
seven_listed (suc (suc zero)) p h = subst (IsListedIn parallel both) (same_Some _ p h) (is_listed Full Zero (λ e f. cc) (inl (inr refl)))
seven_listed (suc (suc (suc zero))) p h = subst (IsListedIn parallel both) (same_Some _ p h) (is_listed Full Tight (λ e f. cc) (inl (inr refl)))
seven_listed (suc (suc (suc (suc zero)))) p h = subst (IsListedIn parallel both) (same_Some _ p h) (is_listed Full Full (λ e f. cc) (inl (inr refl)))
seven_listed (suc (suc (suc (suc (suc zero))))) p h = subst (IsListedIn parallel both) (same_Some _ p h) (is_listed Zero Tight (λ e f. cc) (inr (inl refl)))
seven_listed (suc (suc (suc (suc (suc (suc zero)))))) p h = subst (IsListedIn parallel both) (same_Some _ p h) (is_listed Zero Full (λ e f. cc) (inr (inr refl)))
seven_listed (suc (suc (suc (suc (suc (suc (suc i))))))) p h = absurd (none-some p h)

-- ---- no other pattern is listed
one_has_no_zero : (k : ℕ) → k < 1 → ◌≡◌ {A = ℕ} (slice_index_or (1 ∷ []) k 0) 0 → ⊥
one_has_no_zero zero below e = omega arith
one_has_no_zero (suc k) below e = omega arith

none_has_one : Contains {X = ℕ} [] 1 → ⊥
none_has_one h = let below = h.1 in omega arith

not_both_tight : IsListedIn parallel both (states Tight Tight) → ⊥
not_both_tight h = h.forest (0, true) ((1, false) ∷ []) 0
    (λ k. one_has_no_zero k.0 k.1 k.2, (none_has_one, tt))
    (_, refl, refl, refl, (_, refl, refl, refl, refl))

not_both_zero : IsListedIn parallel both (states Zero Zero) → ⊥
not_both_zero h = let w = h.entered 1 (omega arith) (λ e. omega arith) in none_leads both.resetting (states Zero Zero) (refl, (refl, tt)) (refl, (refl, tt)) w.0 w.4

place_of : (a b : State) → IsListedIn parallel both (states a b) → (place : ℕ) × HasPlace seven place (states a b)
place_of Tight Tight h = absurd (not_both_tight h)
place_of Tight Full h = (2, (1, refl, refl))
place_of Tight Zero h = (1, (0, refl, refl))
place_of Full Tight h = (4, (3, refl, refl))
place_of Full Full h = (5, (4, refl, refl))
place_of Full Zero h = (3, (2, refl, refl))
place_of Zero Tight h = (6, (5, refl, refl))
place_of Zero Full h = (7, (6, refl, refl))
place_of Zero Zero h = absurd (not_both_zero h)

two_states : (p : Pattern) → length p ≡ 2 → ((state : State) × HasState p 0 state) → ((state : State) × HasState p 1 state) → (a : State) × (b : State) × (states a b ≡ p)
two_states [] count h k = absurd (omega arith)
two_states (x ∷ []) count h k = absurd (omega arith)
two_states (x ∷ y ∷ []) count h k =
    let e : Some h.0 ≡ x = sym (same_Some x (Some h.0) h.1) in
    let f : Some k.0 ≡ y = sym (same_Some y (Some k.0) k.1) in
    (h.0, k.0, ap (λ (w : Option State). w ∷ Some k.0 ∷ []) e ∙ ap (λ (w : Option State). x ∷ w ∷ []) f)
two_states (x ∷ y ∷ z ∷ p) count h k = absurd (omega arith)

at_states : (p : Pattern) (a b : State) → states a b ≡ p → IsListedIn parallel both p → (place : ℕ) × HasPlace seven place p
at_states p a b e h = subst (λ (q : Pattern). (place : ℕ) × HasPlace seven place q) e (place_of a b (subst (IsListedIn parallel both) (sym e) h))

all_seven : (p : Pattern) → IsListedIn parallel both p → (place : ℕ) × HasPlace seven place p
all_seven p h =
    let at = two_states p h.states.count ((h.states.states 0).0 (refl, λ k. cc)) ((h.states.states 1).0 (refl, λ k. cc)) in
    at_states p at.0 at.1 at.2 h

-- ---- the order
abbrev base : Pattern
base = states Tight Zero

before : (p q a b : Pattern) → Some a ≡ Some p → Some b ≡ Some q → IsBefore base a b → IsBefore base p q
before p q a b h k order = subst (λ (w : Pattern). IsBefore base w q) (same_Some a p h) (subst (λ (w : Pattern). IsBefore base a w) (same_Some b q k) order)

seven_in_order : NextInOrder base seven
seven_in_order zero p q h k = before p q _ _ h k (inl (omega arith))
seven_in_order (suc zero) p q h k = before p q _ _ h k (inr (refl, inl (omega arith)))
seven_in_order (suc (suc zero)) p q h k = before p q _ _ h k (inl (omega arith))
seven_in_order (suc (suc (suc zero))) p q h k = before p q _ _ h k (inr (refl, inr (refl, inl (omega arith))))
seven_in_order (suc (suc (suc (suc zero)))) p q h k = before p q _ _ h k (inr (refl, inl (omega arith)))
seven_in_order (suc (suc (suc (suc (suc zero))))) p q h k = before p q _ _ h k (inr (refl, inr (refl, inl (omega arith))))
seven_in_order (suc (suc (suc (suc (suc (suc i)))))) p q h k = absurd (none-some q k)

-- all seven, in their order
pub seven_are_the_listing : IsListingIn parallel both base seven
seven_are_the_listing = record {
  listed = λ place p h. seven_listed h.0 p h.2;
  whole = all_seven;
  ordered = ordered_by_place base seven (all_in_order base seven seven_in_order);
}
