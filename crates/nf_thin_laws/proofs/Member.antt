-- A phase run that satisfies its whole definition: one link of transit time 1 and capacity 1, supplied at rate 1, to the horizon 1.
-- It has one phase, by its first pattern, Tight.
use Rattle.std.proofs.Common.{◌≡◌, ℕ, zero, suc, ◌<◌, List, [], ◌∷◌, Bool, true, false, length, refl, sym, ap, ◌∙◌, subst, arith, inl, inr, ◌⊎◌, ◌↔◌}
use Rattle.std.proofs.Common.{Option, Some, None, Result, Ok, Err, IsOk, unwrap_or, map, slice_get}
use Rattle.nf_thin_laws.proofs.Common.{none-some, same_Some, <ℚ_irrefl, ≤ℚ_of_same, ≤ℚ_of_lt, ps_whole, eq, linear_eq, reading_of, PassedAt, State, Tight}
use Rattle.nf_thin_laws.proofs.Common.{Full, Zero, number_at, Has, Hop, IsHop, IsWalk, transit_sum, transit_of, IsLeastTransit, Link, Piece, Network}
use Rattle.nf_thin_laws.proofs.Common.{IsLink, IsPiece, hops, unbounded, rate_at, Sets, slacks_of, sets_at, surplus, Pattern, HasState, NeedsState, IsTrail}
use Rattle.nf_thin_laws.proofs.Common.{AllDiffer, IsListedIn, IsBefore, IsFirstInto, IsBase, Equation, Inequality, Solves, IsSolution, AreStartLabels}
use Rattle.nf_thin_laws.proofs.Common.{IsUnending, HasPlace, IsListingIn, Found, IsSearch, ℚ, same_parts, 0ℚ, ◌≤ℚ◌, ◌<ℚ◌, Standing, Bounds, PhaseStep}
use Rattle.nf_thin_laws.proofs.Common.{IsStart, standing_after, IsSearchHere, Goes, at_horizon, goes, report_of, IsRunReport, n, in_127_bits, link}
use Rattle.nf_thin_laws.proofs.Common.{first_standing}
use Rattle.nf_rational.specs.Gcd.{gcd}
use Rattle.nf_rational.specs.Rational.{ratio}
use Rattle.nf_rational.specs.Operations.{whole, neg_ℚ, inv_ℚ, ◌+ℚ◌, ◌-ℚ◌, ◌*ℚ◌, ◌/ℚ◌}
use Rattle.nf_rational.specs.Order.{le_ℚ, lt_ℚ, min_ℚ}
use Rattle.nf_frac_def.specs.Passing.{beyond}
use Rattle.nf_frac_def.specs.Checked.{checked}
use Rattle.nf_thin_def.specs.Slack.{slack_of, slack_list}
use Rattle.nf_linear_def.specs.Table.{table_list}
use Rattle.nf_thin_def.specs.Equations.{equations}
use Rattle.nf_thin_def.specs.Verdict.{verdict_list}
use Rattle.nf_thin_def.specs.Extend.{extend_list}
use Rattle.nf_thin_def.specs.Advance.{labels_after, advance_list}
use Rattle.nf_thin_def.specs.CurveList.{curve_list}
use Rattle.nf_thin_def.specs.Accepted.{pattern_lists}
use Rattle.nf_thin_def.specs.PhaseRun.{phase_lists}
use Rattle.nf_thin_laws.proofs.Patterns.{none_leads}
use Rattle.nf_thin_laws.proofs.Listings.{NextInOrder, all_in_order, ordered_by_place}

abbrev the_link : Link
the_link = link 0 1 (n 1) (Some (n 1))

abbrev net : Network
net = record { nodes = 2; source = 0; sink = 1; links = the_link ∷ []; pieces = record { start = n 0; rate = n 1 } ∷ [] }

abbrev labels : List ℚ
labels = n 0 ∷ n 1 ∷ []

-- ---- the start: the label of the source is 0 and that of the sink 1
is_the_link : (e : ℕ) (l : Link) → IsLink net e l → (e ≡ 0) × (the_link ≡ l)
is_the_link zero l h = (refl, same_Some the_link l h)
is_the_link (suc e) l h = absurd (none-some l h)

is_the_hop : (e : ℕ) (hop : Hop) → IsHop (hops net) e hop → (e ≡ 0) × (hop.tail ≡ 0) × (hop.head ≡ 1)
is_the_hop zero hop h = let e = same_Some _ hop h in (refl, ap (λ (k : Hop). k.tail) (sym e), ap (λ (k : Hop). k.head) (sym e))
is_the_hop (suc e) hop h = absurd (none-some hop h)

-- no link leaves the sink
stays_at_sink : (walk : List ℕ) (v w : ℕ) → v ≡ 1 → IsWalk (hops net) walk v w → (walk ≡ []) × (w ≡ 1)
stays_at_sink [] v w at h = (refl, sym h ∙ at)
stays_at_sink (e ∷ walk) v w at h = let hop = is_the_hop e h.0 h.1 in let tail = hop.1 in let same = h.2 in absurd (omega arith)

sum_of_one : transit_of (hops net) 0 +ℚ 0ℚ ≡ n 1
unfolding whole ratio gcd ◌+ℚ◌
sum_of_one = same_parts _ _ refl refl

to_source : (walk : List ℕ) → IsWalk (hops net) walk 0 0 → n 0 ≤ℚ transit_sum (hops net) walk
to_source [] h = ≤ℚ_of_same _ _ refl
to_source (e ∷ walk) h = let rest = stays_at_sink walk h.0.head 0 (is_the_hop e h.0 h.1).2 h.3 in let at = rest.1 in absurd (omega arith)

to_sink : (walk : List ℕ) → IsWalk (hops net) walk 0 1 → n 1 ≤ℚ transit_sum (hops net) walk
to_sink [] h = absurd (omega arith)
to_sink (e ∷ walk) h =
    let hop = is_the_hop e h.0 h.1 in
    let rest = stays_at_sink walk h.0.head 1 hop.2 h.3 in
    ≤ℚ_of_same _ _ (sym sum_of_one ∙ (ap (λ (k : ℕ). transit_of (hops net) k +ℚ 0ℚ) (sym hop.0) ∙ ap (λ (w : List ℕ). transit_sum (hops net) (e ∷ w)) (sym rest.0)))

start_labels : AreStartLabels net labels
start_labels = record { count = refl; each = at }
  where
    at : (v : ℕ) → v < 2 → IsLeastTransit (hops net) 0 v (number_at labels v)
    at zero below = record { taken = ([], refl, refl); bound = to_source }
    at (suc zero) below = record { taken = (0 ∷ [], (_, refl, refl, refl), sum_of_one); bound = to_sink }
    at (suc (suc v)) below = absurd (omega arith)

is_start : IsStart net (first_standing net labels)
is_start = record { time = refl; labels = start_labels; label_curves = refl; link_curves = refl; made = refl; last = refl }

-- ---- the link is active, and needs a state
abbrev one_active : Sets
one_active = record { active = true ∷ []; resetting = false ∷ [] }

sets_are : sets_at net labels ≡ one_active
unfolding whole ratio gcd neg_ℚ ◌+ℚ◌ ◌-ℚ◌ le_ℚ lt_ℚ
sets_are = refl

rate_is : rate_at net (n 0) ≡ n 1
unfolding whole ratio gcd le_ℚ
rate_is = refl

states_of : (a : State) (e : ℕ) → NeedsState one_active e ↔ ((state : State) × HasState (Some a ∷ []) e state)
states_of a zero = (λ h. (a, refl), λ h. (refl, λ k. cc))
states_of a (suc e) = (λ h. absurd (none-some true h.0), λ h. absurd (none-some (Some h.0) h.1))

abbrev stateless : Pattern
stateless = None ∷ []

abbrev tight : Pattern
tight = Some Tight ∷ []

is_base : IsBase (hops net) one_active stateless tight
is_base = record { count = refl; states = states_of Tight; kept = kept; first = first; later = later }
  where
    kept : (e : ℕ) (state : State) → NeedsState one_active e → HasState stateless e state → HasState tight e state
    kept zero state may has = cc
    kept (suc e) state may has = absurd (none-some (Some state) has)

    first : (e : ℕ) (hop : Hop) → NeedsState one_active e → slice_get stateless e ≡ Some None → IsFirstInto (hops net) one_active e hop → HasState tight e Tight
    first zero hop may none is_first = refl
    first (suc e) hop may none is_first = absurd (none-some true may.0)

    no_reset : (other : ℕ) → Has one_active.resetting other → ⊥
    no_reset zero h = cc
    no_reset (suc e) h = cc

    later : (e : ℕ) → NeedsState one_active e → slice_get stateless e ≡ Some None → ((hop : Hop) → IsFirstInto (hops net) one_active e hop → ⊥) → HasState tight e Zero
    later zero may none not_first =
        absurd (not_first _ (record { is_hop = refl; first = λ other before below h k active. omega arith; no_reset = λ other before h k resetting. no_reset other resetting }))
    later (suc e) may none not_first = absurd (none-some true may.0)

-- ---- its two patterns
abbrev two : List Pattern
two = tight ∷ (Some Full ∷ []) ∷ []

none_unbounded : (e : ℕ) → Has (unbounded net) e → ⊥
none_unbounded zero h = cc
none_unbounded (suc e) h = cc

forest_at : (Allowed : ℕ → Type 0) (e : ℕ) (forward : Bool) (steps : List (ℕ × Bool)) (v : ℕ) → AllDiffer (map (λ step. step.0) ((e, forward) ∷ steps))
    → IsTrail (hops net) Allowed ((e, forward) ∷ steps) v v → ⊥
forest_at Allowed e true [] v differ trail = let hop = is_the_hop e trail.0 trail.1 in let t = hop.1 in let h = hop.2 in let a = trail.3 in let b = trail.4 in omega arith
forest_at Allowed e false [] v differ trail = let hop = is_the_hop e trail.0 trail.1 in let t = hop.1 in let h = hop.2 in let a = trail.3 in let b = trail.4 in omega arith
forest_at Allowed e forward ((f, again) ∷ steps) v differ trail =
    differ.0 (0, omega arith, (is_the_hop f trail.4.0 trail.4.1).0 ∙ sym (is_the_hop e trail.0 trail.1).0)

entered_by : (a : State) → (a ≡ Tight) ⊎ (a ≡ Full) → (e : ℕ) × (hop : Hop) × IsHop (hops net) e hop × (hop.head ≡ 1)
    × (Has one_active.resetting e ⊎ (HasState (Some a ∷ []) e Tight ⊎ HasState (Some a ∷ []) e Full))
entered_by a (inl h) = (0, _, refl, refl, inr (inl (ap Some (ap Some h))))
entered_by a (inr h) = (0, _, refl, refl, inr (inr (ap Some (ap Some h))))

is_listed : (a : State) → (a ≡ Tight) ⊎ (a ≡ Full) → IsListedIn net one_active (Some a ∷ [])
is_listed a brings = record {
  states = record { count = refl; states = states_of a; no_full = λ e h k. none_unbounded e h };
  forest = λ first steps v differ trail. forest_at (λ e. HasState (Some a ∷ []) e Tight) first.0 first.1 steps v differ trail;
  entered = λ v below not_source. (let is_sink : 1 ≡ v = omega (arith, not_source) in
      subst (λ (w : ℕ). (e : ℕ) × (hop : Hop) × IsHop (hops net) e hop × (hop.head ≡ w) × (Has one_active.resetting e ⊎ (HasState (Some a ∷ []) e Tight ⊎ HasState (Some a ∷ []) e Full)))
      is_sink (entered_by a brings));
}

two_listed : (i : ℕ) (p : Pattern) → slice_get two i ≡ Some p → IsListedIn net one_active p
two_listed zero p h = subst (IsListedIn net one_active) (same_Some _ p h) (is_listed Tight (inl refl))
two_listed (suc zero) p h = subst (IsListedIn net one_active) (same_Some _ p h) (is_listed Full (inr refl))
two_listed (suc (suc i)) p h = absurd (none-some p h)

not_zero : IsListedIn net one_active (Some Zero ∷ []) → ⊥
not_zero h = let w = h.entered 1 (omega arith) (λ e. omega arith) in none_leads one_active.resetting (Some Zero ∷ []) (refl, tt) (refl, tt) w.0 w.4

place_of : (a : State) → IsListedIn net one_active (Some a ∷ []) → (place : ℕ) × HasPlace two place (Some a ∷ [])
place_of Tight h = (1, (0, refl, refl))
place_of Full h = (2, (1, refl, refl))
place_of Zero h = absurd (not_zero h)

one_state : (p : Pattern) → length p ≡ 1 → ((state : State) × HasState p 0 state) → (a : State) × (Some a ∷ [] ≡ p)
one_state [] count h = absurd (omega arith)
one_state (x ∷ []) count h = (h.0, ap (λ (w : Option State). w ∷ []) (sym (same_Some x (Some h.0) h.1)))
one_state (x ∷ y ∷ p) count h = absurd (omega arith)

at_state : (p : Pattern) (a : State) → Some a ∷ [] ≡ p → IsListedIn net one_active p → (place : ℕ) × HasPlace two place p
at_state p a e h = subst (λ (q : Pattern). (place : ℕ) × HasPlace two place q) e (place_of a (subst (IsListedIn net one_active) (sym e) h))

all_two : (p : Pattern) → IsListedIn net one_active p → (place : ℕ) × HasPlace two place p
all_two p h = let at = one_state p h.states.count ((h.states.states 0).0 (refl, λ k. cc)) in at_state p at.0 at.1 h

two_in_order : NextInOrder tight two
two_in_order zero p q h k = subst (λ (w : Pattern). IsBefore tight w q) (same_Some _ p h) (subst (λ (w : Pattern). IsBefore tight tight w) (same_Some _ q k) (inl (omega arith)))
two_in_order (suc i) p q h k = absurd (none-some q k)

is_listing : IsListingIn net one_active tight two
is_listing = record { listed = λ place p h. two_listed h.0 p h.2; whole = all_two; ordered = ordered_by_place tight two (all_in_order tight two two_in_order) }

-- ---- the first one is accepted: the flow is 1 and both slopes are 1
abbrev flows : List ℚ
flows = n 1 ∷ []

abbrev slopes : List ℚ
slopes = n 1 ∷ n 1 ∷ []

abbrev EquationAt : ℕ → Link → Option State → Type 0
EquationAt e l state = Equation state (unwrap_or (slice_get one_active.resetting e) false) l.capacity (number_at flows e) (number_at slopes l.tail) (number_at slopes l.head)

abbrev InequalityAt : ℕ → Link → Option State → Type 0
InequalityAt e l state = Inequality state l.capacity (number_at flows e) (number_at slopes l.tail) (number_at slopes l.head)

equation_at : (e : ℕ) (l : Link) (state : Option State) → IsLink net e l → slice_get tight e ≡ Some state → EquationAt e l state
equation_at zero l state h k =
    subst (λ (m : Link). EquationAt 0 m state) (same_Some the_link l h) (subst (λ (t : Option State). EquationAt 0 the_link t)
    (same_Some (Some Tight) state k) refl)
equation_at (suc e) l state h k = absurd (none-some l h)

source_balance : surplus net flows 0 ≡ n 1
unfolding whole ratio gcd neg_ℚ ◌+ℚ◌ ◌-ℚ◌
source_balance = same_parts _ _ refl refl

solves : Solves net one_active (n 1) tight flows slopes
solves = record {
  flow_count = refl;
  slope_count = refl;
  starts = refl;
  source = source_balance;
  inner = λ v below not_source not_sink. absurd (omega (arith, not_source, not_sink));
  links = equation_at;
}

lone_flow : (x : ℚ) → (x +ℚ 0ℚ) -ℚ 0ℚ ≡ n 1 → x ≡ n 1
lone_flow x e = linear_eq (x ∷ []) (eq e ∷ []) (search reading_of) tt tt

only : (fs ss : List ℚ) → Solves net one_active (n 1) tight fs ss → (fs ≡ flows) × (ss ≡ slopes)
only [] ss h = absurd (let count = h.flow_count in omega arith)
only (x ∷ y ∷ fs) ss h = absurd (let count = h.flow_count in omega arith)
only (x ∷ []) [] h = absurd (let count = h.slope_count in omega arith)
only (x ∷ []) (a ∷ []) h = absurd (let count = h.slope_count in omega arith)
only (x ∷ []) (a ∷ b ∷ c ∷ ss) h = absurd (let count = h.slope_count in omega arith)
only (x ∷ []) (a ∷ b ∷ []) h =
    let x_is : x ≡ n 1 = lone_flow x h.source in
    let a_is : a ≡ n 1 = h.starts in
    let b_is : b ≡ a = h.links 0 the_link (Some Tight) refl refl in
    (ap (λ (w : ℚ). w ∷ []) x_is, ap (λ (w : ℚ). w ∷ b ∷ []) a_is ∙ ap (λ (w : ℚ). n 1 ∷ w ∷ []) (b_is ∙ a_is))

not_negative_flow : (e : ℕ) → 0ℚ ≤ℚ number_at flows e
not_negative_flow zero = ≤ℚ_of_lt _ _ (ps_whole 0)
not_negative_flow (suc e) = ≤ℚ_of_same _ _ refl

not_negative_slope : (v : ℕ) → 0ℚ ≤ℚ number_at slopes v
not_negative_slope zero = ≤ℚ_of_lt _ _ (ps_whole 0)
not_negative_slope (suc zero) = ≤ℚ_of_lt _ _ (ps_whole 0)
not_negative_slope (suc (suc v)) = ≤ℚ_of_same _ _ refl

one_times_one : n 1 ≡ n 1 *ℚ n 1
unfolding whole ratio gcd ◌*ℚ◌
one_times_one = same_parts _ _ refl refl

within_capacity : InequalityAt 0 the_link (Some Tight)
within_capacity rate h = subst (λ (w : ℚ). n 1 ≤ℚ w *ℚ n 1) (same_Some (n 1) rate h) (≤ℚ_of_same _ _ one_times_one)

inequality_at : (e : ℕ) (l : Link) (state : Option State) → IsLink net e l → slice_get tight e ≡ Some state → InequalityAt e l state
inequality_at zero l state h k =
    subst (λ (m : Link). InequalityAt 0 m state) (same_Some the_link l h) (subst (λ (t : Option State). InequalityAt 0 the_link t) (same_Some (Some Tight) state k) within_capacity)
inequality_at (suc e) l state h k = absurd (none-some l h)

solution : IsSolution net one_active (n 1) tight flows slopes
solution = record { solves = solves; only = only; meets = record { no_negative_flow = not_negative_flow; no_negative_slope = not_negative_slope; links = inequality_at } }

none_passes : IsOk (pattern_lists in_127_bits net one_active (n 1) tight)
unfolding pattern_lists table_list equations verdict_list checked beyond whole ratio gcd neg_ℚ inv_ℚ ◌+ℚ◌ ◌-ℚ◌ ◌*ℚ◌ ◌/ℚ◌ le_ℚ
none_passes = refl

is_search : IsSearch in_127_bits net one_active (n 1) tight 1 (Found 1 tight flows slopes)
is_search = record {
  listing = two;
  is_listing = is_listing;
  answers = record {
    within = omega arith;
    has_place = (0, refl, refl);
    first = λ other pattern before h accepted. (let at = h.1 in omega arith);
    accepted = record { solvable = record { flows = flows; slopes = slopes; solution = solution }; none_passes = none_passes };
    solution = solution;
  };
}

-- ---- the phase lasts until the horizon: the slack is 0, and no inflow change follows
abbrev start : Standing
start = first_standing net labels

slack_is_zero : number_at (slacks_of (hops net) labels) 0 ≡ 0ℚ
unfolding whole ratio gcd neg_ℚ ◌+ℚ◌ ◌-ℚ◌
slack_is_zero = same_parts _ _ refl refl

not_below_zero : (e : ℕ) (l : Link) → IsLink net e l → number_at (slacks_of (hops net) labels) e <ℚ 0ℚ → ⊥
not_below_zero zero l h k = <ℚ_irrefl 0ℚ (subst (λ (x : ℚ). x <ℚ 0ℚ) slack_is_zero k)
not_below_zero (suc e) l h k = none-some l h

not_above_zero : (e : ℕ) (l : Link) → IsLink net e l → 0ℚ <ℚ number_at (slacks_of (hops net) labels) e → ⊥
not_above_zero zero l h k = <ℚ_irrefl 0ℚ (subst (λ (x : ℚ). 0ℚ <ℚ x) slack_is_zero k)
not_above_zero (suc e) l h k = none-some l h

no_later_piece : (i : ℕ) (piece : Piece) → IsPiece net.pieces i piece → n 0 <ℚ piece.start → ⊥
no_later_piece zero piece h k = <ℚ_irrefl (n 0) (subst (λ (q : Piece). n 0 <ℚ q.start) (sym (same_Some _ piece h)) k)
no_later_piece (suc i) piece h k = none-some piece h

unending : IsUnending net (slacks_of (hops net) labels) slopes (n 0)
unending length not_negative = record {
  not_negative = not_negative;
  inactive = λ e l while h below within. absurd (not_below_zero e l h below);
  resetting = λ e l while h above within. absurd (not_above_zero e l h above);
  supply = λ i piece h later. absurd (no_later_piece i piece h later);
}

abbrev worked : Result PhaseStep (PassedAt ℚ)
worked = phase_lists in_127_bits net (n 1) start tight flows slopes

abbrev step_in : Result PhaseStep (PassedAt ℚ) → PhaseStep
step_in (Ok step) = step
step_in (Err p) = record { length = n 0; labels = []; links = [] }

ok_step : (r : Result PhaseStep (PassedAt ℚ)) → IsOk r → r ≡ Ok (step_in r)
ok_step (Ok step) h = refl
ok_step (Err p) h = cc

worked_is_ok : IsOk worked
unfolding phase_lists extend_list advance_list labels_after curve_list checked beyond whole ratio gcd neg_ℚ inv_ℚ ◌+ℚ◌ ◌-ℚ◌ ◌*ℚ◌ ◌/ℚ◌ le_ℚ lt_ℚ min_ℚ
worked_is_ok = refl

length_is : (step_in worked).length ≡ n 1 -ℚ n 0
unfolding phase_lists extend_list advance_list labels_after curve_list checked beyond whole ratio gcd neg_ℚ inv_ℚ ◌+ℚ◌ ◌-ℚ◌ ◌*ℚ◌ ◌/ℚ◌ le_ℚ lt_ℚ min_ℚ
length_is = same_parts _ _ refl refl

end_is : n 0 +ℚ (n 1 -ℚ n 0) ≡ n 1
unfolding whole ratio gcd neg_ℚ ◌+ℚ◌ ◌-ℚ◌
end_is = same_parts _ _ refl refl

slacks_are : slack_list in_127_bits (hops net) labels ≡ Ok (slacks_of (hops net) labels)
unfolding slack_of slack_list checked beyond whole ratio gcd neg_ℚ ◌+ℚ◌ ◌-ℚ◌ ◌*ℚ◌
slacks_are = refl

search_here : IsSearchHere in_127_bits net (n 1) 1 start (Found 1 tight flows slopes)
search_here = record {
  base = tight;
  is_base = subst (λ (sets : Sets). IsBase (hops net) sets stateless tight) (sym sets_are) is_base;
  is_search = subst (λ (sets : Sets). IsSearch in_127_bits net sets (rate_at net (n 0)) tight 1 (Found 1 tight flows slopes)) (sym sets_are)
      (subst (λ (rate : ℚ). IsSearch in_127_bits net one_active rate tight 1 (Found 1 tight flows slopes)) (sym rate_is) is_search);
}

one_phase : Goes in_127_bits net (n 1) 1 start (standing_after net start tight slopes (step_in worked))
one_phase = record {
  place = 1;
  pattern = tight;
  flows = flows;
  slopes = slopes;
  finds = record { below = ps_whole 0; slacks = slacks_are; search = search_here };
  step = step_in worked;
  lists = ok_step worked worked_is_ok;
  is_length = inr (unending, length_is);
  new_is = refl;
}

abbrev bounds : Bounds
bounds = record { horizon = n 1; phases = 1; patterns = 1 }

-- the run reaches its horizon
pub member : IsRunReport in_127_bits net bounds (report_of (n 1) (standing_after net start tight slopes (step_in worked)) None)
member = record {
  last = standing_after net start tight slopes (step_in worked);
  stop = None;
  run = record { first = start; start = is_start; runs = goes (omega arith) one_phase (at_horizon (ap (λ (length : ℚ). n 0 +ℚ length) length_is ∙ end_is)) };
  report_is = refl;
}
