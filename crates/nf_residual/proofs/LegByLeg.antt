-- The arcs of a flow are its steps with residual capacity, and a round over the arcs equals the round over all steps.
use Rattle.std.proofs.Common.{◌≡◌, ℕ, zero, suc, ◌+◌, ◌<◌, ◌≤◌, Bool, true, false, if◌then◌else◌, List, [], ◌∷◌, ◌++◌, length, drop, Some, slice_get, refl}
use Rattle.std.proofs.Common.{sym, ap, subst, ◌∙◌, append_assoc, append-nil, add-one, Ok, Err}
use Rattle.nf_residual.proofs.Common.{drop_more, drop_all, slice_get_within, get_or_from_slice_get, ℚ, Passing, Checked, fold_checked, ◌>>=◌, bind_same}
use Rattle.nf_residual.proofs.Common.{number_at, Link, Network, IsNetwork, Step, begin_of, end_of, can_go, Known, known_at, steps_from, along, along_step}
use Rattle.nf_residual.proofs.Common.{Leg, leg_of, legs_from, AreLegs, along_leg}
use Rattle.nf_quick_def.specs.Rounds.{round_list}

-- ---- folds
pub bind_more : {A B C : Type 0} (r : Checked A) (f : A → Checked B) (g : B → Checked C) (both : A → Checked C) → ((x : A) → both x ≡ (f x >>= g)) → (r >>= both) ≡ ((r >>= f) >>= g)
bind_more (Ok x) f g both e = e x
bind_more (Err p) f g both e = refl

-- ---- a round over the arcs
module _ (passes : Passing) (flows : List ℚ) (before : Known) where
  abbrev goes : Known → Leg → Checked Known
  goes = along_leg passes before

  abbrev steps : Known → Step × Link → Checked Known
  steps = along_step passes flows before

  -- One step, and then the others.
  abbrev leg_if : Bool → Bool → ℕ → Link → List Leg
  leg_if can forward e link =
      if can then record {
        step = record { link = e; forward = forward };
        begin = begin_of forward link;
        end = end_of forward link;
        transit =
            link.transit;
      } ∷ [] else []

  one_step : (can forward : Bool) (e : ℕ) (link : Link) (so_far : Known) (legs : List Leg) (rest : Known → Checked Known) → ((next : Known) → fold_checked goes next legs ≡ rest next)
      → fold_checked goes so_far (leg_if can forward e link ++ legs) ≡ (along passes can (known_at before (begin_of forward link))
      (record { link = e; forward = forward }) link.transit (end_of forward link) so_far >>= rest)
  one_step true forward e link so_far legs rest h =
      bind_same (along passes true (known_at before (begin_of forward link)) (record { link = e; forward = forward }) link.transit
      (end_of forward link) so_far) (λ next. fold_checked goes next legs) rest h
  one_step false forward e link so_far legs rest h = h so_far

  as_steps : (e : ℕ) (links : List Link) (so_far : Known) → fold_checked goes so_far (legs_from e links flows) ≡ fold_checked steps so_far (steps_from e links)
  as_steps e [] so_far = refl
  as_steps e (link ∷ links) so_far =
      ap (λ (l : List Leg). fold_checked goes so_far l) (append_assoc (leg_of true e link (number_at flows e)) (leg_of false e link (number_at flows e)) (legs_from (suc e) links flows))
      ∙ one_step (can_go true link.capacity (number_at flows e)) true e link so_far (leg_of false e link (number_at flows e) ++ legs_from (suc e) links flows)
      (λ mid. fold_checked steps mid ((record { link = e; forward = false }, link) ∷ steps_from (suc e) links))
      (λ mid. one_step (can_go false link.capacity (number_at flows e)) false e link mid (legs_from (suc e) links flows)
      (λ next. fold_checked steps next (steps_from (suc e) links)) (λ next. as_steps (suc e) links next))

  pub round_along : (links : List Link) (legs : List Leg) → legs ≡ legs_from 0 links flows → round_list passes links flows before ≡ fold_checked (along_leg passes before) before legs
  unfolding round_list
  round_along links legs is = sym (ap (λ (l : List Leg). fold_checked goes before l) is ∙ as_steps 0 links before)

-- ---- the arcs begin and end at nodes
none_led : (nodes : ℕ) → AreLegs nodes []
none_led nodes k leg e = absurd (cc)

led_append : (nodes : ℕ) (xs ys : List Leg) → AreLegs nodes xs → AreLegs nodes ys → (k : ℕ) (leg : Leg) → slice_get (xs ++ ys) k ≡ Some leg → (leg.begin < nodes) × (leg.end < nodes)
led_append nodes [] ys a b k leg e = b k leg e
led_append nodes (x ∷ xs) ys a b zero leg e = a zero leg e
led_append nodes (x ∷ xs) ys a b (suc k) leg e = led_append nodes xs ys (λ k leg e. a (suc k) leg e) b k leg e

one_led : (nodes : ℕ) (can forward : Bool) (e : ℕ) (link : Link) → link.tail < nodes → link.head < nodes
    → AreLegs nodes (if can then record { step = record { link = e; forward = forward }; begin = begin_of forward link; end = end_of forward link; transit = link.transit } ∷ [] else [])
one_led nodes false forward e link t h = none_led nodes
one_led nodes true forward e link t h = λ k leg f. by_place k leg f
  where
    ends : (forward : Bool) → (begin_of forward link < nodes) × (end_of forward link < nodes)
    ends true = (t, h)
    ends false = (h, t)

    same : (x y : Leg) → Some x ≡ Some y → x ≡ y
    same x y e = cc

    by_place : (k : ℕ) (leg : Leg) → slice_get (record {
      step = record { link = e; forward = forward };
      begin = begin_of forward link;
      end =
          end_of forward link;
      transit = link.transit;
    } ∷ []) k ≡ Some leg
        → (leg.begin < nodes) × (leg.end < nodes)
    by_place zero leg f = subst (λ (l : Leg). (l.begin < nodes) × (l.end < nodes)) (same _ _ f) (ends forward)
    by_place (suc k) leg f = absurd (cc)

legs_led : (nodes e : ℕ) (links : List Link) (flows : List ℚ) → ((k : ℕ) (link : Link) → slice_get links k ≡ Some link
    → (link.tail < nodes) × (link.head < nodes)) → AreLegs nodes (legs_from e links flows)
legs_led nodes e [] flows h = none_led nodes
legs_led nodes e (link ∷ links) flows h =
    led_append nodes (leg_of true e link (number_at flows e) ++ leg_of false e link (number_at flows e)) (legs_from (suc e) links flows)
    (led_append nodes (leg_of true e link (number_at flows e)) (leg_of false e link (number_at flows e))
    (one_led nodes (can_go true link.capacity (number_at flows e)) true e link (h 0 link refl).0 (h 0 link refl).1)
    (one_led nodes (can_go false link.capacity (number_at flows e)) false e link (h 0 link refl).0 (h 0 link refl).1))
    (legs_led nodes (suc e) links flows (λ k other f. h (suc k) other f))

pub all_led : (net : Network) (flows : List ℚ) (legs : List Leg) → IsNetwork net → legs ≡ legs_from 0 net.links flows → AreLegs net.nodes legs
all_led net flows legs good is = subst (λ (l : List Leg). AreLegs net.nodes l) (sym is) (legs_led net.nodes 0 net.links flows (λ k link e. (good.tails k link e, good.heads k link e)))

-- ---- link by link
pub record LegsOn (links : List Link) (flows : List ℚ) (legs : List Leg) (e : ℕ) : Type 0 where
  pub same : legs ++ legs_from e (drop e links) flows ≡ legs_from 0 links flows

module _ (links : List Link) (flows : List ℚ) where
  pub legs_first : (legs : List Leg) → legs ≡ [] → LegsOn links flows legs 0
  legs_first legs e = record { same = ap (λ (l : List Leg). l ++ legs_from 0 links flows) e }

  module _ (legs : List Leg) (e : ℕ) (on : LegsOn links flows legs e) where
    pub legs_all : length links ≤ e → legs ≡ legs_from 0 links flows
    legs_all h = sym (append-nil legs) ∙ sym (ap (λ (l : List Link). legs ++ legs_from e l flows) (drop_all e links h)) ∙ on.same

    pub legs_more : (link : Link) → slice_get links e ≡ Some link → (flow : ℚ) → flow ≡ number_at flows e → (mid next : List Leg)
        → mid ≡ legs ++ leg_of true e link flow → next ≡ mid ++ leg_of false e link flow
        → LegsOn links flows next (e + 1)
    legs_more link is flow at mid next m n = record {
      same =
          let rest : drop e links ≡ link ∷ drop (e + 1) links = drop_more links e link (slice_get_within links e link is)
          ∙ ap (λ (l : Link). l ∷ drop (e + 1) links) (get_or_from_slice_get links e link link is) in
          ap (λ (i : ℕ). next ++ legs_from i (drop (e + 1) links) flows) (add-one e)
          ∙ ap (λ (l : List Leg). l ++ legs_from (suc e) (drop (e + 1) links) flows)
          (n ∙ ap (λ (l : List Leg). l ++ leg_of false e link flow) m ∙ append_assoc legs (leg_of true e link flow) (leg_of false e link flow))
          ∙ append_assoc legs (leg_of true e link flow ++ leg_of false e link flow) (legs_from (suc e) (drop (e + 1) links) flows)
          ∙ ap (λ (x : ℚ). legs ++ ((leg_of true e link x ++ leg_of false e link x) ++ legs_from (suc e) (drop (e + 1) links) flows)) at
          ∙ ap (λ (l : List Link). legs ++ legs_from e l flows) (sym rest)
          ∙ on.same;
    }
