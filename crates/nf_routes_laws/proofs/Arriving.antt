-- Consequences of loading by route. All that a route sends arrives. By the arrival of a departure, all that departed by then has arrived.
-- The routes over a link share its outflow.
use Rattle.std.proofs.Common.{◌≡◌, ℕ, zero, suc, ◌+◌, ◌<◌, ◌≤◌, List, [], ◌∷◌, length, ⊎_elim, Bool, true, false, eqb, Option, Some, None, slice_get}
use Rattle.std.proofs.Common.{unwrap_or, get_or, refl, sym, ap, subst, ◌∙◌, arith, if◌then◌else◌}
use Rattle.nf_routes_laws.proofs.Common.{eqb-true, slice_get_within, slice_get_cases, same_Some, slice_get_past, ℚ, 0ℚ, ◌+ℚ◌, ◌≤ℚ◌, ◌<ℚ◌, reading_of}
use Rattle.nf_routes_laws.proofs.Common.{≤ℚ_of_lt, ≤ℚ_antisymm, lt_or_le_ℚ, eq, linear_eq, Within, NeverFalls, value, number_at, IsWalk, Link, Network}
use Rattle.nf_routes_laws.proofs.Common.{IsNetwork, IsLink, hops, supplied, IsExit, IsOutflow, value-takes_between, IsPositive-link, IsOutflow-at_exit}
use Rattle.nf_routes_laws.proofs.Common.{IsExit-at_0, IsExit-after, IsExit-monotone, IsOutflow-early, Route, AreRoutes, Routed, link_loaded, exit_by}
use Rattle.nf_routes_laws.proofs.Common.{stages_at, arrival_at, travel_at, sent_by, sent_along, sent_by_routes, inflow_by, exits_along, IsRouted}
use Rattle.nf_routes_laws.proofs.Common.{RoutesArrive, ≤ℚ_refl, ≤ℚ_trans, link_at, sum_le, same_sums, both_are_zero, first_of_sum}
use Rattle.nf_model_laws.proofs.Sums.{if_same, if_order}

-- ---- sums over routes and positions
if_none : (b : Bool) (x s : ℚ) → (b ≡ true → x ≡ 0ℚ) → s ≡ 0ℚ → (if b then x +ℚ s else s) ≡ 0ℚ
if_none true x s e f = let d = e refl in linear_eq (x ∷ s ∷ []) (eq d ∷ eq f ∷ []) (search reading_of) tt tt
if_none false x s e f = f

along-same : (f g : ℕ → ℚ) (e : ℕ) (links : List ℕ) → ((place : ℕ) → slice_get links place ≡ Some e → f place ≡ g place) → sent_along f e links ≡ sent_along g e links
along-same f g e [] h = refl
along-same f g e (l ∷ links) h =
    if_same (eqb l e) (f 0) (g 0) _ _ (λ t. h 0 (ap (λ (x : ℕ). Some x) (eqb-true l e t)))
    (along-same (λ p. f (suc p)) (λ p. g (suc p)) e links (λ p k. h (suc p) k))

pub along-le : (f g : ℕ → ℚ) (e : ℕ) (links : List ℕ) → ((place : ℕ) → slice_get links place ≡ Some e → f place ≤ℚ g place) → sent_along f e links ≤ℚ sent_along g e links
along-le f g e [] h = ≤ℚ_refl 0ℚ
along-le f g e (l ∷ links) h =
    if_order (eqb l e) (f 0) (g 0) _ _ (λ t. h 0 (ap (λ (x : ℕ). Some x) (eqb-true l e t)))
    (along-le (λ p. f (suc p)) (λ p. g (suc p)) e links (λ p k. h (suc p) k))

pub along-none : (f : ℕ → ℚ) (e : ℕ) (links : List ℕ) → ((place : ℕ) → slice_get links place ≡ Some e → f place ≡ 0ℚ) → sent_along f e links ≡ 0ℚ
along-none f e [] h = refl
along-none f e (l ∷ links) h = if_none (eqb l e) (f 0) _ (λ t. h 0 (ap (λ (x : ℕ). Some x) (eqb-true l e t))) (along-none (λ p. f (suc p)) e links (λ p k. h (suc p) k))

abbrev pub Each : List Route → ℕ → (ℕ → ℕ → Type 0) → Type 0
Each routes e P = (r place : ℕ) (route : Route) → slice_get routes r ≡ Some route → slice_get route.links place ≡ Some e → P r place

routes-same : (f g : ℕ → ℕ → ℚ) (e : ℕ) (routes : List Route) → Each routes e (λ r place. f r place ≡ g r place) → sent_by_routes f e routes ≡ sent_by_routes g e routes
routes-same f g e [] h = refl
routes-same f g e (route ∷ routes) h =
    same_sums _ _ _ _ (along-same (f 0) (g 0) e route.links (λ p k. h 0 p route refl k))
    (routes-same (λ r. f (suc r)) (λ r. g (suc r)) e routes (λ r p x k l. h (suc r) p x k l))

pub routes-le : (f g : ℕ → ℕ → ℚ) (e : ℕ) (routes : List Route) → Each routes e (λ r place. f r place ≤ℚ g r place) → sent_by_routes f e routes ≤ℚ sent_by_routes g e routes
routes-le f g e [] h = ≤ℚ_refl 0ℚ
routes-le f g e (route ∷ routes) h =
    sum_le _ _ _ _ (along-le (f 0) (g 0) e route.links (λ p k. h 0 p route refl k))
    (routes-le (λ r. f (suc r)) (λ r. g (suc r)) e routes (λ r p x k l. h (suc r) p x k l))

pub routes-none : (f : ℕ → ℕ → ℚ) (e : ℕ) (routes : List Route) → Each routes e (λ r place. f r place ≡ 0ℚ) → sent_by_routes f e routes ≡ 0ℚ
routes-none f e [] h = refl
routes-none f e (route ∷ routes) h =
    both_are_zero _ _ (along-none (f 0) e route.links (λ p k. h 0 p route refl k)) (routes-none (λ r. f (suc r)) e routes (λ r p x k l. h (suc r) p x k l))

-- the links of a walk are links of the network
pub walk-links : (net : Network) (walk : List ℕ) (v w place e : ℕ) → IsWalk (hops net) walk v w → slice_get walk place ≡ Some e → (link : Link) × IsLink net e link
walk-links net [] v w place e k h = absurd (cc)
walk-links net (f ∷ walk) v w zero e k h = let l = link_at net f k.0 k.1 in (l.0, ap (λ (x : ℕ). slice_get net.links x) (sym (same_Some f e h)) ∙ l.1)
walk-links net (f ∷ walk) v w (suc place) e k h = walk-links net walk k.0.head w place e k.3 h

module _ (net : Network) (routes : List Route) (horizon : ℚ) (routed : Routed) (good : IsNetwork net) (are : AreRoutes net routes) (from_0 : 0ℚ ≤ℚ horizon)
    (is : IsRouted net routes horizon routed) where
  abbrev E : ℕ → ℚ
  E e = number_at routed.ends e

  abbrev X : ℕ → ℚ → ℚ
  X e t = exit_by routed e t

  abbrev S : ℕ → ℕ → ℚ → ℚ
  S r place t = sent_by routed r place t

  within : (e : ℕ) (link : Link) → IsLink net e link → e < length net.links
  within e link p = slice_get_within net.links e link p

  E-nn : (e : ℕ) (link : Link) → IsLink net e link → 0ℚ ≤ℚ E e
  E-nn e link p = ≤ℚ_trans _ _ _ from_0 (is.ends e (within e link p)).horizon_by

  inside : (r place e : ℕ) (route : Route) → slice_get routes r ≡ Some route → slice_get route.links place ≡ Some e → place < suc (length route.links)
  inside r place e route h k = let w = slice_get_within route.links place e k in omega arith

  rises : (e : ℕ) → NeverFalls (inflow_by routes routed e)
  rises e s t h k = routes-le (λ r place. S r place s) (λ r place. S r place t) e routes (λ r place route i j. is.rises r place route i (inside r place e route i j) s t h k)

  exits : (e : ℕ) (link : Link) (t : ℚ) → IsLink net e link → Within 0ℚ (E e) t → IsExit link.transit link.capacity (inflow_by routes routed e) t (X e t)
  exits e link t p w = is.exits e link t p w

  exit-order : (e : ℕ) (link : Link) (s t : ℚ) → IsLink net e link → 0ℚ ≤ℚ s → s ≤ℚ t → t ≤ℚ E e → X e s ≤ℚ X e t
  exit-order e link s t p h k j = IsExit-monotone link.transit link.capacity (inflow_by routes routed e) s t (X e s) (X e t) (IsPositive-link net e link good p) (rises e) k
      (exits e link s p (h, ≤ℚ_trans _ _ _ k j)) (exits e link t p (≤ℚ_trans _ _ _ h k, j))

  exit-forward : (e : ℕ) (link : Link) (t : ℚ) → IsLink net e link → Within 0ℚ (E e) t → t ≤ℚ X e t
  exit-forward e link t p w =
      first_of_sum t link.transit (X e t) (good.transits e link p) (IsExit-after link.transit link.capacity (inflow_by routes routed e) t (X e t)
      (IsPositive-link net e link good p) (exits e link t p w))

  -- each time between two exits is an exit
  entry_of : (e : ℕ) (link : Link) (z : ℚ) → IsLink net e link → X e 0ℚ ≤ℚ z → z ≤ℚ X e (E e) → (t : ℚ) × Within 0ℚ (E e) t × (X e t ≡ z)
  entry_of e link z p h k = value-takes_between (link_loaded routed e).exit (E e) z (is.link_curves e (within e link p)).1.1 (E-nn e link p) h k

  -- ---- one route
  module _ (r : ℕ) (route : Route) (here : slice_get routes r ≡ Some route) where
    link_of : (place e : ℕ) → slice_get route.links place ≡ Some e → (link : Link) × IsLink net e link
    link_of place e h = walk-links net route.links net.source net.sink place e (are.walks r route here) h

    -- these links follow each other from a position on
    abbrev From : ℕ → List ℕ → Type 0
    From place rest = (i : ℕ) → slice_get route.links (place + i) ≡ slice_get rest i

    abbrev Fits : List ℕ → ℚ → Type 0
    Fits [] t = Unit {0}
    Fits (e ∷ rest) t = t ≤ℚ E e

    from_next : (place e : ℕ) (rest : List ℕ) → From place (e ∷ rest) → From (suc place) rest
    from_next place e rest h i = ap (λ (n : ℕ). slice_get route.links n) (let n : suc place + i ≡ place + suc i = omega arith in n) ∙ h (suc i)

    at_place : (place e : ℕ) (rest : List ℕ) → From place (e ∷ rest) → slice_get route.links place ≡ Some e
    at_place place e rest h = ap (λ (n : ℕ). slice_get route.links n) (let n : place ≡ place + 0 = omega arith in n) ∙ h 0

    -- the exit of a link is within the end of the next
    fits_next : (place e : ℕ) (rest : List ℕ) (t : ℚ) → From place (e ∷ rest) → 0ℚ ≤ℚ t → t ≤ℚ E e → Fits rest (X e t)
    fits_next place e [] t h i j = tt
    fits_next place e (f ∷ rest) t h i j =
        let l = link_of place e (at_place place e (f ∷ rest) h) in
        let m = link_of (suc place) f (at_place (suc place) f rest (from_next place e (f ∷ rest) h)) in
        ≤ℚ_trans _ _ _ (exit-order e l.0 t (E e) l.1 i j (≤ℚ_refl (E e)))
        ((is.ends f (within f m.0 m.1)).before e (record {
          number = r;
          place = place;
          route = route;
          is_route = here;
          here =
              at_place place e (f ∷ rest) h;
          next = at_place (suc place) f rest (from_next place e (f ∷ rest) h);
        }))

    some_none : (o : Option ℕ) (x : ℕ) → o ≡ Some x → o ≡ None → ⊥
    some_none o x e f = cc

    arrival-is : (place : ℕ) (t : ℚ) → From place [] → S r place t ≡ value (arrival_at routed r) t
    arrival-is place t h =
        let none : slice_get route.links place ≡ None = ap (λ (n : ℕ). slice_get route.links n) (let n : place ≡ place + 0 = omega arith in n) ∙ h 0 in
        let beyond : length route.links ≤ place = past place none in
        ap (λ (o : Option (List (ℚ × ℚ))). value (unwrap_or o (arrival_at routed r)) t) (slice_get_past (stages_at routed r) place (let c = is.entry_count r route here in omega arith))
      where
        past : (place : ℕ) → slice_get route.links place ≡ None → length route.links ≤ place
        past place none = ⊎_elim
            (λ (w : (x : ℕ) × (place < length route.links) × (slice_get route.links place ≡ Some x) × (get_or route.links place x ≡ x)). absurd
            (some_none (slice_get route.links place) w.0 w.2 none))
            (λ (w : (length route.links ≤ place) × (slice_get route.links place ≡ None)). w.0)
            (slice_get_cases route.links place).1

    -- the amount sent by a time has arrived by the exits of the remaining links
    along : (rest : List ℕ) (place : ℕ) (t : ℚ) → From place rest → 0ℚ ≤ℚ t → Fits rest t → value (arrival_at routed r) (exits_along routed rest t) ≡ S r place t
    along [] place t h i j = sym (arrival-is place t h)
    along (e ∷ rest) place t h i j =
        let l = link_of place e (at_place place e rest h) in
        along rest (suc place) (X e t) (from_next place e rest h) (≤ℚ_trans _ _ _ i (exit-forward e l.0 t l.1 (i, j))) (fits_next place e rest t h i j)
        ∙ is.next r place e route t here (at_place place e rest h) (i, j)

    fits_first : (links : List ℕ) (t : ℚ) → From 0 links → t ≤ℚ horizon → Fits links t
    fits_first [] t h k = tt
    fits_first (e ∷ rest) t h k = let l = link_of 0 e (at_place 0 e rest h) in ≤ℚ_trans _ _ _ k (is.ends e (within e l.0 l.1)).horizon_by

    whole : From 0 route.links
    whole i = ap (λ (n : ℕ). slice_get route.links n) (let n : 0 + i ≡ i = omega arith in n)

    pub travelled : (departure : ℚ) → Within 0ℚ horizon departure → value (arrival_at routed r) (value (travel_at routed r) departure) ≡ S r 0 departure
    travelled departure w = ap (value (arrival_at routed r)) (is.travels r route departure here w) ∙ along route.links 0 departure whole w.0 (fits_first route.links departure whole w.1)

    -- ---- once all was sent, nothing more is sent
    Ended : ℕ → ℚ → Type 0
    Ended place t = (z : ℚ) → t ≤ℚ z → S r place z ≡ supplied route.pieces horizon

    ended-next : (place e : ℕ) (t : ℚ) → slice_get route.links place ≡ Some e → 0ℚ ≤ℚ t → t ≤ℚ E e → Ended place t → Ended (suc place) (X e t)
    unfolding Ended
    ended-next place e t h i j all z k = ⊎_elim
        (λ (m : z <ℚ X e (E e)).
        let l = link_of place e h in
        let u : (u : ℚ) × Within 0ℚ (E e) u × (X e u ≡ z) = entry_of e l.0 z l.1 (≤ℚ_trans _ _ _ (exit-order e l.0 0ℚ t l.1 (≤ℚ_refl 0ℚ) i j) k) (≤ℚ_of_lt _ _ m) in
        ⊎_elim
        (λ (n : u.0 <ℚ t). ap (S r (suc place)) (≤ℚ_antisymm z (X e t) (subst (λ (x : ℚ). x ≤ℚ X e t) u.2
        (exit-order e l.0 u.0 t l.1 u.1.0 (≤ℚ_of_lt _ _ n) j)) k) ∙ is.next r place e route t here h (i, j) ∙ all t (≤ℚ_refl t))
        (λ (n : t ≤ℚ u.0). ap (S r (suc place)) (sym u.2) ∙ is.next r place e route u.0 here h u.1 ∙ all u.0 n)
        (lt_or_le_ℚ u.0 t))
        (λ (m : X e (E e) ≤ℚ z). is.next_after r place e route z here h m ∙ all (E e) j)
        (lt_or_le_ℚ z (X e (E e)))

    ended : (rest : List ℕ) (place : ℕ) (t : ℚ) → From place rest → 0ℚ ≤ℚ t → Fits rest t → Ended place t → (z : ℚ) → exits_along routed rest t ≤ℚ z
        → value (arrival_at routed r) z ≡ supplied route.pieces horizon
    unfolding Ended
    ended [] place t h i j all z k = sym (arrival-is place z h) ∙ all z k
    ended (e ∷ rest) place t h i j all z k =
        let l = link_of place e (at_place place e rest h) in
        ended rest (suc place) (X e t) (from_next place e rest h) (≤ℚ_trans _ _ _ i (exit-forward e l.0 t l.1 (i, j))) (fits_next place e rest t h i j)
        (ended-next place e t (at_place place e rest h) i j all) z k

    pub all-arrive : (z : ℚ) → exits_along routed route.links horizon ≤ℚ z → value (arrival_at routed r) z ≡ supplied route.pieces horizon
    unfolding Ended
    all-arrive z k = ended route.links 0 horizon whole from_0 (fits_first route.links horizon whole (≤ℚ_refl horizon)) (λ y h. is.first_after r route y here h) z k

  -- ---- one link
  pub shares : (e : ℕ) (link : Link) (z : ℚ) → IsLink net e link → Within 0ℚ (X e (E e)) z
      → IsOutflow link.transit link.capacity (inflow_by routes routed e) z (sent_by_routes (λ r place. S r (suc place) z) e routes)
  shares e link z p w = ⊎_elim
      (λ (l : z <ℚ X e 0ℚ). subst (λ (y : ℚ). IsOutflow link.transit link.capacity (inflow_by routes routed e) z y)
      (sym (routes-none (λ r place. S r (suc place) z) e routes (λ r place route h k. is.next_before r place e route z h k (w.0, ≤ℚ_of_lt _ _ l))))
      (IsOutflow-early link.transit link.capacity (inflow_by routes routed e) z (subst (λ (x : ℚ). z <ℚ x) first l)))
      (λ (l : X e 0ℚ ≤ℚ z).
      let u : (u : ℚ) × Within 0ℚ (E e) u × (X e u ≡ z) = entry_of e link z p l w.1 in
      subst (λ (t : ℚ). IsOutflow link.transit link.capacity (inflow_by routes routed e) t (sent_by_routes (λ r place. S r (suc place) t) e routes)) u.2
      (subst (λ (y : ℚ). IsOutflow link.transit link.capacity (inflow_by routes routed e) (X e u.0) y)
      (sym (routes-same (λ r place. S r (suc place) (X e u.0)) (λ r place. S r place u.0) e routes (λ r place route h k. is.next r place e route u.0 h k u.1)))
      (IsOutflow-at_exit link.transit link.capacity (inflow_by routes routed e) u.0 (X e u.0) (IsPositive-link net e link good p) (rises e) u.1.0 (exits e link u.0 p u.1))))
      (lt_or_le_ℚ z (X e 0ℚ))
    where
      first : X e 0ℚ ≡ link.transit
      first = IsExit-at_0 link.transit link.capacity (inflow_by routes routed e) (X e 0ℚ) (exits e link 0ℚ p (≤ℚ_refl 0ℚ, E-nn e link p))

  pub arrive : RoutesArrive net routes horizon routed
  arrive = record {
    all = λ r route time h k. all-arrive r route h time k;
    travelled = λ r route departure h w. travelled r route h departure w;
    shares = shares;
  }
