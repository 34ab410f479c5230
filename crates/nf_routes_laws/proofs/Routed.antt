-- The operation sequence of loading by route gives the loading by route.
use Rattle.std.proofs.Common.{◌≡◌, ℕ, zero, suc, ◌+◌, ◌<◌, List, [], ◌∷◌, length, ◌⊎◌, ⊎_elim, Option, Some, None, slice_get, unwrap_or, sym, ap, subst}
use Rattle.std.proofs.Common.{◌∙◌, arith, Ok, map}
use Rattle.nf_routes_laws.proofs.Common.{range_with_len, length-map, slice_get_within, ℚ, 0ℚ, ◌+ℚ◌, ◌≤ℚ◌, Passing, each, Point, Within, value, number_at}
use Rattle.nf_routes_laws.proofs.Common.{IsWalk, Link, Network, IsNetwork, IsLink, hops, IsQueue, IsExit, IsOutflow, IsPositive-link, IsExit-after}
use Rattle.nf_routes_laws.proofs.Common.{IsOutflow-unique, IsQueue-same, IsExit-same, IsOutflow-same, departures, link_loaded, exit_by, stages_at, entry_at}
use Rattle.nf_routes_laws.proofs.Common.{travel_at, sent_by, sent_by_routes, inflow_by, exits_along, IsRouted, then_ok, ≤ℚ_refl, ≤ℚ_trans, entry, same_Ok}
use Rattle.nf_routes_laws.proofs.Common.{IsLink-unique, Route, AreRoutes, HoldCircle, is_taken, SoFar, Routed, loaded_or, end_or, but_last, last_entry}
use Rattle.nf_routes_laws.proofs.Common.{load_all, exit_of, travel_on, compared}
use Rattle.nf_frac_def.proofs.Each.{each_length, each_at}
use Rattle.nf_routes_def.specs.Routes.{loading_order, takes_all}
use Rattle.nf_routes_def.specs.RoutesList.{routes_list}
use Rattle.nf_routes_laws.proofs.Arriving.{walk-links, arrive}
use Rattle.nf_routes_laws.proofs.Ordering.{In, all-at, in-range, taken-in, takes_all-straight}
use Rattle.nf_routes_laws.proofs.Entries.{IsEntry, IsFirst}
use Rattle.nf_routes_laws.proofs.Links.{LinkIs, links-are}
use Rattle.nf_routes_laws.proofs.Stages.{length-but_last, exit_of-is}
use Rattle.nf_routes_laws.proofs.Steps.{stage}
use Rattle.nf_routes_laws.proofs.Travels.{AreDepartures, departures-are, Passable, IsTravel, travel-is}
use Rattle.nf_routes_laws.proofs.Unrolled.{order, routed, RouteStands, Unrolled, stages-are, unrolled}

-- ---- the order takes each link
all-ordered : (passes : Passing) (net : Network) (routes : List Route) (horizon : ℚ) → AreRoutes net routes → (HoldCircle routes → ⊥) → (e : ℕ)
    → e < length net.links → In e (order passes net routes horizon)
unfolding takes_all loading_order
all-ordered passes net routes horizon are straight e h =
    taken-in (order passes net routes horizon) e (all-at (λ f. is_taken (order passes net routes horizon) f) (range_with_len 0 (length net.links)) e
    (takes_all-straight net routes are straight)
    (in-range 0 (length net.links) e (omega arith) (let n : e < 0 + length net.links = omega arith in n)))

module _ (passes : Passing) (net : Network) (routes : List Route) (horizon : ℚ) (final : SoFar) (travels : List (List Point)) (good : IsNetwork net)
    (are : AreRoutes net routes) (straight : HoldCircle routes → ⊥) (from_0 : 0ℚ ≤ℚ horizon)
    (done : Unrolled passes net routes horizon final travels [] (record { links = map (λ _. None) net.links; entries = map (λ _. []) routes }) (order passes net routes horizon))
    (travelled : each (λ (route : Route). travel_on passes horizon final.links route.links (departures horizon)) routes ≡ Ok travels) where
  abbrev all : Routed
  all = routed passes net routes horizon final travels

  ordered : (e : ℕ) → e < length net.links → In e (order passes net routes horizon)
  ordered e h = all-ordered passes net routes horizon are straight e h

  link : (e : ℕ) → e < length net.links → LinkIs net routes horizon all e
  link e h = links-are passes net routes horizon final travels good are from_0 done.steps e (ordered e h)

  below : (e : ℕ) (l : Link) → IsLink net e l → e < length net.links
  below e l p = slice_get_within net.links e l p

  exit_is : (e : ℕ) → exit_of passes final.links e ≡ (link_loaded all e).exit
  exit_is e = exit_of-is passes final.links e

  -- ---- one route
  module _ (r : ℕ) (route : Route) (here : slice_get routes r ≡ Some route) where
    -- its links are links of the network
    over : (place e : ℕ) → slice_get route.links place ≡ Some e → e < length net.links
    over place e at = let l = walk-links net route.links net.source net.sink place e (are.walks r route here) at in below e l.0 l.1

    -- it has at least one
    some_link : 0 < length route.links
    some_link = by route.links (are.walks r route here)
      where
        by : (links : List ℕ) → IsWalk (hops net) links net.source net.sink → 0 < length links
        by [] w = absurd (good.apart w)
        by (e ∷ links) w = omega arith

    -- all of them are taken
    all_taken : (rs : RouteStands passes net routes horizon (order passes net routes horizon) final r route) → length rs.entries ≡ suc (length route.links)
    all_taken rs = rs.count ∙ staged rs.n (length route.links) some_link whole
      where
        more_left : rs.n < length route.links → ⊥
        more_left l =
            let f : (f : ℕ) × (slice_get route.links rs.n ≡ Some f) = entry route.links rs.n l in
            rs.stands.left rs.n f.0 (omega arith) f.1 (ordered f.0 (over rs.n f.0 f.1))

        whole : rs.n ≡ length route.links
        whole = ⊎_elim
            (λ (l : rs.n < length route.links). absurd (more_left l))
            (λ (l : (rs.n ≡ length route.links) ⊎ (length route.links < rs.n)). ⊎_elim (λ (k : rs.n ≡ length route.links). k)
            (λ (k : length route.links < rs.n). let w = rs.stands.within in absurd (omega arith)) l)
            (compared rs.n (length route.links))

        staged : (n m : ℕ) → 0 < m → n ≡ m → stage n ≡ suc m
        staged zero m h e = absurd (omega arith)
        staged (suc n) m h e = ap suc e

    stands : RouteStands passes net routes horizon (order passes net routes horizon) final r route
    stands = done.stands.at r route here

    count : length (stages_at all r) ≡ length route.links
    count = ap length (stages-are passes net routes horizon final travels r stands.entries stands.here) ∙ length-but_last passes stands.entries (length route.links) (all_taken stands)

    -- the amount sent at each position, and the arrival
    entered : (place : ℕ) → place < suc (length route.links) → (last : ℚ) × IsEntry (entry_at all r place) last
    entered zero h =
        let e : (e : ℕ) × (slice_get route.links 0 ≡ Some e) = entry route.links 0 some_link in
        (number_at all.ends e.0, (link e.0 (over 0 e.0 e.1)).entries r 0 route here e.1)
    entered (suc place) h =
        let e : (e : ℕ) × (slice_get route.links place ≡ Some e) = entry route.links place (omega arith) in
        (exit_by all e.0 (number_at all.ends e.0), (link e.0 (over place e.0 e.1)).nexts r place route here e.1)

    first_is : IsFirst route.pieces horizon (entry_at all r 0)
    first_is = let e : (e : ℕ) × (slice_get route.links 0 ≡ Some e) = entry route.links 0 some_link in (link e.0 (over 0 e.0 e.1)).firsts r route here e.1

    -- ---- its travel
    abbrev From : ℕ → List ℕ → Type 0
    From place rest = (i : ℕ) → slice_get route.links (place + i) ≡ slice_get rest i

    abbrev Fits : List ℕ → ℚ → Type 0
    Fits [] t = Unit {0}
    Fits (e ∷ rest) t = t ≤ℚ number_at all.ends e

    from_next : (place e : ℕ) (rest : List ℕ) → From place (e ∷ rest) → From (suc place) rest
    from_next place e rest h i = ap (λ (n : ℕ). slice_get route.links n) (let n : suc place + i ≡ place + suc i = omega arith in n) ∙ h (suc i)

    at_place : (place e : ℕ) (rest : List ℕ) → From place (e ∷ rest) → slice_get route.links place ≡ Some e
    at_place place e rest h = ap (λ (n : ℕ). slice_get route.links n) (let n : place ≡ place + 0 = omega arith in n) ∙ h 0

    passable : (rest : List ℕ) (place : ℕ) (t : ℚ) → From place rest → 0ℚ ≤ℚ t → Fits rest t → Passable passes horizon final.links all from_0 exit_is rest t
    passable [] place t h i j = tt
    passable (e ∷ rest) place t h i j =
        let l : LinkIs net routes horizon all e = link e (over place e (at_place place e rest h)) in
        let on : t ≤ℚ exit_by all e t = l.exits_after t (i, j) in
        let later : 0ℚ ≤ℚ exit_by all e t = ≤ℚ_trans _ _ _ i on in
        (l.loaded.exit_curve, later, passable rest (suc place) (exit_by all e t) (from_next place e rest h) later (fits rest (from_next place e rest h) l))
      where
        fits : (rest : List ℕ) → From (suc place) rest → LinkIs net routes horizon all e → Fits rest (exit_by all e t)
        fits [] k l = tt
        fits (f ∷ rest) k l =
            let m : LinkIs net routes horizon all f = link f (over (suc place) f (at_place (suc place) f rest k)) in
            ≤ℚ_trans _ _ _ (l.exits_rise t (number_at all.ends e) i j (≤ℚ_refl (number_at all.ends e)))
            (m.is_end.before e (record { number = r; place = place; route = route; is_route = here; here = at_place place e _ h; next = at_place (suc place) f rest k }))

    fits_first : (links : List ℕ) (t : ℚ) → From 0 links → t ≤ℚ horizon → Fits links t
    fits_first [] t h k = tt
    fits_first (e ∷ rest) t h k = ≤ℚ_trans _ _ _ k (link e (over 0 e (at_place 0 e rest h))).is_end.horizon_by

    whole_route : From 0 route.links
    whole_route i = ap (λ (n : ℕ). slice_get route.links n) (let n : 0 + i ≡ i = omega arith in n)

    travel : IsTravel passes horizon final.links all from_0 exit_is route.links (departures horizon) (travel_at all r)
    travel =
        let w = each_at (λ (route : Route). travel_on passes horizon final.links route.links (departures horizon)) routes travels r route travelled here in
        let d : AreDepartures horizon (departures horizon) = departures-are horizon from_0 in
        subst (λ (l : List Point). IsTravel passes horizon final.links all from_0 exit_is route.links (departures horizon) l)
        (sym (ap (λ (o : Option (List Point)). unwrap_or o []) w.1))
        (travel-is passes horizon final.links all from_0 exit_is route.links (departures horizon) w.0 d.curve
        (λ t k. subst (λ (x : ℚ). 0ℚ ≤ℚ x) (sym (d.values t k)) k.0)
        (λ t k. subst (λ (x : ℚ). Passable passes horizon final.links all from_0 exit_is route.links x) (sym (d.values t k))
        (passable route.links 0 t whole_route k.0 (fits_first route.links t whole_route k.1))) w.2)

    travels-are : (t : ℚ) → Within 0ℚ horizon t → value (travel_at all r) t ≡ exits_along all route.links t
    travels-are t w = travel.values t w ∙ ap (exits_along all route.links) ((departures-are horizon from_0).values t w)

  -- ---- one link
  module _ (e : ℕ) (l : Link) (p : IsLink net e l) where
    abbrev is : LinkIs net routes horizon all e
    is = link e (below e l p)

    same_link : is.link ≡ l
    same_link = IsLink-unique net e is.link l is.is_link p

    queue_is : (t : ℚ) → Within 0ℚ (number_at all.ends e) t → IsQueue l.capacity (inflow_by routes all e) t (value (link_loaded all e).queue t)
    queue_is t w = subst (λ (k : Link). IsQueue k.capacity (inflow_by routes all e) t (value (link_loaded all e).queue t)) same_link
        (IsQueue-same is.link.capacity (value is.inflow) (inflow_by routes all e) t (value (link_loaded all e).queue t) (λ u k. is.amounts u k.0) (is.loaded.queue_values t w))

    exit_same : (t : ℚ) → Within 0ℚ (number_at all.ends e) t → IsExit l.transit l.capacity (inflow_by routes all e) t (exit_by all e t)
    exit_same t w = subst (λ (k : Link). IsExit k.transit k.capacity (inflow_by routes all e) t (exit_by all e t)) same_link
        (IsExit-same is.link.transit is.link.capacity (value is.inflow) (inflow_by routes all e) t (exit_by all e t) (λ u k. is.amounts u k.0) (is.loaded.exit_values t w))

    outflow_is : (t : ℚ) → Within 0ℚ (number_at all.ends e +ℚ l.transit) t → IsOutflow l.transit l.capacity (inflow_by routes all e) t (value (link_loaded all e).outflow t)
    outflow_is t w = subst (λ (k : Link). Within 0ℚ (number_at all.ends e +ℚ k.transit) t
        → IsOutflow k.transit k.capacity (inflow_by routes all e) t (value (link_loaded all e).outflow t)) same_link
        (λ v. IsOutflow-same is.link.transit is.link.capacity (value is.inflow) (inflow_by routes all e) t (value (link_loaded all e).outflow t)
        (λ u k. is.amounts u k.0) (is.loaded.outflow_values t v)) w

  -- ---- all of it
  pub is-routed : IsRouted net routes horizon all
  is-routed = record {
    link_count = length-map final.links (loaded_or passes) ∙ done.stands.link_count;
    end_count = length-map final.links (end_or passes) ∙ done.stands.link_count;
    entry_count = λ r route here. count r route here;
    entries_count = length-map final.entries (but_last passes) ∙ done.stands.entry_count;
    arrival_count = length-map final.entries last_entry ∙ done.stands.entry_count;
    travel_count = each_length (λ (route : Route). travel_on passes horizon final.links route.links (departures horizon)) routes travels travelled;
    curves = λ r place route here h. let w = entered r route here place h in (w.1.curve, w.1.form);
    link_curves = λ e h. let l = link e h in (l.loaded.queue_curve, (l.loaded.outflow_curve, l.loaded.exit_curve));
    link_short = λ e h. let l = link e h in (l.loaded.queue_short, (l.loaded.outflow_short, l.loaded.exit_short));
    travel_curves = λ r route here. let t = travel r route here in (t.curve, t.form);
    begins = λ r place route here h. (entered r route here place h).1.begins;
    rises = λ r place route here h. (entered r route here place h).1.rises;
    ends = λ e h. (link e h).is_end;
    first = λ r route t here w. (first_is r route here).values t w;
    first_after = λ r route t here k. (first_is r route here).after t k;
    queues = λ e l t p w. queue_is e l p t w;
    exits = λ e l t p w. exit_same e l p t w;
    outflows = λ e l t p w. outflow_is e l p t w;
    next = λ r place e route t here at w. ((link e (over r route here place e at)).shares r place route here at).at_exit t w;
    next_before = λ r place e route t here at w. ((link e (over r route here place e at)).shares r place route here at).before t w;
    next_after = λ r place e route t here at k. ((link e (over r route here place e at)).shares r place route here at).after t k;
    travels = λ r route t here w. travels-are r route here t w;
  }

-- if no operation passes, the operation sequence gives the loading by route
pub routes_list-is : (passes : Passing) (net : Network) (routes : List Route) (horizon : ℚ) (result : Routed) → IsNetwork net → AreRoutes net routes
    → (HoldCircle routes → ⊥) → 0ℚ ≤ℚ horizon
    → routes_list passes net routes horizon ≡ Ok result → IsRouted net routes horizon result
unfolding routes_list loading_order
routes_list-is passes net routes horizon result good are straight from_0 h =
    let final = then_ok (load_all passes net routes horizon (order passes net routes horizon)
    (record { links = map (λ _. None) net.links; entries = map (λ _. []) routes })) _ result h in
    let travels = then_ok (each (λ (route : Route). travel_on passes horizon final.between.links route.links (departures horizon)) routes) _ result final.next in
    subst (λ (x : Routed). IsRouted net routes horizon x) (same_Ok _ _ travels.next)
    (is-routed passes net routes horizon final.between travels.between good are straight from_0
    (unrolled passes net routes horizon final.between travels.between final.first) travels.first)

-- ---- the routes over a link send on its outflow
pub nexts-outflow : (net : Network) (routes : List Route) (horizon : ℚ) (routed : Routed) (e : ℕ) (link : Link) (time : ℚ) → IsNetwork net
    → AreRoutes net routes → 0ℚ ≤ℚ horizon → IsRouted net routes horizon routed → IsLink net e link
    → Within 0ℚ (number_at routed.ends e +ℚ link.transit) time → value (link_loaded routed e).outflow time ≡ sent_by_routes (λ r place. sent_by routed r (suc place) time) e routes
nexts-outflow net routes horizon routed e link time good are from_0 is p w =
    let end_nn : 0ℚ ≤ℚ number_at routed.ends e = ≤ℚ_trans _ _ _ from_0 (is.ends e (slice_get_within net.links e link p)).horizon_by in
    let after : number_at routed.ends e +ℚ link.transit ≤ℚ exit_by routed e (number_at routed.ends e) =
    IsExit-after link.transit link.capacity (inflow_by routes routed e) (number_at routed.ends e) _ (IsPositive-link net e link good p)
    (is.exits e link (number_at routed.ends e) p (end_nn, ≤ℚ_refl _)) in
    IsOutflow-unique link.transit link.capacity (inflow_by routes routed e) time _ _ (is.outflows e link time p w)
    ((arrive net routes horizon routed good are from_0 is).shares e link time p (w.0, ≤ℚ_trans _ _ _ w.1 after))
