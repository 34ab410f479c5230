use Rattle.std.proofs.Common.{◌≡◌, List, map, sym, ap, subst, ◌∙◌, Ok}
use Rattle.nf_routes.proofs.Common.{err_from_is_err_and, Load, passes_Q, at_part, each, ◌>>=◌, departures, after_err, after_ok, stops_on, loaded_of, Route}
use Rattle.nf_routes.proofs.Common.{AreRoutes, HoldCircle, NamedRoute, routes_of, SoFar, loaded_or, routes_list, all_kept, HaveExits, GoOverAll}
use Rattle.nf_routes.proofs.Common.{travel_along, complete_exits, complete_over, kept_result}
use Rattle.nf_curve.specs.Points.{Grown}
use Rattle.nf_load.specs.declared.loading.Loaded.{Loaded}
use Rattle.nf_routes_laws.proofs.Arriving.{arrive}
use Rattle.nf_routes_laws.proofs.Routed.{routes_list-is}
use Rattle.nf_routes_laws.proofs.FileKept.{are_routes}
use Rattle.nf_routes_links.specs.Standing.{seen_so_far}
use Rattle.nf_routes_links.proofs.All.{kept_stops, whole_of}
use Rattle.nf_routes.proofs.Whole.{ended_as, load_stops, travel_stops, list_comes, same_parts, kept_ended, kept_links}
use Rattle.nf_routes.proofs.routed.load_kept.Goals as goal

pub load_all-requires-clause-routes : goal.load_all-requires-clause-routes
load_all-requires-clause-routes c =
    subst (λ (l : List NamedRoute). AreRoutes c.args.net.now.net (routes_of l)) (sym c.as_slice-list.ensures.value)
    (are_routes c.args.net.now.net c.args.routes.now c.as_slice-list.ensures.kept.form c.requires.walks)

pub load_all-requires-clause-straight : goal.load_all-requires-clause-straight
load_all-requires-clause-straight c = subst (λ (l : List NamedRoute). HoldCircle (routes_of l) → ⊥) (sym c.as_slice-list.ensures.value) c.as_slice-list.ensures.kept.straight

pub returns-in_err-so_far-clause-list : goal.returns-in_err-so_far-clause-list
returns-in_err-so_far-clause-list c =
    let p = err_from_is_err_and c.from_residual.result c.from_residual.ensures.1 in
    let same : c.as_slice-list.result.now ≡ c.args.routes.now = c.as_slice-list.ensures.value in
    let list = λ (l : List NamedRoute). routes_list passes_Q c.args.net.now.net (routes_of l) c.args.horizon in
    rw (p.1, p.2) (stops_on c.in_err-so_far.field-0.0 (at_part Load (all_kept passes_Q c.args.kept c.args.net.now.net
    (routes_of c.as_slice-list.result.now) c.args.horizon)) (at_part Load (list c.args.routes.now >>= λ r. Ok (kept_result c.args.kept r)))
    (λ q k. after_err Load (list c.args.routes.now) (λ r. Ok (kept_result c.args.kept r)) q
    (ap (λ (l : List NamedRoute). at_part Load (list l)) (sym same) ∙ load_stops passes_Q c.args.net.now.net (routes_of c.as_slice-list.result.now) c.args.horizon q
    (kept_stops passes_Q c.args.kept c.args.net.now.net (routes_of c.as_slice-list.result.now) c.args.horizon q k))) c.in_err-so_far.ensures.list)

pub travels-requires-clause-exits : goal.travels-requires-clause-exits
travels-requires-clause-exits c =
    let links : map loaded_of c.deref.result.now ≡ map (loaded_or passes_Q) c.in_ok-so_far.so_far.links.items =
    ap (λ (l : List Loaded). map loaded_of l) c.deref.ensures.value ∙ c.in_ok-ends.ensures.loaded in
    subst HaveExits (sym links) (complete_exits passes_Q c.args.net.now.net (routes_of c.as_slice-list.result.now) (seen_so_far c.in_ok-so_far.so_far) c.in_ok-so_far.ensures.complete)

pub travels-requires-clause-over : goal.travels-requires-clause-over
travels-requires-clause-over c =
    let same : c.as_slice-list.result.now ≡ c.args.routes.now = c.as_slice-list.ensures.value in
    let links : map loaded_of c.deref.result.now ≡ map (loaded_or passes_Q) c.in_ok-so_far.so_far.links.items =
    ap (λ (l : List Loaded). map loaded_of l) c.deref.ensures.value ∙ c.in_ok-ends.ensures.loaded in
    let are : AreRoutes c.args.net.now.net (routes_of c.as_slice-list.result.now) =
    subst (λ (l : List NamedRoute). AreRoutes c.args.net.now.net (routes_of l)) (sym same)
    (are_routes c.args.net.now.net c.args.routes.now c.as_slice-list.ensures.kept.form c.requires.walks) in
    subst (λ (l : List _). GoOverAll l (routes_of c.as_slice-list.result.now)) (sym links)
    (complete_over passes_Q c.args.net.now.net (routes_of c.as_slice-list.result.now)
    (seen_so_far c.in_ok-so_far.so_far) c.in_ok-so_far.ensures.complete are)

pub returns-in_err-travels-clause-list : goal.returns-in_err-travels-clause-list
returns-in_err-travels-clause-list c =
    let p = err_from_is_err_and c.from_residual-in_err-travels.result c.from_residual-in_err-travels.ensures.1 in
    let same : c.as_slice-list.result.now ≡ c.args.routes.now = c.as_slice-list.ensures.value in
    let list = λ (l : List NamedRoute). routes_list passes_Q c.args.net.now.net (routes_of l) c.args.horizon in
    let whole = whole_of passes_Q c.args.kept c.args.net.now.net (routes_of c.as_slice-list.result.now) c.args.horizon (seen_so_far c.in_ok-so_far.so_far) c.in_ok-so_far.ensures.list in
    let links : map loaded_of c.deref.result.now ≡ map (loaded_or passes_Q) whole.all.links =
    ap (λ (l : List Loaded). map loaded_of l) c.deref.ensures.value ∙ c.in_ok-ends.ensures.loaded
    ∙ ap (map (loaded_or passes_Q)) (ap (λ (s : SoFar). s.links) (sym whole.same) ∙ kept_links c.args.kept whole.all) in
    rw (p.1, p.2) (stops_on c.in_err-travels.field-0.0 (at_part Load (each
    (λ (route : Route). travel_along passes_Q c.args.horizon (map loaded_of c.deref.result.now) route.links (departures c.args.horizon))
    (routes_of c.as_slice-list.result.now)))
    (at_part Load (list c.args.routes.now >>= λ r. Ok (kept_result c.args.kept r)))
    (λ q k. after_err Load (list c.args.routes.now) (λ r. Ok (kept_result c.args.kept r)) q
    (ap (λ (l : List NamedRoute). at_part Load (list l)) (sym same)
    ∙ travel_stops passes_Q c.args.net.now.net (routes_of c.as_slice-list.result.now) c.args.horizon whole.all whole.loaded
    (map loaded_of c.deref.result.now) links q k)) c.in_err-travels.ensures)

pub returns-clause-list : goal.returns-clause-list
returns-clause-list c =
    let same : c.as_slice-list.result.now ≡ c.args.routes.now = c.as_slice-list.ensures.value in
    let list = λ (l : List NamedRoute). routes_list passes_Q c.args.net.now.net (routes_of l) c.args.horizon in
    let travels = map (λ (g : Grown). g.points) c.in_ok-travels.travels.items in
    let whole = whole_of passes_Q c.args.kept c.args.net.now.net (routes_of c.as_slice-list.result.now) c.args.horizon (seen_so_far c.in_ok-so_far.so_far) c.in_ok-so_far.ensures.list in
    let links : map loaded_of c.deref.result.now ≡ map (loaded_or passes_Q) whole.all.links =
    ap (λ (l : List Loaded). map loaded_of l) c.deref.ensures.value ∙ c.in_ok-ends.ensures.loaded
    ∙ ap (map (loaded_or passes_Q)) (ap (λ (s : SoFar). s.links) (sym whole.same) ∙ kept_links c.args.kept whole.all) in
    let comes = ap (λ (l : List NamedRoute). at_part Load (list l)) (sym same)
    ∙ list_comes passes_Q c.args.net.now.net (routes_of c.as_slice-list.result.now) c.args.horizon whole.all whole.loaded
    (map loaded_of c.deref.result.now) links travels c.in_ok-travels.ensures in
    after_ok Load (list c.args.routes.now) (λ r. Ok (kept_result c.args.kept r)) _ comes
    ∙ ap Ok (kept_ended passes_Q c.args.net.now.net (routes_of c.as_slice-list.result.now) c.args.horizon c.args.kept whole.all travels
    ∙ ap (λ (s : SoFar). ended_as passes_Q c.args.net.now.net (routes_of c.as_slice-list.result.now) c.args.horizon s travels) whole.same
    ∙ same_parts (sym c.in_ok-ends.ensures.ends) (sym c.in_ok-ends.ensures.loaded) (sym c.in_ok-entries.ensures.entries) (sym c.in_ok-entries.ensures.arrivals))

pub returns-clause-routed : goal.returns-clause-routed
returns-clause-routed c = λ all e.
    routes_list-is passes_Q c.args.net.now.net (routes_of c.args.routes.now) c.args.horizon all c.recall.ensures.network
    (are_routes c.args.net.now.net c.args.routes.now c.as_slice-list.ensures.kept.form c.requires.walks) c.as_slice-list.ensures.kept.straight
    c.requires.horizon e

pub returns-clause-arrives : goal.returns-clause-arrives
returns-clause-arrives c = λ all e.
    arrive c.args.net.now.net (routes_of c.args.routes.now) c.args.horizon all c.recall.ensures.network
    (are_routes c.args.net.now.net c.args.routes.now c.as_slice-list.ensures.kept.form c.requires.walks) c.requires.horizon
    (returns-clause-routed c all e)

pub returns-in_err-so_far-clause-routed : goal.returns-in_err-so_far-clause-routed
returns-in_err-so_far-clause-routed c = λ all e.
    routes_list-is passes_Q c.args.net.now.net (routes_of c.args.routes.now) c.args.horizon all c.recall.ensures.network
    (are_routes c.args.net.now.net c.args.routes.now c.as_slice-list.ensures.kept.form c.requires.walks) c.as_slice-list.ensures.kept.straight
    c.requires.horizon e

pub returns-in_err-so_far-clause-arrives : goal.returns-in_err-so_far-clause-arrives
returns-in_err-so_far-clause-arrives c = λ all e.
    arrive c.args.net.now.net (routes_of c.args.routes.now) c.args.horizon all c.recall.ensures.network
    (are_routes c.args.net.now.net c.args.routes.now c.as_slice-list.ensures.kept.form c.requires.walks) c.requires.horizon
    (returns-in_err-so_far-clause-routed c all e)

pub returns-in_err-ends-clause-routed : goal.returns-in_err-ends-clause-routed
returns-in_err-ends-clause-routed c = λ all e.
    routes_list-is passes_Q c.args.net.now.net (routes_of c.args.routes.now) c.args.horizon all c.recall.ensures.network
    (are_routes c.args.net.now.net c.args.routes.now c.as_slice-list.ensures.kept.form c.requires.walks) c.as_slice-list.ensures.kept.straight
    c.requires.horizon e

pub returns-in_err-ends-clause-arrives : goal.returns-in_err-ends-clause-arrives
returns-in_err-ends-clause-arrives c = λ all e.
    arrive c.args.net.now.net (routes_of c.args.routes.now) c.args.horizon all c.recall.ensures.network
    (are_routes c.args.net.now.net c.args.routes.now c.as_slice-list.ensures.kept.form c.requires.walks) c.requires.horizon
    (returns-in_err-ends-clause-routed c all e)

pub returns-in_err-entries-clause-routed : goal.returns-in_err-entries-clause-routed
returns-in_err-entries-clause-routed c = λ all e.
    routes_list-is passes_Q c.args.net.now.net (routes_of c.args.routes.now) c.args.horizon all c.recall.ensures.network
    (are_routes c.args.net.now.net c.args.routes.now c.as_slice-list.ensures.kept.form c.requires.walks) c.as_slice-list.ensures.kept.straight
    c.requires.horizon e

pub returns-in_err-entries-clause-arrives : goal.returns-in_err-entries-clause-arrives
returns-in_err-entries-clause-arrives c = λ all e.
    arrive c.args.net.now.net (routes_of c.args.routes.now) c.args.horizon all c.recall.ensures.network
    (are_routes c.args.net.now.net c.args.routes.now c.as_slice-list.ensures.kept.form c.requires.walks) c.requires.horizon
    (returns-in_err-entries-clause-routed c all e)

pub returns-in_err-travels-clause-routed : goal.returns-in_err-travels-clause-routed
returns-in_err-travels-clause-routed c = λ all e.
    routes_list-is passes_Q c.args.net.now.net (routes_of c.args.routes.now) c.args.horizon all c.recall.ensures.network
    (are_routes c.args.net.now.net c.args.routes.now c.as_slice-list.ensures.kept.form c.requires.walks) c.as_slice-list.ensures.kept.straight
    c.requires.horizon e

pub returns-in_err-travels-clause-arrives : goal.returns-in_err-travels-clause-arrives
returns-in_err-travels-clause-arrives c = λ all e.
    arrive c.args.net.now.net (routes_of c.args.routes.now) c.args.horizon all c.recall.ensures.network
    (are_routes c.args.net.now.net c.args.routes.now c.as_slice-list.ensures.kept.form c.requires.walks) c.requires.horizon
    (returns-in_err-travels-clause-routed c all e)
