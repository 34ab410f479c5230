use Rattle.std.proofs.Common.{◌≡◌, List, [], ◌∷◌, length, set, sym, ap, subst, ◌∙◌, arith, ℕ, Option, Some, Result, Ok, slice_get}
use Rattle.nf_routes_links.proofs.Common.{length-map, with_items_is, err_from_is_err_and, ℚ, 0ℚ, ◌≤ℚ◌, PassedAt, Load, passes_Q, Stops, at_part, Link}
use Rattle.nf_routes_links.proofs.Common.{IsPositive-link, stops_on, Loaded, checked_loading, loaded_of, all_pairs, NamedRoute, routes_of, LoadedLink}
use Rattle.nf_routes_links.proofs.Common.{SoFar, end_by, begin_all, sum_from, next_all, load_here, seen_so_far, ForEachRoute, MayBegin, Sends}
use Rattle.std.specs.Vec.{with_items}
use Rattle.nf_routes_links.proofs.Folds.{Sent, along-count}
use Rattle.nf_routes_links.proofs.Sound.{have_pieces}
use Rattle.nf_routes_links.proofs.Here.{end_nn, all_send, inflow_is, exits_are, begin_stops, sum_stops, load_stops, send_stops, comes_to}
use Rattle.nf_routes_links.proofs.loading.load_here.Goals as goal

pub begin_all-requires-clause-many : goal.begin_all-requires-clause-many
begin_all-requires-clause-many c =
    ap (λ (l : List Sent). length l) c.deref_mut.ensures.value ∙ along-count (MayBegin c.args.link)
    (routes_of c.args.routes.now) c.args.so_far.now.entries.items c.requires.may.entries ∙ length-map c.args.routes.now (λ (r : NamedRoute). r.route)

pub begin_all-requires-clause-pieces : goal.begin_all-requires-clause-pieces
begin_all-requires-clause-pieces c =
    have_pieces c.args.link (routes_of c.args.routes.now) c.args.so_far.now.entries.items c.requires.may.entries

pub inflow_of-requires : goal.inflow_of-requires
inflow_of-requires c =
    let begun : at_part Load (begin_all passes_Q c.args.horizon c.args.link (routes_of c.args.routes.now) c.args.so_far.now.entries.items) ≡ Ok c.begin_all.new.entries =
    ap (λ (l : List Sent). at_part Load (begin_all passes_Q c.args.horizon c.args.link (routes_of c.args.routes.now) l)) (sym c.deref_mut.ensures.value) ∙ c.in_ok-begin_all.ensures in
    let items = with_items_is c.args.so_far.now.entries c.begin_all.new.entries (c.begin_all.auto.entries ∙ c.deref_mut.ensures.len) in
    subst (λ (l : List Sent). ForEachRoute (Sends c.args.link) (routes_of c.args.routes.now) l) (sym (c.deref-2.ensures.value ∙ items))
    (all_send passes_Q c.args.horizon (routes_of c.args.routes.now) (seen_so_far c.args.so_far.now) c.args.link c.link-here.result c.args.net.now.net
    c.requires.horizon c.link-here.ensures.named.network c.link-here.ensures.link c.requires.may c.begin_all.new.entries begun)

pub load_link-requires-clause-capacity : goal.load_link-requires-clause-capacity
load_link-requires-clause-capacity c =
    λ rate e. IsPositive-link c.args.net.now.net c.args.link c.link-here.result c.link-here.ensures.named.network c.link-here.ensures.link rate
    (sym (ap (λ (l : Link). l.capacity) c.here.view_is) ∙ e)

pub load_link-requires-clause-begins : goal.load_link-requires-clause-begins
load_link-requires-clause-begins c =
    let begun : at_part Load (begin_all passes_Q c.args.horizon c.args.link (routes_of c.args.routes.now) c.args.so_far.now.entries.items) ≡ Ok c.begin_all.new.entries =
    ap (λ (l : List Sent). at_part Load (begin_all passes_Q c.args.horizon c.args.link (routes_of c.args.routes.now) l)) (sym c.deref_mut.ensures.value) ∙ c.in_ok-begin_all.ensures in
    let items = with_items_is c.args.so_far.now.entries c.begin_all.new.entries (c.begin_all.auto.entries ∙ c.deref_mut.ensures.len) in
    let inflow : at_part Load (sum_from passes_Q c.args.link ((0ℚ, 0ℚ) ∷ []) (routes_of c.args.routes.now) c.begin_all.new.entries) ≡ Ok c.in_ok-inflow.inflow.points =
    ap (λ (l : List Sent). at_part Load (sum_from passes_Q c.args.link ((0ℚ, 0ℚ) ∷ []) (routes_of c.args.routes.now) l))
    (sym (c.deref-2.ensures.value ∙ items)) ∙ c.in_ok-inflow.ensures in
    (inflow_is passes_Q c.args.horizon (routes_of c.args.routes.now) (seen_so_far c.args.so_far.now) c.args.link c.link-here.result c.args.net.now.net
    c.requires.horizon c.link-here.ensures.named.network c.link-here.ensures.link c.requires.may c.begin_all.new.entries c.in_ok-inflow.inflow.points
    begun inflow).begins

pub load_link-requires-clause-rises : goal.load_link-requires-clause-rises
load_link-requires-clause-rises c =
    let begun : at_part Load (begin_all passes_Q c.args.horizon c.args.link (routes_of c.args.routes.now) c.args.so_far.now.entries.items) ≡ Ok c.begin_all.new.entries =
    ap (λ (l : List Sent). at_part Load (begin_all passes_Q c.args.horizon c.args.link (routes_of c.args.routes.now) l)) (sym c.deref_mut.ensures.value) ∙ c.in_ok-begin_all.ensures in
    let items = with_items_is c.args.so_far.now.entries c.begin_all.new.entries (c.begin_all.auto.entries ∙ c.deref_mut.ensures.len) in
    let inflow : at_part Load (sum_from passes_Q c.args.link ((0ℚ, 0ℚ) ∷ []) (routes_of c.args.routes.now) c.begin_all.new.entries) ≡ Ok c.in_ok-inflow.inflow.points =
    ap (λ (l : List Sent). at_part Load (sum_from passes_Q c.args.link ((0ℚ, 0ℚ) ∷ []) (routes_of c.args.routes.now) l))
    (sym (c.deref-2.ensures.value ∙ items)) ∙ c.in_ok-inflow.ensures in
    (inflow_is passes_Q c.args.horizon (routes_of c.args.routes.now) (seen_so_far c.args.so_far.now) c.args.link c.link-here.result c.args.net.now.net
    c.requires.horizon c.link-here.ensures.named.network c.link-here.ensures.link c.requires.may c.begin_all.new.entries c.in_ok-inflow.inflow.points
    begun inflow).rises

pub load_link-requires-clause-until : goal.load_link-requires-clause-until
load_link-requires-clause-until c =
    let end : c.end_by-end.result ≡ end_by c.args.horizon (all_pairs (routes_of c.args.routes.now)) c.args.so_far.now.links.items c.args.link =
    c.end_by-end.ensures ∙ ap (λ (l : List (Option LoadedLink)). end_by c.args.horizon (all_pairs (routes_of c.args.routes.now)) l c.args.link) c.deref.ensures.value in
    subst (λ (z : ℚ). 0ℚ ≤ℚ z) (sym end) (end_nn passes_Q c.args.horizon (routes_of c.args.routes.now)
    (seen_so_far c.args.so_far.now) c.args.link c.link-here.result c.args.net.now.net c.requires.horizon c.link-here.ensures.named.network
    c.link-here.ensures.link c.requires.may)

pub send_all_on-requires-clause-exits : goal.send_all_on-requires-clause-exits
send_all_on-requires-clause-exits c =
    let begun : at_part Load (begin_all passes_Q c.args.horizon c.args.link (routes_of c.args.routes.now) c.args.so_far.now.entries.items) ≡ Ok c.begin_all.new.entries =
    ap (λ (l : List Sent). at_part Load (begin_all passes_Q c.args.horizon c.args.link (routes_of c.args.routes.now) l)) (sym c.deref_mut.ensures.value) ∙ c.in_ok-begin_all.ensures in
    let items = with_items_is c.args.so_far.now.entries c.begin_all.new.entries (c.begin_all.auto.entries ∙ c.deref_mut.ensures.len) in
    let end : c.end_by-end.result ≡ end_by c.args.horizon (all_pairs (routes_of c.args.routes.now)) c.args.so_far.now.links.items c.args.link =
    c.end_by-end.ensures ∙ ap (λ (l : List (Option LoadedLink)). end_by c.args.horizon (all_pairs (routes_of c.args.routes.now)) l c.args.link) c.deref.ensures.value in
    let inflow : at_part Load (sum_from passes_Q c.args.link ((0ℚ, 0ℚ) ∷ []) (routes_of c.args.routes.now) c.begin_all.new.entries) ≡ Ok c.in_ok-inflow.inflow.points =
    ap (λ (l : List Sent). at_part Load (sum_from passes_Q c.args.link ((0ℚ, 0ℚ) ∷ []) (routes_of c.args.routes.now) l))
    (sym (c.deref-2.ensures.value ∙ items)) ∙ c.in_ok-inflow.ensures in
    let loaded : at_part Load (checked_loading passes_Q c.link-here.result.transit c.link-here.result.capacity c.in_ok-inflow.inflow.points
    (end_by c.args.horizon (all_pairs (routes_of c.args.routes.now)) c.args.so_far.now.links.items c.args.link)) ≡ Ok
    (loaded_of c.in_ok-loaded.loaded) =
    ap (λ (z : ℚ). at_part Load (checked_loading passes_Q c.link-here.result.transit c.link-here.result.capacity c.in_ok-inflow.inflow.points z)) (sym end)
    ∙ ap (λ (l : Link). at_part Load (checked_loading passes_Q l.transit l.capacity c.in_ok-inflow.inflow.points c.end_by-end.result)) (sym c.here.view_is)
    ∙ c.in_ok-loaded.ensures.list in
    exits_are passes_Q c.args.horizon (routes_of c.args.routes.now) (seen_so_far c.args.so_far.now) c.args.link c.link-here.result c.args.net.now.net
    c.requires.horizon c.link-here.ensures.named.network c.link-here.ensures.link c.requires.may c.begin_all.new.entries c.in_ok-inflow.inflow.points
    (loaded_of c.in_ok-loaded.loaded) begun inflow loaded

pub send_all_on-requires-clause-send : goal.send_all_on-requires-clause-send
send_all_on-requires-clause-send c =
    let begun : at_part Load (begin_all passes_Q c.args.horizon c.args.link (routes_of c.args.routes.now) c.args.so_far.now.entries.items) ≡ Ok c.begin_all.new.entries =
    ap (λ (l : List Sent). at_part Load (begin_all passes_Q c.args.horizon c.args.link (routes_of c.args.routes.now) l)) (sym c.deref_mut.ensures.value) ∙ c.in_ok-begin_all.ensures in
    let items = with_items_is c.args.so_far.now.entries c.begin_all.new.entries (c.begin_all.auto.entries ∙ c.deref_mut.ensures.len) in
    subst (λ (l : List Sent). ForEachRoute (Sends c.args.link) (routes_of c.args.routes.now) l) (sym (c.deref_mut-2.ensures.value ∙ items))
    (all_send passes_Q c.args.horizon (routes_of c.args.routes.now) (seen_so_far c.args.so_far.now) c.args.link c.link-here.result c.args.net.now.net
    c.requires.horizon c.link-here.ensures.named.network c.link-here.ensures.link c.requires.may c.begin_all.new.entries begun)

pub returns-in_err-send_all_on : goal.returns-in_err-send_all_on
returns-in_err-send_all_on c =
    let p = err_from_is_err_and c.from_residual-in_err-send_all_on.result c.from_residual-in_err-send_all_on.ensures.1 in
    let begun : at_part Load (begin_all passes_Q c.args.horizon c.args.link (routes_of c.args.routes.now) c.args.so_far.now.entries.items) ≡ Ok c.begin_all.new.entries =
    ap (λ (l : List Sent). at_part Load (begin_all passes_Q c.args.horizon c.args.link (routes_of c.args.routes.now) l)) (sym c.deref_mut.ensures.value) ∙ c.in_ok-begin_all.ensures in
    let items = with_items_is c.args.so_far.now.entries c.begin_all.new.entries (c.begin_all.auto.entries ∙ c.deref_mut.ensures.len) in
    let end : c.end_by-end.result ≡ end_by c.args.horizon (all_pairs (routes_of c.args.routes.now)) c.args.so_far.now.links.items c.args.link =
    c.end_by-end.ensures ∙ ap (λ (l : List (Option LoadedLink)). end_by c.args.horizon (all_pairs (routes_of c.args.routes.now)) l c.args.link) c.deref.ensures.value in
    let inflow : at_part Load (sum_from passes_Q c.args.link ((0ℚ, 0ℚ) ∷ []) (routes_of c.args.routes.now) c.begin_all.new.entries) ≡ Ok c.in_ok-inflow.inflow.points =
    ap (λ (l : List Sent). at_part Load (sum_from passes_Q c.args.link ((0ℚ, 0ℚ) ∷ []) (routes_of c.args.routes.now) l))
    (sym (c.deref-2.ensures.value ∙ items)) ∙ c.in_ok-inflow.ensures in
    let loaded : at_part Load (checked_loading passes_Q c.link-here.result.transit c.link-here.result.capacity c.in_ok-inflow.inflow.points
    (end_by c.args.horizon (all_pairs (routes_of c.args.routes.now)) c.args.so_far.now.links.items c.args.link)) ≡ Ok
    (loaded_of c.in_ok-loaded.loaded) =
    ap (λ (z : ℚ). at_part Load (checked_loading passes_Q c.link-here.result.transit c.link-here.result.capacity c.in_ok-inflow.inflow.points z)) (sym end)
    ∙ ap (λ (l : Link). at_part Load (checked_loading passes_Q l.transit l.capacity c.in_ok-inflow.inflow.points c.end_by-end.result)) (sym c.here.view_is)
    ∙ c.in_ok-loaded.ensures.list in
    rw (p.1, p.2) (stops_on c.in_err-send_all_on.field-0.0 (at_part Load (next_all passes_Q c.args.link (loaded_of c.in_ok-loaded.loaded).exit
    (routes_of c.args.routes.now) c.begin_all.new.entries))
    (at_part Load (load_here passes_Q c.args.horizon (routes_of c.args.routes.now) (seen_so_far c.args.so_far.now) c.args.link (slice_get c.args.net.now.net.links c.args.link)))
    (λ q k. ap (λ (o : Option Link). at_part Load (load_here passes_Q c.args.horizon (routes_of c.args.routes.now)
    (seen_so_far c.args.so_far.now) c.args.link o)) c.link-here.ensures.link
    ∙ send_stops passes_Q c.args.horizon (routes_of c.args.routes.now) (seen_so_far c.args.so_far.now) c.args.link c.link-here.result
    c.begin_all.new.entries begun c.in_ok-inflow.inflow.points inflow (loaded_of c.in_ok-loaded.loaded) loaded q k)
    (subst (λ (l : List Sent). Stops (λ (q : ℚ). q) c.in_err-send_all_on.field-0.0
    (at_part Load (next_all passes_Q c.args.link (loaded_of c.in_ok-loaded.loaded).exit (routes_of c.args.routes.now) l)))
    (c.deref_mut-2.ensures.value ∙ items) c.in_err-send_all_on.ensures))

pub begin_all-requires-clause-horizon : goal.begin_all-requires-clause-horizon
begin_all-requires-clause-horizon c = c.requires.horizon

pub link-here-requires : goal.link-here-requires
link-here-requires c = c.requires.link

pub load_link-requires-clause-transit : goal.load_link-requires-clause-transit
load_link-requires-clause-transit c =
    subst (λ (l : Link). 0ℚ ≤ℚ l.transit) (sym c.here.view_is) (c.link-here.ensures.named.network.transits c.args.link c.link-here.result c.link-here.ensures.link)

pub returns-in_err-begin_all : goal.returns-in_err-begin_all
returns-in_err-begin_all c =
    let p = err_from_is_err_and c.from_residual.result c.from_residual.ensures.1 in
    rw (p.1, p.2) (stops_on c.in_err-begin_all.field-0.0 (at_part Load (begin_all passes_Q c.args.horizon c.args.link (routes_of c.args.routes.now) c.args.so_far.now.entries.items))
    (at_part Load (load_here passes_Q c.args.horizon (routes_of c.args.routes.now) (seen_so_far c.args.so_far.now) c.args.link (slice_get c.args.net.now.net.links c.args.link)))
    (λ q k. ap (λ (o : Option Link). at_part Load (load_here passes_Q c.args.horizon (routes_of c.args.routes.now)
    (seen_so_far c.args.so_far.now) c.args.link o)) c.link-here.ensures.link
    ∙ begin_stops passes_Q c.args.horizon (routes_of c.args.routes.now) (seen_so_far c.args.so_far.now) c.args.link c.link-here.result q k)
    (subst (λ (l : List Sent). Stops (λ (q : ℚ). q) c.in_err-begin_all.field-0.0
    (at_part Load (begin_all passes_Q c.args.horizon c.args.link (routes_of c.args.routes.now) l))) c.deref_mut.ensures.value
    c.in_err-begin_all.ensures))

pub returns-in_err-inflow : goal.returns-in_err-inflow
returns-in_err-inflow c =
    let p = err_from_is_err_and c.from_residual-in_err-inflow.result c.from_residual-in_err-inflow.ensures.1 in
    let begun : at_part Load (begin_all passes_Q c.args.horizon c.args.link (routes_of c.args.routes.now) c.args.so_far.now.entries.items) ≡ Ok c.begin_all.new.entries =
    ap (λ (l : List Sent). at_part Load (begin_all passes_Q c.args.horizon c.args.link (routes_of c.args.routes.now) l)) (sym c.deref_mut.ensures.value) ∙ c.in_ok-begin_all.ensures in
    let items = with_items_is c.args.so_far.now.entries c.begin_all.new.entries (c.begin_all.auto.entries ∙ c.deref_mut.ensures.len) in
    rw (p.1, p.2) (stops_on c.in_err-inflow.field-0.0 (at_part Load (sum_from passes_Q c.args.link ((0ℚ, 0ℚ) ∷ []) (routes_of c.args.routes.now) c.begin_all.new.entries))
    (at_part Load (load_here passes_Q c.args.horizon (routes_of c.args.routes.now) (seen_so_far c.args.so_far.now) c.args.link (slice_get c.args.net.now.net.links c.args.link)))
    (λ q k. ap (λ (o : Option Link). at_part Load (load_here passes_Q c.args.horizon (routes_of c.args.routes.now)
    (seen_so_far c.args.so_far.now) c.args.link o)) c.link-here.ensures.link
    ∙ sum_stops passes_Q c.args.horizon (routes_of c.args.routes.now) (seen_so_far c.args.so_far.now) c.args.link c.link-here.result
    c.begin_all.new.entries begun q k)
    (subst (λ (l : List Sent). Stops (λ (q : ℚ). q) c.in_err-inflow.field-0.0
    (at_part Load (sum_from passes_Q c.args.link ((0ℚ, 0ℚ) ∷ []) (routes_of c.args.routes.now) l)))
    (c.deref-2.ensures.value ∙ items) c.in_err-inflow.ensures))

pub returns-in_err-loaded : goal.returns-in_err-loaded
returns-in_err-loaded c =
    let p = err_from_is_err_and c.from_residual-in_err-loaded.result c.from_residual-in_err-loaded.ensures.1 in
    let begun : at_part Load (begin_all passes_Q c.args.horizon c.args.link (routes_of c.args.routes.now) c.args.so_far.now.entries.items) ≡ Ok c.begin_all.new.entries =
    ap (λ (l : List Sent). at_part Load (begin_all passes_Q c.args.horizon c.args.link (routes_of c.args.routes.now) l)) (sym c.deref_mut.ensures.value) ∙ c.in_ok-begin_all.ensures in
    let items = with_items_is c.args.so_far.now.entries c.begin_all.new.entries (c.begin_all.auto.entries ∙ c.deref_mut.ensures.len) in
    let end : c.end_by-end.result ≡ end_by c.args.horizon (all_pairs (routes_of c.args.routes.now)) c.args.so_far.now.links.items c.args.link =
    c.end_by-end.ensures ∙ ap (λ (l : List (Option LoadedLink)). end_by c.args.horizon (all_pairs (routes_of c.args.routes.now)) l c.args.link) c.deref.ensures.value in
    let inflow : at_part Load (sum_from passes_Q c.args.link ((0ℚ, 0ℚ) ∷ []) (routes_of c.args.routes.now) c.begin_all.new.entries) ≡ Ok c.in_ok-inflow.inflow.points =
    ap (λ (l : List Sent). at_part Load (sum_from passes_Q c.args.link ((0ℚ, 0ℚ) ∷ []) (routes_of c.args.routes.now) l))
    (sym (c.deref-2.ensures.value ∙ items)) ∙ c.in_ok-inflow.ensures in
    let load : Link → ℚ → Result Loaded (PassedAt ℚ) = λ l z. at_part Load (checked_loading passes_Q l.transit l.capacity c.in_ok-inflow.inflow.points z) in
    rw (p.1, p.2) (stops_on c.in_err-loaded.field-0.0 (load c.link-here.result
    (end_by c.args.horizon (all_pairs (routes_of c.args.routes.now)) c.args.so_far.now.links.items c.args.link))
    (at_part Load (load_here passes_Q c.args.horizon (routes_of c.args.routes.now) (seen_so_far c.args.so_far.now) c.args.link (slice_get c.args.net.now.net.links c.args.link)))
    (λ q k. ap (λ (o : Option Link). at_part Load (load_here passes_Q c.args.horizon (routes_of c.args.routes.now)
    (seen_so_far c.args.so_far.now) c.args.link o)) c.link-here.ensures.link
    ∙ load_stops passes_Q c.args.horizon (routes_of c.args.routes.now) (seen_so_far c.args.so_far.now) c.args.link c.link-here.result
    c.begin_all.new.entries begun c.in_ok-inflow.inflow.points inflow q k)
    (subst (λ (o : Result Loaded (PassedAt ℚ)). Stops (λ (q : ℚ). q) c.in_err-loaded.field-0.0 o)
    (ap (λ (l : Link). load l c.end_by-end.result) c.here.view_is ∙ ap (load c.link-here.result) end) c.in_err-loaded.ensures.list))

pub index_mut-requires : goal.index_mut-requires
index_mut-requires c = omega (arith, c.index.ensures, c.requires.link, c.requires.may.count, c.deref.ensures.len, ap (λ (l : List (Option LoadedLink)). length l) c.deref.ensures.value)

pub returns : goal.returns
returns c =
    let begun : at_part Load (begin_all passes_Q c.args.horizon c.args.link (routes_of c.args.routes.now) c.args.so_far.now.entries.items) ≡ Ok c.begin_all.new.entries =
    ap (λ (l : List Sent). at_part Load (begin_all passes_Q c.args.horizon c.args.link (routes_of c.args.routes.now) l)) (sym c.deref_mut.ensures.value) ∙ c.in_ok-begin_all.ensures in
    let items = with_items_is c.args.so_far.now.entries c.begin_all.new.entries (c.begin_all.auto.entries ∙ c.deref_mut.ensures.len) in
    let end : c.end_by-end.result ≡ end_by c.args.horizon (all_pairs (routes_of c.args.routes.now)) c.args.so_far.now.links.items c.args.link =
    c.end_by-end.ensures ∙ ap (λ (l : List (Option LoadedLink)). end_by c.args.horizon (all_pairs (routes_of c.args.routes.now)) l c.args.link) c.deref.ensures.value in
    let inflow : at_part Load (sum_from passes_Q c.args.link ((0ℚ, 0ℚ) ∷ []) (routes_of c.args.routes.now) c.begin_all.new.entries) ≡ Ok c.in_ok-inflow.inflow.points =
    ap (λ (l : List Sent). at_part Load (sum_from passes_Q c.args.link ((0ℚ, 0ℚ) ∷ []) (routes_of c.args.routes.now) l))
    (sym (c.deref-2.ensures.value ∙ items)) ∙ c.in_ok-inflow.ensures in
    let loaded : at_part Load (checked_loading passes_Q c.link-here.result.transit c.link-here.result.capacity c.in_ok-inflow.inflow.points
    (end_by c.args.horizon (all_pairs (routes_of c.args.routes.now)) c.args.so_far.now.links.items c.args.link)) ≡ Ok
    (loaded_of c.in_ok-loaded.loaded) =
    ap (λ (z : ℚ). at_part Load (checked_loading passes_Q c.link-here.result.transit c.link-here.result.capacity c.in_ok-inflow.inflow.points z)) (sym end)
    ∙ ap (λ (l : Link). at_part Load (checked_loading passes_Q l.transit l.capacity c.in_ok-inflow.inflow.points c.end_by-end.result)) (sym c.here.view_is)
    ∙ c.in_ok-loaded.ensures.list in
    let sent : at_part Load (next_all passes_Q c.args.link (loaded_of c.in_ok-loaded.loaded).exit (routes_of c.args.routes.now) c.begin_all.new.entries) ≡ Ok c.send_all_on.new.entries =
    ap (λ (l : List Sent). at_part Load (next_all passes_Q c.args.link (loaded_of c.in_ok-loaded.loaded).exit (routes_of c.args.routes.now) l))
    (sym (c.deref_mut-2.ensures.value ∙ items)) ∙ c.in_ok-send_all_on.ensures in
    let entries = with_items_is (with_items c.args.so_far.now.entries c.begin_all.new.entries) c.send_all_on.new.entries (c.send_all_on.auto.entries ∙ c.deref_mut-2.ensures.len) in
    let to : ℚ → ℕ → List Sent → Result SoFar (PassedAt ℚ) = λ z i l. Ok (record {
      links =
          set c.args.so_far.now.links.items i (Some (record { end = z; loaded = loaded_of c.in_ok-loaded.loaded }));
      entries = l;
    }) in
    ap (λ (o : Option Link). at_part Load (load_here passes_Q c.args.horizon (routes_of c.args.routes.now) (seen_so_far c.args.so_far.now) c.args.link o))
    c.link-here.ensures.link ∙ comes_to passes_Q c.args.horizon (routes_of c.args.routes.now)
    (seen_so_far c.args.so_far.now) c.args.link c.link-here.result c.begin_all.new.entries begun c.in_ok-inflow.inflow.points inflow
    (loaded_of c.in_ok-loaded.loaded) loaded c.send_all_on.new.entries sent
    ∙ ap (λ (z : ℚ). to z c.args.link c.send_all_on.new.entries) (sym end)
    ∙ ap (λ (i : ℕ). to c.end_by-end.result i c.send_all_on.new.entries) (sym c.index.ensures)
    ∙ ap (to c.end_by-end.result c.index.result) (sym entries)
