use Rattle.std.proofs.Common.{◌≡◌, ℕ, List, [], ◌+◌, ◌<◌, ◌++◌, take, drop, suc, length, ◌∙◌, arith, flat_map, codes}
use Rattle.nf_app_answers.proofs.Common.{range_with_len, Name, name_at, for_each, point_lines, Routed, arrival_at, travel_at, route_lines}
use Rattle.nf_app_answers.proofs.Common.{with_kept_entries, each_next, each_left, each_all, points_there, wrote_next, wrote_then_failed, same_lines}
use Rattle.nf_model.specs.Curve.{Point}
use Rattle.nf_routes_def.specs.RoutesFile.{NamedRoute, route_names}
use Rattle.nf_app_answers.proofs.routes_text.write_routes.Goals as goal

same_route : (routes : List NamedRoute) (routed : Routed) (i : ℕ) (name : Name) (arrival travel : List Point) → name ≡ name_at (route_names routes) i
    → arrival ≡ arrival_at routed i → travel ≡ travel_at routed i
    → point_lines (codes "arrival") name arrival ++ point_lines (codes "travel") name travel ≡ route_lines routes routed i
same_route routes routed i name arrival travel e f h = cc

pub loop-route-preserved : goal.loop-route-preserved
loop-route-preserved g c =
    let i = c.loop-route.route in
    let n = length c.args.routes.now in
    let below : i < n = omega arith in
    let routed = with_kept_entries [] c.args.routed.now in
    let lines = route_lines c.args.routes.now routed in
    let here = same_route c.args.routes.now routed i _ _ _ (c.as_bytes-name.ensures.value ∙ c.name.ensures.value)
    (points_there c.args.routed.now.arrivals.items i c.index-arrival.result.now c.index-arrival.ensures (omega arith))
    (points_there c.args.routed.now.travels.items i c.index-travel.result.now c.index-travel.ensures (omega arith)) in
    wrote_next (flat_map lines (take i (range_with_len 0 n))) (lines i) (flat_map lines (take (i + 1) (range_with_len 0 n))) (each_next n lines i below) c.loop-route.invariant
    (same_lines _ (lines i) here c.in_ok-write_route.ensures)

pub returns-in_err-write_route : goal.returns-in_err-write_route
returns-in_err-write_route g c =
    let i = c.loop-route.route in
    let n = length c.args.routes.now in
    let below : i < n = omega arith in
    let routed = with_kept_entries [] c.args.routed.now in
    let lines = route_lines c.args.routes.now routed in
    let here = same_route c.args.routes.now routed i _ _ _ (c.as_bytes-name.ensures.value ∙ c.name.ensures.value)
    (points_there c.args.routed.now.arrivals.items i c.index-arrival.result.now c.index-arrival.ensures (omega arith))
    (points_there c.args.routed.now.travels.items i c.index-travel.result.now c.index-travel.ensures (omega arith)) in
    wrote_then_failed (flat_map lines (take i (range_with_len 0 n))) (lines i) (flat_map lines (drop (suc i) (range_with_len 0 n))) (for_each n lines) _
    (each_left n lines i below) c.from_residual.ensures.0
    c.loop-route.invariant (same_lines _ (lines i) here c.in_err-write_route.ensures)

pub returns : goal.returns
returns g c =
    let i = c.loop-route.route in
    let n = length c.args.routes.now in
    let end : i ≡ n = omega arith in
    let lines = route_lines c.args.routes.now (with_kept_entries [] c.args.routed.now) in
    same_lines (flat_map lines (take i (range_with_len 0 n))) (for_each n lines) (each_all n lines i end) c.loop-route.invariant
