use Rattle.std.proofs.Common.{◌≡◌, length, arith}
use Rattle.std.proofs.lemmas.List.{length-map}
use Rattle.nf_routes_def.specs.RoutesFile.{routes_of}
use Rattle.nf_routes.specs.Routed.{routed_of}
use Rattle.library_callers.proofs.Arriving.{arrived}
use Rattle.library_callers.proofs.routes.all_arrived_by.Goals as goal

pub travel-requires-clause-route : goal.travel-requires-clause-route
travel-requires-clause-route c =
    let curves : length (routed_of c.in_ok-routed.routed).travels ≡ length c.in_ok-routed.routed.travels.items = length-map c.in_ok-routed.routed.travels.items (λ curve. curve.points) in
    let routes : length (routes_of c.args.routes.now) ≡ length c.args.routes.now = length-map c.args.routes.now (λ r. r.route) in
    omega (arith, c.in_ok-routed.ensures.routed.travel_count)

pub returns : goal.returns
returns c =
    arrived c.args.net.now.net (routes_of c.args.routes.now) c.args.route c.args.horizon c.in_ok-time.time
    (routed_of c.in_ok-routed.routed) c.requires.horizon c.in_ok-routed.ensures.routed
    c.in_ok-routed.ensures.arrives c.in_ok-time.ensures
