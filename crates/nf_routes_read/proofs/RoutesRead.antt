-- The reading of a text, from that of its lines.
use Rattle.std.proofs.Common.{◌≡◌, ℕ, List, Result, ap}
use Rattle.nf_routes_read.proofs.Common.{◌>>=◌, Named, file_closed, NamedRoute, RoutesDraft, RoutesBroken, routes_ended, routes_frame, unless_circle}
use Rattle.nf_side.specs.Drafted.{open_frame, drafted_in}
use Rattle.nf_routes_def.specs.RoutesFile.{routes_of_lines, routes_in}

pub routes_read : (n : Named) (text : List ℕ) (read : Result RoutesDraft RoutesBroken) → drafted_in (open_frame (routes_frame n)) text ≡ read
    → routes_in n text ≡ ((read >>= routes_ended) >>= unless_circle n)
unfolding routes_in routes_of_lines
routes_read n text read e = ap (λ (r : Result (List NamedRoute) RoutesBroken). r >>= unless_circle n) (file_closed (routes_frame n) text read e)
