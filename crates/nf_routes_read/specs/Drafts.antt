-- The end of a routes file.
use Rattle.std.specs.Prelude.{List, Result}
use Rattle.nf_frac_def.specs.Checked.{◌>>=◌}
use Rattle.nf_net_def.specs.Named.{Named}
use Rattle.nf_routes_def.specs.RoutesFile.{NamedRoute, RoutesBroken, RoutesDraft, routes_ended, unless_circle}

-- the routes, or the first broken rule of the whole file; the loading order decides G17
abbrev pub routes_closed : Named → RoutesDraft → Result (List NamedRoute) RoutesBroken
routes_closed n draft = routes_ended draft >>= unless_circle n
