-- Rules of the routes file that need no network.
use Rattle.std.specs.Prelude.{◌≡◌, ℕ, ◌<◌, ◌≤◌, List, length, Some, slice_get}
use Rattle.nf_model.specs.Network.{Network, ArePieces}
use Rattle.nf_net_def.specs.Names.{AreNames}
use Rattle.nf_routes_def.specs.Routes.{AreWalks, HoldCircle}
use Rattle.nf_routes_def.specs.RoutesFile.{NamedRoute, most_routes, most_lines_of_a_route, route_names, routes_of}

-- the route has a link; its pieces satisfy `ArePieces` and do not exceed the limit
pub record IsInForm (named : NamedRoute) : Type 0 where
  pub some : 0 < length named.route.links
  pub pieces : ArePieces named.route.pieces
  pub few : length named.route.pieces ≤ most_lines_of_a_route

-- the routes do not exceed the limit, and their names differ
pub record AreInForm (routes : List NamedRoute) : Type 0 where
  pub few : length routes ≤ most_routes
  pub names : AreNames (route_names routes)
  pub each : (r : ℕ) (named : NamedRoute) → slice_get routes r ≡ Some named → IsInForm named

-- the routes satisfy the rules, and hold no circle of links
pub record KeepRules (routes : List NamedRoute) : Type 0 where
  pub form : AreInForm routes
  pub straight : ¬ HoldCircle (routes_of routes)

-- the routes satisfy all rules but G17 in the network
pub record AreSound (net : Network) (routes : List NamedRoute) : Type 0 where
  pub form : AreInForm routes
  pub walks : AreWalks net (routes_of routes)
