-- The lists of operations of the commands without phases.
use Rattle.std.specs.Prelude.{ℕ, List, Option, Result}
use Rattle.nf_rational.specs.Rational.{ℚ}
use Rattle.nf_frac_def.specs.Passing.{passes_Q}
use Rattle.nf_frac_def.specs.Checked.{at_part}
use Rattle.nf_frac_def.specs.declared.Part.TheVariants.{Load as LoadPart, Quick as QuickPart}
use Rattle.nf_frac_def.specs.declared.PassedAt.{PassedAt}
use Rattle.nf_model.specs.Network.{Piece, Network}
use Rattle.nf_net_def.specs.Named.{Named}
use Rattle.nf_load_def.specs.Loading.{Loaded as Loading}
use Rattle.nf_load_def.specs.Loads.{load_list}
use Rattle.nf_net.specs.Supply.{checked_supply}
use Rattle.nf_quick_def.specs.Quick.{quickest_list}
use Rattle.nf_quick_def.specs.Quick as lists
use Rattle.nf_quick_def.specs.Departures.{departure_list}
use Rattle.nf_routes_def.specs.RoutesFile.{NamedRoute, routes_of}
use Rattle.nf_routes_def.specs.RoutesList.{Routed, routes_list}

-- `load`: the loading of each link by its pieces
abbrev pub loading_list : Named → List (List Piece) → ℚ → Result (List Loading) (PassedAt ℚ)
loading_list n pieces horizon = at_part LoadPart (load_list passes_Q n.net.links pieces horizon)

-- `quick`: a quickest flow
abbrev pub flow_list : Network → ℚ → ℕ → Result lists.QuickOutcome (PassedAt ℚ)
flow_list net amount augments = at_part QuickPart (quickest_list passes_Q net amount augments)

-- `quick`: the departure by which the amount is supplied
abbrev pub departs_list : Network → ℚ → Result (Option ℚ) (PassedAt ℚ)
departs_list net amount = at_part QuickPart (departure_list passes_Q (checked_supply passes_Q net) amount net.pieces)

-- `routes`: the loading along the routes
abbrev pub by_route_list : Named → List NamedRoute → ℚ → Result Routed (PassedAt ℚ)
by_route_list n routes horizon = at_part LoadPart (routes_list passes_Q n.net (routes_of routes) horizon)
