-- Codes of the route types. A code distinguishes the values of a type; the `Model` of a type in the code needs one.
use Rattle.std.specs.Prelude.{ℕ, List, refl}
use Rattle.std.specs.Coded.{Coded, code_by, coded×, coded_ℕ, coded_list}
use Rattle.nf_model.specs.Network.{Piece}
use Rattle.nf_model.specs.Codes.{coded_piece}
use Rattle.nf_routes_def.specs.Routes.{Route}
use Rattle.nf_routes_def.specs.RoutesFile.{NamedRoute}

abbrev pub coded_route : Coded Route
coded_route = code_by (List ℕ × List Piece) (coded× (coded_list coded_ℕ) (coded_list coded_piece))
    (λ r. (r.links, r.pieces)) (λ p. record { links = p.0; pieces = p.1 }) (λ _. refl)

abbrev pub coded_named_route : Coded NamedRoute
coded_named_route = code_by (List ℕ × Route) (coded× (coded_list coded_ℕ) coded_route)
    (λ r. (r.name, r.route)) (λ p. record { name = p.0; route = p.1 }) (λ _. refl)
