-- The printed loading by route.
use Rattle.std.specs.Prelude.{ℕ, List, [], ◌∷◌, ◌++◌, length, codes}
use Rattle.std.specs.List.{flat_map}
use Rattle.nf_rational.specs.Rational.{ℚ}
use Rattle.nf_frac_words.specs.Printed.{printed}
use Rattle.nf_text_def.specs.Words.{line_of_words}
use Rattle.nf_net_def.specs.Names.{name_at}
use Rattle.nf_net_def.specs.Named.{Named}
use Rattle.nf_net_def.specs.Report.{for_each, point_lines}
use Rattle.nf_routes_def.specs.RoutesFile.{NamedRoute, route_names}
use Rattle.nf_routes_def.specs.RoutesList.{Routed}
use Rattle.nf_routes_def.specs.Meanings.{link_loaded, arrival_at, travel_at}

abbrev pub link_curve_lines : Named → Routed → ℕ → List (List (List ℕ))
link_curve_lines n routed e =
    point_lines (codes "queue") (name_at n.link_names e) (link_loaded routed e).queue
    ++ point_lines (codes "outflow") (name_at n.link_names e) (link_loaded routed e).outflow
    ++ point_lines (codes "exit") (name_at n.link_names e) (link_loaded routed e).exit

abbrev pub route_lines : List NamedRoute → Routed → ℕ → List (List (List ℕ))
route_lines routes routed r =
    point_lines (codes "arrival") (name_at (route_names routes) r) (arrival_at routed r)
    ++ point_lines (codes "travel") (name_at (route_names routes) r) (travel_at routed r)

abbrev pub routed_lines : Named → List NamedRoute → ℚ → Routed → List (List (List ℕ))
routed_lines n routes horizon routed =
    (codes "routed" ∷ codes "1" ∷ []) ∷ (codes "horizon" ∷ printed horizon ∷ [])
    ∷ for_each (length n.net.links) (link_curve_lines n routed)
    ++ for_each (length routes) (route_lines routes routed)
    ++ (codes "end" ∷ []) ∷ []

abbrev pub routed_text : Named → List NamedRoute → ℚ → Routed → List ℕ
routed_text n routes horizon routed = flat_map line_of_words (routed_lines n routes horizon routed)
