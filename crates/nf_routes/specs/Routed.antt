-- The result of the code, as a value of the definitions.
use Rattle.std.specs.Prelude.{map}
use Rattle.nf_routes_def.specs.RoutesList as lists
use Rattle.nf_load.specs.Loadings.{loaded_of}
use Rattle.nf_routes.specs.declared.routed.Routed.{Routed}

abbrev pub routed_of : Routed → lists.Routed
routed_of r = record {
  ends = r.ends.items;
  links = map loaded_of r.links.items;
  entries = map (λ sent. map (λ c. c.points) sent.items) r.entries.items;
  arrivals = map (λ c. c.points) r.arrivals.items;
  travels = map (λ c. c.points) r.travels.items;
}
