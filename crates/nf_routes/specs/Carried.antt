-- The result of the code without the entries, as a value of the definitions.
use Rattle.std.specs.Prelude.{List, [], map, Ok, Err}
use Rattle.nf_rational.specs.Rational.{ℚ}
use Rattle.nf_frac_def.specs.Passing.{passes_Q}
use Rattle.nf_frac_def.specs.Checked.{Checked}
use Rattle.nf_model.specs.Curve.{Point}
use Rattle.nf_model.specs.Network.{Network}
use Rattle.nf_routes_def.specs.Routes.{Route}
use Rattle.nf_routes_def.specs.RoutesList as lists
use Rattle.nf_routes_def.specs.RoutesList.{routes_list}
use Rattle.nf_load.specs.Loadings.{loaded_of}
use Rattle.nf_routes.specs.declared.carried.Carried.{Carried}

-- a result with these entries
abbrev pub with_kept_entries : List (List (List Point)) → Carried → lists.Routed
with_kept_entries entries c = record {
  ends = c.ends.items;
  links = map loaded_of c.links.items;
  entries = entries;
  arrivals = map (λ a. a.points) c.arrivals.items;
  travels = map (λ t. t.points) c.travels.items;
}

-- the entries of a result of the operation sequence, or none if an operation passes
abbrev pub entries_or : Checked lists.Routed → List (List (List Point))
entries_or (Ok routed) = routed.entries
entries_or (Err passed) = []

-- the result with the entries of the operation sequence
abbrev pub carried_of : Network → List Route → ℚ → Carried → lists.Routed
carried_of net routes horizon c = with_kept_entries (entries_or (routes_list passes_Q net routes horizon)) c
