-- The result of the whole loading with the entries that are kept.
use Rattle.std.specs.Prelude.{List, [], map, Ok}
use Rattle.nf_rational.specs.Rational.{ℚ}
use Rattle.nf_frac_def.specs.Passing.{Passing}
use Rattle.nf_frac_def.specs.Checked.{Checked, ◌>>=◌}
use Rattle.nf_model.specs.Network.{Network}
use Rattle.nf_routes_def.specs.Routes.{Route}
use Rattle.nf_routes_def.specs.RoutesList.{Routed, routes_list}
use Rattle.nf_routes_links.specs.declared.keeping.Kept.{Kept}
use Rattle.nf_routes_links.specs.declared.keeping.Kept.TheVariants.{Every, Last}

-- the result with the entries that are kept: if the last alone is, it is the arrival
abbrev pub kept_result : Kept → Routed → Routed
kept_result Every routed = routed
kept_result Last routed = record routed { entries = map (λ _. []) routed.entries }

module _ (passes : Passing) where
  -- the operation sequence of the whole loading, with the entries that are kept
  abbrev pub kept_list : Kept → Network → List Route → ℚ → Checked Routed
  kept_list kept net routes horizon = do
    routed ← routes_list passes net routes horizon
    Ok (kept_result kept routed)
