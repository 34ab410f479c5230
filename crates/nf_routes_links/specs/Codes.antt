-- Codes of the loading types. A code distinguishes the values of a type; the `Model` of a type in the code needs one.
use Rattle.std.specs.Prelude.{List, refl}
use Rattle.std.specs.Coded.{Coded, code_by, coded×}
use Rattle.nf_rational.specs.Rational.{ℚ, coded_ℚ}
use Rattle.nf_model.specs.Codes.{coded_points}
use Rattle.nf_load_def.specs.Loading.{Loaded}
use Rattle.nf_routes_def.specs.RoutesList.{LoadedLink}

abbrev pub coded_loaded : Coded Loaded
coded_loaded = code_by (List (ℚ × ℚ) × (List (ℚ × ℚ) × List (ℚ × ℚ))) (coded× coded_points (coded× coded_points coded_points))
    (λ l. (l.queue, (l.outflow, l.exit))) (λ p. record { queue = p.0; outflow = p.1.0; exit = p.1.1 }) (λ _. refl)

abbrev pub coded_loaded_link : Coded LoadedLink
coded_loaded_link = code_by (ℚ × Loaded) (coded× coded_ℚ coded_loaded) (λ l. (l.end, l.loaded))
    (λ p. record { end = p.0; loaded = p.1 }) (λ _. refl)
