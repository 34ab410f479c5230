-- Arrival times along routes.
use Rattle.std.specs.Prelude.{◌≡◌, ℕ, ◌<◌, List, [], ◌∷◌, length, Some, slice_get, Ok}
use Rattle.nf_rational.specs.Rational.{ℚ}
use Rattle.nf_frac_def.specs.Passing.{Passing, passes_Q}
use Rattle.nf_frac_def.specs.Checked.{Checked, ◌>>=◌}
use Rattle.nf_model.specs.Curve.{Point}
use Rattle.nf_curve_def.specs.Composed.{checked_composed}
use Rattle.nf_curve_def.specs.Short.{checked_short}
use Rattle.nf_load_def.specs.Loading.{Loaded}
use Rattle.nf_check_def.specs.Curves.{loaded_at, departures}
use Rattle.nf_routes_def.specs.Routes.{Route}
use Rattle.nf_routes_def.specs.RoutesFile.{NamedRoute, links_at}
use Rattle.nf_routes_links.specs.Amounts.{AreExits}

-- the exits of each loaded link never fall and are at least 0
pub record HaveExits (loaded : List Loaded) : Type 0 where
  pub each : (e : ℕ) (link : Loaded) → slice_get loaded e ≡ Some link → AreExits link.exit

-- each number is that of a loaded link
pub record GoOver (loaded : List Loaded) (links : List ℕ) : Type 0 where
  pub each : (place e : ℕ) → slice_get links place ≡ Some e → e < length loaded

pub record GoOverAll (loaded : List Loaded) (routes : List Route) : Type 0 where
  pub each : (r : ℕ) (route : Route) → slice_get routes r ≡ Some route → GoOver loaded route.links

module _ (passes : Passing) where
  -- the operation sequence that extends a travel over more links
  abbrev pub travel_along : ℚ → List Loaded → List ℕ → List Point → Checked (List Point)
  travel_along horizon loaded [] travel = checked_short passes travel
  travel_along horizon loaded (e ∷ rest) travel = do
    next ← checked_composed passes (loaded_at loaded e).exit travel horizon
    travel_along horizon loaded rest next

-- these are the travels of the first routes
pub record AreTravels (horizon : ℚ) (loaded : List Loaded) (routes : List NamedRoute) (travels : List (List Point)) : Type 0 where
  pub each : (r : ℕ) (travel : List Point) → slice_get travels r ≡ Some travel
      → travel_along passes_Q horizon loaded (links_at routes r) (departures horizon) ≡ Ok travel
