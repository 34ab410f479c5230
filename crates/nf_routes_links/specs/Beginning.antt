-- Start and result of the whole loading.
use Rattle.std.specs.Prelude.{◌≡◌, ℕ, List, [], length, map, Option, Some, None, slice_get}
use Rattle.nf_rational.specs.Rational.{ℚ}
use Rattle.nf_frac_def.specs.Passing.{Passing}
use Rattle.nf_frac_def.specs.Checked.{Checked, ◌>>=◌}
use Rattle.nf_model.specs.Curve.{Point}
use Rattle.nf_model.specs.Network.{Piece, Link, Network, ArePieces}
use Rattle.nf_curve_def.specs.Short.{checked_short}
use Rattle.nf_load_def.specs.Cumulative.{checked_cumulative}
use Rattle.nf_routes_def.specs.Routes.{Route, loading_order}
use Rattle.nf_routes_def.specs.RoutesList.{LoadedLink, SoFar, load_all}

-- the progress at the start: no link is loaded, and no route has sent anything
abbrev pub nothing_loaded : List Link → List (Option LoadedLink)
nothing_loaded links = map (λ _. None) links

abbrev pub nothing_sent : List Route → List (List (List Point))
nothing_sent routes = map (λ _. []) routes

-- the inflow of each route consists of pieces
pub record HavePieces (routes : List Route) : Type 0 where
  pub each : (r : ℕ) (route : Route) → slice_get routes r ≡ Some route → ArePieces route.pieces

module _ (passes : Passing) where
  -- the amount sent into the first link of a route, in short form
  abbrev pub first_entry : List Piece → ℚ → Checked (List Point)
  first_entry pieces horizon = do
    amounts ← checked_cumulative passes pieces horizon
    checked_short passes amounts

  -- the operation sequence that loads all links, in the order of loading
  abbrev pub all_loaded : Network → List Route → ℚ → Checked SoFar
  all_loaded net routes horizon =
      load_all passes net routes horizon (loading_order (length net.links) routes)
      (record { links = nothing_loaded net.links; entries = nothing_sent routes })
