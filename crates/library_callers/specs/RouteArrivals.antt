-- The arrival of all that departs along a route.
use Rattle.std.specs.Prelude.{◌≡◌, ℕ, List, Some, slice_get}
use Rattle.nf_rational.specs.Rational.{ℚ}
use Rattle.nf_rational.specs.Order.{◌≤ℚ◌}
use Rattle.nf_model.specs.Curve.{value}
use Rattle.nf_model.specs.Network.{Network, supplied}
use Rattle.nf_routes_def.specs.Routes.{Route}
use Rattle.nf_routes_def.specs.RoutesList.{Routed}
use Rattle.nf_routes_def.specs.Meanings.{IsRouted, arrival_at}

-- in a loading by route, all that route number r supplies up to the horizon has arrived at this time and at each later one
pub record AllArrivedBy (net : Network) (routes : List Route) (r : ℕ) (horizon time : ℚ) : Type 0 where
  pub routed : Routed
  pub loading : IsRouted net routes horizon routed
  pub all : (route : Route) (later : ℚ) → slice_get routes r ≡ Some route → time ≤ℚ later
      → value (arrival_at routed r) later ≡ supplied route.pieces horizon
