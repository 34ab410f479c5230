-- Theorems on the operation sequence of loading by route.
use Rattle.std.specs.Prelude.{◌≡◌, ℕ, suc, List, Ok}
use Rattle.nf_rational.specs.Rational.{ℚ}
use Rattle.nf_rational.specs.Operations.{0ℚ, ◌+ℚ◌}
use Rattle.nf_rational.specs.Order.{◌≤ℚ◌}
use Rattle.nf_frac_def.specs.Passing.{Passing}
use Rattle.nf_model.specs.Curve.{Within, value}
use Rattle.nf_model.specs.Entries.{number_at}
use Rattle.nf_model.specs.Network.{Link, Network, IsNetwork, IsLink}
use Rattle.nf_routes_def.specs.Routes.{Route, AreRoutes, HoldCircle}
use Rattle.nf_routes_def.specs.RoutesList.{Routed, routes_list}
use Rattle.nf_routes_def.specs.Meanings.{link_loaded, sent_by, sent_by_routes, IsRouted, RoutesArrive}

-- routes of a network without a circle, loaded up to a horizon by the operation sequence
pub record IsByList (net : Network) (routes : List Route) (horizon : ℚ) (routed : Routed) : Type 0 where
  pub network : IsNetwork net
  pub are_routes : AreRoutes net routes
  pub straight : ¬ HoldCircle routes
  pub from_0 : 0ℚ ≤ℚ horizon
  pub passes : Passing
  pub is_list : routes_list passes net routes horizon ≡ Ok routed

abbrev pub RoutesListIs : Type 0
RoutesListIs = (net : Network) (routes : List Route) (horizon : ℚ) (routed : Routed) → IsByList net routes horizon routed
    → IsRouted net routes horizon routed

abbrev pub RoutesListArrives : Type 0
RoutesListArrives = (net : Network) (routes : List Route) (horizon : ℚ) (routed : Routed) → IsByList net routes horizon routed
    → RoutesArrive net routes horizon routed

-- the routes over a link send on its outflow, up to one transit time after the link's end
abbrev pub NextsAreOutflow : Type 0
NextsAreOutflow = (net : Network) (routes : List Route) (horizon : ℚ) (routed : Routed) (e : ℕ) (link : Link) (time : ℚ) → IsNetwork net
    → AreRoutes net routes → 0ℚ ≤ℚ horizon
    → IsRouted net routes horizon routed → IsLink net e link → Within 0ℚ (number_at routed.ends e +ℚ link.transit) time
    → value (link_loaded routed e).outflow time ≡ sent_by_routes (λ r place. sent_by routed r (suc place) time) e routes
