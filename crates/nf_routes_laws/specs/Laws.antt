-- Theorems on loading by route.
use Rattle.std.specs.Prelude.{◌≡◌, true, false, List, ◌∷◌, ◌++◌, length, Ok}
use Rattle.nf_rational.specs.Rational.{ℚ}
use Rattle.nf_rational.specs.Operations.{0ℚ}
use Rattle.nf_rational.specs.Order.{◌≤ℚ◌}
use Rattle.nf_frac_def.specs.Passing.{Passing}
use Rattle.nf_model.specs.Curve.{Point, Within, value, IsCurve, IsShort}
use Rattle.nf_model.specs.Network.{Network, IsNetwork}
use Rattle.nf_routes_def.specs.Routes.{Route, AreRoutes, HoldCircle, takes_all}
use Rattle.nf_routes_def.specs.RoutesList.{Routed, next_entry}
use Rattle.nf_routes_def.specs.Meanings.{IsRouted, RoutesArrive}

-- no point of the curve is after `last`
abbrev pub NoneBeyond : List Point → ℚ → Type 0
NoneBeyond points last = (front rest : List Point) (p : Point) → points ≡ front ++ p ∷ rest → p.0 ≤ℚ last

-- `entry` is the amount that a route sends into a link up to `last`, and `exit` holds the link's exits. The exits never fall, and the first
-- is at least 0. If two exits are equal, nothing was sent between their entries.
pub record CanShare (exit entry : List Point) (last : ℚ) : Type 0 where
  pub entry_curve : IsCurve entry
  pub exit_curve : IsCurve exit
  pub from_0 : 0ℚ ≤ℚ last
  pub entry_ends : NoneBeyond entry last
  pub exit_ends : NoneBeyond exit last
  pub begins : value entry 0ℚ ≡ 0ℚ
  pub first_exit : 0ℚ ≤ℚ value exit 0ℚ
  pub exits_rise : (earlier later : ℚ) → 0ℚ ≤ℚ earlier → earlier ≤ℚ later → later ≤ℚ last → value exit earlier ≤ℚ value exit later
  pub shares : (earlier later : ℚ) → 0ℚ ≤ℚ earlier → earlier ≤ℚ later → later ≤ℚ last → value exit earlier ≡ value exit later
      → value entry earlier ≡ value entry later

-- `next` is the amount that the route sends into its next link. By each exit the amount sent by its entry is sent on. The amount is 0 until
-- the first exit, and constant after the last.
pub record IsSentOn (exit entry : List Point) (last : ℚ) (next : List Point) : Type 0 where
  pub curve : IsCurve next
  pub form : IsShort next
  pub at_exit : (time : ℚ) → Within 0ℚ last time → value next (value exit time) ≡ value entry time
  pub before : (time : ℚ) → Within 0ℚ (value exit 0ℚ) time → value next time ≡ 0ℚ
  pub after : (time : ℚ) → value exit last ≤ℚ time → value next time ≡ value entry last

abbrev pub NextEntryShares : Type 0
NextEntryShares = (passes : Passing) (exit entry next : List Point) (last : ℚ) → CanShare exit entry last
    → next_entry passes exit entry ≡ Ok next → IsSentOn exit entry last next

-- a loading by route arrives
abbrev pub LoadedRoutesArrive : Type 0
LoadedRoutesArrive = (net : Network) (routes : List Route) (horizon : ℚ) (routed : Routed) → IsNetwork net → AreRoutes net routes
    → 0ℚ ≤ℚ horizon → IsRouted net routes horizon routed
    → RoutesArrive net routes horizon routed

-- The loading order takes each link exactly if the routes hold no circle. If it omits a link, there is a circle.
pub record OrderTakesAll : Type 0 where
  pub straight : (net : Network) (routes : List Route) → AreRoutes net routes → ¬ HoldCircle routes
      → takes_all (length net.links) routes ≡ true
  pub circle : (net : Network) (routes : List Route) → AreRoutes net routes → takes_all (length net.links) routes ≡ true
      → ¬ HoldCircle routes
  pub found : (net : Network) (routes : List Route) → AreRoutes net routes → takes_all (length net.links) routes ≡ false → HoldCircle routes
