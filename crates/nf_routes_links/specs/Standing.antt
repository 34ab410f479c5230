-- Properties of the progress of a loading.
use Rattle.std.specs.Prelude.{◌≡◌, ℕ, ◌<◌, true, false, List, [], ◌∷◌, length, Option, Some, None, slice_get}
use Rattle.std.specs.List.{AllByRecursion}
use Rattle.nf_model.specs.Curve.{Point}
use Rattle.nf_model.specs.Network.{Network, ArePieces}
use Rattle.nf_routes_def.specs.Routes.{Route}
use Rattle.nf_routes_def.specs.RoutesList as lists
use Rattle.nf_routes_def.specs.RoutesList.{LoadedLink, begins_at, goes_over}
use Rattle.nf_routes_links.specs.Amounts.{IsAmountCurve, AreExits}
use Rattle.nf_routes_links.specs.declared.so_far.SoFar.{SoFar}

abbrev pub seen_so_far : SoFar → lists.SoFar
seen_so_far s = record { links = s.links.items; entries = s.entries.items }

-- `P` holds for each route and its entries, and both lists have equal lengths
abbrev pub ForEachRoute : (Route → List (List Point) → Type 0) → List Route → List (List (List Point)) → Type 0
ForEachRoute P [] [] = Unit {0}
ForEachRoute P [] (sent ∷ rest) = ⊥
ForEachRoute P (route ∷ routes) [] = ⊥
ForEachRoute P (route ∷ routes) (sent ∷ rest) = P route sent × ForEachRoute P routes rest

-- The route may start with the link or continue over it. If the link is on the route but not its first, the route has sent something
-- before.
pub record MayBegin (e : ℕ) (route : Route) (sent : List (List Point)) : Type 0 where
  pub pieces : ArePieces route.pieces
  pub amounts : AllByRecursion IsAmountCurve sent
  pub some : goes_over route.links e ≡ true → begins_at route.links e ≡ false → 0 < length sent

-- if the route contains the link, it sends something into the link
pub record Sends (e : ℕ) (route : Route) (sent : List (List Point)) : Type 0 where
  pub amounts : AllByRecursion IsAmountCurve sent
  pub some : goes_over route.links e ≡ true → 0 < length sent

-- the link can be loaded next: there is one entry per link, and each route may start with it or continue over it
pub record MayLoad (net : Network) (routes : List Route) (e : ℕ) (so_far : lists.SoFar) : Type 0 where
  pub count : length so_far.links ≡ length net.links
  pub entries : ForEachRoute (MayBegin e) routes so_far.entries

-- all of the links are loaded
pub record AreAllLoaded (links : List (Option LoadedLink)) : Type 0 where
  pub each : (e : ℕ) → slice_get links e ≡ Some None → ⊥

-- each of the routes has sent something
pub record HaveSent (entries : List (List (List Point))) : Type 0 where
  pub each : (r : ℕ) (sent : List (List Point)) → slice_get entries r ≡ Some sent → 0 < length sent

-- all links are loaded, with exits that never fall, and each route has sent something
pub record IsFullyLoaded (net : Network) (routes : List Route) (so_far : lists.SoFar) : Type 0 where
  pub count : length so_far.links ≡ length net.links
  pub links : AreAllLoaded so_far.links
  pub exits : (e : ℕ) (link : LoadedLink) → slice_get so_far.links e ≡ Some (Some link) → AreExits link.loaded.exit
  pub sent : HaveSent so_far.entries
