-- Routes through a network, and their loading order.
use Rattle.std.specs.Prelude.{◌≡◌, ℕ, zero, suc, Bool, not, ◌&&◌, ◌||◌, ◌==◌, if◌then◌else◌, List, [], ◌∷◌, Option, Some, None, slice_get}
use Rattle.std.specs.List.{list_any, list_all, flat_map, range_with_len}
use Rattle.nf_model.specs.Network.{Piece, Network, ArePieces, hops}
use Rattle.nf_model.specs.Walk.{IsWalk}

-- a route: its links by number, and the pieces of its inflow
pub record Route : Type 0 where
  pub links : List ℕ
  pub pieces : List Piece

-- the routes are walks of the network from source to sink
pub record AreWalks (net : Network) (routes : List Route) : Type 0 where
  pub each : (r : ℕ) (route : Route) → slice_get routes r ≡ Some route → IsWalk (hops net) route.links net.source net.sink

-- the routes are walks of the network from source to sink, and their inflows consist of pieces
pub record AreRoutes (net : Network) (routes : List Route) : Type 0 where
  pub walks : (r : ℕ) (route : Route) → slice_get routes r ≡ Some route → IsWalk (hops net) route.links net.source net.sink
  pub pieces : (r : ℕ) (route : Route) → slice_get routes r ≡ Some route → ArePieces route.pieces

-- ---- the pairs of consecutive links
abbrev pub pairs_of : List ℕ → List (ℕ × ℕ)
pairs_of (e ∷ f ∷ rest) = (e, f) ∷ pairs_of (f ∷ rest)
pairs_of links = []

abbrev pub all_pairs : List Route → List (ℕ × ℕ)
all_pairs routes = flat_map (λ route. pairs_of route.links) routes

-- link e directly precedes link f on some route
pub record PrecedesOnRoute (routes : List Route) (e f : ℕ) : Type 0 where
  pub number : ℕ
  pub place : ℕ
  pub route : Route
  pub is_route : slice_get routes number ≡ Some route
  pub here : slice_get route.links place ≡ Some e
  pub next : slice_get route.links (suc place) ≡ Some f

-- a sequence of links from e to f, over `between`, in which each link directly precedes the next on some route
abbrev pub LeadsOverRoutes : List Route → ℕ → List ℕ → ℕ → Type 0
LeadsOverRoutes routes e [] f = PrecedesOnRoute routes e f
LeadsOverRoutes routes e (g ∷ rest) f = PrecedesOnRoute routes e g × LeadsOverRoutes routes g rest f

-- a circle: a sequence of links from a link to itself, in which each directly precedes the next on some route
abbrev pub HoldCircle : List Route → Type 0
HoldCircle routes = (e : ℕ) × (between : List ℕ) × LeadsOverRoutes routes e between e

-- ---- the loading order: repeatedly the lowest remaining link whose direct predecessors were all taken
abbrev pub is_taken : List ℕ → ℕ → Bool
is_taken taken e = list_any (λ f. f == e) taken

abbrev pub is_free : List (ℕ × ℕ) → List ℕ → ℕ → Bool
is_free pairs taken f = not (is_taken taken f) && list_all (λ p. not (p.1 == f) || is_taken taken p.0) pairs

abbrev pub first_free : List (ℕ × ℕ) → List ℕ → List ℕ → Option ℕ
first_free pairs taken [] = None
first_free pairs taken (e ∷ rest) = if is_free pairs taken e then Some e else first_free pairs taken rest

abbrev pub with_next : Option ℕ → (ℕ → List ℕ) → List ℕ
with_next None later = []
with_next (Some e) later = e ∷ later e

-- the next links of the order, at most as many as the first argument, after the links taken
abbrev pub order_from : ℕ → List (ℕ × ℕ) → ℕ → List ℕ → List ℕ
order_from zero pairs links taken = []
order_from (suc more) pairs links taken =
    with_next (first_free pairs taken (range_with_len 0 links)) (λ e. order_from more pairs links (e ∷ taken))

unfoldable pub loading_order : ℕ → List Route → List ℕ
loading_order links routes = order_from links (all_pairs routes) links []

-- the test for circles: the order takes every link exactly if the routes hold no circle
unfoldable pub takes_all : ℕ → List Route → Bool
takes_all links routes = list_all (λ e. is_taken (loading_order links routes) e) (range_with_len 0 links)
