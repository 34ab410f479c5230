-- The meaning of a loading by route. Routes share each link first in, first out.
use Rattle.std.specs.Prelude.{◌≡◌, ◌⊎◌, ℕ, suc, ◌<◌, ◌==◌, if◌then◌else◌, List, [], ◌∷◌, length, Some, slice_get, unwrap_or}
use Rattle.nf_rational.specs.Rational.{ℚ}
use Rattle.nf_rational.specs.Operations.{0ℚ, ◌+ℚ◌}
use Rattle.nf_rational.specs.Order.{◌≤ℚ◌}
use Rattle.nf_model.specs.Curve.{Point, Within, NeverFalls, value, IsCurve, IsShort}
use Rattle.nf_model.specs.Entries.{number_at}
use Rattle.nf_model.specs.Network.{Link, Network, IsLink, supplied}
use Rattle.nf_model.specs.Queue.{IsQueue, IsExit, IsOutflow}
use Rattle.nf_load_def.specs.Loading.{Loaded}
use Rattle.nf_routes_def.specs.Routes.{Route, PrecedesOnRoute}
use Rattle.nf_routes_def.specs.RoutesList.{Routed}

abbrev pub link_loaded : Routed → ℕ → Loaded
link_loaded routed e = unwrap_or (slice_get routed.links e) (record { queue = []; outflow = []; exit = [] })

-- the exit of flow that enters a link at a time
abbrev pub exit_by : Routed → ℕ → ℚ → ℚ
exit_by routed e time = value (link_loaded routed e).exit time

-- The amount that a route has sent by a time into the link at a position of the route, counted from 0. The position after the last link
-- gives the amount that has arrived.
abbrev pub stages_at : Routed → ℕ → List (List Point)
stages_at routed r = unwrap_or (slice_get routed.entries r) []

abbrev pub arrival_at : Routed → ℕ → List Point
arrival_at routed r = unwrap_or (slice_get routed.arrivals r) []

abbrev pub travel_at : Routed → ℕ → List Point
travel_at routed r = unwrap_or (slice_get routed.travels r) []

abbrev pub entry_at : Routed → ℕ → ℕ → List Point
entry_at routed r place = unwrap_or (slice_get (stages_at routed r) place) (arrival_at routed r)

abbrev pub sent_by : Routed → ℕ → ℕ → ℚ → ℚ
sent_by routed r place time = value (entry_at routed r place) time

-- ---- the inflow of a link: the sum of the entries into it, over routes and positions
abbrev pub sent_along : (ℕ → ℚ) → ℕ → List ℕ → ℚ
sent_along entered e [] = 0ℚ
sent_along entered e (f ∷ rest) = if f == e then entered 0 +ℚ sent_along (λ place. entered (suc place)) e rest
    else sent_along (λ place. entered (suc place)) e rest

abbrev pub sent_by_routes : (ℕ → ℕ → ℚ) → ℕ → List Route → ℚ
sent_by_routes entered e [] = 0ℚ
sent_by_routes entered e (route ∷ routes) = sent_along (entered 0) e route.links +ℚ sent_by_routes (λ r. entered (suc r)) e routes

abbrev pub inflow_by : List Route → Routed → ℕ → ℚ → ℚ
inflow_by routes routed e time = sent_by_routes (λ r place. sent_by routed r place time) e routes

-- The end of a link: the greatest of the horizon and the end exits of the links directly before it. The end exit of a link is its exit at
-- its own end.
pub record IsEnd (routes : List Route) (horizon : ℚ) (routed : Routed) (e : ℕ) (end : ℚ) : Type 0 where
  pub horizon_by : horizon ≤ℚ end
  pub before : (f : ℕ) → PrecedesOnRoute routes f e → exit_by routed f (number_at routed.ends f) ≤ℚ end
  pub taken : (end ≡ horizon) ⊎ ((f : ℕ) × PrecedesOnRoute routes f e × (end ≡ exit_by routed f (number_at routed.ends f)))

-- the composition of the exits of some links, in order
abbrev pub exits_along : Routed → List ℕ → ℚ → ℚ
exits_along routed [] time = time
exits_along routed (e ∷ rest) time = exits_along routed rest (exit_by routed e time)

-- A loading by route up to a horizon. Departures after the horizon do not count.
pub record IsRouted (net : Network) (routes : List Route) (horizon : ℚ) (routed : Routed) : Type 0 where
  pub link_count : length routed.links ≡ length net.links
  pub end_count : length routed.ends ≡ length net.links
  pub entry_count : (r : ℕ) (route : Route) → slice_get routes r ≡ Some route → length (stages_at routed r) ≡ length route.links
  pub entries_count : length routed.entries ≡ length routes
  pub arrival_count : length routed.arrivals ≡ length routes
  pub travel_count : length routed.travels ≡ length routes
  -- the entries, the travels, and the links' queues, outflows and exits are curves in short form
  pub curves : (r place : ℕ) (route : Route) → slice_get routes r ≡ Some route → place < suc (length route.links)
      → IsCurve (entry_at routed r place) × IsShort (entry_at routed r place)
  pub link_curves : (e : ℕ) → e < length net.links
      → IsCurve (link_loaded routed e).queue × (IsCurve (link_loaded routed e).outflow × IsCurve (link_loaded routed e).exit)
  pub link_short : (e : ℕ) → e < length net.links
      → IsShort (link_loaded routed e).queue × (IsShort (link_loaded routed e).outflow × IsShort (link_loaded routed e).exit)
  pub travel_curves : (r : ℕ) (route : Route) → slice_get routes r ≡ Some route
      → IsCurve (travel_at routed r) × IsShort (travel_at routed r)
  -- the amount sent is 0 at time 0 and never falls
  pub begins : (r place : ℕ) (route : Route) → slice_get routes r ≡ Some route → place < suc (length route.links)
      → sent_by routed r place 0ℚ ≡ 0ℚ
  pub rises : (r place : ℕ) (route : Route) → slice_get routes r ≡ Some route → place < suc (length route.links)
      → NeverFalls (sent_by routed r place)
  pub ends : (e : ℕ) → e < length net.links → IsEnd routes horizon routed e (number_at routed.ends e)
  -- a route sends its supply into its first link, up to the horizon, and nothing after it
  pub first : (r : ℕ) (route : Route) (time : ℚ) → slice_get routes r ≡ Some route → Within 0ℚ horizon time
      → sent_by routed r 0 time ≡ supplied route.pieces time
  pub first_after : (r : ℕ) (route : Route) (time : ℚ) → slice_get routes r ≡ Some route → horizon ≤ℚ time
      → sent_by routed r 0 time ≡ supplied route.pieces horizon
  -- all that enters a link follows the law of the point queue
  pub queues : (e : ℕ) (link : Link) (time : ℚ) → IsLink net e link → Within 0ℚ (number_at routed.ends e) time
      → IsQueue link.capacity (inflow_by routes routed e) time (value (link_loaded routed e).queue time)
  pub exits : (e : ℕ) (link : Link) (time : ℚ) → IsLink net e link → Within 0ℚ (number_at routed.ends e) time
      → IsExit link.transit link.capacity (inflow_by routes routed e) time (exit_by routed e time)
  pub outflows : (e : ℕ) (link : Link) (time : ℚ) → IsLink net e link → Within 0ℚ (number_at routed.ends e +ℚ link.transit) time
      → IsOutflow link.transit link.capacity (inflow_by routes routed e) time (value (link_loaded routed e).outflow time)
  -- a route has sent the amount of each entry into its next link by the exit of that entry
  pub next : (r place e : ℕ) (route : Route) (time : ℚ) → slice_get routes r ≡ Some route → slice_get route.links place ≡ Some e
      → Within 0ℚ (number_at routed.ends e) time → sent_by routed r (suc place) (exit_by routed e time) ≡ sent_by routed r place time
  pub next_before : (r place e : ℕ) (route : Route) (time : ℚ) → slice_get routes r ≡ Some route → slice_get route.links place ≡ Some e
      → Within 0ℚ (exit_by routed e 0ℚ) time → sent_by routed r (suc place) time ≡ 0ℚ
  pub next_after : (r place e : ℕ) (route : Route) (time : ℚ) → slice_get routes r ≡ Some route → slice_get route.links place ≡ Some e
      → exit_by routed e (number_at routed.ends e) ≤ℚ time
      → sent_by routed r (suc place) time ≡ sent_by routed r place (number_at routed.ends e)
  pub travels : (r : ℕ) (route : Route) (time : ℚ) → slice_get routes r ≡ Some route → Within 0ℚ horizon time
      → value (travel_at routed r) time ≡ exits_along routed route.links time

-- ---- consequences
pub record RoutesArrive (net : Network) (routes : List Route) (horizon : ℚ) (routed : Routed) : Type 0 where
  -- all that a route sent has arrived in the end
  pub all : (r : ℕ) (route : Route) (time : ℚ) → slice_get routes r ≡ Some route → exits_along routed route.links horizon ≤ℚ time
      → value (arrival_at routed r) time ≡ supplied route.pieces horizon
  -- by the arrival of a departure, all that departed by then has arrived
  pub travelled : (r : ℕ) (route : Route) (departure : ℚ) → slice_get routes r ≡ Some route → Within 0ℚ horizon departure
      → value (arrival_at routed r) (value (travel_at routed r) departure) ≡ sent_by routed r 0 departure
  -- up to the exit of a link at its end, the routes over the link send on its outflow
  pub shares : (e : ℕ) (link : Link) (time : ℚ) → IsLink net e link → Within 0ℚ (exit_by routed e (number_at routed.ends e)) time
      → IsOutflow link.transit link.capacity (inflow_by routes routed e) time
      (sent_by_routes (λ r place. sent_by routed r (suc place) time) e routes)
