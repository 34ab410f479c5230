-- The routes file and its rules.
use Rattle.std.specs.Prelude.{◌≡◌, ◌⊎◌, ℕ, Bool, true, false, not, ◌&&◌, ◌==◌, nat_le, if◌then◌else◌, List, [], ◌∷◌, ◌++◌, length, map, set, Option, Some, None, Result, Ok, Err, codes, slice_get}
use Rattle.std.specs.List.{list_all}
use Rattle.std.specs.Str.{bytes_eq}
use Rattle.nf_frac_def.specs.Checked.{◌>>=◌}
use Rattle.nf_model.specs.Network.{Piece, Link, Network}
use Rattle.nf_net_def.specs.Names.{Name, is_name, has_name, place_of}
use Rattle.nf_net_def.specs.Named.{Named}
use Rattle.nf_side_def.specs.Lines as lines
use Rattle.nf_side_def.specs.Lines.{first_rule}
use Rattle.nf_side_def.specs.Frame.{Broken, Frame, file_in}
use Rattle.nf_routes_def.specs.declared.RoutesRule.{RoutesRule}
use Rattle.nf_routes_def.specs.declared.RoutesRule.TheVariants.{G1, G2, G3, G4, G5, G6, G7, G8, G9, G10, G11, G12, G13, G14, G15, G16, G17}
use Rattle.nf_routes_def.specs.Routes.{Route, HoldCircle, takes_all}

-- the greatest number of routes
abbrev pub most_routes : ℕ
most_routes = 100

-- the greatest number of rate lines of a route
abbrev pub most_lines_of_a_route : ℕ
most_lines_of_a_route = 200

-- a route with its name; a file's routes are listed in the order of their lines
pub record NamedRoute : Type 0 where
  pub name : Name
  pub route : Route

abbrev pub RoutesBroken : Type 0
RoutesBroken = Broken RoutesRule

-- ---- the entry of a single line
pub data RoutesEntry : Type 0 where
  RouteLine : Name → List ℕ → RoutesEntry
  RateLine : ℕ → Piece → RoutesEntry
  End : RoutesEntry

-- `route NAME LINK LINK ...`
abbrev pub route_line : List Name → List (List ℕ) → Result RoutesEntry RoutesRule
route_line links (name ∷ first ∷ rest) =
    if not (is_name name) then Err G7
    else (if list_all (has_name links) (first ∷ rest) then Ok (RouteLine name (map (place_of links) (first ∷ rest))) else Err G8)
route_line links words = Err G6

-- `rate NAME START RATE`
abbrev pub rate_line : List Name → List (List ℕ) → Result RoutesEntry RoutesRule
rate_line routes words = lines.rate_line (λ r piece. RateLine r piece) G6 G8 G9 routes words

abbrev pub end_line : List (List ℕ) → Result RoutesEntry RoutesRule
end_line words = lines.end_line End G6 words

abbrev pub routes_entry : List Name → List Name → List (List ℕ) → Result RoutesEntry RoutesRule
routes_entry links routes [] = Err G5
routes_entry links routes (key ∷ words) =
    if bytes_eq key (codes "route") then route_line links words
    else (if bytes_eq key (codes "rate") then rate_line routes words
    else (if bytes_eq key (codes "end") then end_line words else Err G5))

-- ---- parser state: the routes so far, and whether `end` was read
pub record RoutesDraft : Type 0 where
  pub routes : List NamedRoute
  pub ended : Bool

abbrev pub route_names : List NamedRoute → List Name
route_names routes = map (λ r. r.name) routes

-- the routes without their names
abbrev pub routes_of : List NamedRoute → List Route
routes_of routes = map (λ r. r.route) routes

abbrev pub links_of : Option NamedRoute → List ℕ
links_of None = []
links_of (Some r) = r.route.links

abbrev pub links_at : List NamedRoute → ℕ → List ℕ
links_at routes r = links_of (slice_get routes r)

abbrev pub pieces_of : Option NamedRoute → List Piece
pieces_of None = []
pieces_of (Some r) = r.route.pieces

abbrev pub pieces_at : List NamedRoute → ℕ → List Piece
pieces_at routes r = pieces_of (slice_get routes r)

-- ---- the test for a walk between two nodes
abbrev pub tail_is : Option Link → ℕ → Bool
tail_is None v = false
tail_is (Some link) v = link.tail == v

abbrev pub head_of : Option Link → ℕ
head_of None = 0
head_of (Some link) = link.head

abbrev pub is_walk : List Link → List ℕ → ℕ → ℕ → Bool
is_walk links [] v w = v == w
is_walk links (e ∷ rest) v w = tail_is (slice_get links e) v && is_walk links rest (head_of (slice_get links e)) w

-- the first rule that a piece breaks after other pieces of its route
abbrev pub rule_behind : List Piece → Piece → Option RoutesRule
rule_behind before piece = lines.piece_rule most_lines_of_a_route G13 G14 G15 before piece

abbrev pub routes_rule_of : Network → RoutesDraft → RoutesEntry → Option RoutesRule
routes_rule_of net draft (RouteLine name links) = first_rule (
    (has_name (route_names draft.routes) name, G10) ∷ (nat_le most_routes (length draft.routes), G11)
    ∷ (not (is_walk net.links links net.source net.sink), G12) ∷ [])
routes_rule_of net draft (RateLine r piece) = rule_behind (pieces_at draft.routes r) piece
routes_rule_of net draft End = None

-- the route with one more piece
abbrev pub longer : NamedRoute → Piece → NamedRoute
longer named piece = record { name = named.name; route = record { links = named.route.links; pieces = named.route.pieces ++ piece ∷ [] } }

abbrev pub with_piece : Piece → Option NamedRoute → List NamedRoute → ℕ → List NamedRoute
with_piece piece None routes r = routes
with_piece piece (Some named) routes r = set routes r (longer named piece)

abbrev pub routes_after : RoutesDraft → RoutesEntry → RoutesDraft
routes_after draft (RouteLine name links) =
    record draft { routes = draft.routes ++ record { name = name; route = record { links = links; pieces = [] } } ∷ [] }
routes_after draft (RateLine r piece) = record draft { routes = with_piece piece (slice_get draft.routes r) draft.routes r }
routes_after draft End = record draft { ended = true }

abbrev pub add_route_line : Named → RoutesDraft → List (List ℕ) → Result RoutesDraft RoutesRule
add_route_line n draft words = if draft.ended then Err G4
    else (routes_entry n.link_names (route_names draft.routes) words >>= λ entry. lines.unless_rule (routes_rule_of n.net draft entry)
    (routes_after draft entry))

-- ---- the whole file
abbrev pub routes_ended : RoutesDraft → Result (List NamedRoute) RoutesBroken
routes_ended draft = if draft.ended then Ok draft.routes else Err (record { rule = G16; line = 0 })

abbrev pub routes_frame : Named → Frame RoutesRule RoutesDraft (List NamedRoute)
routes_frame n = record {
  not_ascii = G1;
  long_line = G2;
  no_head = G3;
  keyword = codes "routes";
  empty = record { routes = []; ended = false };
  add = add_route_line n;
  close = routes_ended;
}

-- the routes in the order of their lines, or the first broken rule, of all rules but G17
unfoldable pub routes_of_lines : Named → List ℕ → Result (List NamedRoute) RoutesBroken
routes_of_lines n text = file_in (routes_frame n) text

-- ---- rule G17
-- the text breaks none of the other rules, and its routes hold a circle
pub record HoldsCircleIn (n : Named) (text : List ℕ) : Type 0 where
  pub routes : List NamedRoute
  pub read : routes_of_lines n text ≡ Ok routes
  pub circle : HoldCircle (routes_of routes)

abbrev pub circle_broken : RoutesBroken
circle_broken = record { rule = G17; line = 0 }

-- The reading of a text: its routes, if they hold no circle; otherwise the first broken rule. A circle breaks G17, the last rule.
abbrev pub ReadsRoutes : Named → List ℕ → Result (List NamedRoute) RoutesBroken → Type 0
ReadsRoutes n text (Ok routes) = (routes_of_lines n text ≡ Ok routes) × ¬ HoldCircle (routes_of routes)
ReadsRoutes n text (Err broken) = (routes_of_lines n text ≡ Err broken) ⊎ ((broken ≡ circle_broken) × HoldsCircleIn n text)

-- ---- the same reading, by a decidable test
abbrev pub is_ordered : Named → List NamedRoute → Bool
is_ordered n routes = takes_all (length n.net.links) (routes_of routes)

abbrev pub unless_circle : Named → List NamedRoute → Result (List NamedRoute) RoutesBroken
unless_circle n routes = if is_ordered n routes then Ok routes else Err circle_broken

-- the reading of a text, with G17 tested by the loading order
unfoldable pub routes_in : Named → List ℕ → Result (List NamedRoute) RoutesBroken
routes_in n text = routes_of_lines n text >>= unless_circle n
