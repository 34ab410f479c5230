-- Networks and the supply of their source.
use Rattle.std.specs.Prelude.{◌≡◌, ◌≢◌, ℕ, suc, ◌<◌, if◌then◌else◌, Bool, ◌==◌, List, [], ◌∷◌, Option, Some, None, is_none, slice_get, map}
use Rattle.nf_rational.specs.Rational.{ℚ}
use Rattle.nf_rational.specs.Operations.{0ℚ, ◌+ℚ◌, ◌-ℚ◌, ◌*ℚ◌}
use Rattle.nf_rational.specs.Order.{◌≤ℚ◌, ◌<ℚ◌, le_ℚ, lt_ℚ, min_ℚ, max_ℚ}
use Rattle.nf_model.specs.Walk.{Hop, IsWalk, transit_sum}

-- A link leads from its tail to its head. Entering flow waits in a queue at the entrance, which is served at the capacity, an amount per
-- unit of time. The flow then takes the transit time. A link without capacity is unbounded: nothing waits.
pub record Link : Type 0 where
  pub tail : ℕ
  pub head : ℕ
  pub transit : ℚ
  pub capacity : Option ℚ

-- from `start` on the source is supplied at `rate`, until the next piece starts
pub record Piece : Type 0 where
  pub start : ℚ
  pub rate : ℚ

-- nodes are the numbers below `nodes`; links and pieces are identified by their index in the list
pub record Network : Type 0 where
  pub nodes : ℕ
  pub source : ℕ
  pub sink : ℕ
  pub links : List Link
  pub pieces : List Piece

abbrev pub IsLink : Network → ℕ → Link → Type 0
IsLink net e link = slice_get net.links e ≡ Some link

abbrev pub IsPiece : List Piece → ℕ → Piece → Type 0
IsPiece pieces i piece = slice_get pieces i ≡ Some piece

-- removes the capacity of a link
abbrev pub hop_of : Link → Hop
hop_of link = record { tail = link.tail; head = link.head; transit = link.transit }

abbrev pub hops : Network → List Hop
hops net = map hop_of net.links

-- states, for each link, whether it is unbounded
abbrev pub unbounded : Network → List Bool
unbounded net = map (λ link. is_none link.capacity) net.links

-- pieces start strictly one after the other, at time 0 or later; no rate is negative
pub record ArePieces (pieces : List Piece) : Type 0 where
  pub starts : (i : ℕ) (piece : Piece) → IsPiece pieces i piece → 0ℚ ≤ℚ piece.start
  pub rise : (i : ℕ) (piece next : Piece) → IsPiece pieces i piece → IsPiece pieces (suc i) next → piece.start <ℚ next.start
  pub rates : (i : ℕ) (piece : Piece) → IsPiece pieces i piece → 0ℚ ≤ℚ piece.rate

-- A well-formed network. Source and sink are two different nodes, and both ends of each link are nodes. No transit time is negative, and
-- each capacity is positive. Each cycle of links has a positive transit sum. Each node is reachable from the source.
pub record IsNetwork (net : Network) : Type 0 where
  pub source : net.source < net.nodes
  pub sink : net.sink < net.nodes
  pub apart : net.source ≢ net.sink
  pub tails : (e : ℕ) (link : Link) → IsLink net e link → link.tail < net.nodes
  pub heads : (e : ℕ) (link : Link) → IsLink net e link → link.head < net.nodes
  pub transits : (e : ℕ) (link : Link) → IsLink net e link → 0ℚ ≤ℚ link.transit
  pub capacities : (e : ℕ) (link : Link) (capacity : ℚ) → IsLink net e link → link.capacity ≡ Some capacity → 0ℚ <ℚ capacity
  pub pieces : ArePieces net.pieces
  pub cycles : (e : ℕ) (walk : List ℕ) (v : ℕ) → IsWalk (hops net) (e ∷ walk) v v → 0ℚ <ℚ transit_sum (hops net) (e ∷ walk)
  pub reached : (v : ℕ) → v < net.nodes → (walk : List ℕ) × IsWalk (hops net) walk net.source v

-- ---- sums at a node: the sum of f over the links that lead into it, and over those that lead out of it

abbrev pub sum_in : List Link → (ℕ → ℚ) → ℕ → ℚ
sum_in [] f v = 0ℚ
sum_in (link ∷ links) f v = if link.head == v then f 0 +ℚ sum_in links (λ e. f (suc e)) v else sum_in links (λ e. f (suc e)) v

abbrev pub sum_out : List Link → (ℕ → ℚ) → ℕ → ℚ
sum_out [] f v = 0ℚ
sum_out (link ∷ links) f v = if link.tail == v then f 0 +ℚ sum_out links (λ e. f (suc e)) v else sum_out links (λ e. f (suc e)) v

-- ---- the supply of the source

-- the duration in [0, `time`] during which a piece is the latest one started; the piece starts at `start`, before the later ones
abbrev pub time_in : ℚ → List Piece → ℚ → ℚ
time_in start [] time = max_ℚ 0ℚ (time -ℚ start)
time_in start (next ∷ later) time = max_ℚ 0ℚ (min_ℚ time next.start -ℚ start)

-- adds, over the pieces, the rate times the duration during which the piece is the latest one started
abbrev pub supplied : List Piece → ℚ → ℚ
supplied [] time = 0ℚ
supplied (piece ∷ later) time = piece.rate *ℚ time_in piece.start later time +ℚ supplied later time

-- U: the amount supplied in [0, `time`]
abbrev pub supply : Network → ℚ → ℚ
supply net time = supplied net.pieces time

-- returns the rate of the last of these pieces that starts at or before `time`, or `before` if none does
abbrev pub rate_from : ℚ → List Piece → ℚ → ℚ
rate_from before [] time = before
rate_from before (piece ∷ later) time = if le_ℚ piece.start time then rate_from piece.rate later time else before

-- returns the rate at which the source is supplied from `time` on
abbrev pub rate_at : Network → ℚ → ℚ
rate_at net time = rate_from 0ℚ net.pieces time

-- the first start after `time`, if there is one
abbrev pub first_start : List Piece → ℚ → Option ℚ
first_start [] time = None
first_start (piece ∷ later) time = if lt_ℚ time piece.start then Some piece.start else first_start later time

-- the next inflow change after `time`; each start of a piece is one, even if the rate stays the same
abbrev pub next_change : Network → ℚ → Option ℚ
next_change net time = first_start net.pieces time
