-- Equilibria of the network of one link. They show that the definition of an equilibrium has members.
use Rattle.std.specs.Prelude.{◌≡◌, ◌⊎◌, ◌↔◌, ℕ, List, [], ◌∷◌, Option, Some, pos}
use Rattle.nf_rational.specs.Rational.{ℚ}
use Rattle.nf_rational.specs.Operations.{0ℚ, whole, ◌+ℚ◌, ◌-ℚ◌, ◌*ℚ◌}
use Rattle.nf_rational.specs.Order.{◌≤ℚ◌, ◌<ℚ◌}
use Rattle.nf_model.specs.Curve.{Within, NeverFalls}
use Rattle.nf_model.specs.Network.{Piece, Network, IsNetwork, IsPiece, ArePieces, supply}
use Rattle.nf_model.specs.Queue.{IsQueue, IsExit, IsOutflow}
use Rattle.nf_model.specs.Equilibrium.{Trace, Flow, label, inflow, outflow, queue, HasShape, HasSlopes, Equilibrium}
use Rattle.nf_model_laws.specs.Capacity.{IsPositive}

-- returns the network of one link, from the source to the sink
abbrev pub one_link : ℚ → Option ℚ → List Piece → Network
one_link transit capacity pieces = record {
  nodes = 2;
  source = 0;
  sink = 1;
  links = record { tail = 0; head = 1; transit = transit; capacity = capacity } ∷ [];
  pieces = pieces;
}

-- The whole supply enters the link at once. The sink's label is the exit, and outflow and queue are those of this inflow.
pub record FillsLink (transit : ℚ) (capacity : Option ℚ) (pieces : List Piece) (flow : Flow) : Type 0 where
  pub begins : 0ℚ ≤ℚ flow.reached
  pub shape : HasShape (one_link transit capacity pieces) flow
  pub inflow_rates : HasSlopes flow.inflows
  pub outflow_rates : HasSlopes flow.outflows
  pub starts : inflow flow 0 0ℚ ≡ 0ℚ
  pub rises : NeverFalls (inflow flow 0)
  pub supplied : (time : ℚ) → Within 0ℚ flow.reached time → inflow flow 0 time ≡ supply (one_link transit capacity pieces) time
  pub source : (departure : ℚ) → Within 0ℚ flow.reached departure → label flow 0 departure ≡ departure
  pub sink : (departure : ℚ) → Within 0ℚ flow.reached departure → IsExit transit capacity (inflow flow 0) departure (label flow 1 departure)
  pub outflows : (time : ℚ) → Within 0ℚ (label flow 1 flow.reached) time
      → IsOutflow transit capacity (inflow flow 0) time (outflow flow 0 time)
  pub queues : (time : ℚ) → Within 0ℚ flow.reached time → IsQueue capacity (inflow flow 0) time (queue flow 0 time)

-- a flow on one link is an equilibrium exactly if it satisfies `FillsLink`
abbrev pub OneLinkEquilibrium : Type 0
OneLinkEquilibrium = (transit : ℚ) (capacity : Option ℚ) (pieces : List Piece) (flow : Flow) → 0ℚ ≤ℚ transit → IsPositive capacity
    → ArePieces pieces
    → Equilibrium (one_link transit capacity pieces) flow ↔ FillsLink transit capacity pieces flow

-- ---- at one rate, from time 0 to a horizon

-- no piece starts before the horizon
abbrev pub NotBefore : ℚ → List Piece → Type 0
NotBefore horizon pieces = (i : ℕ) (piece : Piece) → IsPiece pieces i piece → horizon ≤ℚ piece.start

-- lists the pieces of a supply at this rate from time 0 on, followed by later pieces
abbrev pub at_rate : ℚ → List Piece → List Piece
at_rate rate later = record { start = 0ℚ; rate = rate } ∷ later

-- The outflow is 0 up to the transit time, and then has one rate up to the amount at the arrival. Without a transit time it begins at
-- once.
abbrev pub delayed_trace : ℚ → ℚ → ℚ → ℚ → Trace
delayed_trace transit arrival amount out_rate =
    record { points = (0ℚ, 0ℚ) ∷ (transit, 0ℚ) ∷ (arrival, amount) ∷ []; rates = 0ℚ ∷ out_rate ∷ [] }

abbrev pub prompt_trace : ℚ → ℚ → ℚ → Trace
prompt_trace arrival amount out_rate = record { points = (0ℚ, 0ℚ) ∷ (arrival, amount) ∷ []; rates = out_rate ∷ [] }

abbrev pub IsOutTrace : ℚ → ℚ → ℚ → ℚ → Trace → Type 0
IsOutTrace transit arrival amount out_rate trace =
    ((0ℚ <ℚ transit) × (trace ≡ delayed_trace transit arrival amount out_rate))
    ⊎ ((transit ≡ 0ℚ) × (trace ≡ prompt_trace arrival amount out_rate))

-- the flow up to the horizon; arrival, amount and queue are those of the departure at the horizon
abbrev pub steady_flow : ℚ → ℚ → ℚ → ℚ → ℚ → ℚ → Trace → Flow
steady_flow transit rate horizon arrival amount waits trace = record {
  reached = horizon;
  labels = ((0ℚ, 0ℚ) ∷ (horizon, horizon) ∷ []) ∷ ((0ℚ, transit) ∷ (horizon, arrival) ∷ []) ∷ [];
  inflows = record { points = (0ℚ, 0ℚ) ∷ (horizon, amount) ∷ []; rates = rate ∷ [] } ∷ [];
  outflows = trace ∷ [];
  queues = ((0ℚ, 0ℚ) ∷ (horizon, waits) ∷ []) ∷ [];
}

-- A link is supplied at its capacity or more. The queue grows by the excess over the capacity, and the outflow rate is the capacity.
abbrev pub FullLinkEquilibrium : Type 0
FullLinkEquilibrium = (transit capacity rate horizon arrival amount waits : ℚ) (later : List Piece) (trace : Trace)
    → 0ℚ ≤ℚ transit → 0ℚ <ℚ capacity → capacity ≤ℚ rate → 0ℚ <ℚ horizon → ArePieces (at_rate rate later) → NotBefore horizon later
    → amount ≡ rate *ℚ horizon → waits ≡ (rate -ℚ capacity) *ℚ horizon → capacity *ℚ (arrival -ℚ transit) ≡ amount
    → IsOutTrace transit arrival amount capacity trace
    → Equilibrium (one_link transit (Some capacity) (at_rate rate later)) (steady_flow transit rate horizon arrival amount waits trace)

-- A link is unbounded, or supplied at its capacity or less. Nothing waits, and each arrival is one transit time after the departure.
abbrev pub TightLinkEquilibrium : Type 0
TightLinkEquilibrium = (transit : ℚ) (capacity : Option ℚ) (rate horizon arrival amount : ℚ) (later : List Piece) (trace : Trace)
    → 0ℚ ≤ℚ transit → IsPositive capacity → ((bound : ℚ) → capacity ≡ Some bound → rate ≤ℚ bound) → 0ℚ <ℚ horizon
    → ArePieces (at_rate rate later) → NotBefore horizon later
    → amount ≡ rate *ℚ horizon → arrival ≡ transit +ℚ horizon → IsOutTrace transit arrival amount rate trace
    → Equilibrium (one_link transit capacity (at_rate rate later)) (steady_flow transit rate horizon arrival amount 0ℚ trace)

-- ---- an example in numbers: transit time 1 and capacity 1, supplied at rate 2 from time 0 to 2, up to time 2
abbrev pub n : ℕ → ℚ
n k = whole (pos k)

abbrev pub member_network : Network
member_network = record {
  nodes = 2;
  source = 0;
  sink = 1;
  links = record { tail = 0; head = 1; transit = n 1; capacity = Some (n 1) } ∷ [];
  pieces = record { start = n 0; rate = n 2 } ∷ record { start = n 2; rate = n 0 } ∷ [];
}

abbrev pub member_flow : Flow
member_flow = record {
  reached = n 2;
  labels = ((n 0, n 0) ∷ (n 2, n 2) ∷ []) ∷ ((n 0, n 1) ∷ (n 2, n 5) ∷ []) ∷ [];
  inflows = record { points = (n 0, n 0) ∷ (n 2, n 4) ∷ []; rates = n 2 ∷ [] } ∷ [];
  outflows = record { points = (n 0, n 0) ∷ (n 1, n 0) ∷ (n 5, n 4) ∷ []; rates = n 0 ∷ n 1 ∷ [] } ∷ [];
  queues = ((n 0, n 0) ∷ (n 2, n 2) ∷ []) ∷ [];
}

-- the example is a network, and the flow is an equilibrium of this network beyond time 0
pub record HasMember : Type 0 where
  pub network : IsNetwork member_network
  pub equilibrium : Equilibrium member_network member_flow
  pub goes_on : 0ℚ <ℚ member_flow.reached
