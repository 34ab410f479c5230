-- The least departure by which the supply reaches an amount, if there is one.
use Rattle.std.specs.Prelude.{Bool, true, false, List, [], ◌∷◌, Option, Some, None, Ok}
use Rattle.nf_rational.specs.Rational.{ℚ}
use Rattle.nf_rational.specs.Operations.{0ℚ}
use Rattle.nf_rational.specs.Order.{◌≤ℚ◌, ◌<ℚ◌, le_ℚ, lt_ℚ}
use Rattle.nf_frac_def.specs.declared.Op.TheVariants.{Sum, Difference, Quotient}
use Rattle.nf_frac_def.specs.Passing.{Passing}
use Rattle.nf_frac_def.specs.Checked.{Checked, checked, ◌>>=◌}
use Rattle.nf_model.specs.Network.{Piece, Network, supplied}

-- ---- the meaning
-- `time` is the least time of at least 0 by which the supply reaches the amount; None means that no time is.
abbrev pub IsDepartureOf : List Piece → ℚ → Option ℚ → Type 0
IsDepartureOf pieces amount None = (time : ℚ) → 0ℚ ≤ℚ time → supplied pieces time <ℚ amount
IsDepartureOf pieces amount (Some time) = (0ℚ ≤ℚ time) × (amount ≤ℚ supplied pieces time)
    × ((other : ℚ) → 0ℚ ≤ℚ other → amount ≤ℚ supplied pieces other → time ≤ℚ other)

abbrev pub IsDeparture : Network → ℚ → Option ℚ → Type 0
IsDeparture net amount found = IsDepartureOf net.pieces amount found

-- ---- the operations: `supply_at` computes the supply by a time
module _ (passes : Passing) (supply_at : ℚ → Checked ℚ) (amount : ℚ) where
  -- The departure within this piece, where `known` is the supply by its start.
  abbrev pub within_piece : ℚ → Piece → Checked (Option ℚ)
  within_piece known piece = do
    wanted ← checked passes Difference amount known
    while ← checked passes Quotient wanted piece.rate
    time ← checked passes Sum piece.start while
    Ok (Some time)

  abbrev pub last_piece : Bool → ℚ → Piece → Checked (Option ℚ)
  last_piece true known piece = within_piece known piece
  last_piece false known piece = Ok None

  abbrev pub by_next : Bool → ℚ → Piece → Checked (Option ℚ) → Checked (Option ℚ)
  by_next true known piece later = within_piece known piece
  by_next false known piece later = later

  -- The departure in the first piece by whose end the supply reaches the amount, or in the last piece.
  abbrev pub departs : ℚ → List Piece → Checked (Option ℚ)
  departs known [] = Ok None
  departs known (piece ∷ []) = last_piece (lt_ℚ 0ℚ piece.rate) known piece
  departs known (piece ∷ next ∷ later) = do
    supply ← supply_at next.start
    by_next (le_ℚ amount supply) known piece (departs supply (next ∷ later))

  -- The departure for the amount 0 is time 0.
  abbrev pub departure_of : Bool → List Piece → Checked (Option ℚ)
  departure_of true pieces = Ok (Some 0ℚ)
  departure_of false pieces = departs 0ℚ pieces

  unfoldable pub departure_list : List Piece → Checked (Option ℚ)
  departure_list pieces = departure_of (le_ℚ amount 0ℚ) pieces
