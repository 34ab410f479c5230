-- Theorems about the supply of the source.
use Rattle.std.specs.Prelude.{◌≡◌, ℕ, List}
use Rattle.nf_rational.specs.Rational.{ℚ}
use Rattle.nf_rational.specs.Operations.{0ℚ, ◌+ℚ◌, ◌-ℚ◌, ◌*ℚ◌}
use Rattle.nf_rational.specs.Order.{◌≤ℚ◌, ◌<ℚ◌}
use Rattle.nf_model.specs.Curve.{NeverFalls}
use Rattle.nf_model.specs.Network.{Piece, IsPiece, ArePieces, supplied, rate_from}

-- no piece starts strictly between the two times
abbrev pub NoStartBetween : List Piece → ℚ → ℚ → Type 0
NoStartBetween pieces time later = (i : ℕ) (piece : Piece) → IsPiece pieces i piece → time <ℚ piece.start → later ≤ℚ piece.start

-- The supply is 0 at time 0. Between two times without a start strictly between, it grows at the rate of the first. The supply never
-- falls, and no rate is negative.
pub record SupplyGoesOn : Type 0 where
  pub begins : (pieces : List Piece) → ArePieces pieces → supplied pieces 0ℚ ≡ 0ℚ
  pub step : (pieces : List Piece) (time later : ℚ) → ArePieces pieces → time ≤ℚ later → NoStartBetween pieces time later
      → supplied pieces later ≡ supplied pieces time +ℚ rate_from 0ℚ pieces time *ℚ (later -ℚ time)
  pub rises : (pieces : List Piece) → ArePieces pieces → NeverFalls (supplied pieces)
  pub rate : (pieces : List Piece) (time : ℚ) → ArePieces pieces → 0ℚ ≤ℚ rate_from 0ℚ pieces time
