-- The operation sequence of the supply.
use Rattle.std.specs.Prelude.{List, [], ◌∷◌, if◌then◌else◌, Ok}
use Rattle.nf_rational.specs.Rational.{ℚ}
use Rattle.nf_rational.specs.Operations.{0ℚ}
use Rattle.nf_rational.specs.Order.{lt_ℚ, min_ℚ}
use Rattle.nf_frac_def.specs.declared.Op.TheVariants.{Sum, Difference, Product}
use Rattle.nf_frac_def.specs.Passing.{Passing}
use Rattle.nf_frac_def.specs.Checked.{Checked, checked, ◌>>=◌}
use Rattle.nf_model.specs.Network.{Piece, Network}

-- the lesser of the next start and the time
abbrev pub end_before : List Piece → ℚ → ℚ
end_before [] time = time
end_before (next ∷ later) time = min_ℚ time next.start

-- adds the amount of a piece from its start to `end` to the amount so far
abbrev pub plus_piece : Passing → ℚ → Piece → ℚ → Checked ℚ
plus_piece passes so_far piece end = do
  length ← checked passes Difference end piece.start
  amount ← checked passes Product piece.rate length
  checked passes Sum so_far amount

-- adds the amounts of the pieces that start before the time, in order
abbrev pub supplied_after : Passing → ℚ → List Piece → ℚ → Checked ℚ
supplied_after passes so_far [] time = Ok so_far
supplied_after passes so_far (piece ∷ later) time =
    if lt_ℚ piece.start time then (plus_piece passes so_far piece (end_before later time) >>= λ sum. supplied_after passes sum later time)
    else supplied_after passes so_far later time

abbrev pub checked_supply : Passing → Network → ℚ → Checked ℚ
checked_supply passes net time = supplied_after passes 0ℚ net.pieces time
