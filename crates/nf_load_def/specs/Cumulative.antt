-- The amount supplied by pieces, as a curve.
use Rattle.std.specs.Prelude.{Bool, true, false, List, [], ◌∷◌, ◌++◌, Ok}
use Rattle.nf_rational.specs.Rational.{ℚ}
use Rattle.nf_rational.specs.Operations.{0ℚ}
use Rattle.nf_rational.specs.Order.{lt_ℚ, min_ℚ}
use Rattle.nf_frac_def.specs.Passing.{Passing}
use Rattle.nf_frac_def.specs.Checked.{Checked, checked, ◌>>=◌}
use Rattle.nf_frac_def.specs.declared.Op.TheVariants.{Sum, Difference, Product}
use Rattle.nf_model.specs.Curve.{Point}
use Rattle.nf_model.specs.Network.{Piece}
use Rattle.nf_rational.specs.Signs.{is_zero}

-- the end of a piece: the lesser of the next piece's start and `last`
abbrev pub piece_end : List Piece → ℚ → ℚ
piece_end [] last = last
piece_end (next ∷ later) last = min_ℚ next.start last

-- the point, unless its time is 0
abbrev pub point_after_0 : Bool → ℚ → ℚ → List Point
point_after_0 true time amount = []
point_after_0 false time amount = (time, amount) ∷ []

abbrev pub point_if_after_0 : ℚ → ℚ → List Point
point_if_after_0 time amount = point_after_0 (is_zero time) time amount

module _ (passes : Passing) where
  -- the amount supplied by the end of a piece
  abbrev pub with_piece : ℚ → Piece → ℚ → Checked ℚ
  with_piece so_far piece end = do
    length ← checked passes Difference end piece.start
    amount ← checked passes Product piece.rate length
    checked passes Sum so_far amount

  -- the points after time 0: one at the start of each piece before `last`, and one at `last`
  abbrev pub cumulative_from : ℚ → List Piece → ℚ → Checked (List Point)
  cumulative_from so_far [] last = Ok (point_if_after_0 last so_far)
  cumulative_from so_far (piece ∷ later) last = elim (lt_ℚ piece.start last) [
    | true ↦ do
      sum ← with_piece so_far piece (piece_end later last)
      rest ← cumulative_from sum later last
      Ok (point_if_after_0 piece.start so_far ++ rest)
    | false ↦ Ok (point_if_after_0 last so_far)
  ]

  unfoldable pub checked_cumulative : List Piece → ℚ → Checked (List Point)
  checked_cumulative pieces last = do
    rest ← cumulative_from 0ℚ pieces last
    Ok ((0ℚ, 0ℚ) ∷ rest)
