-- The rate of the supply, and when it changes, piece by piece.
use Rattle.std.proofs.Common.{◌≡◌, ℕ, ◌+◌, ◌<◌, Bool, true, false, cond, List, ◌∷◌, length, get_or, drop, Some, sym, ◌∙◌, ap}
use Rattle.nf_net_file.proofs.Common.{at_drop_more, ℚ, le_ℚ, lt_ℚ, Piece, rate_from, first_start}

module _ (pieces : List Piece) (time : ℚ) (i : ℕ) (piece : Piece) (lt : i < length pieces) (is : piece ≡ get_or pieces i piece) where
  rate_at_piece : (before : ℚ) → rate_from before (drop i pieces) time ≡ rate_from before (piece ∷ drop (i + 1) pieces) time
  rate_at_piece before = at_drop_more (λ ps. rate_from before ps time) pieces i piece lt
      ∙ ap (λ (p : Piece). rate_from before (p ∷ drop (i + 1) pieces) time) (sym is)

  pub rate_goes_on : (before : ℚ) → le_ℚ piece.start time ≡ true → rate_from before (drop i pieces) time ≡ rate_from piece.rate (drop (i + 1) pieces) time
  rate_goes_on before e = rate_at_piece before ∙ ap (λ (b : Bool). cond b (rate_from piece.rate (drop (i + 1) pieces) time) before) e

  pub rate_stays : (before : ℚ) → le_ℚ piece.start time ≡ false → rate_from before (drop i pieces) time ≡ before
  rate_stays before e = rate_at_piece before ∙ ap (λ (b : Bool). cond b (rate_from piece.rate (drop (i + 1) pieces) time) before) e

  start_at_piece : first_start (drop i pieces) time ≡ first_start (piece ∷ drop (i + 1) pieces) time
  start_at_piece = at_drop_more (λ ps. first_start ps time) pieces i piece lt
      ∙ ap (λ (p : Piece). first_start (p ∷ drop (i + 1) pieces) time) (sym is)

  pub start_later : lt_ℚ time piece.start ≡ false → first_start (drop i pieces) time ≡ first_start (drop (i + 1) pieces) time
  start_later e = start_at_piece ∙ ap (λ (b : Bool). cond b (Some piece.start) (first_start (drop (i + 1) pieces) time)) e

  pub start_here : lt_ℚ time piece.start ≡ true → first_start (drop i pieces) time ≡ Some piece.start
  start_here e = start_at_piece ∙ ap (λ (b : Bool). cond b (Some piece.start) (first_start (drop (i + 1) pieces) time)) e
