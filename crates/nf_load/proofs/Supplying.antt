-- Cumulative amounts, piece by piece.
use Rattle.std.proofs.Common.{◌≡◌, ⊎_elim, ℕ, suc, ◌+◌, ◌<◌, ◌≤◌, arith, drop, Bool, true, false, List, [], ◌∷◌, ◌++◌, refl, sym, ap, ◌∙◌, append_assoc, Ok}
use Rattle.std.proofs.Common.{Err, Some, slice_get}
use Rattle.nf_load.proofs.Common.{ℚ, 0ℚ, lt_ℚ, Passing, Part, PassedAt, Checked, at_part, ◌>>=◌, with_front, Point, Piece, is_same, piece_end}
use Rattle.nf_load.proofs.Common.{point_after_0, point_if_after_0, with_piece, cumulative_from, drop_entry, is_same_cases, was_ok, after_err, front_err}
use Rattle.nf_load_def.specs.Cumulative.{checked_cumulative}
use Rattle.nf_load.specs.Rates.{rate_after_0 as rate_by_test, rate_if_after_0}

-- ---- points after time 0
pub after_0 : (t y : ℚ) → (t ≡ 0ℚ → ⊥) → point_if_after_0 t y ≡ (t, y) ∷ []
after_0 t y f = ⊎_elim
    (λ (w : (is_same t 0ℚ ≡ true) × (t ≡ 0ℚ)). absurd (f w.1))
    (λ (w : (is_same t 0ℚ ≡ false) × (¬ (t ≡ 0ℚ))). ap (λ (b : Bool). point_after_0 b t y) w.0)
    (is_same_cases t 0ℚ)

pub rate_at_0 : (t r : ℚ) → t ≡ 0ℚ → rate_if_after_0 t r ≡ []
rate_at_0 t r e = ⊎_elim
    (λ (w : (is_same t 0ℚ ≡ true) × (t ≡ 0ℚ)). ap (λ (b : Bool). rate_by_test b r) w.0)
    (λ (w : (is_same t 0ℚ ≡ false) × (¬ (t ≡ 0ℚ))). absurd (w.1 e))
    (is_same_cases t 0ℚ)

pub rate_after_0 : (t r : ℚ) → (t ≡ 0ℚ → ⊥) → rate_if_after_0 t r ≡ r ∷ []
rate_after_0 t r f = ⊎_elim
    (λ (w : (is_same t 0ℚ ≡ true) × (t ≡ 0ℚ)). absurd (f w.1))
    (λ (w : (is_same t 0ℚ ≡ false) × (¬ (t ≡ 0ℚ))). ap (λ (b : Bool). rate_by_test b r) w.0)
    (is_same_cases t 0ℚ)

-- ---- the points so far, and those from a piece on
module _ (passes : Passing) where
  pub begins : (pieces : List Piece) (last : ℚ) → with_front ((0ℚ, 0ℚ) ∷ []) (cumulative_from passes 0ℚ pieces last) ≡ checked_cumulative passes pieces last
  unfolding checked_cumulative
  begins pieces last = go (cumulative_from passes 0ℚ pieces last)
    where
      go : (r : Checked (List Point)) → with_front ((0ℚ, 0ℚ) ∷ []) r ≡ (r >>= λ rest. Ok ((0ℚ, 0ℚ) ∷ rest))
      go (Ok ys) = refl
      go (Err p) = refl

  pub begins_with : (pieces : List Piece) (last so_far a b : ℚ) (front : List Point) → so_far ≡ 0ℚ → a ≡ 0ℚ → b ≡ 0ℚ → front ≡ (a, b) ∷ []
      → with_front front (cumulative_from passes so_far pieces last) ≡ checked_cumulative passes pieces last
  begins_with pieces last so_far a b front s e f g =
      ap (λ (l : List Point). with_front l (cumulative_from passes so_far pieces last)) (g ∙ ap (λ (x : ℚ). (x, b) ∷ []) e ∙ ap (λ (y : ℚ). (0ℚ, y) ∷ []) f)
      ∙ ap (λ (x : ℚ). with_front ((0ℚ, 0ℚ) ∷ []) (cumulative_from passes x pieces last)) s
      ∙ begins pieces last

  module _ (part : Part) (front : List Point) (so_far last : ℚ) (all : Checked (List Point)) where
    -- after the last piece
    pub ends_there : with_front front (cumulative_from passes so_far [] last) ≡ all → at_part part all ≡ Ok (front ++ point_if_after_0 last so_far)
    ends_there e = ap (at_part part) (sym e)

    module _ (piece : Piece) (later : List Piece) (so : with_front front (cumulative_from passes so_far (piece ∷ later) last) ≡ all) where
      abbrev by_test : Bool → Checked (List Point)
      by_test b = elim b [
        | true ↦ with_piece passes so_far piece (piece_end later last) >>= λ sum. cumulative_from passes sum later last >>= λ rest. Ok (point_if_after_0 piece.start so_far ++ rest)
        | false ↦ Ok (point_if_after_0 last so_far)
      ]

      abbrev by_sum : Checked ℚ → Checked (List Point)
      by_sum r = r >>= λ sum. cumulative_from passes sum later last >>= λ rest. Ok (point_if_after_0 piece.start so_far ++ rest)

      -- before a piece that starts too late
      pub ends_before : lt_ℚ piece.start last ≡ false → at_part part all ≡ Ok (front ++ point_if_after_0 last so_far)
      ends_before f = ap (at_part part) (sym so ∙ ap (λ (b : Bool). with_front front (by_test b)) f)

      pub goes_on : (sum : ℚ) → lt_ℚ piece.start last ≡ true → at_part part (with_piece passes so_far piece (piece_end later last)) ≡ Ok sum
          → with_front (front ++ point_if_after_0 piece.start so_far) (cumulative_from passes sum later last) ≡ all
      goes_on sum f e =
          sym (ap (λ (b : Bool). with_front front (by_test b)) f
          ∙ ap (λ (r : Checked ℚ). with_front front (by_sum r)) (was_ok part (with_piece passes so_far piece (piece_end later last)) sum e)
          ∙ more (cumulative_from passes sum later last)) ∙ so
        where
          more : (r : Checked (List Point)) → with_front front (r >>= λ rest. Ok (point_if_after_0 piece.start so_far ++ rest)) ≡ with_front
              (front ++ point_if_after_0 piece.start so_far) r
          more (Ok ys) = ap (λ (l : List Point). Ok l) (sym (append_assoc front (point_if_after_0 piece.start so_far) ys))
          more (Err p) = refl

      pub stops : (p : PassedAt ℚ) → lt_ℚ piece.start last ≡ true → at_part part (with_piece passes so_far piece (piece_end later last)) ≡ Err p → at_part part all ≡ Err p
      stops p f e = ap (at_part part) (sym so ∙ ap (λ (b : Bool). with_front front (by_test b)) f)
          ∙ front_err part front (by_sum (with_piece passes so_far piece (piece_end later last))) p (after_err part (with_piece passes so_far piece (piece_end later last)) _ p e)

pub one_on : (i : ℕ) → i + 1 ≡ suc i
one_on i = omega arith

-- ---- the same of the piece of a number
pub piece_first : (xs : List Piece) (i next : ℕ) (p : Piece) → slice_get xs i ≡ Some p → next ≡ suc i → drop i xs ≡ p ∷ drop next xs
piece_first xs i next p e n = drop_entry xs i p e ∙ ap (λ (k : ℕ). p ∷ drop k xs) (sym n)

module _ (passes : Passing) (part : Part) (front : List Point) (so_far last : ℚ) (pieces : List Piece) (i next : ℕ) (piece : Piece)
    (at : slice_get pieces i ≡ Some piece) (n : next ≡ suc i) (so : with_front front (cumulative_from passes so_far (drop i pieces) last) ≡ checked_cumulative passes pieces last) where
  from_here : with_front front (cumulative_from passes so_far (piece ∷ drop next pieces) last) ≡ checked_cumulative passes pieces last
  from_here = ap (λ (l : List Piece). with_front front (cumulative_from passes so_far l last)) (sym (piece_first pieces i next piece at n)) ∙ so

  pub ends_before_at : lt_ℚ piece.start last ≡ false → at_part part (checked_cumulative passes pieces last) ≡ Ok (front ++ point_if_after_0 last so_far)
  ends_before_at f = ends_before passes part front so_far last (checked_cumulative passes pieces last) piece (drop next pieces) from_here f

  pub goes_on_at : (sum : ℚ) → lt_ℚ piece.start last ≡ true → at_part part (with_piece passes so_far piece (piece_end (drop next pieces) last)) ≡ Ok sum
      → with_front (front ++ point_if_after_0 piece.start so_far) (cumulative_from passes sum (drop next pieces) last) ≡ checked_cumulative passes pieces last
  goes_on_at sum f e = goes_on passes part front so_far last (checked_cumulative passes pieces last) piece (drop next pieces) from_here sum f e

  pub stops_at : (p : PassedAt ℚ) → lt_ℚ piece.start last ≡ true → at_part part (with_piece passes so_far piece (piece_end (drop next pieces) last)) ≡ Err p
      → at_part part (checked_cumulative passes pieces last) ≡ Err p
  stops_at p f e = stops passes part front so_far last (checked_cumulative passes pieces last) piece (drop next pieces) from_here p f e

pub within_next : (i n : ℕ) → i < n → i + 1 ≤ n
within_next i n h = omega arith
