-- The supply by the next start equals the supply by this start plus the amount of the piece between.
use Rattle.std.proofs.Common.{◌≡◌, ℕ, zero, suc, Bool, if◌then◌else◌, List, [], ◌∷◌, Some, slice_get, sym, ap, subst, ◌∙◌, Ok}
use Rattle.nf_quick_times.proofs.Common.{same_Some, ℚ, 0ℚ, ◌≤ℚ◌, ◌<ℚ◌, test_of_less, test_of_not_less, Passing, Checked, ◌>>=◌, Piece, StartsRise}
use Rattle.nf_quick_times.proofs.Common.{end_before, plus_piece, supplied_after}
use Rattle.nf_rational_laws.proofs.Order.{≤ℚ_of_lt}
use Rattle.nf_rational_laws.proofs.Polynomial.{reading_of}
use Rattle.nf_rational_laws.proofs.Linear.{le, lt, linear_lt}
use Rattle.nf_rational_laws.proofs.Chains.{≤ℚ_refl, ≤ℚ_trans}
use Rattle.nf_rational_laws.proofs.Extremes.{min_is_right}
use Rattle.nf_frac_def.proofs.Binding.{bind_same, bind_end}
use Rattle.nf_residual.proofs.LegByLeg.{bind_more}

at_or_after : (q : Piece) (later : List Piece) (k : ℕ) (piece : Piece) → StartsRise (q ∷ later) → slice_get (q ∷ later) k ≡ Some piece → q.start ≤ℚ piece.start
at_or_after q later zero piece s e = subst (λ (p : Piece). q.start ≤ℚ p.start) (same_Some q piece e) (≤ℚ_refl q.start)
at_or_after q [] (suc k) piece s e = absurd (cc)
at_or_after q (r ∷ later) (suc k) piece s e = ≤ℚ_trans _ _ _ (≤ℚ_of_lt _ _ s.0) (at_or_after r later k piece s.1 e)

module _ (passes : Passing) where
  -- A piece that starts before the time, or not, and then the later pieces.
  abbrev from_piece : Bool → ℚ → Piece → List Piece → ℚ → Checked ℚ
  from_piece b so_far p later time =
      if b then (plus_piece passes so_far p (end_before later time) >>= λ sum. supplied_after passes sum later time) else supplied_after passes so_far later time

  -- Pieces that start at the time or later supply nothing by then.
  none_yet : (p : Piece) (later : List Piece) (time so_far : ℚ) → StartsRise (p ∷ later) → time ≤ℚ p.start → supplied_after passes so_far (p ∷ later) time ≡ Ok so_far
  none_yet p [] time so_far s h = ap (λ (b : Bool). from_piece b so_far p [] time) (test_of_not_less p.start time h)
  none_yet p (q ∷ later) time so_far s h =
      ap (λ (b : Bool). from_piece b so_far p (q ∷ later) time) (test_of_not_less p.start time h) ∙ none_yet q later time so_far s.1 (≤ℚ_trans _ _ _ h (≤ℚ_of_lt _ _ s.0))

  -- The whole amount of a piece that ends before the time.
  whole_piece : (p q : Piece) (later : List Piece) (time so_far : ℚ) → p.start <ℚ time → q.start ≤ℚ time
      → supplied_after passes so_far (p ∷ q ∷ later) time ≡ (plus_piece passes so_far p q.start >>= λ sum. supplied_after passes sum (q ∷ later) time)
  whole_piece p q later time so_far h k =
      ap (λ (b : Bool). from_piece b so_far p (q ∷ later) time) (test_of_less p.start time h)
      ∙ ap (λ (end : ℚ). plus_piece passes so_far p end >>= λ sum. supplied_after passes sum (q ∷ later) time) (min_is_right time q.start k)

  pub supply_goes_on : (pieces : List Piece) (k : ℕ) (piece next : Piece) (so_far : ℚ) → StartsRise pieces → slice_get pieces k ≡ Some piece → slice_get pieces (suc k) ≡ Some next
      → supplied_after passes so_far pieces next.start ≡ (supplied_after passes so_far pieces piece.start >>= λ known. plus_piece passes known piece next.start)
  supply_goes_on [] k piece next so_far s e f = absurd (cc)
  supply_goes_on (p ∷ []) k piece next so_far s e f = absurd (cc)
  supply_goes_on (p ∷ q ∷ later) zero piece next so_far s e f =
      subst (λ (n : Piece). supplied_after passes so_far (p ∷ q ∷ later) n.start
      ≡ (supplied_after passes so_far (p ∷ q ∷ later) piece.start >>= λ known. plus_piece passes known piece n.start)) (same_Some q next f)
      (subst (λ (a : Piece). supplied_after passes so_far (p ∷ q ∷ later) q.start
      ≡ (supplied_after passes so_far (p ∷ q ∷ later) a.start >>= λ known. plus_piece passes known a q.start)) (same_Some p piece e) first)
    where
      first : supplied_after passes so_far (p ∷ q ∷ later) q.start ≡ (supplied_after passes so_far (p ∷ q ∷ later) p.start >>= λ known. plus_piece passes known p q.start)
      first =
          whole_piece p q later q.start so_far s.0 (≤ℚ_refl q.start)
          ∙ bind_same (plus_piece passes so_far p q.start) (λ sum. supplied_after passes sum (q ∷ later) q.start) (λ sum. Ok sum)
          (λ sum. none_yet q later q.start sum s.1 (≤ℚ_refl q.start))
          ∙ bind_end (plus_piece passes so_far p q.start)
          ∙ ap (λ (r : Checked ℚ). r >>= λ known. plus_piece passes known p q.start) (sym (none_yet p (q ∷ later) p.start so_far s (≤ℚ_refl p.start)))
  supply_goes_on (p ∷ q ∷ later) (suc k) piece next so_far s e f =
      let to_piece : q.start ≤ℚ piece.start = at_or_after q later k piece s.1 e in
      let to_next : q.start ≤ℚ next.start = at_or_after q later (suc k) next s.1 f in
      whole_piece p q later next.start so_far (before p.start q.start next.start s.0 to_next) to_next
      ∙ bind_more (plus_piece passes so_far p q.start) (λ sum. supplied_after passes sum (q ∷ later) piece.start) (λ known. plus_piece passes known piece next.start)
      (λ sum. supplied_after passes sum (q ∷ later) next.start) (λ sum. supply_goes_on (q ∷ later) k piece next sum s.1 e f)
      ∙ ap (λ (r : Checked ℚ). r >>= λ known. plus_piece passes known piece next.start)
      (sym (whole_piece p q later piece.start so_far (before p.start q.start piece.start s.0 to_piece) to_piece))
    where
      before : (x y z : ℚ) → x <ℚ y → y ≤ℚ z → x <ℚ z
      before x y z h k = linear_lt (x ∷ y ∷ z ∷ []) (lt h ∷ le k ∷ []) (search reading_of depth 12) tt

  pub first_supply : (pieces : List Piece) (piece : Piece) → StartsRise pieces → slice_get pieces 0 ≡ Some piece → supplied_after passes 0ℚ pieces piece.start ≡ Ok 0ℚ
  first_supply [] piece s e = absurd (cc)
  first_supply (p ∷ later) piece s e = subst (λ (q : Piece). supplied_after passes 0ℚ (p ∷ later) q.start ≡ Ok 0ℚ) (same_Some p piece e) (none_yet p later p.start 0ℚ s (≤ℚ_refl p.start))
