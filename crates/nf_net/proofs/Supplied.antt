-- The computed supply is that of the model.
use Rattle.std.proofs.Common.{◌≡◌, ℕ, suc, ◌⊎◌, ⊎_elim, Bool, true, false, cond, List, [], ◌∷◌, Some, slice_get, Ok, Err, refl, sym, ◌∙◌, ap, IfOk}
use Rattle.nf_net.proofs.Common.{ℚ, 0ℚ, ◌+ℚ◌, ◌-ℚ◌, ◌*ℚ◌, ◌≤ℚ◌, ◌<ℚ◌, lt_ℚ, min_ℚ, Passing, Piece, ArePieces, time_in, supplied, end_before, plus_piece}
use Rattle.nf_net.proofs.Common.{supplied_after}
use Rattle.nf_rational_laws.proofs.Polynomial.{reading_of}
use Rattle.nf_rational_laws.proofs.Linear.{le, eq, linear_eq}
use Rattle.nf_rational_laws.proofs.Order.{less_ps, ≤ℚ_of_lt}
use Rattle.nf_rational_laws.proofs.Tests.{lt_ℚ_cases, max0_none, max0_of}
use Rattle.nf_rational_laws.proofs.Extremes.{min_left, min_keeps}
use Rattle.nf_rational_laws.proofs.Chains.{≤ℚ_trans}
use Rattle.nf_frac_def.specs.declared.Op.TheVariants.{Sum, Difference, Product}
use Rattle.nf_frac_def.specs.Checked.{Checked, checked, ◌>>=◌}
use Rattle.nf_frac_def.proofs.Binding.{bind_ok}
use Rattle.nf_rational_laws.proofs.Results.{same_Ok}
use Rattle.nf_frac_def.proofs.Exact.{checked-is}
use Rattle.nf_rational_laws.proofs.Facts.{without_zero, gap_np}

-- ---- computations that give a value

with_piece_is : (passes : Passing) (so_far : ℚ) (piece : Piece) (end sum : ℚ) → plus_piece passes so_far piece end ≡ Ok sum
    → sum ≡ so_far +ℚ piece.rate *ℚ (end -ℚ piece.start)
with_piece_is passes so_far piece end sum e =
    let first = bind_ok (checked passes Difference end piece.start) (λ length. checked passes Product piece.rate length >>= λ amount. checked passes Sum so_far amount) sum e in
    let second = bind_ok (checked passes Product piece.rate first.0) (λ amount. checked passes Sum so_far amount) sum first.2 in
    checked-is passes Sum so_far second.0 sum second.2
    ∙ ap (λ (x : ℚ). so_far +ℚ x) (checked-is passes Product piece.rate first.0 second.0 second.1
    ∙ ap (λ (x : ℚ). piece.rate *ℚ x) (checked-is passes Difference end piece.start first.0 first.1))

-- ---- how long a piece is the latest one started

abbrev pub RisesFrom : ℚ → List Piece → Type 0
RisesFrom start [] = Unit {0}
RisesFrom start (next ∷ later) = start <ℚ next.start

time_when : (start : ℚ) (later : List Piece) (time : ℚ) → RisesFrom start later → start <ℚ time → time_in start later time ≡ end_before later time -ℚ start
time_when start [] time r h = max0_of (time -ℚ start) (≤ℚ_of_lt _ _ (less_ps start time h))
time_when start (next ∷ later) time r h =
    max0_of (min_ℚ time next.start -ℚ start) (≤ℚ_of_lt _ _ (less_ps start (min_ℚ time next.start) (min_keeps (λ (m : ℚ). start <ℚ m) time next.start h r)))

time_unless : (start : ℚ) (later : List Piece) (time : ℚ) → time ≤ℚ start → time_in start later time ≡ 0ℚ
time_unless start [] time h = max0_none (time -ℚ start) (gap_np time start h)
time_unless start (next ∷ later) time h = max0_none (min_ℚ time next.start -ℚ start) (gap_np (min_ℚ time next.start) start (≤ℚ_trans _ _ _ (min_left time next.start) h))

-- ---- the sums
joined : (v x s r e t y : ℚ) → v ≡ x +ℚ y → x ≡ s +ℚ r *ℚ (e -ℚ t) → v ≡ s +ℚ (r *ℚ (e -ℚ t) +ℚ y)
joined v x s r e t y h k = linear_eq (v ∷ x ∷ s ∷ r ∷ e ∷ t ∷ y ∷ []) (eq h ∷ eq k ∷ []) (search reading_of depth 12) tt tt

nothing_more : (v s r y : ℚ) → v ≡ s +ℚ y → v ≡ s +ℚ (r *ℚ 0ℚ +ℚ y)
nothing_more v s r y h = linear_eq (v ∷ s ∷ r ∷ y ∷ []) (eq h ∷ []) (search reading_of depth 12) tt tt

with_nothing : (v s : ℚ) → v ≡ s → v ≡ s +ℚ 0ℚ
with_nothing v s h = linear_eq (v ∷ s ∷ []) (eq h ∷ []) (search reading_of depth 12) tt tt

abbrev Rise : List Piece → Type 0
Rise pieces = (i : ℕ) (piece next : Piece) → slice_get pieces i ≡ Some piece → slice_get pieces (suc i) ≡ Some next → piece.start <ℚ next.start

first_rises : (piece : Piece) (later : List Piece) → Rise (piece ∷ later) → RisesFrom piece.start later
first_rises piece [] r = tt
first_rises piece (next ∷ later) r = r 0 piece next refl refl

module _ (passes : Passing) (time : ℚ) where
  supplied_is : (so_far : ℚ) (pieces : List Piece) (v : ℚ) → Rise pieces → supplied_after passes so_far pieces time ≡ Ok v → v ≡ so_far +ℚ supplied pieces time
  supplied_is so_far [] v r e = with_nothing v so_far (sym (same_Ok so_far v e))
  supplied_is so_far (piece ∷ later) v r e = step (lt_ℚ piece.start time) refl (lt_ℚ_cases piece.start time) e (λ next k. supplied_is next later v (λ i p q h k. r (suc i) p q h k) k)
    where
      step : (b : Bool) → lt_ℚ piece.start time ≡ b → ((lt_ℚ piece.start time ≡ true) × (piece.start <ℚ time)) ⊎ ((lt_ℚ piece.start time ≡ false) × (time ≤ℚ piece.start))
          → cond b (plus_piece passes so_far piece (end_before later time) >>= λ sum. supplied_after passes sum later time) (supplied_after passes so_far later time) ≡ Ok v
          → ((next : ℚ) → supplied_after passes next later time ≡ Ok v → v ≡ next +ℚ supplied later time)
          → v ≡ so_far +ℚ (piece.rate *ℚ time_in piece.start later time +ℚ supplied later time)
      step true is cases e rest =
          let found = bind_ok (plus_piece passes so_far piece (end_before later time)) (λ sum. supplied_after passes sum later time) v e in
          let starts : piece.start <ℚ time = ⊎_elim (λ (w : (lt_ℚ piece.start time ≡ true) × (piece.start <ℚ time)). w.1)
          (λ (w : (lt_ℚ piece.start time ≡ false) × (time ≤ℚ piece.start)). cc) cases in
          joined v found.0 so_far piece.rate (end_before later time) piece.start (supplied later time) (rest found.0 found.2)
          (with_piece_is passes so_far piece (end_before later time) found.0 found.1)
          ∙ ap (λ (t : ℚ). so_far +ℚ (piece.rate *ℚ t +ℚ supplied later time)) (sym (time_when piece.start later time (first_rises piece later r) starts))
      step false is cases e rest =
          let starts : time ≤ℚ piece.start = ⊎_elim (λ (w : (lt_ℚ piece.start time ≡ true) × (piece.start <ℚ time)). cc)
          (λ (w : (lt_ℚ piece.start time ≡ false) × (time ≤ℚ piece.start)). w.1) cases in
          nothing_more v so_far piece.rate (supplied later time) (rest so_far e)
          ∙ ap (λ (t : ℚ). so_far +ℚ (piece.rate *ℚ t +ℚ supplied later time)) (sym (time_unless piece.start later time starts))

  pub value_supplied : (r : Checked ℚ) (pieces : List Piece) → ArePieces pieces → r ≡ supplied_after passes 0ℚ pieces time → IfOk r (λ v. v ≡ supplied pieces time)
  value_supplied (Ok v) pieces h e = without_zero v (supplied pieces time) (supplied_is 0ℚ pieces v h.rise (sym e))
  value_supplied (Err p) pieces h e = tt
