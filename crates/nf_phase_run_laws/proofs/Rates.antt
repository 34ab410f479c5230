-- The rate of the supply is constant while no piece starts.
use Rattle.std.proofs.Common.{◌≡◌, ℕ, suc, List, [], ◌∷◌, ⊎_elim, Bool, true, false, sym, ap, refl, ◌∙◌, Some, slice_get, if◌then◌else◌}
use Rattle.nf_phase_run_laws.proofs.Common.{ℚ, 0ℚ, ◌+ℚ◌, ◌≤ℚ◌, ◌<ℚ◌, le_ℚ, lt_or_le_ℚ, le_ℚ_cases, test_of_le, test_of_lt, ≤ℚ_trans, reading_of, le, lt}
use Rattle.nf_phase_run_laws.proofs.Common.{linear_false, not_before_by, Piece, Network, rate_from, rate_at, Lasts}

rates_stay : (before time later : ℚ) (pieces : List Piece) → time ≤ℚ later → ((i : ℕ) (piece : Piece) → slice_get pieces i ≡ Some piece → time <ℚ piece.start → later <ℚ piece.start)
    → rate_from before pieces later ≡ rate_from before pieces time
rates_stay before time later [] h none = refl
rates_stay before time later (piece ∷ pieces) h none = ⊎_elim
    (λ (w : (le_ℚ piece.start time ≡ true) × (piece.start ≤ℚ time)).
    ap (λ (b : Bool). if b then rate_from piece.rate pieces later else before) (test_of_le piece.start later (≤ℚ_trans _ _ _ w.1 h))
    ∙ rates_stay piece.rate time later pieces h (λ i p at k. none (suc i) p at k)
    ∙ sym (ap (λ (b : Bool). if b then rate_from piece.rate pieces time else before) w.0))
    (λ (w : (le_ℚ piece.start time ≡ false) × (time <ℚ piece.start)).
    ap (λ (b : Bool). if b then rate_from piece.rate pieces later else before) (test_of_lt piece.start later (none 0 piece refl w.1))
    ∙ sym (ap (λ (b : Bool). if b then rate_from piece.rate pieces time else before) w.0))
    (le_ℚ_cases piece.start time)

-- within a phase
pub rate-within : (net : Network) (slacks slopes : List ℚ) (time whole done : ℚ) → Lasts net slacks slopes time whole → 0ℚ ≤ℚ done → done <ℚ whole
    → rate_at net (time +ℚ done) ≡ rate_at net time
rate-within net slacks slopes time whole done lasts some short =
    rates_stay 0ℚ time (time +ℚ done) net.pieces (not_before_by time done some) (λ i piece at k. ⊎_elim
    (λ (l : time +ℚ done <ℚ piece.start). l)
    (λ (l : piece.start ≤ℚ time +ℚ done). absurd (too_soon time done whole piece.start short (lasts.supply i piece at k) l))
    (lt_or_le_ℚ (time +ℚ done) piece.start))
  where
    too_soon : (t d w x : ℚ) → d <ℚ w → t +ℚ w ≤ℚ x → x ≤ℚ t +ℚ d → ⊥
    too_soon t d w x h k l = linear_false (t ∷ d ∷ w ∷ x ∷ []) (lt h ∷ le k ∷ le l ∷ []) (search reading_of) tt
