-- The queue of a constant inflow.
use Rattle.std.proofs.Common.{◌≡◌, ℕ, zero, suc, List, [], ◌∷◌, Some, refl, sym, ap, subst, ◌∙◌}
use Rattle.std.proofs.lemmas.Option.{same_Some}
use Rattle.nf_rational.specs.Rational.{ℚ}
use Rattle.nf_rational.specs.Operations.{0ℚ, ◌+ℚ◌, ◌-ℚ◌, ◌*ℚ◌}
use Rattle.nf_rational.specs.Order.{◌≤ℚ◌, ◌<ℚ◌, max_ℚ}
use Rattle.nf_rational_laws.proofs.Polynomial.{reading_of}
use Rattle.nf_rational_laws.proofs.Linear.{le, lt, eq, le_times, linear_le, linear_eq}
use Rattle.nf_rational_laws.proofs.Order.{≤ℚ_antisymm}
use Rattle.nf_rational_laws.proofs.Chains.{≤ℚ_refl}
use Rattle.nf_rational_laws.proofs.Tests.{max0_of}
use Rattle.nf_model.specs.Curve.{Within, value}
use Rattle.nf_model.specs.Network.{Piece, ArePieces, IsPiece, supplied}
use Rattle.nf_model.specs.Queue.{IsQueue}
use Rattle.nf_load_def.specs.Meanings.{IsCumulative}

-- ---- one piece, from time 0 on
abbrev pub constant : ℚ → List Piece
constant rate = record { start = 0ℚ; rate = rate } ∷ []

pub rate_there : (capacity rate : ℚ) → 0ℚ <ℚ capacity → capacity ≤ℚ rate → 0ℚ ≤ℚ rate
rate_there capacity rate h k = linear_le (capacity ∷ rate ∷ []) (lt h ∷ le k ∷ []) (search reading_of depth 12) tt

pub are_pieces : (rate : ℚ) → 0ℚ ≤ℚ rate → ArePieces (constant rate)
are_pieces rate h = record { starts = starts; rise = rise; rates = rates }
  where
    starts : (i : ℕ) (piece : Piece) → IsPiece (constant rate) i piece → 0ℚ ≤ℚ piece.start
    starts zero piece e = subst (λ (p : Piece). 0ℚ ≤ℚ p.start) (same_Some _ piece e) (≤ℚ_refl 0ℚ)
    starts (suc i) piece e = absurd (cc)

    rise : (i : ℕ) (piece next : Piece) → IsPiece (constant rate) i piece → IsPiece (constant rate) (suc i) next → piece.start <ℚ next.start
    rise zero piece next e f = absurd (cc)
    rise (suc i) piece next e f = absurd (cc)

    rates : (i : ℕ) (piece : Piece) → IsPiece (constant rate) i piece → 0ℚ ≤ℚ piece.rate
    rates zero piece e = subst (λ (p : Piece). 0ℚ ≤ℚ p.rate) (same_Some _ piece e) h
    rates (suc i) piece e = absurd (cc)

supplied_by : (rate time : ℚ) → 0ℚ ≤ℚ time → supplied (constant rate) time ≡ rate *ℚ time
supplied_by rate time h =
    let d = time -ℚ 0ℚ in
    let m : max_ℚ 0ℚ d ≡ d = max0_of d (linear_le (time ∷ []) (le h ∷ []) (search reading_of depth 12) tt) in
    ap (λ (x : ℚ). rate *ℚ x +ℚ 0ℚ) m ∙ linear_eq (rate ∷ time ∷ []) [] (search reading_of depth 12) tt tt

-- ---- the queue
module _ (capacity rate last : ℚ) (positive : 0ℚ ≤ℚ last) (above : capacity ≤ℚ rate) (inflow : List (ℚ × ℚ)) (c : IsCumulative (constant rate) last inflow) where
  amount : (time : ℚ) → Within 0ℚ last time → value inflow time ≡ rate *ℚ time
  amount time w = c.values time w ∙ supplied_by rate time w.0

  surplus : (since : ℚ) → Within 0ℚ last since
      → value inflow last -ℚ value inflow since -ℚ capacity *ℚ (last -ℚ since) ≡ (rate -ℚ capacity) *ℚ (last -ℚ since)
  surplus since w =
      let f = value inflow last in
      let g = value inflow since in
      linear_eq (f ∷ g ∷ capacity ∷ rate ∷ last ∷ since ∷ []) (eq (amount last (positive, ≤ℚ_refl last)) ∷ eq (amount since w) ∷ []) (search reading_of depth 20) tt tt

  pub queue_is : (queue : ℚ) → IsQueue (Some capacity) (value inflow) last queue → queue ≡ (rate -ℚ capacity) *ℚ last
  queue_is queue q =
      let g = q.bounded capacity refl in
      let all : (rate -ℚ capacity) *ℚ (last -ℚ 0ℚ) ≡ (rate -ℚ capacity) *ℚ last = linear_eq (rate ∷ capacity ∷ last ∷ []) [] (search reading_of depth 12) tt tt in
      ≤ℚ_antisymm queue ((rate -ℚ capacity) *ℚ last)
      (subst (λ (y : ℚ). y ≤ℚ (rate -ℚ capacity) *ℚ last) (sym (surplus g.taken.0 g.taken.1) ∙ g.taken.2) (at_most g.taken.0 g.taken.1.0))
      (subst (λ (y : ℚ). y ≤ℚ queue) (surplus 0ℚ (≤ℚ_refl 0ℚ, positive) ∙ all) (g.bound 0ℚ (≤ℚ_refl 0ℚ, positive)))
    where
      grows : 0ℚ ≤ℚ rate -ℚ capacity
      grows = linear_le (rate ∷ capacity ∷ []) (le above ∷ []) (search reading_of depth 12) tt

      at_most : (since : ℚ) → 0ℚ ≤ℚ since → ((rate -ℚ capacity) *ℚ (last -ℚ since)) ≤ℚ ((rate -ℚ capacity) *ℚ last)
      at_most since h = linear_le (rate ∷ capacity ∷ last ∷ since ∷ []) (le_times grows h ∷ []) (search reading_of depth 20) tt
