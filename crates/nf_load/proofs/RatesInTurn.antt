-- The rates between the points of a supply, piece by piece.
use Rattle.std.proofs.Common.{◌≡◌, ◌+◌, ⊎_elim, ◌⊎◌, inl, inr, ℕ, zero, suc, drop, Bool, true, false, List, [], ◌∷◌, ◌++◌, length, append-nil, refl, sym}
use Rattle.std.proofs.Common.{ap, subst, ◌∙◌, arith, Ok, Some, slice_get}
use Rattle.nf_load.proofs.Common.{ℚ, 0ℚ, ◌<ℚ◌, lt_ℚ, is_same, ≤ℚ_of_lt, ≤ℚ_of_same, not_both_ℚ, less_of_test, not_less_of_test, drop_entry, bound_of}
use Rattle.nf_load.proofs.Common.{passes_Q, is_wide, Point, Piece, ArePieces, checked_slope, is_same_cases, piece_end, point_after_0, point_if_after_0}
use Rattle.nf_load.proofs.Common.{with_piece, AreRates, IsRate, rate_after_0, rate_if_after_0}
use Rattle.nf_rational_laws.proofs.Chains.{≤_<_trans}
use Rattle.nf_rational_laws.proofs.Extremes.{min_keeps, min_is_left, min_is_right}
use Rattle.nf_load.proofs.KnownRates.{piece_slope, zero_slope}

-- ---- the rates between the points up to a last one
abbrev pub RatesTo : List Point → List ℚ → Point → Type 0
RatesTo (p ∷ []) [] last = p ≡ last
RatesTo (p ∷ q ∷ rest) (rate ∷ rates) last = (checked_slope passes_Q p q ≡ Ok rate) × RatesTo (q ∷ rest) rates last
RatesTo points rates last = ⊥

pub are_rates : (points : List Point) (rates : List ℚ) (last : Point) → RatesTo points rates last → AreRates points rates
are_rates [] [] last h = absurd h
are_rates [] (rate ∷ rates) last h = absurd h
are_rates (p ∷ []) [] last h = tt
are_rates (p ∷ []) (rate ∷ rates) last h = absurd h
are_rates (p ∷ q ∷ rest) [] last h = tt
are_rates (p ∷ q ∷ rest) (rate ∷ rates) last h = (h.0, are_rates (q ∷ rest) rates last h.1)

pub as_many : (points : List Point) (rates : List ℚ) (last : Point) → RatesTo points rates last → length points ≡ length rates + 1
as_many [] [] last h = absurd h
as_many [] (rate ∷ rates) last h = absurd h
as_many (p ∷ []) [] last h = refl
as_many (p ∷ []) (rate ∷ rates) last h = absurd h
as_many (p ∷ q ∷ rest) [] last h = absurd h
as_many (p ∷ q ∷ rest) (rate ∷ rates) last h = let e : length (q ∷ rest) ≡ length rates + 1 = as_many (q ∷ rest) rates last h.1 in omega arith

one_more : (points : List Point) (rates : List ℚ) (p q : Point) (rate : ℚ) → RatesTo points rates p → checked_slope passes_Q p q ≡ Ok rate
    → RatesTo (points ++ q ∷ []) (rates ++ rate ∷ []) q
one_more [] [] p q rate h s = absurd h
one_more [] (k ∷ rates) p q rate h s = absurd h
one_more (x ∷ []) [] p q rate h s = (subst (λ (z : Point). checked_slope passes_Q z q ≡ Ok rate) (sym h) s, refl)
one_more (x ∷ []) (k ∷ rates) p q rate h s = absurd h
one_more (x ∷ y ∷ rest) [] p q rate h s = absurd h
one_more (x ∷ y ∷ rest) (k ∷ rates) p q rate h s = (h.0, one_more (y ∷ rest) rates p q rate h.1 s)

-- ---- the rate from the last point on
-- Nothing is supplied yet, or the rate is the slope up to the end of the latest piece.
abbrev pub Goes : Point → ℚ → ℚ → ℚ → Type 0
Goes p so_far rate end = ((p ≡ (0ℚ, 0ℚ)) × ((so_far ≡ 0ℚ) × (rate ≡ 0ℚ))) ⊎ ((0ℚ <ℚ end) × (checked_slope passes_Q p (end, so_far) ≡ Ok rate))

pub record RatesSoFar (points : List Point) (rates : List ℚ) (so_far rate end : ℚ) : Type 0 where
  pub last : Point
  pub known : RatesTo points rates last
  pub goes : Goes last so_far rate end

pub first_rates : (points : List Point) (rates : List ℚ) (so_far rate end a b : ℚ) → points ≡ (a, b) ∷ [] → rates ≡ [] → a ≡ 0ℚ → b ≡ 0ℚ → so_far ≡ 0ℚ
    → rate ≡ 0ℚ → RatesSoFar points rates so_far rate end
first_rates points rates so_far rate end a b is none a_0 b_0 s r = record {
  last = (0ℚ, 0ℚ);
  known = subst (λ (l : List Point). RatesTo l rates (0ℚ, 0ℚ)) (sym is) (subst (λ (l : List ℚ). RatesTo ((a, b) ∷ []) l (0ℚ, 0ℚ)) (sym none) (λ i. (a_0 i, b_0 i)));
  goes = inl (refl, (s, r));
}

-- ---- a point at the end of the latest piece
module _ (points new : List Point) (rates more : List ℚ) (so_far rate time : ℚ) (narrow : is_wide (bound_of 127) time ≡ false)
    (points_are : new ≡ points ++ point_if_after_0 time so_far) (rates_are : more ≡ rates ++ rate_if_after_0 time rate) where
  as_test : (b : Bool) → is_same time 0ℚ ≡ b → (P : List Point → List ℚ → Type 0) → P (points ++ point_after_0 b time so_far) (rates ++ rate_after_0 b rate) → P new more
  as_test b e P h =
      subst (λ (l : List Point). P l more) (sym (points_are ∙ ap (λ (t : Bool). points ++ point_after_0 t time so_far) e))
      (subst (λ (l : List ℚ). P (points ++ point_after_0 b time so_far) l) (sym (rates_are ∙ ap (λ (t : Bool). rates ++ rate_after_0 t rate) e)) h)

  at_0 : (p : Point) → RatesTo points rates p → Goes p so_far rate time → is_same time 0ℚ ≡ true → time ≡ 0ℚ → RatesTo new more (time, so_far)
  at_0 p known (inl g) t e = as_test true t (λ l k. RatesTo l k (time, so_far))
      (subst (λ (l : List Point). RatesTo l (rates ++ []) (time, so_far)) (sym (append-nil points)) (subst (λ (l : List ℚ). RatesTo points l (time, so_far)) (sym (append-nil rates))
      (subst (λ (q : Point). RatesTo points rates q) (g.0 ∙ (λ i. (sym e i, sym g.1.0 i))) known)))
  at_0 p known (inr g) t e = absurd (not_both_ℚ 0ℚ time g.0 (≤ℚ_of_same time 0ℚ e))

  after_0 : (p : Point) → RatesTo points rates p → Goes p so_far rate time → is_same time 0ℚ ≡ false → (time ≡ 0ℚ → ⊥) → RatesTo new more (time, so_far)
  after_0 p known (inl g) t f = as_test false t (λ l k. RatesTo l k (time, so_far)) (one_more points rates p (time, so_far) rate known
      (subst (λ (q : Point). checked_slope passes_Q q (time, so_far) ≡ Ok rate) (sym g.0) (zero_slope time so_far rate narrow g.1.0 g.1.1)))
  after_0 p known (inr g) t f = as_test false t (λ l k. RatesTo l k (time, so_far)) (one_more points rates p (time, so_far) rate known g.1)

  pub pushed_rates : RatesSoFar points rates so_far rate time → RatesTo new more (time, so_far)
  pushed_rates h = ⊎_elim
      (λ (w : (is_same time 0ℚ ≡ true) × (time ≡ 0ℚ)). at_0 h.last h.known h.goes w.0 w.1)
      (λ (w : (is_same time 0ℚ ≡ false) × (¬ (time ≡ 0ℚ))). after_0 h.last h.known h.goes w.0 w.1)
      (is_same_cases time 0ℚ)

-- ---- the end of a piece
start_first : (piece : Piece) (later : List Piece) (last : ℚ) → lt_ℚ piece.start last ≡ true → piece_end (piece ∷ later) last ≡ piece.start
start_first piece later last t = min_is_left piece.start last (≤ℚ_of_lt piece.start last (less_of_test piece.start last t))

last_first : (piece : Piece) (later : List Piece) (last : ℚ) → lt_ℚ piece.start last ≡ false → piece_end (piece ∷ later) last ≡ last
last_first piece later last t = min_is_right piece.start last (not_less_of_test piece.start last t)

end_later : (start : ℚ) (later : List Piece) (last : ℚ) → start <ℚ last → ((next : Piece) → slice_get later 0 ≡ Some next → start <ℚ next.start) → start <ℚ piece_end later last
end_later start [] last h k = h
end_later start (next ∷ later) last h k = min_keeps (λ (x : ℚ). start <ℚ x) next.start last (k next refl) h

get_dropped : (pieces : List Piece) (i : ℕ) (p : Piece) → slice_get (drop (suc i) pieces) 0 ≡ Some p → slice_get pieces (suc i) ≡ Some p
get_dropped [] zero p e = e
get_dropped [] (suc i) p e = e
get_dropped (x ∷ []) zero p e = e
get_dropped (x ∷ y ∷ rest) zero p e = e
get_dropped (x ∷ rest) (suc i) p e = get_dropped rest i p e

-- the rates after a piece that starts before the last time
pub next_rates : (pieces : List Piece) (i next : ℕ) (piece : Piece) (last so_far sum : ℚ) (new : List Point) (more : List ℚ) → ArePieces pieces
    → slice_get pieces i ≡ Some piece → next ≡ suc i
    → lt_ℚ piece.start last ≡ true → is_wide (bound_of 127) piece.rate ≡ false → with_piece passes_Q so_far piece (piece_end (drop next pieces) last) ≡ Ok sum
    → RatesTo new more (piece.start, so_far) → RatesSoFar new more sum piece.rate (piece_end (drop next pieces) last)
next_rates pieces i next piece last so_far sum new more are at n t narrow e known =
    let later : piece.start <ℚ piece_end (drop next pieces) last = subst (λ (k : ℕ). piece.start <ℚ piece_end (drop k pieces) last) (sym n)
    (end_later piece.start (drop (suc i) pieces) last (less_of_test piece.start last t) (λ q f. are.rise i piece q at (get_dropped pieces i q f))) in
    record {
      last = (piece.start, so_far);
      known = known;
      goes = inr (
        ≤_<_trans 0ℚ piece.start (piece_end (drop next pieces) last) (are.starts i piece at) later,
        piece_slope so_far piece (piece_end (drop next pieces) last) sum narrow later e,
      );
    }

-- ---- the rate over a piece of the inflow
pub rate_there : (points : List Point) (rates : List ℚ) (i : ℕ) (p q : Point) → AreRates points rates → slice_get points i ≡ Some p
    → slice_get points (suc i) ≡ Some q → IsRate (slice_get rates i) p q
rate_there points [] zero p q h e f = tt
rate_there points [] (suc i) p q h e f = tt
rate_there [] (rate ∷ rates) i p q h e f = absurd h
rate_there (x ∷ []) (rate ∷ rates) i p q h e f = absurd h
rate_there (x ∷ y ∷ rest) (rate ∷ rates) zero p q h e f = let one : x ≡ p = cc in let two : y ≡ q = cc in (λ j. checked_slope passes_Q (sym one j) (sym two j)) ∙ h.0
rate_there (x ∷ y ∷ rest) (rate ∷ rates) (suc i) p q h e f = rate_there (y ∷ rest) rates i p q h.1 e f

-- ---- the end of the latest piece, by the piece after it
module _ (points : List Point) (rates : List ℚ) (so_far rate last : ℚ) (pieces : List Piece) (i : ℕ) (h : RatesSoFar points rates so_far rate (piece_end (drop i pieces) last)) where
  up_to : (later : List Piece) (end : ℚ) → drop i pieces ≡ later → piece_end later last ≡ end → RatesSoFar points rates so_far rate end
  up_to later end e f = subst (λ (x : ℚ). RatesSoFar points rates so_far rate x) (ap (λ (l : List Piece). piece_end l last) e ∙ f) h

  pub up_to_start : (piece : Piece) → slice_get pieces i ≡ Some piece → lt_ℚ piece.start last ≡ true → RatesSoFar points rates so_far rate piece.start
  up_to_start piece at t = up_to (piece ∷ drop (suc i) pieces) piece.start (drop_entry pieces i piece at) (start_first piece (drop (suc i) pieces) last t)

  pub up_to_late : (piece : Piece) → slice_get pieces i ≡ Some piece → lt_ℚ piece.start last ≡ false → RatesSoFar points rates so_far rate last
  up_to_late piece at t = up_to (piece ∷ drop (suc i) pieces) last (drop_entry pieces i piece at) (last_first piece (drop (suc i) pieces) last t)

  pub up_to_last : drop i pieces ≡ [] → RatesSoFar points rates so_far rate last
  up_to_last e = up_to [] last e refl
