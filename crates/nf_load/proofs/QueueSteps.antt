-- The queue, piece by piece of the inflow.
use Rattle.std.proofs.Common.{◌≡◌, ◌≢◌, ⊎_elim, ℕ, suc, true, List, [], ◌∷◌, ◌++◌, drop, refl, sym, ap, subst, ◌∙◌, Some, None, Option, slice_get, Ok, Err}
use Rattle.nf_load.proofs.Common.{true≢false, none-some, same_Some, ℚ, 0ℚ, ◌<ℚ◌, lt_ℚ, reading_of, lt, eq, linear_false, lt_ℚ_cases, drop_entry, Passing}
use Rattle.nf_load.proofs.Common.{Part, PassedAt, Checked, checked, at_part, ◌>>=◌, Difference, with_front, Point, TimesRise, IsCurve, Waits, last_of}
use Rattle.nf_load.proofs.Common.{after_piece, waits_after, all_waits, checked-is, was_ok, after_err, front_err, front_more, Over, before_end, over_list}

-- a rate below the capacity differs from it
pub change_apart : (passes : Passing) (rate capacity change : ℚ) → lt_ℚ rate capacity ≡ true → checked passes Difference rate capacity ≡ Ok change → change ≢ 0ℚ
change_apart passes rate capacity change t e is_0 = ⊎_elim
    (λ (w : (lt_ℚ rate capacity ≡ true) × (rate <ℚ capacity)).
    linear_false (rate ∷ capacity ∷ change ∷ []) (lt w.1 ∷ eq (checked-is passes Difference rate capacity change e) ∷ eq is_0 ∷ []) (search reading_of depth 12) tt)
    (λ w. absurd (true≢false (sym t ∙ w.0)))
    (lt_ℚ_cases rate capacity)

-- ---- what waits so far, and over the pieces from here on
module _ (passes : Passing) (capacity : Option ℚ) where
  abbrev first_of : ℚ → Point → Waits
  first_of queue p = record { time = p.0; amount = p.1; queue = queue }

  at_first : (xs : List Point) (p : Point) → slice_get xs 0 ≡ Some p → with_front (first_of 0ℚ p ∷ [])
      (waits_after passes capacity (first_of 0ℚ p) (drop 1 xs)) ≡ all_waits passes capacity xs
  at_first [] p e = absurd (none-some p e)
  at_first (x ∷ xs) p e =
      let same : p ≡ x = sym (same_Some x p e) in
      ap (λ (q : Point). with_front (first_of 0ℚ q ∷ []) (waits_after passes capacity (first_of 0ℚ q) xs)) same
      ∙ go (waits_after passes capacity (first_of 0ℚ x) xs)
    where
      go : (r : Checked (List Waits)) → with_front (first_of 0ℚ x ∷ []) r ≡ (r >>= λ later. Ok (first_of 0ℚ x ∷ later))
      go (Ok ys) = refl
      go (Err q) = refl

  pub begins : (xs : List Point) (p : Point) (queue : ℚ) (front : List Waits) → slice_get xs 0 ≡ Some p → queue ≡ 0ℚ → front ≡ first_of queue p ∷ []
      → with_front front (waits_after passes capacity (first_of queue p) (drop 1 xs)) ≡ all_waits passes capacity xs
  begins xs p queue front e none f =
      ap (λ (l : List Waits). with_front l (waits_after passes capacity (first_of queue p) (drop 1 xs))) f
      ∙ ap (λ (q : ℚ). with_front (first_of q p ∷ []) (waits_after passes capacity (first_of q p) (drop 1 xs))) none
      ∙ at_first xs p e

  over_last : (before end : Waits) (empty : Option Waits) → last_of passes before (before_end empty end) ≡ end
  over_last before end None = refl
  over_last before end (Some w) = refl

  module _ (part : Part) (front : List Waits) (before : Waits) (points : List Point) (i next : ℕ) (p : Point) (all : Checked (List Waits))
      (at : slice_get points i ≡ Some p) (n : next ≡ suc i) (so : with_front front (waits_after passes capacity before (drop i points)) ≡ all) where
    abbrev by_piece : Checked (List Waits) → Checked (List Waits)
    by_piece r = r >>= λ here. waits_after passes capacity (last_of passes before here) (drop next points) >>= λ later. Ok (here ++ later)

    from_here : with_front front (by_piece (after_piece passes capacity before p)) ≡ all
    from_here = sym (ap (λ (l : List Point). with_front front (waits_after passes capacity before l)) (drop_entry points i p at ∙ ap (λ (k : ℕ). p ∷ drop k points) (sym n))) ∙ so

    pub goes_on : (over : Over) → at_part part (after_piece passes capacity before p) ≡ Ok (over_list over)
        → with_front (front ++ over_list over) (waits_after passes capacity over.end (drop next points)) ≡ all
    goes_on over e =
        sym (front_more front (over_list over) (waits_after passes capacity over.end (drop next points)))
        ∙ ap (λ (w : Waits). with_front front (waits_after passes capacity w (drop next points) >>= λ later. Ok (over_list over ++ later))) (sym (over_last before over.end over.empty))
        ∙ ap (λ (r : Checked (List Waits)). with_front front (by_piece r)) (sym (was_ok part (after_piece passes capacity before p) (over_list over) e))
        ∙ from_here

    pub stops : (q : PassedAt ℚ) → at_part part (after_piece passes capacity before p) ≡ Err q → at_part part all ≡ Err q
    stops q e = ap (at_part part) (sym from_here) ∙ front_err part front _ q (after_err part (after_piece passes capacity before p) _ q e)

-- ---- the moment before the point of this number is the point before it
pub record IsBefore (points : List Point) (last : Waits) (i : ℕ) : Type 0 where
  pub number : ℕ
  pub next : i ≡ suc number
  pub is : slice_get points number ≡ Some (last.time, last.amount)

-- ---- the times of what waits rise
abbrev pub Later : Waits → List Point → Type 0
Later before points = TimesRise ((before.time, before.amount) ∷ points)

pub later_first : (xs : List Point) (p : Point) (queue : ℚ) → IsCurve xs → slice_get xs 0 ≡ Some p → Later (record { time = p.0; amount = p.1; queue = queue }) (drop 1 xs)
later_first [] p queue curve e = absurd curve
later_first (x ∷ xs) p queue curve e = subst (λ (q : Point). TimesRise ((q.0, q.1) ∷ xs)) (same_Some x p e) curve.1

pub later_here : (before : Waits) (xs : List Point) (i : ℕ) (p : Point) → slice_get xs i ≡ Some p → Later before (drop i xs) → before.time <ℚ p.0
later_here before xs i p e h = let k : Later before (p ∷ drop (suc i) xs) = subst (λ (l : List Point). Later before l) (drop_entry xs i p e) h in k.0

pub later_next : (before end : Waits) (xs : List Point) (i next : ℕ) (p : Point) → slice_get xs i ≡ Some p → next ≡ suc i → end.time ≡ p.0
    → Later before (drop i xs) → Later end (drop next xs)
later_next before end xs i next p e n t h =
    let k : Later before (p ∷ drop (suc i) xs) = subst (λ (l : List Point). Later before l) (drop_entry xs i p e) h in
    let m : Later end (drop (suc i) xs) = moved p (drop (suc i) xs) end.time end.amount t k.1 in
    subst (λ (j : ℕ). Later end (drop j xs)) (sym n) m
  where
    moved : (p : Point) (rest : List Point) (time amount : ℚ) → time ≡ p.0 → TimesRise (p ∷ rest) → TimesRise ((time, amount) ∷ rest)
    moved p [] time amount t h = tt
    moved p (q ∷ rest) time amount t h = (subst (λ (x : ℚ). x <ℚ q.0) (sym t) h.0, h.1)
