-- The supply grows at its rate while no piece starts.
use Rattle.std.proofs.Common.{◌≡◌, suc, List, [], ◌∷◌, ◌⊎◌, inl, inr, ⊎_elim, Bool, true, false, if◌then◌else◌, sym, ap, refl, ◌∙◌}
use Rattle.nf_model_laws.proofs.Common.{ℚ, ◌+ℚ◌, ◌-ℚ◌, ◌*ℚ◌, 0ℚ, ◌≤ℚ◌, ◌<ℚ◌, le_ℚ, min_ℚ, max_ℚ, reading_of, ≤ℚ_of_lt, ≤ℚ_antisymm, lt_or_le_ℚ, not_both_ℚ}
use Rattle.nf_model_laws.proofs.Common.{less_nn, le_ℚ_cases, max0_none, max0_of, le, lt, eq, le_times, eq_times, linear_le, linear_eq, linear_false, NeverFalls}
use Rattle.nf_model_laws.proofs.Common.{Piece, ArePieces, time_in, supplied, rate_from, ≤ℚ_refl, ≤ℚ_trans, gap_np, term_and_zero, less_le}
use Rattle.nf_model_laws.specs.SupplyLaws.{NoStartBetween}
use Rattle.nf_rational_laws.proofs.Extremes.{min_left, max_left, min_is_left, min_is_right, max_keeps, min_right, max_right, min_keeps}

-- each piece starts later than the one before
abbrev pub StartsRise : List Piece → Type 0
StartsRise (p ∷ q ∷ rest) = (p.start <ℚ q.start) × StartsRise (q ∷ rest)
StartsRise rest = Unit {0}

ArePieces-rest : (p : Piece) (rest : List Piece) → ArePieces (p ∷ rest) → ArePieces rest
ArePieces-rest p rest a =
    record {
      starts = λ i piece e. a.starts (suc i) piece e;
      rise = λ i piece next e f. a.rise (suc i) piece next e f;
      rates =
          λ i piece e. a.rates (suc i) piece e;
    }

pub StartsRise-pieces : (pieces : List Piece) → ArePieces pieces → StartsRise pieces
StartsRise-pieces [] a = tt
StartsRise-pieces (p ∷ []) a = tt
StartsRise-pieces (p ∷ q ∷ rest) a = (a.rise 0 p q refl refl, StartsRise-pieces (q ∷ rest) (ArePieces-rest p (q ∷ rest) a))

-- the next piece starts at this time or later
abbrev pub NextFrom : List Piece → ℚ → Type 0
NextFrom [] time = Unit {0}
NextFrom (q ∷ rest) time = time ≤ℚ q.start

time_in-before : (start : ℚ) (rest : List Piece) (time : ℚ) → NextFrom rest time → time_in start rest time ≡ max_ℚ 0ℚ (time -ℚ start)
time_in-before start [] time n = refl
time_in-before start (q ∷ rest) time n = ap (λ (t : ℚ). max_ℚ 0ℚ (t -ℚ start)) (min_is_left time q.start n)

-- before the first piece nothing is supplied
next_after : (p : Piece) (rest : List Piece) (time : ℚ) → StartsRise (p ∷ rest) → time ≤ℚ p.start → NextFrom rest time
next_after p [] time s h = tt
next_after p (q ∷ rest) time s h = ≤ℚ_trans _ _ _ h (≤ℚ_of_lt _ _ s.0)

pub StartsRise-rest : (p : Piece) (rest : List Piece) → StartsRise (p ∷ rest) → StartsRise rest
StartsRise-rest p [] s = tt
StartsRise-rest p (q ∷ rest) s = s.1

pub supplied-none : (pieces : List Piece) (time : ℚ) → StartsRise pieces → NextFrom pieces time → supplied pieces time ≡ 0ℚ
supplied-none [] time s n = refl
supplied-none (p ∷ rest) time s n = term_and_zero p.rate _ _
    (time_in-before p.start rest time (next_after p rest time s n) ∙ max0_none _ (gap_np time p.start n))
    (supplied-none rest time (StartsRise-rest p rest s) (next_after p rest time s n))

rate_from-before : (before : ℚ) (pieces : List Piece) (time later : ℚ) → time <ℚ later → NextFrom pieces later → rate_from before pieces time ≡ before
rate_from-before before [] time later h n = refl
rate_from-before before (p ∷ rest) time later h n = ⊎_elim
    (λ (w : (le_ℚ p.start time ≡ true) × (p.start ≤ℚ time)). absurd (linear_false (p.start ∷ time ∷ later ∷ []) (le w.1 ∷ le n ∷ lt h ∷ []) (search reading_of) tt))
    (λ (w : (le_ℚ p.start time ≡ false) × (time <ℚ p.start)). ap (λ (b : Bool). if b then rate_from p.rate rest time else before) w.0)
    (le_ℚ_cases p.start time)

rate_from-after : (before : ℚ) (p : Piece) (rest : List Piece) (time : ℚ) → p.start ≤ℚ time → rate_from before (p ∷ rest) time ≡ rate_from p.rate rest time
rate_from-after before p rest time h = ⊎_elim
    (λ (w : (le_ℚ p.start time ≡ true) × (p.start ≤ℚ time)). ap (λ (b : Bool). if b then rate_from p.rate rest time else before) w.0)
    (λ (w : (le_ℚ p.start time ≡ false) × (time <ℚ p.start)). absurd (not_both_ℚ _ _ w.1 h))
    (le_ℚ_cases p.start time)

-- no piece starts between
abbrev pub NoneBetween : List Piece → ℚ → ℚ → Type 0
NoneBetween [] time later = Unit {0}
NoneBetween (p ∷ rest) time later = ((p.start ≤ℚ time) ⊎ (later ≤ℚ p.start)) × NoneBetween rest time later

last_piece : (r s t u a b y z n m : ℚ) → a ≡ t -ℚ s → b ≡ u -ℚ s → y ≡ 0ℚ → z ≡ 0ℚ → n ≡ r → r *ℚ b +ℚ z ≡ (r *ℚ a +ℚ y) +ℚ n *ℚ (u -ℚ t)
last_piece r s t u a b y z n m e f g h i =
    linear_eq (r ∷ s ∷ t ∷ u ∷ a ∷ b ∷ y ∷ z ∷ n ∷ []) (eq_times r e ∷ eq_times r f ∷ eq g ∷ eq h ∷ eq_times (u -ℚ t) i ∷ []) (search reading_of) tt tt

full_piece : (r a b y z n m t : ℚ) → a ≡ b → z ≡ y +ℚ m *ℚ t → n ≡ m → r *ℚ b +ℚ z ≡ (r *ℚ a +ℚ y) +ℚ n *ℚ t
full_piece r a b y z n m t e f g = linear_eq (r ∷ a ∷ b ∷ y ∷ z ∷ n ∷ m ∷ t ∷ []) (eq_times r e ∷ eq f ∷ eq_times t g ∷ []) (search reading_of) tt tt

module _ (time later : ℚ) (h : time <ℚ later) where
  last : (before : ℚ) (p : Piece) (rest : List Piece) → StartsRise (p ∷ rest) → p.start ≤ℚ time → NextFrom rest later
      → supplied (p ∷ rest) later ≡ supplied (p ∷ rest) time +ℚ rate_from before (p ∷ rest) time *ℚ (later -ℚ time)
  last before p rest s k n =
      last_piece p.rate p.start time later _ _ _ _ _ 0ℚ
      (time_in-before p.start rest time (sooner rest n) ∙ max0_of _ (less_nn p.start time k))
      (time_in-before p.start rest later n ∙ max0_of _ (less_nn p.start later (≤ℚ_trans _ _ _ k (≤ℚ_of_lt _ _ h))))
      (supplied-none rest time (StartsRise-rest p rest s) (sooner rest n)) (supplied-none rest later (StartsRise-rest p rest s) n)
      (rate_from-after before p rest time k ∙ rate_from-before p.rate rest time later h n)
    where
      sooner : (rest : List Piece) → NextFrom rest later → NextFrom rest time
      sooner [] n = tt
      sooner (q ∷ rest) n = ≤ℚ_trans _ _ _ (≤ℚ_of_lt _ _ h) n

  step : (before : ℚ) (p : Piece) (rest : List Piece) → StartsRise (p ∷ rest) → p.start ≤ℚ time → NoneBetween rest time later
      → supplied (p ∷ rest) later ≡ supplied (p ∷ rest) time +ℚ rate_from before (p ∷ rest) time *ℚ (later -ℚ time)
  step before p [] s k n = last before p [] s k tt
  step before p (q ∷ rest) s k (inl l, n) =
      full_piece p.rate _ _ _ _ _ _ (later -ℚ time)
      (ap (λ (t : ℚ). max_ℚ 0ℚ (t -ℚ p.start)) (min_is_right time q.start l ∙ sym (min_is_right later q.start (≤ℚ_trans _ _ _ l (≤ℚ_of_lt _ _ h)))))
      (step p.rate q rest s.1 l n) (rate_from-after before p (q ∷ rest) time k)
  step before p (q ∷ rest) s k (inr l, n) = last before p (q ∷ rest) s k l

  none_yet : (x y r t : ℚ) → x ≡ 0ℚ → y ≡ 0ℚ → r ≡ 0ℚ → x ≡ y +ℚ r *ℚ t
  none_yet x y r t e f g = linear_eq (x ∷ y ∷ r ∷ t ∷ []) (eq e ∷ eq f ∷ eq_times t g ∷ []) (search reading_of) tt tt

  pub supplied-step : (pieces : List Piece) → StartsRise pieces → NoneBetween pieces time later
      → supplied pieces later ≡ supplied pieces time +ℚ rate_from 0ℚ pieces time *ℚ (later -ℚ time)
  supplied-step [] s n = none_yet _ _ _ (later -ℚ time) refl refl refl
  supplied-step (p ∷ rest) s (inl l, n) = step 0ℚ p rest s l n
  supplied-step (p ∷ rest) s (inr l, n) =
      none_yet _ _ _ (later -ℚ time) (supplied-none (p ∷ rest) later s l) (supplied-none (p ∷ rest) time s (≤ℚ_trans _ _ _ (≤ℚ_of_lt _ _ h) l))
      (rate_from-before 0ℚ (p ∷ rest) time later h l)

-- ---- the same, of pieces by their number
NoneBetween-from : (pieces : List Piece) (time later : ℚ) → NoStartBetween pieces time later → NoneBetween pieces time later
NoneBetween-from [] time later n = tt
NoneBetween-from (p ∷ rest) time later n = (
  ⊎_elim (λ (l : time <ℚ p.start). inr (n 0 p refl l)) (λ (l : p.start ≤ℚ time). inl l) (lt_or_le_ℚ time p.start),
  NoneBetween-from rest time later (λ i piece e. n (suc i) piece e),
)

no_time : (y r t u : ℚ) → t ≡ u → y ≡ y +ℚ r *ℚ (u -ℚ t)
no_time y r t u e = linear_eq (y ∷ r ∷ t ∷ u ∷ []) (eq_times r e ∷ []) (search reading_of) tt tt

pub supplied-goes_on : (pieces : List Piece) (time later : ℚ) → ArePieces pieces → time ≤ℚ later → NoStartBetween pieces time later
    → supplied pieces later ≡ supplied pieces time +ℚ rate_from 0ℚ pieces time *ℚ (later -ℚ time)
supplied-goes_on pieces time later a h n = ⊎_elim
    (λ (l : time <ℚ later). supplied-step time later l pieces (StartsRise-pieces pieces a) (NoneBetween-from pieces time later n))
    (λ (l : later ≤ℚ time). still (≤ℚ_antisymm _ _ h l))
    (lt_or_le_ℚ time later)
  where
    still : time ≡ later → supplied pieces later ≡ supplied pieces time +ℚ rate_from 0ℚ pieces time *ℚ (later -ℚ time)
    still e = ap (supplied pieces) (sym e) ∙ no_time (supplied pieces time) (rate_from 0ℚ pieces time) time later e

starts_after : (pieces : List Piece) → ArePieces pieces → NextFrom pieces 0ℚ
starts_after [] a = tt
starts_after (p ∷ rest) a = a.starts 0 p refl

pub supplied-begins : (pieces : List Piece) → ArePieces pieces → supplied pieces 0ℚ ≡ 0ℚ
supplied-begins pieces a = supplied-none pieces 0ℚ (StartsRise-pieces pieces a) (starts_after pieces a)

if_nn : (b : Bool) (x y : ℚ) → 0ℚ ≤ℚ x → 0ℚ ≤ℚ y → 0ℚ ≤ℚ (if b then x else y)
if_nn true x y h k = h
if_nn false x y h k = k

rate_from-nn : (before : ℚ) (pieces : List Piece) (time : ℚ) → 0ℚ ≤ℚ before → ArePieces pieces → 0ℚ ≤ℚ rate_from before pieces time
rate_from-nn before [] time h a = h
rate_from-nn before (p ∷ rest) time h a = if_nn (le_ℚ p.start time) _ before (rate_from-nn p.rate rest time (a.rates 0 p refl) (ArePieces-rest p rest a)) h

pub rate_from-not_negative : (pieces : List Piece) (time : ℚ) → ArePieces pieces → 0ℚ ≤ℚ rate_from 0ℚ pieces time
rate_from-not_negative pieces time a = rate_from-nn 0ℚ pieces time (≤ℚ_refl 0ℚ) a

-- ---- the supply never falls
max0_order : (x y : ℚ) → x ≤ℚ y → max_ℚ 0ℚ x ≤ℚ max_ℚ 0ℚ y
max0_order x y h = max_keeps (λ (z : ℚ). z ≤ℚ max_ℚ 0ℚ y) 0ℚ x (max_left 0ℚ y) (≤ℚ_trans _ _ _ h (max_right 0ℚ y))

min_order : (x y z : ℚ) → x ≤ℚ y → min_ℚ x z ≤ℚ min_ℚ y z
min_order x y z h = min_keeps (λ (u : ℚ). min_ℚ x z ≤ℚ u) y z (≤ℚ_trans _ _ _ (min_left x z) h) (min_right x z)

time_in-rises : (start : ℚ) (rest : List Piece) (s t : ℚ) → s ≤ℚ t → time_in start rest s ≤ℚ time_in start rest t
time_in-rises start [] s t h = max0_order _ _ (less_le s t start h)
time_in-rises start (q ∷ rest) s t h = max0_order _ _ (less_le _ _ start (min_order s t q.start h))

sum_order : (r x y u v : ℚ) → 0ℚ ≤ℚ r → x ≤ℚ y → u ≤ℚ v → r *ℚ x +ℚ u ≤ℚ r *ℚ y +ℚ v
sum_order r x y u v n h k = linear_le (r ∷ x ∷ y ∷ u ∷ v ∷ []) (le_times n h ∷ le k ∷ []) (search reading_of) tt

pub supplied-rises : (pieces : List Piece) → ArePieces pieces → NeverFalls (supplied pieces)
supplied-rises [] a s t h k = ≤ℚ_refl 0ℚ
supplied-rises (p ∷ rest) a s t h k = sum_order p.rate _ _ _ _ (a.rates 0 p refl) (time_in-rises p.start rest s t k) (supplied-rises rest (ArePieces-rest p rest a) s t h k)
