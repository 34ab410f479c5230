-- Places on curves: what lies before and behind them.
use Rattle.std.proofs.Common.{◌≡◌, ℕ, zero, suc, ◌+◌, ◌-◌, ◌<◌, ◌≤◌, List, [], ◌∷◌, length, get_or, ⊎_elim, Bool, true, false, refl, sym, ap, subst, ◌∙◌}
use Rattle.std.proofs.Common.{arith, Option, Some, None, slice_get, IfSome, Result, Ok, if◌then◌else◌}
use Rattle.nf_curve.proofs.Common.{none-some, same_Some, slice_get-get_or, ℚ, 0ℚ, ◌≤ℚ◌, ◌<ℚ◌, lt_ℚ, ≤ℚ_of_lt, ≤ℚ_of_same, ≤ℚ_antisymm, not_both_ℚ}
use Rattle.nf_curve.proofs.Common.{lt_ℚ_cases, Passing, at_part, Part, PassedAt, Point, TimesRise, IsCurve, <_≤_trans, is_same, checked_line, value_from}
use Rattle.nf_curve.proofs.Common.{is_same_cases, rise_rest, count_until, value_between, ≤ℚ_refl, ≤ℚ_trans, ≤_<_trans}
use Rattle.nf_curve_def.specs.Values.{checked_value}

-- ---- the place, by the first point's test
pub place-behind : (time : ℚ) (p : Point) (rest : List Point) → time <ℚ p.0 → count_until time (p ∷ rest) ≡ zero
place-behind time p rest h = ⊎_elim
    (λ (w : (lt_ℚ time p.0 ≡ true) × (time <ℚ p.0)). ap (λ (b : Bool). if b then zero else suc (count_until time rest)) w.0)
    (λ (w : (lt_ℚ time p.0 ≡ false) × (p.0 ≤ℚ time)). absurd (not_both_ℚ time p.0 h w.1))
    (lt_ℚ_cases time p.0)

pub place-past : (time : ℚ) (p : Point) (rest : List Point) → p.0 ≤ℚ time → count_until time (p ∷ rest) ≡ suc (count_until time rest)
place-past time p rest h = ⊎_elim
    (λ (w : (lt_ℚ time p.0 ≡ true) × (time <ℚ p.0)). absurd (not_both_ℚ time p.0 w.1 h))
    (λ (w : (lt_ℚ time p.0 ≡ false) × (p.0 ≤ℚ time)). ap (λ (b : Bool). if b then zero else suc (count_until time rest)) w.0)
    (lt_ℚ_cases time p.0)

-- ---- points before the place, and behind it
pub place_within : (time : ℚ) (points : List Point) → count_until time points ≤ length points
place_within time [] = omega arith
place_within time (p ∷ rest) = ⊎_elim
    (λ (w : (lt_ℚ time p.0 ≡ true) × (time <ℚ p.0)). let e = place-behind time p rest w.1 in omega arith)
    (λ (w : (lt_ℚ time p.0 ≡ false) × (p.0 ≤ℚ time)). let e = place-past time p rest w.1 in let h = place_within time rest in omega arith)
    (lt_ℚ_cases time p.0)

-- a point before the place is at or before the time
pub before-place : (time : ℚ) (points : List Point) (i : ℕ) (p : Point) → slice_get points i ≡ Some p → i < count_until time points → p.0 ≤ℚ time
before-place time [] i p g h = absurd (none-some p g)
before-place time (x ∷ rest) i p g h = ⊎_elim
    (λ (w : (lt_ℚ time x.0 ≡ true) × (time <ℚ x.0)). let e = place-behind time x rest w.1 in absurd (omega arith))
    (λ (w : (lt_ℚ time x.0 ≡ false) × (x.0 ≤ℚ time)). at (λ i g k. before-place time rest i p g k) i g (let e = place-past time x rest w.1 in omega arith) w.1)
    (lt_ℚ_cases time x.0)
  where
    at : ((i : ℕ) → slice_get rest i ≡ Some p → i < count_until time rest → p.0 ≤ℚ time) → (i : ℕ) → slice_get (x ∷ rest) i ≡ Some p
        → i < suc (count_until time rest) → x.0 ≤ℚ time → p.0 ≤ℚ time
    at further zero g h k = subst (λ (q : Point). q.0 ≤ℚ time) (same_Some x p g) k
    at further (suc i) g h k = further i g (omega arith)

-- all points of a curve come at or after its first
pub first-least : (x : Point) (rest : List Point) (i : ℕ) (p : Point) → TimesRise (x ∷ rest) → slice_get (x ∷ rest) i ≡ Some p → x.0 ≤ℚ p.0
first-least x rest zero p r g = subst (λ (q : Point). x.0 ≤ℚ q.0) (same_Some x p g) (≤ℚ_refl x.0)
first-least x [] (suc i) p r g = absurd (none-some p g)
first-least x (y ∷ rest) (suc i) p r g = ≤ℚ_trans _ _ _ (≤ℚ_of_lt _ _ r.0) (first-least y rest i p r.1 g)

-- of two points the one with the greater number is later
pub rise-pairs : (points : List Point) (i j : ℕ) (p q : Point) → TimesRise points → slice_get points i ≡ Some p → slice_get points j ≡ Some q → i < j → p.0 <ℚ q.0
rise-pairs [] i j p q r e f h = absurd (none-some p e)
rise-pairs (x ∷ rest) i zero p q r e f h = absurd (omega arith)
rise-pairs (x ∷ []) i (suc j) p q r e f h = absurd (none-some q f)
rise-pairs (x ∷ y ∷ rest) zero (suc j) p q r e f h = subst (λ (z : Point). z.0 <ℚ q.0) (same_Some x p e) (<_≤_trans _ _ _ r.0 (first-least y rest j q r.1 f))
rise-pairs (x ∷ y ∷ rest) (suc i) (suc j) p q r e f h = rise-pairs (y ∷ rest) i j p q r.1 e f (omega arith)

-- a point from the place on is after the time
pub from-place : (time : ℚ) (points : List Point) (i : ℕ) (p : Point) → TimesRise points → slice_get points i ≡ Some p → count_until time points ≤ i → time <ℚ p.0
from-place time [] i p r g h = absurd (none-some p g)
from-place time (x ∷ rest) i p r g h = ⊎_elim
    (λ (w : (lt_ℚ time x.0 ≡ true) × (time <ℚ x.0)). <_≤_trans _ _ _ w.1 (first-least x rest i p r g))
    (λ (w : (lt_ℚ time x.0 ≡ false) × (x.0 ≤ℚ time)). at (λ i g k. from-place time rest i p (rise_rest x rest r) g k) i g (let e = place-past time x rest w.1 in omega arith))
    (lt_ℚ_cases time x.0)
  where
    at : ((i : ℕ) → slice_get rest i ≡ Some p → count_until time rest ≤ i → time <ℚ p.0) → (i : ℕ) → slice_get (x ∷ rest) i ≡ Some p → suc (count_until time rest) ≤ i → time <ℚ p.0
    at further zero g h = absurd (omega arith)
    at further (suc i) g h = further i g (omega arith)

-- later times have later places
pub place-rises : (time next : ℚ) (points : List Point) → time ≤ℚ next → count_until time points ≤ count_until next points
place-rises time next [] h = omega arith
place-rises time next (p ∷ rest) h = ⊎_elim
    (λ (w : (lt_ℚ time p.0 ≡ true) × (time <ℚ p.0)). let e = place-behind time p rest w.1 in omega arith)
    (λ (w : (lt_ℚ time p.0 ≡ false) × (p.0 ≤ℚ time)).
    let e = place-past time p rest w.1 in
    let f = place-past next p rest (≤ℚ_trans _ _ _ w.1 h) in
    let k = place-rises time next rest h in omega arith)
    (lt_ℚ_cases time p.0)

-- ---- moving to a place, by the test of the point there
pub not-yet : (time : ℚ) (points : List Point) (i : ℕ) (p : Point) → TimesRise points → slice_get points i ≡ Some p → lt_ℚ time p.0 ≡ false → i < count_until time points
not-yet time points i p r g t = let h : count_until time points ≤ i → ⊥ = λ h. not_both_ℚ time p.0 (from-place time points i p r g h) later in omega arith
  where
    later : p.0 ≤ℚ time
    later = ⊎_elim (λ (w : (lt_ℚ time p.0 ≡ true) × (time <ℚ p.0)). absurd (cc)) (λ (w : (lt_ℚ time p.0 ≡ false) × (p.0 ≤ℚ time)). w.1) (lt_ℚ_cases time p.0)

pub too-far : (time : ℚ) (points : List Point) (i : ℕ) (p : Point) → slice_get points i ≡ Some p → lt_ℚ time p.0 ≡ true → count_until time points ≤ i
too-far time points i p g t = let h : i < count_until time points → ⊥ = λ h. not_both_ℚ time p.0 earlier (before-place time points i p g h) in omega arith
  where
    earlier : time <ℚ p.0
    earlier = ⊎_elim (λ (w : (lt_ℚ time p.0 ≡ true) × (time <ℚ p.0)). w.1) (λ (w : (lt_ℚ time p.0 ≡ false) × (p.0 ≤ℚ time)). absurd (cc)) (lt_ℚ_cases time p.0)

-- ---- the place, if no point from the count on is at or before the time
pub place-stays : (time : ℚ) (points : List Point) (k : ℕ) → k ≤ count_until time points → ((p : Point) → slice_get points k ≡ Some p → time <ℚ p.0) → k ≡ count_until time points
place-stays time points k h after = let past : k < count_until time points → ⊥ = beyond in omega arith
  where
    beyond : k < count_until time points → ⊥
    beyond i =
        let w = place_within time points in
        let g = slice_get-get_or points k (0ℚ, 0ℚ) (omega arith) in
        not_both_ℚ time (get_or points k (0ℚ, 0ℚ)).0 (after (get_or points k (0ℚ, 0ℚ)) g) (before-place time points k (get_or points k (0ℚ, 0ℚ)) g i)

-- ---- the place, one further at the time of the next point
pub place-steps : (time : ℚ) (points : List Point) (k : ℕ) (p : Point) → TimesRise points → slice_get points k ≡ Some p → time ≡ p.0 → k + 1 ≡ count_until time points
place-steps time points k p r g e = place-stays time points (k + 1) (let past : count_until time points ≤ k → ⊥ = early in omega arith)
    (λ q i. subst (λ (t : ℚ). t <ℚ q.0) (sym e) (rise-pairs points k (k + 1) p q r g i (omega arith)))
  where
    early : count_until time points ≤ k → ⊥
    early h = not_both_ℚ time p.0 (from-place time points k p r g h) (≤ℚ_of_same p.0 time (sym e))

-- ---- the place, by the test of the next point
pub place-ended : (time : ℚ) (points : List Point) (k : ℕ) → k ≤ count_until time points → length points ≤ k → k ≡ count_until time points
place-ended time points k h past = let w = place_within time points in omega arith

pub place-there : (time : ℚ) (points : List Point) (k : ℕ) (p : Point) → TimesRise points → slice_get points k ≡ Some p → is_same p.0 time ≡ true → k + 1 ≡ count_until time points
place-there time points k p r g t = ⊎_elim
    (λ (w : (is_same p.0 time ≡ true) × (p.0 ≡ time)). place-steps time points k p r g (sym w.1))
    (λ (w : (is_same p.0 time ≡ false) × (¬ (p.0 ≡ time))). absurd (cc))
    (is_same_cases p.0 time)

pub place-apart : (time : ℚ) (points : List Point) (k : ℕ) (p : Point) → k ≤ count_until time points → IfSome (slice_get points k) (λ p. time ≤ℚ p.0)
    → slice_get points k ≡ Some p → is_same p.0 time ≡ false → k ≡ count_until time points
place-apart time points k p h next g t = place-stays time points k h (λ q i. subst (λ (p : Point). time <ℚ p.0) (same_Some _ _ (sym g ∙ i)) before)
  where
    after : time ≤ℚ p.0
    after = subst (λ (o : Option Point). IfSome o (λ p. time ≤ℚ p.0)) g next

    before : time <ℚ p.0
    before = ⊎_elim
        (λ (w : (lt_ℚ time p.0 ≡ true) × (time <ℚ p.0)). w.1)
        (λ (w : (lt_ℚ time p.0 ≡ false) × (p.0 ≤ℚ time)). ⊎_elim
        (λ (v : (is_same p.0 time ≡ true) × (p.0 ≡ time)). absurd (cc))
        (λ (v : (is_same p.0 time ≡ false) × (¬ (p.0 ≡ time))). absurd (v.1 (≤ℚ_antisymm p.0 time w.1 after)))
        (is_same_cases p.0 time))
        (lt_ℚ_cases time p.0)

-- ---- the value, by the two points at the place
value_from-between : (passes : Passing) (time : ℚ) (p : Point) (rest : List Point) → TimesRise (p ∷ rest) → p.0 ≤ℚ time
    → value_from passes p rest time ≡ value_between passes time (slice_get (p ∷ rest) (count_until time (p ∷ rest) - 1)) (slice_get (p ∷ rest) (count_until time (p ∷ rest)))
value_from-between passes time p [] r h = sym (ap (λ (k : ℕ). value_between passes time (slice_get (p ∷ []) (k - 1)) (slice_get (p ∷ []) k)) (place-past time p [] h))
value_from-between passes time p (q ∷ rest) r h = ⊎_elim
    (λ (w : (lt_ℚ time q.0 ≡ true) × (time <ℚ q.0)). here w.0 w.1)
    (λ (w : (lt_ℚ time q.0 ≡ false) × (q.0 ≤ℚ time)). ap (λ (b : Bool). if b then Ok p.1 else
    (if lt_ℚ time q.0 then checked_line passes p q time else value_from passes q rest time)) (apart w.1)
    ∙ ap (λ (b : Bool). if b then checked_line passes p q time else value_from passes q rest time) w.0
    ∙ value_from-between passes time q rest r.1 w.1 ∙ sym (further w.1 (count_until time rest) refl))
    (lt_ℚ_cases time q.0)
  where
    here : lt_ℚ time q.0 ≡ true → time <ℚ q.0
        → (if is_same time p.0 then Ok p.1 else (if lt_ℚ time q.0 then checked_line passes p q time else value_from passes q rest time))
        ≡ value_between passes time (slice_get (p ∷ q ∷ rest) (count_until time (p ∷ q ∷ rest) - 1)) (slice_get (p ∷ q ∷ rest) (count_until time (p ∷ q ∷ rest)))
    here t k = ap (λ (b : Bool). if is_same time p.0 then Ok p.1 else (if b then checked_line passes p q time else value_from passes q rest time)) t
        ∙ sym (ap (λ (k : ℕ). value_between passes time (slice_get (p ∷ q ∷ rest) (k - 1)) (slice_get (p ∷ q ∷ rest) k))
        (place-past time p (q ∷ rest) h ∙ ap suc (place-behind time q rest k)))

    apart : q.0 ≤ℚ time → is_same time p.0 ≡ false
    apart k = ⊎_elim
        (λ (w : (is_same time p.0 ≡ true) × (time ≡ p.0)). absurd (not_both_ℚ p.0 time (<_≤_trans _ _ _ r.0 k) (Rattle.nf_rational_laws.proofs.Order.≤ℚ_of_same time p.0 w.1)))
        (λ (w : (is_same time p.0 ≡ false) × (¬ (time ≡ p.0))). w.0)
        (is_same_cases time p.0)

    -- the place in all of them is one more than that in the later ones
    further : q.0 ≤ℚ time → (n : ℕ) → count_until time rest ≡ n
        → value_between passes time (slice_get (p ∷ q ∷ rest) (count_until time (p ∷ q ∷ rest) - 1)) (slice_get (p ∷ q ∷ rest) (count_until time (p ∷ q ∷ rest)))
        ≡ value_between passes time (slice_get (q ∷ rest) (count_until time (q ∷ rest) - 1)) (slice_get (q ∷ rest) (count_until time (q ∷ rest)))
    further k n e =
        ap (λ (k : ℕ). value_between passes time (slice_get (p ∷ q ∷ rest) (k - 1)) (slice_get (p ∷ q ∷ rest) k)) (place-past time p (q ∷ rest) h ∙ ap suc (place-past time q rest k))
        ∙ ap (λ (k : ℕ). value_between passes time (slice_get (p ∷ q ∷ rest) k) (slice_get (q ∷ rest) (suc (count_until time rest))))
        (let one : suc (suc (count_until time rest)) - 1 ≡ suc (count_until time rest) = omega arith in one)
        ∙ ap (λ (k : ℕ). value_between passes time (slice_get (q ∷ rest) k) (slice_get (q ∷ rest) (suc (count_until time rest))))
        (let one : count_until time rest ≡ suc (count_until time rest) - 1 = omega arith in one)
        ∙ sym (ap (λ (k : ℕ). value_between passes time (slice_get (q ∷ rest) (k - 1)) (slice_get (q ∷ rest) k)) (place-past time q rest k))

-- the first point is at time 0, so its place is at least 1
pub place_some : (time : ℚ) (points : List Point) → IsCurve points → 0ℚ ≤ℚ time → 0 < count_until time points
place_some time [] c h = absurd c
place_some time (p ∷ rest) c h = let e = place-past time p rest (subst (λ (z : ℚ). z ≤ℚ time) (sym c.0) h) in omega arith

pub checked_value-between : (passes : Passing) (time : ℚ) (points : List Point) → IsCurve points → 0ℚ ≤ℚ time
    → checked_value passes points time ≡ value_between passes time (slice_get points (count_until time points - 1)) (slice_get points (count_until time points))
unfolding checked_value
checked_value-between passes time [] c h = absurd c
checked_value-between passes time (p ∷ rest) c h = value_from-between passes time p rest c.1 (subst (λ (z : ℚ). z ≤ℚ time) (sym c.0) h)

pub value-at : (passes : Passing) (time : ℚ) (points : List Point) (k : ℕ) (p : Point) (next : Option Point) → IsCurve points → 0ℚ ≤ℚ time → k ≡ count_until time points
    → slice_get points (k - 1) ≡ Some p → slice_get points k ≡ next → checked_value passes points time ≡ value_between passes time (Some p) next
value-at passes time points k p next c h e f g =
    checked_value-between passes time points c h
    ∙ ap (λ (n : ℕ). value_between passes time (slice_get points (n - 1)) (slice_get points n)) (sym e)
    ∙ ap (λ (o : Option Point). value_between passes time o (slice_get points k)) f
    ∙ ap (λ (o : Option Point). value_between passes time (Some p) o) g

-- a point before the place and one at it
pub around-place : (time : ℚ) (points : List Point) (k : ℕ) (p q : Point) → TimesRise points → k ≡ count_until time points → 0 < k
    → slice_get points (k - 1) ≡ Some p → slice_get points k ≡ Some q → p.0 <ℚ q.0
around-place time points k p q r e o f g = ≤_<_trans p.0 time q.0 (before-place time points (k - 1) p f (omega arith)) (from-place time points k q r g (omega arith))

pub curve-rises : (points : List Point) → IsCurve points → TimesRise points
curve-rises [] c = absurd c
curve-rises (p ∷ rest) c = c.1

-- a point of a curve comes before the next
pub times_apart : (points : List Point) (i : ℕ) (p q : Point) → IsCurve points → slice_get points i ≡ Some p → slice_get points (i + 1) ≡ Some q → p.0 <ℚ q.0
times_apart points i p q c e f = rise-pairs points i (i + 1) p q (curve-rises points c) e f (omega arith)

-- ---- the exits of the value at a place
module _ (passes : Passing) (part : Part) (time : ℚ) (points : List Point) (k : ℕ) (p : Point) (c : IsCurve points) (h : 0ℚ ≤ℚ time)
    (e : k ≡ count_until time points) (f : slice_get points (k - 1) ≡ Some p) where
  pub value-last : slice_get points k ≡ None → ◌≡◌ {A = Result ℚ (PassedAt ℚ)} (Ok p.1) (at_part part (checked_value passes points time))
  value-last g = sym (ap (at_part part) (value-at passes time points k p None c h e f g))

  pub value-same : (q : Point) → slice_get points k ≡ Some q → is_same time p.0 ≡ true → ◌≡◌ {A = Result ℚ (PassedAt ℚ)} (Ok p.1) (at_part part (checked_value passes points time))
  value-same q g t = sym (ap (at_part part) (value-at passes time points k p (Some q) c h e f g ∙ ap (λ (b : Bool). if b then Ok p.1 else checked_line passes p q time) t))

  pub value-line : (q : Point) (r : Result ℚ (PassedAt ℚ)) → slice_get points k ≡ Some q → is_same time p.0 ≡ false
      → r ≡ at_part part (checked_line passes p q time) → r ≡ at_part part (checked_value passes points time)
  value-line q r g t i = i ∙ sym (ap (at_part part) (value-at passes time points k p (Some q) c h e f g ∙ ap (λ (b : Bool). if b then Ok p.1 else checked_line passes p q time) t))

-- ---- a number before the last one
pub before_last : (i n : ℕ) → i < n - 1 → i < n
before_last i n h = omega arith

pub next_there : (i n : ℕ) → i < n - 1 → i + 1 < n
next_there i n h = omega arith

pub last_there : (n : ℕ) → 0 < n → n - 1 < n
last_there n h = omega arith
