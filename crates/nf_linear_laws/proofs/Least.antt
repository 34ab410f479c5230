-- The least value of an objective. It is the least value of a first variable that is at least the objective.
-- With all other variables eliminated, it is the greatest of the bounds from below.
use Rattle.std.proofs.Common.{◌≡◌, ℕ, zero, suc, ◌<◌, List, [], ◌∷◌, ◌⊎◌, inl, inr, sym, subst}
use Rattle.nf_linear_laws.proofs.Common.{ℚ, 0ℚ, 1ℚ, ◌+ℚ◌, ◌-ℚ◌, ◌*ℚ◌, ◌≤ℚ◌, ◌<ℚ◌, reading_of, lt_or_le_ℚ, not_both_ℚ, ≤ℚ_of_same, le, eq, linear_le}
use Rattle.nf_linear_laws.proofs.Common.{linear_lt, ≤ℚ_refl, ≤ℚ_trans, Form, form_value, AtMost, MeetsAll}
use Rattle.nf_linear_laws.proofs.Forms.{updated, updated-here, moved, form_value-moved}
use Rattle.nf_linear_laws.proofs.Constraints.{all_moved, all_moved-in, all_moved-out}
use Rattle.nf_linear_laws.proofs.Bounds.{AreAbove, AreBelow, AreAbove-less, AreBelow-same, Greatest, greatest}
use Rattle.nf_linear_laws.proofs.LeastElimination.{Split, split, Split-met}
use Rattle.nf_linear_laws.proofs.Projection.{Projection, projection, none_below}

-- ---- one number within bounds
abbrev LeastWithin : List AtMost → List AtMost → (ℕ → ℚ) → Type 0
LeastWithin uppers lowers x = (v : ℚ) × AreAbove uppers x v × AreBelow lowers x v × ((w : ℚ) → AreBelow lowers x w → v ≤ℚ w)

one_less : (f : ℚ) → f -ℚ 1ℚ <ℚ f
one_less f = linear_lt (f ∷ []) [] (search reading_of) tt

one_less_than : (f t : ℚ) → f ≤ℚ t → f -ℚ 1ℚ ≤ℚ t
one_less_than f t h = linear_le (f ∷ t ∷ []) (le h ∷ []) (search reading_of) tt

-- Without a bound from below, there are numbers below any floor.
no_floor : (uppers : List AtMost) (x : ℕ → ℚ) (t floor : ℚ) → AreAbove uppers x t → ((v : ℚ) → AreAbove uppers x v → floor ≤ℚ v) → (t <ℚ floor) ⊎ (floor ≤ℚ t) → ⊥
no_floor uppers x t floor h f (inl l) = not_both_ℚ t floor l (f t h)
no_floor uppers x t floor h f (inr l) = not_both_ℚ (floor -ℚ 1ℚ) floor (one_less floor) (f (floor -ℚ 1ℚ) (AreAbove-less uppers x t (floor -ℚ 1ℚ) (one_less_than floor t l) h))

least_within : (uppers lowers : List AtMost) (x : ℕ → ℚ) (t floor : ℚ) → AreAbove uppers x t → AreBelow lowers x t
    → ((v : ℚ) → AreAbove uppers x v → AreBelow lowers x v → floor ≤ℚ v) → LeastWithin uppers lowers x
least_within uppers [] x t floor h k f = absurd (no_floor uppers x t floor h (λ v a. f v a tt) (lt_or_le_ℚ t floor))
least_within uppers (l ∷ lowers) x t floor h k f =
    let g : Greatest (l ∷ lowers) x = greatest l lowers x in
    (g.0, AreAbove-less uppers x t g.0 (g.2 t k) h, g.1, g.2)

-- ---- one variable
abbrev LeastFirst : List AtMost → Type 0
LeastFirst system = (x : ℕ → ℚ) × MeetsAll system x × ((y : ℕ → ℚ) → MeetsAll system y → x 0 ≤ℚ y 0)

least_by : (system : List AtMost) (s : Split 0 system) (start : ℕ → ℚ) (floor : ℚ) → MeetsAll system start → ((x : ℕ → ℚ) → MeetsAll system x → floor ≤ℚ x 0) → LeastFirst system
least_by system s start floor h f =
    let b : LeastWithin s.uppers s.lowers start = least_within s.uppers s.lowers start (start 0) floor (s.there start h).1 (s.there start h).2 above in (
      updated start 0 b.0,
      Split-met 0 system s start b.0 (s.there start h).0 b.1 b.2,
      λ y k. subst (λ (v : ℚ). v ≤ℚ y 0) (sym (updated-here start 0 b.0)) (b.3 (y 0) (AreBelow-same 0 s.lowers y start (y 0) s.lowers_within (none_below y start) (s.there y k).2)),
    )
  where
    above : (v : ℚ) → AreAbove s.uppers start v → AreBelow s.lowers start v → floor ≤ℚ v
    above v u l = subst (λ (a : ℚ). floor ≤ℚ a) (updated-here start 0 v) (f (updated start 0 v) (Split-met 0 system s start v (s.there start h).0 u l))

-- ---- the first variable is at least the objective
abbrev with_first : ℚ → (ℕ → ℚ) → ℕ → ℚ
with_first t x zero = t
with_first t x (suc i) = x i

abbrev rest_of : (ℕ → ℚ) → ℕ → ℚ
rest_of y i = y (suc i)

abbrev reaching : List AtMost → Form → List AtMost
reaching system objective = record { form = (0ℚ -ℚ 1ℚ, 0) ∷ moved objective; bound = 0ℚ } ∷ all_moved system

reaches : (t f g : ℚ) → g ≡ f → f ≤ℚ t → (0ℚ -ℚ 1ℚ) *ℚ t +ℚ g ≤ℚ 0ℚ
reaches t f g e h = linear_le (t ∷ f ∷ g ∷ []) (eq e ∷ le h ∷ []) (search reading_of) tt

reached : (t f g : ℚ) → g ≡ f → (0ℚ -ℚ 1ℚ) *ℚ t +ℚ g ≤ℚ 0ℚ → f ≤ℚ t
reached t f g e h = linear_le (t ∷ f ∷ g ∷ []) (eq e ∷ le h ∷ []) (search reading_of) tt

reaching-in : (system : List AtMost) (objective : Form) (x : ℕ → ℚ) (t : ℚ) → MeetsAll system x → form_value objective x ≤ℚ t → MeetsAll (reaching system objective) (with_first t x)
reaching-in system objective x t h k =
    (reaches t (form_value objective x) _ (form_value-moved objective (with_first t x)) k, all_moved-in system (with_first t x) h)

reaching-out : (system : List AtMost) (objective : Form) (y : ℕ → ℚ) → MeetsAll (reaching system objective) y → MeetsAll system (rest_of y) × (form_value objective (rest_of y) ≤ℚ y 0)
reaching-out system objective y h = (all_moved-out system y h.1, reached (y 0) (form_value objective (rest_of y)) _ (form_value-moved objective y) h.0)

-- ---- the objective
abbrev pub Least : List AtMost → Form → Type 0
Least system objective = (x : ℕ → ℚ) × MeetsAll system x × ((y : ℕ → ℚ) → MeetsAll system y → form_value objective x ≤ℚ form_value objective y)

module _ (system : List AtMost) (objective : Form) (start : ℕ → ℚ) (floor : ℚ) (met : MeetsAll system start)
    (bounded : (x : ℕ → ℚ) → MeetsAll system x → floor ≤ℚ form_value objective x) (p : Projection (reaching system objective)) where
  into : (x : ℕ → ℚ) → MeetsAll system x → MeetsAll p.rest (with_first (form_value objective x) x)
  into x h = p.there (with_first (form_value objective x) x) (reaching-in system objective x (form_value objective x) h (≤ℚ_refl (form_value objective x)))

  from : (x : ℕ → ℚ) → MeetsAll p.rest x → (y : ℕ → ℚ) × MeetsAll system y × (form_value objective y ≤ℚ x 0)
  from x h =
      let q : (y : ℕ → ℚ) × MeetsAll (reaching system objective) y × (y 0 ≡ x 0) = p.back x h in
      let r : MeetsAll system (rest_of q.0) × (form_value objective (rest_of q.0) ≤ℚ q.0 0) = reaching-out system objective q.0 q.1 in
      (rest_of q.0, r.0, ≤ℚ_trans _ _ _ r.1 (≤ℚ_of_same _ _ q.2))

  first_bounded : (x : ℕ → ℚ) → MeetsAll p.rest x → floor ≤ℚ x 0
  first_bounded x h = let q : (y : ℕ → ℚ) × MeetsAll system y × (form_value objective y ≤ℚ x 0) = from x h in ≤ℚ_trans _ _ _ (bounded q.0 q.1) q.2

  least_taken : Least system objective
  least_taken =
      let b : LeastFirst p.rest = least_by p.rest (split 0 p.rest p.within) (with_first (form_value objective start) start) floor (into start met) first_bounded in
      let q : (y : ℕ → ℚ) × MeetsAll system y × (form_value objective y ≤ℚ b.0 0) = from b.0 b.1 in
      (q.0, q.1, λ y h. ≤ℚ_trans _ _ _ q.2 (b.2 (with_first (form_value objective y) y) (into y h)))

pub least_is_taken : (system : List AtMost) (objective : Form) (start : ℕ → ℚ) (floor : ℚ) → MeetsAll system start
    → ((x : ℕ → ℚ) → MeetsAll system x → floor ≤ℚ form_value objective x) → Least system objective
least_is_taken system objective start floor met bounded = least_taken system objective start floor met bounded (projection (reaching system objective))
