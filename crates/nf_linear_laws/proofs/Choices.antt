-- The least value if one of finitely many systems must be met; and the least second objective among those with the least first one.
use Rattle.std.proofs.Common.{ℕ, List, [], ◌∷◌, ◌⊎◌, inl, inr}
use Rattle.nf_linear_laws.proofs.Common.{ℚ, ◌≤ℚ◌, ◌<ℚ◌, lt_or_le_ℚ, ≤ℚ_of_lt, ≤ℚ_refl, ≤ℚ_trans, Form, form_value, AtMost, MeetsAll}
use Rattle.nf_linear_laws.proofs.Projection.{Decided, decided}
use Rattle.nf_linear_laws.proofs.Least.{Least, least_is_taken}

abbrev pub MeetsOne : List (List AtMost) → (ℕ → ℚ) → Type 0
MeetsOne [] x = ⊥
MeetsOne (system ∷ systems) x = MeetsAll system x ⊎ MeetsOne systems x

abbrev pub LeastOfOne : List (List AtMost) → Form → Type 0
LeastOfOne systems objective = (x : ℕ → ℚ) × MeetsOne systems x × ((y : ℕ → ℚ) → MeetsOne systems y → form_value objective x ≤ℚ form_value objective y)

abbrev HasNone : List (List AtMost) → Type 0
HasNone systems = (x : ℕ → ℚ) → MeetsOne systems x → ⊥

-- ---- one more system
module _ (system : List AtMost) (systems : List (List AtMost)) (objective : Form) where
  from_first : Least system objective → HasNone systems → LeastOfOne (system ∷ systems) objective
  from_first b n = (b.0, inl b.1, by_case)
    where
      by_case : (y : ℕ → ℚ) → MeetsOne (system ∷ systems) y → form_value objective b.0 ≤ℚ form_value objective y
      by_case y (inl h) = b.2 y h
      by_case y (inr h) = absurd (n y h)

  from_rest : ((x : ℕ → ℚ) → MeetsAll system x → ⊥) → LeastOfOne systems objective → LeastOfOne (system ∷ systems) objective
  from_rest n b = (b.0, inr b.1, by_case)
    where
      by_case : (y : ℕ → ℚ) → MeetsOne (system ∷ systems) y → form_value objective b.0 ≤ℚ form_value objective y
      by_case y (inl h) = absurd (n y h)
      by_case y (inr h) = b.2 y h

  from_both : (a : Least system objective) (b : LeastOfOne systems objective)
      → (form_value objective b.0 <ℚ form_value objective a.0) ⊎ (form_value objective a.0 ≤ℚ form_value objective b.0)
      → LeastOfOne (system ∷ systems) objective
  from_both a b (inl l) = (b.0, inr b.1, by_case)
    where
      by_case : (y : ℕ → ℚ) → MeetsOne (system ∷ systems) y → form_value objective b.0 ≤ℚ form_value objective y
      by_case y (inl h) = ≤ℚ_trans _ _ _ (≤ℚ_of_lt _ _ l) (a.2 y h)
      by_case y (inr h) = b.2 y h
  from_both a b (inr l) = (a.0, inl a.1, by_case)
    where
      by_case : (y : ℕ → ℚ) → MeetsOne (system ∷ systems) y → form_value objective a.0 ≤ℚ form_value objective y
      by_case y (inl h) = a.2 y h
      by_case y (inr h) = ≤ℚ_trans _ _ _ l (b.2 y h)

  neither : ((x : ℕ → ℚ) → MeetsAll system x → ⊥) → HasNone systems → HasNone (system ∷ systems)
  neither m n x (inl h) = m x h
  neither m n x (inr h) = n x h

  one_more : (floor : ℚ) → ((x : ℕ → ℚ) → MeetsAll system x → floor ≤ℚ form_value objective x) → Decided system → LeastOfOne systems objective ⊎ HasNone systems
      → LeastOfOne (system ∷ systems) objective ⊎ HasNone (system ∷ systems)
  one_more floor f (inl z) (inl b) =
      let a : Least system objective = least_is_taken system objective z.0 floor z.1 f in
      inl (from_both a b (lt_or_le_ℚ (form_value objective b.0) (form_value objective a.0)))
  one_more floor f (inl z) (inr n) = inl (from_first (least_is_taken system objective z.0 floor z.1 f) n)
  one_more floor f (inr m) (inl b) = inl (from_rest m b)
  one_more floor f (inr m) (inr n) = inr (neither m n)

least_or_none : (systems : List (List AtMost)) (objective : Form) (floor : ℚ) → ((x : ℕ → ℚ) → MeetsOne systems x → floor ≤ℚ form_value objective x)
    → LeastOfOne systems objective ⊎ HasNone systems
least_or_none [] objective floor f = inr (λ x h. h)
least_or_none (system ∷ systems) objective floor f =
    one_more system systems objective floor (λ x h. f x (inl h)) (decided system) (least_or_none systems objective floor (λ x h. f x (inr h)))

pub least_of_one : (systems : List (List AtMost)) (objective : Form) (start : ℕ → ℚ) (floor : ℚ) → MeetsOne systems start
    → ((x : ℕ → ℚ) → MeetsOne systems x → floor ≤ℚ form_value objective x) → LeastOfOne systems objective
least_of_one systems objective start floor met f = some (least_or_none systems objective floor f)
  where
    some : LeastOfOne systems objective ⊎ HasNone systems → LeastOfOne systems objective
    some (inl b) = b
    some (inr n) = absurd (n start met)

-- ---- the second objective
abbrev all_under : AtMost → List (List AtMost) → List (List AtMost)
all_under c [] = []
all_under c (system ∷ systems) = (c ∷ system) ∷ all_under c systems

all_under-in : (c : AtMost) (systems : List (List AtMost)) (x : ℕ → ℚ) → form_value c.form x ≤ℚ c.bound → MeetsOne systems x → MeetsOne (all_under c systems) x
all_under-in c (system ∷ systems) x k (inl h) = inl (k, h)
all_under-in c (system ∷ systems) x k (inr h) = inr (all_under-in c systems x k h)
all_under-in c [] x k h = absurd h

all_under-out : (c : AtMost) (systems : List (List AtMost)) (x : ℕ → ℚ) → MeetsOne (all_under c systems) x → (form_value c.form x ≤ℚ c.bound) × MeetsOne systems x
all_under-out c (system ∷ systems) x (inl h) = (h.0, inl h.1)
all_under-out c (system ∷ systems) x (inr h) = let p : (form_value c.form x ≤ℚ c.bound) × MeetsOne systems x = all_under-out c systems x h in (p.0, inr p.1)
all_under-out c [] x h = absurd h

abbrev pub LeastOfTwo : List (List AtMost) → Form → Form → Type 0
LeastOfTwo systems first second = (x : ℕ → ℚ) × MeetsOne systems x × ((y : ℕ → ℚ) → MeetsOne systems y → form_value first x ≤ℚ form_value first y)
    × ((y : ℕ → ℚ) → MeetsOne systems y → form_value first y ≤ℚ form_value first x → form_value second x ≤ℚ form_value second y)

pub least_of_two : (systems : List (List AtMost)) (first second : Form) (start : ℕ → ℚ) (floor low : ℚ) → MeetsOne systems start
    → ((x : ℕ → ℚ) → MeetsOne systems x → floor ≤ℚ form_value first x) → ((x : ℕ → ℚ) → MeetsOne systems x → low ≤ℚ form_value second x) → LeastOfTwo systems first second
least_of_two systems first second start floor low met f g = by_first (least_of_one systems first start floor met f)
  where
    by_first : LeastOfOne systems first → LeastOfTwo systems first second
    by_first a =
        let c : AtMost = record { form = first; bound = form_value first a.0 } in
        let b : LeastOfOne (all_under c systems) second = least_of_one (all_under c systems) second a.0 low (all_under-in c systems a.0 (≤ℚ_refl (form_value first a.0)) a.1)
        (λ x h. g x (all_under-out c systems x h).1) in
        let p : (form_value first b.0 ≤ℚ form_value first a.0) × MeetsOne systems b.0 = all_under-out c systems b.0 b.1 in
        (b.0, p.1, λ y h. ≤ℚ_trans _ _ _ p.0 (a.2 y h), λ y h k. b.2 y (all_under-in c systems y (≤ℚ_trans _ _ _ k p.0) h))
