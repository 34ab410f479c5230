-- The least of some rooms.
use Rattle.std.proofs.Common.{◌≡◌, ℕ, zero, suc, List, [], ◌∷◌, ⊎_elim, sym, ap, subst, refl, ◌∙◌, Option, Some, None, slice_get}
use Rattle.nf_complete_laws.proofs.Common.{none-some, same_Some, ℚ, ◌≤ℚ◌, ◌<ℚ◌, min_ℚ, ≤ℚ_refl, ≤ℚ_trans, min_left, min_right, lesser_room, least_room}
use Rattle.nf_rational_laws.proofs.Tests.{min_ℚ_cases}

-- it is at most each of them
first_least : (x a : ℚ) (rest : Option ℚ) → lesser_room (Some x) rest ≡ Some a → a ≤ℚ x
first_least x a None h = subst (λ (z : ℚ). z ≤ℚ x) (same_Some x a h) (≤ℚ_refl x)
first_least x a (Some y) h = subst (λ (z : ℚ). z ≤ℚ x) (same_Some _ a h) (min_left x y)

rest_least : (room : Option ℚ) (a x : ℚ) (rest : Option ℚ) → lesser_room room rest ≡ Some a → ((b : ℚ) → rest ≡ Some b → b ≤ℚ x) → ((b : ℚ) × (rest ≡ Some b)) → a ≤ℚ x
rest_least None a x rest h k s = k a h
rest_least (Some y) a x None h k s = absurd (none-some s.0 s.1)
rest_least (Some y) a x (Some b) h k s = ≤ℚ_trans _ _ _ (subst (λ (z : ℚ). z ≤ℚ b) (same_Some _ a h) (min_right y b)) (k b refl)

more_some : (room rest : Option ℚ) → ((b : ℚ) × (rest ≡ Some b)) → (a : ℚ) × (lesser_room room rest ≡ Some a)
more_some None rest s = s
more_some (Some y) None s = (y, refl)
more_some (Some y) (Some b) s = (min_ℚ y b, refl)

pub least-some : (rooms : List (Option ℚ)) (e : ℕ) (x : ℚ) → slice_get rooms e ≡ Some (Some x) → (a : ℚ) × (least_room rooms ≡ Some a)
least-some [] e x p = absurd (none-some _ p)
least-some (None ∷ rooms) zero x p = absurd (none-some x (same_Some None (Some x) p))
least-some (Some y ∷ rooms) zero x p = by (least_room rooms)
  where
    by : (rest : Option ℚ) → (a : ℚ) × (lesser_room (Some y) rest ≡ Some a)
    by None = (y, refl)
    by (Some b) = (min_ℚ y b, refl)
least-some (room ∷ rooms) (suc e) x p = more_some room (least_room rooms) (least-some rooms e x p)

pub least-bound : (rooms : List (Option ℚ)) (a : ℚ) → least_room rooms ≡ Some a → (e : ℕ) (x : ℚ) → slice_get rooms e ≡ Some (Some x) → a ≤ℚ x
least-bound [] a h e x p = absurd (none-some _ p)
least-bound (room ∷ rooms) a h zero x p = first_least x a (least_room rooms) (subst (λ (r : Option ℚ). lesser_room r (least_room rooms) ≡ Some a) (same_Some room (Some x) p) h)
least-bound (room ∷ rooms) a h (suc e) x p = rest_least room a x (least_room rooms) h (λ b k. least-bound rooms b k e x p) (least-some rooms e x p)

-- and one of them
abbrev pub Taken : List (Option ℚ) → ℚ → Type 0
Taken rooms a = (e : ℕ) × (slice_get rooms e ≡ Some (Some a))

taken_by : (room : Option ℚ) (rooms : List (Option ℚ)) (a : ℚ) (rest : Option ℚ) → lesser_room room rest ≡ Some a → ((b : ℚ) → rest ≡ Some b → Taken rooms b) → Taken (room ∷ rooms) a
taken_by None rooms a rest h k = let t = k a h in (suc t.0, t.1)
taken_by (Some y) rooms a None h k = (zero, ap Some h)
taken_by (Some y) rooms a (Some b) h k = ⊎_elim
    (λ (w : (min_ℚ y b ≡ y) × (y ≤ℚ b)). at_first (sym w.0 ∙ same_Some _ a h))
    (λ (w : (min_ℚ y b ≡ b) × (b <ℚ y)). let t = k b refl in (suc t.0, t.1 ∙ ap (λ (z : ℚ). Some (Some z)) (sym w.0 ∙ same_Some _ a h)))
    (min_ℚ_cases y b)
  where
    at_first : y ≡ a → Taken (Some y ∷ rooms) a
    at_first e = (zero, ap (λ (z : ℚ). Some (Some z)) e)

pub least-taken : (rooms : List (Option ℚ)) (a : ℚ) → least_room rooms ≡ Some a → Taken rooms a
least-taken [] a h = absurd (none-some a h)
least-taken (room ∷ rooms) a h = taken_by room rooms a (least_room rooms) h (λ b k. least-taken rooms b k)
