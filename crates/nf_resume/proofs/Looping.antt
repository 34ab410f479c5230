-- A loop over the entries of a list whose steps are computations: the results so far precede the remaining ones.
use Rattle.std.proofs.Common.{◌≡◌, ℕ, ◌+◌, ◌≤◌, List, [], ◌∷◌, ◌++◌, length, drop, sym, ap, ◌∙◌, Ok, Some, slice_get}
use Rattle.nf_resume.proofs.Common.{drop_all, ℚ, Part, Halt, Checked, Stops, at_part, each, with_front, no_front, each_goes, each_stops, each_ends}
use Rattle.nf_resume.proofs.Common.{stops_on, drop_next}

pub record Front {A B : Type 0} (f : A → Checked B) (xs : List A) (k : ℕ) (front : List B) : Type 0 where
  pub same : with_front front (each f (drop k xs)) ≡ each f xs

module _ {A B : Type 0} (f : A → Checked B) (xs : List A) where
  pub front_first : (front : List B) → front ≡ [] → Front f xs 0 front
  front_first front e = record { same = ap (λ (l : List B). with_front l (each f xs)) e ∙ no_front (each f xs) }

  module _ (part : Part) (k : ℕ) (front : List B) (so_far : Front f xs k front) where
    pub front_last : length xs ≤ k → at_part part (each f xs) ≡ Ok front
    front_last h = each_ends f front (each f xs) part (ap (λ (l : List A). with_front front (each f l)) (sym (drop_all k xs h)) ∙ so_far.same)

    module _ (x : A) (at : slice_get xs k ≡ Some x) where
      here : with_front front (each f (x ∷ drop (k + 1) xs)) ≡ each f xs
      here = ap (λ (l : List A). with_front front (each f l)) (sym (drop_next xs k x at)) ∙ so_far.same

      pub front_halts : (h : Halt ℚ) → Stops (λ (q : ℚ). q) h (at_part part (f x)) → Stops (λ (q : ℚ). q) h (at_part part (each f xs))
      front_halts h s = stops_on h (at_part part (f x)) (at_part part (each f xs)) (λ p e. each_stops part f front (each f xs) x (drop (k + 1) xs) here p e) s

      pub front_goes : (y : B) (new : List B) → at_part part (f x) ≡ Ok y → new ≡ front ++ y ∷ [] → Front f xs (k + 1) new
      front_goes y new e n = record {
        same = ap (λ (l : List B). with_front l (each f (drop (k + 1) xs))) n ∙ each_goes part f front (each f xs) x (drop (k + 1) xs) here y e;
      }
