-- The number of links that differ from a base, and that may differ, link by link; and which numbers of changes have an assignment.
use Rattle.std.proofs.Common.{◌≡◌, ℕ, suc, ◌+◌, ◌<◌, ◌≤◌, Bool, List, [], ◌∷◌, length, get_or, drop, drop-cons, add-one, refl, ap, ◌∙◌, arith, Option, Some}
use Rattle.std.proofs.Common.{None}
use Rattle.nf_pattern.proofs.Common.{drop_of_length-le, Pattern, changes, changes_first, IsAssignment, free, change, earliest, later, or_else}
use Rattle.nf_pattern.proofs.Common.{next_assignment}
use Rattle.nf_pattern.proofs.Filling.{free_first}
use Rattle.nf_pattern.proofs.Successors.{change_small, changes_few, earliest_is}

pub changes_here : (base states : Pattern) (i : ℕ) → i < length base → length states ≡ length base
    → changes (drop i base) (drop i states) ≡ change (get_or base i None) (get_or states i None) + changes (drop (i + 1) base) (drop (i + 1) states)
changes_here base states i below count = rw (add-one i) (
    ap (λ (x : Pattern). changes x (drop i states)) (drop-cons base i None below)
    ∙ (ap (changes (get_or base i None ∷ drop (suc i) base)) (drop-cons states i None (omega arith))
    ∙ changes_first (get_or base i None) (get_or states i None) (drop (suc i) base) (drop (suc i) states)))

pub changes_end : (base states : Pattern) (i : ℕ) → length base ≤ i → changes (drop i base) (drop i states) ≡ 0
changes_end base states i end = ap (λ (x : Pattern). changes x (drop i states)) (drop_of_length-le base end)

pub free_at : (base : Pattern) (i : ℕ) → i < length base → free (drop i base) ≡ change None (get_or base i None) + free (drop (i + 1) base)
free_at base i below = rw (add-one i) (ap free (drop-cons base i None below) ∙ free_first (get_or base i None) (drop (suc i) base))

pub free_end : (base : Pattern) (i : ℕ) → length base ≤ i → free (drop i base) ≡ 0
free_end base i end = ap free (drop_of_length-le base end)

changes_within : (base states : Pattern) → changes base states ≤ length base
changes_within [] [] = omega arith
changes_within [] (a ∷ states) = omega arith
changes_within (b ∷ base) [] = omega arith
changes_within (b ∷ base) (a ∷ states) = let f = changes_first b a base states in let s = change_small b a in let r = changes_within base states in omega arith

-- No assignment has more changes than links that may differ.
pub none_earliest : (base : Pattern) (us : List Bool) (n : ℕ) → IsAssignment base us base → free base < n → earliest base us n ≡ None
none_earliest base us n valid more = go (earliest base us n) refl
  where
    go : (o : Option Pattern) → earliest base us n ≡ o → o ≡ None
    go None e = refl
    go (Some q) e =
        let is = earliest_is base us n q valid e in
        let few = changes_few base us q is.0 in
        let c : changes base q ≡ n = is.1 in absurd (omega arith)

pub else_other : (i : ℕ) (base : Pattern) (us zs : List Bool) (p : Pattern) (o : Option Pattern) → later i base us zs p ≡ None
    → earliest base us (suc (changes base p)) ≡ o → next_assignment i base us zs p ≡ o
else_other i base us zs p o none e = ap (λ (x : Option Pattern). or_else x (earliest base us (suc (changes base p)))) none ∙ e

pub else_first : (i : ℕ) (base : Pattern) (us zs : List Bool) (p q : Pattern) → later i base us zs p ≡ Some q → next_assignment i base us zs p ≡ Some q
else_first i base us zs p q e = ap (λ (x : Option Pattern). or_else x (earliest base us (suc (changes base p)))) e

pub few_changes : (base states : Pattern) (n : ℕ) → n ≡ changes base states → n ≤ length base
few_changes base states n is = let f = changes_within base states in omega arith
