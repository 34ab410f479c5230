-- The results of `<`, `<=`, `>`, `>=` and `==` for fractions, and for any type that is ordered by the numbers of its values.
use Rattle.std.proofs.Common.{◌≡◌, ◌≢◌, Bool, true, false, not, cond, ◌&&◌, refl, sym, ◌∙◌, ap, Option, Some}
use Rattle.nf_frac.proofs.Common.{is_eq, is_lt, is_le, is_gt, is_ge, is_some_and, MatchOrdering, partial_lt, partial_le, Ordering, ℚ, ◌<ℚ◌, cmp_ℚ, le_ℚ}
use Rattle.nf_frac.proofs.Common.{≤ℚ_of_lt, ≤ℚ_of_same, same_ℚ, ranks_ℚ, same_decides, cmp_matches_same}
use Rattle.std.specs.declared.cmp.Ordering.TheVariants.{Less, Equal, Greater}
use mathlib.Core.Path.{ap₂}
use Rattle.nf_rational.specs.Order.{lt_ℚ, min_ℚ, max_ℚ}
use Rattle.nf_rational_laws.proofs.Tests.{test_of_le, test_of_lt}

-- the order of two numbers as a test
pub le-cmp : (x y : ℚ) → is_le (cmp_ℚ x y) ≡ le_ℚ x y
le-cmp x y = go (cmp_ℚ x y) (ranks_ℚ x y)
  where
    go : (r : Ordering) → MatchOrdering r (x <ℚ y) (x ≡ y) (y <ℚ x) → is_le r ≡ le_ℚ x y
    go Less h = sym (test_of_le x y (≤ℚ_of_lt x y h))
    go Equal h = sym (test_of_le x y (≤ℚ_of_same x y h))
    go Greater h = sym (test_of_lt x y h)

pub lt-cmp : (x y : ℚ) → is_lt (cmp_ℚ x y) ≡ lt_ℚ x y
unfolding lt_ℚ
lt-cmp x y = go (cmp_ℚ x y) (ranks_ℚ x y)
  where
    go : (r : Ordering) → MatchOrdering r (x <ℚ y) (x ≡ y) (y <ℚ x) → is_lt r ≡ not (le_ℚ y x)
    go Less h = sym (ap not (test_of_lt y x h))
    go Equal h = sym (ap not (test_of_le y x (≤ℚ_of_same y x (sym h))))
    go Greater h = sym (ap not (test_of_le y x (≤ℚ_of_lt y x h)))

pub gt-cmp : (x y : ℚ) → is_gt (cmp_ℚ x y) ≡ lt_ℚ y x
unfolding lt_ℚ
gt-cmp x y = go (cmp_ℚ x y) (ranks_ℚ x y)
  where
    go : (r : Ordering) → MatchOrdering r (x <ℚ y) (x ≡ y) (y <ℚ x) → is_gt r ≡ not (le_ℚ x y)
    go Less h = sym (ap not (test_of_le x y (≤ℚ_of_lt x y h)))
    go Equal h = sym (ap not (test_of_le x y (≤ℚ_of_same x y h)))
    go Greater h = sym (ap not (test_of_lt x y h))

pub ge-cmp : (x y : ℚ) → is_ge (cmp_ℚ x y) ≡ le_ℚ y x
ge-cmp x y = go (cmp_ℚ x y) (ranks_ℚ x y)
  where
    go : (r : Ordering) → MatchOrdering r (x <ℚ y) (x ≡ y) (y <ℚ x) → is_ge r ≡ le_ℚ y x
    go Less h = sym (test_of_lt y x h)
    go Equal h = sym (test_of_le y x (≤ℚ_of_same y x (sym h)))
    go Greater h = sym (test_of_le y x (≤ℚ_of_lt y x h))

pub le_by_order : (x y : ℚ) → partial_le (λ (x y : ℚ). Some (cmp_ℚ x y)) x y ≡ le_ℚ x y
le_by_order x y = le-cmp x y

pub below_is : (x y : ℚ) → lt_ℚ x y ≡ not (le_ℚ y x)
unfolding lt_ℚ
below_is x y = refl

pub lesser_is : (x y : ℚ) → min_ℚ x y ≡ cond (le_ℚ x y) x y
unfolding min_ℚ
lesser_is x y = refl

pub greater_is : (x y : ℚ) → max_ℚ x y ≡ cond (le_ℚ x y) y x
unfolding max_ℚ
greater_is x y = refl

-- equality as a test
pub same_of_test : (x y : ℚ) → same_ℚ x y ≡ true → x ≡ y
same_of_test x y t = (same_decides x y).0 t

pub same_by_order : (x y : ℚ) → same_ℚ x y ≡ (le_ℚ x y && le_ℚ y x)
same_by_order x y = cmp_matches_same x y ∙ go (cmp_ℚ x y) (ranks_ℚ x y)
  where
    both : (s t : Bool) → le_ℚ x y ≡ s → le_ℚ y x ≡ t → (s && t) ≡ (le_ℚ x y && le_ℚ y x)
    both s t e f = sym (ap₂ (λ (a b : Bool). a && b) e f)

    go : (r : Ordering) → MatchOrdering r (x <ℚ y) (x ≡ y) (y <ℚ x) → is_eq r ≡ (le_ℚ x y && le_ℚ y x)
    go Less h = both true false (test_of_le x y (≤ℚ_of_lt x y h)) (test_of_lt y x h)
    go Equal h = both true true (test_of_le x y (≤ℚ_of_same x y h)) (test_of_le y x (≤ℚ_of_same y x (sym h)))
    go Greater h = both false true (test_of_lt x y h) (test_of_le y x (≤ℚ_of_lt y x h))

pub apart_of_test : (x y : ℚ) → same_ℚ x y ≡ false → x ≢ y
apart_of_test x y t e = let s : same_ℚ x y ≡ true = (same_decides x y).1 e in cc

-- a type that is ordered by the numbers of its values
module _ {K : Type 0} (means : K → ℚ) (partial : K → K → Option Ordering) (cmp : K → K → Ordering)
    (agrees : (x y : K) → partial x y ≡ Some (cmp x y)) (ordered : (x y : K) → cmp x y ≡ cmp_ℚ (means x) (means y)) where
  known : (x y : K) → partial x y ≡ Some (cmp_ℚ (means x) (means y))
  known x y = agrees x y ∙ ap Some (ordered x y)

  pub less_by_meaning : (x y : K) → partial_lt partial x y ≡ lt_ℚ (means x) (means y)
  less_by_meaning x y = ap (is_some_and is_lt) (known x y) ∙ lt-cmp (means x) (means y)

-- the lesser of two
pub lesser_is_second : (x y : ℚ) → lt_ℚ y x ≡ true → y ≡ min_ℚ x y
unfolding lt_ℚ min_ℚ
lesser_is_second x y = go (le_ℚ x y)
  where
    go : (t : Bool) → not t ≡ true → y ≡ cond t x y
    go true e = cc
    go false e = refl

pub lesser_is_first : (x y : ℚ) → lt_ℚ y x ≡ false → x ≡ min_ℚ x y
unfolding lt_ℚ min_ℚ
lesser_is_first x y = go (le_ℚ x y)
  where
    go : (t : Bool) → not t ≡ false → x ≡ cond t x y
    go true e = refl
    go false e = cc
