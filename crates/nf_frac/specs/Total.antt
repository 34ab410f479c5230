-- Theorems on the order and equality of rational numbers that the standard library's comparison traits require.
use Rattle.std.proofs.Common.{◌≡◌, Bool, true, false, ◌&&◌, eqb, pos, ◌*ℤ◌, ◌<ℤ◌, [], ◌∷◌, ◌++◌, refl, sym, ◌∙◌, ap}
use mathlib.Core.Path.{ap₂}
use Rattle.std.specs.Prelude.{◌↔◌, IsTrue, Some}
use Rattle.std.specs.Bool.{Decides, one_answer}
use Rattle.std.specs.Ordering.{int_eq, is_eq, MatchOrdering}
use Rattle.std.specs.declared.cmp.Ordering.{Ordering}
use Rattle.std.specs.declared.cmp.Ordering.TheVariants.{Less, Equal, Greater}
use Rattle.std.specs.Cmp.{IsTotalOrder, IsEquivalence, IsPartialEquivalence, IsPartialOrder, partial_equiv_from_equiv, strict, one_rank, decided, po, int_ranks, signed_Decides, unsigned_Decides}
use Rattle.std.specs.Hash as fed
use Rattle.nf_rational.specs.Rational.{ℚ, same_parts}
use Rattle.nf_rational.specs.Operations.{0ℚ, ◌+ℚ◌, ◌-ℚ◌, ◌*ℚ◌}
use Rattle.nf_rational.specs.Order.{cmp_ℚ, ◌<ℚ◌}
use Rattle.nf_rational_laws.proofs.Polynomial.{reading_of}
use Rattle.nf_rational_laws.proofs.Linear.{lt, eq, linear_lt}
use Rattle.nf_rational_laws.proofs.Order.{<ℚ_irrefl, less_ps, ps_times}
use Rattle.nf_rational_laws.proofs.Ratio.{same_cross}
use Rattle.nf_frac.specs.Order.{same_ℚ}

-- ---- the order
pub ranks_ℚ : (x y : ℚ) → MatchOrdering (cmp_ℚ x y) (x <ℚ y) (x ≡ y) (y <ℚ x)
ranks_ℚ x y = go (cmp_ℚ x y) (int_ranks (x.num *ℤ pos y.den) (y.num *ℤ pos x.den))
  where
    go : (r : Ordering) → MatchOrdering r ((x.num *ℤ pos y.den) <ℤ (y.num *ℤ pos x.den)) (x.num *ℤ pos y.den ≡ y.num *ℤ pos x.den)
        ((y.num *ℤ pos x.den) <ℤ (x.num *ℤ pos y.den))
        → MatchOrdering r (x <ℚ y) (x ≡ y) (y <ℚ x)
    go Less h = record { lt = h }
    go Equal h = same_cross x y h
    go Greater h = record { lt = h }

<ℚ_chain : (x y z : ℚ) → x <ℚ y → y <ℚ z → x <ℚ z
<ℚ_chain x y z h k = linear_lt (x ∷ y ∷ z ∷ []) (lt h ∷ lt k ∷ []) (search reading_of depth 12) tt

pub cmp_total : IsTotalOrder cmp_ℚ
cmp_total = strict ◌<ℚ◌ <ℚ_irrefl <ℚ_chain cmp_ℚ ranks_ℚ

-- ---- equality
both_true : (a b : Bool) → (a && b) ≡ true → (a ≡ true) × (b ≡ true)
both_true true b e = (refl, e)
both_true false b e = cc

pub same_decides : (x y : ℚ) → Decides (same_ℚ x y) (x ≡ y)
same_decides x y = (
  λ e. let h = both_true (int_eq x.num y.num) (eqb x.den y.den) e in
      same_parts x y ((signed_Decides x.num y.num).0 h.0) ((unsigned_Decides x.den y.den).0 h.1),
  λ e. ap₂ (λ (a b : Bool). a && b) ((signed_Decides x.num y.num).1 (ap (λ (q : ℚ). q.num) e))
      ((unsigned_Decides x.den y.den).1 (ap (λ (q : ℚ). q.den) e)),
)

level_decides : (x y : ℚ) → Decides (is_eq (cmp_ℚ x y)) (x ≡ y)
level_decides x y = (
  λ e. level (cmp_ℚ x y) (ranks_ℚ x y) e,
  λ e. ap is_eq (ap (λ (z : ℚ). cmp_ℚ x z) (sym e) ∙ level_itself x),
)
  where
    level : (r : Ordering) → MatchOrdering r (x <ℚ y) (x ≡ y) (y <ℚ x) → is_eq r ≡ true → x ≡ y
    level Less h e = cc
    level Equal h e = h
    level Greater h e = cc

    itself : (z : ℚ) (r : Ordering) → MatchOrdering r (z <ℚ z) (z ≡ z) (z <ℚ z) → r ≡ Equal
    itself z Less h = absurd (<ℚ_irrefl z h)
    itself z Equal h = refl
    itself z Greater h = absurd (<ℚ_irrefl z h)

    level_itself : (z : ℚ) → cmp_ℚ z z ≡ Equal
    level_itself z = itself z (cmp_ℚ z z) (ranks_ℚ z z)

pub cmp_matches_same : (x y : ℚ) → same_ℚ x y ≡ is_eq (cmp_ℚ x y)
cmp_matches_same x y = one_answer (same_ℚ x y) (is_eq (cmp_ℚ x y)) (same_decides x y) (level_decides x y)

pub same_equivalence : IsEquivalence same_ℚ
same_equivalence = decided same_ℚ same_decides

pub same_partial_equivalence : IsPartialEquivalence same_ℚ
same_partial_equivalence = partial_equiv_from_equiv same_equivalence

pub partial_order : IsPartialOrder same_ℚ (λ x y. Some (cmp_ℚ x y))
partial_order = po cmp_total cmp_matches_same

-- ---- the input of the hash
pub same_hash : (x y : ℚ) → IsTrue (same_ℚ x y) → fed.i128 x.num ++ fed.u128 x.den ≡ fed.i128 y.num ++ fed.u128 y.den
same_hash x y t = ap (λ (q : ℚ). fed.i128 q.num ++ fed.u128 q.den) ((same_decides x y).0 t)

pub same_small_hash : (x y : ℚ) → IsTrue (same_ℚ x y) → fed.i64 x.num ++ fed.u64 x.den ≡ fed.i64 y.num ++ fed.u64 y.den
same_small_hash x y t = ap (λ (q : ℚ). fed.i64 q.num ++ fed.u64 q.den) ((same_decides x y).0 t)

-- ---- the theorems that `Scalar` requires
pub same_values : (x y : ℚ) → IsTrue (same_ℚ x y) ↔ (x ≡ y)
same_values x y = ((same_decides x y).0, (same_decides x y).1)

pub same_input : (x y : ℚ) → x ≡ y → fed.i128 x.num ++ fed.u128 x.den ≡ fed.i128 y.num ++ fed.u128 y.den
same_input x y e = ap (λ (q : ℚ). fed.i128 q.num ++ fed.u128 q.den) e

pub same_small_input : (x y : ℚ) → x ≡ y → fed.i64 x.num ++ fed.u64 x.den ≡ fed.i64 y.num ++ fed.u64 y.den
same_small_input x y e = ap (λ (q : ℚ). fed.i64 q.num ++ fed.u64 q.den) e

-- the order is determined by its three cases
pub cmp_is : (x y : ℚ) (r : Ordering) → MatchOrdering r (x <ℚ y) (x ≡ y) (y <ℚ x) → r ≡ cmp_ℚ x y
cmp_is x y r h = one_rank ◌<ℚ◌ <ℚ_irrefl <ℚ_chain x y r (cmp_ℚ x y) h (ranks_ℚ x y)

keeps : (x y s t : ℚ) (r : Ordering) → MatchOrdering r (x <ℚ y) (x ≡ y) (y <ℚ x) → (x <ℚ y → s <ℚ t) → (x ≡ y → s ≡ t) → (y <ℚ x → t <ℚ s)
    → MatchOrdering r (s <ℚ t) (s ≡ t) (t <ℚ s)
keeps x y s t Less h f g k = f h
keeps x y s t Equal h f g k = g h
keeps x y s t Greater h f g k = k h

sum_up : (x y z s t : ℚ) → s ≡ x +ℚ z → t ≡ y +ℚ z → x <ℚ y → s <ℚ t
sum_up x y z s t e f h = linear_lt (x ∷ y ∷ z ∷ s ∷ t ∷ []) (lt h ∷ eq e ∷ eq f ∷ []) (search reading_of depth 12) tt

pub sum_keeps_cmp : (x y z s t : ℚ) → s ≡ x +ℚ z → t ≡ y +ℚ z → cmp_ℚ s t ≡ cmp_ℚ x y
sum_keeps_cmp x y z s t e f =
    sym (cmp_is s t (cmp_ℚ x y)
    (keeps x y s t (cmp_ℚ x y) (ranks_ℚ x y) (sum_up x y z s t e f) (λ h. e ∙ ap (λ (q : ℚ). q +ℚ z) h ∙ sym f) (sum_up y x z t s f e)))

product_up : (x y k s t : ℚ) → 0ℚ <ℚ k → s ≡ x *ℚ k → t ≡ y *ℚ k → x <ℚ y → s <ℚ t
product_up x y k s t p e f h =
    let positive : 0ℚ <ℚ (y -ℚ x) *ℚ k = ps_times (y -ℚ x) k (less_ps x y h) p in
    linear_lt (x ∷ y ∷ k ∷ s ∷ t ∷ []) (lt positive ∷ eq e ∷ eq f ∷ []) (search reading_of depth 12) tt

pub product_keeps_cmp : (x y k s t : ℚ) → 0ℚ <ℚ k → s ≡ x *ℚ k → t ≡ y *ℚ k → cmp_ℚ s t ≡ cmp_ℚ x y
product_keeps_cmp x y k s t p e f =
    sym (cmp_is s t (cmp_ℚ x y) (keeps x y s t (cmp_ℚ x y) (ranks_ℚ x y) (product_up x y k s t p e f)
    (λ h. e ∙ ap (λ (q : ℚ). q *ℚ k) h ∙ sym f) (product_up y x k t s p f e)))
