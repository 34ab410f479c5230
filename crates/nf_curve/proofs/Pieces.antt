-- The divisors of the operations on a piece of a curve are not 0.
use Rattle.std.proofs.Common.{◌≡◌, ◌≢◌, [], ◌∷◌, true, sym, ◌∙◌, Ok}
use Rattle.nf_curve.proofs.Common.{ℚ, 0ℚ, ◌-ℚ◌, ◌*ℚ◌, ◌<ℚ◌, Passing, Checked, checked, Difference, Point, slope, Sides, checked_slope, is_crossed}
use Rattle.nf_curve.proofs.Common.{checked-is, checked_slope-is, Crossing, rises, falls, left_below, right_below, is_crossed-is}
use Rattle.nf_rational_laws.proofs.Polynomial.{reading_of}
use Rattle.nf_rational_laws.proofs.Linear.{lt, eq, eq_times, linear_eq, linear_false}
use Rattle.nf_model_laws.proofs.Curves.{slope-times}

-- the times of two points differ, one after the other
pub run_apart : (passes : Passing) (s t run : ℚ) → s <ℚ t → checked passes Difference t s ≡ Ok run → run ≢ 0ℚ
run_apart passes s t run h e zero =
    let d : run ≡ t -ℚ s = checked-is passes Difference t s run e in
    linear_false (s ∷ t ∷ run ∷ []) (lt h ∷ eq d ∷ eq zero ∷ []) (search reading_of depth 12) tt

-- a line through points of different values isn't level
pub slope_apart : (passes : Passing) (p q : Point) (k : ℚ) → p.0 <ℚ q.0 → p.1 ≢ q.1 → checked_slope passes p q ≡ Ok k → k ≢ 0ℚ
slope_apart passes p q k h apart e zero = apart (level p.0 p.1 q.0 q.1 (slope p q) (slope-times p q h) (sym (checked_slope-is passes p q k e) ∙ zero))
  where
    level : (s x t y k : ℚ) → k *ℚ (t -ℚ s) ≡ y -ℚ x → k ≡ 0ℚ → x ≡ y
    level s x t y k i j = linear_eq (s ∷ x ∷ t ∷ y ∷ k ∷ []) (eq i ∷ eq_times (t -ℚ s) j ∷ []) (search reading_of depth 12) tt tt

-- the difference of two curves changes at a crossing
pub change_apart : (passes : Passing) (a b : Sides) (before after change : ℚ) (r s t : Checked ℚ) → is_crossed a b ≡ true → t ≡ Ok change → t ≡ checked passes Difference before after
    → r ≡ Ok before → r ≡ checked passes Difference a.left a.right → s ≡ Ok after → s ≡ checked passes Difference b.left b.right → change ≢ 0ℚ
change_apart passes a b before after change r s u t e1 e2 f1 f2 g1 g2 zero =
    let d : before ≡ a.left -ℚ a.right = checked-is passes Difference a.left a.right before (sym f2 ∙ f1) in
    let k : after ≡ b.left -ℚ b.right = checked-is passes Difference b.left b.right after (sym g2 ∙ g1) in
    let l : change ≡ before -ℚ after = checked-is passes Difference before after change (sym e2 ∙ e1) in
    go (is_crossed a b) t d k l (is_crossed-is a b)
  where
    go : (c : _) → c ≡ true → before ≡ a.left -ℚ a.right → after ≡ b.left -ℚ b.right → change ≡ before -ℚ after → Crossing a.left a.right b.left b.right c → ⊥
    go c s d k l (rises p q) = linear_false (a.left ∷ a.right ∷ b.left ∷ b.right ∷ before ∷ after ∷ change ∷ [])
        (lt p ∷ lt q ∷ eq d ∷ eq k ∷ eq l ∷ eq zero ∷ []) (search reading_of depth 12) tt
    go c s d k l (falls p q) = linear_false (a.left ∷ a.right ∷ b.left ∷ b.right ∷ before ∷ after ∷ change ∷ [])
        (lt p ∷ lt q ∷ eq d ∷ eq k ∷ eq l ∷ eq zero ∷ []) (search reading_of depth 12) tt
    go c s d k l (left_below p q) = absurd (cc)
    go c s d k l (right_below p q) = absurd (cc)
