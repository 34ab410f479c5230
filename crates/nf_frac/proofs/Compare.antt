-- The order of two quotients.
use Rattle.std.proofs.Common.{◌≡◌, ◌≢◌, ℕ, zero, suc, ◌+◌, ◌*◌, ◌/◌, ◌%◌, ◌<◌, ◌≤◌, ◌⊎◌, inl, inr, ⊎_elim, refl, sym, ◌∙◌, ap, subst, arith, Less, Equal}
use Rattle.std.proofs.Common.{Greater, ℤ, pos, negsuc, ◌*ℤ◌, ◌<ℤ◌, ◌≤ℤ◌, neg_ℤ, nat_abs, Bool, true, false, cond}
use Rattle.nf_frac.proofs.Common.{nat_cmp, int_cmp, MatchOrdering, Ordering, int_ranks, int_cmp_is, ℚ, cmp_ℚ, lt-times, le-times, pos_in}
use mathlib.Core.Path.{ap₂}
use native.Mathlib.Nat.{div-add-mod, mod-lt, mul-le-mul_right, mul-lt-mul_of_pos_right}
use lib.IntN.{zero-*ℤ}
use lib.Signed.{lt_z}
use borrow.Author.Differences.{ints}
use Rattle.nf_rational_laws.proofs.Naturals.{compared}

pub cmp_less : (x y : ℕ) → x < y → nat_cmp x y ≡ Less
cmp_less x y h = grind arith

pub cmp_greater : (x y : ℕ) → y < x → nat_cmp x y ≡ Greater
cmp_greater x y h = grind arith

pub cmp_equal : (x y : ℕ) → x ≡ y → nat_cmp x y ≡ Equal
cmp_equal x y h = grind arith

-- adding the same number to both sides preserves the order
pub cmp_shift : (k u v : ℕ) → nat_cmp (k + u) (k + v) ≡ nat_cmp u v
cmp_shift k u v = ⊎_elim
    (λ (h : u < v). cmp_less (k + u) (k + v) (omega arith) ∙ sym (cmp_less u v h))
    (λ (w : (u ≡ v) ⊎ (v < u)). ⊎_elim
    (λ (h : u ≡ v). cmp_equal (k + u) (k + v) (omega arith) ∙ sym (cmp_equal u v h))
    (λ (h : v < u). cmp_greater (k + u) (k + v) (omega arith) ∙ sym (cmp_greater u v h)) w)
    (compared u v)

whole_less : (a b c d q p r s : ℕ) → b * q + r ≡ a → d * p + s ≡ c → r < b → 0 < d → q < p → a * d < c * b
whole_less a b c d q p r s e f h some less =
    let x : (b * q + r) * d < (b * q + b) * d = mul-lt-mul_of_pos_right {m = b * q + r} {n = b * q + b} {k = d} (omega arith) some in
    let y : (q + 1) * (b * d) ≤ p * (b * d) = mul-le-mul_right {m = q + 1} {n = p} (b * d) (omega arith) in
    let z : a * d ≡ (b * q + r) * d = ap (λ (t : ℕ). t * d) (sym e) in
    let w : c * b ≡ (d * p + s) * b = ap (λ (t : ℕ). t * b) (sym f) in
    omega arith

pub quotients_less : (a b c d : ℕ) → 0 < b → 0 < d → a / b < c / d → a * d < c * b
quotients_less a b c d h k less = whole_less a b c d (a / b) (c / d) (a % b) (c % d) (div-add-mod a b) (div-add-mod c d) (mod-lt a h) k less

pub decided : (a b c d : ℕ) → 0 < b → 0 < d → a / b ≢ c / d → nat_cmp (a / b) (c / d) ≡ nat_cmp (a * d) (c * b)
decided a b c d h k n = ⊎_elim
    (λ (l : a / b < c / d). cmp_less _ _ l ∙ sym (cmp_less _ _ (quotients_less a b c d h k l)))
    (λ (w : (a / b ≡ c / d) ⊎ (c / d < a / b)). ⊎_elim
    (λ (e : a / b ≡ c / d). absurd (n e))
    (λ (l : c / d < a / b). cmp_greater _ _ l ∙ sym (cmp_greater _ _ (quotients_less c d a b k h l))) w)
    (compared (a / b) (c / d))

same_whole : (a b c d q r s : ℕ) → b * q + r ≡ a → d * q + s ≡ c → nat_cmp (a * d) (c * b) ≡ nat_cmp (r * d) (s * b)
same_whole a b c d q r s e f =
    let x : a * d ≡ b * q * d + r * d = ap (λ (t : ℕ). t * d) (sym e) ∙ spread b q r d in
    let y : c * b ≡ b * q * d + s * b = ap (λ (t : ℕ). t * b) (sym f) ∙ spread' b q s d in
    ap₂ nat_cmp x y ∙ cmp_shift (b * q * d) (r * d) (s * b)
  where
    spread : (b q r d : ℕ) → (b * q + r) * d ≡ b * q * d + r * d
    spread b q r d = omega arith

    spread' : (b q s d : ℕ) → (d * q + s) * b ≡ b * q * d + s * b
    spread' b q s d = omega arith

-- if the quotients are equal, the order is that of the remainders
pub left_over : (a b c d : ℕ) → a / b ≡ c / d → nat_cmp (a * d) (c * b) ≡ nat_cmp (a % b * d) (c % d * b)
left_over a b c d e = same_whole a b c d (a / b) (a % b) (c % d) (div-add-mod a b) (ap (λ (t : ℕ). d * t + c % d) e ∙ div-add-mod c d)

pub turned : (a b c d : ℕ) → a / b ≡ c / d → nat_cmp (d * (a % b)) (b * (c % d)) ≡ nat_cmp (a * d) (c * b)
turned a b c d e = ap₂ nat_cmp (swapped d (a % b)) (swapped b (c % d)) ∙ sym (left_over a b c d e)
  where
    swapped : (x y : ℕ) → x * y ≡ y * x
    swapped x y = omega arith

-- the case that a remainder is 0
rest_zero : (r s b d : ℕ) → 0 < b → 0 < d → (r ≡ 0) ⊎ (s ≡ 0) → nat_cmp r s ≡ nat_cmp (r * d) (s * b)
rest_zero zero zero b d h k w = ap₂ nat_cmp (zero_times d) (zero_times b)
  where
    zero_times : (x : ℕ) → 0 ≡ 0 * x
    zero_times x = omega arith
rest_zero zero (suc s) b d h k w = cmp_less 0 (suc s) (omega arith) ∙ sym (cmp_less (0 * d) (suc s * b) (positive b s h d))
  where
    positive : (b s : ℕ) → 0 < b → (d : ℕ) → 0 * d < suc s * b
    positive b s h d = omega arith
rest_zero (suc r) zero b d h k w = cmp_greater (suc r) 0 (omega arith) ∙ sym (cmp_greater (suc r * d) (0 * b) (positive d r k b))
  where
    positive : (d r : ℕ) → 0 < d → (b : ℕ) → 0 * b < suc r * d
    positive d r k b = omega arith
rest_zero (suc r) (suc s) b d h k w = absurd (neither w)
  where
    neither : (suc r ≡ 0) ⊎ (suc s ≡ 0) → ⊥
    neither w = omega arith

pub ended : (a b c d : ℕ) → 0 < b → 0 < d → a / b ≡ c / d → (a % b ≡ 0) ⊎ (c % d ≡ 0) → nat_cmp (a % b) (c % d) ≡ nat_cmp (a * d) (c * b)
ended a b c d h k e w = rest_zero (a % b) (c % d) b d h k w ∙ sym (left_over a b c d e)

-- the result of a test by `||`
pub one_of : {P Q : Type 0} → P ⊎ ((P → ⊥) × Q) → P ⊎ Q
one_of (inl p) = inl p
one_of (inr w) = inr w.1

-- ---- with signs
int_less : (a b : ℤ) → a <ℤ b → int_cmp a b ≡ Less
int_less a b h = go (lt_z a b) refl
  where
    no : (a b : ℤ) → a <ℤ b → lt_z a b ≡ false → ⊥
    no a b h e = omega (arith, ints)

    go : (t : Bool) → lt_z a b ≡ t → int_cmp a b ≡ Less
    go true e = ap (λ (t : Bool). cond t Less (cond (lt_z b a) Greater Equal)) e
    go false e = absurd (no a b h e)

int_greater : (a b : ℤ) → b <ℤ a → int_cmp a b ≡ Greater
int_greater a b h = ap₂ (λ (t : Bool) (u : Bool). cond t Less (cond u Greater Equal)) (no (lt_z a b) refl) (yes_so (lt_z b a) refl)
  where
    wrong : (a b : ℤ) → b <ℤ a → lt_z a b ≡ true → ⊥
    wrong a b h e = omega (arith, ints)

    wrong' : (a b : ℤ) → b <ℤ a → lt_z b a ≡ false → ⊥
    wrong' a b h e = omega (arith, ints)

    no : (t : Bool) → lt_z a b ≡ t → lt_z a b ≡ false
    no true e = absurd (wrong a b h e)
    no false e = e

    yes_so : (t : Bool) → lt_z b a ≡ t → lt_z b a ≡ true
    yes_so true e = e
    yes_so false e = absurd (wrong' a b h e)

int_equal : (a : ℤ) → int_cmp a a ≡ Equal
int_equal a = ap (λ (t : Bool). cond t Less (cond t Greater Equal)) (no (lt_z a a) refl)
  where
    wrong : (a : ℤ) → lt_z a a ≡ true → ⊥
    wrong a e = omega (arith, ints)

    no : (t : Bool) → lt_z a a ≡ t → lt_z a a ≡ false
    no true e = absurd (wrong a e)
    no false e = e

up_is : (u v : ℕ) → nat_cmp u v ≡ int_cmp (pos u) (pos v)
up_is u v = ⊎_elim
    (λ (h : u < v). cmp_less u v h ∙ sym (int_less (pos u) (pos v) (omega (arith, ints))))
    (λ (w : (u ≡ v) ⊎ (v < u)). ⊎_elim
    (λ (h : u ≡ v). cmp_equal u v h ∙ sym (ap (λ (k : ℕ). int_cmp (pos k) (pos v)) h ∙ int_equal (pos v)))
    (λ (h : v < u). cmp_greater u v h ∙ sym (int_greater (pos u) (pos v) (omega (arith, ints)))) w)
    (compared u v)

down_is : (u v : ℕ) → nat_cmp v u ≡ int_cmp (neg_ℤ (pos u)) (neg_ℤ (pos v))
down_is u v = ⊎_elim
    (λ (h : u < v). cmp_greater v u h ∙ sym (int_greater (neg_ℤ (pos u)) (neg_ℤ (pos v)) (omega (arith, ints))))
    (λ (w : (u ≡ v) ⊎ (v < u)). ⊎_elim
    (λ (h : u ≡ v). cmp_equal v u (sym h) ∙ sym (ap (λ (k : ℕ). int_cmp (neg_ℤ (pos k)) (neg_ℤ (pos v))) h ∙ int_equal (neg_ℤ (pos v))))
    (λ (h : v < u). cmp_less v u h ∙ sym (int_less (neg_ℤ (pos u)) (neg_ℤ (pos v)) (omega (arith, ints)))) w)
    (compared u v)

-- the four cases of the signs
pub both_not_negative : (n m : ℤ) (d e : ℕ) → lt_z n (pos 0) ≡ false → lt_z m (pos 0) ≡ false → nat_cmp (nat_abs n * e) (nat_abs m * d) ≡ int_cmp (n *ℤ pos e) (m *ℤ pos d)
both_not_negative (pos n) (pos m) d e h k = up_is (n * e) (m * d)
both_not_negative (pos n) (negsuc m) d e h k = absurd (cc k)
both_not_negative (negsuc n) m d e h k = absurd (cc h)

pub both_negative : (n m : ℤ) (d e : ℕ) → lt_z n (pos 0) ≡ true → lt_z m (pos 0) ≡ true → nat_cmp (nat_abs m * d) (nat_abs n * e) ≡ int_cmp (n *ℤ pos e) (m *ℤ pos d)
both_negative (pos n) m d e h k = absurd (none n h)
  where
    none : (n : ℕ) → lt_z (pos n) (pos 0) ≡ true → ⊥
    none n e = omega (arith, ints)
both_negative (negsuc n) (pos m) d e h k = absurd (none m k)
  where
    none : (n : ℕ) → lt_z (pos n) (pos 0) ≡ true → ⊥
    none n e = omega (arith, ints)
both_negative (negsuc n) (negsuc m) d e h k = down_is (suc n * e) (suc m * d)

below_zero : (n : ℤ) (e : ℕ) → 0 < e → lt_z n (pos 0) ≡ true → (n *ℤ pos e) <ℤ pos 0
below_zero n e some h = subst (λ (z : ℤ). (n *ℤ pos e) <ℤ z) (zero-*ℤ (pos e)) (lt-times n (pos 0) (pos e) (pos_in e some) (so n h))
  where
    so : (n : ℤ) → lt_z n (pos 0) ≡ true → n <ℤ pos 0
    so n h = omega (arith, ints)

not_below_zero : (m : ℤ) (d : ℕ) → lt_z m (pos 0) ≡ false → pos 0 ≤ℤ (m *ℤ pos d)
not_below_zero m d h = subst (λ (z : ℤ). z ≤ℤ (m *ℤ pos d)) (zero-*ℤ (pos d)) (le-times (pos 0) m (pos d) (natural d) (so m h))
  where
    so : (m : ℤ) → lt_z m (pos 0) ≡ false → pos 0 ≤ℤ m
    so m h = omega (arith, ints)

    natural : (d : ℕ) → pos 0 ≤ℤ pos d
    natural d = omega (arith, ints)

join_lt : (a b : ℤ) → a <ℤ pos 0 → pos 0 ≤ℤ b → a <ℤ b
join_lt a b h k = omega (arith, ints)

pub left_negative : (n m : ℤ) (d e : ℕ) → 0 < e → lt_z n (pos 0) ≡ true → lt_z m (pos 0) ≡ false → Less ≡ int_cmp (n *ℤ pos e) (m *ℤ pos d)
left_negative n m d e some h k = sym (int_less _ _ (join_lt _ _ (below_zero n e some h) (not_below_zero m d k)))

pub right_negative : (n m : ℤ) (d e : ℕ) → 0 < d → lt_z n (pos 0) ≡ false → lt_z m (pos 0) ≡ true → Greater ≡ int_cmp (n *ℤ pos e) (m *ℤ pos d)
right_negative n m d e some h k = sym (int_greater _ _ (join_lt _ _ (below_zero m d some k) (not_below_zero n e h)))

-- ---- for the parts of two numbers
pub cmp_is : (x y : ℚ) (n m : ℤ) (d e : ℕ) → n ≡ x.num → m ≡ y.num → x.den ≡ d → y.den ≡ e → int_cmp (n *ℤ pos e) (m *ℤ pos d) ≡ cmp_ℚ x y
cmp_is x y n m d e xn yn xd yd = ap₂ int_cmp (ap₂ (λ (z : ℤ) (t : ℕ). z *ℤ pos t) xn (sym yd)) (ap₂ (λ (z : ℤ) (t : ℕ). z *ℤ pos t) yn (sym xd))

-- if the denominators are equal, the order of the fractions is that of the numerators
pub over_same : (a b : ℤ) (d : ℕ) → 0 < d → int_cmp a b ≡ int_cmp (a *ℤ pos d) (b *ℤ pos d)
over_same a b d some = int_cmp_is (a *ℤ pos d) (b *ℤ pos d) (int_cmp a b) (go (int_cmp a b) (int_ranks a b))
  where
    go : (r : Ordering) → MatchOrdering r (a <ℤ b) (a ≡ b) (b <ℤ a) → MatchOrdering r ((a *ℤ pos d) <ℤ (b *ℤ pos d)) (a *ℤ pos d ≡ b *ℤ pos d) ((b *ℤ pos d) <ℤ (a *ℤ pos d))
    go Less h = lt-times a b (pos d) (pos_in d some) h
    go Equal h = ap (λ (z : ℤ). z *ℤ pos d) h
    go Greater h = lt-times b a (pos d) (pos_in d some) h
