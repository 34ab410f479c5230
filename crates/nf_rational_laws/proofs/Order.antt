-- The order of the rational numbers.
use Rattle.std.proofs.Common.{◌≡◌, ℕ, suc, [], ◌∷◌, ◌⊎◌, inl, inr, ⊎_elim, refl, subst, arith}
use Rattle.nf_rational_laws.proofs.Common.{ℚ, 0ℚ, ◌+ℚ◌, ◌-ℚ◌, ◌*ℚ◌, ◌≤ℚ◌, ◌<ℚ◌}
use lib.IntN.{ℤ, pos, negsuc, ◌+ℤ◌, ◌-ℤ◌, ◌*ℤ◌, neg_ℤ, zero-*ℤ}
use lib.Signed.{◌≤ℤ◌, ◌<ℤ◌, clash_ℤ}
use borrow.Author.Differences.{ints}
use Rattle.nf_rational_laws.proofs.Ints.{pos_in, le-times, lt-times, le-cancel, lt-cancel, lt_or_le, pos-times}
use Rattle.nf_rational.specs.Gcd.{gcd}
use Rattle.nf_rational_laws.proofs.Polynomial.{ring, reading}
use Rattle.nf_rational_laws.proofs.IntegerRing.{ints_ring}
use Rattle.nf_rational.specs.Rational.{ratio}
use Rattle.nf_rational_laws.proofs.Ratio.{same_cross, Is, Is-self, Is-plus, Is-times, Is-less, Is-whole}
use Rattle.nf_rational.specs.Operations.{whole}

pub zero_num : 0ℚ.num ≡ pos 0
unfolding whole ratio gcd
zero_num = refl

pub zero_den : 0ℚ.den ≡ 1
unfolding whole ratio gcd
zero_den = refl

-- ---- the sign of x is that of n
pub times_one : (a : ℤ) → a *ℤ pos 1 ≡ a
times_one a = ring ints_ring (a ∷ []) (search reading depth 30) tt

nn_self : (x : ℚ) → 0ℚ ≤ℚ x → pos 0 ≤ℤ x.num
nn_self x h =
    let p : (pos 0 *ℤ pos x.den) ≤ℤ (x.num *ℤ pos 1) = rw zero_den at (rw zero_num at h.le) in
    let e : pos 0 *ℤ pos x.den ≡ pos 0 = zero-*ℤ (pos x.den) in
    let f : x.num *ℤ pos 1 ≡ x.num = times_one x.num in
    rw f at (rw e at p)

ps_self : (x : ℚ) → 0ℚ <ℚ x → pos 0 <ℤ x.num
ps_self x h =
    let p : (pos 0 *ℤ pos x.den) <ℤ (x.num *ℤ pos 1) = rw zero_den at (rw zero_num at h.lt) in
    let e : pos 0 *ℤ pos x.den ≡ pos 0 = zero-*ℤ (pos x.den) in
    let f : x.num *ℤ pos 1 ≡ x.num = times_one x.num in
    rw f at (rw e at p)

self_nn : (x : ℚ) → pos 0 ≤ℤ x.num → 0ℚ ≤ℚ x
self_nn x h = record { le = rw (zero_num, zero_den) (rw (zero-*ℤ (pos x.den), times_one x.num) h) }

self_ps : (x : ℚ) → pos 0 <ℤ x.num → 0ℚ <ℚ x
self_ps x h = record { lt = rw (zero_num, zero_den) (rw (zero-*ℤ (pos x.den), times_one x.num) h) }

pub nn_out : {x : ℚ} (n d : ℤ) → Is x n d → 0ℚ ≤ℚ x → pos 0 ≤ℤ n
nn_out {x} n d p h =
    let q : (pos 0 *ℤ d) ≤ℤ (x.num *ℤ d) = le-times (pos 0) x.num d (weak (pos 0) d p.some) (nn_self x h) in
    le-cancel (pos 0) n (pos x.den) (pos_in x.den x.positive)
    (rw (zero-*ℤ (pos x.den), ← p.cross, ← zero-*ℤ d) q)
  where
    weak : (a b : ℤ) → a <ℤ b → a ≤ℤ b
    weak a b h = omega (arith, ints)

pub nn_in : {x : ℚ} (n d : ℤ) → Is x n d → pos 0 ≤ℤ n → 0ℚ ≤ℚ x
nn_in {x} n d p h =
    let q : (pos 0 *ℤ pos x.den) ≤ℤ (n *ℤ pos x.den) = le-times (pos 0) n (pos x.den) (weak (pos 0) (pos x.den) (pos_in x.den x.positive)) h in
    self_nn x (le-cancel (pos 0) x.num d p.some (rw (zero-*ℤ d, p.cross, ← zero-*ℤ (pos x.den)) q))
  where
    weak : (a b : ℤ) → a <ℤ b → a ≤ℤ b
    weak a b h = omega (arith, ints)

pub ps_out : {x : ℚ} (n d : ℤ) → Is x n d → 0ℚ <ℚ x → pos 0 <ℤ n
ps_out {x} n d p h =
    let q : (pos 0 *ℤ d) <ℤ (x.num *ℤ d) = lt-times (pos 0) x.num d p.some (ps_self x h) in
    lt-cancel (pos 0) n (pos x.den) (pos_in x.den x.positive)
    (rw (zero-*ℤ (pos x.den), ← p.cross, ← zero-*ℤ d) q)

pub ps_in : {x : ℚ} (n d : ℤ) → Is x n d → pos 0 <ℤ n → 0ℚ <ℚ x
ps_in {x} n d p h =
    let q : (pos 0 *ℤ pos x.den) <ℤ (n *ℤ pos x.den) = lt-times (pos 0) n (pos x.den) (pos_in x.den x.positive) h in
    self_ps x (lt-cancel (pos 0) x.num d p.some (rw (zero-*ℤ d, p.cross, ← zero-*ℤ (pos x.den)) q))

-- ---- x ≤ y when y - x is not negative
pub shifted_le : (a b : ℤ) → a ≤ℤ b → pos 0 ≤ℤ (b -ℤ a)
shifted_le a b h = omega (arith, ints)

shifted_lt : (a b : ℤ) → a <ℤ b → pos 0 <ℤ (b -ℤ a)
shifted_lt a b h = omega (arith, ints)

difference : (n d m e : ℤ) → m *ℤ d -ℤ n *ℤ e ≡ m *ℤ d +ℤ neg_ℤ n *ℤ e
difference n d m e = ring ints_ring (n ∷ d ∷ m ∷ e ∷ []) (search reading depth 30) tt

pub less_nn : (x y : ℚ) → x ≤ℚ y → 0ℚ ≤ℚ y -ℚ x
less_nn x y h = nn_in _ _ (Is-less _ _ _ _ (Is-self y) (Is-self x)) (subst (λ (k : ℤ). pos 0 ≤ℤ k) (difference x.num (pos x.den) y.num (pos y.den)) (shifted_le _ _ h.le))

pub less_ps : (x y : ℚ) → x <ℚ y → 0ℚ <ℚ y -ℚ x
less_ps x y h = ps_in _ _ (Is-less _ _ _ _ (Is-self y) (Is-self x)) (subst (λ (k : ℤ). pos 0 <ℤ k) (difference x.num (pos x.den) y.num (pos y.den)) (shifted_lt _ _ h.lt))

-- ---- sums and products preserve the order
nn-sum : (a b : ℤ) → pos 0 ≤ℤ a → pos 0 ≤ℤ b → pos 0 ≤ℤ (a +ℤ b)
nn-sum a b h k = omega (arith, ints)

ps-sum : (a b : ℤ) → pos 0 <ℤ a → pos 0 ≤ℤ b → pos 0 <ℤ (a +ℤ b)
ps-sum a b h k = omega (arith, ints)

nn-times : (a b : ℤ) → pos 0 ≤ℤ a → pos 0 ≤ℤ b → pos 0 ≤ℤ (a *ℤ b)
nn-times (pos a) (pos b) h k = omega (arith, ints)
nn-times (pos a) (negsuc b) h k = absurd k.le
nn-times (negsuc a) b h k = absurd h.le

nn_of_ps : (a : ℤ) → pos 0 <ℤ a → pos 0 ≤ℤ a
nn_of_ps a h = omega (arith, ints)

nn_plus' : {x y : ℚ} (n d m e : ℤ) → Is x n d → Is y m e → 0ℚ ≤ℚ x → 0ℚ ≤ℚ y → 0ℚ ≤ℚ x +ℚ y
nn_plus' n d m e p q h k =
    nn_in _ _ (Is-plus n d m e p q) (nn-sum (n *ℤ e) (m *ℤ d) (nn-times n e (nn_out n d p h) (nn_of_ps e q.some))
    (nn-times m d (nn_out m e q k) (nn_of_ps d p.some)))

pub nn_plus : (x y : ℚ) → 0ℚ ≤ℚ x → 0ℚ ≤ℚ y → 0ℚ ≤ℚ x +ℚ y
nn_plus x y h k = nn_plus' _ _ _ _ (Is-self x) (Is-self y) h k

ps_plus' : {x y : ℚ} (n d m e : ℤ) → Is x n d → Is y m e → 0ℚ <ℚ x → 0ℚ ≤ℚ y → 0ℚ <ℚ x +ℚ y
ps_plus' n d m e p q h k = ps_in _ _ (Is-plus n d m e p q) (ps-sum (n *ℤ e) (m *ℤ d) (pos-times n e (ps_out n d p h) q.some) (nn-times m d (nn_out m e q k) (nn_of_ps d p.some)))

pub ps_plus : (x y : ℚ) → 0ℚ <ℚ x → 0ℚ ≤ℚ y → 0ℚ <ℚ x +ℚ y
ps_plus x y h k = ps_plus' _ _ _ _ (Is-self x) (Is-self y) h k

nn_times' : {x y : ℚ} (n d m e : ℤ) → Is x n d → Is y m e → 0ℚ ≤ℚ x → 0ℚ ≤ℚ y → 0ℚ ≤ℚ x *ℚ y
nn_times' n d m e p q h k = nn_in _ _ (Is-times n d m e p q) (nn-times n m (nn_out n d p h) (nn_out m e q k))

pub nn_times : (x y : ℚ) → 0ℚ ≤ℚ x → 0ℚ ≤ℚ y → 0ℚ ≤ℚ x *ℚ y
nn_times x y h k = nn_times' _ _ _ _ (Is-self x) (Is-self y) h k

ps_times' : {x y : ℚ} (n d m e : ℤ) → Is x n d → Is y m e → 0ℚ <ℚ x → 0ℚ <ℚ y → 0ℚ <ℚ x *ℚ y
ps_times' n d m e p q h k = ps_in _ _ (Is-times n d m e p q) (pos-times n m (ps_out n d p h) (ps_out m e q k))

pub ps_times : (x y : ℚ) → 0ℚ <ℚ x → 0ℚ <ℚ y → 0ℚ <ℚ x *ℚ y
ps_times x y h k = ps_times' _ _ _ _ (Is-self x) (Is-self y) h k

pub nn_whole : (n : ℕ) → 0ℚ ≤ℚ whole (pos n)
nn_whole n = nn_in (pos n) (pos 1) (Is-whole (pos n)) (omega (arith, ints))

pub ps_whole : (n : ℕ) → 0ℚ <ℚ whole (pos (suc n))
ps_whole n = ps_in (pos (suc n)) (pos 1) (Is-whole (pos (suc n))) (omega (arith, ints))

-- ---- one order or the other, and never both
pub lt_or_le_ℚ : (x y : ℚ) → (x <ℚ y) ⊎ (y ≤ℚ x)
lt_or_le_ℚ x y =
    ⊎_elim (λ (h : (x.num *ℤ pos y.den) <ℤ (y.num *ℤ pos x.den)). inl (record { lt = h }))
    (λ (h : (y.num *ℤ pos x.den) ≤ℤ (x.num *ℤ pos y.den)). inr (record { le = h })) (lt_or_le (x.num *ℤ pos y.den) (y.num *ℤ pos x.den))

pub <ℚ_irrefl : (x : ℚ) → x <ℚ x → ⊥
<ℚ_irrefl x h = clash_ℤ h.lt (refl_le (x.num *ℤ pos x.den))
  where
    refl_le : (a : ℤ) → a ≤ℤ a
    refl_le a = omega (arith, ints)

pub ≤ℚ_of_lt : (x y : ℚ) → x <ℚ y → x ≤ℚ y
≤ℚ_of_lt x y h = record { le = weaker _ _ h.lt }
  where
    weaker : (a b : ℤ) → a <ℤ b → a ≤ℤ b
    weaker a b h = omega (arith, ints)

pub ≤ℚ_of_same : (x y : ℚ) → x ≡ y → x ≤ℚ y
≤ℚ_of_same x y e = subst (λ (z : ℚ). x ≤ℚ z) e (record { le = refl_le (x.num *ℤ pos x.den) })
  where
    refl_le : (a : ℤ) → a ≤ℤ a
    refl_le a = omega (arith, ints)

pub ≤ℚ_antisymm : (x y : ℚ) → x ≤ℚ y → y ≤ℚ x → x ≡ y
≤ℚ_antisymm x y h k = same_cross x y (apart (x.num *ℤ pos y.den) (y.num *ℤ pos x.den) h.le k.le)
  where
    apart : (a b : ℤ) → a ≤ℤ b → b ≤ℤ a → a ≡ b
    apart a b h k = omega (arith, ints)

pub some_or_none : (x : ℚ) → 0ℚ ≤ℚ x → (0ℚ <ℚ x) ⊎ (x ≡ 0ℚ)
some_or_none x n = ⊎_elim (λ (h : 0ℚ <ℚ x). inl h) (λ (h : x ≤ℚ 0ℚ). inr (≤ℚ_antisymm _ _ h n)) (lt_or_le_ℚ 0ℚ x)

pub not_both_ℚ : (x y : ℚ) → x <ℚ y → y ≤ℚ x → ⊥
not_both_ℚ x y h k = clash_ℤ h.lt k.le
