-- The laws of the rational numbers as a field.
use Rattle.std.proofs.Common.{◌≡◌, [], ◌∷◌, refl, ◌∙◌, ap}
use Rattle.nf_rational_laws.proofs.Common.{ℚ, 0ℚ, 1ℚ, whole, ◌+ℚ◌, ◌*ℚ◌, neg_ℚ}
use lib.IntN.{ℤ, pos, negsuc, ◌+ℤ◌, ◌*ℤ◌, neg_ℤ}
use Rattle.nf_rational_laws.proofs.Ints.{neg_ℤ-is}
use Rattle.nf_rational_laws.proofs.Polynomial.{Ring, ring, reading}
use Rattle.nf_rational_laws.proofs.IntegerRing.{ints_ring}
use Rattle.nf_rational.specs.Operations.{◌-ℚ◌}
use Rattle.nf_rational_laws.proofs.Ratio.{Is, Is-self, Is-same, Is-plus, Is-times, Is-minus, Is-less, Is-whole}

plus_comm' : {x y : ℚ} (n d m e : ℤ) → Is x n d → Is y m e → x +ℚ y ≡ y +ℚ x
plus_comm' n d m e p q = Is-same _ _ _ _ (Is-plus n d m e p q) (Is-plus m e n d q p) (ring ints_ring (n ∷ d ∷ m ∷ e ∷ []) (search reading depth 30) tt)

pub +ℚ_comm : (x y : ℚ) → x +ℚ y ≡ y +ℚ x
+ℚ_comm x y = plus_comm' _ _ _ _ (Is-self x) (Is-self y)

plus_assoc' : {x y z : ℚ} (n d m e k f : ℤ) → Is x n d → Is y m e → Is z k f → (x +ℚ y) +ℚ z ≡ x +ℚ (y +ℚ z)
plus_assoc' n d m e k f p q r =
    Is-same _ _ _ _ (Is-plus _ _ k f (Is-plus n d m e p q) r) (Is-plus n d _ _ p (Is-plus m e k f q r))
    (ring ints_ring (n ∷ d ∷ m ∷ e ∷ k ∷ f ∷ []) (search reading depth 30) tt)

pub +ℚ_assoc : (x y z : ℚ) → (x +ℚ y) +ℚ z ≡ x +ℚ (y +ℚ z)
+ℚ_assoc x y z = plus_assoc' _ _ _ _ _ _ (Is-self x) (Is-self y) (Is-self z)

zero_plus' : {x : ℚ} (n d : ℤ) → Is x n d → 0ℚ +ℚ x ≡ x
zero_plus' n d p = Is-same _ _ _ _ (Is-plus (pos 0) (pos 1) n d (Is-whole (pos 0)) p) p (ring ints_ring (n ∷ d ∷ []) (search reading depth 30) tt)

pub +ℚ_idl : (x : ℚ) → 0ℚ +ℚ x ≡ x
+ℚ_idl x = zero_plus' _ _ (Is-self x)

times_comm' : {x y : ℚ} (n d m e : ℤ) → Is x n d → Is y m e → x *ℚ y ≡ y *ℚ x
times_comm' n d m e p q = Is-same _ _ _ _ (Is-times n d m e p q) (Is-times m e n d q p) (ring ints_ring (n ∷ d ∷ m ∷ e ∷ []) (search reading depth 30) tt)

pub *ℚ_comm : (x y : ℚ) → x *ℚ y ≡ y *ℚ x
*ℚ_comm x y = times_comm' _ _ _ _ (Is-self x) (Is-self y)

times_assoc' : {x y z : ℚ} (n d m e k f : ℤ) → Is x n d → Is y m e → Is z k f → (x *ℚ y) *ℚ z ≡ x *ℚ (y *ℚ z)
times_assoc' n d m e k f p q r =
    Is-same _ _ _ _ (Is-times _ _ k f (Is-times n d m e p q) r) (Is-times n d _ _ p (Is-times m e k f q r))
    (ring ints_ring (n ∷ d ∷ m ∷ e ∷ k ∷ f ∷ []) (search reading depth 30) tt)

pub *ℚ_assoc : (x y z : ℚ) → (x *ℚ y) *ℚ z ≡ x *ℚ (y *ℚ z)
*ℚ_assoc x y z = times_assoc' _ _ _ _ _ _ (Is-self x) (Is-self y) (Is-self z)

one_times' : {x : ℚ} (n d : ℤ) → Is x n d → 1ℚ *ℚ x ≡ x
one_times' n d p = Is-same _ _ _ _ (Is-times (pos 1) (pos 1) n d (Is-whole (pos 1)) p) p (ring ints_ring (n ∷ d ∷ []) (search reading depth 30) tt)

pub one-*ℚ : (x : ℚ) → 1ℚ *ℚ x ≡ x
one-*ℚ x = one_times' _ _ (Is-self x)

zero_times' : {x : ℚ} (n d : ℤ) → Is x n d → 0ℚ *ℚ x ≡ 0ℚ
zero_times' n d p = Is-same _ _ _ _ (Is-times (pos 0) (pos 1) n d (Is-whole (pos 0)) p) (Is-whole (pos 0)) (ring ints_ring (n ∷ d ∷ []) (search reading depth 30) tt)

pub zero-*ℚ : (x : ℚ) → 0ℚ *ℚ x ≡ 0ℚ
zero-*ℚ x = zero_times' _ _ (Is-self x)

distributes' : {x y z : ℚ} (n d m e k f : ℤ) → Is x n d → Is y m e → Is z k f → x *ℚ (y +ℚ z) ≡ x *ℚ y +ℚ x *ℚ z
distributes' n d m e k f p q r =
    Is-same _ _ _ _ (Is-times n d _ _ p (Is-plus m e k f q r)) (Is-plus _ _ _ _ (Is-times n d m e p q) (Is-times n d k f p r))
    (ring ints_ring (n ∷ d ∷ m ∷ e ∷ k ∷ f ∷ []) (search reading depth 30) tt)

pub *ℚ-+ℚ : (x y z : ℚ) → x *ℚ (y +ℚ z) ≡ x *ℚ y +ℚ x *ℚ z
*ℚ-+ℚ x y z = distributes' _ _ _ _ _ _ (Is-self x) (Is-self y) (Is-self z)

pub whole-plus : (a b : ℤ) → whole (a +ℤ b) ≡ whole a +ℚ whole b
whole-plus a b = Is-same _ _ _ _ (Is-whole (a +ℤ b)) (Is-plus a (pos 1) b (pos 1) (Is-whole a) (Is-whole b)) (ring ints_ring (a ∷ b ∷ []) (search reading depth 30) tt)

pub whole-times : (a b : ℤ) → whole (a *ℤ b) ≡ whole a *ℚ whole b
whole-times a b = Is-same _ _ _ _ (Is-whole (a *ℤ b)) (Is-times a (pos 1) b (pos 1) (Is-whole a) (Is-whole b)) (ring ints_ring (a ∷ b ∷ []) (search reading depth 30) tt)

minus_by : (n d : ℤ) → neg_ℤ n *ℤ (pos 1 *ℤ d) ≡ negsuc 0 *ℤ n *ℤ d
minus_by n d = ring ints_ring (n ∷ d ∷ []) {x = neg_ℤ n *ℤ (pos 1 *ℤ d)} {y = neg_ℤ n *ℤ d} (search reading depth 30) tt ∙ ap (λ (t : ℤ). t *ℤ d) (neg_ℤ-is n)

minus_is' : {x : ℚ} (n d : ℤ) → Is x n d → neg_ℚ x ≡ whole (negsuc 0) *ℚ x
minus_is' n d p = Is-same _ _ _ _ (Is-minus n d p) (Is-times (negsuc 0) (pos 1) n d (Is-whole (negsuc 0)) p) (minus_by n d)

pub neg_ℚ-is : (x : ℚ) → neg_ℚ x ≡ whole (negsuc 0) *ℚ x
neg_ℚ-is x = minus_is' _ _ (Is-self x)

pub -ℚ_is : (x y : ℚ) → x -ℚ y ≡ x +ℚ neg_ℚ y
unfolding ◌-ℚ◌
-ℚ_is x y = refl

back' : {x y : ℚ} (n d m e : ℤ) → Is x n d → Is y m e → x ≡ (x -ℚ y) +ℚ y
back' n d m e p q = Is-same _ _ _ _ p (Is-plus _ _ m e (Is-less n d m e p q) q) (ring ints_ring (n ∷ d ∷ m ∷ e ∷ []) (search reading depth 30) tt)

pub same_from-less : (x y : ℚ) → x -ℚ y ≡ 0ℚ → x ≡ y
same_from-less x y e = back' _ _ _ _ (Is-self x) (Is-self y) ∙ ap (λ (t : ℚ). t +ℚ y) e ∙ +ℚ_idl y

abbrev pub rationals : Ring
rationals = record {
  carrier = ℚ;
  nil = 0ℚ;
  unit = 1ℚ;
  plus = ◌+ℚ◌;
  times = ◌*ℚ◌;
  minus = neg_ℚ;
  less = ◌-ℚ◌;
  of = whole;
  plus_assoc = +ℚ_assoc;
  plus_comm = +ℚ_comm;
  nil_plus = +ℚ_idl;
  times_assoc = *ℚ_assoc;
  times_comm = *ℚ_comm;
  unit_times = one-*ℚ;
  nil_times = zero-*ℚ;
  times_plus = *ℚ-+ℚ;
  of_nil = refl;
  of_unit = refl;
  of_plus = whole-plus;
  of_times = whole-times;
  minus_is = neg_ℚ-is;
  less_is = -ℚ_is;
  same = same_from-less;
}
