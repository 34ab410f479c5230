-- Steps over plain numbers that the laws of curves and queues are made of.
use Rattle.std.proofs.Common.{◌≡◌, [], ◌∷◌, ⊎_elim, sym, subst}
use Rattle.nf_model_laws.proofs.Common.{ℚ, ◌+ℚ◌, ◌-ℚ◌, ◌*ℚ◌, ◌/ℚ◌, 0ℚ, ◌≤ℚ◌, ◌<ℚ◌, reading_of, ≤ℚ_of_lt, ≤ℚ_of_same, ≤ℚ_antisymm, nn_times, ps_times, less_ps}
use Rattle.nf_model_laws.proofs.Common.{lt_or_le_ℚ, /ℚ_is, /ℚ-times, ps_apart, ps_inv, le, lt, eq, le_times, eq_times, linear_le, linear_lt, linear_eq}
use Rattle.nf_model_laws.proofs.Common.{linear_false, IsAffine, ≤ℚ_refl, ≤ℚ_trans}
pub use Rattle.nf_rational_laws.proofs.Chains.{<_≤_trans}

-- ---- quotients
pub nn-quotient : (x y : ℚ) → 0ℚ ≤ℚ x → 0ℚ <ℚ y → 0ℚ ≤ℚ x /ℚ y
nn-quotient x y h k = subst (λ (z : ℚ). 0ℚ ≤ℚ z) (sym (/ℚ_is x y)) (nn_times _ _ h (≤ℚ_of_lt _ _ (ps_inv y k)))

pub quotient-times : (x y : ℚ) → 0ℚ <ℚ y → x /ℚ y *ℚ y ≡ x
quotient-times x y h = /ℚ-times x y (ps_apart y h)

pub quotient-gap : (x s u : ℚ) → s <ℚ u → x /ℚ (u -ℚ s) *ℚ (u -ℚ s) ≡ x
quotient-gap x s u h = quotient-times x (u -ℚ s) (linear_lt (s ∷ u ∷ []) (lt h ∷ []) (search reading_of) tt)

pub nn-slope : (s v u w : ℚ) → s <ℚ u → v ≤ℚ w → 0ℚ ≤ℚ (w -ℚ v) /ℚ (u -ℚ s)
nn-slope s v u w h k = nn-quotient _ _ (linear_le (v ∷ w ∷ []) (le k ∷ []) (search reading_of) tt) (linear_lt (s ∷ u ∷ []) (lt h ∷ []) (search reading_of) tt)

-- ---- orders

-- ---- a line through v at s with the slope n
pub line_end : (s v u w n : ℚ) → n *ℚ (u -ℚ s) ≡ w -ℚ v → v +ℚ n *ℚ (u -ℚ s) ≡ w
line_end s v u w n e = linear_eq (s ∷ v ∷ u ∷ w ∷ n ∷ []) (eq e ∷ []) (search reading_of) tt tt

pub line_start : (s v n : ℚ) → v +ℚ n *ℚ (s -ℚ s) ≡ v
line_start s v n = linear_eq (s ∷ v ∷ n ∷ []) [] (search reading_of) tt tt

pub line_rises : (s v t u n y z : ℚ) → t ≤ℚ u → 0ℚ ≤ℚ n → y ≡ v +ℚ n *ℚ (t -ℚ s) → z ≡ v +ℚ n *ℚ (u -ℚ s) → y ≤ℚ z
line_rises s v t u n y z h p e f = linear_le (s ∷ v ∷ t ∷ u ∷ n ∷ y ∷ z ∷ []) (eq e ∷ eq f ∷ le_times p h ∷ []) (search reading_of) tt

-- ---- affine functions
same_line : (a b t k l x y u v z w : ℚ) → a <ℚ b → x ≡ y → u ≡ v → u ≡ x +ℚ k *ℚ (b -ℚ a) → v ≡ y +ℚ l *ℚ (b -ℚ a) → z ≡ x +ℚ k *ℚ (t -ℚ a) → w ≡ y +ℚ l *ℚ (t -ℚ a)
    → (b -ℚ a) *ℚ z ≡ (b -ℚ a) *ℚ w
same_line a b t k l x y u v z w h e f p q r s =
    linear_eq (a ∷ b ∷ t ∷ k ∷ l ∷ x ∷ y ∷ u ∷ v ∷ z ∷ w ∷ []) (eq_times (b -ℚ a) e ∷ eq_times (t -ℚ a) f ∷ eq_times (t -ℚ a) e ∷ eq_times
    (t -ℚ a) p ∷ eq_times (t -ℚ a) q ∷ eq_times (b -ℚ a) r ∷ eq_times (b -ℚ a) s ∷ []) (search reading_of) tt tt

pub ps-times_gap : (c x y : ℚ) → 0ℚ <ℚ c → x <ℚ y → 0ℚ <ℚ c *ℚ (y -ℚ x)
ps-times_gap c x y h k = ps_times c (y -ℚ x) h (less_ps x y k)

pub le_from_times : (c x y : ℚ) → 0ℚ <ℚ c → c *ℚ x ≤ℚ c *ℚ y → x ≤ℚ y
le_from_times c x y h e = ⊎_elim
    (λ (l : y <ℚ x). absurd (linear_false (c ∷ x ∷ y ∷ []) (lt (ps-times_gap c y x h l) ∷ le e ∷ []) (search reading_of) tt))
    (λ (l : x ≤ℚ y). l) (lt_or_le_ℚ y x)

pub same_from_times : (c x y : ℚ) → 0ℚ <ℚ c → c *ℚ x ≡ c *ℚ y → x ≡ y
same_from_times c x y h e = ≤ℚ_antisymm x y (le_from_times c x y h (≤ℚ_of_same _ _ e)) (le_from_times c y x h (≤ℚ_of_same _ _ (sym e)))

-- functions that are affine from a to b and agree at both agree between
pub IsAffine-same : (f g : ℚ → ℚ) (a b k l t : ℚ) → IsAffine f a b k → IsAffine g a b l → a <ℚ b → f a ≡ g a → f b ≡ g b → a ≤ℚ t → t ≤ℚ b → f t ≡ g t
IsAffine-same f g a b k l t p q h e d i j =
    let w : a ≤ℚ b = ≤ℚ_of_lt a b h in
    same_from_times (b -ℚ a) (f t) (g t) (linear_lt (a ∷ b ∷ []) (lt h ∷ []) (search reading_of) tt)
    (same_line a b t k l (f a) (g a) (f b) (g b) (f t) (g t) h e d (p.line b w (≤ℚ_refl b)) (q.line b w (≤ℚ_refl b)) (p.line t i j) (q.line t i j))

-- an affine function that is at least 0 at both ends is so between
nn_line : (a b t k x u z : ℚ) → a <ℚ b → a ≤ℚ t → t ≤ℚ b → 0ℚ ≤ℚ x → 0ℚ ≤ℚ u → u ≡ x +ℚ k *ℚ (b -ℚ a) → z ≡ x +ℚ k *ℚ (t -ℚ a) → (b -ℚ a) *ℚ 0ℚ ≤ℚ (b -ℚ a) *ℚ z
nn_line a b t k x u z h i j m n e f =
    let after : 0ℚ ≤ℚ t -ℚ a = linear_le (a ∷ t ∷ []) (le i ∷ []) (search reading_of) tt in
    let before : 0ℚ ≤ℚ b -ℚ t = linear_le (b ∷ t ∷ []) (le j ∷ []) (search reading_of) tt in
    linear_le (a ∷ b ∷ t ∷ k ∷ x ∷ u ∷ z ∷ []) (le_times after n ∷ le_times before m ∷ eq_times (t -ℚ a) e ∷ eq_times (b -ℚ a) f ∷ []) (search reading_of) tt

pub IsAffine-nn : (f : ℚ → ℚ) (a b k t : ℚ) → IsAffine f a b k → a <ℚ b → 0ℚ ≤ℚ f a → 0ℚ ≤ℚ f b → a ≤ℚ t → t ≤ℚ b → 0ℚ ≤ℚ f t
IsAffine-nn f a b k t p h m n i j =
    le_from_times (b -ℚ a) 0ℚ (f t) (linear_lt (a ∷ b ∷ []) (lt h ∷ []) (search reading_of) tt)
    (nn_line a b t k (f a) (f b) (f t) h i j m n (p.line b (≤ℚ_of_lt a b h) (≤ℚ_refl b)) (p.line t i j))

-- ---- sums, differences and compositions
plus_line : (x y u v k l t a : ℚ) → x ≡ y +ℚ k *ℚ (t -ℚ a) → u ≡ v +ℚ l *ℚ (t -ℚ a) → x +ℚ u ≡ (y +ℚ v) +ℚ (k +ℚ l) *ℚ (t -ℚ a)
plus_line x y u v k l t a e f = linear_eq (x ∷ y ∷ u ∷ v ∷ k ∷ l ∷ t ∷ a ∷ []) (eq e ∷ eq f ∷ []) (search reading_of) tt tt

pub IsAffine-plus : (f g : ℚ → ℚ) (a b k l : ℚ) → IsAffine f a b k → IsAffine g a b l → IsAffine (λ t. f t +ℚ g t) a b (k +ℚ l)
IsAffine-plus f g a b k l p q = record { line = λ t h i. plus_line _ _ _ _ k l t a (p.line t h i) (q.line t h i) }

less_line : (x y u v k l t a : ℚ) → x ≡ y +ℚ k *ℚ (t -ℚ a) → u ≡ v +ℚ l *ℚ (t -ℚ a) → x -ℚ u ≡ (y -ℚ v) +ℚ (k -ℚ l) *ℚ (t -ℚ a)
less_line x y u v k l t a e f = linear_eq (x ∷ y ∷ u ∷ v ∷ k ∷ l ∷ t ∷ a ∷ []) (eq e ∷ eq f ∷ []) (search reading_of) tt tt

pub IsAffine-less : (f g : ℚ → ℚ) (a b k l : ℚ) → IsAffine f a b k → IsAffine g a b l → IsAffine (λ t. f t -ℚ g t) a b (k -ℚ l)
IsAffine-less f g a b k l p q = record { line = λ t h i. less_line _ _ _ _ k l t a (p.line t h i) (q.line t h i) }

composed_line : (x y z c m k u v t a : ℚ) → x ≡ z +ℚ m *ℚ (u -ℚ c) → y ≡ z +ℚ m *ℚ (v -ℚ c) → u ≡ v +ℚ k *ℚ (t -ℚ a) → x ≡ y +ℚ (m *ℚ k) *ℚ (t -ℚ a)
composed_line x y z c m k u v t a e f g = linear_eq (x ∷ y ∷ z ∷ c ∷ m ∷ k ∷ u ∷ v ∷ t ∷ a ∷ []) (eq e ∷ eq f ∷ eq_times m g ∷ []) (search reading_of) tt tt

-- the outer function need be affine only where the inner one leads
pub IsAffine-composed : (f g : ℚ → ℚ) (a b c d k m : ℚ) → IsAffine g a b k → IsAffine f c d m → a ≤ℚ b → ((t : ℚ) → a ≤ℚ t → t ≤ℚ b → (c ≤ℚ g t) × (g t ≤ℚ d))
    → IsAffine (λ t. f (g t)) a b (m *ℚ k)
IsAffine-composed f g a b c d k m p q o w = record {
  line = λ t h i. composed_line _ _ (f c) c m k _ _ t a (q.line (g t) (w t h i).0 (w t h i).1) (q.line (g a) (w a (≤ℚ_refl a) o).0 (w a (≤ℚ_refl a) o).1) (p.line t h i);
}

-- from one time to a later one of the same stretch
pub IsAffine-part : (f : ℚ → ℚ) (a b c d k : ℚ) → IsAffine f a d k → a ≤ℚ b → b ≤ℚ d → c ≤ℚ d → IsAffine f b c k
IsAffine-part f a b c d k p h i j = record { line = λ t l n. part_line _ _ (f a) k t a b (p.line t (≤ℚ_trans a b t h l) (≤ℚ_trans t c d n j)) (p.line b h i) }
  where
    part_line : (x y z k t a b : ℚ) → x ≡ z +ℚ k *ℚ (t -ℚ a) → y ≡ z +ℚ k *ℚ (b -ℚ a) → x ≡ y +ℚ k *ℚ (t -ℚ b)
    part_line x y z k t a b e f = linear_eq (x ∷ y ∷ z ∷ k ∷ t ∷ a ∷ b ∷ []) (eq e ∷ eq f ∷ []) (search reading_of) tt tt
