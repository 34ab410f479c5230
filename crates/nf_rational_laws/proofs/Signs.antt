-- Signs of sums of products, read off their coefficients.
use Rattle.std.proofs.Common.{◌≡◌, zero, suc, List, [], ◌∷◌, ◌⊎◌, inl, inr, ⊎_elim, Bool, true, false, ◌&&◌, ◌||◌, T, refl, sym, ◌∙◌, ap, subst}
use Rattle.nf_rational_laws.proofs.Common.{ℚ, 0ℚ, 1ℚ, whole, ◌+ℚ◌, ◌-ℚ◌, ◌*ℚ◌, ◌≤ℚ◌, ◌<ℚ◌}
use mathlib.Core.Path.{ap₂}
use lib.IntN.{ℤ, pos, negsuc}
use Rattle.nf_rational_laws.proofs.Polynomial.{Expr, sub, Poly, none, term, value, mon, eval, is_nil, Reads, code, code-is, ring, reading}
use Rattle.nf_rational_laws.proofs.Field.{rationals, +ℚ_idl, +ℚ_comm, zero-*ℚ, *ℚ_comm, one-*ℚ}
use Rattle.nf_rational_laws.proofs.Order.{nn_plus, ps_plus, nn_whole, ps_whole, ≤ℚ_of_same}
pub use Rattle.nf_rational_laws.proofs.Polynomial.{and_left, and_right}

abbrev pub not_negative : ℤ → Bool
not_negative (pos n) = true
not_negative (negsuc n) = false

abbrev pub above : ℤ → Bool
above (pos zero) = false
above (pos (suc n)) = true
above (negsuc n) = false

-- only the constant is left, and it is not negative; it is above 0
abbrev pub no_less : Poly → Bool
no_less none = true
no_less (term c [] p) = not_negative c && no_less p
no_less (term c (i ∷ m) p) = is_nil c && no_less p

abbrev pub more : Poly → Bool
more none = false
more (term c [] p) = above c || more p
more (term c (i ∷ m) p) = more p

pub or_cases : (a b : Bool) → T (a || b) → T a ⊎ T b
or_cases true b t = inl tt
or_cases false b t = inr t

pub along_nn : (x y : ℚ) → x ≡ y → 0ℚ ≤ℚ x → 0ℚ ≤ℚ y
along_nn x y e h = subst (λ (z : ℚ). 0ℚ ≤ℚ z) e h

pub along_ps : (x y : ℚ) → x ≡ y → 0ℚ <ℚ x → 0ℚ <ℚ y
along_ps x y e h = subst (λ (z : ℚ). 0ℚ <ℚ z) e h

pub nn_plus_ps : (x y : ℚ) → 0ℚ ≤ℚ x → 0ℚ <ℚ y → 0ℚ <ℚ x +ℚ y
nn_plus_ps x y h k = along_ps (y +ℚ x) (x +ℚ y) (+ℚ_comm y x) (ps_plus y x k h)

pub not_negative-is : (c : ℤ) → T (not_negative c) → 0ℚ ≤ℚ whole c
not_negative-is (pos n) t = nn_whole n
not_negative-is (negsuc n) t = absurd t

pub above-is : (c : ℤ) → T (above c) → 0ℚ <ℚ whole c
above-is (pos zero) t = absurd t
above-is (pos (suc n)) t = ps_whole n
above-is (negsuc n) t = absurd t

pub times_one : (x : ℚ) → x *ℚ 1ℚ ≡ x
times_one x = *ℚ_comm x 1ℚ ∙ one-*ℚ x

is_nil-is : (c : ℤ) (x : ℚ) → T (is_nil c) → whole c *ℚ x ≡ 0ℚ
is_nil-is (pos zero) x t = zero-*ℚ x
is_nil-is (pos (suc n)) x t = absurd t
is_nil-is (negsuc n) x t = absurd t

pub first_is_zero : (x y : ℚ) → x ≡ 0ℚ → x +ℚ y ≡ y
first_is_zero x y e = ap (λ (t : ℚ). t +ℚ y) e ∙ +ℚ_idl y

pub no_less-is : (ρ : List ℚ) (p : Poly) → T (no_less p) → 0ℚ ≤ℚ value rationals ρ p
no_less-is ρ none t = ≤ℚ_of_same 0ℚ 0ℚ refl
no_less-is ρ (term c [] p) t =
    nn_plus _ _ (along_nn _ _ (sym (times_one (whole c))) (not_negative-is c (and_left (not_negative c) (no_less p) t))) (no_less-is ρ p (and_right (not_negative c) (no_less p) t))
no_less-is ρ (term c (i ∷ m) p) t =
    along_nn _ _ (sym (first_is_zero _ (value rationals ρ p) (is_nil-is c (mon rationals ρ (i ∷ m)) (and_left (is_nil c) (no_less p) t))))
    (no_less-is ρ p (and_right (is_nil c) (no_less p) t))

pub more-is : (ρ : List ℚ) (p : Poly) → T (no_less p) → T (more p) → 0ℚ <ℚ value rationals ρ p
more-is ρ none t u = absurd u
more-is ρ (term c [] p) t u =
    ⊎_elim
    (λ (v : T (above c)). ps_plus _ _ (along_ps _ _ (sym (times_one (whole c))) (above-is c v)) (no_less-is ρ p (and_right (not_negative c) (no_less p) t)))
    (λ (v : T (more p)). nn_plus_ps _ _ (along_nn _ _ (sym (times_one (whole c))) (not_negative-is c (and_left (not_negative c) (no_less p) t)))
    (more-is ρ p (and_right (not_negative c) (no_less p) t) v))
    (or_cases (above c) (more p) u)
more-is ρ (term c (i ∷ m) p) t u =
    along_ps _ _ (sym (first_is_zero _ (value rationals ρ p) (is_nil-is c (mon rationals ρ (i ∷ m)) (and_left (is_nil c) (no_less p) t))))
    (more-is ρ p (and_right (is_nil c) (no_less p) t) u)

-- ---- the sum of what is at hand
abbrev ev : List ℚ → Expr → ℚ
ev ρ e = eval rationals ρ e

pub read_less : {ρ : List ℚ} {l r : ℚ} (p : Reads rationals ρ l) (q : Reads rationals ρ r) → ev ρ (sub (code rationals q) (code rationals p)) ≡ r -ℚ l
read_less p q = ap₂ ◌-ℚ◌ (code-is rationals q) (code-is rationals p)

pub zero_from_same : (l r : ℚ) → l ≡ r → r -ℚ l ≡ 0ℚ
zero_from_same l r e = ap (λ (t : ℚ). t -ℚ l) (sym e) ∙ ring rationals (l ∷ []) {x = l -ℚ l} {y = 0ℚ} (search reading depth 10) tt

pub times_zero : (x : ℚ) → x *ℚ 0ℚ ≡ 0ℚ
times_zero x = *ℚ_comm x 0ℚ ∙ zero-*ℚ x
