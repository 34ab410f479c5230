-- The tests of the order, and the lesser and the greater of two numbers.
use Rattle.std.proofs.Common.{◌≡◌, ◌⊎◌, inl, inr, ⊎_elim, Bool, true, false, not, cond, refl, sym, ap, ◌∙◌, arith}
use Rattle.nf_rational_laws.proofs.Common.{not-true, not-false, ℚ, 0ℚ, ◌≤ℚ◌, ◌<ℚ◌}
use lib.IntN.{ℤ, pos, ◌*ℤ◌}
use lib.Signed.{◌≤ℤ◌, ◌<ℤ◌, le_z}
use borrow.Author.Differences.{ints}
use Rattle.nf_rational.specs.Order.{le_ℚ, lt_ℚ, min_ℚ, max_ℚ}
use Rattle.nf_rational_laws.proofs.Order.{<ℚ_irrefl, ≤ℚ_antisymm, not_both_ℚ}

-- what a test says
pub le_ℚ_cases : (x y : ℚ) → ((le_ℚ x y ≡ true) × (x ≤ℚ y)) ⊎ ((le_ℚ x y ≡ false) × (y <ℚ x))
unfolding le_ℚ
le_ℚ_cases x y = cases (x.num *ℤ pos y.den) (y.num *ℤ pos x.den)
    (λ e h. inl (e, record { le = h })) (λ e h. inr (e, record { lt = h }))
  where
    cases : {P : Type 0} (a b : ℤ) → (le_z a b ≡ true → a ≤ℤ b → P) → (le_z a b ≡ false → b <ℤ a → P) → P
    cases {P} a b f g = go (le_z a b) refl
      where
        yes_le : (a b : ℤ) → le_z a b ≡ true → a ≤ℤ b
        yes_le a b e = omega (arith, ints)

        no_le : (a b : ℤ) → le_z a b ≡ false → b <ℤ a
        no_le a b e = omega (arith, ints)

        go : (t : Bool) → le_z a b ≡ t → P
        go true e = f e (yes_le a b e)
        go false e = g e (no_le a b e)

pub min_ℚ_cases : (x y : ℚ) → ((min_ℚ x y ≡ x) × (x ≤ℚ y)) ⊎ ((min_ℚ x y ≡ y) × (y <ℚ x))
unfolding min_ℚ
min_ℚ_cases x y = ⊎_elim
    (λ (w : (le_ℚ x y ≡ true) × (x ≤ℚ y)). inl (ap (λ (t : Bool). cond t x y) w.0, w.1))
    (λ (w : (le_ℚ x y ≡ false) × (y <ℚ x)). inr (ap (λ (t : Bool). cond t x y) w.0, w.1))
    (le_ℚ_cases x y)

pub max_ℚ_cases : (x y : ℚ) → ((max_ℚ x y ≡ y) × (x ≤ℚ y)) ⊎ ((max_ℚ x y ≡ x) × (y <ℚ x))
unfolding max_ℚ
max_ℚ_cases x y = ⊎_elim
    (λ (w : (le_ℚ x y ≡ true) × (x ≤ℚ y)). inl (ap (λ (t : Bool). cond t y x) w.0, w.1))
    (λ (w : (le_ℚ x y ≡ false) × (y <ℚ x)). inr (ap (λ (t : Bool). cond t y x) w.0, w.1))
    (le_ℚ_cases x y)

pub lt_ℚ_cases : (x y : ℚ) → ((lt_ℚ x y ≡ true) × (x <ℚ y)) ⊎ ((lt_ℚ x y ≡ false) × (y ≤ℚ x))
unfolding lt_ℚ
lt_ℚ_cases x y = ⊎_elim
    (λ (w : (le_ℚ y x ≡ true) × (y ≤ℚ x)). inr (ap not w.0, w.1))
    (λ (w : (le_ℚ y x ≡ false) × (x <ℚ y)). inl (ap not w.0, w.1))
    (le_ℚ_cases y x)

-- ---- a test that is known, as the fact and back
pub le_of_test : (x y : ℚ) → le_ℚ x y ≡ true → x ≤ℚ y
le_of_test x y e = ⊎_elim
    (λ (w : (le_ℚ x y ≡ true) × (x ≤ℚ y)). w.1)
    (λ (w : (le_ℚ x y ≡ false) × (y <ℚ x)). cc)
    (le_ℚ_cases x y)

pub lt_of_test : (x y : ℚ) → le_ℚ x y ≡ false → y <ℚ x
lt_of_test x y e = ⊎_elim
    (λ (w : (le_ℚ x y ≡ true) × (x ≤ℚ y)). cc)
    (λ (w : (le_ℚ x y ≡ false) × (y <ℚ x)). w.1)
    (le_ℚ_cases x y)

pub test_of_le : (x y : ℚ) → x ≤ℚ y → le_ℚ x y ≡ true
test_of_le x y h = ⊎_elim
    (λ (w : (le_ℚ x y ≡ true) × (x ≤ℚ y)). w.0)
    (λ (w : (le_ℚ x y ≡ false) × (y <ℚ x)). absurd (not_both_ℚ y x w.1 h))
    (le_ℚ_cases x y)

pub test_of_lt : (x y : ℚ) → y <ℚ x → le_ℚ x y ≡ false
test_of_lt x y h = ⊎_elim
    (λ (w : (le_ℚ x y ≡ true) × (x ≤ℚ y)). absurd (not_both_ℚ y x h w.1))
    (λ (w : (le_ℚ x y ≡ false) × (y <ℚ x)). w.0)
    (le_ℚ_cases x y)

pub not_negative_of : (x : ℚ) (b : Bool) → b ≡ not (le_ℚ 0ℚ x) → b ≡ false → 0ℚ ≤ℚ x
not_negative_of x b e h = le_of_test 0ℚ x (not-false (le_ℚ 0ℚ x) (sym e ∙ h))

pub negative_of : (x : ℚ) (b : Bool) → b ≡ not (le_ℚ 0ℚ x) → b ≡ true → x <ℚ 0ℚ
negative_of x b e h = lt_of_test 0ℚ x (not-true (le_ℚ 0ℚ x) (sym e ∙ h))

pub less_of_test : (x y : ℚ) → lt_ℚ x y ≡ true → x <ℚ y
less_of_test x y e = ⊎_elim (λ (w : (lt_ℚ x y ≡ true) × (x <ℚ y)). w.1) (λ (w : (lt_ℚ x y ≡ false) × (y ≤ℚ x)). cc) (lt_ℚ_cases x y)

pub test_of_less : (x y : ℚ) → x <ℚ y → lt_ℚ x y ≡ true
test_of_less x y h = ⊎_elim (λ (w : (lt_ℚ x y ≡ true) × (x <ℚ y)). w.0) (λ (w : (lt_ℚ x y ≡ false) × (y ≤ℚ x)). absurd (not_both_ℚ x y h w.1)) (lt_ℚ_cases x y)

pub not_less_of_test : (x y : ℚ) → lt_ℚ x y ≡ false → y ≤ℚ x
not_less_of_test x y e = ⊎_elim (λ (w : (lt_ℚ x y ≡ true) × (x <ℚ y)). cc) (λ (w : (lt_ℚ x y ≡ false) × (y ≤ℚ x)). w.1) (lt_ℚ_cases x y)

pub test_of_not_less : (x y : ℚ) → y ≤ℚ x → lt_ℚ x y ≡ false
test_of_not_less x y h = ⊎_elim (λ (w : (lt_ℚ x y ≡ true) × (x <ℚ y)). absurd (not_both_ℚ x y w.1 h)) (λ (w : (lt_ℚ x y ≡ false) × (y ≤ℚ x)). w.0) (lt_ℚ_cases x y)

pub not_less_itself : (x : ℚ) → lt_ℚ x x ≡ false
not_less_itself x = ⊎_elim (λ (w : (lt_ℚ x x ≡ true) × (x <ℚ x)). absurd (<ℚ_irrefl x w.1)) (λ (w : (lt_ℚ x x ≡ false) × (x ≤ℚ x)). w.0) (lt_ℚ_cases x x)

-- ---- what is left of a number above 0
pub max0_of : (x : ℚ) → 0ℚ ≤ℚ x → max_ℚ 0ℚ x ≡ x
max0_of x h = ⊎_elim (λ (w : (max_ℚ 0ℚ x ≡ x) × (0ℚ ≤ℚ x)). w.0) (λ (w : (max_ℚ 0ℚ x ≡ 0ℚ) × (x <ℚ 0ℚ)). absurd (not_both_ℚ _ _ w.1 h)) (max_ℚ_cases 0ℚ x)

pub max0_none : (x : ℚ) → x ≤ℚ 0ℚ → max_ℚ 0ℚ x ≡ 0ℚ
max0_none x h = ⊎_elim (λ (w : (max_ℚ 0ℚ x ≡ x) × (0ℚ ≤ℚ x)). w.0 ∙ ≤ℚ_antisymm _ _ h w.1) (λ (w : (max_ℚ 0ℚ x ≡ 0ℚ) × (x <ℚ 0ℚ)). w.0) (max_ℚ_cases 0ℚ x)
