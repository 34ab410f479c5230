-- Values of forms: joined, scaled, at other assignments, and without one variable.
use Rattle.std.proofs.Common.{◌≡◌, ◌≢◌, ℕ, suc, ◌+◌, ◌<◌, ◌≤◌, [], ◌∷◌, ◌++◌, ⊎_elim, Bool, true, false, if◌then◌else◌, eqb, refl, sym, ap, arith}
use Rattle.nf_linear_laws.proofs.Common.{eqb-true, eqb_tells, ℚ, 0ℚ, 1ℚ, ◌+ℚ◌, ◌-ℚ◌, ◌*ℚ◌, reading_of, +ℚ_idl, eq, linear_eq, sum_of_sum}
use Rattle.nf_linear_laws.proofs.Common.{zero_of_times_zero, same_terms, Form, form_value}
use Rattle.nf_rational_laws.proofs.Results.{not_both}

-- ---- sums and multiples
pub form_value-append : (f g : Form) (x : ℕ → ℚ) → form_value (f ++ g) x ≡ form_value f x +ℚ form_value g x
form_value-append [] g x = sym (+ℚ_idl (form_value g x))
form_value-append ((a, i) ∷ f) g x = sum_of_sum (a *ℚ x i) (form_value (f ++ g) x) (form_value f x) (form_value g x) (form_value-append f g x)

abbrev pub scaled : ℚ → Form → Form
scaled k [] = []
scaled k ((a, i) ∷ f) = (k *ℚ a, i) ∷ scaled k f

times_sum : (k a u v w : ℚ) → w ≡ k *ℚ v → (k *ℚ a) *ℚ u +ℚ w ≡ k *ℚ (a *ℚ u +ℚ v)
times_sum k a u v w e = linear_eq (k ∷ a ∷ u ∷ v ∷ w ∷ []) (eq e ∷ []) (search reading_of) tt tt

pub form_value-scaled : (k : ℚ) (f : Form) (x : ℕ → ℚ) → form_value (scaled k f) x ≡ k *ℚ form_value f x
form_value-scaled k [] x = zero_of_times_zero k
form_value-scaled k ((a, i) ∷ f) x = times_sum k a (x i) (form_value f x) (form_value (scaled k f) x) (form_value-scaled k f x)

-- A single variable.
one_times : (u : ℚ) → 1ℚ *ℚ u +ℚ 0ℚ ≡ u
one_times u = linear_eq (u ∷ []) [] (search reading_of) tt tt

abbrev pub variable : ℕ → Form
variable i = (1ℚ, i) ∷ []

pub form_value-variable : (i : ℕ) (x : ℕ → ℚ) → form_value (variable i) x ≡ x i
form_value-variable i x = one_times (x i)

-- The difference of two forms.
abbrev pub less : Form → Form → Form
less f g = f ++ scaled (0ℚ -ℚ 1ℚ) g

less_sum : (a b c s : ℚ) → s ≡ a +ℚ c → c ≡ (0ℚ -ℚ 1ℚ) *ℚ b → s ≡ a -ℚ b
less_sum a b c s e f = linear_eq (a ∷ b ∷ c ∷ s ∷ []) (eq e ∷ eq f ∷ []) (search reading_of) tt tt

pub form_value-less : (f g : Form) (x : ℕ → ℚ) → form_value (less f g) x ≡ form_value f x -ℚ form_value g x
form_value-less f g x = less_sum (form_value f x) (form_value g x) _ _ (form_value-append f (scaled (0ℚ -ℚ 1ℚ) g) x) (form_value-scaled (0ℚ -ℚ 1ℚ) g x)

-- ---- forms in which only variables below n occur
abbrev pub Within : ℕ → Form → Type 0
Within n [] = Unit {0}
Within n ((a, i) ∷ f) = (i < n) × Within n f

pub Within-append : (n : ℕ) (f g : Form) → Within n f → Within n g → Within n (f ++ g)
Within-append n [] g w v = v
Within-append n ((a, i) ∷ f) g w v = (w.0, Within-append n f g w.1 v)

pub Within-scaled : (n : ℕ) (k : ℚ) (f : Form) → Within n f → Within n (scaled k f)
Within-scaled n k [] w = tt
Within-scaled n k ((a, i) ∷ f) w = (w.0, Within-scaled n k f w.1)

pub Within-more : (m n : ℕ) (f : Form) → m ≤ n → Within m f → Within n f
Within-more m n [] h w = tt
Within-more m n ((a, i) ∷ f) h w = (further m n i h w.0, Within-more m n f h w.1)
  where
    further : (m n i : ℕ) → m ≤ n → i < m → i < n
    further m n i h k = omega arith

pub form_within : (f : Form) → (n : ℕ) × Within n f
form_within [] = (0, tt)
form_within ((a, i) ∷ f) = let w = form_within f in (suc i + w.0, (first i w.0, Within-more w.0 (suc i + w.0) f (rest i w.0) w.1))
  where
    first : (i n : ℕ) → i < suc i + n
    first i n = omega arith

    rest : (i n : ℕ) → n ≤ suc i + n
    rest i n = omega arith

-- The value depends only on the variables that occur in the form.
pub form_value-same : (n : ℕ) (f : Form) (x y : ℕ → ℚ) → Within n f → ((i : ℕ) → i < n → x i ≡ y i) → form_value f x ≡ form_value f y
form_value-same n [] x y w e = refl
form_value-same n ((a, i) ∷ f) x y w e = same_terms a (x i) (y i) (form_value f x) (form_value f y) (e i w.0) (form_value-same n f x y w.1 e)

-- ---- one variable with another value
abbrev pub updated : (ℕ → ℚ) → ℕ → ℚ → ℕ → ℚ
updated x i v j = if eqb i j then v else x j

pub updated-here : (x : ℕ → ℚ) (i : ℕ) (v : ℚ) → updated x i v i ≡ v
updated-here x i v = ⊎_elim
    (λ (w : (eqb i i ≡ true) × (i ≡ i)). ap (λ (b : Bool). if b then v else x i) w.0)
    (λ (w : (eqb i i ≡ false) × (i ≢ i)). absurd (w.1 refl)) (eqb_tells i i)

pub updated-else : (x : ℕ → ℚ) (i : ℕ) (v : ℚ) (j : ℕ) → i ≢ j → updated x i v j ≡ x j
updated-else x i v j h = ⊎_elim
    (λ (w : (eqb i j ≡ true) × (i ≡ j)). absurd (h w.1))
    (λ (w : (eqb i j ≡ false) × (i ≢ j)). ap (λ (b : Bool). if b then v else x j) w.0) (eqb_tells i j)

pub updated-below : (x : ℕ → ℚ) (n : ℕ) (v : ℚ) (i : ℕ) → i < n → x i ≡ updated x n v i
updated-below x n v i h = sym (updated-else x n v i (apart n i h))
  where
    apart : (n i : ℕ) → i < n → n ≢ i
    apart n i h = omega arith

-- The total coefficient of the variable i.
abbrev pub coefficient : ℕ → Form → ℚ
coefficient i [] = 0ℚ
coefficient i ((a, j) ∷ f) = if eqb i j then a +ℚ coefficient i f else coefficient i f

-- ---- a form without one variable
abbrev pub without : ℕ → Form → Form
without i [] = []
without i ((a, j) ∷ f) = if eqb i j then without i f else (a, j) ∷ without i f

apart_at : (a c f g u : ℚ) → f ≡ c *ℚ u +ℚ g → a *ℚ u +ℚ f ≡ (a +ℚ c) *ℚ u +ℚ g
apart_at a c f g u e = linear_eq (a ∷ c ∷ f ∷ g ∷ u ∷ []) (eq e ∷ []) (search reading_of) tt tt

apart_past : (a c f g u w : ℚ) → f ≡ c *ℚ u +ℚ g → a *ℚ w +ℚ f ≡ c *ℚ u +ℚ (a *ℚ w +ℚ g)
apart_past a c f g u w e = linear_eq (a ∷ c ∷ f ∷ g ∷ u ∷ w ∷ []) (eq e ∷ []) (search reading_of) tt tt

apart_by : (b : Bool) (x : ℕ → ℚ) (i j : ℕ) (a c f : ℚ) (g : Form) → (b ≡ true → i ≡ j) → f ≡ c *ℚ x i +ℚ form_value g x
    → a *ℚ x j +ℚ f ≡ (if b then a +ℚ c else c) *ℚ x i +ℚ form_value (if b then g else (a, j) ∷ g) x
apart_by true x i j a c f g same e = rw (← same refl) (apart_at a c f (form_value g x) (x i) e)
apart_by false x i j a c f g same e = apart_past a c f (form_value g x) (x i) (x j) e

none_apart : (u : ℚ) → 0ℚ ≡ 0ℚ *ℚ u +ℚ 0ℚ
none_apart u = linear_eq (u ∷ []) [] (search reading_of) tt tt

pub form_value-apart : (i : ℕ) (f : Form) (x : ℕ → ℚ) → form_value f x ≡ coefficient i f *ℚ x i +ℚ form_value (without i f) x
form_value-apart i [] x = none_apart (x i)
form_value-apart i ((a, j) ∷ f) x = apart_by (eqb i j) x i j a (coefficient i f) (form_value f x) (without i f) (eqb-true i j) (form_value-apart i f x)

eqb-false : (i j : ℕ) → eqb i j ≡ false → i ≢ j
eqb-false i j e = ⊎_elim
    (λ (w : (eqb i j ≡ true) × (i ≡ j)). absurd (not_both (eqb i j) w.0 e))
    (λ (w : (eqb i j ≡ false) × (i ≢ j)). w.1) (eqb_tells i j)

Within_by : (b : Bool) (n j : ℕ) (a : ℚ) (f : Form) → (b ≡ false → n ≢ j) → j < suc n → Within n f → Within n (if b then f else (a, j) ∷ f)
Within_by true n j a f other h w = w
Within_by false n j a f other h w = (below n j h (other refl), w)
  where
    below : (n j : ℕ) → j < suc n → n ≢ j → j < n
    below n j h k = omega arith

pub Within-without : (n : ℕ) (f : Form) → Within (suc n) f → Within n (without n f)
Within-without n [] w = tt
Within-without n ((a, j) ∷ f) w = Within_by (eqb n j) n j a (without n f) (eqb-false n j) w.0 (Within-without n f w.1)

-- ---- one more variable, before all others
abbrev pub moved : Form → Form
moved [] = []
moved ((a, i) ∷ f) = (a, suc i) ∷ moved f

pub form_value-moved : (f : Form) (x : ℕ → ℚ) → form_value (moved f) x ≡ form_value f (λ i. x (suc i))
form_value-moved [] x = refl
form_value-moved ((a, i) ∷ f) x = ap (λ (s : ℚ). a *ℚ x (suc i) +ℚ s) (form_value-moved f x)
