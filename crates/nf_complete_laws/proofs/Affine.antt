-- Affine numbers: a linear form of an assignment, plus a constant.
use Rattle.std.proofs.Common.{◌≡◌, ℕ, zero, suc, List, [], ◌∷◌, ◌++◌, Bool, true, false, if◌then◌else◌, eqb, map, ◌∙◌}
use Rattle.nf_complete_laws.proofs.Common.{ℚ, 0ℚ, ◌+ℚ◌, ◌-ℚ◌, ◌*ℚ◌, ◌≤ℚ◌, reading_of, le, eq, eq_times, linear_le, linear_eq, zero_plus, Link, sum_in}
use Rattle.nf_complete_laws.proofs.Common.{sum_out, sum_to, Form, form_value, form_value-append, scaled, form_value-scaled, variable, form_value-variable}
use Rattle.nf_complete_laws.proofs.Turned.{turned, sum_in-turned}

pub record Affine (f : (ℕ → ℚ) → ℚ) : Type 0 where
  pub form : Form
  pub rest : ℚ
  pub is : (x : ℕ → ℚ) → f x ≡ form_value form x +ℚ rest

variable_is : (a b : ℚ) → b ≡ a → a ≡ b +ℚ 0ℚ
variable_is a b e = linear_eq (a ∷ b ∷ []) (eq e ∷ []) (search reading_of) tt tt

plus_is : (f g a b r s m : ℚ) → f ≡ a +ℚ r → g ≡ b +ℚ s → m ≡ a +ℚ b → f +ℚ g ≡ m +ℚ (r +ℚ s)
plus_is f g a b r s m d e h = linear_eq (f ∷ g ∷ a ∷ b ∷ r ∷ s ∷ m ∷ []) (eq d ∷ eq e ∷ eq h ∷ []) (search reading_of) tt tt

times_is : (c f a r m : ℚ) → f ≡ a +ℚ r → m ≡ c *ℚ a → c *ℚ f ≡ m +ℚ c *ℚ r
times_is c f a r m d e = linear_eq (c ∷ f ∷ a ∷ r ∷ m ∷ []) (eq_times c d ∷ eq e ∷ []) (search reading_of) tt tt

pub Affine-constant : (a : ℚ) → Affine (λ x. a)
Affine-constant a = record { form = []; rest = a; is = λ x. zero_plus a }

pub Affine-variable : (i : ℕ) → Affine (λ x. x i)
Affine-variable i = record { form = variable i; rest = 0ℚ; is = λ x. variable_is (x i) _ (form_value-variable i x) }

pub Affine-plus : (f g : (ℕ → ℚ) → ℚ) → Affine f → Affine g → Affine (λ x. f x +ℚ g x)
Affine-plus f g p q = record {
  form = p.form ++ q.form;
  rest = p.rest +ℚ q.rest;
  is = λ x. plus_is (f x) (g x) (form_value p.form x) (form_value q.form x) p.rest q.rest _ (p.is x) (q.is x) (form_value-append p.form q.form x);
}

pub Affine-times : (c : ℚ) (f : (ℕ → ℚ) → ℚ) → Affine f → Affine (λ x. c *ℚ f x)
Affine-times c f p = record {
  form = scaled c p.form;
  rest = c *ℚ p.rest;
  is = λ x. times_is c (f x) (form_value p.form x) p.rest _ (p.is x) (form_value-scaled c p.form x);
}

pub Affine-if : (b : Bool) (f g : (ℕ → ℚ) → ℚ) → Affine f → Affine g → Affine (λ x. if b then f x else g x)
Affine-if true f g p q = p
Affine-if false f g p q = q

-- ---- order: of values and of forms
value_order : (a b c d r : ℚ) → a ≡ c +ℚ r → b ≡ d +ℚ r → c ≤ℚ d → a ≤ℚ b
value_order a b c d r e f h = linear_le (a ∷ b ∷ c ∷ d ∷ r ∷ []) (eq e ∷ eq f ∷ le h ∷ []) (search reading_of) tt

form_order : (a b c d r : ℚ) → a ≡ c +ℚ r → b ≡ d +ℚ r → a ≤ℚ b → c ≤ℚ d
form_order a b c d r e f h = linear_le (a ∷ b ∷ c ∷ d ∷ r ∷ []) (eq e ∷ eq f ∷ le h ∷ []) (search reading_of) tt

form_floor : (a c l r : ℚ) → a ≡ c +ℚ r → l ≤ℚ a → l -ℚ r ≤ℚ c
form_floor a c l r e h = linear_le (a ∷ c ∷ l ∷ r ∷ []) (eq e ∷ le h ∷ []) (search reading_of) tt

pub Affine-value : (f : (ℕ → ℚ) → ℚ) (p : Affine f) (x y : ℕ → ℚ) → form_value p.form x ≤ℚ form_value p.form y → f x ≤ℚ f y
Affine-value f p x y h = value_order (f x) (f y) _ _ p.rest (p.is x) (p.is y) h

pub Affine-form : (f : (ℕ → ℚ) → ℚ) (p : Affine f) (x y : ℕ → ℚ) → f x ≤ℚ f y → form_value p.form x ≤ℚ form_value p.form y
Affine-form f p x y h = form_order (f x) (f y) _ _ p.rest (p.is x) (p.is y) h

pub Affine-floor : (f : (ℕ → ℚ) → ℚ) (p : Affine f) (x : ℕ → ℚ) (l : ℚ) → l ≤ℚ f x → l -ℚ p.rest ≤ℚ form_value p.form x
Affine-floor f p x l h = form_floor (f x) _ l p.rest (p.is x) h

-- ---- sums
pub Affine-sum_to : (n : ℕ) (f : ℕ → (ℕ → ℚ) → ℚ) → ((v : ℕ) → Affine (f v)) → Affine (λ x. sum_to n (λ v. f v x))
Affine-sum_to zero f p = Affine-constant 0ℚ
Affine-sum_to (suc n) f p = Affine-plus (λ x. sum_to n (λ v. f v x)) (f n) (Affine-sum_to n f p) (p n)

pub Affine-sum_out : (links : List Link) (f : ℕ → (ℕ → ℚ) → ℚ) (v : ℕ) → ((e : ℕ) → Affine (f e)) → Affine (λ x. sum_out links (λ e. f e x) v)
Affine-sum_out [] f v p = Affine-constant 0ℚ
Affine-sum_out (link ∷ links) f v p =
    let rest : Affine (λ x. sum_out links (λ e. f (suc e) x) v) = Affine-sum_out links (λ e. f (suc e)) v (λ e. p (suc e)) in
    Affine-if (eqb link.tail v) (λ x. f 0 x +ℚ sum_out links (λ e. f (suc e) x) v) (λ x. sum_out links (λ e. f (suc e) x) v)
    (Affine-plus (f 0) (λ x. sum_out links (λ e. f (suc e) x) v) (p 0) rest) rest

pub Affine-sum_in : (links : List Link) (f : ℕ → (ℕ → ℚ) → ℚ) (v : ℕ) → ((e : ℕ) → Affine (f e)) → Affine (λ x. sum_in links (λ e. f e x) v)
Affine-sum_in links f v p =
    let along : Affine (λ x. sum_out (map turned links) (λ e. f e x) v) = Affine-sum_out (map turned links) f v p in
    record { form = along.form; rest = along.rest; is = λ x. sum_in-turned links (λ e. f e x) v ∙ along.is x }
