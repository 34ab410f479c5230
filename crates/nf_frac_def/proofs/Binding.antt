-- One computation and then another.
use Rattle.std.proofs.Common.{ap, ◌≡◌, Result, Ok, Err, refl}
use Rattle.nf_frac_def.specs.Checked.{◌>>=◌}

-- both have a value where the whole has one
pub bind_ok : {A B E : Type 0} (r : Result A E) (f : A → Result B E) (y : B) → (r >>= f) ≡ Ok y → (x : A) × (r ≡ Ok x) × (f x ≡ Ok y)
bind_ok (Ok x) f y h = (x, refl, h)
bind_ok (Err e) f y h = absurd (cc)

-- the second one where the first has a value
pub bind_at : {A B E : Type 0} (r : Result A E) (x : A) (f : A → Result B E) → r ≡ Ok x → (r >>= f) ≡ f x
bind_at {A = A} {E = E} r x f h = ap (λ (w : Result A E). w >>= f) h

-- equal continuations
pub bind_same : {A B E : Type 0} (r : Result A E) (f g : A → Result B E) → ((x : A) → f x ≡ g x) → (r >>= f) ≡ (r >>= g)
bind_same (Ok x) f g same = same x
bind_same (Err e) f g same = refl

-- a second one that only hands on the value
pub bind_end : {A E : Type 0} (r : Result A E) → (r >>= λ x. Ok x) ≡ r
bind_end (Ok x) = refl
bind_end (Err e) = refl
