-- If no operation of a computation passes, its value is also that of the computation in which fewer operations can pass.
-- So it is the exact value: that of the computation in which no operation can pass.
use Rattle.std.proofs.Common.{◌≡◌, List, [], ◌∷◌, Bool, true, false, refl, ap, ◌∙◌, if◌then◌else◌, Result, Ok, Err, map}
use Rattle.nf_rational.specs.Rational.{ℚ}
use Rattle.nf_frac_def.specs.declared.Op.{Op}
use Rattle.nf_frac_def.specs.declared.Passed.{Passed}
use Rattle.nf_frac_def.specs.Passing.{Passing, result_of, never}
use Rattle.nf_frac_def.specs.Checked.{checked, each, fold_checked, ◌>>=◌}

-- The second computation gives every value that the first gives.
abbrev pub GivesAs : {A E : Type 0} → Result A E → Result A E → Type 0
GivesAs {A} r s = (x : A) → r ≡ Ok x → s ≡ Ok x

-- ---- compositions of computations
pub bind : {A B E : Type 0} (r s : Result A E) (f g : A → Result B E) → GivesAs r s → ((x : A) → GivesAs (f x) (g x)) → GivesAs (r >>= f) (s >>= g)
bind {A = A} {E = E} (Ok a) s f g h k y e = ap (λ (w : Result A E). w >>= g) (h a refl) ∙ k a y e
bind (Err p) s f g h k y e = cc

module _ {A B E : Type 0} where
  pub each_as : (f g : A → Result B E) → ((x : A) → GivesAs (f x) (g x)) → (xs : List A) → GivesAs (each f xs) (each g xs)
  each_as f g h [] y e = e
  each_as f g h (x ∷ xs) y e = bind (f x) (g x) _ _ (h x) (λ y. bind (each f xs) (each g xs) _ _ (each_as f g h xs) (λ ys z e. e)) y e

  pub fold_as : (f g : B → A → Result B E) → ((b : B) (x : A) → GivesAs (f b x) (g b x)) → (b : B) (xs : List A) → GivesAs (fold_checked f b xs) (fold_checked g b xs)
  fold_as f g h b [] y e = e
  fold_as f g h b (x ∷ xs) y e = bind (f b x) (g b x) _ _ (h b x) (λ c. fold_as f g h c xs) y e

pub same : {A E : Type 0} (r : Result A E) → GivesAs r r
same r x e = e

pub same_value : {A E : Type 0} (r : Result A E) (x y : A) → r ≡ Ok x → r ≡ Ok y → x ≡ y
same_value r x y h k = cc

-- ---- one operation
one_at : (b c : Bool) (p : Passed ℚ) (v : ℚ) → (b ≡ false → c ≡ false) → GivesAs (if b then Err p else Ok v) (if c then Err p else Ok v)
one_at true c p v h x e = cc
one_at false c p v h x e = rw (h refl) e

-- The value of an operation that doesn't pass.
pub one_value : (b : Bool) (p : Passed ℚ) (v x : ℚ) → (if b then Err p else Ok v) ≡ Ok x → x ≡ v
one_value true p v x e = absurd (cc)
one_value false p v x e = cc

pub checked-is : (passes : Passing) (op : Op) (x y z : ℚ) → checked passes op x y ≡ Ok z → z ≡ result_of op x y
unfolding checked
checked-is passes op x y z h = one_value (passes op x y) _ (result_of op x y) z h

-- Each operation that passes by `fewer` also passes by `passes`.
abbrev pub PassesFewer : Passing → Passing → Type 0
PassesFewer passes fewer = (op : Op) (x y : ℚ) → passes op x y ≡ false → fewer op x y ≡ false

module _ (passes fewer : Passing) (none_more : PassesFewer passes fewer) where
  pub one : (op : Op) (x y : ℚ) → GivesAs (checked passes op x y) (checked fewer op x y)
  unfolding checked
  one op x y = one_at (passes op x y) (fewer op x y) (record { op = op; left = x; right = y }) (result_of op x y) (none_more op x y)

-- ---- no operation can pass
pub none_passes : (passes : Passing) → PassesFewer passes never
none_passes passes op x y e = refl

-- ---- each value by a function
pub each_exact : {A B E : Type 0} (f : A → Result B E) (g : A → B) → ((x : A) → f x ≡ Ok (g x)) → (xs : List A) → each f xs ≡ Ok (map g xs)
each_exact f g h [] = refl
each_exact f g h (x ∷ xs) = ap (λ (w : Result _ _). w >>= λ y. each f xs >>= λ ys. Ok (y ∷ ys)) (h x) ∙ ap (λ (w : Result _ _). w >>= λ ys. Ok (g x ∷ ys)) (each_exact f g h xs)

pub checked-never : (op : Op) (x y : ℚ) → checked never op x y ≡ Ok (result_of op x y)
unfolding checked
checked-never op x y = refl
