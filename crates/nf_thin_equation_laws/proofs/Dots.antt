-- Sums of coefficients times values, over some unknowns.
use Rattle.std.proofs.Common.{◌≡◌, ◌≢◌, ℕ, zero, suc, ◌+◌, ◌<◌, List, [], ◌∷◌, ◌++◌, length, take, drop, map, ⊎_elim, Bool, true, false, if◌then◌else◌, eqb, slice_get, refl, sym, ap, ◌∙◌, arith}
use Rattle.std.specs.List.{range_with_len}
use Rattle.std.proofs.lemmas.Bool.Decides.{eqb_tells}
use Rattle.nf_rational.specs.Rational.{ℚ}
use Rattle.nf_rational.specs.Operations.{0ℚ, ◌+ℚ◌, ◌-ℚ◌, ◌*ℚ◌}
use Rattle.nf_rational_laws.proofs.Polynomial.{reading_of}
use Rattle.nf_rational_laws.proofs.Linear.{eq, eq_times, linear_eq}
use Rattle.nf_rational_laws.proofs.Facts.{zero_plus, sum_of_sum, zero_of_times_zero, zero_less_zero}
use Rattle.nf_model.specs.Entries.{number_at}
use Rattle.nf_model.specs.Network.{Link, sum_in, sum_out}
use Rattle.nf_thin_def.specs.Equations.{active_from, one_if, leaves_less_enters, onto_links}
use Rattle.nf_linear_laws.specs.Solution.{left_side}

abbrev pub dot : {A : Type 0} → (A → ℚ) → List A → List ℚ → ℚ
dot f [] xs = 0ℚ
dot f (u ∷ us) [] = 0ℚ
dot f (u ∷ us) (x ∷ xs) = f u *ℚ x +ℚ dot f us xs

-- ---- equations of rationals
nothing : 0ℚ ≡ 0ℚ +ℚ 0ℚ
nothing = linear_eq [] [] (search reading_of) tt tt

term_gone : (f x d : ℚ) → f ≡ 0ℚ → d ≡ 0ℚ → f *ℚ x +ℚ d ≡ 0ℚ
term_gone f x d e h = linear_eq (f ∷ x ∷ d ∷ []) (eq_times x e ∷ eq h ∷ []) (search reading_of) tt tt

term_skipped : (f x d y : ℚ) → f ≡ 0ℚ → d ≡ y → f *ℚ x +ℚ d ≡ y
term_skipped f x d y e h = linear_eq (f ∷ x ∷ d ∷ y ∷ []) (eq_times x e ∷ eq h ∷ []) (search reading_of) tt tt

term_only : (f c x d : ℚ) → f ≡ c → d ≡ 0ℚ → f *ℚ x +ℚ d ≡ c *ℚ x
term_only f c x d e h = linear_eq (f ∷ c ∷ x ∷ d ∷ []) (eq_times x e ∷ eq h ∷ []) (search reading_of) tt tt

terms_less : (f g h x d a b : ℚ) → f ≡ g -ℚ h → d ≡ a -ℚ b → f *ℚ x +ℚ d ≡ (g *ℚ x +ℚ a) -ℚ (h *ℚ x +ℚ b)
terms_less f g h x d a b e k = linear_eq (f ∷ g ∷ h ∷ x ∷ d ∷ a ∷ b ∷ []) (eq_times x e ∷ eq k ∷ []) (search reading_of) tt tt

-- ---- a row of a table
module _ {A : Type 0} (f : A → ℚ) where
  pub left_side-row : (us : List A) (right : ℚ) (xs : List ℚ) → length us ≡ length xs → left_side (map f us ++ right ∷ []) xs ≡ dot f us xs
  left_side-row [] right [] e = refl
  left_side-row [] right (x ∷ xs) e = absurd (cc)
  left_side-row (u ∷ us) right [] e = absurd (cc)
  left_side-row (u ∷ us) right (x ∷ xs) e = ap (λ (s : ℚ). f u *ℚ x +ℚ s) (left_side-row us right xs (cc))

  pub number_at-row : (us : List A) (right : ℚ) → number_at (map f us ++ right ∷ []) (length us) ≡ right
  number_at-row [] right = refl
  number_at-row (u ∷ us) right = number_at-row us right

  pub length-row : (us : List A) (right : ℚ) → length (map f us ++ right ∷ []) ≡ suc (length us)
  length-row [] right = refl
  length-row (u ∷ us) right = ap suc (length-row us right)

  pub dot-none : (us : List A) → dot f us [] ≡ 0ℚ
  dot-none [] = refl
  dot-none (u ∷ us) = refl

  pub dot-append : (us vs : List A) (xs : List ℚ) → dot f (us ++ vs) xs ≡ dot f us (take (length us) xs) +ℚ dot f vs (drop (length us) xs)
  dot-append [] vs xs = zero_plus (dot f vs xs)
  dot-append (u ∷ us) vs [] = nothing ∙ ap (λ (s : ℚ). 0ℚ +ℚ s) (sym (dot-none vs))
  dot-append (u ∷ us) vs (x ∷ xs) = sum_of_sum (f u *ℚ x) _ _ _ (dot-append us vs xs)

  pub dot-zero : ((u : A) → f u ≡ 0ℚ) → (us : List A) (xs : List ℚ) → dot f us xs ≡ 0ℚ
  dot-zero h [] xs = refl
  dot-zero h (u ∷ us) [] = refl
  dot-zero h (u ∷ us) (x ∷ xs) = term_gone (f u) x (dot f us xs) (h u) (dot-zero h us xs)

  pub dot-less : (g h : A → ℚ) → ((u : A) → f u ≡ g u -ℚ h u) → (us : List A) (xs : List ℚ) → dot f us xs ≡ dot g us xs -ℚ dot h us xs
  dot-less g h e [] xs = zero_less_zero
  dot-less g h e (u ∷ us) [] = zero_less_zero
  dot-less g h e (u ∷ us) (x ∷ xs) = terms_less (f u) (g u) (h u) x _ _ _ (e u) (dot-less g h e us xs)

pub dot-map : {A B : Type 0} (f : B → ℚ) (g : A → B) (us : List A) (xs : List ℚ) → dot f (map g us) xs ≡ dot (λ u. f (g u)) us xs
dot-map f g [] xs = refl
dot-map f g (u ∷ us) [] = refl
dot-map f g (u ∷ us) (x ∷ xs) = ap (λ (s : ℚ). f (g u) *ℚ x +ℚ s) (dot-map f g us xs)

-- ---- a single coefficient
abbrev pub only : ℕ → ℚ → ℕ → ℚ
only w c v = if eqb v w then c else 0ℚ

pub only-here : (w : ℕ) (c : ℚ) (v : ℕ) → v ≡ w → only w c v ≡ c
only-here w c v e = ⊎_elim
    (λ (h : (eqb v w ≡ true) × (v ≡ w)). ap (λ (b : Bool). if b then c else 0ℚ) h.0)
    (λ (h : (eqb v w ≡ false) × (v ≢ w)). absurd (h.1 e)) (eqb_tells v w)

pub only-else : (w : ℕ) (c : ℚ) (v : ℕ) → v ≢ w → only w c v ≡ 0ℚ
only-else w c v n = ⊎_elim
    (λ (h : (eqb v w ≡ true) × (v ≡ w)). absurd (n h.1))
    (λ (h : (eqb v w ≡ false) × (v ≢ w)). ap (λ (b : Bool). if b then c else 0ℚ) h.0) (eqb_tells v w)

range-before : (n k w : ℕ) (c : ℚ) (xs : List ℚ) → w < k → dot (only w c) (range_with_len k n) xs ≡ 0ℚ
range-before zero k w c xs h = refl
range-before (suc n) k w c [] h = refl
range-before (suc n) k w c (x ∷ xs) h = term_gone (only w c k) x _ (only-else w c k (λ e. absurd (omega arith))) (range-before n (k + 1) w c xs (omega arith))

pub range-only : (n k i w : ℕ) (c : ℚ) (xs : List ℚ) → w ≡ k + i → i < n → length xs ≡ n → dot (only w c) (range_with_len k n) xs ≡ c *ℚ number_at xs i
range-only zero k i w c xs e h l = absurd (omega arith)
range-only (suc n) k i w c [] e h l = absurd (cc)
range-only (suc n) k zero w c (x ∷ xs) e h l = term_only (only w c k) c x _ (only-here w c k (omega arith)) (range-before n (k + 1) w c xs (omega arith))
range-only (suc n) k (suc i) w c (x ∷ xs) e h l =
    term_skipped (only w c k) x _ (c *ℚ number_at xs i) (only-else w c k (λ same. absurd (omega arith)))
    (range-only n (k + 1) i w c xs (omega arith) (omega arith) (omega arith))

active-before : (active : List Bool) (k e : ℕ) (c : ℚ) (xs : List ℚ) → e < k → dot (only e c) (active_from k active) xs ≡ 0ℚ
active-before [] k e c xs h = refl
active-before (true ∷ active) k e c [] h = refl
active-before (true ∷ active) k e c (x ∷ xs) h = term_gone (only e c k) x _ (only-else e c k (λ same. absurd (omega arith))) (active-before active (suc k) e c xs (omega arith))
active-before (false ∷ active) k e c xs h = active-before active (suc k) e c xs (omega arith)

pub active-only : (active : List Bool) (k i e : ℕ) (c : ℚ) (xs : List ℚ) → e ≡ k + i → length xs ≡ length (active_from k active)
    → dot (only e c) (active_from k active) xs ≡ c *ℚ number_at (onto_links active xs) i
active-only [] k i e c xs same l = zero_of_times_zero c
active-only (true ∷ active) k i e c [] same l = absurd (cc)
active-only (true ∷ active) k zero e c (x ∷ xs) same l = term_only (only e c k) c x _ (only-here e c k (omega arith)) (active-before active (suc k) e c xs (omega arith))
active-only (true ∷ active) k (suc i) e c (x ∷ xs) same l =
    term_skipped (only e c k) x _ (c *ℚ number_at (onto_links active xs) i) (only-else e c k (λ s. absurd (omega arith)))
    (active-only active (suc k) i e c xs (omega arith) (cc))
active-only (false ∷ active) k zero e c xs same l = active-before active (suc k) e c xs (omega arith) ∙ zero_of_times_zero c
active-only (false ∷ active) k (suc i) e c xs same l = active-only active (suc k) i e c xs (omega arith) l

-- ---- at a node
both_ends : (a b : Bool) (f x so si d : ℚ) → f ≡ one_if a -ℚ one_if b → d ≡ so -ℚ si → f *ℚ x +ℚ d ≡ (if a then x +ℚ so else so) -ℚ (if b then x +ℚ si else si)
both_ends true true f x so si d e h = linear_eq (f ∷ x ∷ so ∷ si ∷ d ∷ []) (eq_times x e ∷ eq h ∷ []) (search reading_of) tt tt
both_ends true false f x so si d e h = linear_eq (f ∷ x ∷ so ∷ si ∷ d ∷ []) (eq_times x e ∷ eq h ∷ []) (search reading_of) tt tt
both_ends false true f x so si d e h = linear_eq (f ∷ x ∷ so ∷ si ∷ d ∷ []) (eq_times x e ∷ eq h ∷ []) (search reading_of) tt tt
both_ends false false f x so si d e h = linear_eq (f ∷ x ∷ so ∷ si ∷ d ∷ []) (eq_times x e ∷ eq h ∷ []) (search reading_of) tt tt

no_flow : (a b : Bool) (so si d : ℚ) → d ≡ so -ℚ si → d ≡ (if a then 0ℚ +ℚ so else so) -ℚ (if b then 0ℚ +ℚ si else si)
no_flow true true so si d h = linear_eq (so ∷ si ∷ d ∷ []) (eq h ∷ []) (search reading_of) tt tt
no_flow true false so si d h = linear_eq (so ∷ si ∷ d ∷ []) (eq h ∷ []) (search reading_of) tt tt
no_flow false true so si d h = linear_eq (so ∷ si ∷ d ∷ []) (eq h ∷ []) (search reading_of) tt tt
no_flow false false so si d h = h

pub node-dot : (links : List Link) (active : List Bool) (k : ℕ) (h : ℕ → ℚ) (xs : List ℚ) (v : ℕ) → length active ≡ length links → length xs ≡ length (active_from k active)
    → ((i e : ℕ) → e ≡ k + i → h e ≡ leaves_less_enters (slice_get links i) v)
    → dot h (active_from k active) xs ≡ sum_out links (number_at (onto_links active xs)) v -ℚ sum_in links (number_at (onto_links active xs)) v
node-dot [] [] k h xs v same l f = zero_less_zero
node-dot [] (b ∷ active) k h xs v same l f = absurd (cc)
node-dot (link ∷ links) [] k h xs v same l f = absurd (cc)
node-dot (link ∷ links) (true ∷ active) k h [] v same l f = absurd (cc)
node-dot (link ∷ links) (true ∷ active) k h (x ∷ xs) v same l f = both_ends (eqb link.tail v) (eqb link.head v) (h k) x _ _ _ (f 0 k (omega arith))
    (node-dot links active (suc k) h xs v (cc) (cc) (λ i e s. f (suc i) e (omega arith)))
node-dot (link ∷ links) (false ∷ active) k h xs v same l f = no_flow (eqb link.tail v) (eqb link.head v) _ _ _
    (node-dot links active (suc k) h xs v (cc) l (λ i e s. f (suc i) e (omega arith)))
