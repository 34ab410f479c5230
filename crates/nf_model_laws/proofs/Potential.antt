-- Sums over nodes and over links: what a flow carries along a potential.
use Rattle.std.proofs.Common.{◌≡◌, ◌≢◌, ℕ, zero, suc, ◌<◌, ◌≤◌, List, [], ◌∷◌, ⊎_elim, Bool, true, false, if◌then◌else◌, eqb, Some, slice_get, sym, ap, subst, refl, ◌∙◌, arith}
use Rattle.nf_model_laws.proofs.Common.{eqb_tells, ℚ, 0ℚ, ◌+ℚ◌, ◌-ℚ◌, ◌*ℚ◌, ◌≤ℚ◌, reading_of, nn_plus, ≤ℚ_of_same, ≤ℚ_antisymm, le, eq, linear_le, linear_eq}
use Rattle.nf_model_laws.proofs.Common.{first_and_zero, sum_le, Link, sum_in, sum_out}

-- the sum of f below n
abbrev pub sum_to : ℕ → (ℕ → ℚ) → ℚ
sum_to zero f = 0ℚ
sum_to (suc n) f = sum_to n f +ℚ f n

pub sum_to-nn : (n : ℕ) (f : ℕ → ℚ) → ((k : ℕ) → k < n → 0ℚ ≤ℚ f k) → 0ℚ ≤ℚ sum_to n f
sum_to-nn zero f h = ≤ℚ_of_same 0ℚ 0ℚ refl
sum_to-nn (suc n) f h = nn_plus _ _ (sum_to-nn n f (λ k l. h k (omega arith))) (h n (omega arith))

pub sum_to-same : (n : ℕ) (f g : ℕ → ℚ) → ((k : ℕ) → k < n → f k ≡ g k) → sum_to n f ≡ sum_to n g
sum_to-same zero f g e = refl
sum_to-same (suc n) f g e = let p : sum_to n f ≡ sum_to n g = sum_to-same n f g (λ k h. e k (omega arith)) in let q : f n ≡ g n = e n (omega arith) in cc

sum_step : (s t u a b c : ℚ) → s ≡ t +ℚ u → a ≡ b +ℚ c → s +ℚ a ≡ (t +ℚ b) +ℚ (u +ℚ c)
sum_step s t u a b c e f = linear_eq (s ∷ t ∷ u ∷ a ∷ b ∷ c ∷ []) (eq e ∷ eq f ∷ []) (search reading_of) tt tt

pub sum_to-plus : (n : ℕ) (f g h : ℕ → ℚ) → ((k : ℕ) → f k ≡ g k +ℚ h k) → sum_to n f ≡ sum_to n g +ℚ sum_to n h
sum_to-plus zero f g h e = linear_eq [] [] (search reading_of) tt tt
sum_to-plus (suc n) f g h e = sum_step _ _ _ _ _ _ (sum_to-plus n f g h e) (e n)

-- a sum of one term
abbrev pub only_at : ℕ → ℚ → ℕ → ℚ
only_at v a k = if eqb v k then a else 0ℚ

pub only_at-here : (v : ℕ) (a : ℚ) → only_at v a v ≡ a
only_at-here v a = ⊎_elim
    (λ (w : (eqb v v ≡ true) × (v ≡ v)). ap (λ (b : Bool). if b then a else 0ℚ) w.0)
    (λ (w : (eqb v v ≡ false) × (v ≢ v)). absurd (w.1 refl)) (eqb_tells v v)

pub only_at-else : (v : ℕ) (a : ℚ) (k : ℕ) → v ≢ k → only_at v a k ≡ 0ℚ
only_at-else v a k h = ⊎_elim
    (λ (w : (eqb v k ≡ true) × (v ≡ k)). absurd (h w.1))
    (λ (w : (eqb v k ≡ false) × (v ≢ k)). ap (λ (b : Bool). if b then a else 0ℚ) w.0) (eqb_tells v k)

none_plus : (s a b : ℚ) → s ≡ 0ℚ → b ≡ a → s +ℚ b ≡ a
none_plus s a b e f = linear_eq (s ∷ a ∷ b ∷ []) (eq e ∷ eq f ∷ []) (search reading_of) tt tt

sum_to-none : (n v : ℕ) (a : ℚ) → n ≤ v → sum_to n (only_at v a) ≡ 0ℚ
sum_to-none zero v a h = refl
sum_to-none (suc n) v a h = first_and_zero _ _ 0ℚ (sum_to-none n v a (omega arith)) (only_at-else v a n (λ e. absurd (omega arith)))

pub sum_to-only : (n v : ℕ) (a : ℚ) → v < n → sum_to n (only_at v a) ≡ a
sum_to-only zero v a h = absurd (omega arith)
sum_to-only (suc n) v a h = ⊎_elim
    (λ (w : (eqb v n ≡ true) × (v ≡ n)). none_plus _ a _ (sum_to-none n v a (omega arith)) (subst (λ (k : ℕ). only_at v a k ≡ a) w.1 (only_at-here v a)))
    (λ (w : (eqb v n ≡ false) × (v ≢ n)). first_and_zero _ _ a (sum_to-only n v a (omega arith)) (only_at-else v a n w.1)) (eqb_tells v n)

-- the sum over the links of what each carries times the fall of the potential along it
abbrev pub fall : (ℕ → ℚ) → Link → ℚ
fall w link = w link.tail -ℚ w link.head

abbrev pub carried : (ℕ → ℚ) → List Link → (ℕ → ℚ) → ℚ
carried w [] f = 0ℚ
carried w (link ∷ links) f = f 0 *ℚ fall w link +ℚ carried w links (λ e. f (suc e))

abbrev pub EndsBelow : ℕ → List Link → Type 0
EndsBelow n links = (e : ℕ) (link : Link) → slice_get links e ≡ Some link → (link.tail < n) × (link.head < n)

abbrev pub out_less_in : List Link → (ℕ → ℚ) → ℕ → ℚ
out_less_in links f v = sum_out links f v -ℚ sum_in links f v

-- one more link changes the sum at a node by what it takes there and what it brings
one_link : (w o i a : ℚ) (s t : Bool) → w *ℚ ((if s then a +ℚ o else o) -ℚ (if t then a +ℚ i else i))
    ≡ (if s then w *ℚ a else 0ℚ) +ℚ ((if t then 0ℚ -ℚ w *ℚ a else 0ℚ) +ℚ w *ℚ (o -ℚ i))
one_link w o i a true true = linear_eq (w ∷ o ∷ i ∷ a ∷ []) [] (search reading_of) tt tt
one_link w o i a true false = linear_eq (w ∷ o ∷ i ∷ a ∷ []) [] (search reading_of) tt tt
one_link w o i a false true = linear_eq (w ∷ o ∷ i ∷ a ∷ []) [] (search reading_of) tt tt
one_link w o i a false false = linear_eq (w ∷ o ∷ i ∷ a ∷ []) [] (search reading_of) tt tt

pub sum_to-zero : (n : ℕ) (f : ℕ → ℚ) → ((k : ℕ) → k < n → f k ≡ 0ℚ) → sum_to n f ≡ 0ℚ
sum_to-zero zero f e = refl
sum_to-zero (suc n) f e = first_and_zero _ _ 0ℚ (sum_to-zero n f (λ k h. e k (omega arith))) (e n (omega arith))

pub sum_to-at : (n v : ℕ) (g : ℕ → ℚ) → v < n → sum_to n (λ k. if eqb v k then g k else 0ℚ) ≡ g v
sum_to-at n v g h = sum_to-same n (λ k. if eqb v k then g k else 0ℚ) (only_at v (g v)) (λ k _. same k) ∙ sum_to-only n v (g v) h
  where
    same : (k : ℕ) → (if eqb v k then g k else 0ℚ) ≡ only_at v (g v) k
    same k = ⊎_elim
        (λ (w : (eqb v k ≡ true) × (v ≡ k)). ap (λ (j : ℕ). if eqb v k then g j else 0ℚ) (sym w.1))
        (λ (w : (eqb v k ≡ false) × (v ≢ k)). ap (λ (b : Bool). if b then g k else 0ℚ) w.0 ∙ sym (ap (λ (b : Bool). if b then g v else 0ℚ) w.0)) (eqb_tells v k)

nothing : (w : ℚ) → w *ℚ (0ℚ -ℚ 0ℚ) ≡ 0ℚ
nothing w = linear_eq (w ∷ []) [] (search reading_of) tt tt

collected : (c a s t p q r : ℚ) → p ≡ s *ℚ a → q ≡ 0ℚ -ℚ t *ℚ a → r ≡ c → a *ℚ (s -ℚ t) +ℚ c ≡ p +ℚ (q +ℚ r)
collected c a s t p q r e f g = linear_eq (c ∷ a ∷ s ∷ t ∷ p ∷ q ∷ r ∷ []) (eq e ∷ eq f ∷ eq g ∷ []) (search reading_of) tt tt

-- summed over the nodes it is each node's potential times what it sends out beyond what comes in
pub carried-is : (n : ℕ) (w : ℕ → ℚ) (links : List Link) (f : ℕ → ℚ) → EndsBelow n links → carried w links f ≡ sum_to n (λ v. w v *ℚ out_less_in links f v)
carried-is n w [] f b = sym (sum_to-zero n (λ v. w v *ℚ (0ℚ -ℚ 0ℚ)) (λ k _. nothing (w k)))
carried-is n w (link ∷ links) f b =
    let rest : ℕ → ℚ = λ e. f (suc e) in
    collected _ (f 0) (w link.tail) (w link.head) _ _ _ (sum_to-at n link.tail (λ v. w v *ℚ f 0) (b 0 link refl).0) (sum_to-at n link.head (λ v. 0ℚ -ℚ w v *ℚ f 0) (b 0 link refl).1)
    (sym (carried-is n w links rest (λ e l p. b (suc e) l p)))
    ∙ sym (sum_to-plus n (λ v. w v *ℚ out_less_in (link ∷ links) f v) (λ v. if eqb link.tail v then w v *ℚ f 0 else 0ℚ)
    (λ v. (if eqb link.head v then 0ℚ -ℚ w v *ℚ f 0 else 0ℚ) +ℚ w v *ℚ out_less_in links rest v)
    (λ v. one_link (w v) (sum_out links rest v) (sum_in links rest v) (f 0) (eqb link.tail v) (eqb link.head v))
    ∙ ap (λ (s : ℚ). sum_to n (λ v. if eqb link.tail v then w v *ℚ f 0 else 0ℚ) +ℚ s)
    (sum_to-plus n _ (λ v. if eqb link.head v then 0ℚ -ℚ w v *ℚ f 0 else 0ℚ) (λ v. w v *ℚ out_less_in links rest v) (λ v. refl)))

-- ---- two flows compared link by link
pub carried-le : (w : ℕ → ℚ) (links : List Link) (x y : ℕ → ℚ)
    → ((e : ℕ) (link : Link) → slice_get links e ≡ Some link → x e *ℚ fall w link ≤ℚ y e *ℚ fall w link) → carried w links x ≤ℚ carried w links y
carried-le w [] x y h = linear_le [] [] (search reading_of) tt
carried-le w (link ∷ links) x y h = sum_le _ _ _ _ (h 0 link refl) (carried-le w links (λ e. x (suc e)) (λ e. y (suc e)) (λ e l s. h (suc e) l s))

pub first_le : (a b c d : ℚ) → c ≤ℚ d → b +ℚ d ≤ℚ a +ℚ c → b ≤ℚ a
first_le a b c d h k = linear_le (a ∷ b ∷ c ∷ d ∷ []) (le h ∷ le k ∷ []) (search reading_of) tt

pub rest_le : (a b c d : ℚ) → a ≤ℚ b → b +ℚ d ≤ℚ a +ℚ c → d ≤ℚ c
rest_le a b c d h k = linear_le (a ∷ b ∷ c ∷ d ∷ []) (le h ∷ le k ∷ []) (search reading_of) tt

-- where no link of the one carries more than that of the other, but the sums are equal, each carries the same
pub carried-each : (w : ℕ → ℚ) (links : List Link) (x y : ℕ → ℚ)
    → ((e : ℕ) (link : Link) → slice_get links e ≡ Some link → x e *ℚ fall w link ≤ℚ y e *ℚ fall w link) → carried w links y ≤ℚ carried w links x
    → (e : ℕ) (link : Link) → slice_get links e ≡ Some link → x e *ℚ fall w link ≡ y e *ℚ fall w link
carried-each w [] x y h s e link g = absurd (cc)
carried-each w (l ∷ links) x y h s zero link g =
    subst (λ (k : Link). x 0 *ℚ fall w k ≡ y 0 *ℚ fall w k) (some_same l link g)
    (≤ℚ_antisymm _ _ (h 0 l refl) (first_le _ _ _ _ (carried-le w links (λ e. x (suc e)) (λ e. y (suc e)) (λ e l s. h (suc e) l s)) s))
  where
    some_same : (a b : Link) → slice_get (a ∷ links) 0 ≡ Some b → a ≡ b
    some_same a b e = cc
carried-each w (l ∷ links) x y h s (suc e) link g =
    carried-each w links (λ e. x (suc e)) (λ e. y (suc e)) (λ e l s. h (suc e) l s) (rest_le _ _ _ _ (h 0 l refl) s) e link g
