-- The order of paths is total and transitive, the test decides it, and extending both by a step preserves it.
use Rattle.std.proofs.Common.{◌≡◌, ◌≢◌, ℕ, suc, ◌+◌, ◌<◌, ◌≤◌, ◌==◌, ◌&&◌, ◌||◌, nat_lt, List, [], ◌∷◌, ◌++◌, length, ◌⊎◌, inl, inr, ⊎_elim, Bool, true}
use Rattle.std.proofs.Common.{false, not, leb, sym, refl, ◌∙◌, arith, length-append}
use Rattle.nf_quick_laws.proofs.Common.{leb_tells, ℚ, ◌+ℚ◌, ◌≤ℚ◌, ◌<ℚ◌, lt_ℚ, reading_of, ≤ℚ_antisymm, lt_or_le_ℚ, less_of_test, not_less_of_test, lt, eq}
use Rattle.nf_quick_laws.proofs.Common.{linear_lt, linear_eq, Step, place, Reach, AreFirst, AreFewerOrFirst, IsAtMost, are_before, are_fewer_or_before}
use Rattle.nf_quick_laws.proofs.Common.{is_better, and_parts, not-false, not-true, or_parts, eqb-true, eqb-false, ltb-true, ltb-false, <ℚ_trans}

-- ---- walks of equally many steps
pub AreFirst-refl : (walk : List Step) → AreFirst walk walk
AreFirst-refl [] = tt
AreFirst-refl (a ∷ walk) = inr (refl, AreFirst-refl walk)

AreFirst-trans : (p q r : List Step) → AreFirst p q → AreFirst q r → AreFirst p r
AreFirst-trans [] [] [] f g = tt
AreFirst-trans [] [] (c ∷ r) f g = g
AreFirst-trans [] (b ∷ q) r f g = absurd f
AreFirst-trans (a ∷ p) [] r f g = absurd f
AreFirst-trans (a ∷ p) (b ∷ q) [] f g = absurd g
AreFirst-trans (a ∷ p) (b ∷ q) (c ∷ r) (inl f) (inl g) = inl (omega arith)
AreFirst-trans (a ∷ p) (b ∷ q) (c ∷ r) (inl f) (inr g) = let e : place b ≡ place c = g.0 in inl (omega arith)
AreFirst-trans (a ∷ p) (b ∷ q) (c ∷ r) (inr f) (inl g) = let e : place a ≡ place b = f.0 in inl (omega arith)
AreFirst-trans (a ∷ p) (b ∷ q) (c ∷ r) (inr f) (inr g) = inr (f.0 ∙ g.0, AreFirst-trans p q r f.1 g.1)

AreFirst-append : (p q : List Step) (step : Step) → AreFirst p q → AreFirst (p ++ step ∷ []) (q ++ step ∷ [])
AreFirst-append [] [] step f = inr (refl, tt)
AreFirst-append [] (b ∷ q) step f = absurd f
AreFirst-append (a ∷ p) [] step f = absurd f
AreFirst-append (a ∷ p) (b ∷ q) step (inl f) = inl f
AreFirst-append (a ∷ p) (b ∷ q) step (inr f) = inr (f.0, AreFirst-append p q step f.1)

or_cases : (a b : Bool) → (a || b) ≡ true → (a ≡ true) ⊎ ((a ≡ false) × (b ≡ true))
or_cases true b e = inl refl
or_cases false b e = inr (refl, e)

and_false : (a b : Bool) → (a && b) ≡ false → (a ≡ false) ⊎ ((a ≡ true) × (b ≡ false))
and_false true b e = inr (refl, e)
and_false false b e = inl refl

pub lt_tells : (a b : ℕ) → ((nat_lt a b ≡ true) × (a < b)) ⊎ ((nat_lt a b ≡ false) × (b ≤ a))
lt_tells a b = ⊎_elim
    (λ (w : (leb (suc a) b ≡ true) × (suc a ≤ b)). inl (w.0, w.1))
    (λ (w : (leb (suc a) b ≡ false) × (b < suc a)). inr (w.0, below w.1))
    (leb_tells (suc a) b)
  where
    below : b < suc a → b ≤ a
    below h = omega arith

less_from : (a b : ℕ) → b ≤ a → a ≢ b → b < a
less_from a b h other = omega arith

are_before-true : (p q : List Step) → are_before p q ≡ true → AreFirst p q
are_before-true [] q e = absurd (cc)
are_before-true (a ∷ p) [] e = absurd (cc)
are_before-true (a ∷ p) (b ∷ q) e = ⊎_elim
    (λ (l : nat_lt (place a) (place b) ≡ true). inl (ltb-true (place a) (place b) l))
    (λ (r : (nat_lt (place a) (place b) ≡ false) × (((place a == place b) && are_before p q) ≡ true)).
    let both : ((place a == place b) ≡ true) × (are_before p q ≡ true) = and_parts _ _ r.1 in inr (eqb-true (place a) (place b) both.0, are_before-true p q both.1))
    (or_cases _ _ e)

are_before-false : (p q : List Step) → length p ≡ length q → are_before p q ≡ false → AreFirst q p
are_before-false [] [] h e = tt
are_before-false [] (b ∷ q) h e = absurd (omega arith)
are_before-false (a ∷ p) [] h e = absurd (omega arith)
are_before-false (a ∷ p) (b ∷ q) h e =
    let both : (nat_lt (place a) (place b) ≡ false) × (((place a == place b) && are_before p q) ≡ false) = or_parts _ _ e in
    let least : place b ≤ place a = ltb-false (place a) (place b) both.0 in
    ⊎_elim
    (λ (other : (place a == place b) ≡ false). inl (less_from (place a) (place b) least (eqb-false (place a) (place b) other)))
    (λ (same : ((place a == place b) ≡ true) × (are_before p q ≡ false)). inr (sym (eqb-true (place a) (place b) same.0), are_before-false p q (omega arith) same.1))
    (and_false _ _ both.1)

-- ---- fewer steps first
AreFewerOrFirst-trans : (p q r : List Step) → AreFewerOrFirst p q → AreFewerOrFirst q r → AreFewerOrFirst p r
AreFewerOrFirst-trans p q r (inl f) (inl g) = inl (omega arith)
AreFewerOrFirst-trans p q r (inl f) (inr g) = let e : length q ≡ length r = g.0 in inl (omega arith)
AreFewerOrFirst-trans p q r (inr f) (inl g) = let e : length p ≡ length q = f.0 in inl (omega arith)
AreFewerOrFirst-trans p q r (inr f) (inr g) = inr (f.0 ∙ g.0, AreFirst-trans p q r f.1 g.1)

AreFewerOrFirst-append : (p q : List Step) (step : Step) → AreFewerOrFirst p q → AreFewerOrFirst (p ++ step ∷ []) (q ++ step ∷ [])
AreFewerOrFirst-append p q step f = one_more (length-append p (step ∷ [])) (length-append q (step ∷ [])) f
  where
    one_more : length (p ++ step ∷ []) ≡ length p + 1 → length (q ++ step ∷ []) ≡ length q + 1 → AreFewerOrFirst p q → AreFewerOrFirst (p ++ step ∷ []) (q ++ step ∷ [])
    one_more m n (inl f) = inl (omega arith)
    one_more m n (inr f) = let e : length p ≡ length q = f.0 in inr (omega arith, AreFirst-append p q step f.1)

are_fewer-true : (p q : List Step) → are_fewer_or_before p q ≡ true → AreFewerOrFirst p q
are_fewer-true p q e = ⊎_elim
    (λ (l : nat_lt (length p) (length q) ≡ true). inl (ltb-true (length p) (length q) l))
    (λ (r : (nat_lt (length p) (length q) ≡ false) × (((length p == length q) && are_before p q) ≡ true)).
    let both : ((length p == length q) ≡ true) × (are_before p q ≡ true) = and_parts _ _ r.1 in inr (eqb-true (length p) (length q) both.0, are_before-true p q both.1))
    (or_cases _ _ e)

are_fewer-false : (p q : List Step) → are_fewer_or_before p q ≡ false → AreFewerOrFirst q p
are_fewer-false p q e =
    let both : (nat_lt (length p) (length q) ≡ false) × (((length p == length q) && are_before p q) ≡ false) = or_parts _ _ e in
    let least : length q ≤ length p = ltb-false (length p) (length q) both.0 in
    ⊎_elim
    (λ (other : (length p == length q) ≡ false). inl (less_from (length p) (length q) least (eqb-false (length p) (length q) other)))
    (λ (same : ((length p == length q) ≡ true) × (are_before p q ≡ false)).
    let h : length p ≡ length q = eqb-true (length p) (length q) same.0 in inr (sym h, are_before-false p q h same.1))
    (and_false _ _ both.1)

-- ---- shorter first

lt_eq : (a b c : ℚ) → a <ℚ b → b ≡ c → a <ℚ c
lt_eq a b c h e = linear_lt (a ∷ b ∷ c ∷ []) (lt h ∷ eq e ∷ []) (search reading_of) tt

eq_lt : (a b c : ℚ) → a ≡ b → b <ℚ c → a <ℚ c
eq_lt a b c e h = linear_lt (a ∷ b ∷ c ∷ []) (lt h ∷ eq e ∷ []) (search reading_of) tt

pub IsAtMost-refl : (a : Reach) → IsAtMost a a
IsAtMost-refl a = inr (refl, inr (refl, AreFirst-refl a.steps))

pub IsAtMost-trans : (a b c : Reach) → IsAtMost a b → IsAtMost b c → IsAtMost a c
IsAtMost-trans a b c (inl f) (inl g) = inl (<ℚ_trans _ _ _ f g)
IsAtMost-trans a b c (inl f) (inr g) = inl (lt_eq _ _ _ f g.0)
IsAtMost-trans a b c (inr f) (inl g) = inl (eq_lt _ _ _ f.0 g)
IsAtMost-trans a b c (inr f) (inr g) = inr (f.0 ∙ g.0, AreFewerOrFirst-trans a.steps b.steps c.steps f.1 g.1)

-- One more step, whose length adds l to each.
lt_plus : (a b l x y : ℚ) → a <ℚ b → x ≡ a +ℚ l → y ≡ b +ℚ l → x <ℚ y
lt_plus a b l x y h e f = linear_lt (a ∷ b ∷ l ∷ x ∷ y ∷ []) (lt h ∷ eq e ∷ eq f ∷ []) (search reading_of) tt

eq_plus : (a b l x y : ℚ) → a ≡ b → x ≡ a +ℚ l → y ≡ b +ℚ l → x ≡ y
eq_plus a b l x y h e f = linear_eq (a ∷ b ∷ l ∷ x ∷ y ∷ []) (eq h ∷ eq e ∷ eq f ∷ []) (search reading_of) tt tt

pub IsAtMost-more : (a b : Reach) (step : Step) (l x y : ℚ) → x ≡ a.distance +ℚ l → y ≡ b.distance +ℚ l → IsAtMost a b
    → IsAtMost (record { distance = x; steps = a.steps ++ step ∷ [] }) (record { distance = y; steps = b.steps ++ step ∷ [] })
IsAtMost-more a b step l x y e f (inl h) = inl (lt_plus _ _ l x y h e f)
IsAtMost-more a b step l x y e f (inr h) = inr (eq_plus _ _ l x y h.0 e f, AreFewerOrFirst-append a.steps b.steps step h.1)

by_distance : (x y : ℚ) (P : Type 0) → x ≤ℚ y → (x <ℚ y → P) → (x ≡ y → P) → P
by_distance x y P h f g = ⊎_elim (λ (l : x <ℚ y). f l) (λ (k : y ≤ℚ x). g (≤ℚ_antisymm x y h k)) (lt_or_le_ℚ x y)

pub is_better-true : (a b : Reach) → is_better a b ≡ true → IsAtMost a b
is_better-true a b e = ⊎_elim
    (λ (l : lt_ℚ a.distance b.distance ≡ true). inl (less_of_test _ _ l))
    (λ (r : (lt_ℚ a.distance b.distance ≡ false) × ((not (lt_ℚ b.distance a.distance) && are_fewer_or_before a.steps b.steps) ≡ true)).
    let both : (not (lt_ℚ b.distance a.distance) ≡ true) × (are_fewer_or_before a.steps b.steps ≡ true) = and_parts _ _ r.1 in
    inr (≤ℚ_antisymm _ _ (not_less_of_test _ _ (not-true _ both.0)) (not_less_of_test _ _ r.0), are_fewer-true a.steps b.steps both.1))
    (or_cases _ _ e)

pub is_better-false : (a b : Reach) → is_better a b ≡ false → IsAtMost b a
is_better-false a b e =
    let both : (lt_ℚ a.distance b.distance ≡ false) × ((not (lt_ℚ b.distance a.distance) && are_fewer_or_before a.steps b.steps) ≡ false) = or_parts _ _ e in
    ⊎_elim
    (λ (l : not (lt_ℚ b.distance a.distance) ≡ false). inl (less_of_test _ _ (not-false _ l)))
    (λ (r : (not (lt_ℚ b.distance a.distance) ≡ true) × (are_fewer_or_before a.steps b.steps ≡ false)).
    by_distance b.distance a.distance (IsAtMost b a) (not_less_of_test _ _ both.0) (λ l. inl l) (λ s. inr (s, are_fewer-false a.steps b.steps r.1)))
    (and_false _ _ both.1)
