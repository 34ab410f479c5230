-- Offering a path a second time changes nothing, whatever was offered in between.
use Rattle.std.proofs.Common.{◌≡◌, ◌≢◌, ℕ, ◌+◌, ◌*◌, ◌<◌, List, [], ◌∷◌, length, set, length-set, Bool, true, false, if◌then◌else◌, ◌⊎◌, inl, inr, ⊎_elim}
use Rattle.std.proofs.Common.{eqb, Option, Some, None, sym, ap, subst, refl, ◌∙◌, arith, Ok}
use Rattle.nf_residual.proofs.Common.{eqb_tells, ℚ, ◌<ℚ◌, Passing, Checked, checked, ◌>>=◌, bind_ok, same_Ok, Step, place, Reach, AreFirst, AreFewerOrFirst}
use Rattle.nf_residual.proofs.Common.{IsAtMost, is_better, Known, op_of, known_at, better_of, offered, along, IsAtMost-refl, IsAtMost-trans, is_better-true}
use Rattle.nf_residual.proofs.Common.{is_better-false, known_at-set, Leg, along_leg, extended_by}
use Rattle.nf_rational_laws.proofs.Polynomial.{reading_of}
use Rattle.nf_rational_laws.proofs.Linear.{lt, eq, linear_false}
use Rattle.nf_residual.proofs.Offering.{same_set, set_elsewhere}

-- ---- two paths that are at most each other are equal
one_step : (link other : ℕ) (forward back : Bool) → place (record { link = link; forward = forward }) ≡ place (record { link = other; forward = back })
    → ◌≡◌ {A = Step} (record { link = link; forward = forward }) (record { link = other; forward = back })
one_step link other true true e = ap (λ (l : ℕ). record { link = l; forward = true }) (halves link other e)
  where
    halves : (l m : ℕ) → 2 * l + 0 ≡ 2 * m + 0 → l ≡ m
    halves l m e = omega arith
one_step link other false false e = ap (λ (l : ℕ). record { link = l; forward = false }) (halves link other e)
  where
    halves : (l m : ℕ) → 2 * l + 1 ≡ 2 * m + 1 → l ≡ m
    halves l m e = omega arith
one_step link other true false e = absurd (apart link other e)
  where
    apart : (l m : ℕ) → 2 * l + 0 ≡ 2 * m + 1 → ⊥
    apart l m e = omega arith
one_step link other false true e = absurd (apart link other e)
  where
    apart : (l m : ℕ) → 2 * l + 1 ≡ 2 * m + 0 → ⊥
    apart l m e = omega arith

same_steps : (walk other : List Step) → AreFirst walk other → AreFirst other walk → walk ≡ other
same_steps [] [] f g = refl
same_steps [] (b ∷ other) f g = absurd f
same_steps (a ∷ walk) [] f g = absurd f
same_steps (a ∷ walk) (b ∷ other) (inl f) (inl g) = absurd (omega arith)
same_steps (a ∷ walk) (b ∷ other) (inl f) (inr g) = let e : place b ≡ place a = g.0 in absurd (omega arith)
same_steps (a ∷ walk) (b ∷ other) (inr f) (inl g) = let e : place a ≡ place b = f.0 in absurd (omega arith)
same_steps (a ∷ walk) (b ∷ other) (inr f) (inr g) =
    ap (λ (s : Step). s ∷ walk) (one_step a.link b.link a.forward b.forward f.0) ∙ ap (λ (l : List Step). b ∷ l) (same_steps walk other f.1 g.1)

same_walk : (walk other : List Step) → AreFewerOrFirst walk other → AreFewerOrFirst other walk → walk ≡ other
same_walk walk other (inl f) (inl g) = absurd (omega arith)
same_walk walk other (inl f) (inr g) = let e : length other ≡ length walk = g.0 in absurd (omega arith)
same_walk walk other (inr f) (inl g) = let e : length walk ≡ length other = f.0 in absurd (omega arith)
same_walk walk other (inr f) (inr g) = same_steps walk other f.1 g.1

both_less : (a b : ℚ) → a <ℚ b → b <ℚ a → ⊥
both_less a b h k = linear_false (a ∷ b ∷ []) (lt h ∷ lt k ∷ []) (search reading_of depth 12) tt

less_and_same : (a b : ℚ) → a <ℚ b → b ≡ a → ⊥
less_and_same a b h e = linear_false (a ∷ b ∷ []) (lt h ∷ eq e ∷ []) (search reading_of depth 12) tt

pub one_way : (a b : Reach) → IsAtMost a b → IsAtMost b a → a ≡ b
one_way a b (inl f) (inl g) = absurd (both_less a.distance b.distance f g)
one_way a b (inl f) (inr g) = absurd (less_and_same a.distance b.distance f g.0)
one_way a b (inr f) (inl g) = absurd (less_and_same b.distance a.distance g f.0)
one_way a b (inr f) (inr g) =
    ap (λ (d : ℚ). record { distance = d; steps = a.steps }) f.0 ∙ ap (λ (s : List Step). record { distance = b.distance; steps = s }) (same_walk a.steps b.steps f.1 g.1)

-- ---- the better of two paths
either : (b : Bool) (way : Reach) → (if b then way else way) ≡ way
either true way = refl
either false way = refl

-- A path that is offered a second time.
again : (o : Option Reach) (way : Reach) → better_of (Some (better_of o way)) way ≡ better_of o way
again None way = either (is_better way way) way
again (Some old) way = by_test (is_better way old) refl
  where
    by_test : (t : Bool) → is_better way old ≡ t → better_of (Some (if t then way else old)) way ≡ (if t then way else old)
    by_test true e = either (is_better way way) way
    by_test false e = ap (λ (b : Bool). if b then way else old) e

-- A path that doesn't replace the known one doesn't replace a better one either.
pub at_most : (old way : Reach) → better_of (Some old) way ≡ old → IsAtMost old way
at_most old way e = by_test (is_better way old) refl
  where
    by_test : (t : Bool) → is_better way old ≡ t → IsAtMost old way
    by_test true f = subst (λ (r : Reach). IsAtMost old r) (sym (sym (ap (λ (b : Bool). if b then way else old) f) ∙ e)) (IsAtMost-refl old)
    by_test false f = is_better-false way old f

lost_still : (old way other : Reach) → better_of (Some old) way ≡ old → better_of (Some (better_of (Some old) other)) way ≡ better_of (Some old) other
lost_still old way other e = by_test (is_better other old) refl
  where
    against : is_better other old ≡ true → (t : Bool) → is_better way other ≡ t → (if t then way else other) ≡ other
    against f true g = one_way way other (is_better-true way other g) (IsAtMost-trans other old way (is_better-true other old f) (at_most old way e))
    against f false g = refl

    by_test : (t : Bool) → is_better other old ≡ t → better_of (Some (if t then other else old)) way ≡ (if t then other else old)
    by_test true f = against f (is_better way other) refl
    by_test false f = e

-- ---- offers to nodes
-- An offer that changes nothing.
pub lost_there : (known : Known) (v : ℕ) (way : Reach) → v < length known → offered known v way ≡ known → (old : Reach) × (known_at known v ≡ Some old) × (better_of (Some old) way ≡ old)
lost_there known v way h e =
    let at : known_at known v ≡ Some (better_of (known_at known v) way) = sym (ap (λ (k : Known). known_at k v) e) ∙ known_at-set known v (Some (better_of (known_at known v) way)) h in
    (better_of (known_at known v) way, at, ap (λ (o : Option Reach). better_of o way) (sym at))

lost_by : (known : Known) (v : ℕ) (way old : Reach) → v < length known → known_at known v ≡ Some old → better_of (Some old) way ≡ old → offered known v way ≡ known
lost_by known v way old h at e =
    ap (λ (o : Option Reach). set known v (Some (better_of o way))) at ∙ ap (λ (r : Reach). set known v (Some r)) e
    ∙ ap (λ (o : Option Reach). set known v o) (sym at) ∙ same_set known v h

offered_again : (known : Known) (v : ℕ) (way : Reach) → v < length known → offered (offered known v way) v way ≡ offered known v way
offered_again known v way h =
    let count : length (offered known v way) ≡ length known = length-set known v _ in
    let inside : v < length (offered known v way) = omega (arith, count) in
    lost_by (offered known v way) v way (better_of (known_at known v) way) inside (known_at-set known v (Some (better_of (known_at known v) way)) h) (again (known_at known v) way)

offered_then : (known : Known) (v w : ℕ) (way other : Reach) → v < length known → offered known v way ≡ known → offered (offered known w other) v way ≡ offered known w other
offered_then known v w way other h e =
    let count : length (offered known w other) ≡ length known = length-set known w _ in
    let inside : v < length (offered known w other) = omega (arith, count) in
    let l = lost_there known v way h e in
    by_node inside l.0 l.1 l.2 (eqb_tells v w)
  where
    by_node : v < length (offered known w other) → (old : Reach) → known_at known v ≡ Some old → better_of (Some old) way ≡ old
        → ((eqb v w ≡ true) × (v ≡ w)) ⊎ ((eqb v w ≡ false) × (v ≢ w))
        → offered (offered known w other) v way ≡ offered known w other
    by_node inside old at lost (inl k) =
        let here : known_at (offered known w other) v ≡ Some (better_of (Some old) other) =
        ap (λ (u : ℕ). known_at (offered known u other) v) (sym k.1) ∙ known_at-set known v (Some (better_of (known_at known v) other)) h
        ∙ ap (λ (o : Option Reach). Some (better_of o other)) at in
        lost_by (offered known w other) v way (better_of (Some old) other) inside here (lost_still old way other lost)
    by_node inside old at lost (inr k) = lost_by (offered known w other) v way old inside (set_elsewhere known w v _ k.1 ∙ at) lost

-- ---- along residual arcs
bound : {A B : Type 0} (r : Checked A) (f : A → B) (y : B) → (r >>= λ x. Ok (f x)) ≡ Ok y → (x : A) × (r ≡ Ok x) × (f x ≡ y)
bound r f y e = let b = bind_ok r (λ x. Ok (f x)) y e in (b.0, b.1, same_Ok (f b.0) y b.2)

module _ (passes : Passing) (before : Known) (leg : Leg) where
  -- From the known path to its begin.
  abbrev pub from_known : Option Reach → Known → Checked Known
  from_known o so_far = along passes true o leg.step leg.transit leg.end so_far

  pub gives : (o : Option Reach) (so_far next : Known) → from_known o so_far ≡ Ok next
      → ((later : Known) → from_known o later ≡ Ok later) ⊎ ((way : Reach) × (next ≡ offered so_far leg.end way)
      × ((later : Known) → from_known o later ≡ Ok (offered later leg.end way)))
  gives None so_far next e = inl (λ later. refl)
  gives (Some way) so_far next e =
      let b = bound (checked passes (op_of leg.step.forward) way.distance leg.transit) (λ d. offered so_far leg.end (extended_by way leg.step d)) next e in
      inr (extended_by way leg.step b.0, sym b.2, λ later. ap (λ (r : Checked ℚ). r >>= λ d. Ok (offered later leg.end (extended_by way leg.step d))) b.1)

abbrev pub Offers : Passing → Known → Leg → Known → Known → Type 0
Offers passes before leg so_far next = (way : Reach) × (next ≡ offered so_far leg.end way) × ((later : Known) → along_leg passes before later leg ≡ Ok (offered later leg.end way))

pub same_ok : (x y : Known) → ◌≡◌ {A = Checked Known} (Ok x) (Ok y) → x ≡ y
same_ok x y e = cc

module _ (passes : Passing) (before : Known) (leg : Leg) where
  -- The same arc a second time.
  pub settled_here : (so_far next : Known) → leg.end < length so_far → along_leg passes before so_far leg ≡ Ok next → along_leg passes before next leg ≡ Ok next
  settled_here so_far next h e = ⊎_elim
      (λ (k : (later : Known) → along_leg passes before later leg ≡ Ok later). k next)
      (λ (k : Offers passes before leg so_far next). k.2 next ∙ ap Ok (ap (λ (n : Known). offered n leg.end k.0) k.1 ∙ offered_again so_far leg.end k.0 h ∙ sym k.1))
      (gives passes before leg (known_at before leg.begin) so_far next e)

  -- The same after another arc.
  pub settled_then : (other : Leg) (so_far next : Known) → leg.end < length so_far → along_leg passes before so_far leg ≡ Ok so_far → along_leg passes before so_far other ≡ Ok next
      → along_leg passes before next leg ≡ Ok next
  settled_then other so_far next h e f = ⊎_elim
      (λ (k : (later : Known) → along_leg passes before later leg ≡ Ok later). k next)
      (λ (k : Offers passes before leg so_far so_far). k.2 next ∙ ap Ok (⊎_elim
      (λ (o : (later : Known) → along_leg passes before later other ≡ Ok later). by_same k.0 (sym k.1) (same_ok next so_far (sym f ∙ o so_far)))
      (λ (o : Offers passes before other so_far next). by_offer k.0 o.0 (sym k.1) o.1)
      (gives passes before other (known_at before other.begin) so_far next f)))
      (gives passes before leg (known_at before leg.begin) so_far so_far e)
    where
      by_same : (way : Reach) → offered so_far leg.end way ≡ so_far → next ≡ so_far → offered next leg.end way ≡ next
      by_same way lost same = ap (λ (n : Known). offered n leg.end way) same ∙ lost ∙ sym same

      by_offer : (way more : Reach) → offered so_far leg.end way ≡ so_far → next ≡ offered so_far other.end more → offered next leg.end way ≡ next
      by_offer way more lost made = ap (λ (n : Known). offered n leg.end way) made ∙ offered_then so_far leg.end other.end way more h lost ∙ sym made
