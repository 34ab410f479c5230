-- Whether a curve turns at a time, by its place; and the corners at which two curves differ, one after the other.
use Rattle.std.proofs.Common.{◌≡◌, ℕ, zero, suc, ◌-◌, ◌<◌, ◌≤◌, List, [], ◌∷◌, ⊎_elim, Bool, true, false, refl, sym, ap, subst, ◌∙◌, arith, Option, Some}
use Rattle.std.proofs.Common.{None, slice_get, Ok, if◌then◌else◌}
use Rattle.nf_curve.proofs.Common.{ℚ, 0ℚ, ◌≤ℚ◌, ◌<ℚ◌, lt_ℚ, ≤ℚ_of_lt, ≤ℚ_of_same, not_both_ℚ, lt_ℚ_cases, Passing, Checked, Point, TimesRise, IsCurve}
use Rattle.nf_curve.proofs.Common.{<_≤_trans, is_same, turn_at, turns_from, checked_turn, is_same_cases, count_until, turn_between}
use Rattle.nf_curve.proofs.Placing.{place-behind, place-past}

-- equal where the time is that of the middle point
abbrev turn_here : Passing → ℚ → Option Point → Option Point → Option Point → Checked Bool
turn_here passes time p None r = Ok false
turn_here passes time p (Some q) r = if is_same time q.0 then turn_between passes p (Some q) r else Ok false

abbrev turn_place : Passing → ℚ → List Point → ℕ → Checked Bool
turn_place passes time points zero = Ok false
turn_place passes time points (suc zero) = Ok false
turn_place passes time points (suc (suc n)) = turn_here passes time (slice_get points n) (slice_get points (suc n)) (slice_get points (suc (suc n)))

apart_times : (s t : ℚ) → s <ℚ t → is_same s t ≡ false
apart_times s t h = ⊎_elim
    (λ (w : (is_same s t ≡ true) × (s ≡ t)). absurd (not_both_ℚ s t h (≤ℚ_of_same t s (sym w.1))))
    (λ (w : (is_same s t ≡ false) × (¬ (s ≡ t))). w.0)
    (is_same_cases s t)

module _ (passes : Passing) (time : ℚ) where
  -- no point comes at a time before all but the first
  none_turns : (p : Point) (rest : List Point) → TimesRise (p ∷ rest) → time <ℚ p.0 → turns_from passes time p rest ≡ Ok false
  none_turns p [] r h = refl
  none_turns p (q ∷ rest) r h =
      let k : time <ℚ q.0 = <_≤_trans _ _ _ h (≤ℚ_of_lt _ _ r.0) in
      ap (λ (b : Bool). if b then turn_at passes p q rest else turns_from passes time q rest) (apart_times time q.0 k) ∙ none_turns q rest r.1 k

  at_end : (p q : Point) (rest : List Point) → turn_at passes p q rest ≡ turn_between passes (Some p) (Some q) (slice_get rest zero)
  at_end p q [] = refl
  at_end p q (r ∷ rest) = refl

  -- after the time of a point, which is the last one up to it
  at_none : (p q : Point) (rest : List Point) (m : ℕ) → TimesRise (q ∷ rest) → is_same time q.0 ≡ true → count_until time rest ≡ m → m ≡ zero
  at_none p q [] m r s e = sym e
  at_none p q (x ∷ rest) m r s e = sym e ∙ place-behind time x rest (subst (λ (t : ℚ). t <ℚ x.0) (sym (Rattle.nf_curve_laws.proofs.Operations.same_of time q.0 s)) r.0)

  turns-place : (p : Point) (rest : List Point) (k : ℕ) → TimesRise (p ∷ rest) → p.0 ≤ℚ time → count_until time (p ∷ rest) ≡ k
      → turns_from passes time p rest ≡ turn_place passes time (p ∷ rest) k
  turns-place p [] k r h e = ap (turn_place passes time (p ∷ [])) (sym (place-past time p [] h) ∙ e)
  turns-place p (q ∷ rest) k r h e = ⊎_elim
      (λ (w : (lt_ℚ time q.0 ≡ true) × (time <ℚ q.0)).
      ap (λ (b : Bool). if b then turn_at passes p q rest else turns_from passes time q rest) (apart_times time q.0 w.1) ∙ none_turns q rest r.1 w.1
      ∙ ap (turn_place passes time (p ∷ q ∷ rest)) (sym (place-past time p (q ∷ rest) h ∙ ap suc (place-behind time q rest w.1)) ∙ e))
      (λ (w : (lt_ℚ time q.0 ≡ false) × (q.0 ≤ℚ time)).
      further (count_until time rest) refl (λ k e. turns-place q rest k r.1 w.1 e) w.1
      ∙ ap (turn_place passes time (p ∷ q ∷ rest)) (sym (place-past time p (q ∷ rest) h ∙ ap suc (place-past time q rest w.1)) ∙ e))
      (lt_ℚ_cases time q.0)
    where
      further : (m : ℕ) → count_until time rest ≡ m → ((k : ℕ) → count_until time (q ∷ rest) ≡ k → turns_from passes time q rest ≡ turn_place passes time (q ∷ rest) k) → q.0 ≤ℚ time
          → turns_from passes time p (q ∷ rest) ≡ turn_place passes time (p ∷ q ∷ rest) (suc (suc m))
      further m d rec j = ⊎_elim
          (λ (w : (is_same time q.0 ≡ true) × (time ≡ q.0)).
          ap (λ (b : Bool). if b then turn_at passes p q rest else turns_from passes time q rest) w.0 ∙ at_end p q rest
          ∙ sym (ap (λ (n : ℕ). turn_place passes time (p ∷ q ∷ rest) (suc (suc n))) (at_none p q rest m r.1 w.0 d)
          ∙ ap (λ (b : Bool). if b then turn_between passes (Some p) (Some q) (slice_get rest zero) else Ok false) w.0))
          (λ (w : (is_same time q.0 ≡ false) × (¬ (time ≡ q.0))).
          ap (λ (b : Bool). if b then turn_at passes p q rest else turns_from passes time q rest) w.0
          ∙ rec (suc m) (place-past time q rest j ∙ ap suc d) ∙ same m w.0)
          (is_same_cases time q.0)
        where
          same : (m : ℕ) → is_same time q.0 ≡ false → turn_place passes time (q ∷ rest) (suc m) ≡ turn_place passes time (p ∷ q ∷ rest) (suc (suc m))
          same zero t = sym (ap (λ (b : Bool). if b then turn_between passes (Some p) (Some q) (slice_get rest zero) else Ok false) t)
          same (suc m) t = refl

  checked_turn-place : (points : List Point) (k : ℕ) → IsCurve points → 0ℚ ≤ℚ time → k ≡ count_until time points → checked_turn passes time points ≡ turn_place passes time points k
  checked_turn-place [] k c h e = absurd c
  checked_turn-place (p ∷ rest) k c h e = turns-place p rest k c.1 (subst (λ (z : ℚ). z ≤ℚ time) (sym c.0) h) (sym e)

  -- ---- the exits of the test
  pub turn-early : (points : List Point) (k : ℕ) → IsCurve points → 0ℚ ≤ℚ time → k ≡ count_until time points → k < 2 → checked_turn passes time points ≡ Ok false
  turn-early points k c h e j = checked_turn-place points k c h e ∙ early k j
    where
      early : (k : ℕ) → k < 2 → turn_place passes time points k ≡ Ok false
      early zero j = refl
      early (suc zero) j = refl
      early (suc (suc n)) j = absurd (omega arith)

  late : (points : List Point) (k : ℕ) (p q : Point) → 2 ≤ k → slice_get points (k - 2) ≡ Some p → slice_get points (k - 1) ≡ Some q
      → turn_place passes time points k ≡ (if is_same time q.0 then turn_between passes (Some p) (Some q) (slice_get points k) else Ok false)
  late points zero p q j f g = absurd (omega arith)
  late points (suc zero) p q j f g = absurd (omega arith)
  late points (suc (suc n)) p q j f g =
      ap (λ (o : Option Point). turn_here passes time o (slice_get points (suc n)) (slice_get points (suc (suc n))))
      (ap (slice_get points) (let d : n ≡ suc (suc n) - 2 = omega arith in d) ∙ f)
      ∙ ap (λ (o : Option Point). turn_here passes time (Some p) o (slice_get points (suc (suc n)))) (ap (slice_get points) (let d : suc n ≡ suc (suc n) - 1 = omega arith in d) ∙ g)

  pub turn-apart : (points : List Point) (k : ℕ) (p q : Point) → IsCurve points → 0ℚ ≤ℚ time → k ≡ count_until time points → 2 ≤ k
      → slice_get points (k - 2) ≡ Some p → slice_get points (k - 1) ≡ Some q
      → is_same time q.0 ≡ false → checked_turn passes time points ≡ Ok false
  turn-apart points k p q c h e j f g t = checked_turn-place points k c h e ∙ late points k p q j f g
      ∙ ap (λ (b : Bool). if b then turn_between passes (Some p) (Some q) (slice_get points k) else Ok false) t

  pub turn-there : (points : List Point) (k : ℕ) (p q : Point) → IsCurve points → 0ℚ ≤ℚ time → k ≡ count_until time points → 2 ≤ k
      → slice_get points (k - 2) ≡ Some p → slice_get points (k - 1) ≡ Some q
      → is_same time q.0 ≡ true → checked_turn passes time points ≡ turn_between passes (slice_get points (k - 2)) (slice_get points (k - 1)) (slice_get points k)
  turn-there points k p q c h e j f g t = checked_turn-place points k c h e ∙ late points k p q j f g
      ∙ ap (λ (b : Bool). if b then turn_between passes (Some p) (Some q) (slice_get points k) else Ok false) t
      ∙ sym (ap (λ (o : Option Point). turn_between passes o (slice_get points (k - 1)) (slice_get points k)) f
      ∙ ap (λ (o : Option Point). turn_between passes (Some p) o (slice_get points k)) g)

-- by the three points
pub turn-by : (passes : Passing) (points : List Point) (k : ℕ) (p q : Point) (r : Option Point) → slice_get points (k - 2) ≡ Some p
    → slice_get points (k - 1) ≡ Some q → slice_get points k ≡ r
    → turn_between passes (slice_get points (k - 2)) (slice_get points (k - 1)) (slice_get points k) ≡ turn_between passes (Some p) (Some q) r
turn-by passes points k p q r e f g =
    ap (λ (o : Option Point). turn_between passes o (slice_get points (k - 1)) (slice_get points k)) e
    ∙ ap (λ (o : Option Point). turn_between passes (Some p) o (slice_get points k)) f
    ∙ ap (λ (o : Option Point). turn_between passes (Some p) (Some q) o) g
