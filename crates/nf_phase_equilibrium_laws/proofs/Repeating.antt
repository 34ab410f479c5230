-- A curve that never falls and begins with 0. If each value up to a last time is at most the value some time before, the curve is 0 up to
-- then.
use Rattle.std.proofs.Common.{◌≡◌, List, [], ◌∷◌, ◌⊎◌, ⊎_elim, sym, ap, subst, refl, ◌∙◌}
use Rattle.nf_phase_equilibrium_laws.proofs.Common.{ℚ, 0ℚ, ◌+ℚ◌, ◌-ℚ◌, ◌*ℚ◌, ◌≤ℚ◌, ◌<ℚ◌, min_ℚ, reading_of, ≤ℚ_of_lt, ≤ℚ_of_same, ≤ℚ_antisymm, lt_or_le_ℚ}
use Rattle.nf_phase_equilibrium_laws.proofs.Common.{min_ℚ_cases, le, lt, eq, eq_times, linear_le, linear_lt, linear_eq, Within, NeverFalls, value, slope}
use Rattle.nf_phase_equilibrium_laws.proofs.Common.{TimesRise, IsCurve, same_from_times, value-first, value-line, value-after, ≤ℚ_refl, ≤ℚ_trans}

-- Up to the last time each value is 0, or at most the value some time before.
abbrev pub Repeats : (ℚ → ℚ) → ℚ → ℚ → Type 0
Repeats f period last = (time : ℚ) → Within 0ℚ last time → (f time ≡ 0ℚ) ⊎ ((period ≤ℚ time) × (f time ≤ℚ f (time -ℚ period)))

-- ---- over plain numbers
no_slope : (v k d : ℚ) → 0ℚ <ℚ d → v +ℚ k *ℚ d ≡ 0ℚ → v ≡ 0ℚ → k ≡ 0ℚ
no_slope v k d h e f = same_from_times d k 0ℚ h (linear_eq (v ∷ k ∷ d ∷ []) (eq e ∷ eq f ∷ []) (search reading_of) tt tt)

level : (v k s y : ℚ) → y ≡ v +ℚ k *ℚ s → k ≡ 0ℚ → v ≡ 0ℚ → y ≡ 0ℚ
level v k s y e f g = linear_eq (v ∷ k ∷ s ∷ y ∷ []) (eq e ∷ eq_times s f ∷ eq g ∷ []) (search reading_of) tt tt

part : (a d : ℚ) → a +ℚ d -ℚ a ≡ d
part a d = linear_eq (a ∷ d ∷ []) [] (search reading_of) tt tt

module _ (f : ℚ → ℚ) (period last : ℚ) (some : 0ℚ <ℚ period) (rises : NeverFalls f) (starts : f 0ℚ ≡ 0ℚ) (repeats : Repeats f period last) where
  -- The value is 0 up to the beginning of a piece, and so shortly after it.
  abbrev NoneUpTo : ℚ → Type 0
  NoneUpTo time = (t : ℚ) → 0ℚ ≤ℚ t → t ≤ℚ time → f t ≡ 0ℚ

  nn : (t : ℚ) → 0ℚ ≤ℚ t → 0ℚ ≤ℚ f t
  nn t h = subst (λ (x : ℚ). x ≤ℚ f t) starts (rises 0ℚ t (≤ℚ_refl 0ℚ) h)

  soon : (a t : ℚ) → 0ℚ ≤ℚ a → NoneUpTo a → t ≤ℚ a +ℚ period → a ≤ℚ t → t ≤ℚ last → f t ≡ 0ℚ
  soon a t h none k j l = ⊎_elim
      (λ (e : f t ≡ 0ℚ). e)
      (λ (w : (period ≤ℚ t) × (f t ≤ℚ f (t -ℚ period))). ≤ℚ_antisymm _ _
      (subst (λ (x : ℚ). f t ≤ℚ x) (none (t -ℚ period) (linear_le (t ∷ period ∷ []) (le w.0 ∷ []) (search reading_of) tt)
      (linear_le (a ∷ t ∷ period ∷ []) (le k ∷ []) (search reading_of) tt)) w.1)
      (nn t (≤ℚ_trans _ _ _ h j)))
      (repeats t (≤ℚ_trans _ _ _ h j, l))

  -- d is the lesser of the period and t - a; then f is 0 at a + d.
  short_way : (a t d : ℚ) → d ≤ℚ t -ℚ a → a +ℚ d ≤ℚ t
  short_way a t d h = linear_le (a ∷ t ∷ d ∷ []) (le h ∷ []) (search reading_of) tt

  on_piece : (p q : ℚ × ℚ) (rest : List (ℚ × ℚ)) (t : ℚ) → 0ℚ ≤ℚ p.0 → TimesRise (p ∷ q ∷ rest) → ((s : ℚ) → p.0 ≤ℚ s → f s ≡ value (p ∷ q ∷ rest) s) → NoneUpTo p.0
      → p.0 <ℚ t → t ≤ℚ q.0 → t ≤ℚ last → f t ≡ 0ℚ
  on_piece p q rest t h r same none i j l = by (min_ℚ period (t -ℚ p.0)) refl
    where
      line : (s : ℚ) → p.0 ≤ℚ s → s ≤ℚ q.0 → f s ≡ p.1 +ℚ slope p q *ℚ (s -ℚ p.0)
      line s a b = same s a ∙ value-line p q rest s r b

      first : p.1 ≡ 0ℚ
      first = sym (same p.0 (≤ℚ_refl p.0) ∙ value-first p (q ∷ rest) r) ∙ none p.0 h (≤ℚ_refl p.0)

      flat : (d : ℚ) → 0ℚ <ℚ d → d ≤ℚ period → d ≤ℚ t -ℚ p.0 → f t ≡ 0ℚ
      flat d a b c =
          let to : p.0 +ℚ d ≤ℚ t = short_way p.0 t d c in
          let on : p.0 ≤ℚ p.0 +ℚ d = linear_le (p.0 ∷ d ∷ []) (lt a ∷ []) (search reading_of) tt in
          let there : f (p.0 +ℚ d) ≡ 0ℚ = soon p.0 (p.0 +ℚ d) h none (linear_le (p.0 ∷ d ∷ period ∷ []) (le b ∷ []) (search reading_of) tt) on (≤ℚ_trans _ _ _ to l) in
          let k : slope p q ≡ 0ℚ = no_slope p.1 (slope p q) d a (ap (λ (z : ℚ). p.1 +ℚ slope p q *ℚ z) (sym (part p.0 d))
          ∙ sym (line (p.0 +ℚ d) on (≤ℚ_trans _ _ _ to j)) ∙ there) first in
          level p.1 (slope p q) (t -ℚ p.0) (f t) (line t (≤ℚ_of_lt _ _ i) j) k first

      by : (d : ℚ) → min_ℚ period (t -ℚ p.0) ≡ d → f t ≡ 0ℚ
      by d e = ⊎_elim
          (λ (w : (min_ℚ period (t -ℚ p.0) ≡ period) × (period ≤ℚ t -ℚ p.0)). flat period some (≤ℚ_refl period) w.1)
          (λ (w : (min_ℚ period (t -ℚ p.0) ≡ t -ℚ p.0) × (t -ℚ p.0 <ℚ period)). flat (t -ℚ p.0)
          (linear_lt (t ∷ p.0 ∷ []) (lt i ∷ []) (search reading_of) tt) (≤ℚ_of_lt _ _ w.1) (≤ℚ_refl _))
          (min_ℚ_cases period (t -ℚ p.0))

  from_point : (p : ℚ × ℚ) (rest : List (ℚ × ℚ)) → 0ℚ ≤ℚ p.0 → TimesRise (p ∷ rest) → ((s : ℚ) → p.0 ≤ℚ s → f s ≡ value (p ∷ rest) s) → NoneUpTo p.0 → NoneUpTo last
  from_point p [] h r same none t i j = ⊎_elim
      (λ (l : p.0 <ℚ t). same t (≤ℚ_of_lt _ _ l) ∙ sym (same p.0 (≤ℚ_refl p.0)) ∙ none p.0 h (≤ℚ_refl p.0))
      (λ (l : t ≤ℚ p.0). none t i l)
      (lt_or_le_ℚ p.0 t)
  from_point p (q ∷ rest) h r same none t i j = ⊎_elim
      (λ (l : q.0 <ℚ t). from_point q rest (≤ℚ_trans _ _ _ h (≤ℚ_of_lt _ _ r.0)) r.1 (λ s a. same s (≤ℚ_trans _ _ _ (≤ℚ_of_lt _ _ r.0) a) ∙ value-after p q rest s a)
      (λ s a b. up_to s a b (≤ℚ_trans _ _ _ b (≤ℚ_trans _ _ _ (≤ℚ_of_lt _ _ l) j))) t i j)
      (λ (l : t ≤ℚ q.0). up_to t i l j)
      (lt_or_le_ℚ q.0 t)
    where
      up_to : (s : ℚ) → 0ℚ ≤ℚ s → s ≤ℚ q.0 → s ≤ℚ last → f s ≡ 0ℚ
      up_to s a b c = ⊎_elim
          (λ (k : p.0 <ℚ s). on_piece p q rest s h r same none k b c)
          (λ (k : s ≤ℚ p.0). none s a k)
          (lt_or_le_ℚ p.0 s)

pub none_by_repeating : (points : List (ℚ × ℚ)) (period last : ℚ) → IsCurve points → 0ℚ <ℚ period → NeverFalls (value points) → value points 0ℚ ≡ 0ℚ → Repeats (value points) period last
    → (time : ℚ) → 0ℚ ≤ℚ time → time ≤ℚ last → value points time ≡ 0ℚ
none_by_repeating [] period last c some rises starts repeats time h k = absurd c
none_by_repeating (p ∷ rest) period last c some rises starts repeats time h k =
    from_point (value (p ∷ rest)) period last some rises starts repeats p rest (≤ℚ_of_same _ _ (sym c.0)) c.1 (λ s _. refl)
    (λ t i j. ap (value (p ∷ rest)) (≤ℚ_antisymm _ _ (subst (λ (z : ℚ). t ≤ℚ z) c.0 j) i) ∙ starts) time h k
