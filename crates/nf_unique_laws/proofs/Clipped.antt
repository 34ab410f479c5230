-- Times clipped to [0, last], and curves at such times.
use Rattle.std.proofs.Common.{◌≡◌, List, [], ◌∷◌, ◌⊎◌, inl, inr, ⊎_elim, false, sym, ap, subst, ◌∙◌}
use Rattle.nf_unique_laws.proofs.Common.{ℚ, 0ℚ, ◌-ℚ◌, ◌≤ℚ◌, ◌<ℚ◌, min_ℚ, max_ℚ, reading_of, ≤ℚ_of_lt, ≤ℚ_of_same, ≤ℚ_antisymm, not_both_ℚ, le, eq, linear_le}
use Rattle.nf_unique_laws.proofs.Common.{min_ℚ_cases, max_ℚ_cases, ≤ℚ_trans, Within, value, IsCurve, HasCurve, clipped}
use Rattle.nf_frac_def.specs.Passing.{Passing}
use Rattle.nf_curve_laws.proofs.Following.{value-follows_past}
use Rattle.nf_curve_laws.proofs.Values.{cut-follows, follows-curve, follows-values}

-- ---- the position of a time, and its clipped value
pub data Place (time last at : ℚ) : Type 0 where
  early : time ≤ℚ 0ℚ → at ≡ 0ℚ → Place time last at
  inside : 0ℚ ≤ℚ time → time ≤ℚ last → at ≡ time → Place time last at
  late : last ≤ℚ time → at ≡ last → Place time last at

pub place : (last time : ℚ) → 0ℚ ≤ℚ last → Place time last (clipped last time)
place last time n = ⊎_elim
    (λ (w : (max_ℚ 0ℚ time ≡ time) × (0ℚ ≤ℚ time)). ⊎_elim
    (λ (v : (min_ℚ (max_ℚ 0ℚ time) last ≡ max_ℚ 0ℚ time) × (max_ℚ 0ℚ time ≤ℚ last)). inside w.1 (subst (λ (z : ℚ). z ≤ℚ last) w.0 v.1) (v.0 ∙ w.0))
    (λ (v : (min_ℚ (max_ℚ 0ℚ time) last ≡ last) × (last <ℚ max_ℚ 0ℚ time)). late (subst (λ (z : ℚ). last ≤ℚ z) w.0 (≤ℚ_of_lt _ _ v.1)) v.0)
    (min_ℚ_cases (max_ℚ 0ℚ time) last))
    (λ (w : (max_ℚ 0ℚ time ≡ 0ℚ) × (time <ℚ 0ℚ)). ⊎_elim
    (λ (v : (min_ℚ (max_ℚ 0ℚ time) last ≡ max_ℚ 0ℚ time) × (max_ℚ 0ℚ time ≤ℚ last)). early (≤ℚ_of_lt _ _ w.1) (v.0 ∙ w.0))
    (λ (v : (min_ℚ (max_ℚ 0ℚ time) last ≡ last) × (last <ℚ max_ℚ 0ℚ time)). absurd (not_both_ℚ last 0ℚ (subst (λ (z : ℚ). last <ℚ z) w.0 v.1) n))
    (min_ℚ_cases (max_ℚ 0ℚ time) last))
    (max_ℚ_cases 0ℚ time)

at-within : (time last at : ℚ) → 0ℚ ≤ℚ last → Place time last at → Within 0ℚ last at
at-within time last at n (early h e) = (≤ℚ_of_same _ _ (sym e), subst (λ (z : ℚ). z ≤ℚ last) (sym e) n)
at-within time last at n (inside h k e) = (subst (λ (z : ℚ). 0ℚ ≤ℚ z) (sym e) h, subst (λ (z : ℚ). z ≤ℚ last) (sym e) k)
at-within time last at n (late h e) = (subst (λ (z : ℚ). 0ℚ ≤ℚ z) (sym e) n, ≤ℚ_of_same _ _ e)

pub clipped-within : (last time : ℚ) → 0ℚ ≤ℚ last → Within 0ℚ last (clipped last time)
clipped-within last time n = at-within time last (clipped last time) n (place last time n)

-- by time 0
at-none : (time last at : ℚ) → 0ℚ ≤ℚ last → time ≤ℚ 0ℚ → Place time last at → at ≡ 0ℚ
at-none time last at n l (early h e) = e
at-none time last at n l (inside h k e) = e ∙ ≤ℚ_antisymm _ _ l h
at-none time last at n l (late h e) = e ∙ ≤ℚ_antisymm _ _ (≤ℚ_trans _ _ _ h l) n

pub clipped-none : (last time : ℚ) → 0ℚ ≤ℚ last → time ≤ℚ 0ℚ → clipped last time ≡ 0ℚ
clipped-none last time n l = at-none time last (clipped last time) n l (place last time n)

-- from time 0 on: the time itself, or the last one
abbrev pub Lands : ℚ → ℚ → ℚ → Type 0
Lands last time at = ((time ≤ℚ last) × (at ≡ time)) ⊎ ((last ≤ℚ time) × (at ≡ last))

at-lands : (time last at : ℚ) → 0ℚ ≤ℚ last → 0ℚ ≤ℚ time → Place time last at → Lands last time at
at-lands time last at n l (early h e) = inl (≤ℚ_trans _ _ _ h n, e ∙ ≤ℚ_antisymm _ _ l h)
at-lands time last at n l (inside h k e) = inl (k, e)
at-lands time last at n l (late h e) = inr (h, e)

pub lands : (last time : ℚ) → 0ℚ ≤ℚ last → 0ℚ ≤ℚ time → Lands last time (clipped last time)
lands last time n l = at-lands time last (clipped last time) n l (place last time n)

at-is : (time last at : ℚ) → 0ℚ ≤ℚ time → time ≤ℚ last → Place time last at → at ≡ time
at-is time last at n l (early h e) = e ∙ ≤ℚ_antisymm _ _ n h
at-is time last at n l (inside h k e) = e
at-is time last at n l (late h e) = e ∙ ≤ℚ_antisymm _ _ h l

pub clipped-is : (last time : ℚ) → Within 0ℚ last time → clipped last time ≡ time
clipped-is last time w = at-is time last (clipped last time) w.0 w.1 (place last time (≤ℚ_trans _ _ _ w.0 w.1))

-- Clipping preserves order.
at-rises : (s t last a b : ℚ) → 0ℚ ≤ℚ last → s ≤ℚ t → Place s last a → Place t last b → a ≤ℚ b
at-rises s t last a b n h (early i j) (early k m) = linear_le (s ∷ t ∷ last ∷ a ∷ b ∷ []) (eq j ∷ eq m ∷ []) (search reading_of) tt
at-rises s t last a b n h (early i j) (inside k l m) = linear_le (s ∷ t ∷ last ∷ a ∷ b ∷ []) (eq j ∷ eq m ∷ le k ∷ []) (search reading_of) tt
at-rises s t last a b n h (early i j) (late k m) = linear_le (s ∷ t ∷ last ∷ a ∷ b ∷ []) (eq j ∷ eq m ∷ le n ∷ []) (search reading_of) tt
at-rises s t last a b n h (inside i g j) (early k m) = linear_le (s ∷ t ∷ last ∷ a ∷ b ∷ []) (eq j ∷ eq m ∷ le h ∷ le k ∷ []) (search reading_of) tt
at-rises s t last a b n h (inside i g j) (inside k l m) = linear_le (s ∷ t ∷ last ∷ a ∷ b ∷ []) (eq j ∷ eq m ∷ le h ∷ []) (search reading_of) tt
at-rises s t last a b n h (inside i g j) (late k m) = linear_le (s ∷ t ∷ last ∷ a ∷ b ∷ []) (eq j ∷ eq m ∷ le g ∷ []) (search reading_of) tt
at-rises s t last a b n h (late i j) (early k m) = linear_le (s ∷ t ∷ last ∷ a ∷ b ∷ []) (eq j ∷ eq m ∷ le h ∷ le i ∷ le k ∷ []) (search reading_of) tt
at-rises s t last a b n h (late i j) (inside k l m) = linear_le (s ∷ t ∷ last ∷ a ∷ b ∷ []) (eq j ∷ eq m ∷ le h ∷ le i ∷ []) (search reading_of) tt
at-rises s t last a b n h (late i j) (late k m) = linear_le (s ∷ t ∷ last ∷ a ∷ b ∷ []) (eq j ∷ eq m ∷ []) (search reading_of) tt

pub clipped-rises : (last s t : ℚ) → 0ℚ ≤ℚ last → s ≤ℚ t → clipped last s ≤ℚ clipped last t
clipped-rises last s t n h = at-rises s t last (clipped last s) (clipped last t) n h (place last s n) (place last t n)

-- Clipping lengthens no interval.
at-stretch : (s t last a b : ℚ) → 0ℚ ≤ℚ last → s ≤ℚ t → Place s last a → Place t last b → b -ℚ a ≤ℚ t -ℚ s
at-stretch s t last a b n h (early i j) (early k m) = linear_le (s ∷ t ∷ last ∷ a ∷ b ∷ []) (eq j ∷ eq m ∷ le h ∷ []) (search reading_of) tt
at-stretch s t last a b n h (early i j) (inside k l m) = linear_le (s ∷ t ∷ last ∷ a ∷ b ∷ []) (eq j ∷ eq m ∷ le i ∷ []) (search reading_of) tt
at-stretch s t last a b n h (early i j) (late k m) = linear_le (s ∷ t ∷ last ∷ a ∷ b ∷ []) (eq j ∷ eq m ∷ le i ∷ le k ∷ []) (search reading_of) tt
at-stretch s t last a b n h (inside i g j) (early k m) = linear_le (s ∷ t ∷ last ∷ a ∷ b ∷ []) (eq j ∷ eq m ∷ le h ∷ le i ∷ []) (search reading_of) tt
at-stretch s t last a b n h (inside i g j) (inside k l m) = linear_le (s ∷ t ∷ last ∷ a ∷ b ∷ []) (eq j ∷ eq m ∷ []) (search reading_of) tt
at-stretch s t last a b n h (inside i g j) (late k m) = linear_le (s ∷ t ∷ last ∷ a ∷ b ∷ []) (eq j ∷ eq m ∷ le k ∷ []) (search reading_of) tt
at-stretch s t last a b n h (late i j) (early k m) = linear_le (s ∷ t ∷ last ∷ a ∷ b ∷ []) (eq j ∷ eq m ∷ le h ∷ le n ∷ []) (search reading_of) tt
at-stretch s t last a b n h (late i j) (inside k l m) = linear_le (s ∷ t ∷ last ∷ a ∷ b ∷ []) (eq j ∷ eq m ∷ le h ∷ le l ∷ []) (search reading_of) tt
at-stretch s t last a b n h (late i j) (late k m) = linear_le (s ∷ t ∷ last ∷ a ∷ b ∷ []) (eq j ∷ eq m ∷ le h ∷ []) (search reading_of) tt

pub clipped-stretch : (last s t : ℚ) → 0ℚ ≤ℚ last → s ≤ℚ t → clipped last t -ℚ clipped last s ≤ℚ t -ℚ s
clipped-stretch last s t n h = at-stretch s t last (clipped last s) (clipped last t) n h (place last s n) (place last t n)

-- ---- a curve at clipped times is a curve: the curve cut at the last time
never : Passing
never op x y = false

pub HasCurve-clipped : (points : List (ℚ × ℚ)) (last : ℚ) → IsCurve points → 0ℚ ≤ℚ last → HasCurve (λ time. value points (clipped last time))
HasCurve-clipped points last c n =
    let w = cut-follows never points last c n in
    record {
      points = w.first ∷ w.rest;
      curve = follows-curve (value points) last w.first w.rest w.begins w.follows;
      values = λ time l. ⊎_elim
          (λ (v : (time ≤ℚ last) × (clipped last time ≡ time)). ap (value points) v.1 ∙ sym (follows-values (value points) last w.first w.rest time w.begins w.follows l v.0))
          (λ (v : (last ≤ℚ time) × (clipped last time ≡ last)). ap (value points) v.1 ∙ sym (value-follows_past (value points) last w.first w.rest time w.follows v.0))
          (lands last time n l);
    }
