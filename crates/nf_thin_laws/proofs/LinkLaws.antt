-- Properties of a thin flow on an active link, and a comparison of two thin flows on the link.
use Rattle.std.proofs.Common.{◌≡◌, [], ◌∷◌, ◌⊎◌, inl, inr, ⊎_elim, Bool, true, false, Option, Some, None, sym, subst, refl, ◌∙◌}
use Rattle.nf_thin_laws.proofs.Common.{ℚ, 0ℚ, ◌*ℚ◌, ◌/ℚ◌, ◌≤ℚ◌, ◌<ℚ◌, max_ℚ, reading_of, ≤ℚ_of_same, ≤ℚ_of_lt, lt_or_le_ℚ, not_both_ℚ, max_ℚ_cases, le, lt}
use Rattle.nf_thin_laws.proofs.Common.{eq, le_times, eq_times, linear_le, linear_lt, linear_eq, linear_false, exit_slope, IsPositive, quotient-times}
use Rattle.nf_thin_laws.proofs.Common.{le_from_times, ≤ℚ_trans, max_left}

-- x is the flow of the link, c its capacity, s and t the slopes at its tail and its head
pub record BoundedLaw (resets : Bool) (x c s t : ℚ) : Type 0 where
  pub full : resets ≡ true → x ≡ c *ℚ t
  pub upper : resets ≡ false → (t ≤ℚ s) ⊎ (c *ℚ t ≤ℚ x)
  pub used : resets ≡ false → 0ℚ <ℚ x → (s ≤ℚ t) × (x ≤ℚ c *ℚ t)

-- The link is unbounded.
pub record UnboundedLaw (x s t : ℚ) : Type 0 where
  pub upper : t ≤ℚ s
  pub used : 0ℚ <ℚ x → s ≡ t

abbrev pub LinkLaw : Bool → Option ℚ → ℚ → ℚ → ℚ → Type 0
LinkLaw resets None x s t = UnboundedLaw x s t
LinkLaw resets (Some c) x s t = BoundedLaw resets x c s t

pub full_of : (x c t q : ℚ) → 0ℚ <ℚ c → 0ℚ ≤ℚ x → 0ℚ ≤ℚ t → q *ℚ c ≡ x → t ≤ℚ q → (0ℚ <ℚ x → q ≡ t) → x ≡ c *ℚ t
full_of x c t q h n m e l u = ⊎_elim
    (λ (k : 0ℚ <ℚ x). linear_eq (x ∷ c ∷ t ∷ q ∷ []) (eq e ∷ eq_times c (u k) ∷ []) (search reading_of) tt tt)
    (λ (k : x ≤ℚ 0ℚ).
    let low : 0ℚ ≤ℚ c = ≤ℚ_of_lt _ _ h in
    linear_eq (x ∷ c ∷ t ∷ q ∷ []) (eq e ∷ le k ∷ le n ∷ le_times low l ∷ le_times low m ∷ []) (search reading_of) tt tt)
    (lt_or_le_ℚ 0ℚ x)

BoundedLaw-of : (resets : Bool) (x c s t : ℚ) → 0ℚ <ℚ c → 0ℚ ≤ℚ x → 0ℚ ≤ℚ t → t ≤ℚ exit_slope resets (Some c) x s → (0ℚ <ℚ x → exit_slope resets (Some c) x s ≡ t)
    → BoundedLaw resets x c s t
BoundedLaw-of true x c s t h n m l u = record { full = λ _. full_of x c t (x /ℚ c) h n m (quotient-times x c h) l u; upper = λ e. absurd (cc); used = λ e. absurd (cc) }
BoundedLaw-of false x c s t h n m l u = record {
  full = λ e. absurd (cc);
  upper = λ _. ⊎_elim
      (λ (w : (max_ℚ s q ≡ q) × (s ≤ℚ q)). inr (filled (subst (λ (z : ℚ). t ≤ℚ z) w.0 l)))
      (λ (w : (max_ℚ s q ≡ s) × (q <ℚ s)). inl (subst (λ (z : ℚ). t ≤ℚ z) w.0 l))
      (max_ℚ_cases s q);
  used = λ _ k. ⊎_elim
      (λ (w : (max_ℚ s q ≡ q) × (s ≤ℚ q)). (subst (λ (z : ℚ). s ≤ℚ z) (sym w.0 ∙ u k) w.1, at_most (≤ℚ_of_same _ _ (sym w.0 ∙ u k))))
      (λ (w : (max_ℚ s q ≡ s) × (q <ℚ s)). (≤ℚ_of_same _ _ (sym w.0 ∙ u k), at_most (subst (λ (z : ℚ). q ≤ℚ z) (sym w.0 ∙ u k) (≤ℚ_of_lt _ _ w.1))))
      (max_ℚ_cases s q);
}
  where
    q : ℚ
    q = x /ℚ c

    low : 0ℚ ≤ℚ c
    low = ≤ℚ_of_lt _ _ h

    filled : t ≤ℚ q → c *ℚ t ≤ℚ x
    filled k = linear_le (x ∷ c ∷ t ∷ (x /ℚ c) ∷ []) (eq (quotient-times x c h) ∷ le_times low k ∷ []) (search reading_of) tt

    at_most : q ≤ℚ t → x ≤ℚ c *ℚ t
    at_most k = linear_le (x ∷ c ∷ t ∷ (x /ℚ c) ∷ []) (eq (quotient-times x c h) ∷ le_times low k ∷ []) (search reading_of) tt

-- The exit slope is at least the slope of the head, and equals it if there is flow.
pub LinkLaw-of : (resets : Bool) (capacity : Option ℚ) (x s t : ℚ) → IsPositive capacity → 0ℚ ≤ℚ x → 0ℚ ≤ℚ t → t ≤ℚ exit_slope resets capacity x s
    → (0ℚ <ℚ x → exit_slope resets capacity x s ≡ t) → LinkLaw resets capacity x s t
LinkLaw-of resets None x s t p n m l u = record { upper = l; used = u }
LinkLaw-of resets (Some c) x s t p n m l u = BoundedLaw-of resets x c s t (p c refl) n m l u

-- ---- two flows on a link: x with slopes s and t, y with u and v
grows : (c s t : ℚ) → 0ℚ <ℚ c → s <ℚ t → c *ℚ s <ℚ c *ℚ t
grows c s t h k = ⊎_elim (λ (l : c *ℚ s <ℚ c *ℚ t). l) (λ (l : c *ℚ t ≤ℚ c *ℚ s). absurd (not_both_ℚ _ _ k (le_from_times c t s h l))) (lt_or_le_ℚ (c *ℚ s) (c *ℚ t))

-- The link leads into the nodes where the first slopes are greater.
into_positive : (x y c s t u v : ℚ) → 0ℚ <ℚ c → BoundedLaw false x c s t → BoundedLaw false y c u v → s ≤ℚ u → v <ℚ t → 0ℚ <ℚ y → y <ℚ x
into_positive x y c s t u v h p q i j k =
    let b : (u ≤ℚ v) × (y ≤ℚ c *ℚ v) = q.used refl k in
    let g : c *ℚ v <ℚ c *ℚ t = grows c v t h j in
    ⊎_elim
    (λ (l : t ≤ℚ s). absurd (linear_false (s ∷ t ∷ u ∷ v ∷ []) (le l ∷ le i ∷ le b.0 ∷ lt j ∷ []) (search reading_of) tt))
    (λ (l : c *ℚ t ≤ℚ x). linear_lt (x ∷ y ∷ c ∷ t ∷ v ∷ []) (le l ∷ le b.1 ∷ lt g ∷ []) (search reading_of) tt)
    (p.upper refl)

into_resetting : (x y c s t u v : ℚ) → 0ℚ <ℚ c → BoundedLaw true x c s t → BoundedLaw true y c u v → v <ℚ t → y <ℚ x
into_resetting x y c s t u v h p q j = linear_lt (x ∷ y ∷ c ∷ t ∷ v ∷ []) (eq (p.full refl) ∷ eq (q.full refl) ∷ lt (grows c v t h j) ∷ []) (search reading_of) tt

into_unbounded : (x y s t u v : ℚ) → UnboundedLaw x s t → UnboundedLaw y u v → s ≤ℚ u → v <ℚ t → 0ℚ <ℚ y → ⊥
into_unbounded x y s t u v p q i j k = linear_false (s ∷ t ∷ u ∷ v ∷ []) (le p.upper ∷ eq (q.used k) ∷ le i ∷ lt j ∷ []) (search reading_of) tt

pub into_le : (resets : Bool) (capacity : Option ℚ) (x y s t u v : ℚ) → IsPositive capacity → 0ℚ ≤ℚ x → LinkLaw resets capacity x s t → LinkLaw resets capacity y u v
    → s ≤ℚ u → v <ℚ t → y ≤ℚ x
into_le resets None x y s t u v h n p q i j = ⊎_elim
    (λ (k : 0ℚ <ℚ y). absurd (into_unbounded x y s t u v p q i j k))
    (λ (k : y ≤ℚ 0ℚ). ≤ℚ_trans _ _ _ k n) (lt_or_le_ℚ 0ℚ y)
into_le true (Some c) x y s t u v h n p q i j = ≤ℚ_of_lt _ _ (into_resetting x y c s t u v (h c refl) p q j)
into_le false (Some c) x y s t u v h n p q i j = ⊎_elim
    (λ (k : 0ℚ <ℚ y). ≤ℚ_of_lt _ _ (into_positive x y c s t u v (h c refl) p q i j k))
    (λ (k : y ≤ℚ 0ℚ). ≤ℚ_trans _ _ _ k n) (lt_or_le_ℚ 0ℚ y)

-- The link leads out of those nodes.
out_bounded : (x y c s t u v : ℚ) → 0ℚ <ℚ c → BoundedLaw false x c s t → BoundedLaw false y c u v → u <ℚ s → t ≤ℚ v → 0ℚ <ℚ x → x ≤ℚ y
out_bounded x y c s t u v h p q i j k =
    let low : 0ℚ ≤ℚ c = ≤ℚ_of_lt _ _ h in
    let b : (s ≤ℚ t) × (x ≤ℚ c *ℚ t) = p.used refl k in
    ⊎_elim
    (λ (l : v ≤ℚ u). absurd (linear_false (s ∷ t ∷ u ∷ v ∷ []) (le l ∷ lt i ∷ le b.0 ∷ le j ∷ []) (search reading_of) tt))
    (λ (l : c *ℚ v ≤ℚ y). linear_le (x ∷ y ∷ c ∷ t ∷ v ∷ []) (le l ∷ le b.1 ∷ le_times low j ∷ []) (search reading_of) tt)
    (q.upper refl)

out_resetting : (x y c s t u v : ℚ) → 0ℚ <ℚ c → BoundedLaw true x c s t → BoundedLaw true y c u v → t ≤ℚ v → x ≤ℚ y
out_resetting x y c s t u v h p q j =
    let low : 0ℚ ≤ℚ c = ≤ℚ_of_lt _ _ h in
    linear_le (x ∷ y ∷ c ∷ t ∷ v ∷ []) (eq (p.full refl) ∷ eq (q.full refl) ∷ le_times low j ∷ []) (search reading_of) tt

out_unbounded : (x y s t u v : ℚ) → UnboundedLaw x s t → UnboundedLaw y u v → u <ℚ s → t ≤ℚ v → 0ℚ <ℚ x → ⊥
out_unbounded x y s t u v p q i j k = linear_false (s ∷ t ∷ u ∷ v ∷ []) (eq (p.used k) ∷ le q.upper ∷ lt i ∷ le j ∷ []) (search reading_of) tt

pub out_le : (resets : Bool) (capacity : Option ℚ) (x y s t u v : ℚ) → IsPositive capacity → 0ℚ ≤ℚ y → LinkLaw resets capacity x s t → LinkLaw resets capacity y u v
    → u <ℚ s → t ≤ℚ v → x ≤ℚ y
out_le resets None x y s t u v h n p q i j = ⊎_elim
    (λ (k : 0ℚ <ℚ x). absurd (out_unbounded x y s t u v p q i j k))
    (λ (k : x ≤ℚ 0ℚ). ≤ℚ_trans _ _ _ k n) (lt_or_le_ℚ 0ℚ x)
out_le true (Some c) x y s t u v h n p q i j = out_resetting x y c s t u v (h c refl) p q j
out_le false (Some c) x y s t u v h n p q i j = ⊎_elim
    (λ (k : 0ℚ <ℚ x). out_bounded x y c s t u v (h c refl) p q i j k)
    (λ (k : x ≤ℚ 0ℚ). ≤ℚ_trans _ _ _ k n) (lt_or_le_ℚ 0ℚ x)

-- ---- no link into those nodes from outside has equal flows and, by the second flow, the exit slope of its head
stuck_bounded : (x y c s t u v : ℚ) → 0ℚ <ℚ c → 0ℚ ≤ℚ y → 0ℚ ≤ℚ v → BoundedLaw false x c s t → BoundedLaw false y c u v → s ≤ℚ u → v <ℚ t → x ≡ y → u ≤ℚ v → ⊥
stuck_bounded x y c s t u v h m n p q i j e k = ⊎_elim
    (λ (l : 0ℚ <ℚ y). not_both_ℚ _ _ (into_positive x y c s t u v h p q i j l) (≤ℚ_of_same _ _ e))
    (λ (l : y ≤ℚ 0ℚ). ⊎_elim
    (λ (l : t ≤ℚ s). linear_false (s ∷ t ∷ u ∷ v ∷ []) (le l ∷ le i ∷ le k ∷ lt j ∷ []) (search reading_of) tt)
    (λ (o : c *ℚ t ≤ℚ x). let g : c *ℚ 0ℚ <ℚ c *ℚ t = grows c 0ℚ t h (linear_lt (v ∷ t ∷ []) (le n ∷ lt j ∷ []) (search reading_of) tt) in
    linear_false (x ∷ y ∷ c ∷ t ∷ []) (le o ∷ eq e ∷ le l ∷ lt g ∷ []) (search reading_of) tt)
    (p.upper refl))
    (lt_or_le_ℚ 0ℚ y)

stuck_unbounded : (x s t u v : ℚ) → UnboundedLaw x s t → s ≤ℚ u → v <ℚ t → u ≡ v → ⊥
stuck_unbounded x s t u v p i j e = linear_false (s ∷ t ∷ u ∷ v ∷ []) (le p.upper ∷ le i ∷ lt j ∷ eq e ∷ []) (search reading_of) tt

pub stuck : (resets : Bool) (capacity : Option ℚ) (x y s t u v : ℚ) → IsPositive capacity → 0ℚ ≤ℚ y → 0ℚ ≤ℚ v → LinkLaw resets capacity x s t → LinkLaw resets capacity y u v
    → s ≤ℚ u → v <ℚ t → x ≡ y → exit_slope resets capacity y u ≡ v → ⊥
stuck resets None x y s t u v h m n p q i j e r = stuck_unbounded x s t u v p i j r
stuck true (Some c) x y s t u v h m n p q i j e r = not_both_ℚ _ _ (into_resetting x y c s t u v (h c refl) p q j) (≤ℚ_of_same _ _ e)
stuck false (Some c) x y s t u v h m n p q i j e r = stuck_bounded x y c s t u v (h c refl) m n p q i j e (subst (λ (z : ℚ). u ≤ℚ z) r (max_left u (y /ℚ c)))
