-- A curve that is below a value is at most that for a while after.
use Rattle.std.proofs.Common.{◌≡◌, List, [], ◌∷◌, ⊎_elim, pos, sym, subst}
use Rattle.nf_phase_run_laws.proofs.Common.{ℚ, 0ℚ, whole, ◌+ℚ◌, ◌-ℚ◌, ◌*ℚ◌, ◌/ℚ◌, ◌≤ℚ◌, ◌<ℚ◌, reading_of, ≤ℚ_of_lt, lt_or_le_ℚ, ps_whole, ≤ℚ_refl, ≤ℚ_trans}
use Rattle.nf_phase_run_laws.proofs.Common.{le, lt, eq, le_times, linear_le, linear_lt, linear_eq, linear_false, later_by, Point, slope, value, IsCurve}
use Rattle.nf_phase_run_laws.proofs.Common.{middle_in}
use Rattle.nf_model_laws.proofs.Affine.{quotient-times}
use Rattle.nf_model_laws.proofs.Curves.{value-before, value-after}

abbrev Between : ℚ → ℚ → Type 0
Between a b = (m : ℚ) × (a <ℚ m) × (m <ℚ b)

middle : (a b : ℚ) → a <ℚ b → Between a b
middle a b h =
    let two : ℚ = whole (pos 2) in
    let w = middle_in a b ((a +ℚ b) /ℚ two) two two_is h (quotient-times (a +ℚ b) two (ps_whole 1)) in
    ((a +ℚ b) /ℚ two, w.0, w.1)
  where
    two_is : whole (pos 2) ≡ whole (pos 1) +ℚ whole (pos 1)
    two_is = linear_eq [] [] (search reading_of) tt tt

-- the sooner of two times
record Sooner (s a b : ℚ) : Type 0 where
  pub time : ℚ
  pub after : s <ℚ time
  pub first : time ≤ℚ a
  pub second : time ≤ℚ b

sooner : (s a b : ℚ) → s <ℚ a → s <ℚ b → Sooner s a b
sooner s a b h k = ⊎_elim
    (λ (l : a <ℚ b). record { time = a; after = h; first = ≤ℚ_refl a; second = ≤ℚ_of_lt a b l })
    (λ (l : b ≤ℚ a). record { time = b; after = k; first = l; second = ≤ℚ_refl b })
    (lt_or_le_ℚ a b)

-- ---- a line
-- d is how long a line of slope n takes to rise from x to y
some_while : (x y n d : ℚ) → 0ℚ <ℚ n → d *ℚ n ≡ y -ℚ x → x <ℚ y → 0ℚ <ℚ d
some_while x y n d h e k = ⊎_elim
    (λ (l : 0ℚ <ℚ d). l)
    (λ (l : d ≤ℚ 0ℚ). absurd (linear_false (x ∷ y ∷ n ∷ d ∷ []) (eq e ∷ lt k ∷ le_times (≤ℚ_of_lt 0ℚ n h) l ∷ []) (search reading_of) tt))
    (lt_or_le_ℚ 0ℚ d)

risen : (x y n d s t : ℚ) → 0ℚ <ℚ n → d *ℚ n ≡ y -ℚ x → t ≤ℚ s +ℚ d → x +ℚ n *ℚ (t -ℚ s) ≤ℚ y
risen x y n d s t h e l = linear_le (x ∷ y ∷ n ∷ d ∷ s ∷ t ∷ []) (eq e ∷ le_times (≤ℚ_of_lt 0ℚ n h) l ∷ []) (search reading_of) tt

fallen : (x y n s t : ℚ) → n ≤ℚ 0ℚ → x <ℚ y → s <ℚ t → x +ℚ n *ℚ (t -ℚ s) ≤ℚ y
fallen x y n s t h k l =
    let run : 0ℚ ≤ℚ t -ℚ s = linear_le (s ∷ t ∷ []) (lt l ∷ []) (search reading_of) tt in
    linear_le (x ∷ y ∷ n ∷ s ∷ t ∷ []) (lt k ∷ le_times run h ∷ []) (search reading_of) tt

-- a time after s and before b at which the line is at most y
abbrev StaysOn : ℚ → ℚ → ℚ → ℚ → ℚ → Type 0
StaysOn x n s y b = (t : ℚ) × (s <ℚ t) × (t <ℚ b) × (x +ℚ n *ℚ (t -ℚ s) ≤ℚ y)

line_stays : (x n s y b : ℚ) → x <ℚ y → s <ℚ b → StaysOn x n s y b
line_stays x n s y b k l = ⊎_elim
    (λ (h : 0ℚ <ℚ n).
    let d : ℚ = (y -ℚ x) /ℚ n in
    let gap : d *ℚ n ≡ y -ℚ x = quotient-times (y -ℚ x) n h in
    let c : Sooner s b (s +ℚ d) = sooner s b (s +ℚ d) l (later_by s d (some_while x y n d h gap k)) in
    let m : Between s c.time = middle s c.time c.after in
    (m.0, m.1, linear_lt (m.0 ∷ c.time ∷ b ∷ []) (lt m.2 ∷ le c.first ∷ []) (search reading_of) tt, risen x y n d s m.0 h gap (≤ℚ_trans _ _ _ (≤ℚ_of_lt _ _ m.2) c.second)))
    (λ (h : n ≤ℚ 0ℚ).
    let m : Between s b = middle s b l in
    (m.0, m.1, m.2, fallen x y n s m.0 h k m.1))
    (lt_or_le_ℚ 0ℚ n)

-- ---- a curve
on_line : (v w x n t s z y : ℚ) → v ≡ x +ℚ n *ℚ (t -ℚ z) → w ≡ x +ℚ n *ℚ (s -ℚ z) → w +ℚ n *ℚ (t -ℚ s) ≤ℚ y → v ≤ℚ y
on_line v w x n t s z y e f h = linear_le (v ∷ w ∷ x ∷ n ∷ t ∷ s ∷ z ∷ y ∷ []) (eq e ∷ eq f ∷ le h ∷ []) (search reading_of) tt

-- a time after s, and not after the last one, at which a curve is at most y
abbrev pub Stays : List Point → ℚ → ℚ → ℚ → Type 0
Stays points s y last = (t : ℚ) × (s <ℚ t) × (t ≤ℚ last) × (value points t ≤ℚ y)

stays_before : (p q : Point) (rest : List Point) (s y last : ℚ) → s <ℚ last → value (p ∷ q ∷ rest) s <ℚ y → s <ℚ q.0 → Stays (p ∷ q ∷ rest) s y last
stays_before p q rest s y last l k m =
    let c : Sooner s q.0 last = sooner s q.0 last m l in
    let t : StaysOn (value (p ∷ q ∷ rest) s) (slope p q) s y c.time = line_stays (value (p ∷ q ∷ rest) s) (slope p q) s y c.time k c.after in
    let low : t.0 <ℚ q.0 = linear_lt (t.0 ∷ c.time ∷ q.0 ∷ []) (lt t.2 ∷ le c.first ∷ []) (search reading_of) tt in (
      t.0,
      t.1,
      ≤ℚ_trans _ _ _ (≤ℚ_of_lt _ _ t.2) c.second,
      on_line (value (p ∷ q ∷ rest) t.0) (value (p ∷ q ∷ rest) s) p.1 (slope p q) t.0 s p.0 y (value-before p q rest t.0 low) (value-before p q rest s m) t.3,
    )

stays_after : (p q : Point) (rest : List Point) (s y last : ℚ) → q.0 ≤ℚ s → Stays (q ∷ rest) s y last → Stays (p ∷ q ∷ rest) s y last
stays_after p q rest s y last m t = (t.0, t.1, t.2, subst (λ (z : ℚ). z ≤ℚ y) (sym (value-after p q rest t.0 (≤ℚ_trans _ _ _ m (≤ℚ_of_lt _ _ t.1)))) t.3)

stays_from : (p : Point) (rest : List Point) (s y last : ℚ) → s <ℚ last → value (p ∷ rest) s <ℚ y → Stays (p ∷ rest) s y last
stays_from p [] s y last l k = (last, l, ≤ℚ_refl last, ≤ℚ_of_lt _ _ k)
stays_from p (q ∷ rest) s y last l k = ⊎_elim
    (λ (m : s <ℚ q.0). stays_before p q rest s y last l k m)
    (λ (m : q.0 ≤ℚ s). stays_after p q rest s y last m (stays_from q rest s y last l (subst (λ (z : ℚ). z <ℚ y) (value-after p q rest s m) k)))
    (lt_or_le_ℚ s q.0)

pub stays : (points : List Point) (s y last : ℚ) → IsCurve points → s <ℚ last → value points s <ℚ y → Stays points s y last
stays [] s y last c l k = absurd c
stays (p ∷ rest) s y last c l k = stays_from p rest s y last l k
