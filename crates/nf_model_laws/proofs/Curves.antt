-- Values of curves.
use Rattle.std.proofs.Common.{◌≡◌, List, [], ◌∷◌, ◌++◌, ⊎_elim, Bool, true, false, if◌then◌else◌, sym, ap, subst, refl, ◌∙◌, append_assoc}
use Rattle.nf_model_laws.proofs.Common.{ℚ, ◌+ℚ◌, ◌-ℚ◌, ◌*ℚ◌, ◌/ℚ◌, 0ℚ, ◌≤ℚ◌, ◌<ℚ◌, lt_ℚ, reading_of, ≤ℚ_of_lt, ≤ℚ_antisymm, lt_or_le_ℚ, less_ps, not_both_ℚ}
use Rattle.nf_model_laws.proofs.Common.{/ℚ-unique, ps_apart, le, lt, eq, le_times, eq_times, linear_le, linear_lt, linear_eq, lt_ℚ_cases, Within, slope, value}
use Rattle.nf_model_laws.proofs.Common.{TimesRise, IsCurve, NeverFalls, IsAffine, ≤ℚ_refl, ≤ℚ_trans, <_≤_trans}
use Rattle.nf_model_laws.specs.CurveLaws.{ValuesRise}
use Rattle.nf_model_laws.proofs.Affine.{quotient-times, le_from_times, quotient-gap, nn-slope, line_end, line_start, line_rises}

-- where t lies before the second point, and where it does not
pub by_first : {P : Type 0} (p q : ℚ × ℚ) (rest : List (ℚ × ℚ)) (t : ℚ)
    → (t <ℚ q.0 → value (p ∷ q ∷ rest) t ≡ p.1 +ℚ slope p q *ℚ (t -ℚ p.0) → P)
    → (q.0 ≤ℚ t → value (p ∷ q ∷ rest) t ≡ value (q ∷ rest) t → P)
    → P
by_first {P} p q rest t f g = ⊎_elim
    (λ (w : (lt_ℚ t q.0 ≡ true) × (t <ℚ q.0)). f w.1 (ap (λ (b : Bool). if b then p.1 +ℚ slope p q *ℚ (t -ℚ p.0) else value (q ∷ rest) t) w.0))
    (λ (w : (lt_ℚ t q.0 ≡ false) × (q.0 ≤ℚ t)). g w.1 (ap (λ (b : Bool). if b then p.1 +ℚ slope p q *ℚ (t -ℚ p.0) else value (q ∷ rest) t) w.0))
    (lt_ℚ_cases t q.0)

pub value-before : (p q : ℚ × ℚ) (rest : List (ℚ × ℚ)) (t : ℚ) → t <ℚ q.0 → value (p ∷ q ∷ rest) t ≡ p.1 +ℚ slope p q *ℚ (t -ℚ p.0)
value-before p q rest t h = by_first p q rest t (λ _ e. e) (λ k _. absurd (not_both_ℚ _ _ h k))

pub value-after : (p q : ℚ × ℚ) (rest : List (ℚ × ℚ)) (t : ℚ) → q.0 ≤ℚ t → value (p ∷ q ∷ rest) t ≡ value (q ∷ rest) t
value-after p q rest t h = by_first p q rest t (λ k _. absurd (not_both_ℚ _ _ k h)) (λ _ e. e)

-- at its first point a curve has that point's value
pub value-first : (p : ℚ × ℚ) (rest : List (ℚ × ℚ)) → TimesRise (p ∷ rest) → value (p ∷ rest) p.0 ≡ p.1
value-first p [] r = refl
value-first p (q ∷ rest) r = value-before p q rest p.0 r.0 ∙ line_start p.0 p.1 (slope p q)

pub slope-times : (p q : ℚ × ℚ) → p.0 <ℚ q.0 → slope p q *ℚ (q.0 -ℚ p.0) ≡ q.1 -ℚ p.1
slope-times p q h = quotient-gap (q.1 -ℚ p.1) p.0 q.0 h

-- up to the second point a curve is a line
pub value-line : (p q : ℚ × ℚ) (rest : List (ℚ × ℚ)) (t : ℚ) → TimesRise (p ∷ q ∷ rest) → t ≤ℚ q.0 → value (p ∷ q ∷ rest) t ≡ p.1 +ℚ slope p q *ℚ (t -ℚ p.0)
value-line p q rest t r h = by_first p q rest t (λ _ e. e)
    (λ k e. e ∙ same (≤ℚ_antisymm t q.0 h k))
  where
    same : t ≡ q.0 → value (q ∷ rest) t ≡ p.1 +ℚ slope p q *ℚ (t -ℚ p.0)
    same e = subst (λ (u : ℚ). value (q ∷ rest) u ≡ p.1 +ℚ slope p q *ℚ (u -ℚ p.0)) (sym e)
        (value-first q rest r.1 ∙ sym (line_end p.0 p.1 q.0 q.1 (slope p q) (slope-times p q r.0)))

-- ---- anywhere in a curve: the points before it, the point, and the points after it
pub TimesRise-rest : (front : List (ℚ × ℚ)) (p : ℚ × ℚ) (rest : List (ℚ × ℚ)) → TimesRise (front ++ p ∷ rest) → TimesRise (p ∷ rest)
TimesRise-rest [] p rest r = r
TimesRise-rest (x ∷ []) p rest r = r.1
TimesRise-rest (x ∷ y ∷ front) p rest r = TimesRise-rest (y ∷ front) p rest r.1

pub first_before : (x : ℚ × ℚ) (front : List (ℚ × ℚ)) (p : ℚ × ℚ) (rest : List (ℚ × ℚ)) → TimesRise (x ∷ front ++ p ∷ rest) → x.0 <ℚ p.0
first_before x [] p rest r = r.0
first_before x (y ∷ front) p rest r = linear_lt (x.0 ∷ y.0 ∷ p.0 ∷ []) (lt r.0 ∷ lt (first_before y front p rest r.1) ∷ []) (search reading_of) tt

-- from a point on, the points before it don't matter
pub value-rest : (front : List (ℚ × ℚ)) (p : ℚ × ℚ) (rest : List (ℚ × ℚ)) (t : ℚ) → TimesRise (front ++ p ∷ rest) → p.0 ≤ℚ t → value (front ++ p ∷ rest) t ≡ value (p ∷ rest) t
value-rest [] p rest t r h = refl
value-rest (x ∷ []) p rest t r h = value-after x p rest t h
value-rest (x ∷ y ∷ front) p rest t r h =
    value-after x y (front ++ p ∷ rest) t (≤ℚ_trans _ _ _ (≤ℚ_of_lt _ _ (first_before y front p rest r.1)) h) ∙ value-rest (y ∷ front) p rest t r.1 h

-- each point is on the curve
pub value-point : (front : List (ℚ × ℚ)) (p : ℚ × ℚ) (rest : List (ℚ × ℚ)) → TimesRise (front ++ p ∷ rest) → value (front ++ p ∷ rest) p.0 ≡ p.1
value-point front p rest r = value-rest front p rest p.0 r (≤ℚ_refl p.0) ∙ value-first p rest (TimesRise-rest front p rest r)

-- between neighbouring points the curve is a line
pub value-piece : (front : List (ℚ × ℚ)) (p q : ℚ × ℚ) (rest : List (ℚ × ℚ)) (t : ℚ) → TimesRise (front ++ p ∷ q ∷ rest) → p.0 ≤ℚ t → t ≤ℚ q.0
    → value (front ++ p ∷ q ∷ rest) t ≡ p.1 +ℚ slope p q *ℚ (t -ℚ p.0)
value-piece front p q rest t r h k = value-rest front p (q ∷ rest) t r h ∙ value-line p q rest t (TimesRise-rest front p (q ∷ rest) r) k

pub value-affine : (front : List (ℚ × ℚ)) (p q : ℚ × ℚ) (rest : List (ℚ × ℚ)) → TimesRise (front ++ p ∷ q ∷ rest) → IsAffine (value (front ++ p ∷ q ∷ rest)) p.0 q.0 (slope p q)
value-affine front p q rest r = record { line = λ t h k. value-piece front p q rest t r h k ∙ ap (λ (y : ℚ). y +ℚ slope p q *ℚ (t -ℚ p.0)) (sym (value-point front p (q ∷ rest) r)) }

-- after the last point it is constant
pub value-last : (front : List (ℚ × ℚ)) (p : ℚ × ℚ) (t : ℚ) → TimesRise (front ++ p ∷ []) → p.0 ≤ℚ t → value (front ++ p ∷ []) t ≡ p.1
value-last front p t r h = value-rest front p [] t r h

-- up to a point, the points after it don't matter
pub value-front : (front : List (ℚ × ℚ)) (x p : ℚ × ℚ) (rest : List (ℚ × ℚ)) (t : ℚ) → TimesRise (x ∷ front ++ p ∷ rest) → t ≤ℚ p.0
    → value (x ∷ front ++ p ∷ rest) t ≡ value (x ∷ front ++ p ∷ []) t
value-front [] x p rest t r h = value-line x p rest t r h ∙ sym (value-line x p [] t (r.0, tt) h)
value-front (y ∷ front) x p rest t r h = by_first x y (front ++ p ∷ rest) t
    (λ k e. e ∙ sym (value-before x y (front ++ p ∷ []) t k))
    (λ k e. e ∙ value-front front y p rest t r.1 h ∙ sym (value-after x y (front ++ p ∷ []) t k))

-- ---- a point more at the end
append_one : (front : List (ℚ × ℚ)) (p q : ℚ × ℚ) → (front ++ p ∷ []) ++ q ∷ [] ≡ front ++ p ∷ q ∷ []
append_one front p q = append_assoc front (p ∷ []) (q ∷ [])

pub TimesRise-push : (front : List (ℚ × ℚ)) (p q : ℚ × ℚ) → TimesRise (front ++ p ∷ []) → p.0 <ℚ q.0 → TimesRise (front ++ p ∷ q ∷ [])
TimesRise-push [] p q r h = (h, tt)
TimesRise-push (x ∷ []) p q r h = (r.0, (h, tt))
TimesRise-push (x ∷ y ∷ front) p q r h = (r.0, TimesRise-push (y ∷ front) p q r.1 h)

pub value-push_before : (front : List (ℚ × ℚ)) (x p q : ℚ × ℚ) (t : ℚ) → TimesRise (x ∷ front ++ p ∷ []) → p.0 <ℚ q.0 → t ≤ℚ p.0
    → value ((x ∷ front ++ p ∷ []) ++ q ∷ []) t ≡ value (x ∷ front ++ p ∷ []) t
value-push_before front x p q t r h k =
    ap (λ (l : List (ℚ × ℚ)). value l t) (append_one (x ∷ front) p q) ∙ value-front front x p (q ∷ []) t (TimesRise-push (x ∷ front) p q r h) k

pub value-push_piece : (front : List (ℚ × ℚ)) (p q : ℚ × ℚ) (t : ℚ) → TimesRise (front ++ p ∷ []) → p.0 <ℚ q.0 → p.0 ≤ℚ t → t ≤ℚ q.0
    → value ((front ++ p ∷ []) ++ q ∷ []) t ≡ p.1 +ℚ slope p q *ℚ (t -ℚ p.0)
value-push_piece front p q t r h k l =
    ap (λ (l : List (ℚ × ℚ)). value l t) (append_one front p q) ∙ value-piece front p q [] t (TimesRise-push front p q r h) k l

-- a point on the line between its neighbours may go
joined : (p0 p1 q0 q1 r0 r1 n : ℚ) → n *ℚ (q0 -ℚ p0) ≡ q1 -ℚ p1 → n *ℚ (r0 -ℚ q0) ≡ r1 -ℚ q1 → n *ℚ (r0 -ℚ p0) ≡ r1 -ℚ p1
joined p0 p1 q0 q1 r0 r1 n e f = linear_eq (p0 ∷ p1 ∷ q0 ∷ q1 ∷ r0 ∷ r1 ∷ n ∷ []) (eq e ∷ eq f ∷ []) (search reading_of) tt tt

pub slope-unique : (p q : ℚ × ℚ) (n : ℚ) → p.0 <ℚ q.0 → n *ℚ (q.0 -ℚ p.0) ≡ q.1 -ℚ p.1 → n ≡ slope p q
slope-unique p q n h e = /ℚ-unique (q.1 -ℚ p.1) (q.0 -ℚ p.0) n (ps_apart _ (less_ps p.0 q.0 h)) e

slope-joined : (p q r : ℚ × ℚ) → p.0 <ℚ q.0 → q.0 <ℚ r.0 → slope p q ≡ slope q r → slope p q ≡ slope p r
slope-joined p q r h k e = slope-unique p r (slope p q) (<_≤_trans _ _ _ h (≤ℚ_of_lt _ _ k))
    (joined p.0 p.1 q.0 q.1 r.0 r.1 (slope p q) (slope-times p q h) (ap (λ (n : ℚ). n *ℚ (r.0 -ℚ q.0)) e ∙ slope-times q r k))

same_after : (p0 p1 q0 q1 t n m l : ℚ) → n *ℚ (q0 -ℚ p0) ≡ q1 -ℚ p1 → n ≡ m → n ≡ l → q1 +ℚ m *ℚ (t -ℚ q0) ≡ p1 +ℚ l *ℚ (t -ℚ p0)
same_after p0 p1 q0 q1 t n m l e f g = linear_eq (p0 ∷ p1 ∷ q0 ∷ q1 ∷ t ∷ n ∷ m ∷ l ∷ []) (eq e ∷ eq_times (t -ℚ q0) f ∷ eq_times (t -ℚ p0) g ∷ []) (search reading_of) tt tt

merge_two : (p q r : ℚ × ℚ) (rest : List (ℚ × ℚ)) (t : ℚ) → p.0 <ℚ q.0 → q.0 <ℚ r.0 → slope p q ≡ slope q r → value (p ∷ q ∷ r ∷ rest) t ≡ value (p ∷ r ∷ rest) t
merge_two p q r rest t h k e =
    let s : slope p q ≡ slope p r = slope-joined p q r h k e in
    by_first p q (r ∷ rest) t
    (λ a d. d ∙ ap (λ (n : ℚ). p.1 +ℚ n *ℚ (t -ℚ p.0)) s ∙ sym (value-before p r rest t (<_≤_trans _ _ _ a (≤ℚ_of_lt _ _ k))))
    (λ a d. d ∙ by_first q r rest t
    (λ b c. c ∙ same_after p.0 p.1 q.0 q.1 t (slope p q) (slope q r) (slope p r) (slope-times p q h) e s ∙ sym (value-before p r rest t b))
    (λ b c. c ∙ sym (value-after p r rest t b)))

-- the times still rise without a point between
pub TimesRise-merge : (front : List (ℚ × ℚ)) (p q r : ℚ × ℚ) (rest : List (ℚ × ℚ)) → TimesRise (front ++ p ∷ q ∷ r ∷ rest) → TimesRise (front ++ p ∷ r ∷ rest)
TimesRise-merge [] p q r rest h = (<_≤_trans _ _ _ h.0 (≤ℚ_of_lt _ _ h.1.0), h.1.1)
TimesRise-merge (x ∷ []) p q r rest h = (h.0, TimesRise-merge [] p q r rest h.1)
TimesRise-merge (x ∷ y ∷ front) p q r rest h = (h.0, TimesRise-merge (y ∷ front) p q r rest h.1)

-- from p on the point q with equal slopes before and after it doesn't matter
pub value-merge : (front : List (ℚ × ℚ)) (p q r : ℚ × ℚ) (rest : List (ℚ × ℚ)) (t : ℚ) → TimesRise (front ++ p ∷ q ∷ r ∷ rest) → slope p q ≡ slope q r → p.0 ≤ℚ t
    → value (front ++ p ∷ q ∷ r ∷ rest) t ≡ value (front ++ p ∷ r ∷ rest) t
value-merge front p q r rest t h e k =
    let later : TimesRise (p ∷ q ∷ r ∷ rest) = TimesRise-rest front p (q ∷ r ∷ rest) h in
    value-rest front p (q ∷ r ∷ rest) t h k ∙ merge_two p q r rest t later.0 later.1.0 e
    ∙ sym (value-rest front p (r ∷ rest) t (TimesRise-merge front p q r rest h) k)

-- ---- curves that never fall
-- s is below t, and on the curve from p on: not below p's value
pub value-floor : (p : ℚ × ℚ) (rest : List (ℚ × ℚ)) (t : ℚ) → TimesRise (p ∷ rest) → ValuesRise (p ∷ rest) → p.0 ≤ℚ t → p.1 ≤ℚ value (p ∷ rest) t
value-floor p [] t r v h = ≤ℚ_refl p.1
value-floor p (q ∷ rest) t r v h = by_first p q rest t
    (λ k e. line_rises p.0 p.1 p.0 t (slope p q) p.1 _ h (nn-slope p.0 p.1 q.0 q.1 r.0 v.0) (sym (line_start p.0 p.1 (slope p q))) e)
    (λ k e. subst (λ (y : ℚ). p.1 ≤ℚ y) (sym e) (≤ℚ_trans _ _ _ v.0 (value-floor q rest t r.1 v.1 k)))

pub value-rises : (p : ℚ × ℚ) (rest : List (ℚ × ℚ)) (s t : ℚ) → TimesRise (p ∷ rest) → ValuesRise (p ∷ rest) → p.0 ≤ℚ s → s ≤ℚ t → value (p ∷ rest) s ≤ℚ value (p ∷ rest) t
value-rises p [] s t r v h k = ≤ℚ_refl p.1
value-rises p (q ∷ rest) s t r v h k = by_first p q rest s
    (λ a d. by_first p q rest t
    (λ b e. line_rises p.0 p.1 s t (slope p q) _ _ k (nn-slope p.0 p.1 q.0 q.1 r.0 v.0) d e)
    (λ b e. subst (λ (y : ℚ). value (p ∷ q ∷ rest) s ≤ℚ y) (sym e)
    (≤ℚ_trans _ _ _ (line_rises p.0 p.1 s q.0 (slope p q) _ q.1 (≤ℚ_of_lt _ _ a) (nn-slope p.0 p.1 q.0 q.1 r.0 v.0) d
    (sym (line_end p.0 p.1 q.0 q.1 (slope p q) (slope-times p q r.0)))) (value-floor q rest t r.1 v.1 b))))
    (λ a d. subst (λ (y : ℚ). y ≤ℚ value (p ∷ q ∷ rest) t) (sym d) (subst (λ (y : ℚ). value (q ∷ rest) s ≤ℚ y)
    (sym (value-after p q rest t (≤ℚ_trans _ _ _ a k))) (value-rises q rest s t r.1 v.1 a k)))

pub NeverFalls-value : (points : List (ℚ × ℚ)) → IsCurve points → ValuesRise points → NeverFalls (value points)
NeverFalls-value [] c v s t h k = absurd c
NeverFalls-value (p ∷ rest) c v s t h k = value-rises p rest s t c.1 v (subst (λ (u : ℚ). u ≤ℚ s) (sym c.0) h) k

-- ---- a curve takes each value between two of its values
-- the time at which a line through v at s with the slope n, not 0, takes the value y
line_at : (s v n y q : ℚ) → q *ℚ n ≡ y -ℚ v → v +ℚ n *ℚ ((s +ℚ q) -ℚ s) ≡ y
line_at s v n y q e = linear_eq (s ∷ v ∷ n ∷ y ∷ q ∷ []) (eq e ∷ []) (search reading_of) tt tt

flat_line : (s t v n y z : ℚ) → s ≤ℚ t → n ≤ℚ 0ℚ → z ≡ v +ℚ n *ℚ (t -ℚ s) → y ≤ℚ z → v ≤ℚ y → v ≡ y
flat_line s t v n y z h k e l m =
    let run : 0ℚ ≤ℚ t -ℚ s = linear_le (s ∷ t ∷ []) (le h ∷ []) (search reading_of) tt in
    linear_eq (s ∷ t ∷ v ∷ n ∷ y ∷ z ∷ []) (eq e ∷ le l ∷ le m ∷ le_times run k ∷ []) (search reading_of) tt tt

times_before : (s t v n y z q : ℚ) → z ≡ v +ℚ n *ℚ (t -ℚ s) → y ≤ℚ z → q *ℚ n ≡ y -ℚ v → n *ℚ (s +ℚ q) ≤ℚ n *ℚ t
times_before s t v n y z q e l f = linear_le (s ∷ t ∷ v ∷ n ∷ y ∷ z ∷ q ∷ []) (eq e ∷ le l ∷ eq f ∷ []) (search reading_of) tt

times_after : (s v n y q : ℚ) → v ≤ℚ y → q *ℚ n ≡ y -ℚ v → n *ℚ s ≤ℚ n *ℚ (s +ℚ q)
times_after s v n y q l f = linear_le (s ∷ v ∷ n ∷ y ∷ q ∷ []) (le l ∷ eq f ∷ []) (search reading_of) tt

-- a line from v at s takes a value y, from v on and up to its value at t, at some time between s and t
pub line_takes : (s t v n y z : ℚ) → s ≤ℚ t → z ≡ v +ℚ n *ℚ (t -ℚ s) → v ≤ℚ y → y ≤ℚ z → (u : ℚ) × (s ≤ℚ u) × (u ≤ℚ t) × (v +ℚ n *ℚ (u -ℚ s) ≡ y)
line_takes s t v n y z h e k l = ⊎_elim
    (λ (p : 0ℚ <ℚ n).
    let q : (y -ℚ v) /ℚ n *ℚ n ≡ y -ℚ v = quotient-times (y -ℚ v) n p in
    (s +ℚ (y -ℚ v) /ℚ n, le_from_times n _ _ p (times_after s v n y _ k q), le_from_times n _ _ p (times_before s t v n y z _ e l q), line_at s v n y _ q))
    (λ (p : n ≤ℚ 0ℚ). (s, ≤ℚ_refl s, h, line_start s v n ∙ flat_line s t v n y z h p e l k))
    (lt_or_le_ℚ 0ℚ n)

pub value-takes : (p : ℚ × ℚ) (rest : List (ℚ × ℚ)) (t y : ℚ) → TimesRise (p ∷ rest) → p.0 ≤ℚ t → p.1 ≤ℚ y → y ≤ℚ value (p ∷ rest) t
    → (u : ℚ) × (p.0 ≤ℚ u) × (u ≤ℚ t) × (value (p ∷ rest) u ≡ y)
value-takes p [] t y r h k l = (t, h, ≤ℚ_refl t, ≤ℚ_antisymm _ _ k l)
value-takes p (q ∷ rest) t y r h k l = ⊎_elim
    (λ (a : q.1 <ℚ y). by_first p q rest t
    (λ b e. on_line t h (≤ℚ_of_lt _ _ b) (≤ℚ_refl t) e l)
    (λ b e. later (value-takes q rest t y r.1 b (≤ℚ_of_lt _ _ a) (subst (λ (z : ℚ). y ≤ℚ z) e l))))
    (λ (a : y ≤ℚ q.1). by_first p q rest t
    (λ b e. on_line t h (≤ℚ_of_lt _ _ b) (≤ℚ_refl t) e l)
    (λ b e. on_line q.0 (≤ℚ_of_lt _ _ r.0) (≤ℚ_refl q.0) b (sym (line_end p.0 p.1 q.0 q.1 (slope p q) (slope-times p q r.0))) a))
    (lt_or_le_ℚ q.1 y)
  where
    on_line : {z : ℚ} (v : ℚ) → p.0 ≤ℚ v → v ≤ℚ q.0 → v ≤ℚ t → z ≡ p.1 +ℚ slope p q *ℚ (v -ℚ p.0) → y ≤ℚ z → (u : ℚ) × (p.0 ≤ℚ u) × (u ≤ℚ t) × (value (p ∷ q ∷ rest) u ≡ y)
    on_line {z} v a b c e d =
        let w : (u : ℚ) × (p.0 ≤ℚ u) × (u ≤ℚ v) × (p.1 +ℚ slope p q *ℚ (u -ℚ p.0) ≡ y) = line_takes p.0 v p.1 (slope p q) y z a e k d in
        (w.0, w.1, ≤ℚ_trans _ _ _ w.2 c, value-line p q rest w.0 r (≤ℚ_trans _ _ _ w.2 b) ∙ w.3)

    later : (u : ℚ) × (q.0 ≤ℚ u) × (u ≤ℚ t) × (value (q ∷ rest) u ≡ y) → (u : ℚ) × (p.0 ≤ℚ u) × (u ≤ℚ t) × (value (p ∷ q ∷ rest) u ≡ y)
    later w = (w.0, ≤ℚ_trans _ _ _ (≤ℚ_of_lt _ _ r.0) w.1, w.2, value-after p q rest w.0 w.1 ∙ w.3)

-- A curve attains each value between two of its values.
pub value-takes_between : (points : List (ℚ × ℚ)) (last y : ℚ) → IsCurve points → 0ℚ ≤ℚ last → value points 0ℚ ≤ℚ y → y ≤ℚ value points last
    → (u : ℚ) × Within 0ℚ last u × (value points u ≡ y)
value-takes_between [] last y c h i j = absurd c
value-takes_between (p ∷ rest) last y c h i j =
    let w : (u : ℚ) × (p.0 ≤ℚ u) × (u ≤ℚ last) × (value (p ∷ rest) u ≡ y) = value-takes p rest last y c.1 (subst (λ (z : ℚ). z ≤ℚ last) (sym c.0) h)
    (subst (λ (z : ℚ). z ≤ℚ y) (ap (value (p ∷ rest)) (sym c.0) ∙ value-first p rest c.1) i) j in
    (w.0, (subst (λ (z : ℚ). z ≤ℚ w.0) c.0 w.1, w.2), w.3)

-- ---- a curve with its last point
pub record EndsAt (points : List (ℚ × ℚ)) (p : ℚ × ℚ) : Type 0 where
  pub front : List (ℚ × ℚ)
  pub same : points ≡ front ++ p ∷ []
  pub curve : IsCurve points

pub IsCurve-rises : (points : List (ℚ × ℚ)) → IsCurve points → TimesRise points
IsCurve-rises [] c = absurd c
IsCurve-rises (p ∷ rest) c = c.1

rises_at : (points front : List (ℚ × ℚ)) (p : ℚ × ℚ) → points ≡ front ++ p ∷ [] → IsCurve points → TimesRise (front ++ p ∷ [])
rises_at points front p e c = subst (λ (l : List (ℚ × ℚ)). TimesRise l) e (IsCurve-rises points c)

pub EndsAt-value : (points : List (ℚ × ℚ)) (p : ℚ × ℚ) (t : ℚ) → EndsAt points p → p.0 ≤ℚ t → value points t ≡ p.1
EndsAt-value points p t e h = ap (λ (l : List (ℚ × ℚ)). value l t) e.same ∙ value-last e.front p t (rises_at points e.front p e.same e.curve) h

nn_at : (front : List (ℚ × ℚ)) (p : ℚ × ℚ) → IsCurve (front ++ p ∷ []) → 0ℚ ≤ℚ p.0
nn_at [] p c = subst (λ (z : ℚ). 0ℚ ≤ℚ z) (sym c.0) (≤ℚ_refl 0ℚ)
nn_at (x ∷ front) p c = subst (λ (z : ℚ). z ≤ℚ p.0) c.0 (≤ℚ_of_lt _ _ (first_before x front p [] c.1))

pub EndsAt-nn : (points : List (ℚ × ℚ)) (p : ℚ × ℚ) → EndsAt points p → 0ℚ ≤ℚ p.0
EndsAt-nn points p e = nn_at e.front p (subst (λ (l : List (ℚ × ℚ)). IsCurve l) e.same e.curve)

IsCurve-push : (front : List (ℚ × ℚ)) (p q : ℚ × ℚ) → IsCurve (front ++ p ∷ []) → p.0 <ℚ q.0 → IsCurve (front ++ p ∷ q ∷ [])
IsCurve-push [] p q c h = (c.0, (h, tt))
IsCurve-push (x ∷ front) p q c h = (c.0, TimesRise-push (x ∷ front) p q c.1 h)

pub EndsAt-push : (points : List (ℚ × ℚ)) (p q : ℚ × ℚ) → EndsAt points p → p.0 <ℚ q.0 → EndsAt (points ++ q ∷ []) q
EndsAt-push points p q e h = record {
  front = points;
  same = refl;
  curve =
      subst (λ (l : List (ℚ × ℚ)). IsCurve l) (sym (append_one e.front p q) ∙ ap (λ (l : List (ℚ × ℚ)). l ++ q ∷ []) (sym e.same))
      (IsCurve-push e.front p q (subst (λ (l : List (ℚ × ℚ)). IsCurve l) e.same e.curve) h);
}

pub EndsAt-push_line : (points : List (ℚ × ℚ)) (p q : ℚ × ℚ) (t : ℚ) → EndsAt points p → p.0 <ℚ q.0 → p.0 ≤ℚ t → t ≤ℚ q.0 → value (points ++ q ∷ []) t ≡ p.1 +ℚ slope p q *ℚ (t -ℚ p.0)
EndsAt-push_line points p q t e h k l = ap (λ (l : List (ℚ × ℚ)). value (l ++ q ∷ []) t) e.same ∙ value-push_piece e.front p q t (rises_at points e.front p e.same e.curve) h k l

pub value-append_before : (front : List (ℚ × ℚ)) (p q : ℚ × ℚ) (t : ℚ) → IsCurve (front ++ p ∷ []) → p.0 <ℚ q.0 → 0ℚ ≤ℚ t → t ≤ℚ p.0
    → value ((front ++ p ∷ []) ++ q ∷ []) t ≡ value (front ++ p ∷ []) t
value-append_before [] p q t c h i k =
    value-line p q [] t (h, tt) (≤ℚ_trans _ _ _ k (≤ℚ_of_lt _ _ h)) ∙ subst (λ (u : ℚ). p.1 +ℚ slope p q *ℚ (u -ℚ p.0) ≡ p.1)
    (≤ℚ_antisymm _ _ (subst (λ (z : ℚ). z ≤ℚ t) (sym c.0) i) k) (line_start p.0 p.1 (slope p q))
value-append_before (x ∷ front) p q t c h i k = value-push_before front x p q t c.1 h k

pub EndsAt-push_before : (points : List (ℚ × ℚ)) (p q : ℚ × ℚ) (t : ℚ) → EndsAt points p → p.0 <ℚ q.0 → 0ℚ ≤ℚ t → t ≤ℚ p.0 → value (points ++ q ∷ []) t ≡ value points t
EndsAt-push_before points p q t e h i k =
    ap (λ (l : List (ℚ × ℚ)). value (l ++ q ∷ []) t) e.same ∙ value-append_before e.front p q t
    (subst (λ (l : List (ℚ × ℚ)). IsCurve l) e.same e.curve) h i k ∙ sym (ap (λ (l : List (ℚ × ℚ)). value l t) e.same)

-- ---- the same for a curve as it stands
pub IsCurve-append : (front : List (ℚ × ℚ)) (p q : ℚ × ℚ) → IsCurve (front ++ p ∷ []) → p.0 <ℚ q.0 → IsCurve ((front ++ p ∷ []) ++ q ∷ [])
IsCurve-append front p q c h = subst (λ (l : List (ℚ × ℚ)). IsCurve l) (sym (append_one front p q)) (IsCurve-push front p q c h)

pub value-append_affine : (front : List (ℚ × ℚ)) (p q : ℚ × ℚ) → IsCurve (front ++ p ∷ []) → p.0 <ℚ q.0 → IsAffine (value ((front ++ p ∷ []) ++ q ∷ [])) p.0 q.0 (slope p q)
value-append_affine front p q c h =
    subst (λ (l : List (ℚ × ℚ)). IsAffine (value l) p.0 q.0 (slope p q)) (sym (append_one front p q)) (value-affine front p q [] (TimesRise-push front p q (IsCurve-rises _ c) h))
