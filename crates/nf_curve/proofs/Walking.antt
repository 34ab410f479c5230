-- The merge of two curves' times lists their times in order.
use Rattle.std.proofs.Common.{◌≡◌, ℕ, zero, suc, ◌<◌, List, [], ◌∷◌, length, ⊎_elim, Bool, true, false, refl, sym, ap, subst, ◌∙◌, arith, Option, Some}
use Rattle.std.proofs.Common.{None, slice_get, option_map, IfSome, if◌then◌else◌}
use Rattle.nf_curve.proofs.Common.{same_Some, ℚ, 0ℚ, ◌≤ℚ◌, ◌<ℚ◌, lt_ℚ, min_ℚ, ≤ℚ_of_lt, ≤ℚ_of_same, not_both_ℚ, lt_ℚ_cases, Point, TimesRise, IsCurve}
use Rattle.nf_curve.proofs.Common.{merged, times_of, rise_rest, count_until, points_after, times_after, earlier_of, ComesNext, IsMoment, times_left, Moment}
use Rattle.nf_curve.proofs.Common.{≤ℚ_refl, ≤ℚ_trans}
use Rattle.nf_curve_def.specs.Times.{both_times}
use Rattle.nf_curve_laws.proofs.Times.{merged_from-cases}
use Rattle.nf_curve.proofs.Placing.{curve-rises}
use Rattle.nf_rational_laws.proofs.Extremes.{min_left, min_right, min_is_left, min_is_right}

-- ---- the points after a time
points_after-behind : (time : ℚ) (p : Point) (rest : List Point) → time <ℚ p.0 → points_after time (p ∷ rest) ≡ p ∷ rest
points_after-behind time p rest h = ⊎_elim
    (λ (w : (lt_ℚ time p.0 ≡ true) × (time <ℚ p.0)). ap (λ (b : Bool). if b then p ∷ rest else points_after time rest) w.0)
    (λ (w : (lt_ℚ time p.0 ≡ false) × (p.0 ≤ℚ time)). absurd (not_both_ℚ time p.0 h w.1))
    (lt_ℚ_cases time p.0)

points_after-past : (time : ℚ) (p : Point) (rest : List Point) → p.0 ≤ℚ time → points_after time (p ∷ rest) ≡ points_after time rest
points_after-past time p rest h = ⊎_elim
    (λ (w : (lt_ℚ time p.0 ≡ true) × (time <ℚ p.0)). absurd (not_both_ℚ time p.0 w.1 h))
    (λ (w : (lt_ℚ time p.0 ≡ false) × (p.0 ≤ℚ time)). ap (λ (b : Bool). if b then p ∷ rest else points_after time rest) w.0)
    (lt_ℚ_cases time p.0)

-- all but the first of rising points come after it
pub points_after-first : (p : Point) (rest : List Point) → TimesRise (p ∷ rest) → points_after p.0 (p ∷ rest) ≡ rest
points_after-first p [] r = points_after-past p.0 p [] (≤ℚ_refl p.0)
points_after-first p (q ∷ rest) r = points_after-past p.0 p (q ∷ rest) (≤ℚ_refl p.0) ∙ points_after-behind p.0 q rest r.0

abbrev pub head_of : List Point → Option ℚ
head_of [] = None
head_of (p ∷ rest) = Some p.0

-- the first of them has the point count of the time as its index
pub place-head : (time : ℚ) (points : List Point) → option_map (λ (p : Point). p.0) (slice_get points (count_until time points)) ≡ head_of (points_after time points)
place-head time [] = refl
place-head time (p ∷ rest) = go (lt_ℚ time p.0) (place-head time rest)
  where
    go : (b : Bool) → option_map (λ (p : Point). p.0) (slice_get rest (count_until time rest)) ≡ head_of (points_after time rest)
        → option_map (λ (p : Point). p.0) (slice_get (p ∷ rest) (if b then zero else suc (count_until time rest))) ≡ head_of (if b then p ∷ rest else points_after time rest)
    go true e = refl
    go false e = e

-- after the first of them come the others, and it is the first from any time on until then
pub record Steps (time : ℚ) (points : List Point) (p : Point) (rest : List Point) : Type 0 where
  pub after : time <ℚ p.0
  pub next : points_after p.0 points ≡ rest
  pub stays : (between : ℚ) → time ≤ℚ between → between <ℚ p.0 → points_after between points ≡ p ∷ rest

pub points_after-steps : (time : ℚ) (points : List Point) (p : Point) (rest : List Point) → TimesRise points → points_after time points ≡ p ∷ rest → Steps time points p rest
points_after-steps time [] p rest r e = absurd (cc)
points_after-steps time (x ∷ xs) p rest r e = ⊎_elim
    (λ (w : (lt_ℚ time x.0 ≡ true) × (time <ℚ x.0)). first w.1 (sym (points_after-behind time x xs w.1) ∙ e))
    (λ (w : (lt_ℚ time x.0 ≡ false) × (x.0 ≤ℚ time)). further w.1 (points_after-steps time xs p rest (rise_rest x xs r) (sym (points_after-past time x xs w.1) ∙ e)))
    (lt_ℚ_cases time x.0)
  where
    first : time <ℚ x.0 → x ∷ xs ≡ p ∷ rest → Steps time (x ∷ xs) p rest
    first h d =
        let same : x ≡ p = cc in
        let others : xs ≡ rest = cc in
        subst (λ (q : Point). Steps time (x ∷ xs) q rest) same (subst (λ (l : List Point). Steps time (x ∷ xs) x l) others
        (record { after = h; next = points_after-first x xs r; stays = λ between i j. points_after-behind between x xs j }))

    further : x.0 ≤ℚ time → Steps time xs p rest → Steps time (x ∷ xs) p rest
    further h s = record {
      after = s.after;
      next = points_after-past p.0 x xs (≤ℚ_trans _ _ _ h (≤ℚ_of_lt _ _ s.after)) ∙ s.next;
      stays = λ between i j. points_after-past between x xs (≤ℚ_trans _ _ _ h i) ∙ s.stays between i j;
    }

pub points_after-none : (time next : ℚ) (points : List Point) → points_after time points ≡ [] → time ≤ℚ next → points_after next points ≡ []
points_after-none time next [] e h = refl
points_after-none time next (x ∷ xs) e h = ⊎_elim
    (λ (w : (lt_ℚ time x.0 ≡ true) × (time <ℚ x.0)). let d : x ∷ xs ≡ [] = sym (points_after-behind time x xs w.1) ∙ e in absurd (cc))
    (λ (w : (lt_ℚ time x.0 ≡ false) × (x.0 ≤ℚ time)). points_after-past next x xs (≤ℚ_trans _ _ _ w.1 h) ∙ points_after-none time next xs (sym (points_after-past time x xs w.1) ∙ e) h)
    (lt_ℚ_cases time x.0)

-- ---- a step of the merge
module _ (time : ℚ) (left right : List Point) (r : TimesRise left) (s : TimesRise right) where
  steps : (ls rs : List Point) → points_after time left ≡ ls → points_after time right ≡ rs → ComesNext time left right (earlier_of (head_of ls) (head_of rs))
  steps [] [] e f = ap (λ (l : List Point). merged (times_of l) (times_of (points_after time right))) e ∙ ap (λ (l : List Point). merged [] (times_of l)) f
  steps (p ∷ ls) [] e f =
      let w = points_after-steps time left p ls r e in (
        w.after,
        ap (λ (l : List Point). merged (times_of l) (times_of (points_after time right))) e ∙ ap (λ (l : List Point). merged (times_of (p ∷ ls)) (times_of l)) f
            ∙ sym (ap (λ (l : List Point). p.0 ∷ merged (times_of l) (times_of (points_after p.0 right))) w.next
            ∙ ap (λ (l : List Point). p.0 ∷ merged (times_of ls) (times_of l)) (points_after-none time p.0 right f (≤ℚ_of_lt _ _ w.after))),
      )
  steps [] (q ∷ rs) e f =
      let w = points_after-steps time right q rs s f in (
        w.after,
        ap (λ (l : List Point). merged (times_of l) (times_of (points_after time right))) e ∙ ap (λ (l : List Point). merged [] (times_of l)) f
            ∙ sym (ap (λ (l : List Point). q.0 ∷ merged (times_of l) (times_of (points_after q.0 right))) (points_after-none time q.0 left e (≤ℚ_of_lt _ _ w.after))
            ∙ ap (λ (l : List Point). q.0 ∷ merged [] (times_of l)) w.next),
      )
  steps (p ∷ ls) (q ∷ rs) e f =
      let v = points_after-steps time left p ls r e in
      let w = points_after-steps time right q rs s f in
      subst (λ (l : List ℚ). (time <ℚ min_ℚ p.0 q.0) × (l ≡ min_ℚ p.0 q.0 ∷ times_after (min_ℚ p.0 q.0) left right))
      (sym (ap (λ (l : List Point). merged (times_of l) (times_of (points_after time right))) e ∙ ap (λ (l : List Point). merged (times_of (p ∷ ls)) (times_of l)) f))
      (merged_from-cases (λ (l : List ℚ). (time <ℚ min_ℚ p.0 q.0) × (l ≡ min_ℚ p.0 q.0 ∷ times_after (min_ℚ p.0 q.0) left right)) p.0 (merged (times_of ls)) q.0 (times_of rs)
      (λ h. on p.0 (p.0 ∷ merged (times_of ls) (times_of (q ∷ rs))) (min_is_left p.0 q.0 (≤ℚ_of_lt _ _ h)) v.after
      (ap (λ (l : List Point). p.0 ∷ merged (times_of l) (times_of (points_after p.0 right))) v.next
      ∙ ap (λ (l : List Point). p.0 ∷ merged (times_of ls) (times_of l)) (w.stays p.0 (≤ℚ_of_lt _ _ v.after) h)))
      (λ h. on q.0 (q.0 ∷ merged (times_of (p ∷ ls)) (times_of rs)) (min_is_right p.0 q.0 (≤ℚ_of_lt _ _ h)) w.after
      (ap (λ (l : List Point). q.0 ∷ merged (times_of l) (times_of (points_after q.0 right))) (v.stays q.0 (≤ℚ_of_lt _ _ w.after) h)
      ∙ ap (λ (l : List Point). q.0 ∷ merged (times_of (p ∷ ls)) (times_of l)) w.next))
      (λ h. on p.0 (p.0 ∷ merged (times_of ls) (times_of rs)) (min_is_left p.0 q.0 (≤ℚ_of_same _ _ h)) v.after
      (ap (λ (l : List Point). p.0 ∷ merged (times_of l) (times_of (points_after p.0 right))) v.next
      ∙ ap (λ (l : List Point). p.0 ∷ merged (times_of ls) (times_of l)) (ap (λ (t : ℚ). points_after t right) h ∙ w.next))))
    where
      on : (next : ℚ) (l : List ℚ) → min_ℚ p.0 q.0 ≡ next → time <ℚ next → next ∷ times_after next left right ≡ l
          → (time <ℚ min_ℚ p.0 q.0) × (l ≡ min_ℚ p.0 q.0 ∷ times_after (min_ℚ p.0 q.0) left right)
      on next l i h j = (subst (λ (t : ℚ). time <ℚ t) (sym i) h, sym j ∙ ap (λ (t : ℚ). t ∷ times_after t left right) (sym i))

  -- the earlier of the times at both point counts is next
  pub comes-next : (next : Option ℚ) → next ≡ earlier_of (option_map (λ (p : Point). p.0) (slice_get left (count_until time left)))
      (option_map (λ (p : Point). p.0) (slice_get right (count_until time right))) → ComesNext time left right next
  comes-next next e = subst (λ (o : Option ℚ). ComesNext time left right o)
      (sym (e ∙ ap (λ (o : Option ℚ). earlier_of o (option_map (λ (p : Point). p.0) (slice_get right (count_until time right)))) (place-head time left)
      ∙ ap (λ (o : Option ℚ). earlier_of (head_of (points_after time left)) o) (place-head time right)))
      (steps (points_after time left) (points_after time right) refl refl)

-- ---- the merge begins at time 0
begins : (p q : Point) (left right : List Point) → TimesRise (p ∷ left) → TimesRise (q ∷ right) → p.0 ≡ q.0
    → both_times (p ∷ left) (q ∷ right) ≡ p.0 ∷ times_after p.0 (p ∷ left) (q ∷ right)
unfolding both_times
begins p q left right r s e = merged_from-cases (λ (l : List ℚ). l ≡ p.0 ∷ times_after p.0 (p ∷ left) (q ∷ right)) p.0 (merged (times_of left)) q.0 (times_of right)
    (λ h. absurd (not_both_ℚ p.0 q.0 h (≤ℚ_of_same _ _ (sym e))))
    (λ h. absurd (not_both_ℚ q.0 p.0 h (≤ℚ_of_same _ _ e)))
    (λ h. sym (ap (λ (l : List Point). p.0 ∷ merged (times_of l) (times_of (points_after p.0 (q ∷ right)))) (points_after-first p left r)
    ∙ ap (λ (l : List Point). p.0 ∷ merged (times_of left) (times_of l)) (ap (λ (t : ℚ). points_after t (q ∷ right)) e ∙ points_after-first q right s)))

pub walk-begins : (left right : List Point) (time : ℚ) → IsCurve left → IsCurve right → time ≡ 0ℚ → both_times left right ≡ time ∷ times_after time left right
walk-begins [] right time c d e = absurd c
walk-begins (p ∷ left) [] time c d e = absurd d
walk-begins (p ∷ left) (q ∷ right) time c d e =
    subst (λ (t : ℚ). both_times (p ∷ left) (q ∷ right) ≡ t ∷ times_after t (p ∷ left) (q ∷ right)) (c.0 ∙ sym e)
    (begins p q left right c.1 d.1 (c.0 ∙ sym d.0))

-- ---- the next time of the merge
module _ (left right : List Point) (c : IsCurve left) (d : IsCurve right) (now : Moment) (there : IsMoment left right now) (s t next : Option ℚ)
    (e : s ≡ option_map (λ (p : Point). p.0) (slice_get left now.left)) (f : t ≡ option_map (λ (p : Point). p.0) (slice_get right now.right)) (g : next ≡ earlier_of s t) where
  next-is : ComesNext now.time left right next
  next-is = comes-next now.time left right (curve-rises left c) (curve-rises right d) next
      (g ∙ ap (λ (o : Option ℚ). earlier_of o t) (e ∙ ap (λ (k : ℕ). option_map (λ (p : Point). p.0) (slice_get left k)) there.left_place)
      ∙ ap (λ (o : Option ℚ). earlier_of (option_map (λ (p : Point). p.0) (slice_get left (count_until now.time left))) o)
      (f ∙ ap (λ (k : ℕ). option_map (λ (p : Point). p.0) (slice_get right k)) there.right_place))

  pub walk-ends : next ≡ None → times_after now.time left right ≡ []
  walk-ends h = subst (λ (o : Option ℚ). ComesNext now.time left right o) h next-is

  pub walk-goes : (time : ℚ) → next ≡ Some time → (now.time <ℚ time) × (times_after now.time left right ≡ time ∷ times_after time left right)
  walk-goes time h = subst (λ (o : Option ℚ). ComesNext now.time left right o) h next-is

-- ---- the next time comes at or before the next point of either curve
pub earlier-left : (s t : Option ℚ) (time : ℚ) → earlier_of s t ≡ Some time → IfSome s (λ here. time ≤ℚ here)
earlier-left None t time e = tt
earlier-left (Some here) None time e = ≤ℚ_of_same _ _ (sym (same_Some _ _ e))
earlier-left (Some here) (Some there) time e = subst (λ (z : ℚ). z ≤ℚ here) (same_Some _ _ e) (min_left here there)

pub earlier-right : (s t : Option ℚ) (time : ℚ) → earlier_of s t ≡ Some time → IfSome t (λ there. time ≤ℚ there)
earlier-right s None time e = tt
earlier-right None (Some there) time e = ≤ℚ_of_same _ _ (sym (same_Some _ _ e))
earlier-right (Some here) (Some there) time e = subst (λ (z : ℚ). z ≤ℚ there) (same_Some _ _ e) (min_right here there)

pub time-first : (points : List Point) (place : ℕ) (first : Option ℚ) (time : ℚ) → first ≡ option_map (λ (p : Point). p.0) (slice_get points place) → IfSome first (λ here. time ≤ℚ here)
    → IfSome (slice_get points place) (λ p. time ≤ℚ p.0)
time-first points place first time e h = go (slice_get points place) (rw e at h)
  where
    go : (o : Option Point) → IfSome (option_map (λ (p : Point). p.0) o) (λ here. time ≤ℚ here) → IfSome o (λ p. time ≤ℚ p.0)
    go None k = tt
    go (Some p) k = k

-- each step of the merge decreases the number of remaining times
pub fewer_left : (left right : List Point) (now : Option Moment) (moment : Moment) (next : Option Moment) → now ≡ Some moment
    → times_after moment.time left right ≡ times_left left right next → length (times_left left right next) < length (times_left left right now)
fewer_left left right now moment next n t =
    let e : length (times_after moment.time left right) ≡ length (times_left left right next) = ap length t in rw n (omega (arith, e))
