-- The next of the times of three curves.
use Rattle.std.proofs.Common.{◌≡◌, ℕ, ◌<◌, ◌≤◌, List, [], ◌∷◌, length, ◌⊎◌, inl, inr, ⊎_elim, Bool, true, false, Some, None, slice_get, refl, sym, ap}
use Rattle.std.proofs.Common.{subst, ◌∙◌, arith, Option, IfSome, option_map, not, ◌||◌}
use Rattle.nf_check_rules.proofs.Common.{same_Some, ℚ, 0ℚ, ◌≤ℚ◌, ◌<ℚ◌, lt_ℚ, min_ℚ, ≤ℚ_of_lt, ≤ℚ_of_same, ≤ℚ_antisymm, not_both_ℚ, ≤ℚ_trans, Point}
use Rattle.nf_check_rules.proofs.Common.{TimesRise, IsCurve, curve-rises, place-rises, three_times, AreSentCurves, ArePlaces, first_time, three_after, Sent}
use Rattle.nf_check_rules.proofs.Common.{Places}
use Rattle.nf_rational_laws.proofs.Tests.{lt_ℚ_cases}
use Rattle.nf_rational_laws.proofs.Extremes.{min_is_left, min_is_right}
use Rattle.nf_curve_def.specs.Times.{merged, merged_from, times_of}
use Rattle.nf_curve_laws.proofs.Times.{merged_from-cases}
use Rattle.nf_curve.specs.Places.{count_until, points_after, earlier_of}
use Rattle.nf_curve.proofs.Walking.{head_of, place-head, points_after-steps, points_after-none, points_after-first, earlier-left, earlier-right, time-first}

-- ---- a time leaves a list if it is the first there, and comes before all of it otherwise
pub data Leaves (time : ℚ) : Bool → List ℚ → List ℚ → Type 0 where
  none : Leaves time false [] []
  waits : (x : ℚ) (xs : List ℚ) → time <ℚ x → Leaves time false (x ∷ xs) (x ∷ xs)
  leaves : (x : ℚ) (xs : List ℚ) → time ≡ x → Leaves time true (x ∷ xs) xs

module _ (time : ℚ) where
  -- of two lists, it leaves what they are merged into
  merged-leaves : {b d : Bool} {xs xs' ys ys' : List ℚ} → Leaves time b xs xs' → Leaves time d ys ys' → Leaves time (b || d) (merged xs ys) (merged xs' ys')
  merged-leaves none w = w
  merged-leaves (waits x xs h) none = waits x (merged xs []) h
  merged-leaves (leaves x xs h) none = leaves x (merged xs []) h
  merged-leaves (waits x xs h) (waits y ys k) = merged_from-cases (λ (l : List ℚ). Leaves time false l l) x (merged xs) y ys
      (λ _. waits x (merged xs (y ∷ ys)) h)
      (λ _. waits y (merged (x ∷ xs) ys) k)
      (λ _. waits x (merged xs ys) h)
  merged-leaves (waits x xs h) (leaves y ys k) = merged_from-cases (λ (l : List ℚ). Leaves time true l (merged (x ∷ xs) ys)) x (merged xs) y ys
      (λ before. absurd (not_both_ℚ x y before (≤ℚ_of_lt _ _ (subst (λ (t : ℚ). t <ℚ x) k h))))
      (λ _. leaves y (merged (x ∷ xs) ys) k)
      (λ same. absurd (not_both_ℚ y x (subst (λ (t : ℚ). t <ℚ x) k h) (≤ℚ_of_same _ _ same)))
  merged-leaves (leaves x xs h) (waits y ys k) = merged_from-cases (λ (l : List ℚ). Leaves time true l (merged xs (y ∷ ys))) x (merged xs) y ys
      (λ _. leaves x (merged xs (y ∷ ys)) h)
      (λ before. absurd (not_both_ℚ y x before (≤ℚ_of_lt _ _ (subst (λ (t : ℚ). t <ℚ y) h k))))
      (λ same. absurd (not_both_ℚ x y (subst (λ (t : ℚ). t <ℚ y) h k) (≤ℚ_of_same _ _ (sym same))))
  merged-leaves (leaves x xs h) (leaves y ys k) = merged_from-cases (λ (l : List ℚ). Leaves time true l (merged xs ys)) x (merged xs) y ys
      (λ before. absurd (not_both_ℚ x y before (≤ℚ_of_same _ _ (sym k ∙ h))))
      (λ before. absurd (not_both_ℚ y x before (≤ℚ_of_same _ _ (sym h ∙ k))))
      (λ _. leaves x (merged xs ys) h)

  left_first : {l later : List ℚ} → Leaves time true l later → l ≡ time ∷ later
  left_first (leaves x xs h) = ap (λ (z : ℚ). z ∷ xs) (sym h)

  -- ---- of a curve, by its first time
  is_first : Option ℚ → Bool
  is_first None = false
  is_first (Some x) = not (lt_ℚ time x)

  first_is : (x : ℚ) → x ≡ time → is_first (Some x) ≡ true
  unfolding is_first
  first_is x e = ⊎_elim
      (λ (w : (lt_ℚ time x ≡ true) × (time <ℚ x)). absurd (not_both_ℚ time x w.1 (≤ℚ_of_same _ _ e)))
      (λ (w : (lt_ℚ time x ≡ false) × (x ≤ℚ time)). ap not w.0)
      (lt_ℚ_cases time x)

  module _ (now : ℚ) (points : List Point) (r : TimesRise points) (after : now <ℚ time) where
    curve-leaves : (rest : List Point) → points_after now points ≡ rest → IfSome (head_of rest) (λ x. time ≤ℚ x)
        → Leaves time (is_first (head_of rest)) (times_of rest) (times_of (points_after time points))
    unfolding is_first
    curve-leaves [] e h = subst (λ (l : List Point). Leaves time false [] (times_of l)) (sym (points_after-none now time points e (≤ℚ_of_lt _ _ after))) none
    curve-leaves (p ∷ rest) e h =
        let s = points_after-steps now points p rest r e in
        ⊎_elim
        (λ (w : (lt_ℚ time p.0 ≡ true) × (time <ℚ p.0)). subst (λ (b : Bool). Leaves time (not b) (p.0 ∷ times_of rest) (times_of (points_after time points))) (sym w.0)
        (subst (λ (l : List Point). Leaves time false (p.0 ∷ times_of rest) (times_of l)) (sym (s.stays time (≤ℚ_of_lt _ _ after) w.1)) (waits p.0 (times_of rest) w.1)))
        (λ (w : (lt_ℚ time p.0 ≡ false) × (p.0 ≤ℚ time)). subst (λ (b : Bool). Leaves time (not b) (p.0 ∷ times_of rest) (times_of (points_after time points))) (sym w.0)
        (subst (λ (l : List Point). Leaves time true (p.0 ∷ times_of rest) (times_of l)) (sym (ap (λ (t : ℚ). points_after t points) (≤ℚ_antisymm time p.0 h w.1) ∙ s.next))
        (leaves p.0 (times_of rest) (≤ℚ_antisymm time p.0 h w.1))))
        (lt_ℚ_cases time p.0)

-- ---- the earliest of three times
one_of_two : (s t : Option ℚ) (time : ℚ) → earlier_of s t ≡ Some time → (s ≡ Some time) ⊎ (t ≡ Some time)
one_of_two None None time e = absurd (cc)
one_of_two (Some x) None time e = inl e
one_of_two None (Some y) time e = inr e
one_of_two (Some x) (Some y) time e = ⊎_elim
    (λ (w : (lt_ℚ y x ≡ true) × (y <ℚ x)). inr (ap (λ (z : ℚ). Some z) (sym (min_is_right x y (≤ℚ_of_lt _ _ w.1))) ∙ e))
    (λ (w : (lt_ℚ y x ≡ false) × (x ≤ℚ y)). inl (ap (λ (z : ℚ). Some z) (sym (min_is_left x y w.1)) ∙ e))
    (lt_ℚ_cases y x)

two_ended : (s t : Option ℚ) → earlier_of s t ≡ None → (s ≡ None) × (t ≡ None)
two_ended None None e = (refl, refl)
two_ended (Some x) None e = absurd (cc)
two_ended None (Some y) e = absurd (cc)
two_ended (Some x) (Some y) e = absurd (cc)

-- the earlier of two is no later than a time that comes before neither
from_earlier : (s t : Option ℚ) (time : ℚ) → IfSome (earlier_of s t) (λ x. time ≤ℚ x) → IfSome s (λ x. time ≤ℚ x) × IfSome t (λ x. time ≤ℚ x)
from_earlier None None time h = (tt, tt)
from_earlier (Some x) None time h = (h, tt)
from_earlier None (Some y) time h = (tt, h)
from_earlier (Some x) (Some y) time h = (≤ℚ_trans _ _ _ h (earlier-left (Some x) (Some y) (min_ℚ x y) refl), ≤ℚ_trans _ _ _ h (earlier-right (Some x) (Some y) (min_ℚ x y) refl))

head_none : (rest : List Point) → head_of rest ≡ None → rest ≡ []
head_none [] e = refl
head_none (p ∷ rest) e = absurd (cc)

-- ---- the times of three curves after a time
module _ (taken exits labels : List Point) (c : TimesRise taken) (d : TimesRise exits) (e : TimesRise labels) (now : ℚ) where
  abbrev first_of : List Point → Option ℚ
  first_of points = head_of (points_after now points)

  pub three-end : earlier_of (earlier_of (first_of taken) (first_of exits)) (first_of labels) ≡ None → three_after now taken exits labels ≡ []
  three-end h =
      let w = two_ended (earlier_of (first_of taken) (first_of exits)) (first_of labels) h in
      let v = two_ended (first_of taken) (first_of exits) w.0 in
      ap (λ (l : List Point). merged (merged (times_of l) (times_of (points_after now exits))) (times_of (points_after now labels))) (head_none (points_after now taken) v.0)
      ∙ ap (λ (l : List Point). merged (times_of l) (times_of (points_after now labels))) (head_none (points_after now exits) v.1)
      ∙ ap times_of (head_none (points_after now labels) w.1)

  -- the earliest of the three comes next
  pub record Next (time : ℚ) : Type 0 where
    pub later : now <ℚ time
    pub times : three_after now taken exits labels ≡ time ∷ three_after time taken exits labels
    pub taken_at : IfSome (first_of taken) (λ x. time ≤ℚ x)
    pub exits_at : IfSome (first_of exits) (λ x. time ≤ℚ x)
    pub labels_at : IfSome (first_of labels) (λ x. time ≤ℚ x)

  module _ (time : ℚ) (h : earlier_of (earlier_of (first_of taken) (first_of exits)) (first_of labels) ≡ Some time) where
    at_two : IfSome (earlier_of (first_of taken) (first_of exits)) (λ x. time ≤ℚ x)
    at_two = earlier-left (earlier_of (first_of taken) (first_of exits)) (first_of labels) time h

    at_labels : IfSome (first_of labels) (λ x. time ≤ℚ x)
    at_labels = earlier-right (earlier_of (first_of taken) (first_of exits)) (first_of labels) time h

    at_each : IfSome (first_of taken) (λ x. time ≤ℚ x) × IfSome (first_of exits) (λ x. time ≤ℚ x)
    at_each = from_earlier (first_of taken) (first_of exits) time at_two

    one_of_three : (first_of taken ≡ Some time) ⊎ ((first_of exits ≡ Some time) ⊎ (first_of labels ≡ Some time))
    one_of_three = ⊎_elim
        (λ (w : earlier_of (first_of taken) (first_of exits) ≡ Some time). ⊎_elim (λ (v : first_of taken ≡ Some time). inl v)
        (λ (v : first_of exits ≡ Some time). inr (inl v)) (one_of_two (first_of taken) (first_of exits) time w))
        (λ (w : first_of labels ≡ Some time). inr (inr w))
        (one_of_two (earlier_of (first_of taken) (first_of exits)) (first_of labels) time h)

    by_curve : (points rest : List Point) → TimesRise points → points_after now points ≡ rest → head_of rest ≡ Some time → now <ℚ time
    by_curve points [] r f g = absurd (cc)
    by_curve points (p ∷ rest) r f g = subst (λ (t : ℚ). now <ℚ t) (same_Some _ _ g) (points_after-steps now points p rest r f).after

    is_later : now <ℚ time
    is_later = ⊎_elim
        (λ (w : first_of taken ≡ Some time). by_curve taken (points_after now taken) c refl w)
        (λ (w : (first_of exits ≡ Some time) ⊎ (first_of labels ≡ Some time)). ⊎_elim
        (λ (v : first_of exits ≡ Some time). by_curve exits (points_after now exits) d refl v)
        (λ (v : first_of labels ≡ Some time). by_curve labels (points_after now labels) e refl v) w)
        one_of_three

    found : (o : Option ℚ) → o ≡ Some time → is_first time o ≡ true
    found o g = ap (is_first time) g ∙ first_is time time refl

    one_leaves : (is_first time (first_of taken) || is_first time (first_of exits)) || is_first time (first_of labels) ≡ true
    one_leaves = ⊎_elim
        (λ (w : first_of taken ≡ Some time). ap (λ (b : Bool). (b || is_first time (first_of exits)) || is_first time (first_of labels)) (found (first_of taken) w))
        (λ (w : (first_of exits ≡ Some time) ⊎ (first_of labels ≡ Some time)). ⊎_elim
        (λ (v : first_of exits ≡ Some time). ap (λ (b : Bool). (is_first time (first_of taken) || b) || is_first time (first_of labels))
        (found (first_of exits) v) ∙ ap (λ (b : Bool). b || is_first time (first_of labels)) (or_true (is_first time (first_of taken))))
        (λ (v : first_of labels ≡ Some time). ap (λ (b : Bool). (is_first time (first_of taken) || is_first time (first_of exits)) || b)
        (found (first_of labels) v) ∙ or_true (is_first time (first_of taken) || is_first time (first_of exits)))
        w)
        one_of_three
      where
        or_true : (b : Bool) → b || true ≡ true
        or_true true = refl
        or_true false = refl

    all_leave : Leaves time ((is_first time (first_of taken) || is_first time (first_of exits)) || is_first time (first_of labels))
        (three_after now taken exits labels) (three_after time taken exits labels)
    all_leave = merged-leaves time
        (merged-leaves time (curve-leaves time now taken c is_later (points_after now taken) refl at_each.0) (curve-leaves time now exits d is_later (points_after now exits) refl at_each.1))
        (curve-leaves time now labels e is_later (points_after now labels) refl at_labels)

    pub three-goes : Next time
    three-goes = record {
      later = is_later;
      times = left_first time
          (subst (λ (b : Bool). Leaves time b (three_after now taken exits labels) (three_after time taken exits labels)) one_leaves all_leave);
      taken_at = at_each.0;
      exits_at = at_each.1;
      labels_at = at_labels;
    }

-- ---- the first of all times is 0
pub three-begin : (taken exits labels : List Point) → IsCurve taken → IsCurve exits → IsCurve labels → three_times taken exits labels ≡ 0ℚ ∷ three_after 0ℚ taken exits labels
three-begin taken exits labels c d e = left_first 0ℚ
    (merged-leaves 0ℚ (merged-leaves 0ℚ (starts taken c) (starts exits d)) (starts labels e))
  where
    starts : (points : List Point) → IsCurve points → Leaves 0ℚ true (times_of points) (times_of (points_after 0ℚ points))
    starts [] c = absurd c
    starts (p ∷ rest) c = subst (λ (l : List Point). Leaves 0ℚ true (p.0 ∷ times_of rest) (times_of l))
        (sym (ap (λ (t : ℚ). points_after t (p ∷ rest)) (sym c.0) ∙ points_after-first p rest c.1)) (leaves p.0 (times_of rest) (sym c.0))

-- ---- the next time, by the point counts of a departure
module _ (sent : Sent) (curves : AreSentCurves sent) (places : Places) (now : ℚ) (there : ArePlaces sent now places) where
  abbrev NextOf : ℚ → Type 0
  NextOf time =
      Next sent.taken.points sent.exits.points sent.labels.points (curve-rises sent.taken.points curves.taken) (curve-rises sent.exits.points curves.exits)
      (curve-rises sent.labels.points curves.labels) now time

  at_place : (points : List Point) (k : ℕ) → k ≡ count_until now points → option_map (λ (p : Point). p.0) (slice_get points k) ≡ head_of (points_after now points)
  at_place points k e = ap (λ (n : ℕ). option_map (λ (p : Point). p.0) (slice_get points n)) e ∙ place-head now points

  first_is_earliest : first_time sent places ≡ earlier_of (earlier_of (head_of (points_after now sent.taken.points)) (head_of (points_after now sent.exits.points)))
      (head_of (points_after now sent.labels.points))
  first_is_earliest =
      let all : Option ℚ → Option ℚ → Option ℚ → Option ℚ = λ s t u. earlier_of (earlier_of s t) u in
      ap (λ (o : Option ℚ). all o (option_map (λ (p : Point). p.0) (slice_get sent.exits.points places.exits))
      (option_map (λ (p : Point). p.0) (slice_get sent.labels.points places.labels))) (at_place sent.taken.points places.taken there.taken)
      ∙ ap (λ (o : Option ℚ). all (head_of (points_after now sent.taken.points)) o (option_map (λ (p : Point). p.0) (slice_get sent.labels.points places.labels)))
      (at_place sent.exits.points places.exits there.exits)
      ∙ ap (λ (o : Option ℚ). all (head_of (points_after now sent.taken.points)) (head_of (points_after now sent.exits.points)) o) (at_place sent.labels.points places.labels there.labels)

  pub none_next : first_time sent places ≡ None → three_after now sent.taken.points sent.exits.points sent.labels.points ≡ []
  none_next e =
      three-end sent.taken.points sent.exits.points sent.labels.points (curve-rises sent.taken.points curves.taken)
      (curve-rises sent.exits.points curves.exits) (curve-rises sent.labels.points curves.labels) now (sym first_is_earliest ∙ e)

  pub some_next : (time : ℚ) → first_time sent places ≡ Some time → NextOf time
  some_next time e =
      three-goes sent.taken.points sent.exits.points sent.labels.points (curve-rises sent.taken.points curves.taken)
      (curve-rises sent.exits.points curves.exits) (curve-rises sent.labels.points curves.labels) now time (sym first_is_earliest ∙ e)

  -- what moving on to the next time asks of each curve
  pub next_from : (time : ℚ) (points : List Point) (k : ℕ) → k ≡ count_until now points → now <ℚ time → k ≤ count_until time points
  next_from time points k e h = let w = place-rises now time points (≤ℚ_of_lt _ _ h) in omega arith

  pub next_there : (time : ℚ) (points : List Point) (k : ℕ) → k ≡ count_until now points → IfSome (head_of (points_after now points)) (λ x. time ≤ℚ x)
      → IfSome (slice_get points k) (λ p. time ≤ℚ p.0)
  next_there time points k e h = time-first points k (head_of (points_after now points)) time (sym (at_place points k e)) h

-- ---- each step leaves fewer times
pub fewer_after : (times rest : List ℚ) (next : ℚ) → times ≡ next ∷ rest → length rest < length times
fewer_after times rest next e = rw e (omega arith)
