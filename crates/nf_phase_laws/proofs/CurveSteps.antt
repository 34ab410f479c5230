-- Extending the curves over a phase by one point each extends the flow.
use Rattle.std.proofs.Common.{◌≡◌, ℕ, ◌<◌, List, [], ◌∷◌, ◌++◌, ⊎_elim, sym, ap, subst, refl, ◌∙◌, append_assoc}
use Rattle.nf_phase_laws.proofs.Common.{ℚ, 0ℚ, ◌+ℚ◌, ◌-ℚ◌, ◌*ℚ◌, ◌≤ℚ◌, ◌<ℚ◌, reading_of, ≤ℚ_of_same, ≤ℚ_of_lt, ≤ℚ_antisymm, lt_or_le_ℚ, le, eq, eq_times}
use Rattle.nf_phase_laws.proofs.Common.{linear_le, linear_eq, Point, Within, value, slope, Link, Network, IsNetwork, IsLink, IsAffine, same_from_times}
use Rattle.nf_phase_laws.proofs.Common.{EndsAt, EndsAt-nn, EndsAt-value, EndsAt-push, EndsAt-push_line, EndsAt-push_before, slope-times, GoesOn, LastPoint}
use Rattle.nf_phase_laws.proofs.Common.{GoesOnTo, at, CurvesStand, CurvesGoOn, ≤ℚ_refl, ≤ℚ_trans}
use Rattle.nf_model_laws.proofs.Merged.{value-push_or_merge, EndsAt-merged}

pub ends_at : (points : List Point) (p : Point) → LastPoint points p → EndsAt points p
ends_at points p l = record { front = l.front; same = l.same; curve = l.curve }

last_point : (points : List Point) (p : Point) → EndsAt points p → LastPoint points p
last_point points p e = record { front = e.front; same = e.same; curve = e.curve }

-- The last point of a curve gives its value at that time.
pub LastPoint-at : (points : List Point) (q : Point) (z : ℚ) → LastPoint points q → q.0 ≡ z → LastPoint points (z, value points z)
LastPoint-at points q z l d =
    subst (λ (r : Point). LastPoint points r) (same_point q.0 q.1 z (value points z) d
    (sym (EndsAt-value points q z (ends_at points q l) (≤ℚ_of_same _ _ d)))) l
  where
    same_point : (a y b z : ℚ) → a ≡ b → y ≡ z → ◌≡◌ {A = ℚ × ℚ} (a, y) (b, z)
    same_point a y b z e f = cc

-- ---- an appended point
pub GoesOnTo-appended : (points : List Point) (last new : Point) → LastPoint points last → last.0 <ℚ new.0 → GoesOnTo points (points ++ new ∷ []) last new
GoesOnTo-appended points p q l h = record {
  later = h;
  before = λ t w. EndsAt-push_before points p q t e h w.0 w.1;
  line = record { line = λ t i k. EndsAt-push_line points p q t e h i k ∙ ap (λ (y : ℚ). y +ℚ slope p q *ℚ (t -ℚ p.0)) (sym start) };
  ends = last_point (points ++ q ∷ []) q (EndsAt-push points p q e h);
}
  where
    e : EndsAt points p
    e = ends_at points p l

    start : value (points ++ q ∷ []) p.0 ≡ p.1
    start = EndsAt-push_before points p q p.0 e h (EndsAt-nn points p e) (≤ℚ_refl p.0) ∙ EndsAt-value points p p.0 e (≤ℚ_refl p.0)

-- ---- a point that replaces the last one
pub GoesOnTo-replaced : (front : List Point) (before last new : Point) → LastPoint (front ++ before ∷ last ∷ []) last → last.0 <ℚ new.0 → slope before last ≡ slope last new
    → GoesOnTo (front ++ before ∷ last ∷ []) (front ++ before ∷ new ∷ []) last new
GoesOnTo-replaced front o p q l h e = record {
  later = h;
  before = λ t w. sym (same t w.0) ∙ appended.before t w;
  line = record { line = λ t i k. sym (same t (≤ℚ_trans _ _ _ from_0 i)) ∙ appended.line.line t i k ∙ ap (λ (y : ℚ). y +ℚ slope p q *ℚ (t -ℚ p.0)) (same p.0 from_0) };
  ends = last_point (front ++ o ∷ q ∷ []) q (EndsAt-merged front o p q (subst (λ (points : List Point). EndsAt points q) (append_assoc front (o ∷ p ∷ []) (q ∷ []))
      (ends_at ((front ++ o ∷ p ∷ []) ++ q ∷ []) q appended.ends)));
}
  where
    appended : GoesOnTo (front ++ o ∷ p ∷ []) ((front ++ o ∷ p ∷ []) ++ q ∷ []) p q
    appended = GoesOnTo-appended (front ++ o ∷ p ∷ []) p q l h

    from_0 : 0ℚ ≤ℚ p.0
    from_0 = EndsAt-nn (front ++ o ∷ p ∷ []) p (ends_at (front ++ o ∷ p ∷ []) p l)

    same : (t : ℚ) → 0ℚ ≤ℚ t → value ((front ++ o ∷ p ∷ []) ++ q ∷ []) t ≡ value (front ++ o ∷ q ∷ []) t
    same t i = value-push_or_merge front o p q t appended.ends.curve e i

-- ---- the facts that an extension gives: from (a, y) on for the length d, by l in time and by x in value
pub GoesOnTo-slope : (points points' : List Point) (a y l x d : ℚ) → 0ℚ <ℚ d → GoesOnTo points points' (a, y) (a +ℚ l *ℚ d, y +ℚ x *ℚ d)
    → slope (a, y) (a +ℚ l *ℚ d, y +ℚ x *ℚ d) *ℚ l ≡ x
GoesOnTo-slope points points' a y l x d h g = same_from_times d _ x h (by_length (slope (a, y) (a +ℚ l *ℚ d, y +ℚ x *ℚ d)) (slope-times (a, y) (a +ℚ l *ℚ d, y +ℚ x *ℚ d) g.later))
  where
    by_length : (n : ℚ) → n *ℚ ((a +ℚ l *ℚ d) -ℚ a) ≡ (y +ℚ x *ℚ d) -ℚ y → d *ℚ (n *ℚ l) ≡ d *ℚ x
    by_length n e = linear_eq (n ∷ a ∷ l ∷ d ∷ y ∷ x ∷ []) (eq e ∷ []) (search reading_of) tt tt

module _ (net : Network) (inflows labels : ℕ → List Point) (until length : ℚ) (flow slope : ℕ → ℚ) (inflows' labels' : ℕ → List Point) (good : IsNetwork net)
    (some : 0ℚ <ℚ length) (rises : (v : ℕ) → 0ℚ ≤ℚ slope v) (no_flow : (e : ℕ) (link : Link) → IsLink net e link → slope link.tail ≡ 0ℚ → flow e ≡ 0ℚ)
    (stand : CurvesStand net inflows labels until) (go : CurvesGoOn net inflows labels until length flow slope inflows' labels') where
  -- ---- labels
  label_before : (v : ℕ) (time : ℚ) → v < net.nodes → Within 0ℚ until time → at labels' v time ≡ at labels v time
  label_before v time h w = (go.labels_go v h).before time w

  until_nn : (v : ℕ) → v < net.nodes → 0ℚ ≤ℚ until
  until_nn v h = EndsAt-nn (labels v) (until, at labels v until) (ends_at (labels v) (until, at labels v until) (stand.labels_end v h))

  label_slope : (a y x d n : ℚ) → 0ℚ <ℚ d → n *ℚ ((a +ℚ d) -ℚ a) ≡ (y +ℚ x *ℚ d) -ℚ y → n ≡ x
  label_slope a y x d n h e = same_from_times d n x h (linear_eq (a ∷ y ∷ x ∷ d ∷ n ∷ []) (eq e ∷ []) (search reading_of) tt tt)

  on_line : (f v y n x a t : ℚ) → f ≡ v +ℚ n *ℚ ((a +ℚ t) -ℚ a) → v ≡ y → n ≡ x → f ≡ y +ℚ x *ℚ t
  on_line f v y n x a t e i g = linear_eq (f ∷ v ∷ y ∷ n ∷ x ∷ a ∷ t ∷ []) (eq e ∷ eq i ∷ eq_times t g ∷ []) (search reading_of) tt tt

  label_after : (v : ℕ) (t : ℚ) → v < net.nodes → Within 0ℚ length t → at labels' v (until +ℚ t) ≡ at labels v until +ℚ slope v *ℚ t
  label_after v t h w =
      let g : GoesOnTo (labels v) (labels' v) (until, at labels v until) (until +ℚ length, at labels v until +ℚ slope v *ℚ length) = go.labels_go v h in
      on_line _ (at labels' v until) (at labels v until) _ (slope v) until t
      (g.line.line (until +ℚ t) (linear_le (until ∷ t ∷ []) (le w.0 ∷ []) (search reading_of) tt) (linear_le (until ∷ t ∷ length ∷ []) (le w.1 ∷ []) (search reading_of) tt))
      (label_before v until h (until_nn v h, ≤ℚ_refl until))
      (label_slope until (at labels v until) (slope v) length _ some (slope-times (until, at labels v until) (until +ℚ length, at labels v until +ℚ slope v *ℚ length) g.later))

  -- ---- inflows: the tail's label rises, or is constant
  by_tail : (e : ℕ) (link : Link) (P : List Point → Type 0) → IsLink net e link
      → (0ℚ <ℚ slope link.tail → P (inflows' e)) → (slope link.tail ≡ 0ℚ → P (inflows e)) → P (inflows' e)
  by_tail e link P p f g = ⊎_elim
      (λ (h : 0ℚ <ℚ slope link.tail). f h)
      (λ (h : slope link.tail ≤ℚ 0ℚ). let z : slope link.tail ≡ 0ℚ = ≤ℚ_antisymm _ _ h (rises link.tail) in subst P (sym (go.inflows_stay e link p z)) (g z))
      (lt_or_le_ℚ 0ℚ (slope link.tail))

  abbrev start : Link → ℚ
  start link = at labels link.tail until

  abbrev end : Link → ℚ
  end link = start link +ℚ slope link.tail *ℚ length

  stands_at : (e : ℕ) (link : Link) → IsLink net e link → EndsAt (inflows e) (start link, at inflows e (start link))
  stands_at e link p = ends_at (inflows e) (start link, at inflows e (start link)) (stand.inflows_end e link p)

  amount_before : (e : ℕ) (link : Link) (time : ℚ) → IsLink net e link → Within 0ℚ (start link) time → at inflows' e time ≡ at inflows e time
  amount_before e link time p w = by_tail e link (λ points. value points time ≡ value (inflows e) time) p (λ h. (go.inflows_go e link p h).before time w) (λ _. refl)

  no_rate : (l x : ℚ) → x ≡ 0ℚ → 0ℚ *ℚ l ≡ x
  no_rate l x e = linear_eq (l ∷ x ∷ []) (eq e ∷ []) (search reading_of) tt tt

  point_line : (f : ℚ → ℚ) (a l : ℚ) → l ≡ 0ℚ → IsAffine f a (a +ℚ l *ℚ length) 0ℚ
  point_line f a l e = record { line = λ t h k. ap f (same t h k) ∙ level (f a) t }
    where
      same : (t : ℚ) → a ≤ℚ t → t ≤ℚ a +ℚ l *ℚ length → t ≡ a
      same t h k = linear_eq (a ∷ l ∷ length ∷ t ∷ []) (le h ∷ le k ∷ eq_times length e ∷ []) (search reading_of) tt tt

      level : (y t : ℚ) → y ≡ y +ℚ 0ℚ *ℚ (t -ℚ a)
      level y t = linear_eq (y ∷ t ∷ a ∷ []) [] (search reading_of) tt tt

  amount_after : (e : ℕ) (link : Link) → IsLink net e link → (rate : ℚ) × (rate *ℚ slope link.tail ≡ flow e) × IsAffine (at inflows' e) (start link) (end link) rate
  amount_after e link p = by_tail e link (λ points. (rate : ℚ) × (rate *ℚ slope link.tail ≡ flow e) × IsAffine (value points) (start link) (end link) rate) p
      (λ h. let g : GoesOnTo (inflows e) (inflows' e) (start link, at inflows e (start link)) (end link, at inflows e (start link) +ℚ flow e *ℚ length) = go.inflows_go e link p h in
      (_, GoesOnTo-slope (inflows e) (inflows' e) (start link) (at inflows e (start link)) (slope link.tail) (flow e) length some g, g.line))
      (λ z. (0ℚ, no_rate _ _ (no_flow e link p z), point_line (value (inflows e)) (start link) (slope link.tail) z))

  past : (l : ℚ) (a : ℚ) → l ≡ 0ℚ → a ≤ℚ a +ℚ l *ℚ length
  past l a e = linear_le (l ∷ a ∷ length ∷ []) (eq_times length e ∷ []) (search reading_of) tt

  amount_ends : (e : ℕ) (link : Link) (time : ℚ) → IsLink net e link → end link ≤ℚ time → at inflows' e time ≡ at inflows' e (end link)
  amount_ends e link time p i = by_tail e link (λ points. value points time ≡ value points (end link)) p
      (λ h. let g : EndsAt (inflows' e) (end link, at inflows e (start link) +ℚ flow e *ℚ length) = ends_at _ _ (go.inflows_go e link p h).ends in
      EndsAt-value (inflows' e) _ time g i ∙ sym (EndsAt-value (inflows' e) _ (end link) g (≤ℚ_refl _)))
      (λ z. let n : start link ≤ℚ end link = past (slope link.tail) (start link) z in
      EndsAt-value (inflows e) _ time (stands_at e link p) (≤ℚ_trans _ _ _ n i) ∙ sym (EndsAt-value (inflows e) _ (end link) (stands_at e link p) n))

  pub GoesOn-curves : GoesOn net (at inflows) (at labels) until length flow slope (at inflows') (at labels')
  GoesOn-curves = record { label_before = label_before; label_after = label_after; amount_before = amount_before; amount_after = amount_after; amount_ends = amount_ends }

  -- ---- the ends of the new curves
  stays_there : (a l : ℚ) → l ≡ 0ℚ → a ≡ a +ℚ l *ℚ length
  stays_there a l e = linear_eq (a ∷ l ∷ length ∷ []) (eq_times length e ∷ []) (search reading_of) tt tt

  pub CurvesStand-after : CurvesStand net inflows' labels' (until +ℚ length)
  CurvesStand-after = record {
    labels_end = λ v h. LastPoint-at (labels' v) _ (until +ℚ length) (go.labels_go v h).ends refl;
    inflows_end = λ e link p. subst (λ (z : ℚ). LastPoint (inflows' e) (z, at inflows' e z))
        (sym (label_after link.tail length (good.tails e link p) (≤ℚ_of_lt _ _ some, ≤ℚ_refl length)))
        (by_tail e link (λ points. LastPoint points (end link, value points (end link))) p
        (λ h. LastPoint-at (inflows' e) _ (end link) (go.inflows_go e link p h).ends refl)
        (λ z. LastPoint-at (inflows e) _ (end link) (stand.inflows_end e link p) (stays_there (start link) (slope link.tail) z)));
  }
