-- Extending outflow and queue curves over a phase by one point each extends the description.
use Rattle.std.proofs.Common.{◌≡◌, ℕ, List, [], ◌∷◌, ⊎_elim, sym, ap, subst, refl, ◌∙◌}
use Rattle.nf_phase_laws.proofs.Common.{ℚ, 0ℚ, ◌+ℚ◌, ◌-ℚ◌, ◌*ℚ◌, ◌≤ℚ◌, ◌<ℚ◌, reading_of, ≤ℚ_of_lt, ≤ℚ_antisymm, lt_or_le_ℚ, le, lt, eq, eq_times, linear_le}
use Rattle.nf_phase_laws.proofs.Common.{linear_eq, Point, Within, value, Link, Network, IsNetwork, IsLink, IsQueue, IsAffine, EndsAt-value, IsQueue-unique}
use Rattle.nf_phase_laws.proofs.Common.{link_slack, queue_by_slack, HoldsUpTo, GoesOn, DescribesLinks, DescriptionGoesOn, LastPoint, GoesOnTo, at}
use Rattle.nf_phase_laws.proofs.Common.{DescriptionStands, DescriptionCurvesGoOn, ≤ℚ_refl, same_slacks}
use Rattle.nf_phase_laws.proofs.CurveSteps.{ends_at, GoesOnTo-slope, LastPoint-at}

-- ---- an extended curve while time increases: from a on for l d, to the value z
module _ (points points' : List Point) (a z l d : ℚ) (not_back : 0ℚ ≤ℚ l) (stand : LastPoint points (a, value points a))
    (go : 0ℚ <ℚ l → GoesOnTo points points' (a, value points a) (a +ℚ l *ℚ d, z)) (stay : l ≡ 0ℚ → points' ≡ points) where
  by_slope : (P : List Point → Type 0) → (0ℚ <ℚ l → P points') → (l ≡ 0ℚ → P points) → P points'
  by_slope P f g = ⊎_elim
      (λ (h : 0ℚ <ℚ l). f h)
      (λ (h : l ≤ℚ 0ℚ). let e : l ≡ 0ℚ = ≤ℚ_antisymm _ _ h not_back in subst P (sym (stay e)) (g e))
      (lt_or_le_ℚ 0ℚ l)

  same_before : (t : ℚ) → Within 0ℚ a t → value points' t ≡ value points t
  same_before t w = by_slope (λ ps. value ps t ≡ value points t) (λ h. (go h).before t w) (λ _. refl)

  point_line : (f : ℚ → ℚ) → l ≡ 0ℚ → IsAffine f a (a +ℚ l *ℚ d) 0ℚ
  point_line f e = record { line = λ t h k. ap f (same t h k) ∙ level (f a) t }
    where
      same : (t : ℚ) → a ≤ℚ t → t ≤ℚ a +ℚ l *ℚ d → t ≡ a
      same t h k = linear_eq (a ∷ l ∷ d ∷ t ∷ []) (le h ∷ le k ∷ eq_times d e ∷ []) (search reading_of) tt tt

      level : (y t : ℚ) → y ≡ y +ℚ 0ℚ *ℚ (t -ℚ a)
      level y t = linear_eq (y ∷ t ∷ a ∷ []) [] (search reading_of) tt tt

  some_line : (rate : ℚ) × IsAffine (value points') a (a +ℚ l *ℚ d) rate
  some_line = by_slope (λ ps. (rate : ℚ) × IsAffine (value ps) a (a +ℚ l *ℚ d) rate) (λ h. (_, (go h).line)) (λ e. (0ℚ, point_line (value points) e))

  no_rate : (x : ℚ) → x ≡ 0ℚ → 0ℚ *ℚ l ≡ x
  no_rate x e = linear_eq (l ∷ x ∷ []) (eq e ∷ []) (search reading_of) tt tt

  flow_line : (x : ℚ) → 0ℚ <ℚ d → z ≡ value points a +ℚ x *ℚ d → (l ≡ 0ℚ → x ≡ 0ℚ) → (rate : ℚ) × (rate *ℚ l ≡ x) × IsAffine (value points') a (a +ℚ l *ℚ d) rate
  flow_line x h e none = by_slope (λ ps. (rate : ℚ) × (rate *ℚ l ≡ x) × IsAffine (value ps) a (a +ℚ l *ℚ d) rate)
      (λ k. let g : GoesOnTo points points' (a, value points a) (a +ℚ l *ℚ d, value points a +ℚ x *ℚ d) =
      subst (λ (y : ℚ). GoesOnTo points points' (a, value points a) (a +ℚ l *ℚ d, y)) e (go k) in
      (_, GoesOnTo-slope points points' a (value points a) l x d h g, g.line))
      (λ k. (0ℚ, no_rate x (none k), point_line (value points) k))

  stays_there : l ≡ 0ℚ → a ≡ a +ℚ l *ℚ d
  stays_there e = linear_eq (a ∷ l ∷ d ∷ []) (eq_times d e ∷ []) (search reading_of) tt tt

  new_last : LastPoint points' (a +ℚ l *ℚ d, value points' (a +ℚ l *ℚ d))
  new_last = by_slope (λ ps. LastPoint ps (a +ℚ l *ℚ d, value ps (a +ℚ l *ℚ d)))
      (λ h. LastPoint-at points' _ (a +ℚ l *ℚ d) (go h).ends refl)
      (λ e. LastPoint-at points _ (a +ℚ l *ℚ d) stand (stays_there e))

  end_value : (l ≡ 0ℚ → value points a ≡ z) → value points' (a +ℚ l *ℚ d) ≡ z
  end_value none = by_slope (λ ps. value ps (a +ℚ l *ℚ d) ≡ z)
      (λ h. EndsAt-value points' _ (a +ℚ l *ℚ d) (ends_at points' _ (go h).ends) (≤ℚ_refl _))
      (λ e. ap (value points) (sym (stays_there e)) ∙ none e)

module _ (net : Network) (amount label amount' label' : ℕ → ℚ → ℚ) (until length : ℚ) (flow slope : ℕ → ℚ) (outflows queues outflows' queues' : ℕ → List Point) (good : IsNetwork net)
    (some : 0ℚ <ℚ length) (rises : (v : ℕ) → 0ℚ ≤ℚ slope v) (no_flow : (e : ℕ) (link : Link) → IsLink net e link → slope link.head ≡ 0ℚ → flow e ≡ 0ℚ)
    (holds : HoldsUpTo net amount label until) (holds' : HoldsUpTo net amount' label' (until +ℚ length))
    (goes : GoesOn net amount label until length flow slope amount' label')
    (describes : DescribesLinks net amount label (at outflows) (at queues) until) (stand : DescriptionStands net label outflows queues until)
    (go : DescriptionCurvesGoOn net label label' outflows queues until length flow slope outflows' queues') where
  now : Within 0ℚ until until
  now = (holds.begun, ≤ℚ_refl until)

  now' : Within 0ℚ (until +ℚ length) until
  now' = (holds.begun, linear_le (until ∷ length ∷ []) (lt some ∷ []) (search reading_of) tt)

  last : Within 0ℚ (until +ℚ length) (until +ℚ length)
  last = (linear_le (until ∷ length ∷ []) (lt some ∷ le holds.begun ∷ []) (search reading_of) tt, ≤ℚ_refl _)

  whole : Within 0ℚ length length
  whole = (≤ℚ_of_lt _ _ some, ≤ℚ_refl length)

  same_end : (a l y : ℚ) → y ≡ a +ℚ l *ℚ length → l ≡ 0ℚ → y ≡ a
  same_end a l y e f = linear_eq (a ∷ l ∷ y ∷ length ∷ []) (eq e ∷ eq_times length f ∷ []) (search reading_of) tt tt

  -- If the tail's label is constant, the queue is constant.
  queue_still : (e : ℕ) (link : Link) → IsLink net e link → slope link.tail ≡ 0ℚ
      → at queues e (label link.tail until) ≡ queue_by_slack link.capacity (link_slack label' link (until +ℚ length))
  queue_still e link p z =
      let tail_same : label' link.tail until ≡ label link.tail until = goes.label_before link.tail until (good.tails e link p) now in
      let slack_same : link_slack label' link until ≡ link_slack label link until =
      same_slacks _ _ _ _ link.transit (goes.label_before link.head until (good.heads e link p) now) tail_same in
      let at_end : label' link.tail (until +ℚ length) ≡ label link.tail until = same_end _ (slope link.tail) _ (goes.label_after link.tail length (good.tails e link p) whole) z in
      describes.queues e link until p now ∙ ap (queue_by_slack link.capacity) (sym slack_same)
      ∙ IsQueue-unique link.capacity (amount' e) (label link.tail until) _ _
      (subst (λ (t : ℚ). IsQueue link.capacity (amount' e) t (queue_by_slack link.capacity (link_slack label' link until))) tail_same (holds'.queue e link until p now'))
      (subst (λ (t : ℚ). IsQueue link.capacity (amount' e) t (queue_by_slack link.capacity (link_slack label' link (until +ℚ length)))) at_end
      (holds'.queue e link (until +ℚ length) p last))

  pub DescriptionGoesOn-curves : DescriptionGoesOn net label until length flow slope label' (at outflows) (at queues) (at outflows') (at queues')
  DescriptionGoesOn-curves = record {
    outflow_before = λ e link t p w. same_before (outflows e) (outflows' e) (label link.head until) _ (slope link.head) length (rises link.head)
        (stand.outflows_end e link p) (go.outflows_go e link p) (go.outflows_stay e link p) t w;
    outflow_after = λ e link p. flow_line (outflows e) (outflows' e) (label link.head until) _ (slope link.head) length (rises link.head)
        (stand.outflows_end e link p) (go.outflows_go e link p) (go.outflows_stay e link p) (flow e) some refl (no_flow e link p);
    queue_before = λ e link t p w. same_before (queues e) (queues' e) (label link.tail until) _ (slope link.tail) length (rises link.tail)
        (stand.queues_end e link p) (go.queues_go e link p) (go.queues_stay e link p) t w;
    queue_after = λ e link p. some_line (queues e) (queues' e) (label link.tail until) _ (slope link.tail) length (rises link.tail)
        (stand.queues_end e link p) (go.queues_go e link p) (go.queues_stay e link p);
    queue_end = λ e link p. end_value (queues e) (queues' e) (label link.tail until) _ (slope link.tail) length (rises link.tail)
        (stand.queues_end e link p) (go.queues_go e link p) (go.queues_stay e link p) (queue_still e link p);
  }

  pub DescriptionStands-after : DescriptionStands net label' outflows' queues' (until +ℚ length)
  DescriptionStands-after = record {
    outflows_end = λ e link p. subst (λ (z : ℚ). LastPoint (outflows' e) (z, at outflows' e z)) (sym (goes.label_after link.head length (good.heads e link p) whole))
        (new_last (outflows e) (outflows' e) (label link.head until) _ (slope link.head) length (rises link.head) (stand.outflows_end e link p)
        (go.outflows_go e link p) (go.outflows_stay e link p));
    queues_end = λ e link p. subst (λ (z : ℚ). LastPoint (queues' e) (z, at queues' e z)) (sym (goes.label_after link.tail length (good.tails e link p) whole))
        (new_last (queues e) (queues' e) (label link.tail until) _ (slope link.tail) length (rises link.tail) (stand.queues_end e link p)
        (go.queues_go e link p) (go.queues_stay e link p));
  }
