-- A thin flow whose slopes keep its sets fits its slopes on each link. So its slopes grow by the cuts.
use Rattle.std.proofs.Common.{◌≡◌, ◌≢◌, ℕ, ◌<◌, List, ◌⊎◌, inl, inr, ⊎_elim, Bool, true, false, Option, Some, None, sym, ap, subst, refl, ◌∙◌}
use Rattle.nf_forever_laws.proofs.Common.{none-some, same_Some, ℚ, 0ℚ, 1ℚ, ◌*ℚ◌, ◌/ℚ◌, ◌≤ℚ◌, ◌<ℚ◌, ≤ℚ_of_same, ≤ℚ_of_lt, lt_or_le_ℚ, not_both_ℚ, nn_times}
use Rattle.nf_forever_laws.proofs.Common.{≤ℚ_trans, ≤_<_trans, number_at, Has, Link, Network, IsNetwork, IsLink, Sets, exit_slope, exit_slope_at, Enters}
use Rattle.nf_forever_laws.proofs.Common.{IsThinFlow, IsPositive-link, none_first, KeepsSets, GrowsByCuts}
use Rattle.nf_rational_laws.proofs.Extremes.{max_left}
use Rattle.nf_model_laws.specs.Capacity.{IsPositive}
use Rattle.nf_thin_laws.specs.ActiveLinks.{HoldNoCycle}
use Rattle.nf_thin_laws.proofs.Flags.{flag, flag-cases}
use Rattle.nf_thin_laws.proofs.LinkLaws.{BoundedLaw, LinkLaw}
use Rattle.nf_thin_laws.proofs.Slopes.{link_law}
use Rattle.nf_complete_laws.specs.Oversupply.{Fits}
use Rattle.nf_forever_laws.proofs.Fitting.{capacity_or_none, GrowsByCuts-fit}

-- ---- a link that is not resetting: x is its flow, and s and t are the slopes of its tail and its head
exit_up : (resets : Bool) (capacity : Option ℚ) (x s t : ℚ) → resets ≡ false → exit_slope resets capacity x s ≡ t → s ≤ℚ t
exit_up resets None x s t e h = ≤ℚ_of_same s t h
exit_up true (Some c) x s t e h = absurd (cc)
exit_up false (Some c) x s t e h = subst (λ (z : ℚ). s ≤ℚ z) h (max_left s (x /ℚ c))

used_up : (resets : Bool) (capacity : Option ℚ) (x s t : ℚ) → resets ≡ false → LinkLaw resets capacity x s t → 0ℚ <ℚ x → s ≤ℚ t
used_up resets None x s t e law some = ≤ℚ_of_same s t (law.used some)
used_up resets (Some c) x s t e law some = (law.used e some).0

-- ---- an active link
carries_at_most : (resets : Bool) (x c s t : ℚ) → 0ℚ <ℚ c → 0ℚ ≤ℚ t → BoundedLaw resets x c s t → x ≤ℚ c *ℚ t
carries_at_most true x c s t h n law = ≤ℚ_of_same _ _ (law.full refl)
carries_at_most false x c s t h n law = ⊎_elim
    (λ (k : 0ℚ <ℚ x). (law.used refl k).1)
    (λ (k : x ≤ℚ 0ℚ). ≤ℚ_trans _ _ _ k (nn_times c t (≤ℚ_of_lt _ _ h) n))
    (lt_or_le_ℚ 0ℚ x)

carries_enough : (resets : Bool) (x c s t : ℚ) → BoundedLaw resets x c s t → s <ℚ t → c *ℚ t ≤ℚ x
carries_enough true x c s t law h = ≤ℚ_of_same _ _ (sym (law.full refl))
carries_enough false x c s t law h = ⊎_elim
    (λ (k : t ≤ℚ s). absurd (not_both_ℚ s t h k))
    (λ (k : c *ℚ t ≤ℚ x). k)
    (law.upper refl)

-- The same, with the capacity as an equation.
pub most_of : (resets : Bool) (capacity : Option ℚ) (x c s t : ℚ) → capacity ≡ Some c → IsPositive capacity → 0ℚ ≤ℚ t → LinkLaw resets capacity x s t → x ≤ℚ c *ℚ t
most_of resets None x c s t e p n law = absurd (none-some c e)
most_of resets (Some d) x c s t e p n law = subst (λ (k : ℚ). x ≤ℚ k *ℚ t) (same_Some d c e) (carries_at_most resets x d s t (p d refl) n law)

enough_of : (resets : Bool) (capacity : Option ℚ) (x c s t : ℚ) → capacity ≡ Some c → LinkLaw resets capacity x s t → s <ℚ t → c *ℚ t ≤ℚ x
enough_of resets None x c s t e law h = absurd (none-some c e)
enough_of resets (Some d) x c s t e law h = subst (λ (k : ℚ). k *ℚ t ≤ℚ x) (same_Some d c e) (carries_enough resets x d s t law h)

never_up : (resets : Bool) (capacity : Option ℚ) (x s t : ℚ) → capacity ≡ None → LinkLaw resets capacity x s t → t ≤ℚ s
never_up resets None x s t e law = law.upper
never_up resets (Some c) x s t e law = absurd (none-some c (sym e))

module _ (net : Network) (sets : Sets) (rate : ℚ) (flows slopes : List ℚ) (good : IsNetwork net) (acyclic : HoldNoCycle net sets)
    (thin : IsThinFlow net sets rate flows slopes) (keeps : KeepsSets net sets slopes) where
  abbrev flow : ℕ → ℚ
  flow = number_at flows

  abbrev slope : ℕ → ℚ
  slope = number_at slopes

  abbrev sink_slope : ℚ
  sink_slope = number_at slopes net.sink

  -- ---- along links
  -- If the exit slope of a link is the slope of its head, the slope of its tail is at most that.
  led_up : (v e : ℕ) (link : Link) → Enters net sets v e link → exit_slope_at sets flows slopes e link ≡ slope v → slope link.tail ≤ℚ slope v
  led_up v e link n r = ⊎_elim
      (λ (w : (flag sets.resetting e ≡ true) × Has sets.resetting e). subst (λ (k : ℕ). slope link.tail ≤ℚ slope k) n.head
      (keeps.resetting e link n.is_link w.1))
      (λ (w : (flag sets.resetting e ≡ false) × (Has sets.resetting e → ⊥)). exit_up (flag sets.resetting e) link.capacity (flow e) (slope link.tail)
      (slope v) w.0 r)
      (flag-cases sets.resetting e)

  law : (e : ℕ) (link : Link) → IsLink net e link → Has sets.active e
      → LinkLaw (flag sets.resetting e) link.capacity (flow e) (slope link.tail) (slope link.head)
  law e link p a = link_law net sets rate good acyclic flows slopes thin e link p a

  -- If a link has flow, the slope of its tail is at most that of its head.
  flow_up : (e : ℕ) (link : Link) → IsLink net e link → 0ℚ <ℚ flow e → slope link.tail ≤ℚ slope link.head
  flow_up e link p some = ⊎_elim
      (λ (a : (flag sets.active e ≡ true) × Has sets.active e). ⊎_elim
      (λ (w : (flag sets.resetting e ≡ true) × Has sets.resetting e). keeps.resetting e link p w.1)
      (λ (w : (flag sets.resetting e ≡ false) × (Has sets.resetting e → ⊥)). used_up (flag sets.resetting e) link.capacity (flow e) (slope link.tail)
      (slope link.head) w.0 (law e link p a.1) some)
      (flag-cases sets.resetting e))
      (λ (a : (flag sets.active e ≡ false) × (Has sets.active e → ⊥)). absurd (not_both_ℚ 0ℚ (flow e) some (≤ℚ_of_same _ _ (thin.active_only e a.1))))
      (flag-cases sets.active e)

  -- A link to a greater slope is active.
  active_up : (e : ℕ) (link : Link) → IsLink net e link → slope link.tail <ℚ slope link.head → Has sets.active e
  active_up e link p up = ⊎_elim
      (λ (a : (flag sets.active e ≡ true) × Has sets.active e). a.1)
      (λ (a : (flag sets.active e ≡ false) × (Has sets.active e → ⊥)). absurd (not_both_ℚ _ _ up (keeps.inactive e link p a.1)))
      (flag-cases sets.active e)

  -- The flow of a bounded link is at most its capacity times the slope of its head.
  at_most : (e : ℕ) (link : Link) (c : ℚ) → IsLink net e link → link.capacity ≡ Some c → flow e ≤ℚ c *ℚ slope link.head
  at_most e link c p some = ⊎_elim
      (λ (a : (flag sets.active e ≡ true) × Has sets.active e). most_of (flag sets.resetting e) link.capacity (flow e) c (slope link.tail)
      (slope link.head) some
      (IsPositive-link net e link good p) (thin.no_negative_slope link.head) (law e link p a.1))
      (λ (a : (flag sets.active e ≡ false) × (Has sets.active e → ⊥)). ≤ℚ_trans _ _ _ (≤ℚ_of_same _ _ (thin.active_only e a.1))
      (nn_times c (slope link.head) (≤ℚ_of_lt _ _ (good.capacities e link c p some)) (thin.no_negative_slope link.head)))
      (flag-cases sets.active e)

  -- A link to a greater slope is bounded and full.
  full_up : (e : ℕ) (link : Link) → IsLink net e link
      → (slope link.head ≤ℚ slope link.tail) ⊎ ((c : ℚ) × (link.capacity ≡ Some c) × (c *ℚ slope link.head ≤ℚ flow e))
  full_up e link p = ⊎_elim
      (λ (up : slope link.tail <ℚ slope link.head).
      let l : LinkLaw (flag sets.resetting e) link.capacity (flow e) (slope link.tail) (slope link.head) = law e link p (active_up e link p up) in
      ⊎_elim
      (λ (k : (c : ℚ) × (link.capacity ≡ Some c)). inr (k.0, k.1, enough_of (flag sets.resetting e) link.capacity (flow e) k.0 _ _ k.1 l up))
      (λ (k : link.capacity ≡ None). inl (never_up (flag sets.resetting e) link.capacity (flow e) _ _ k l))
      (capacity_or_none link.capacity))
      (λ (k : slope link.head ≤ℚ slope link.tail). inl k)
      (lt_or_le_ℚ (slope link.tail) (slope link.head))

  -- ---- no slope is below 1: else active links would lead back from one such node to another without end
  below_1 : (v : ℕ) → v < net.nodes → slope v <ℚ 1ℚ → (e : ℕ) × (link : Link) × Enters net sets v e link × (slope link.tail <ℚ 1ℚ)
  below_1 v h low =
      let t : (e : ℕ) × (link : Link) × Enters net sets v e link × (exit_slope_at sets flows slopes e link ≡ slope v) = thin.taken v h other in
      (t.0, t.1, t.2, ≤_<_trans (slope t.1.tail) (slope v) 1ℚ (led_up v t.0 t.1 t.2 t.3) low)
    where
      other : v ≢ net.source
      other e = not_both_ℚ (slope v) 1ℚ low (≤ℚ_of_same 1ℚ (slope v) (sym thin.starts ∙ ap (number_at slopes) (sym e)))

  keeps_up : (v : ℕ) → v < net.nodes → 1ℚ ≤ℚ slope v
  keeps_up v h = ⊎_elim
      (λ (k : slope v <ℚ 1ℚ). absurd (none_first net sets good acyclic (λ (u : ℕ). slope u <ℚ 1ℚ) below_1 v h k))
      (λ (k : 1ℚ ≤ℚ slope v). k)
      (lt_or_le_ℚ (slope v) 1ℚ)

  -- So the flow fits the slopes on each link.
  fits : (e : ℕ) (link : Link) → IsLink net e link → Fits link.capacity (flow e) (slope link.tail) (slope link.head)
  fits e link p = record {
    no_negative = thin.no_negative_flow e;
    most = λ c some. at_most e link c p some;
    used = ⊎_elim (λ (some : 0ℚ <ℚ flow e). inr (flow_up e link p some)) (λ (none : flow e ≤ℚ 0ℚ). inl none) (lt_or_le_ℚ 0ℚ (flow e));
    upper = full_up e link p;
  }

  pub GrowsByCuts-thin : GrowsByCuts net rate slopes
  GrowsByCuts-thin = GrowsByCuts-fit net good rate flow slopes
      (record { starts = thin.starts; keeps_up = keeps_up; fits = fits; source = thin.source; inner = thin.inner })
