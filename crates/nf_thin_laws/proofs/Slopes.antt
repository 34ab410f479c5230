-- Thin flows for the same sets and rate have the same slopes.
use Rattle.std.proofs.Common.{◌≡◌, ◌≢◌, ℕ, ◌<◌, List, ◌⊎◌, inl, inr, ⊎_elim, Bool, true, false, if◌then◌else◌, eqb, sym, ap, subst, refl, ◌∙◌}
use Rattle.nf_thin_laws.proofs.Common.{eqb_tells, ℚ, 0ℚ, 1ℚ, ◌*ℚ◌, ◌≤ℚ◌, ◌<ℚ◌, lt_ℚ, ≤ℚ_of_same, ≤ℚ_antisymm, lt_or_le_ℚ, not_both_ℚ, lt_ℚ_cases, number_at}
use Rattle.nf_thin_laws.proofs.Common.{Has, Link, Network, IsLink, IsNetwork, Sets, surplus, exit_slope_at, Enters, IsThinFlow, IsPositive-link}
use Rattle.nf_thin_laws.proofs.Common.{carried-each, fall, out_less_in, HoldNoCycle, EachIsEntered, NoneEntersSource, same_entries}
use Rattle.nf_thin_laws.proofs.Flags.{flag, flag-cases}
use Rattle.nf_thin_laws.proofs.LinkLaws.{LinkLaw, LinkLaw-of, into_le, out_le, stuck}
use Rattle.nf_thin_laws.proofs.Cuts.{fall_none, fall_into, fall_out, fall_same, into_equal, same_carried}
use Rattle.nf_thin_laws.proofs.ActiveLinks.{none_first, NoneEntersSource-acyclic}

pub EachIsEntered-thin : (net : Network) (sets : Sets) (rate : ℚ) (flows slopes : List ℚ) → IsThinFlow net sets rate flows slopes → EachIsEntered net sets
EachIsEntered-thin net sets rate flows slopes thin v h other =
    let t : (e : ℕ) × (link : Link) × Enters net sets v e link × (exit_slope_at sets flows slopes e link ≡ number_at slopes v) = thin.taken v h other in
    (t.0, t.1, t.2)

module _ (net : Network) (sets : Sets) (rate : ℚ) (good : IsNetwork net) (acyclic : HoldNoCycle net sets) where
  pub NoneEntersSource-thin : (x l : List ℚ) → IsThinFlow net sets rate x l → NoneEntersSource net sets
  NoneEntersSource-thin x l t = NoneEntersSource-acyclic net sets good acyclic (EachIsEntered-thin net sets rate x l t)

  pub link_law : (x l : List ℚ) → IsThinFlow net sets rate x l → (e : ℕ) (link : Link) → IsLink net e link → Has sets.active e
      → LinkLaw (flag sets.resetting e) link.capacity (number_at x e) (number_at l link.tail) (number_at l link.head)
  link_law x l t e link p a =
      LinkLaw-of (flag sets.resetting e) link.capacity (number_at x e) (number_at l link.tail) (number_at l link.head) (IsPositive-link net e link good p)
      (t.no_negative_flow e) (t.no_negative_slope link.head)
      (t.least link.head e link (good.heads e link p) other n) (t.used link.head e link (good.heads e link p) other n)
    where
      n : Enters net sets link.head e link
      n = record { is_link = p; active = a; head = refl }

      other : link.head ≢ net.source
      other h = NoneEntersSource-thin x l t e link (record { is_link = p; active = a; head = h })

  module _ (x l y m : List ℚ) (p : IsThinFlow net sets rate x l) (q : IsThinFlow net sets rate y m) where
    -- 1 if the first slope is greater, and 0 otherwise.
    abbrev side : ℕ → ℚ
    side v = if lt_ℚ (number_at m v) (number_at l v) then 1ℚ else 0ℚ

    abbrev Greater : ℕ → Type 0
    Greater v = number_at m v <ℚ number_at l v

    abbrev NotGreater : ℕ → Type 0
    NotGreater v = number_at l v ≤ℚ number_at m v

    side_cases : (v : ℕ) → ((side v ≡ 1ℚ) × Greater v) ⊎ ((side v ≡ 0ℚ) × NotGreater v)
    side_cases v = ⊎_elim
        (λ (w : (lt_ℚ (number_at m v) (number_at l v) ≡ true) × Greater v). inl (ap (λ (b : Bool). if b then 1ℚ else 0ℚ) w.0, w.1))
        (λ (w : (lt_ℚ (number_at m v) (number_at l v) ≡ false) × NotGreater v). inr (ap (λ (b : Bool). if b then 1ℚ else 0ℚ) w.0, w.1))
        (lt_ℚ_cases (number_at m v) (number_at l v))

    -- Along an active link into the nodes where the first slope is greater, the first flow carries at least as much as the second.
    -- Along an active link out of these nodes, it carries at most as much.
    active_le : (e : ℕ) (link : Link) → IsLink net e link → Has sets.active e → number_at x e *ℚ fall side link ≤ℚ number_at y e *ℚ fall side link
    active_le e link s a = ⊎_elim
        (λ (v : (side link.tail ≡ 1ℚ) × Greater link.tail). ⊎_elim
        (λ (w : (side link.head ≡ 1ℚ) × Greater link.head). fall_none (number_at x e) (number_at y e) _ _ (v.0 ∙ sym w.0))
        (λ (w : (side link.head ≡ 0ℚ) × NotGreater link.head). fall_out (number_at x e) (number_at y e) _ _ v.0 w.0
        (out_le (flag sets.resetting e) link.capacity _ _ _ _ _ _ (IsPositive-link net e link good s) (q.no_negative_flow e) (link_law x l p e link s a)
        (link_law y m q e link s a) v.1 w.1))
        (side_cases link.head))
        (λ (v : (side link.tail ≡ 0ℚ) × NotGreater link.tail). ⊎_elim
        (λ (w : (side link.head ≡ 1ℚ) × Greater link.head). fall_into (number_at x e) (number_at y e) _ _ v.0 w.0
        (into_le (flag sets.resetting e) link.capacity _ _ _ _ _ _ (IsPositive-link net e link good s) (p.no_negative_flow e) (link_law x l p e link s a)
        (link_law y m q e link s a) v.1 w.1))
        (λ (w : (side link.head ≡ 0ℚ) × NotGreater link.head). fall_none (number_at x e) (number_at y e) _ _ (v.0 ∙ sym w.0))
        (side_cases link.head))
        (side_cases link.tail)

    each_le : (e : ℕ) (link : Link) → IsLink net e link → number_at x e *ℚ fall side link ≤ℚ number_at y e *ℚ fall side link
    each_le e link s = ⊎_elim
        (λ (w : (flag sets.active e ≡ true) × Has sets.active e). active_le e link s w.1)
        (λ (w : (flag sets.active e ≡ false) × (Has sets.active e → ⊥)). fall_same (number_at x e) (number_at y e) _ _ (p.active_only e w.1 ∙ sym (q.active_only e w.1)))
        (flag-cases sets.active e)

    same_at : (v : ℕ) → v < net.nodes → v ≢ net.sink → out_less_in net.links (number_at x) v ≡ out_less_in net.links (number_at y) v
    same_at v h other = ⊎_elim
        (λ (o : (eqb v net.source ≡ true) × (v ≡ net.source)). subst (λ (k : ℕ). surplus net x k ≡ surplus net y k) (sym o.1) (p.source ∙ sym q.source))
        (λ (o : (eqb v net.source ≡ false) × (v ≢ net.source)). p.inner v h o.1 other ∙ sym (q.inner v h o.1 other))
        (eqb_tells v net.source)

    -- So both flows carry the same.
    each_same : (e : ℕ) (link : Link) → IsLink net e link → number_at x e *ℚ fall side link ≡ number_at y e *ℚ fall side link
    each_same e link s = carried-each side net.links (number_at x) (number_at y) each_le (≤ℚ_of_same _ _ (sym (same_carried net side (number_at x) (number_at y) good same_at))) e link s

    -- If the first slope is greater at a node, it is greater at the tail of a link that attains the second slope there.
    tail_greater : (v e : ℕ) (link : Link) → Greater v → Enters net sets v e link → exit_slope_at sets y m e link ≡ number_at m v → Greater link.tail
    tail_greater v e link g n r = ⊎_elim
        (λ (w : (side link.tail ≡ 1ℚ) × Greater link.tail). w.1)
        (λ (w : (side link.tail ≡ 0ℚ) × NotGreater link.tail). absurd (stuck (flag sets.resetting e) link.capacity _ _ _ _ _ _ (IsPositive-link net e link good n.is_link)
        (q.no_negative_flow e) (q.no_negative_slope link.head) (link_law x l p e link n.is_link n.active) (link_law y m q e link n.is_link n.active) w.1 at_head
        (into_equal (number_at x e) (number_at y e) _ _ w.0 head_side (each_same e link n.is_link)) (r ∙ ap (number_at m) (sym n.head))))
        (side_cases link.tail)
      where
        at_head : Greater link.head
        at_head = subst Greater (sym n.head) g

        head_side : side link.head ≡ 1ℚ
        head_side = ⊎_elim
            (λ (w : (side link.head ≡ 1ℚ) × Greater link.head). w.0)
            (λ (w : (side link.head ≡ 0ℚ) × NotGreater link.head). absurd (not_both_ℚ _ _ at_head w.1))
            (side_cases link.head)

    back : (v : ℕ) → v < net.nodes → Greater v → (e : ℕ) × (link : Link) × Enters net sets v e link × Greater link.tail
    back v h g =
        let t : (e : ℕ) × (link : Link) × Enters net sets v e link × (exit_slope_at sets y m e link ≡ number_at m v) = q.taken v h other in
        (t.0, t.1, t.2, tail_greater v t.0 t.1 g t.2 t.3)
      where
        other : v ≢ net.source
        other e = not_both_ℚ _ _ (subst Greater e g) (≤ℚ_of_same _ _ (p.starts ∙ sym q.starts))

    none_greater : (v : ℕ) → v < net.nodes → Greater v → ⊥
    none_greater = none_first net sets good acyclic Greater back

    at_most : (v : ℕ) → v < net.nodes → NotGreater v
    at_most v h = ⊎_elim
        (λ (g : Greater v). absurd (none_greater v h g))
        (λ (g : NotGreater v). g) (lt_or_le_ℚ (number_at m v) (number_at l v))

  -- the slopes are the same
  pub slopes-unique : (x l y m : List ℚ) → IsThinFlow net sets rate x l → IsThinFlow net sets rate y m → l ≡ m
  slopes-unique x l y m p q = same_entries 0ℚ l m (p.slope_count ∙ sym q.slope_count)
      (λ v h. let k : v < net.nodes = subst (λ (n : ℕ). v < n) p.slope_count h in ≤ℚ_antisymm _ _ (at_most x l y m p q v k) (at_most y m x l q p v k))
