-- Pushes keep oversupplies that send the least out of the source. If the nodes with excess are closed, their slopes can be lowered. The
-- result is an oversupply with a smaller sum of slopes.
use Rattle.std.proofs.Common.{◌≡◌, ◌≢◌, ℕ, ◌<◌, [], ◌∷◌, inl, inr, ⊎_elim, sym, subst, refl}
use Rattle.nf_complete_laws.proofs.Common.{ℚ, 0ℚ, ◌+ℚ◌, ◌-ℚ◌, ◌*ℚ◌, ◌≤ℚ◌, ◌<ℚ◌, reading_of, ≤ℚ_of_same, ≤ℚ_of_lt, ≤ℚ_antisymm, lt_or_le_ℚ, not_both_ℚ}
use Rattle.nf_complete_laws.proofs.Common.{≤ℚ_refl, ≤ℚ_trans, le, lt, eq, le_times, linear_false, Has, Link, Network, IsLink, IsNetwork, sum_out, Sets}
use Rattle.nf_complete_laws.proofs.Common.{Enters, NeedsState, Fills, IsPositive-link, HasIn, sum_to, AreSets, HoldNoCycle, EachIsEntered}
use Rattle.nf_complete_laws.proofs.Common.{NoneEntersSource-acyclic, none_first, IsOversupply}
use Rattle.nf_complete_laws.proofs.Fitting.{capped-fills, fits_used}
use Rattle.nf_complete_laws.proofs.Spare.{spare, HasSpare, spare_or_not, by_kind, not_negative, at_most, spare-brings}
use Rattle.nf_complete_laws.proofs.Serving.{IsClosed, Led, IsInactive, NeedsStateAt, needs_or_not, capacity_of, Serves-over, ServesBySlopes}
use Rattle.nf_complete_laws.proofs.Serving.{IsOversupply-serves}
use Rattle.nf_complete_laws.proofs.Pushing.{pushed, pushed-link, out-here, out-else}
use Rattle.nf_complete_laws.proofs.Lowering.{Lowered, lowered_some}
use Rattle.nf_complete_laws.proofs.Growing.{Serve-less, grow}

no_less_than : (o q a : ℚ) → q ≡ o +ℚ (0ℚ -ℚ a) → o ≤ℚ q → 0ℚ <ℚ a → ⊥
no_less_than o q a e h k = linear_false (o ∷ q ∷ a ∷ []) (eq e ∷ le h ∷ lt k ∷ []) (search reading_of) tt

no_positive : (x c t : ℚ) → 0ℚ <ℚ x → x ≤ℚ c *ℚ t → 0ℚ <ℚ c → t ≤ℚ 0ℚ → ⊥
no_positive x c t h k p n = let low : 0ℚ ≤ℚ c = ≤ℚ_of_lt _ _ p in linear_false (x ∷ c ∷ t ∷ []) (lt h ∷ le k ∷ le_times low n ∷ []) (search reading_of) tt

-- An oversupply with these slopes that sends the least out of the source.
pub record IsLeastFlow (net : Network) (sets : Sets) (rate : ℚ) (slopes flows : ℕ → ℚ) : Type 0 where
  pub over : IsOversupply net sets rate flows slopes
  pub least : (other : ℕ → ℚ) → IsOversupply net sets rate other slopes → sum_out net.links flows net.source ≤ℚ sum_out net.links other net.source

module _ (net : Network) (sets : Sets) (rate : ℚ) (slopes : ℕ → ℚ) (good : IsNetwork net) (acyclic : HoldNoCycle net sets) where
  module _ (entered : EachIsEntered net sets) where
    leads : (e : ℕ) (link : Link) → IsLink net e link → NeedsStateAt sets e link → (link.head ≢ link.tail) × (link.head ≢ net.source)
    leads e link p n = (
      (λ h. acyclic e [] link.tail (link, p, n.0, refl, h)),
      (λ h. NoneEntersSource-acyclic net sets good acyclic entered e link (record { is_link = p; active = n.0; head = h })),
    )

    busy : (e : ℕ) (link : Link) → NeedsStateAt sets e link → IsInactive sets e link → ⊥
    busy e link n i = i n.0

    IsOversupply-pushed : (flows : ℕ → ℚ) (e : ℕ) (link : Link) (p : IsLink net e link) (d : ℚ) → IsOversupply net sets rate flows slopes → NeedsState sets e
        → ServesBySlopes net sets rate (pushed net rate flows e link p d) slopes → IsOversupply net sets rate (pushed net rate flows e link p d) slopes
    IsOversupply-pushed flows e link p d over n serves = IsOversupply-serves net sets rate _ slopes serves
        (pushed-link net rate flows e link p d (λ k other x. Has sets.resetting k → Fills other.capacity x (slopes other.head))
        (λ r. absurd (n.1 r)) over.resetting) over.led

    not_source : (flows : ℕ → ℚ) → IsLeastFlow net sets rate slopes flows → (e : ℕ) (link : Link) → IsLink net e link → NeedsStateAt sets e link
        → slopes link.head ≡ slopes link.tail → 0ℚ <ℚ flows e → HasSpare net rate flows link.head → link.tail ≢ net.source
    not_source flows f e link p n level some s at =
        let w : (a : ℚ) × (0ℚ <ℚ a) × ServesBySlopes net sets rate (pushed net rate flows e link p (0ℚ -ℚ a)) slopes
        = Serve-less net capacity_of rate 0ℚ (IsInactive sets) (NeedsStateAt sets) slopes good (λ e link. needs_or_not sets e) busy leads flows
        (Serves-over net sets rate flows slopes f.over) e link p n level some s in
        no_less_than (sum_out net.links flows net.source) _ w.0 (out-here net rate flows e link p (0ℚ -ℚ w.0) net.source at)
        (f.least _ (IsOversupply-pushed flows e link p (0ℚ -ℚ w.0) f.over n w.2)) w.1

    kept : (flows : ℕ → ℚ) → IsLeastFlow net sets rate slopes flows → (e : ℕ) (link : Link) (p : IsLink net e link) (d : ℚ) → NeedsStateAt sets e link
        → link.tail ≢ net.source
        → ServesBySlopes net sets rate (pushed net rate flows e link p d) slopes → IsLeastFlow net sets rate slopes (pushed net rate flows e link p d)
    kept flows f e link p d n apart serves = record {
      over = IsOversupply-pushed flows e link p d f.over n serves;
      least = λ other o. subst (λ (z : ℚ). z ≤ℚ sum_out net.links other net.source)
          (sym (out-else net rate flows e link p d net.source apart)) (f.least other o);
    }

    pub grow_least : (flows : ℕ → ℚ) → IsLeastFlow net sets rate slopes flows
        → (flows : ℕ → ℚ) × IsLeastFlow net sets rate slopes flows × IsClosed net capacity_of rate (NeedsStateAt sets) flows slopes
    grow_least = grow net capacity_of rate 0ℚ (IsInactive sets) (NeedsStateAt sets) slopes good
        (λ e link. needs_or_not sets e) busy leads (IsLeastFlow net sets rate slopes)
        (λ flows f. Serves-over net sets rate flows slopes f.over) not_source (λ flows f e link p d n apart serves _. kept flows f e link p d n apart serves)

  module _ (are : AreSets net sets) (rate_nn : 0ℚ ≤ℚ rate) (flows : ℕ → ℚ) (over : IsOversupply net sets rate flows slopes)
      (closed : IsClosed net capacity_of rate (NeedsStateAt sets) flows slopes) where
    abbrev Spares : ℕ → Type 0
    Spares v = HasSpare net rate flows v

    idle_none : (e : ℕ) (link : Link) → IsLink net e link → (Has sets.active e → ⊥) → 0ℚ <ℚ flows e → ⊥
    idle_none e link p none some = not_both_ℚ _ _ some (≤ℚ_of_same _ _ (over.inactive e link p none))

    brings : (v : ℕ) → 0ℚ <ℚ spare net rate flows v → HasIn net.links flows v
    brings = spare-brings net rate flows (not_negative net sets rate flows slopes good over) rate_nn

    -- ---- the slopes of nodes with excess are greater than 0
    abbrev Flat : ℕ → Type 0
    Flat v = Spares v × (slopes v ≤ℚ 0ℚ)

    flat_level : (e : ℕ) (link : Link) → IsLink net e link → NeedsState sets e → 0ℚ <ℚ flows e → Flat link.head → slopes link.head ≡ slopes link.tail
    flat_level e link p n some f = ≤ℚ_antisymm _ _ (≤ℚ_trans _ _ _ f.1 (over.no_negative_slope link.tail (good.tails e link p)))
        (fits_used link.capacity _ _ _ (over.others e link p n) some)

    flat_link : (e : ℕ) (link : Link) → IsLink net e link → 0ℚ <ℚ flows e → Flat link.head → Has sets.active e × Flat link.tail
    flat_link e link p some f = by_kind sets e
        (λ r. let fills : Fills link.capacity (flows e) (slopes link.head) = over.resetting e link p r in
        absurd (no_positive (flows e) fills.0 (slopes link.head) some (≤ℚ_of_same _ _ fills.2) (good.capacities e link fills.0 p fills.1) f.1))
        (λ n. let level : slopes link.head ≡ slopes link.tail = flat_level e link p n some f in
        (n.0, (closed.back e link p n level some f.0, subst (λ (t : ℚ). t ≤ℚ 0ℚ) level f.1)))
        (λ a. absurd (idle_none e link p a some))

    flat_back : (v : ℕ) → v < net.nodes → Flat v → (e : ℕ) × (link : Link) × Enters net sets v e link × Flat link.tail
    flat_back v h f =
        let b : HasIn net.links flows v = brings v f.0.1 in
        let w : Has sets.active b.0 × Flat b.1.tail = flat_link b.0 b.1 b.2 b.4 (subst Flat (sym b.3) f) in
        (b.0, b.1, record { is_link = b.2; active = w.0; head = b.3 }, w.1)

    positive : (v : ℕ) → v < net.nodes → Spares v → 0ℚ <ℚ slopes v
    positive v h s = ⊎_elim
        (λ (k : 0ℚ <ℚ slopes v). k)
        (λ (k : slopes v ≤ℚ 0ℚ). absurd (none_first net sets good acyclic Flat flat_back v h (s, k)))
        (lt_or_le_ℚ 0ℚ (slopes v))

    -- ---- lower slopes
    low : Lowered net capacity_of rate 0ℚ (IsInactive sets) (NeedsStateAt sets) flows slopes
    low = lowered_some net capacity_of rate 0ℚ (IsInactive sets) (NeedsStateAt sets) flows slopes good (λ e link p. IsPositive-link net e link good p) (≤ℚ_refl 0ℚ)
        (Serves-over net sets rate flows slopes over) (at_most net sets rate flows slopes good over) closed positive

    led_by : (v : ℕ) → HasIn net.links flows v → Led net sets low.new_levels v
    led_by v b = by_kind sets b.0
        (λ r. (b.0, b.1, record { is_link = b.2; active = are.resetting b.0 r; head = b.3 }, inl r))
        (λ m. (b.0, b.1, record { is_link = b.2; active = m.0; head = b.3 }, inr (low.rises b.0 b.1 b.2 m b.4)))
        (λ a. absurd (idle_none b.0 b.1 b.2 a b.4))

    led_as_before : (v : ℕ) → Led net sets slopes v → (Spares v → ⊥) → Led net sets low.new_levels v
    led_as_before v t none = (
      t.0,
      t.1,
      t.2,
      ⊎_elim (λ (r : Has sets.resetting t.0). inl r)
          (λ (k : slopes t.1.tail ≤ℚ slopes t.1.head). inr (kept_order k)) t.3,
    )
      where
        kept_order : slopes t.1.tail ≤ℚ slopes t.1.head → low.new_levels t.1.tail ≤ℚ low.new_levels t.1.head
        kept_order k = ≤ℚ_trans _ _ _ (≤ℚ_trans _ _ _ (low.lower t.1.tail) k) (≤ℚ_of_same _ _ (sym (low.same t.1.head (λ s. none (subst Spares t.2.head s)))))

    led : (v : ℕ) → v < net.nodes → v ≢ net.source → Led net sets low.new_levels v
    led v l other = ⊎_elim
        (λ (s : Spares v). led_by v (brings v s.1))
        (λ (s : Spares v → ⊥). led_as_before v (over.led v l other) s)
        (spare_or_not net rate flows v)

    -- If a node has excess, there is an oversupply with a smaller sum of slopes.
    pub lower : (v : ℕ) → v < net.nodes → HasSpare net rate flows v
        → (new_flows : ℕ → ℚ) × (new_slopes : ℕ → ℚ) × IsOversupply net sets rate new_flows new_slopes × (sum_to net.nodes new_slopes <ℚ sum_to net.nodes slopes)
    lower v l s = (low.new_flows, low.new_levels, IsOversupply-serves net sets rate low.new_flows low.new_levels low.serves resetting led, low.less v l s)
      where
        resetting : (e : ℕ) (link : Link) → IsLink net e link → Has sets.resetting e → Fills link.capacity (low.new_flows e) (low.new_levels link.head)
        resetting e link p r = subst (λ (x : ℚ). Fills link.capacity x (low.new_levels link.head)) (sym (low.cut e link p))
            (capped-fills link.capacity (flows e) (slopes link.head) (low.new_levels link.head) (IsPositive-link net e link good p) (over.resetting e link p r)
            (low.lower link.head))
