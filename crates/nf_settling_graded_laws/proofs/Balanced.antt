-- A least supply whose nodes with excess are closed has no excess. So it is a graded flow, for bounded capacities.
use Rattle.std.proofs.Common.{◌≡◌, ◌≢◌, ℕ, ◌<◌, [], ◌∷◌, inl, ⊎_elim, Option, sym, ap, subst, ◌∙◌}
use Rattle.nf_settling_graded_laws.proofs.Common.{ℚ, 0ℚ, 1ℚ, ◌+ℚ◌, ◌-ℚ◌, ◌*ℚ◌, ◌≤ℚ◌, ◌<ℚ◌, reading_of, ≤ℚ_of_same, ≤ℚ_of_lt, ≤ℚ_antisymm, lt_or_le_ℚ}
use Rattle.nf_settling_graded_laws.proofs.Common.{not_both_ℚ, ≤ℚ_refl, ≤ℚ_trans, lt, eq, eq_times, le_times, linear_le, linear_lt, nn_of_one, Link, Network, IsLink}
use Rattle.nf_settling_graded_laws.proofs.Common.{IsNetwork, sum_in, IsPositive, HasIn, sum_to, sum_to-nn, only_at-here, out_less_in, Fits}
use Rattle.nf_settling_graded_laws.proofs.Common.{same_node, not_so, fits_used, IsAtMost-none, HasSpare, sum_in-not_negative, pushed, in-pushed}
use Rattle.nf_complete_laws.proofs.Affine.{Affine-sum_to, Affine-sum_in}
use Rattle.nf_complete_laws.proofs.Assigned.{flows_of, flow, serves_described, IsLeast, least_over}
use Rattle.nf_complete_laws.proofs.Growing.{Serve-less, grow}
use Rattle.nf_complete_laws.proofs.Lowering.{sum_to-lt, Lowered, lowered_some}
use Rattle.nf_complete_laws.proofs.NoExcess.{inner-kept, source-kept}
use Rattle.nf_complete_laws.proofs.Serving.{IsClosed}
use Rattle.nf_complete_laws.proofs.Spare.{spare-brings}
use Rattle.nf_settling_graded_laws.proofs.Supplies.{only_at-nn, IsOpen, open_or_not, Open, Shut, IsSupply, flow_nn, flow_most, flow_open}

-- A static flow that fits the levels, for these capacities.
pub record IsGradedBy (net : Network) (cap : Link → Option ℚ) (rate : ℚ) (flows levels : ℕ → ℚ) : Type 0 where
  pub starts : levels net.source ≡ 1ℚ
  pub keeps_up : (v : ℕ) → v < net.nodes → 1ℚ ≤ℚ levels v
  pub fits : (e : ℕ) (link : Link) → IsLink net e link → Fits (cap link) (flows e) (levels link.tail) (levels link.head)
  pub source : out_less_in net.links flows net.source ≡ rate
  pub inner : (v : ℕ) → v < net.nodes → v ≢ net.source → v ≢ net.sink → out_less_in net.links flows v ≡ 0ℚ

idle_fits : (capacity : Option ℚ) (x s t : ℚ) → IsPositive capacity → x ≡ 0ℚ → 0ℚ ≤ℚ t → t ≤ℚ s → Fits capacity x s t
idle_fits capacity x s t positive e n h = record {
  no_negative = ≤ℚ_of_same _ _ (sym e);
  most = IsAtMost-none capacity x t positive e n;
  used = inl (≤ℚ_of_same _ _ e);
  upper = inl h;
}

one_nn : 0ℚ ≤ℚ 1ℚ
one_nn = linear_le [] [] (search reading_of) tt

module _ (net : Network) (cap : Link → Option ℚ) (rate : ℚ) (good : IsNetwork net)
    (positive : (e : ℕ) (link : Link) → IsLink net e link → IsPositive (cap link)) where
  -- ---- without excess
  module _ (flows levels : ℕ → ℚ) (over : IsSupply net cap rate flows levels) (none : (v : ℕ) → v < net.nodes → HasSpare net rate flows v → ⊥) where
    -- A shut link leads to no higher level.
    shut_down : (e : ℕ) (link : Link) → IsLink net e link → (IsOpen net link → ⊥) → levels link.head ≤ℚ levels link.tail
    shut_down e link p n = ⊎_elim
        (λ (k : link.head ≡ link.tail). ≤ℚ_of_same _ _ (ap levels k))
        (λ (k : link.head ≢ link.tail). ⊎_elim
        (λ (m : link.head ≡ net.source). subst (λ (z : ℚ). z ≤ℚ levels link.tail)
        (sym (ap levels m ∙ over.starts)) (over.keeps_up link.tail (good.tails e link p)))
        (λ (m : link.head ≢ net.source). absurd (n (k, m)))
        (same_node link.head net.source))
        (same_node link.head link.tail)

    pub IsGradedBy-balanced : IsGradedBy net cap rate flows levels
    IsGradedBy-balanced = record {
      starts = over.starts;
      keeps_up = over.keeps_up;
      fits = λ e link p. ⊎_elim
          (λ (o : IsOpen net link). over.fits e link p o)
          (λ (n : IsOpen net link → ⊥). idle_fits (cap link) (flows e) (levels link.tail) (levels link.head) (positive e link p) (over.idle e link p n)
          (nn_of_one _ (over.keeps_up link.head (good.heads e link p))) (shut_down e link p n))
          (open_or_not net link);
      source = source-kept net rate flows good over.enough none;
      inner = inner-kept net rate flows good over.enough none;
    }

  abbrev inflow : (ℕ → ℚ) → ℚ
  inflow flows = sum_to net.nodes (sum_in net.links flows)

  -- A supply with the least sum of levels, and among those with the least sum of inflows.
  abbrev IsLeastSupply : (ℕ → ℚ) → (ℕ → ℚ) → Type 0
  IsLeastSupply = IsLeast net.nodes inflow (IsSupply net cap rate)

  module _ (rate_nn : 0ℚ ≤ℚ rate) where
    -- ---- a least supply has excess only at levels above 1: otherwise less flow into the node suffices
    module _ (flows levels : ℕ → ℚ) (least : IsLeastSupply flows levels) where
      module _ (e : ℕ) (link : Link) (p : IsLink net e link) (some : 0ℚ <ℚ flows e) (s : HasSpare net rate flows link.head) (low : levels link.head ≤ℚ 1ℚ) where
        is_open : IsOpen net link
        is_open = flow_open net cap rate flows levels good positive least.over e link p some

        level : levels link.head ≡ levels link.tail
        level = ≤ℚ_antisymm _ _ (≤ℚ_trans _ _ _ low (least.over.keeps_up link.tail (good.tails e link p)))
            (fits_used (cap link) (flows e) (levels link.tail) (levels link.head) (least.over.fits e link p is_open) some)

        less : (a : ℚ) × (0ℚ <ℚ a) × IsSupply net cap rate (pushed net rate flows e link p (0ℚ -ℚ a)) levels
        less = Serve-less net cap rate 1ℚ (Shut net) (Open net) levels good (λ e link. open_or_not net link) (λ e link o n. n o) (λ e link p o. o)
            flows least.over e link p is_open level some s

        abbrev a : ℚ
        a = less.0

        abbrev new : ℕ → ℚ
        new = pushed net rate flows e link p (0ℚ -ℚ a)

        less_inflow : inflow new <ℚ inflow flows
        less_inflow = sum_to-lt net.nodes (sum_in net.links new) (sum_in net.links flows)
            (λ v _. no_more _ _ _ a (only_at-nn link.head 1ℚ one_nn v) (in-pushed net rate flows e link p (0ℚ -ℚ a) v) (≤ℚ_of_lt _ _ less.1))
            link.head (good.heads e link p) (falls _ _ _ a (only_at-here link.head 1ℚ) (in-pushed net rate flows e link p (0ℚ -ℚ a) link.head) less.1)
          where
            falls : (x y b a : ℚ) → b ≡ 1ℚ → y ≡ x +ℚ b *ℚ (0ℚ -ℚ a) → 0ℚ <ℚ a → y <ℚ x
            falls x y b a e f h = linear_lt (x ∷ y ∷ b ∷ a ∷ []) (eq_times a e ∷ eq f ∷ lt h ∷ []) (search reading_of) tt

            no_more : (x y b a : ℚ) → 0ℚ ≤ℚ b → y ≡ x +ℚ b *ℚ (0ℚ -ℚ a) → 0ℚ ≤ℚ a → y ≤ℚ x
            no_more x y b a n f h = linear_le (x ∷ y ∷ b ∷ a ∷ []) (le_times n h ∷ eq f ∷ []) (search reading_of) tt

        too_low : ⊥
        too_low = not_both_ℚ _ _ less_inflow (least.flows_least new levels less.2 (≤ℚ_refl _))

      least_lifted : (v : ℕ) → HasSpare net rate flows v → 1ℚ <ℚ levels v
      least_lifted v s = ⊎_elim
          (λ (k : 1ℚ <ℚ levels v). k)
          (λ (k : levels v ≤ℚ 1ℚ).
          let b : HasIn net.links flows v = spare-brings net rate flows (flow_nn net cap rate flows levels good positive least.over) rate_nn v s.1 in
          absurd (too_low b.0 b.1 b.2 b.4 (subst (HasSpare net rate flows) (sym b.3) s) (subst (λ (j : ℕ). levels j ≤ℚ 1ℚ) (sym b.3) k)))
          (lt_or_le_ℚ 1ℚ (levels v))

    least_supply : (flows levels : ℕ → ℚ) → IsSupply net cap rate flows levels → (flows : ℕ → ℚ) × (levels : ℕ → ℚ) × IsLeastSupply flows levels
    least_supply = least_over net.nodes inflow (IsSupply net cap rate)
        (serves_described net cap rate 1ℚ (Shut net) (Open net) (λ e link. not_so (open_or_not net link)) (λ e link. open_or_not net link))
        (Affine-sum_to net.nodes (λ v x. sum_in net.links (flows_of x) v) (λ v. Affine-sum_in net.links (λ e x. flows_of x e) v flow))
        (λ f s o v l. nn_of_one _ (o.keeps_up v l))
        (λ f s o. sum_to-nn net.nodes (sum_in net.links f) (λ v _. sum_in-not_negative net.links f v (flow_nn net cap rate f s good positive o)))

    -- ---- pushes keep levels above 1 at nodes with excess
    abbrev IsLifted : (ℕ → ℚ) → (ℕ → ℚ) → Type 0
    IsLifted levels flows = IsSupply net cap rate flows levels × ((v : ℕ) → HasSpare net rate flows v → 1ℚ <ℚ levels v)

    grow_lifted : (levels flows : ℕ → ℚ) → IsLifted levels flows → (flows : ℕ → ℚ) × IsLifted levels flows × IsClosed net cap rate (Open net) flows levels
    grow_lifted levels = grow net cap rate 1ℚ (Shut net) (Open net) levels good (λ e link. open_or_not net link) (λ e link o n. n o) (λ e link p o. o)
        (IsLifted levels) (λ flows f. f.0)
        (λ flows f e link p o level some s at. not_both_ℚ _ _ (f.1 link.head s) (≤ℚ_of_same _ _ (level ∙ ap levels at ∙ f.0.starts)))
        (λ flows f e link p d o apart serves from. (serves, λ v s. let w = from v s in subst (λ (z : ℚ). 1ℚ <ℚ z) (sym w.2) (f.1 w.0 w.1)))

    no_spare : (flows levels least_flows : ℕ → ℚ) → IsLeastSupply least_flows levels → IsLifted levels flows → IsClosed net cap rate (Open net) flows levels
        → (v : ℕ) → v < net.nodes → HasSpare net rate flows v → ⊥
    no_spare flows levels least_flows least f closed v l s =
        let low : Lowered net cap rate 1ℚ (Shut net) (Open net) flows levels
        = lowered_some net cap rate 1ℚ (Shut net) (Open net) flows levels good positive one_nn f.0
        (flow_most net cap rate flows levels good positive f.0) closed (λ v _ s. f.1 v s) in
        not_both_ℚ _ _ (low.less v l s) (least.slopes_least low.new_flows low.new_levels low.serves)

    -- So a supply leads to a graded flow.
    pub graded_from : (flows levels : ℕ → ℚ) → IsSupply net cap rate flows levels → (flows : ℕ → ℚ) × (levels : ℕ → ℚ) × IsGradedBy net cap rate flows levels
    graded_from flows levels over =
        let m = least_supply flows levels over in
        let g = grow_lifted m.1 m.0 (m.2.over, least_lifted m.0 m.1 m.2) in
        (g.0, m.1, IsGradedBy-balanced g.0 m.1 g.1.0 (no_spare g.0 m.1 m.0 m.2 g.1 g.2))
