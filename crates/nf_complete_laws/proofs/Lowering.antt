-- If the nodes with excess are closed, the levels of all of them can be lowered. The sum of levels falls.
use Rattle.std.proofs.Common.{◌≡◌, ◌≢◌, ℕ, zero, suc, ◌<◌, [], ◌∷◌, ◌⊎◌, inl, inr, ⊎_elim, Option, Some, None, slice_get, unwrap_or, sym, ap, subst, refl}
use Rattle.std.proofs.Common.{◌∙◌, arith}
use Rattle.nf_complete_laws.proofs.Common.{ℚ, 0ℚ, ◌+ℚ◌, ◌-ℚ◌, ◌*ℚ◌, ◌≤ℚ◌, ◌<ℚ◌, reading_of, ≤ℚ_of_lt, ≤ℚ_of_same, ≤ℚ_antisymm, lt_or_le_ℚ, not_both_ℚ}
use Rattle.nf_complete_laws.proofs.Common.{less_ps, ≤ℚ_refl, ≤ℚ_trans, le, lt, eq, linear_le, linear_lt, Link, Network, IsLink, IsNetwork, sum_in, sum_out}
use Rattle.nf_complete_laws.proofs.Common.{IsPositive, sum_in-same, sum_in-line, sum_in-order, sum_out-order, sum_to, before_or_at, sum_le, sum_lt_le}
use Rattle.nf_complete_laws.proofs.Common.{sum_le_lt, Fits, demand}
use Rattle.nf_complete_laws.proofs.Deciding.{Decided}
use Rattle.nf_complete_laws.proofs.Small.{Small, Small-bound, Small-map, Small-both, Small-when, Small-at_most, Small-apart, Small-times, Small-to}
use Rattle.nf_complete_laws.proofs.LinkSums.{sum_in-not_negative}
use Rattle.nf_complete_laws.proofs.Fitting.{IsAtMost, IsFilled, HasRoom, filled_or_room, capped, capped-le, capped-same, capped-none, capped-near}
use Rattle.nf_complete_laws.proofs.Fitting.{Fits-capped, fits_used}
use Rattle.nf_complete_laws.proofs.Spare.{spare, HasSpare, spare_or_not}
use Rattle.nf_complete_laws.proofs.Serving.{Serves, IsClosed}

-- ---- sums of numbers of which none grows and at least one falls
sum_to-le : (n : ℕ) (f g : ℕ → ℚ) → ((k : ℕ) → k < n → f k ≤ℚ g k) → sum_to n f ≤ℚ sum_to n g
sum_to-le zero f g h = ≤ℚ_refl 0ℚ
sum_to-le (suc n) f g h = sum_le (sum_to n f) (sum_to n g) (f n) (g n) (sum_to-le n f g (λ k l. h k (omega arith))) (h n (omega arith))

pub sum_to-lt : (n : ℕ) (f g : ℕ → ℚ) → ((k : ℕ) → k < n → f k ≤ℚ g k) → (v : ℕ) → v < n → f v <ℚ g v → sum_to n f <ℚ sum_to n g
sum_to-lt zero f g h v l k = absurd (omega arith)
sum_to-lt (suc n) f g h v l k = ⊎_elim
    (λ (b : v < n). sum_lt_le (sum_to n f) (sum_to n g) (f n) (g n) (sum_to-lt n f g (λ k l. h k (omega arith)) v b k) (h n (omega arith)))
    (λ (e : v ≡ n). sum_le_lt (sum_to n f) (sum_to n g) (f n) (g n) (sum_to-le n f g (λ k l. h k (omega arith))) (subst (λ (j : ℕ). f j <ℚ g j) e k))
    (before_or_at v n (omega arith))

-- ---- a number lowered by h, if a property holds
abbrev low_by : {A : Type 0} → Decided A → ℚ → ℚ → ℚ
low_by (inl a) h x = x -ℚ h
low_by (inr n) h x = x

low_by-any : {A : Type 0} (d : Decided A) (h x : ℚ) (P : ℚ → Type 0) → (A → P (x -ℚ h)) → ((A → ⊥) → P x) → P (low_by d h x)
low_by-any (inl a) h x P f g = f a
low_by-any (inr n) h x P f g = g n

unwrapped-not_negative : (capacity : Option ℚ) → IsPositive capacity → 0ℚ ≤ℚ unwrap_or capacity 0ℚ
unwrapped-not_negative None positive = ≤ℚ_refl 0ℚ
unwrapped-not_negative (Some c) positive = ≤ℚ_of_lt _ _ (positive c refl)

-- Lower levels, and flows cut to the capacities that are left.
pub record Lowered (net : Network) (cap : Link → Option ℚ) (rate floor : ℚ) (Idle Free : ℕ → Link → Type 0) (flows levels : ℕ → ℚ) : Type 0 where
  pub new_flows : ℕ → ℚ
  pub new_levels : ℕ → ℚ
  pub serves : Serves net cap rate floor Idle Free new_flows new_levels
  pub cut : (e : ℕ) (link : Link) → IsLink net e link → new_flows e ≡ capped (cap link) (flows e) (new_levels link.head)
  pub lower : (v : ℕ) → new_levels v ≤ℚ levels v
  pub same : (v : ℕ) → (HasSpare net rate flows v → ⊥) → new_levels v ≡ levels v
  pub rises : (e : ℕ) (link : Link) → IsLink net e link → Free e link → 0ℚ <ℚ flows e → new_levels link.tail ≤ℚ new_levels link.head
  pub less : (v : ℕ) → v < net.nodes → HasSpare net rate flows v → sum_to net.nodes new_levels <ℚ sum_to net.nodes levels

enough_by_rest : (o d i p q k : ℚ) → p ≤ℚ o → i ≤ℚ q +ℚ k → k ≤ℚ i -ℚ (o +ℚ d) → p +ℚ d ≤ℚ q
enough_by_rest o d i p q k h l m = linear_le (o ∷ d ∷ i ∷ p ∷ q ∷ k ∷ []) (le h ∷ le l ∷ le m ∷ []) (search reading_of) tt

enough_by_same : (o d i p q : ℚ) → p ≤ℚ o → q ≡ i → o +ℚ d ≤ℚ i → p +ℚ d ≤ℚ q
enough_by_same o d i p q h e m = linear_le (o ∷ d ∷ i ∷ p ∷ q ∷ []) (le h ∷ eq e ∷ le m ∷ []) (search reading_of) tt

module _ (net : Network) (cap : Link → Option ℚ) (rate floor : ℚ) (Idle Free : ℕ → Link → Type 0) (flows levels : ℕ → ℚ) (good : IsNetwork net)
    (positive : (e : ℕ) (link : Link) → IsLink net e link → IsPositive (cap link)) (floor_nn : 0ℚ ≤ℚ floor)
    (serves : Serves net cap rate floor Idle Free flows levels)
    (at_most : (e : ℕ) (link : Link) → IsLink net e link → IsAtMost (cap link) (flows e) (levels link.head))
    (closed : IsClosed net cap rate Free flows levels) (lifted : (v : ℕ) → v < net.nodes → HasSpare net rate flows v → floor <ℚ levels v) where
  abbrev Spares : ℕ → Type 0
  Spares v = HasSpare net rate flows v

  abbrev capacity_by : Option Link → ℚ
  capacity_by None = 0ℚ
  capacity_by (Some link) = unwrap_or (cap link) 0ℚ

  abbrev capacity_at : ℕ → ℚ
  capacity_at e = capacity_by (slice_get net.links e)

  capacity_at-not_negative : (e : ℕ) (link : Link) → IsLink net e link → 0ℚ ≤ℚ capacity_at e
  capacity_at-not_negative e link p = subst (λ (o : Option Link). 0ℚ ≤ℚ capacity_by o) (sym p) (unwrapped-not_negative (cap link) (positive e link p))

  -- ---- all sufficiently small numbers satisfy the conditions
  abbrev Apart : ℚ → Type 0
  Apart h = (u : ℕ) → u < net.nodes → (v : ℕ) → v < net.nodes → levels u <ℚ levels v → h ≤ℚ levels v -ℚ levels u

  abbrev Above : ℚ → Type 0
  Above h = (v : ℕ) → v < net.nodes → Spares v → h ≤ℚ levels v -ℚ floor

  abbrev Paid : ℚ → Type 0
  Paid h = (v : ℕ) → v < net.nodes → Spares v → sum_in net.links capacity_at v *ℚ h ≤ℚ spare net rate flows v

  record IsSmall (h : ℚ) : Type 0 where
    apart : Apart h
    above : Above h
    paid : Paid h

  apart : Small Apart
  apart = Small-to net.nodes (λ u h. (v : ℕ) → v < net.nodes → levels u <ℚ levels v → h ≤ℚ levels v -ℚ levels u) (λ u _.
      Small-to net.nodes (λ v h. levels u <ℚ levels v → h ≤ℚ levels v -ℚ levels u) (λ v _. Small-apart (levels u) (levels v)))

  above : Small Above
  above = Small-to net.nodes (λ v h. Spares v → h ≤ℚ levels v -ℚ floor)
      (λ v l. Small-when (Spares v) (λ h. h ≤ℚ levels v -ℚ floor) (spare_or_not net rate flows v)
      (λ s. Small-at_most (levels v -ℚ floor) (less_ps floor (levels v) (lifted v l s))))

  paid : Small Paid
  paid = Small-to net.nodes (λ v h. Spares v → sum_in net.links capacity_at v *ℚ h ≤ℚ spare net rate flows v)
      (λ v l. Small-when (Spares v) (λ h. sum_in net.links capacity_at v *ℚ h ≤ℚ spare net rate flows v) (spare_or_not net rate flows v)
      (λ s. Small-times (spare net rate flows v) (sum_in net.links capacity_at v) s.1 (sum_in-not_negative net.links capacity_at v capacity_at-not_negative)))

  small : Small IsSmall
  small = Small-map (λ h. Apart h × (Above h × Paid h)) IsSmall (λ h w. record { apart = w.0; above = w.1.0; paid = w.1.1 })
      (Small-both Apart (λ h. Above h × Paid h) apart (Small-both Above Paid above paid))

  -- ---- levels lowered by h
  module _ (h : ℚ) (n : 0ℚ ≤ℚ h) (is_small : IsSmall h) where
    abbrev lowered : ℕ → ℚ
    lowered v = low_by (spare_or_not net rate flows v) h (levels v)

    abbrev lowered_by : Option Link → ℚ → ℚ
    lowered_by None x = x
    lowered_by (Some link) x = capped (cap link) x (lowered link.head)

    abbrev new : ℕ → ℚ
    new e = lowered_by (slice_get net.links e) (flows e)

    new-is : (e : ℕ) (link : Link) → IsLink net e link → new e ≡ capped (cap link) (flows e) (lowered link.head)
    new-is e link p = ap (λ (o : Option Link). lowered_by o (flows e)) p

    lowered-any : (v : ℕ) (P : ℚ → Type 0) → (Spares v → P (levels v -ℚ h)) → ((Spares v → ⊥) → P (levels v)) → P (lowered v)
    lowered-any v = low_by-any (spare_or_not net rate flows v) h (levels v)

    below : (x : ℚ) → x -ℚ h ≤ℚ x
    below x = linear_le (x ∷ h ∷ []) (le n ∷ []) (search reading_of) tt

    lowered-le : (v : ℕ) → lowered v ≤ℚ levels v
    lowered-le v = lowered-any v (λ z. z ≤ℚ levels v) (λ _. below (levels v)) (λ _. ≤ℚ_refl (levels v))

    lowered-is : (v : ℕ) → Spares v → lowered v ≡ levels v -ℚ h
    lowered-is v s = lowered-any v (λ z. z ≡ levels v -ℚ h) (λ _. refl) (λ n. absurd (n s))

    lowered-not : (v : ℕ) → (Spares v → ⊥) → lowered v ≡ levels v
    lowered-not v none = lowered-any v (λ z. z ≡ levels v) (λ s. absurd (none s)) (λ _. refl)

    lowered-keeps_up : (v : ℕ) → v < net.nodes → floor ≤ℚ lowered v
    lowered-keeps_up v l = lowered-any v (λ z. floor ≤ℚ z) (λ s. left (levels v) (is_small.above v l s)) (λ _. serves.keeps_up v l)
      where
        left : (x : ℚ) → h ≤ℚ x -ℚ floor → floor ≤ℚ x -ℚ h
        left x k = linear_le (x ∷ h ∷ floor ∷ []) (le k ∷ []) (search reading_of) tt

    lowered-not_negative : (v : ℕ) → v < net.nodes → 0ℚ ≤ℚ lowered v
    lowered-not_negative v l = ≤ℚ_trans _ _ _ floor_nn (lowered-keeps_up v l)

    -- Levels keep their order along a link with flow, and against a link with room.
    keeps_order : (u v : ℕ) → u < net.nodes → v < net.nodes → levels u ≤ℚ levels v → (levels u ≡ levels v → Spares v → Spares u) → lowered u ≤ℚ lowered v
    keeps_order u v l m low both = lowered-any v (λ z. lowered u ≤ℚ z) (λ s. ⊎_elim
        (λ (k : levels u <ℚ levels v). apart_by _ _ _ (lowered-le u) (is_small.apart u l v m k))
        (λ (k : levels v ≤ℚ levels u).
        let same : levels u ≡ levels v = ≤ℚ_antisymm _ _ low k in ≤ℚ_of_same _ _ (lowered-is u (both same s) ∙ ap (λ (z : ℚ). z -ℚ h) same))
        (lt_or_le_ℚ (levels u) (levels v))) (λ _. ≤ℚ_trans _ _ _ (lowered-le u) low)
      where
        apart_by : (r s t : ℚ) → r ≤ℚ s → h ≤ℚ t -ℚ s → r ≤ℚ t -ℚ h
        apart_by r s t k g = linear_le (r ∷ s ∷ t ∷ h ∷ []) (le k ∷ le g ∷ []) (search reading_of) tt

    rises : (e : ℕ) (link : Link) → IsLink net e link → Free e link → 0ℚ <ℚ flows e → lowered link.tail ≤ℚ lowered link.head
    rises e link p m some = keeps_order link.tail link.head (good.tails e link p) (good.heads e link p)
        (fits_used (cap link) _ _ _ (serves.fits e link p m) some) (λ same s. closed.back e link p m (sym same) some s)

    falls : (e : ℕ) (link : Link) → IsLink net e link → Free e link → HasRoom (cap link) (flows e) (levels link.head) → lowered link.head ≤ℚ lowered link.tail
    falls e link p m room = keeps_order link.head link.tail (good.heads e link p) (good.tails e link p) (⊎_elim
        (λ (k : levels link.head ≤ℚ levels link.tail). k)
        (λ (f : IsFilled (cap link) (flows e) (levels link.head)). absurd (not_both_ℚ _ _ (room f.0 f.1) f.2))
        (serves.fits e link p m).upper) (λ same s. closed.forth e link p m same room s)

    others : (e : ℕ) (link : Link) → IsLink net e link → Free e link → Fits (cap link) (new e) (lowered link.tail) (lowered link.head)
    others e link p m = subst (λ (x : ℚ). Fits (cap link) x (lowered link.tail) (lowered link.head)) (sym (new-is e link p))
        (Fits-capped (cap link) (flows e) (levels link.tail) (levels link.head) (lowered link.tail) (lowered link.head) (positive e link p)
        (serves.fits e link p m)
        (lowered-not_negative link.head (good.heads e link p)) (lowered-le link.head) used upper)
      where
        used : (flows e ≤ℚ 0ℚ) ⊎ (lowered link.tail ≤ℚ lowered link.head)
        used = ⊎_elim (λ (k : 0ℚ <ℚ flows e). inr (rises e link p m k)) (λ (k : flows e ≤ℚ 0ℚ). inl k) (lt_or_le_ℚ 0ℚ (flows e))

        upper : (lowered link.head ≤ℚ lowered link.tail) ⊎ IsFilled (cap link) (flows e) (levels link.head)
        upper = ⊎_elim
            (λ (f : IsFilled (cap link) (flows e) (levels link.head)). inr f)
            (λ (r : HasRoom (cap link) (flows e) (levels link.head)). inl (falls e link p m r))
            (filled_or_room (cap link) (flows e) (levels link.head))

    -- ---- flows fall by little, and only on links into nodes with excess
    new-le : (e : ℕ) (link : Link) → IsLink net e link → new e ≤ℚ flows e
    new-le e link p = subst (λ (x : ℚ). x ≤ℚ flows e) (sym (new-is e link p)) (capped-le (cap link) (flows e) (lowered link.head))

    new-same : (e : ℕ) (link : Link) → IsLink net e link → (Spares link.head → ⊥) → new e ≡ flows e
    new-same e link p none = new-is e link p
        ∙ capped-same (cap link) (flows e) (lowered link.head) (subst (λ (t : ℚ). IsAtMost (cap link) (flows e) t) (sym (lowered-not link.head none))
        (at_most e link p))

    new-near : (e : ℕ) (link : Link) → IsLink net e link → flows e ≤ℚ new e +ℚ capacity_at e *ℚ h
    new-near e link p = subst (λ (o : Option Link). flows e ≤ℚ lowered_by o (flows e) +ℚ capacity_by o *ℚ h) (sym p)
        (capped-near (cap link) (flows e) (levels link.head) (lowered link.head) h (positive e link p) n
        (at_most e link p) (lowered-any link.head (λ z. levels link.head -ℚ h ≤ℚ z) (λ _. ≤ℚ_refl _) (λ _. below (levels link.head))))

    less_out : (v : ℕ) → sum_out net.links new v ≤ℚ sum_out net.links flows v
    less_out v = sum_out-order net.links new flows v (λ e link p _. new-le e link p)

    little_less_in : (v : ℕ) → sum_in net.links flows v ≤ℚ sum_in net.links new v +ℚ sum_in net.links capacity_at v *ℚ h
    little_less_in v = subst (λ (z : ℚ). sum_in net.links flows v ≤ℚ z) (sum_in-line net.links new capacity_at h v)
        (sum_in-order net.links flows (λ e. new e +ℚ capacity_at e *ℚ h) v (λ e link p _. new-near e link p))

    enough : (v : ℕ) → v < net.nodes → v ≢ net.source → sum_out net.links new v +ℚ demand net rate v ≤ℚ sum_in net.links new v
    enough v l other = ⊎_elim
        (λ (s : Spares v). enough_by_rest (sum_out net.links flows v) (demand net rate v) (sum_in net.links flows v) _ _ _ (less_out v) (little_less_in v) (is_small.paid v l s))
        (λ (s : Spares v → ⊥). enough_by_same (sum_out net.links flows v) (demand net rate v) (sum_in net.links flows v) _ _ (less_out v)
        (sum_in-same net.links new flows v (λ e link p at. new-same e link p (λ k. s (subst Spares at k)))) (serves.enough v l other))
        (spare_or_not net rate flows v)

    Serves-lowered : Serves net cap rate floor Idle Free new lowered
    Serves-lowered = record {
      starts = lowered-not net.source (λ s. s.0 refl) ∙ serves.starts;
      keeps_up = lowered-keeps_up;
      idle = λ e link p i. new-is e link p ∙ capped-none (cap link) (flows e) (lowered link.head) (positive e link p) (serves.idle e link p i)
          (lowered-not_negative link.head (good.heads e link p));
      fits = others;
      enough = enough;
    }

    lowered-less : (v : ℕ) → v < net.nodes → Spares v → 0ℚ <ℚ h → sum_to net.nodes lowered <ℚ sum_to net.nodes levels
    lowered-less v l s k = sum_to-lt net.nodes lowered levels (λ u _. lowered-le u) v l
        (subst (λ (z : ℚ). z <ℚ levels v) (sym (lowered-is v s)) (less (levels v)))
      where
        less : (x : ℚ) → x -ℚ h <ℚ x
        less x = linear_lt (x ∷ h ∷ []) (lt k ∷ []) (search reading_of) tt

  pub lowered_some : Lowered net cap rate floor Idle Free flows levels
  lowered_some =
      let h : ℚ = small.bound in
      let n : 0ℚ ≤ℚ h = ≤ℚ_of_lt _ _ small.positive in
      let is_small : IsSmall h = Small-bound IsSmall small in
      record {
        new_flows = new h n is_small;
        new_levels = lowered h n is_small;
        serves = Serves-lowered h n is_small;
        cut = new-is h n is_small;
        lower = lowered-le h n is_small;
        same = lowered-not h n is_small;
        rises = rises h n is_small;
        less = λ v l s. lowered-less h n is_small v l s small.positive;
      }
