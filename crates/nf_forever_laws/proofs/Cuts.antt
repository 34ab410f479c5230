-- The net flow out of a cut, against the capacities of the links that leave it.
use Rattle.std.proofs.Common.{◌≡◌, ◌≢◌, ℕ, zero, suc, ◌<◌, List, [], ◌∷◌, ⊎_elim, Bool, true, false, if◌then◌else◌, eqb, Option, Some, None, slice_get, sym, ap, subst, refl, ◌∙◌}
use Rattle.std.proofs.lemmas.Bool.Decides.{eqb_tells}
use Rattle.nf_forever_laws.proofs.Common.{none-some, same_Some, ℚ, 0ℚ, 1ℚ, ◌+ℚ◌, ◌*ℚ◌, ◌≤ℚ◌, ◌<ℚ◌, reading_of, ≤ℚ_of_lt, nn_plus, ps_plus, ≤ℚ_refl, le, eq}
use Rattle.nf_forever_laws.proofs.Common.{eq_times, linear_le, linear_eq, Link, Piece, Network, IsNetwork, IsLink, hops, IsPositive-link, not_both}
use Rattle.nf_forever_laws.proofs.Common.{times_first_zero, times_second_zero, first_and_zero, Cut, LeadsOut, IsStaticCut, outward_capacity, capacity_sum}
use Rattle.nf_forever_laws.proofs.Common.{cut_capacity, IsLeastCapacity}
use Rattle.nf_rational_laws.proofs.Signs.{nn_plus_ps}
use Rattle.nf_model.specs.Walk.{IsWalk}
use Rattle.nf_model_laws.specs.Capacity.{IsPositive}
use Rattle.nf_model_laws.specs.MemberLaws.{one_link}
use Rattle.nf_model_laws.proofs.Networks.{IsWalk-starts, StartsWith}
use Rattle.nf_model_laws.proofs.Potential.{sum_to-same, sum_to-only, only_at, only_at-here, only_at-else, carried, carried-is, fall, out_less_in}
use Rattle.nf_thin_laws.proofs.Cuts.{EndsBelow-net}

-- ---- the outward capacity of a link
pub outward_capacity-not_negative : (tail head : Bool) (capacity : Option ℚ) → IsPositive capacity → 0ℚ ≤ℚ outward_capacity tail head capacity
outward_capacity-not_negative true false (Some c) p = ≤ℚ_of_lt _ _ (p c refl)
outward_capacity-not_negative true false None p = ≤ℚ_refl 0ℚ
outward_capacity-not_negative true true capacity p = ≤ℚ_refl 0ℚ
outward_capacity-not_negative false head capacity p = ≤ℚ_refl 0ℚ

pub outward_capacity-is : (tail head : Bool) (capacity : Option ℚ) (c : ℚ) → tail ≡ true → head ≡ false → capacity ≡ Some c → outward_capacity tail head capacity ≡ c
outward_capacity-is true false (Some d) c e f g = same_Some d c g
outward_capacity-is true false None c e f g = absurd (none-some c g)
outward_capacity-is true true capacity c e f g = absurd (cc)
outward_capacity-is false head capacity c e f g = absurd (cc)

pub outward_capacity-inside : (tail head : Bool) (capacity : Option ℚ) → head ≡ true → outward_capacity tail head capacity ≡ 0ℚ
outward_capacity-inside true true capacity e = refl
outward_capacity-inside true false capacity e = absurd (cc)
outward_capacity-inside false head capacity e = refl

pub outward_capacity-outside : (tail head : Bool) (capacity : Option ℚ) → tail ≡ false → outward_capacity tail head capacity ≡ 0ℚ
outward_capacity-outside true head capacity e = absurd (cc)
outward_capacity-outside false head capacity e = refl

abbrev pub outward : Cut → Link → ℚ
outward cut link = outward_capacity (cut link.tail) (cut link.head) link.capacity

-- ---- the indicator of a set: 1 at its nodes, and 0 at the others
abbrev pub one_if : Bool → ℚ
one_if b = if b then 1ℚ else 0ℚ

abbrev pub one_in : Cut → ℕ → ℚ
one_in cut v = one_if (cut v)

one_times : (w y r : ℚ) → w ≡ 1ℚ → y ≡ r → w *ℚ y ≡ r
one_times w y r e f = linear_eq (w ∷ y ∷ r ∷ []) (eq_times y e ∷ eq f ∷ []) (search reading_of) tt tt

-- The net flow of a static flow out of a set with the source and without the sink is its value.
module _ (net : Network) (good : IsNetwork net) (cut : Cut) (inside : cut net.source ≡ true) (outside : cut net.sink ≡ false) (f : ℕ → ℚ) (rate : ℚ)
    (source : out_less_in net.links f net.source ≡ rate)
    (inner : (v : ℕ) → v < net.nodes → v ≢ net.source → v ≢ net.sink → out_less_in net.links f v ≡ 0ℚ) where
  at_node : (v : ℕ) → v < net.nodes → one_in cut v *ℚ out_less_in net.links f v ≡ only_at net.source rate v
  at_node v h = ⊎_elim
      (λ (s : (eqb v net.source ≡ true) × (v ≡ net.source)). subst (λ (k : ℕ). one_in cut k *ℚ out_less_in net.links f k ≡ only_at net.source rate k) (sym s.1)
      (one_times (one_in cut net.source) (out_less_in net.links f net.source) rate (ap one_if inside) source ∙ sym (only_at-here net.source rate)))
      (λ (s : (eqb v net.source ≡ false) × (v ≢ net.source)). elsewhere s.1 ∙ sym (only_at-else net.source rate v (λ e. s.1 (sym e))))
      (eqb_tells v net.source)
    where
      elsewhere : v ≢ net.source → one_in cut v *ℚ out_less_in net.links f v ≡ 0ℚ
      elsewhere other = ⊎_elim
          (λ (t : (eqb v net.sink ≡ true) × (v ≡ net.sink)). times_first_zero (one_in cut v) (out_less_in net.links f v) (ap one_if (ap cut t.1 ∙ outside)))
          (λ (t : (eqb v net.sink ≡ false) × (v ≢ net.sink)). times_second_zero (one_in cut v) (out_less_in net.links f v) (inner v h other t.1))
          (eqb_tells v net.sink)

  pub carried_out : carried (one_in cut) net.links f ≡ rate
  carried_out = carried-is net.nodes (one_in cut) net.links f (EndsBelow-net net good)
      ∙ sum_to-same net.nodes (λ v. one_in cut v *ℚ out_less_in net.links f v) (only_at net.source rate) at_node
      ∙ sum_to-only net.nodes net.source rate good.source

-- ---- bounds of the net flow, link by link: w is the indicator of the set, and s is a factor
module _ (w : ℕ → ℚ) (cut : Cut) (s : ℚ) where
  more_below : (a b c d : ℚ) → a ≤ℚ s *ℚ c → b ≤ℚ s *ℚ d → a +ℚ b ≤ℚ s *ℚ (c +ℚ d)
  more_below a b c d h k = linear_le (a ∷ b ∷ c ∷ d ∷ s ∷ []) (le h ∷ le k ∷ []) (search reading_of) tt

  more_above : (a b c d : ℚ) → s *ℚ c ≤ℚ a → s *ℚ d ≤ℚ b → s *ℚ (c +ℚ d) ≤ℚ a +ℚ b
  more_above a b c d h k = linear_le (a ∷ b ∷ c ∷ d ∷ s ∷ []) (le h ∷ le k ∷ []) (search reading_of) tt

  pub carried-below : (links : List Link) (f : ℕ → ℚ) → ((e : ℕ) (link : Link) → slice_get links e ≡ Some link → f e *ℚ fall w link ≤ℚ s *ℚ outward cut link)
      → carried w links f ≤ℚ s *ℚ capacity_sum links cut
  carried-below [] f h = linear_le (s ∷ []) [] (search reading_of) tt
  carried-below (link ∷ links) f h =
      more_below (f 0 *ℚ fall w link) (carried w links (λ e. f (suc e))) (outward cut link) (capacity_sum links cut) (h 0 link refl)
      (carried-below links (λ e. f (suc e)) (λ e l p. h (suc e) l p))

  pub carried-above : (links : List Link) (f : ℕ → ℚ) → ((e : ℕ) (link : Link) → slice_get links e ≡ Some link → s *ℚ outward cut link ≤ℚ f e *ℚ fall w link)
      → s *ℚ capacity_sum links cut ≤ℚ carried w links f
  carried-above [] f h = linear_le (s ∷ []) [] (search reading_of) tt
  carried-above (link ∷ links) f h =
      more_above (f 0 *ℚ fall w link) (carried w links (λ e. f (suc e))) (outward cut link) (capacity_sum links cut) (h 0 link refl)
      (carried-above links (λ e. f (suc e)) (λ e l p. h (suc e) l p))

-- ---- a cut that a link of a positive capacity leaves has a positive capacity
module _ (cut : Cut) where
  abbrev ArePositive : List Link → Type 0
  ArePositive links = (e : ℕ) (link : Link) → slice_get links e ≡ Some link → IsPositive link.capacity

  capacity_sum-not_negative : (links : List Link) → ArePositive links → 0ℚ ≤ℚ capacity_sum links cut
  capacity_sum-not_negative [] p = ≤ℚ_refl 0ℚ
  capacity_sum-not_negative (link ∷ links) p = nn_plus _ _ (outward_capacity-not_negative (cut link.tail) (cut link.head) link.capacity (p 0 link refl))
      (capacity_sum-not_negative links (λ e l q. p (suc e) l q))

  capacity_sum-positive : (links : List Link) → ArePositive links → (e : ℕ) (link : Link) → slice_get links e ≡ Some link → 0ℚ <ℚ outward cut link
      → 0ℚ <ℚ capacity_sum links cut
  capacity_sum-positive [] p e link q some = absurd (none-some link q)
  capacity_sum-positive (l ∷ links) p zero link q some = ps_plus _ _ (subst (λ (k : Link). 0ℚ <ℚ outward cut k) (sym (same_Some l link q)) some)
      (capacity_sum-not_negative links (λ e l q. p (suc e) l q))
  capacity_sum-positive (l ∷ links) p (suc e) link q some = nn_plus_ps _ _ (outward_capacity-not_negative (cut l.tail) (cut l.head) l.capacity (p 0 l refl))
      (capacity_sum-positive links (λ e l q. p (suc e) l q) e link q some)

-- A walk from a node in the cut to the sink has a link that leaves the cut.
module _ (net : Network) (cut : Cut) (is : IsStaticCut net cut) where
  abbrev Crossed : Type 0
  Crossed = (e : ℕ) × (link : Link) × IsLink net e link × LeadsOut cut link

  -- Its first link leaves the cut, or it leads to a node in the cut.
  crossed_first : (e v : ℕ) (walk : List ℕ) (first : StartsWith net e walk v net.sink) → cut v ≡ true → (cut first.link.head ≡ true → Crossed) → Crossed
  crossed_first e v walk first inside rest = by (cut first.link.head) refl
    where
      by : (b : Bool) → cut first.link.head ≡ b → Crossed
      by true at = rest at
      by false at = (e, first.link, first.is_link, record { tail = ap cut first.tail ∙ inside; head = at })

  crossed : (walk : List ℕ) (v : ℕ) → IsWalk (hops net) walk v net.sink → cut v ≡ true → Crossed
  crossed [] v h inside = absurd (not_both (cut v) inside (ap cut h ∙ is.sink))
  crossed (e ∷ walk) v h inside =
      let first : StartsWith net e walk v net.sink = IsWalk-starts net e walk v net.sink h in
      crossed_first e v walk first inside (λ at. crossed walk first.link.head first.rest at)

  pub cut_capacity-positive : IsNetwork net → 0ℚ <ℚ cut_capacity net cut
  cut_capacity-positive good =
      let walk = good.reached net.sink good.sink in
      let c : Crossed = crossed walk.0 net.source walk.1 is.source in
      capacity_sum-positive cut net.links (λ e link p. IsPositive-link net e link good p) c.0 c.1 c.2 (has_capacity c.0 c.1 c.2 c.3 c.1.capacity refl)
    where
      has_capacity : (e : ℕ) (link : Link) → IsLink net e link → LeadsOut cut link → (capacity : Option ℚ) → link.capacity ≡ capacity → 0ℚ <ℚ outward cut link
      has_capacity e link p out None none = absurd (is.unbounded e link p none out)
      has_capacity e link p out (Some c) some = subst (λ (z : ℚ). 0ℚ <ℚ z)
          (sym (outward_capacity-is (cut link.tail) (cut link.head) link.capacity c out.tail out.head some)) (good.capacities e link c p some)

-- ---- the network of one link
module _ (transit : ℚ) (pieces : List Piece) where
  abbrev link_of : Option ℚ → Link
  link_of capacity = record { tail = 0; head = 1; transit = transit; capacity = capacity }

  one_capacity : (capacity : ℚ) (cut : Cut) → cut 0 ≡ true → cut 1 ≡ false → cut_capacity (one_link transit (Some capacity) pieces) cut ≡ capacity
  one_capacity capacity cut e f = first_and_zero _ 0ℚ capacity (outward_capacity-is (cut 0) (cut 1) (Some capacity) capacity e f refl) refl

  abbrev at_source : Cut
  at_source v = eqb v 0

  is_bounded : (capacity : ℚ) (e : ℕ) (link : Link) → slice_get (link_of (Some capacity) ∷ []) e ≡ Some link → link.capacity ≡ None → ⊥
  is_bounded capacity zero link p none = none-some capacity (sym none ∙ sym (ap (λ (k : Link). k.capacity) (same_Some (link_of (Some capacity)) link p)))
  is_bounded capacity (suc e) link p none = none-some link p

  pub IsLeastCapacity-one_link : (capacity : ℚ) → IsLeastCapacity (one_link transit (Some capacity) pieces) capacity
  IsLeastCapacity-one_link capacity = record {
    attained = (at_source, record { source = refl; sink = refl; unbounded = λ e link p none out. is_bounded capacity e link p none }, one_capacity capacity at_source refl refl);
    bound = λ cut is. subst (λ (z : ℚ). capacity ≤ℚ z) (sym (one_capacity capacity cut is.source is.sink)) (≤ℚ_refl capacity);
  }

  pub no_cut-one_link : (cut : Cut) → IsStaticCut (one_link transit None pieces) cut → ⊥
  no_cut-one_link cut is = is.unbounded 0 (link_of None) refl refl (record { tail = is.source; head = is.sink })
