-- Slopes that a static flow fits on each link grow by the cuts. The flow out of any cut, with the nodes of slopes above that of the sink, is at most
-- the slope of the sink times the capacity of the cut. If that slope is above 1, it is equal to that for the cut of the slower nodes.
use Rattle.std.proofs.Common.{◌≡◌, ◌≢◌, ℕ, ◌<◌, List, [], ◌∷◌, ◌⊎◌, inl, inr, ⊎_elim, Bool, true, false, if◌then◌else◌, Option, Some, None, sym, ap, subst, refl, ◌∙◌}
use Rattle.nf_forever_laws.proofs.Common.{none-some, ℚ, 0ℚ, 1ℚ, ◌-ℚ◌, ◌*ℚ◌, ◌≤ℚ◌, ◌<ℚ◌, lt_ℚ, reading_of, ≤ℚ_of_lt, ≤ℚ_antisymm, not_both_ℚ, nn_times, ≤ℚ_trans}
use Rattle.nf_forever_laws.proofs.Common.{≤_<_trans, <_≤_trans, less_of_test, test_of_less, not_less_of_test, not_less_itself, le, le_times, eq_times}
use Rattle.nf_forever_laws.proofs.Common.{linear_le, not_both, true_or_false, nn_of_one, number_at, Link, Network, IsNetwork, IsLink, IsPositive-link, Cut}
use Rattle.nf_forever_laws.proofs.Common.{LeadsOut, IsStaticCut, cut_capacity, slower_than_sink, GrowsByCuts}
use Rattle.nf_model_laws.proofs.Potential.{fall, out_less_in}
use Rattle.nf_complete_laws.specs.Oversupply.{Fits}
use Rattle.nf_forever_laws.proofs.Cuts.{outward_capacity-not_negative, outward_capacity-is, outward_capacity-inside, outward_capacity-outside, outward, one_if, one_in, carried_out, carried-below, carried-above}

-- A static flow of value `rate` from source to sink that fits the slopes on each link. The slope of the source is 1, and none is less.
pub record FitsSlopes (net : Network) (rate : ℚ) (flows : ℕ → ℚ) (slopes : List ℚ) : Type 0 where
  pub starts : number_at slopes net.source ≡ 1ℚ
  pub keeps_up : (v : ℕ) → v < net.nodes → 1ℚ ≤ℚ number_at slopes v
  pub fits : (e : ℕ) (link : Link) → IsLink net e link → Fits link.capacity (flows e) (number_at slopes link.tail) (number_at slopes link.head)
  pub source : out_less_in net.links flows net.source ≡ rate
  pub inner : (v : ℕ) → v < net.nodes → v ≢ net.source → v ≢ net.sink → out_less_in net.links flows v ≡ 0ℚ

-- ---- arithmetic: x is the flow of a link, a and b are the indicator at its tail and its head, r is its outward capacity, and s is the slope of
-- the sink
fall_none : (x a b s r : ℚ) → a ≡ b → 0ℚ ≤ℚ s *ℚ r → x *ℚ (a -ℚ b) ≤ℚ s *ℚ r
fall_none x a b s r e h = linear_le (x ∷ a ∷ b ∷ s ∷ r ∷ []) (eq_times x e ∷ le h ∷ []) (search reading_of) tt

fall_in : (x a b s r : ℚ) → a ≡ 0ℚ → b ≡ 1ℚ → 0ℚ ≤ℚ x → 0ℚ ≤ℚ s *ℚ r → x *ℚ (a -ℚ b) ≤ℚ s *ℚ r
fall_in x a b s r e f n h = linear_le (x ∷ a ∷ b ∷ s ∷ r ∷ []) (eq_times x e ∷ eq_times x f ∷ le n ∷ le h ∷ []) (search reading_of) tt

fall_out : (x a b s r : ℚ) → a ≡ 1ℚ → b ≡ 0ℚ → x ≤ℚ s *ℚ r → x *ℚ (a -ℚ b) ≤ℚ s *ℚ r
fall_out x a b s r e f h = linear_le (x ∷ a ∷ b ∷ s ∷ r ∷ []) (eq_times x e ∷ eq_times x f ∷ le h ∷ []) (search reading_of) tt

rise_none : (x a b s r : ℚ) → a ≡ b → r ≡ 0ℚ → s *ℚ r ≤ℚ x *ℚ (a -ℚ b)
rise_none x a b s r e f = linear_le (x ∷ a ∷ b ∷ s ∷ r ∷ []) (eq_times x e ∷ eq_times s f ∷ []) (search reading_of) tt

rise_in : (x a b s r : ℚ) → a ≡ 0ℚ → b ≡ 1ℚ → x ≤ℚ 0ℚ → r ≡ 0ℚ → s *ℚ r ≤ℚ x *ℚ (a -ℚ b)
rise_in x a b s r e f n h = linear_le (x ∷ a ∷ b ∷ s ∷ r ∷ []) (eq_times x e ∷ eq_times x f ∷ le n ∷ eq_times s h ∷ []) (search reading_of) tt

rise_out : (x a b s r : ℚ) → a ≡ 1ℚ → b ≡ 0ℚ → s *ℚ r ≤ℚ x → s *ℚ r ≤ℚ x *ℚ (a -ℚ b)
rise_out x a b s r e f h = linear_le (x ∷ a ∷ b ∷ s ∷ r ∷ []) (eq_times x e ∷ eq_times x f ∷ le h ∷ []) (search reading_of) tt

let_by : (x c t s r : ℚ) → 0ℚ ≤ℚ c → x ≤ℚ c *ℚ t → t ≤ℚ s → r ≡ c → x ≤ℚ s *ℚ r
let_by x c t s r n h k e = linear_le (x ∷ c ∷ t ∷ s ∷ r ∷ []) (le h ∷ le_times n k ∷ eq_times s e ∷ []) (search reading_of) tt

filled_by : (x c t s r : ℚ) → 0ℚ ≤ℚ c → c *ℚ t ≤ℚ x → s ≤ℚ t → r ≡ c → s *ℚ r ≤ℚ x
filled_by x c t s r n h k e = linear_le (x ∷ c ∷ t ∷ s ∷ r ∷ []) (le h ∷ le_times n k ∷ eq_times s e ∷ []) (search reading_of) tt

pub capacity_or_none : (capacity : Option ℚ) → ((c : ℚ) × (capacity ≡ Some c)) ⊎ (capacity ≡ None)
capacity_or_none None = inr refl
capacity_or_none (Some c) = inl (c, refl)

module _ (net : Network) (good : IsNetwork net) (rate : ℚ) (flow : ℕ → ℚ) (slopes : List ℚ) (fit : FitsSlopes net rate flow slopes) where
  abbrev slope : ℕ → ℚ
  slope = number_at slopes

  abbrev sink_slope : ℚ
  sink_slope = number_at slopes net.sink

  sink_nn : 0ℚ ≤ℚ sink_slope
  sink_nn = nn_of_one sink_slope (fit.keeps_up net.sink good.sink)

  no_flow_down : (e : ℕ) (link : Link) → IsLink net e link → slope link.head <ℚ slope link.tail → flow e ≤ℚ 0ℚ
  no_flow_down e link p down = ⊎_elim
      (λ (k : flow e ≤ℚ 0ℚ). k)
      (λ (k : slope link.tail ≤ℚ slope link.head). absurd (not_both_ℚ _ _ down k))
      (fit.fits e link p).used

  at_most : (e : ℕ) (link : Link) (c : ℚ) → IsLink net e link → link.capacity ≡ Some c → flow e ≤ℚ c *ℚ slope link.head
  at_most e link c p some = (fit.fits e link p).most c some

  outward-not_negative : (cut : Cut) (e : ℕ) (link : Link) → IsLink net e link → 0ℚ ≤ℚ sink_slope *ℚ outward cut link
  outward-not_negative cut e link p = nn_times sink_slope (outward cut link) sink_nn
      (outward_capacity-not_negative (cut link.tail) (cut link.head) link.capacity (IsPositive-link net e link good p))

  -- ---- each cut
  module _ (cut : Cut) (is : IsStaticCut net cut) where
    -- The cut and the nodes of slopes above that of the sink. No flow leaves the nodes that are added.
    abbrev wide : Cut
    wide v = if cut v then true else lt_ℚ sink_slope (slope v)

    wide_inside : (v : ℕ) → cut v ≡ true → wide v ≡ true
    wide_inside v e = ap (λ (b : Bool). if b then true else lt_ℚ sink_slope (slope v)) e

    wide_outside : (v : ℕ) → cut v ≡ false → wide v ≡ lt_ℚ sink_slope (slope v)
    wide_outside v e = ap (λ (b : Bool). if b then true else lt_ℚ sink_slope (slope v)) e

    -- A node outside of the wide set is outside of the cut, and its slope is at most that of the sink.
    outside : (v : ℕ) → wide v ≡ false → (cut v ≡ false) × (slope v ≤ℚ sink_slope)
    outside v h = ⊎_elim
        (λ (e : cut v ≡ true). absurd (not_both (wide v) (wide_inside v e) h))
        (λ (e : cut v ≡ false). (e, not_less_of_test sink_slope (slope v) (sym (wide_outside v e) ∙ h)))
        (true_or_false (cut v))

    wide_sink : wide net.sink ≡ false
    wide_sink = wide_outside net.sink is.sink ∙ not_less_itself sink_slope

    -- A link that leaves the wide set carries at most its outward capacity for the cut, times the slope of the sink.
    out_of_wide : (e : ℕ) (link : Link) → IsLink net e link → wide link.tail ≡ true → wide link.head ≡ false → flow e ≤ℚ sink_slope *ℚ outward cut link
    out_of_wide e link p inside h = ⊎_elim from_cut from_greater (true_or_false (cut link.tail))
      where
        head : (cut link.head ≡ false) × (slope link.head ≤ℚ sink_slope)
        head = outside link.head h

        from_cut : cut link.tail ≡ true → flow e ≤ℚ sink_slope *ℚ outward cut link
        from_cut tail = ⊎_elim
            (λ (k : (c : ℚ) × (link.capacity ≡ Some c)). let_by (flow e) k.0 (slope link.head) sink_slope (outward cut link)
            (≤ℚ_of_lt _ _ (good.capacities e link k.0 p k.1))
            (at_most e link k.0 p k.1) head.1 (outward_capacity-is (cut link.tail) (cut link.head) link.capacity k.0 tail head.0 k.1))
            (λ (k : link.capacity ≡ None). absurd (is.unbounded e link p k (record { tail = tail; head = head.0 })))
            (capacity_or_none link.capacity)

        from_greater : cut link.tail ≡ false → flow e ≤ℚ sink_slope *ℚ outward cut link
        from_greater tail = ≤ℚ_trans _ _ _
            (no_flow_down e link p (≤_<_trans (slope link.head) sink_slope (slope link.tail) head.1
            (less_of_test sink_slope (slope link.tail) (sym (wide_outside link.tail tail) ∙ inside))))
            (outward-not_negative cut e link p)

    each_below : (e : ℕ) (link : Link) → IsLink net e link → flow e *ℚ fall (one_in wide) link ≤ℚ sink_slope *ℚ outward cut link
    each_below e link p = ⊎_elim
        (λ (a : wide link.tail ≡ true). ⊎_elim
        (λ (b : wide link.head ≡ true). fall_none (flow e) (one_in wide link.tail) (one_in wide link.head) sink_slope (outward cut link)
        (ap one_if (a ∙ sym b)) n)
        (λ (b : wide link.head ≡ false). fall_out (flow e) (one_in wide link.tail) (one_in wide link.head) sink_slope (outward cut link) (ap one_if a)
        (ap one_if b) (out_of_wide e link p a b))
        (true_or_false (wide link.head)))
        (λ (a : wide link.tail ≡ false). ⊎_elim
        (λ (b : wide link.head ≡ true). fall_in (flow e) (one_in wide link.tail) (one_in wide link.head) sink_slope (outward cut link) (ap one_if a)
        (ap one_if b) ((fit.fits e link p).no_negative) n)
        (λ (b : wide link.head ≡ false). fall_none (flow e) (one_in wide link.tail) (one_in wide link.head) sink_slope (outward cut link)
        (ap one_if (a ∙ sym b)) n)
        (true_or_false (wide link.head)))
        (true_or_false (wide link.tail))
      where
        n : 0ℚ ≤ℚ sink_slope *ℚ outward cut link
        n = outward-not_negative cut e link p

    each_cut : rate ≤ℚ sink_slope *ℚ cut_capacity net cut
    each_cut = subst (λ (z : ℚ). z ≤ℚ sink_slope *ℚ cut_capacity net cut)
        (carried_out net good wide (wide_inside net.source is.source) wide_sink flow rate fit.source fit.inner)
        (carried-below (one_in wide) cut sink_slope net.links flow each_below)

  -- ---- the bottleneck
  module _ (grows : 1ℚ <ℚ sink_slope) where
    abbrev slower : Cut
    slower = slower_than_sink net slopes

    slower_source : slower net.source ≡ true
    slower_source = test_of_less (slope net.source) sink_slope (subst (λ (z : ℚ). z <ℚ sink_slope) (sym fit.starts) grows)

    slower_sink : slower net.sink ≡ false
    slower_sink = not_less_itself sink_slope

    -- A link that leaves the slower nodes leads to a greater slope.
    out_up : (link : Link) → LeadsOut slower link → slope link.tail <ℚ slope link.head
    out_up link out = <_≤_trans (slope link.tail) sink_slope (slope link.head) (less_of_test (slope link.tail) sink_slope out.tail)
        (not_less_of_test (slope link.head) sink_slope out.head)

    -- It is bounded and full.
    filled_up : (e : ℕ) (link : Link) → IsLink net e link → LeadsOut slower link → (c : ℚ) × (link.capacity ≡ Some c) × (c *ℚ slope link.head ≤ℚ flow e)
    filled_up e link p out = ⊎_elim
        (λ (k : slope link.head ≤ℚ slope link.tail). absurd (not_both_ℚ _ _ (out_up link out) k))
        (λ (w : (c : ℚ) × (link.capacity ≡ Some c) × (c *ℚ slope link.head ≤ℚ flow e)). w)
        (fit.fits e link p).upper

    out_bounded : (e : ℕ) (link : Link) → IsLink net e link → link.capacity ≡ None → LeadsOut slower link → ⊥
    out_bounded e link p none out = let w : (c : ℚ) × (link.capacity ≡ Some c) × (c *ℚ slope link.head ≤ℚ flow e) = filled_up e link p out in
        none-some w.0 (sym none ∙ w.1)

    is_cut : IsStaticCut net slower
    is_cut = record { source = slower_source; sink = slower_sink; unbounded = out_bounded }

    -- A link that leaves the slower nodes carries at least its capacity times the slope of the sink.
    out_filled : (e : ℕ) (link : Link) → IsLink net e link → LeadsOut slower link → sink_slope *ℚ outward slower link ≤ℚ flow e
    out_filled e link p out = let w : (c : ℚ) × (link.capacity ≡ Some c) × (c *ℚ slope link.head ≤ℚ flow e) = filled_up e link p out in
        filled_by (flow e) w.0 (slope link.head) sink_slope (outward slower link) (≤ℚ_of_lt _ _ (good.capacities e link w.0 p w.1)) w.2
        (not_less_of_test (slope link.head) sink_slope out.head)
        (outward_capacity-is (slower link.tail) (slower link.head) link.capacity w.0 out.tail out.head w.1)

    each_above : (e : ℕ) (link : Link) → IsLink net e link → sink_slope *ℚ outward slower link ≤ℚ flow e *ℚ fall (one_in slower) link
    each_above e link p = ⊎_elim
        (λ (a : slower link.tail ≡ true). ⊎_elim
        (λ (b : slower link.head ≡ true). rise_none (flow e) (one_in slower link.tail) (one_in slower link.head) sink_slope (outward slower link)
        (ap one_if (a ∙ sym b))
        (outward_capacity-inside (slower link.tail) (slower link.head) link.capacity b))
        (λ (b : slower link.head ≡ false). rise_out (flow e) (one_in slower link.tail) (one_in slower link.head) sink_slope (outward slower link)
        (ap one_if a) (ap one_if b)
        (out_filled e link p (record { tail = a; head = b })))
        (true_or_false (slower link.head)))
        (λ (a : slower link.tail ≡ false). ⊎_elim
        (λ (b : slower link.head ≡ true). rise_in (flow e) (one_in slower link.tail) (one_in slower link.head) sink_slope (outward slower link)
        (ap one_if a) (ap one_if b)
        (no_flow_down e link p (<_≤_trans (slope link.head) sink_slope (slope link.tail) (less_of_test (slope link.head) sink_slope b)
        (not_less_of_test (slope link.tail) sink_slope a)))
        (outward_capacity-outside (slower link.tail) (slower link.head) link.capacity a))
        (λ (b : slower link.head ≡ false). rise_none (flow e) (one_in slower link.tail) (one_in slower link.head) sink_slope (outward slower link)
        (ap one_if (a ∙ sym b))
        (outward_capacity-outside (slower link.tail) (slower link.head) link.capacity a))
        (true_or_false (slower link.head)))
        (true_or_false (slower link.tail))

    enough : sink_slope *ℚ cut_capacity net slower ≤ℚ rate
    enough = subst (λ (z : ℚ). sink_slope *ℚ cut_capacity net slower ≤ℚ z)
        (carried_out net good slower slower_source slower_sink flow rate fit.source fit.inner)
        (carried-above (one_in slower) slower sink_slope net.links flow each_above)

    bottleneck : IsStaticCut net slower × (rate ≡ sink_slope *ℚ cut_capacity net slower)
    bottleneck = (is_cut, ≤ℚ_antisymm _ _ (each_cut slower is_cut) enough)

  pub GrowsByCuts-fit : GrowsByCuts net rate slopes
  GrowsByCuts-fit = record { keeps_up = fit.keeps_up; each_cut = each_cut; bottleneck = bottleneck }
