-- The surplus of a node on the first links, link by link; and the ranges of the links' flows.
use Rattle.std.proofs.Common.{◌≡◌, ◌≢◌, ℕ, zero, suc, ◌<◌, ◌≤◌, List, [], ◌∷◌, length, take, get_or, ⊎_elim, Bool, true, false, eqb, not, refl, sym, ap}
use Rattle.std.proofs.Common.{subst, ◌∙◌, if◌then◌else◌, Option, Some, None, pos, slice_get, unwrap_or}
use Rattle.nf_thin_balance.proofs.Common.{length-map, take_all, eqb_tells, slice_get-map, slice_get_read, none-some, same_Some, ℚ, 0ℚ, whole, ◌+ℚ◌, ◌-ℚ◌}
use Rattle.nf_thin_balance.proofs.Common.{◌*ℚ◌, neg_ℚ, reading_of, eq, linear_eq, Passing, State, number_at, IsNetwork, Link, Network, IsLink, hop_of, hops}
use Rattle.nf_thin_balance.proofs.Common.{sum_in, sum_out, Hop, Sets, surplus, Pattern, Fills, Equation, Range, IsInRange, IsFull, MeetsState, scaled}
use Rattle.nf_thin_balance.proofs.Common.{CanFlow, surplus_by, surplus_of_first, BoundsFirst, BalancesNodes, needed_at}
use mathlib.Core.Bool.{beq}
use Rattle.std.specs.Option.{option_map}
use Rattle.nf_frac_def.specs.declared.Op.TheVariants.{Product}
use Rattle.nf_model_laws.proofs.Totals.{sink_takes}
use Rattle.nf_thin_balance.proofs.Within.{checked_is}
use Rattle.nf_thin_one.specs.Fulls.{full_of}

-- ---- one link more
first_term : (b : Bool) (a : ℚ) → (if b then a +ℚ 0ℚ else 0ℚ) ≡ 0ℚ +ℚ (if b then a else 0ℚ)
first_term true a = linear_eq (a ∷ []) [] (search reading_of depth 12) tt tt
first_term false a = linear_eq [] [] (search reading_of depth 12) tt tt

pub later_term : (b : Bool) (a s t c : ℚ) → s ≡ t +ℚ c → (if b then a +ℚ s else s) ≡ (if b then a +ℚ t else t) +ℚ c
later_term true a s t c e = linear_eq (a ∷ s ∷ t ∷ c ∷ []) (eq e ∷ []) (search reading_of depth 12) tt tt
later_term false a s t c e = e

sum_out-more : (links : List Link) (f : ℕ → ℚ) (v n : ℕ) (link : Link) → slice_get links n ≡ Some link
    → sum_out (take (suc n) links) f v ≡ sum_out (take n links) f v +ℚ (if eqb link.tail v then f n else 0ℚ)
sum_out-more [] f v n link h = absurd (none-some link h)
sum_out-more (l ∷ links) f v zero link h = ap (λ (k : Link). if eqb k.tail v then f 0 +ℚ 0ℚ else 0ℚ) (same_Some l link h) ∙ first_term (eqb link.tail v) (f 0)
sum_out-more (l ∷ links) f v (suc n) link h = later_term (eqb l.tail v) (f 0) _ _ _ (sum_out-more links (λ e. f (suc e)) v n link h)

sum_in-more : (links : List Link) (f : ℕ → ℚ) (v n : ℕ) (link : Link) → slice_get links n ≡ Some link
    → sum_in (take (suc n) links) f v ≡ sum_in (take n links) f v +ℚ (if eqb link.head v then f n else 0ℚ)
sum_in-more [] f v n link h = absurd (none-some link h)
sum_in-more (l ∷ links) f v zero link h = ap (λ (k : Link). if eqb k.head v then f 0 +ℚ 0ℚ else 0ℚ) (same_Some l link h) ∙ first_term (eqb link.head v) (f 0)
sum_in-more (l ∷ links) f v (suc n) link h = later_term (eqb l.head v) (f 0) _ _ _ (sum_in-more links (λ e. f (suc e)) v n link h)

-- By cases: the link leaves the node or not, and enters it or not.
both_or_none : (o p i j x : ℚ) (b : Bool) → o ≡ p +ℚ (if b then x else 0ℚ) → i ≡ j +ℚ (if b then x else 0ℚ) → p -ℚ j ≡ o -ℚ i
both_or_none o p i j x b e f = linear_eq (o ∷ p ∷ i ∷ j ∷ (if b then x else 0ℚ) ∷ []) (eq e ∷ eq f ∷ []) (search reading_of depth 12) tt tt

just_leaves : (o p i j x : ℚ) → o ≡ p +ℚ x → i ≡ j +ℚ 0ℚ → (p -ℚ j) +ℚ x ≡ o -ℚ i
just_leaves o p i j x e f = linear_eq (o ∷ p ∷ i ∷ j ∷ x ∷ []) (eq e ∷ eq f ∷ []) (search reading_of depth 12) tt tt

just_enters : (o p i j x : ℚ) → o ≡ p +ℚ 0ℚ → i ≡ j +ℚ x → (p -ℚ j) -ℚ x ≡ o -ℚ i
just_enters o p i j x e f = linear_eq (o ∷ p ∷ i ∷ j ∷ x ∷ []) (eq e ∷ eq f ∷ []) (search reading_of depth 12) tt tt

carries_none : (o p i j x : ℚ) (b c : Bool) → x ≡ 0ℚ → o ≡ p +ℚ (if b then x else 0ℚ) → i ≡ j +ℚ (if c then x else 0ℚ) → p -ℚ j ≡ o -ℚ i
carries_none o p i j x true true n e f = linear_eq (o ∷ p ∷ i ∷ j ∷ x ∷ []) (eq n ∷ eq e ∷ eq f ∷ []) (search reading_of depth 12) tt tt
carries_none o p i j x true false n e f = linear_eq (o ∷ p ∷ i ∷ j ∷ x ∷ []) (eq n ∷ eq e ∷ eq f ∷ []) (search reading_of depth 12) tt tt
carries_none o p i j x false true n e f = linear_eq (o ∷ p ∷ i ∷ j ∷ x ∷ []) (eq n ∷ eq e ∷ eq f ∷ []) (search reading_of depth 12) tt tt
carries_none o p i j x false false n e f = linear_eq (o ∷ p ∷ i ∷ j ∷ x ∷ []) (eq n ∷ eq e ∷ eq f ∷ []) (search reading_of depth 12) tt tt

module _ (net : Network) (flow : ℕ → ℚ) (v e : ℕ) (link : Link) (is_link : IsLink net e link) where
  abbrev before : ℚ
  before = surplus_of_first net flow v e

  abbrev x : ℚ
  x = flow e

  out_more : (b : Bool) → eqb link.tail v ≡ b → sum_out (take (suc e) net.links) flow v ≡ sum_out (take e net.links) flow v +ℚ (if b then x else 0ℚ)
  out_more b is = sum_out-more net.links flow v e link is_link ∙ ap (λ (c : Bool). sum_out (take e net.links) flow v +ℚ (if c then x else 0ℚ)) is

  in_more : (b : Bool) → eqb link.head v ≡ b → sum_in (take (suc e) net.links) flow v ≡ sum_in (take e net.links) flow v +ℚ (if b then x else 0ℚ)
  in_more b is = sum_in-more net.links flow v e link is_link ∙ ap (λ (c : Bool). sum_in (take e net.links) flow v +ℚ (if c then x else 0ℚ)) is

  pub same_surplus : eqb link.tail v ≡ eqb link.head v → before ≡ surplus_of_first net flow v (suc e)
  same_surplus same = both_or_none _ _ _ _ x (eqb link.head v) (out_more (eqb link.head v) same) (in_more (eqb link.head v) refl)

  pub idle_surplus : x ≡ 0ℚ → before ≡ surplus_of_first net flow v (suc e)
  idle_surplus none = carries_none _ _ _ _ x (eqb link.tail v) (eqb link.head v) none (out_more (eqb link.tail v) refl) (in_more (eqb link.head v) refl)

  pub greater_surplus : eqb link.tail v ≡ true → eqb link.head v ≡ false → before +ℚ x ≡ surplus_of_first net flow v (suc e)
  greater_surplus leaves enters = just_leaves _ _ _ _ x (out_more true leaves) (in_more false enters)

  pub lesser_surplus : eqb link.tail v ≡ false → eqb link.head v ≡ true → before -ℚ x ≡ surplus_of_first net flow v (suc e)
  lesser_surplus leaves enters = just_enters _ _ _ _ x (out_more false leaves) (in_more true enters)

-- No link.
pub none_sent : (net : Network) (flow : ℕ → ℚ) (v : ℕ) → 0ℚ ≡ surplus_of_first net flow v 0
none_sent net flow v = sym (less_itself 0ℚ)
  where
    less_itself : (a : ℚ) → a -ℚ a ≡ 0ℚ
    less_itself a = linear_eq (a ∷ []) [] (search reading_of depth 12) tt tt

-- The first links are all links.
pub surplus_of_all : (net : Network) (flow : ℕ → ℚ) (v n : ℕ) → length net.links ≤ n → surplus_of_first net flow v n ≡ surplus_by net flow v
surplus_of_all net flow v n all = ap (λ (links : List Link). sum_out links flow v -ℚ sum_in links flow v) (take_all n net.links all)

-- ---- the flow that fills a link
full_fills : (passes : Passing) (capacity : Option ℚ) (head_slope most : ℚ) → full_of passes capacity head_slope ≡ Some most → Fills capacity most head_slope
full_fills passes (Some capacity) head_slope most e = (capacity, refl, checked_is passes Product capacity head_slope most e)
full_fills passes None head_slope most e = absurd (none-some most e)

-- A range of the scaled flow.
pub full_known : (passes : Passing) (scale : ℕ) (capacity : Option ℚ) (head_slope most : ℚ) (range : Range) → full_of passes capacity head_slope ≡ Some most
    → IsInRange range (scaled scale most) → IsFull scale capacity head_slope range
full_known passes scale capacity head_slope most range e within = record {
  from = λ end at. (most, full_fills passes capacity head_slope most e, within.from end at);
  up_to = λ end at. (most, full_fills passes capacity head_slope most e, within.up_to end at);
}

-- No range.
pub full_unknown : (scale : ℕ) (capacity : Option ℚ) (head_slope : ℚ) (range : Range) → range.least ≡ None → range.greatest ≡ None → IsFull scale capacity head_slope range
full_unknown scale capacity head_slope range least greatest = record {
  from = λ end at. absurd (none-some end (sym least ∙ at));
  up_to = λ end at. absurd (none-some end (sym greatest ∙ at));
}

-- The range that is found for a link is the range of every link of this number.
pub full_at : (scale : ℕ) (net : Network) (slopes : List ℚ) (e : ℕ) (here : Link) (capacity : Option ℚ) (head_slope : ℚ) (range : Range) → IsLink net e here
    → capacity ≡ here.capacity → head_slope ≡ number_at slopes here.head → IsFull scale capacity head_slope range
    → (link : Link) → IsLink net e link → IsFull scale link.capacity (number_at slopes link.head) range
full_at scale net slopes e here capacity head_slope range is capacity_is head_is full link at =
    subst (λ (l : Link). IsFull scale l.capacity (number_at slopes l.head) range) (same_Some here link (sym is ∙ at))
    (subst (λ (c : Option ℚ). IsFull scale c (number_at slopes here.head) range) capacity_is (subst (λ (z : ℚ). IsFull scale capacity z range) head_is full))

-- ---- possible flows
module _ (scale : ℕ) (net : Network) (sets : Sets) (rate : ℚ) (pattern : Pattern) (full : List Range) (flows : List ℚ) (can : CanFlow scale net sets rate pattern full flows) where
  pub meets_state : (e : ℕ) (link : Link) (state : Option State) (resetting : Bool) (most : Range) → IsLink net e link → slice_get pattern e ≡ Some state
      → slice_get sets.resetting e ≡ Some resetting → slice_get full e ≡ Some most
      → MeetsState scale state resetting most link.capacity (number_at flows e) (number_at can.slopes link.tail) (number_at can.slopes link.head)
  meets_state e link state resetting most h at_state at_flag at_full = record {
    fills = can.full_are e most at_full link h;
    no_negative = can.meets.no_negative_flow e;
    equation = subst (λ (b : Bool). Equation state b link.capacity (number_at flows e) (number_at can.slopes link.tail) (number_at can.slopes link.head))
        (ap (λ (o : Option Bool). unwrap_or o false) at_flag) (can.solves.links e link state h at_state);
    inequality = can.meets.links e link state h at_state;
  }

  -- Each node has the surplus that it needs.
  pub conserves : IsNetwork net → BalancesNodes net rate (number_at flows)
  conserves good v within = ⊎_elim
      (λ (t : (eqb v net.sink ≡ true) × (v ≡ net.sink)). ap (surplus net flows) t.1
      ∙ (sink_takes net good (number_at flows) rate can.solves.source can.solves.inner
      ∙ (other_sign rate ∙ sym (ap (λ (b : Bool). if b then neg_ℚ rate else (if eqb v net.source then rate else 0ℚ)) t.0))))
      (λ (t : (eqb v net.sink ≡ false) × (v ≢ net.sink)). ⊎_elim
      (λ (s : (eqb v net.source ≡ true) × (v ≡ net.source)). ap (surplus net flows) s.1 ∙ (can.solves.source ∙ sym (ap (λ (b : Bool). if b then rate else 0ℚ) s.0)))
      (λ (s : (eqb v net.source ≡ false) × (v ≢ net.source)). can.solves.inner v within s.1 t.1 ∙ sym (ap (λ (b : Bool). if b then rate else 0ℚ) s.0))
      (eqb_tells v net.source)
      ∙ sym (ap (λ (b : Bool). if b then neg_ℚ rate else (if eqb v net.source then rate else 0ℚ)) t.0))
      (eqb_tells v net.sink)
    where
      other_sign : (r : ℚ) → 0ℚ -ℚ r ≡ neg_ℚ r
      other_sign r = linear_eq (r ∷ []) [] (search reading_of depth 12) tt tt

-- A test that holds is not refused.
pub failing : (b : Bool) → not b ≡ true → b ≡ true → ⊥
failing true fails holds = cc
failing false fails holds = cc

-- ---- scaled flows
module _ (s : ℚ) where
  term : (b : Bool) (a t u : ℚ) → t ≡ s *ℚ u → (if b then s *ℚ a +ℚ t else t) ≡ s *ℚ (if b then a +ℚ u else u)
  term true a t u e = linear_eq (s ∷ a ∷ t ∷ u ∷ []) (eq e ∷ []) (search reading_of depth 12) tt tt
  term false a t u e = e

  nil : 0ℚ ≡ s *ℚ 0ℚ
  nil = linear_eq (s ∷ []) [] (search reading_of depth 12) tt tt

  out_times : (links : List Link) (f : ℕ → ℚ) (v : ℕ) → sum_out links (λ e. s *ℚ f e) v ≡ s *ℚ sum_out links f v
  out_times [] f v = nil
  out_times (l ∷ links) f v = term (eqb l.tail v) (f 0) _ _ (out_times links (λ e. f (suc e)) v)

  in_times : (links : List Link) (f : ℕ → ℚ) (v : ℕ) → sum_in links (λ e. s *ℚ f e) v ≡ s *ℚ sum_in links f v
  in_times [] f v = nil
  in_times (l ∷ links) f v = term (eqb l.head v) (f 0) _ _ (in_times links (λ e. f (suc e)) v)

  surplus_times : (o p i j n : ℚ) → o ≡ s *ℚ p → i ≡ s *ℚ j → p -ℚ j ≡ n → o -ℚ i ≡ s *ℚ n
  surplus_times o p i j n e f h = linear_eq (s ∷ o ∷ p ∷ i ∷ j ∷ []) (eq e ∷ eq f ∷ []) {x = o -ℚ i} {y = s *ℚ (p -ℚ j)} (search reading_of depth 12) tt tt
      ∙ ap (λ (z : ℚ). s *ℚ z) h

  needed_times : (b c : Bool) (r : ℚ) → s *ℚ (if b then neg_ℚ r else (if c then r else 0ℚ)) ≡ (if b then neg_ℚ (s *ℚ r) else (if c then s *ℚ r else 0ℚ))
  needed_times true c r = linear_eq (s ∷ r ∷ []) [] (search reading_of depth 12) tt tt
  needed_times false true r = refl
  needed_times false false r = sym nil

pub scaled_conserves : (net : Network) (scale : ℕ) (rate : ℚ) (flow : ℕ → ℚ) → BalancesNodes net rate flow → BalancesNodes net (scaled scale rate) (λ e. scaled scale (flow e))
scaled_conserves net scale rate flow conserves v within =
    surplus_times (whole (pos scale)) _ _ _ _ _ (out_times (whole (pos scale)) net.links flow v) (in_times (whole (pos scale)) net.links flow v) (conserves v within)
    ∙ needed_times (whole (pos scale)) (eqb v net.sink) (eqb v net.source) rate

-- ---- the surplus that a node needs
eqb_at : (b t : Bool) (v w k : ℕ) → b ≡ eqb v w → w ≡ k → b ≡ t → eqb v k ≡ t
eqb_at b t v w k is same told = ap (eqb v) (sym same) ∙ (sym is ∙ told)

module _ (net : Network) (rate : ℚ) (v w : ℕ) (takes : Bool) (takes_is : takes ≡ eqb v w) (sink_is : w ≡ net.sink) where
  pub needed_sink : takes ≡ true → 0ℚ -ℚ rate ≡ needed_at net rate v
  needed_sink told = other_sign rate ∙ sym (ap (λ (b : Bool). if b then neg_ℚ rate else (if eqb v net.source then rate else 0ℚ)) (eqb_at takes true v w net.sink takes_is sink_is told))
    where
      other_sign : (r : ℚ) → 0ℚ -ℚ r ≡ neg_ℚ r
      other_sign r = linear_eq (r ∷ []) [] (search reading_of depth 12) tt tt

  module _ (k : ℕ) (sends : Bool) (sends_is : sends ≡ eqb v k) (source_is : k ≡ net.source) (not_sink : takes ≡ false) where
    at_other : (b : Bool) → sends ≡ b → needed_at net rate v ≡ (if b then rate else 0ℚ)
    at_other b told = ap (λ (t : Bool). if t then neg_ℚ rate else (if eqb v net.source then rate else 0ℚ)) (eqb_at takes false v w net.sink takes_is sink_is not_sink)
        ∙ ap (λ (t : Bool). if t then rate else 0ℚ) (eqb_at sends b v k net.source sends_is source_is told)

    pub needed_source : sends ≡ true → rate ≡ needed_at net rate v
    needed_source told = sym (at_other true told)

    pub needed_none : sends ≡ false → 0ℚ ≡ needed_at net rate v
    needed_none told = sym (at_other false told)

-- ---- one more link, with bounded surplus on the links before it
-- the link of a hop that is read
pub link_read : (net : Network) (listed : List Hop) (e i : ℕ) (hop : Hop) → listed ≡ hops net → i ≡ e → e < length net.links → hop ≡ get_or listed i hop
    → (link : Link) × IsLink net e link × (link.tail ≡ hop.tail) × (link.head ≡ hop.head)
link_read net listed e i hop same index within is = go (slice_get net.links e) refl
  where
    at : slice_get (hops net) e ≡ Some hop
    at = slice_get_read (hops net) (length net.links) e hop (sym (length-map net.links hop_of)) within
        (is ∙ (ap (λ (l : List Hop). get_or l i hop) same ∙ ap (λ (k : ℕ). get_or (hops net) k hop) index))

    go : (found : Option Link) → slice_get net.links e ≡ found → (link : Link) × IsLink net e link × (link.tail ≡ hop.tail) × (link.head ≡ hop.head)
    go None none = absurd (none-some hop (sym (slice_get-map hop_of net.links e ∙ ap (option_map hop_of) none) ∙ at))
    go (Some link) there =
        let one : hop_of link ≡ hop = same_Some (hop_of link) hop (sym (slice_get-map hop_of net.links e ∙ ap (option_map hop_of) there) ∙ at) in
        (link, there, ap (λ (h : Hop). h.tail) one, ap (λ (h : Hop). h.head) one)

-- A test of the hop's end is a test of the link's end.
pub end_test : (b : Bool) (inside read here v : ℕ) → b ≡ eqb inside v → inside ≡ read → here ≡ read → eqb here v ≡ b
end_test b inside read here v is same found = ap (λ (k : ℕ). eqb k v) (found ∙ sym same) ∙ sym is

same_bits : (a b : Bool) → beq a b ≡ true → a ≡ b
same_bits true b e = sym (beq_true b e)
  where
    beq_true : (b : Bool) → beq true b ≡ true → b ≡ true
    beq_true true e = refl
    beq_true false e = e
same_bits false true e = e
same_bits false false e = refl

pub other_false : (a b : Bool) → beq a b ≡ false → a ≡ true → b ≡ false
other_false true true e t = e
other_false true false e t = refl
other_false false b e t = absurd (cc)

pub other_true : (a b : Bool) → beq a b ≡ false → a ≡ false → b ≡ true
other_true false true e t = refl
other_true false false e t = sym e
other_true true b e t = absurd (cc)

-- The surplus for one flow.
module _ (net : Network) (flow : ℕ → ℚ) (v e : ℕ) (range : Range) (link : Link) (is_link : IsLink net e link)
    (so_far : IsInRange range (surplus_of_first net flow v e)) (leaves enters : Bool) (tail_is : eqb link.tail v ≡ leaves) (head_is : eqb link.head v ≡ enters) where
  pub one_still : beq leaves enters ≡ true → IsInRange range (surplus_of_first net flow v (suc e))
  one_still same = subst (IsInRange range) (same_surplus net flow v e link is_link (tail_is ∙ (same_bits leaves enters same ∙ sym head_is))) so_far

  module _ (apart : beq leaves enters ≡ false) (here more : Range) (is : IsInRange here (flow e)) where
    pub one_sum : leaves ≡ true → ((x y : ℚ) → IsInRange range x → IsInRange here y → IsInRange more (x +ℚ y)) → IsInRange more (surplus_of_first net flow v (suc e))
    one_sum out sums = subst (IsInRange more) (greater_surplus net flow v e link is_link (tail_is ∙ out) (head_is ∙ other_false leaves enters apart out)) (sums _ _ so_far is)

    pub one_difference : leaves ≡ false → ((x y : ℚ) → IsInRange range x → IsInRange here y → IsInRange more (x -ℚ y)) → IsInRange more (surplus_of_first net flow v (suc e))
    one_difference not_out differences =
        subst (IsInRange more) (lesser_surplus net flow v e link is_link (tail_is ∙ not_out) (head_is ∙ other_true leaves enters apart not_out)) (differences _ _ so_far is)

-- A link without flow changes nothing.
pub bounds_idle : (net : Network) (ranges : List Range) (v e : ℕ) (range : Range) (link : Link) → IsLink net e link → BoundsFirst net ranges v e range
    → (here : Range) → slice_get ranges e ≡ Some here → ((x : ℚ) → IsInRange here x → x ≡ 0ℚ) → BoundsFirst net ranges v (suc e) range
bounds_idle net ranges v e range link is_link so_far here at nothing flow within =
    subst (IsInRange range) (idle_surplus net flow v e link is_link (nothing (flow e) (within e here at))) (so_far flow within)

module _ (net : Network) (ranges : List Range) (v e : ℕ) (range : Range) (link : Link) (is_link : IsLink net e link)
    (so_far : BoundsFirst net ranges v e range) (leaves enters : Bool) (tail_is : eqb link.tail v ≡ leaves) (head_is : eqb link.head v ≡ enters) where
  pub bounds_still : beq leaves enters ≡ true → BoundsFirst net ranges v (suc e) range
  bounds_still same flow within = subst (IsInRange range) (same_surplus net flow v e link is_link (tail_is ∙ (same_bits leaves enters same ∙ sym head_is))) (so_far flow within)

  module _ (apart : beq leaves enters ≡ false) (here more : Range) (at : slice_get ranges e ≡ Some here) where
    pub bounds_sum : leaves ≡ true → ((x y : ℚ) → IsInRange range x → IsInRange here y → IsInRange more (x +ℚ y)) → BoundsFirst net ranges v (suc e) more
    bounds_sum out sums flow within = subst (IsInRange more) (greater_surplus net flow v e link is_link (tail_is ∙ out) (head_is ∙ other_false leaves enters apart out))
        (sums _ _ (so_far flow within) (within e here at))

    pub bounds_difference : leaves ≡ false → ((x y : ℚ) → IsInRange range x → IsInRange here y → IsInRange more (x -ℚ y)) → BoundsFirst net ranges v (suc e) more
    bounds_difference not_out differences flow within = subst (IsInRange more)
        (lesser_surplus net flow v e link is_link (tail_is ∙ not_out) (head_is ∙ other_true leaves enters apart not_out))
        (differences _ _ (so_far flow within) (within e here at))
