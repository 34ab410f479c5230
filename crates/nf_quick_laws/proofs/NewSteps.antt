-- A push along the first residual walk, of an amount for which it has room, keeps a flow sound.
use Rattle.std.proofs.Common.{◌≡◌, ◌≢◌, ℕ, ◌<◌, List, [], ◌∷◌, ◌⊎◌, inl, inr, ⊎_elim, Bool, true, false, Option, Some, None, sym, ap, subst, refl, ◌∙◌}
use Rattle.nf_quick_laws.proofs.Common.{moved_by_one, same_Some, append-nil, ℚ, 0ℚ, 1ℚ, ◌+ℚ◌, ◌-ℚ◌, ◌*ℚ◌, ◌≤ℚ◌, ◌<ℚ◌, lt_ℚ, reading_of, less_of_test, le}
use Rattle.nf_quick_laws.proofs.Common.{lt, eq, eq_times, linear_le, linear_eq, moved_by_zero, zero_not_above, number_at, Link, Network, IsLink, IsNetwork}
use Rattle.nf_quick_laws.proofs.Common.{hops, sum_in, sum_out, transit_of, sum_in-same, sum_out-same, sum_in-none, sum_in-line, sum_out-line, only_at}
use Rattle.nf_quick_laws.proofs.Common.{only_at-here, only_at-else, Step, begin_of, end_of, directed, can_go, Leads, IsResidualWalk, step_length}
use Rattle.nf_quick_laws.proofs.Common.{walk_length, IsSound, flow_value, cost_of, IsLeastLength, IsFirstWalk, HasRoomAlong, HasRoom, HasRoomOn, crossed}
use Rattle.nf_quick_laws.proofs.Common.{IsPushed, EachHasLeast}
use Rattle.nf_quick_laws.proofs.ResidualWalks.{Leads-turn}
use Rattle.nf_quick_laws.proofs.Potentials.{ArePotentials, ArePotentials-walk, ArePotentials-between, ArePotentials-least, IsLeastLength-one}
use Rattle.nf_quick_laws.proofs.Apart.{EachStep, AreApart, IsFine, front_least, all_fine, all_apart}
use Rattle.nf_quick_laws.proofs.Crossings.{IsTaken, crossed-cases, crossed-balance, crossed-cost, cost_from-same, cost_from-plus, cost_from-times}

-- ---- numbers: y is the new flow, x the old one, c the crossings of the link
pub shrinks : (x y c a : ℚ) → c ≡ 0ℚ -ℚ 1ℚ → y ≡ x +ℚ c *ℚ a → y ≡ x -ℚ a
shrinks x y c a e f = linear_eq (x ∷ y ∷ c ∷ a ∷ []) (eq_times a e ∷ eq f ∷ []) (search reading_of) tt tt

more_nn : (x y a : ℚ) → 0ℚ ≤ℚ x → 0ℚ <ℚ a → y ≡ x +ℚ a → 0ℚ ≤ℚ y
more_nn x y a h k e = linear_le (x ∷ y ∷ a ∷ []) (le h ∷ lt k ∷ eq e ∷ []) (search reading_of) tt

pub less_nn : (x y a : ℚ) → a ≤ℚ x → y ≡ x -ℚ a → 0ℚ ≤ℚ y
less_nn x y a h e = linear_le (x ∷ y ∷ a ∷ []) (le h ∷ eq e ∷ []) (search reading_of) tt

more_within : (x y a m : ℚ) → x +ℚ a ≤ℚ m → y ≡ x +ℚ a → y ≤ℚ m
more_within x y a m h e = linear_le (x ∷ y ∷ a ∷ m ∷ []) (le h ∷ eq e ∷ []) (search reading_of) tt

less_within : (x y a m : ℚ) → x ≤ℚ m → 0ℚ <ℚ a → y ≡ x -ℚ a → y ≤ℚ m
less_within x y a m h k e = linear_le (x ∷ y ∷ a ∷ m ∷ []) (le h ∷ lt k ∷ eq e ∷ []) (search reading_of) tt

same_within : (x y m : ℚ) → x ≤ℚ m → y ≡ x → y ≤ℚ m
same_within x y m h e = linear_le (x ∷ y ∷ m ∷ []) (le h ∷ eq e ∷ []) (search reading_of) tt

same_nn : (x y : ℚ) → 0ℚ ≤ℚ x → y ≡ x → 0ℚ ≤ℚ y
same_nn x y h e = linear_le (x ∷ y ∷ []) (le h ∷ eq e ∷ []) (search reading_of) tt

-- By the direction in which the link is used.
new_nn : (d : Bool) (capacity : Option ℚ) (x y c a : ℚ) → 0ℚ ≤ℚ x → 0ℚ <ℚ a → c ≡ directed d 1ℚ → y ≡ x +ℚ c *ℚ a → HasRoomAlong d capacity x a → 0ℚ ≤ℚ y
new_nn true capacity x y c a h k e f room = more_nn x y a h k (moved_by_one x y c a e f)
new_nn false capacity x y c a h k e f room = less_nn x y a room (shrinks x y c a e f)

new_within : (d : Bool) (capacity : Option ℚ) (x y c a most : ℚ) → capacity ≡ Some most → x ≤ℚ most → 0ℚ <ℚ a → c ≡ directed d 1ℚ → y ≡ x +ℚ c *ℚ a → HasRoomAlong d capacity x a
    → y ≤ℚ most
new_within true None x y c a most p h k e f room = absurd (cc)
new_within true (Some capacity) x y c a most p h k e f room = more_within x y a most (subst (λ (m : ℚ). x +ℚ a ≤ℚ m) (same_Some capacity most p) room) (moved_by_one x y c a e f)
new_within false capacity x y c a most p h k e f room = less_within x y a most h k (shrinks x y c a e f)

same_ways : (c d : Bool) → (c ≡ d) ⊎ (c ≡ d → ⊥)
same_ways true true = inl refl
same_ways true false = inr (λ e. cc)
same_ways false true = inr (λ e. cc)
same_ways false false = inl refl

-- The length of a backward step.
turned_length : (c d : Bool) (r : ℚ) → (c ≡ d → ⊥) → directed c r ≡ 0ℚ -ℚ directed d r
turned_length true true r h = absurd (h refl)
turned_length true false r h = linear_eq (r ∷ []) [] (search reading_of) tt tt
turned_length false true r h = refl
turned_length false false r h = absurd (h refl)

back_from : (d e s t : ℚ) → d ≡ e +ℚ s → t ≡ 0ℚ -ℚ s → e ≤ℚ d +ℚ t
back_from d e s t p q = linear_le (d ∷ e ∷ s ∷ t ∷ []) (eq p ∷ eq q ∷ []) (search reading_of) tt

closed_nn : (d l : ℚ) → d ≤ℚ d +ℚ l → 0ℚ ≤ℚ l
closed_nn d l h = linear_le (d ∷ l ∷ []) (le h ∷ []) (search reading_of) tt

each_both : (P R : Step → Type 0) (walk : List Step) → EachStep P walk → EachStep R walk → EachStep (λ step. P step × R step) walk
each_both P R [] p r = tt
each_both P R (step ∷ walk) p r = ((p.0, r.0), each_both P R walk p.1 r.1)

room_each : (net : Network) (flows : List ℚ) (amount : ℚ) (walk : List Step) → HasRoomOn net flows amount walk → EachStep (HasRoom net flows amount) walk
room_each net flows amount [] r = tt
room_each net flows amount (step ∷ walk) r = (r.0, room_each net flows amount walk r.1)

module _ (net : Network) (flows new : List ℚ) (walk : List Step) (amount : ℚ) (good : IsNetwork net) (sound : IsSound net flows) (each : EachHasLeast net flows net.source)
    (first : IsFirstWalk net flows net.source net.sink walk) (some : 0ℚ <ℚ amount) (room : HasRoomOn net flows amount walk) (pushed : IsPushed flows walk amount new) where
  abbrev Fine : Step → Type 0
  Fine = IsFine net flows net.source net.sink walk sound.closed first

  abbrev FineRoom : Step → Type 0
  FineRoom step = Fine step × HasRoom net flows amount step

  fine_room : EachStep FineRoom walk
  fine_room = each_both Fine (HasRoom net flows amount) walk
      (all_fine net flows net.source net.sink walk sound.closed first [] walk net.source refl refl first.is_walk) (room_each net flows amount walk room)

  apart : AreApart walk
  apart = all_apart net flows net.source net.sink walk sound.closed first [] walk net.source refl refl first.is_walk

  abbrev Taken : ℕ → Type 0
  Taken e = IsTaken FineRoom walk e

  taken_or_not : (e : ℕ) → (crossed walk e ≡ 0ℚ) ⊎ Taken e
  taken_or_not e = crossed-cases FineRoom walk e apart fine_room

  -- The link of a step of the walk.
  taken_link : (e : ℕ) (t : Taken e) → IsLink net e t.holds.0.leads.link
  taken_link e t = subst (λ (k : ℕ). IsLink net k t.holds.0.leads.link) t.link t.holds.0.leads.is_link

  taken_room : (e : ℕ) (t : Taken e) → HasRoomAlong t.step.forward t.holds.0.leads.link.capacity (number_at flows e) amount
  taken_room e t = subst (λ (k : ℕ). HasRoomAlong t.step.forward t.holds.0.leads.link.capacity (number_at flows k) amount) t.link (t.holds.1 t.holds.0.leads.link t.holds.0.leads.is_link)

  same_link : (e : ℕ) (k l : Link) → IsLink net e k → IsLink net e l → k ≡ l
  same_link e k l p q = cc

  at_least : (e : ℕ) → 0ℚ ≤ℚ number_at new e
  at_least e = ⊎_elim
      (λ (z : crossed walk e ≡ 0ℚ). same_nn _ _ (sound.flow.at_least e) (moved_by_zero _ _ _ amount z (pushed.flow e)))
      (λ (t : Taken e). new_nn t.step.forward t.holds.0.leads.link.capacity (number_at flows e) (number_at new e) (crossed walk e) amount
      (sound.flow.at_least e) some t.once (pushed.flow e) (taken_room e t))
      (taken_or_not e)

  at_most : (e : ℕ) (link : Link) (capacity : ℚ) → IsLink net e link → link.capacity ≡ Some capacity → number_at new e ≤ℚ capacity
  at_most e link capacity p c = ⊎_elim
      (λ (z : crossed walk e ≡ 0ℚ). same_within _ _ capacity (sound.flow.at_most e link capacity p c) (moved_by_zero _ _ _ amount z (pushed.flow e)))
      (λ (t : Taken e). new_within t.step.forward t.holds.0.leads.link.capacity (number_at flows e) (number_at new e) (crossed walk e) amount capacity
      (ap (λ (l : Link). l.capacity) (same_link e t.holds.0.leads.link link (taken_link e t) p) ∙ c) (sound.flow.at_most e link capacity p c) some t.once
      (pushed.flow e) (taken_room e t))
      (taken_or_not e)

  -- ---- sums at the nodes
  out_new : (v : ℕ) → sum_out net.links (number_at new) v ≡ sum_out net.links (number_at flows) v +ℚ sum_out net.links (crossed walk) v *ℚ amount
  out_new v =
      sum_out-same net.links (number_at new) (λ e. number_at flows e +ℚ crossed walk e *ℚ amount) v (λ e _ _ _. pushed.flow e)
      ∙ sum_out-line net.links (number_at flows) (crossed walk) amount v

  in_new : (v : ℕ) → sum_in net.links (number_at new) v ≡ sum_in net.links (number_at flows) v +ℚ sum_in net.links (crossed walk) v *ℚ amount
  in_new v =
      sum_in-same net.links (number_at new) (λ e. number_at flows e +ℚ crossed walk e *ℚ amount) v (λ e _ _ _. pushed.flow e)
      ∙ sum_in-line net.links (number_at flows) (crossed walk) amount v

  kept : (o i p q y z a b amount : ℚ) → y ≡ o +ℚ p *ℚ amount → z ≡ i +ℚ q *ℚ amount → o ≡ i → p -ℚ q ≡ a -ℚ b → a ≡ 0ℚ → b ≡ 0ℚ → y ≡ z
  kept o i p q y z a b m e f g h k l = linear_eq (o ∷ i ∷ p ∷ q ∷ y ∷ z ∷ a ∷ b ∷ m ∷ []) (eq e ∷ eq f ∷ eq g ∷ eq_times m h ∷ eq_times m k ∷ eq_times m l ∷ []) (search reading_of) tt tt

  inner : (v : ℕ) → v < net.nodes → v ≢ net.source → v ≢ net.sink → sum_out net.links (number_at new) v ≡ sum_in net.links (number_at new) v
  inner v h other_source other_sink = kept _ _ _ _ _ _ (only_at net.source 1ℚ v) (only_at net.sink 1ℚ v) amount (out_new v) (in_new v) (sound.flow.inner v h other_source other_sink)
      (crossed-balance net flows walk net.source net.sink v first.is_walk)
      (only_at-else net.source 1ℚ v (λ e. other_source (sym e))) (only_at-else net.sink 1ℚ v (λ e. other_sink (sym e)))

  -- ---- new residual steps
  -- A backward step along a step of the walk.
  pub record IsTurned (step : Step) : Type 0 where
    pub back : Step
    pub fine : Fine back
    pub link : back.link ≡ step.link
    pub other : back.forward ≡ step.forward → ⊥

  new_step : (step : Step) (v w : ℕ) → Leads net new step v w → Leads net flows step v w ⊎ IsTurned step
  new_step step v w l = ⊎_elim
      (λ (z : crossed walk step.link ≡ 0ℚ). inl (record {
        link = l.link;
        is_link = l.is_link;
        begins = l.begins;
        ends = l.ends;
        goes = ap (λ (x : ℚ). can_go step.forward l.link.capacity x) (sym (moved_by_zero _ _ _ amount z (pushed.flow step.link))) ∙ l.goes;
      }))
      (λ (t : Taken step.link). ⊎_elim
      (λ (e : t.step.forward ≡ step.forward). inl (record {
        link = l.link;
        is_link = l.is_link;
        begins = l.begins;
        ends = l.ends;
        goes = can_still t e;
      }))
      (λ (e : t.step.forward ≡ step.forward → ⊥). inr (record { back = t.step; fine = t.holds.0; link = t.link; other = e }))
      (same_ways t.step.forward step.forward))
      (taken_or_not step.link)
    where
      can_still : (t : Taken step.link) → t.step.forward ≡ step.forward → can_go step.forward l.link.capacity (number_at flows step.link) ≡ true
      can_still t e =
          ap (λ (d : Bool). can_go d l.link.capacity (number_at flows step.link)) (sym e)
          ∙ ap (λ (k : Link). can_go t.step.forward k.capacity (number_at flows step.link)) (sym (same_link step.link t.holds.0.leads.link l.link (taken_link step.link t) l.is_link))
          ∙ ap (λ (k : ℕ). can_go t.step.forward t.holds.0.leads.link.capacity (number_at flows k)) (sym t.link) ∙ t.holds.0.leads.goes

  abbrev At : ℕ → ℚ → Type 0
  At = IsLeastLength net flows net.source

  fits : ArePotentials net flows At
  fits = ArePotentials-least net flows net.source each

  turned_back : (step : Step) (v w : ℕ) (d : ℚ) → At v d → Leads net new step v w → (t : IsTurned step) → (c : ℚ) × At w c × (c ≤ℚ d +ℚ step_length net step)
  turned_back step v w d a l t =
      let turn : (t.fine.begin ≡ w) × (t.fine.end ≡ v) = Leads-turn net flows new t.back step t.fine.begin t.fine.end v w t.fine.leads l t.link t.other in (
        t.fine.distance,
        subst (λ (k : ℕ). At k t.fine.distance) turn.0 t.fine.at_begin,
        back_from d t.fine.distance (step_length net t.back) (step_length net step)
            (IsLeastLength-one net flows net.source v d _ a (subst (λ (k : ℕ). At k (t.fine.distance +ℚ step_length net t.back)) turn.1 t.fine.at_end))
            (length_back step t),
      )
    where
      length_back : (step : Step) (t : IsTurned step) → step_length net step ≡ 0ℚ -ℚ step_length net t.back
      length_back step t = ap (λ (k : ℕ). directed step.forward (transit_of (hops net) k)) (sym t.link) ∙ turned_length step.forward t.back.forward _ (λ e. t.other (sym e))

  -- The least lengths before the push are still potentials.
  pub fits_new : ArePotentials net new At
  fits_new = record {
    one = fits.one;
    step = λ step v w d a l. ⊎_elim
        (λ (old : Leads net flows step v w). fits.step step v w d a old)
        (λ (t : IsTurned step). turned_back step v w d a l t)
        (new_step step v w l);
  }

  abbrev Unreached : ℕ → Type 0
  Unreached v = (other : List Step) → IsResidualWalk net flows other net.source v → ⊥

  -- A node that was not reached has no new step.
  old_step : (step : Step) (v w : ℕ) → Unreached v → Leads net new step v w → Leads net flows step v w
  old_step step v w none l = ⊎_elim
      (λ (old : Leads net flows step v w). old)
      (λ (t : IsTurned step).
      let turn : (t.fine.begin ≡ w) × (t.fine.end ≡ v) = Leads-turn net flows new t.back step t.fine.begin t.fine.end v w t.fine.leads l t.link t.other in
      absurd (none t.fine.at_end.taken.0 (subst (λ (k : ℕ). IsResidualWalk net flows t.fine.at_end.taken.0 net.source k) turn.1 t.fine.at_end.taken.1)))
      (new_step step v w l)

  old_walk : (other : List Step) (v w : ℕ) → Unreached w → IsResidualWalk net new other v w → IsResidualWalk net flows other v w
  old_walk [] v w none p = p
  old_walk (step ∷ other) v w none p = ⊎_elim
      (λ (a : (least : ℚ) × At v least).
      let r : (c : ℚ) × At w c × (c ≤ℚ a.0 +ℚ walk_length net (step ∷ other)) = ArePotentials-walk net new At fits_new (step ∷ other) v w a.0 a.1 p in
      absurd (none r.1.taken.0 r.1.taken.1))
      (λ (n : Unreached v). (p.0, old_step step v p.0 n p.1, old_walk other p.0 w none p.2))
      (each v)

  closed : (other : List Step) (v : ℕ) → IsResidualWalk net new other v v → 0ℚ ≤ℚ walk_length net other
  closed other v p = ⊎_elim
      (λ (a : (least : ℚ) × At v least). closed_nn a.0 _ (ArePotentials-between net new At fits_new other v v a.0 a.0 a.1 a.1 p))
      (λ (none : Unreached v). sound.closed other v (old_walk other v v none p))
      (each v)

  -- ---- no flow into the source, and none out of the sink
  no_flow_back : (x : ℚ) → x ≡ 0ℚ → lt_ℚ 0ℚ x ≡ true → ⊥
  no_flow_back x e t = zero_not_above x e (less_of_test 0ℚ x t)

  -- A backward step along the link would need flow.
  only_along : (e : ℕ) (t : Taken e) → number_at flows e ≡ 0ℚ → t.step.forward ≡ true
  only_along e t z = by_way t.step.forward t.holds.0.leads.link.capacity t.holds.0.leads.goes
    where
      by_way : (d : Bool) (capacity : Option ℚ) → can_go d capacity (number_at flows t.step.link) ≡ true → d ≡ true
      by_way true capacity g = refl
      by_way false capacity g = absurd (no_flow_back _ (ap (λ (k : ℕ). number_at flows k) t.link ∙ z) g)

  -- A link without flow that the walk can not take stays without flow.
  not_taken : (e : ℕ) → number_at flows e ≡ 0ℚ → (Taken e → ⊥) → number_at new e ≡ 0ℚ
  not_taken e z none = ⊎_elim
      (λ (c : crossed walk e ≡ 0ℚ). moved_by_zero _ _ _ amount c (pushed.flow e) ∙ z)
      (λ (t : Taken e). absurd (none t))
      (taken_or_not e)

  into_source : (e : ℕ) (link : Link) → IsLink net e link → link.head ≡ net.source → number_at new e ≡ 0ℚ
  into_source e link p h = let z = sound.into_source e link p h in not_taken e z (λ t. t.holds.0.end_other
      (sym t.holds.0.leads.ends ∙ ap (λ (d : Bool). end_of d t.holds.0.leads.link) (only_along e t z)
      ∙ ap (λ (l : Link). l.head) (same_link e t.holds.0.leads.link link (taken_link e t) p) ∙ h))

  out_of_sink : (e : ℕ) (link : Link) → IsLink net e link → link.tail ≡ net.sink → number_at new e ≡ 0ℚ
  out_of_sink e link p h = let z = sound.out_of_sink e link p h in not_taken e z (λ t. t.holds.0.begin_other
      (sym t.holds.0.leads.begins ∙ ap (λ (d : Bool). begin_of d t.holds.0.leads.link) (only_along e t z)
      ∙ ap (λ (l : Link). l.tail) (same_link e t.holds.0.leads.link link (taken_link e t) p) ∙ h))

  pub IsSound-pushed : IsSound net new
  IsSound-pushed = record {
    flow = record { count = pushed.count ∙ sound.flow.count; at_least = at_least; at_most = at_most; inner = inner };
    closed = closed;
    into_source = into_source;
    out_of_sink = out_of_sink;
  }

  -- ---- value and cost
  value_more : (o i p q y z a b m : ℚ) → y ≡ o +ℚ p *ℚ m → z ≡ i +ℚ q *ℚ m → i ≡ 0ℚ → z ≡ 0ℚ → p -ℚ q ≡ a -ℚ b → a ≡ 1ℚ → b ≡ 0ℚ → y ≡ o +ℚ m
  value_more o i p q y z a b m e f g h j k l =
      linear_eq (o ∷ i ∷ p ∷ q ∷ y ∷ z ∷ a ∷ b ∷ m ∷ []) (eq e ∷ eq f ∷ eq g ∷ eq h ∷ eq_times m j ∷ eq_times m k ∷ eq_times m l ∷ [])
      (search reading_of) tt tt

  none_in : (xs : List ℚ) → ((e : ℕ) (link : Link) → IsLink net e link → link.head ≡ net.source → number_at xs e ≡ 0ℚ) → sum_in net.links (number_at xs) net.source ≡ 0ℚ
  none_in xs h = sum_in-same net.links (number_at xs) (λ _. 0ℚ) net.source (λ e link p at. h e link p at) ∙ sum_in-none net.links net.source

  pub flow_value-pushed : flow_value net new ≡ flow_value net flows +ℚ amount
  flow_value-pushed = value_more _ _ _ _ _ _ (only_at net.source 1ℚ net.source) (only_at net.sink 1ℚ net.source) amount (out_new net.source) (in_new net.source)
      (none_in flows sound.into_source) (none_in new into_source) (crossed-balance net flows walk net.source net.sink net.source first.is_walk)
      (only_at-here net.source 1ℚ) (only_at-else net.sink 1ℚ net.source (λ e. good.apart (sym e)))

  add_times : (c p l m : ℚ) → p ≡ l *ℚ m → c +ℚ p ≡ c +ℚ l *ℚ m
  add_times c p l m e = linear_eq (c ∷ p ∷ l ∷ m ∷ []) (eq e ∷ []) (search reading_of) tt tt

  pub cost_of-pushed : cost_of net new ≡ cost_of net flows +ℚ walk_length net walk *ℚ amount
  cost_of-pushed =
      cost_from-same net.links (number_at new) (λ e. number_at flows e +ℚ crossed walk e *ℚ amount) pushed.flow
      ∙ cost_from-plus net.links (number_at flows) (λ e. crossed walk e *ℚ amount)
      ∙ add_times _ _ _ amount (cost_from-times net.links (crossed walk) amount ∙ ap (λ (x : ℚ). x *ℚ amount) (crossed-cost net flows walk net.source net.sink first.is_walk))

  -- ---- other walks under the new flow
  at_source : At net.source 0ℚ
  at_source = front_least net flows net.source net.sink walk sound.closed first [] walk net.source refl refl first.is_walk

  at_sink : At net.sink (walk_length net walk)
  at_sink = front_least net flows net.source net.sink walk sound.closed first walk [] net.sink (sym (append-nil walk)) first.is_walk refl

  from_zero : (a b : ℚ) → a ≤ℚ 0ℚ +ℚ b → a ≤ℚ b
  from_zero a b h = linear_le (a ∷ b ∷ []) (le h ∷ []) (search reading_of) tt

  back_zero : (a b : ℚ) → 0ℚ ≤ℚ a +ℚ b → 0ℚ -ℚ a ≤ℚ b
  back_zero a b h = linear_le (a ∷ b ∷ []) (le h ∷ []) (search reading_of) tt

  pub later-pushed : (other : List Step) → IsResidualWalk net new other net.source net.sink → walk_length net walk ≤ℚ walk_length net other
  later-pushed other p = from_zero _ _ (ArePotentials-between net new At fits_new other net.source net.sink 0ℚ (walk_length net walk) at_source at_sink p)

  pub back-pushed : (other : List Step) → IsResidualWalk net new other net.sink net.source → 0ℚ -ℚ walk_length net walk ≤ℚ walk_length net other
  back-pushed other p = back_zero _ _ (ArePotentials-between net new At fits_new other net.sink net.source (walk_length net walk) 0ℚ at_sink at_source p)
