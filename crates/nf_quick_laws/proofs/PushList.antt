-- The push list, if no operation passes, is a push. The room computed along a walk is the greatest amount that has room on it.
use Rattle.std.proofs.Common.{◌≡◌, ◌≢◌, ℕ, zero, suc, ◌<◌, List, [], ◌∷◌, length, ◌⊎◌, inl, inr, ⊎_elim, Bool, true, false, if◌then◌else◌, eqb, Option}
use Rattle.std.proofs.Common.{Some, None, unwrap_or, option_map, Ok, set, sym, ap, subst, refl, ◌∙◌, arith}
use Rattle.nf_quick_laws.proofs.Common.{eqb_tells, length-set, ℚ, 0ℚ, 1ℚ, ◌+ℚ◌, ◌-ℚ◌, ◌*ℚ◌, ◌≤ℚ◌, ◌<ℚ◌, reading_of, less_of_test, le, eq, eq_times}
use Rattle.nf_quick_laws.proofs.Common.{linear_le, linear_eq, Passing, result_of, Checked, checked, fold_checked, Difference, checked-is, number_at, Link}
use Rattle.nf_quick_laws.proofs.Common.{Network, IsLink, Step, begin_of, end_of, directed, can_go, IsResidualWalk, IsUnboundedWalk, HasRoomAlong, HasRoom}
use Rattle.nf_quick_laws.proofs.Common.{HasRoomOn, op_of, lesser, capacity_of, room_along, room_after, IsPushed, ≤ℚ_refl, ≤ℚ_trans, min_left, min_right}
use Rattle.nf_quick_laws.proofs.Common.{min_keeps, same_Ok, plus_zero_times, less_ps, push_step}
use Rattle.nf_quick_def.specs.Pushes.{push_list}
use Rattle.nf_quick_laws.proofs.Apart.{EachStep}
use Rattle.nf_quick_laws.proofs.Crossings.{choose, choose_not}
use Rattle.nf_quick_laws.proofs.Offers.{bind-ok}

-- ---- entries
pub number_at-set : (xs : List ℚ) (v : ℕ) (x : ℚ) → v < length xs → number_at (set xs v x) v ≡ x
number_at-set [] v x h = absurd (omega arith)
number_at-set (y ∷ xs) zero x h = refl
number_at-set (y ∷ xs) (suc v) x h = number_at-set xs v x (omega arith)

pub number_at-else : (xs : List ℚ) (v w : ℕ) (x : ℚ) → v ≢ w → number_at (set xs v x) w ≡ number_at xs w
number_at-else [] v w x h = refl
number_at-else (y ∷ xs) zero zero x h = absurd (h refl)
number_at-else (y ∷ xs) zero (suc w) x h = refl
number_at-else (y ∷ xs) (suc v) zero x h = refl
number_at-else (y ∷ xs) (suc v) (suc w) x h = number_at-else xs v w x (λ e. h (ap suc e))

-- ---- a push
moved : (d : Bool) (x a : ℚ) → result_of (op_of d) x a ≡ x +ℚ directed d 1ℚ *ℚ a
moved true x a = linear_eq (x ∷ a ∷ []) [] (search reading_of) tt tt
moved false x a = linear_eq (x ∷ a ∷ []) [] (search reading_of) tt tt

none_moved : (x a s : ℚ) → s ≡ 0ℚ → x ≡ x +ℚ s *ℚ a
none_moved x a s e = linear_eq (x ∷ a ∷ s ∷ []) (eq_times a e ∷ []) (search reading_of) tt tt

same_moved : (x a s t : ℚ) → s ≡ t → x +ℚ t *ℚ a ≡ x +ℚ s *ℚ a
same_moved x a s t e = ap (λ (z : ℚ). x +ℚ z *ℚ a) (sym e)

one_more : (x y z s c a : ℚ) → y ≡ x +ℚ s *ℚ a → z ≡ y +ℚ c *ℚ a → z ≡ x +ℚ (s +ℚ c) *ℚ a
one_more x y z s c a e f = linear_eq (x ∷ y ∷ z ∷ s ∷ c ∷ a ∷ []) (eq e ∷ eq f ∷ []) (search reading_of) tt tt

module _ (passes : Passing) (amount : ℚ) where
  after_step : (flows : List ℚ) (step : Step) (z : ℚ) → step.link < length flows → z ≡ result_of (op_of step.forward) (number_at flows step.link) amount → (e : ℕ)
      → number_at (set flows step.link z) e ≡ number_at flows e +ℚ (if eqb step.link e then directed step.forward 1ℚ else 0ℚ) *ℚ amount
  after_step flows step z h is e = ⊎_elim
      (λ (w : (eqb step.link e ≡ true) × (step.link ≡ e)).
      subst (λ (k : ℕ). number_at (set flows step.link z) k ≡ number_at flows k +ℚ (if eqb step.link e then directed step.forward 1ℚ else 0ℚ) *ℚ amount) w.1
      (number_at-set flows step.link z h ∙ is ∙ moved step.forward (number_at flows step.link) amount ∙ same_moved _ amount _ _ (choose (eqb step.link e) _ _ w.0)))
      (λ (w : (eqb step.link e ≡ false) × (step.link ≢ e)). number_at-else flows step.link e z w.1 ∙ none_moved _ amount _ (choose_not (eqb step.link e) _ _ w.0))
      (eqb_tells step.link e)

  pub IsPushed-fold : (walk : List Step) (flows new : List ℚ) → EachStep (λ step. step.link < length flows) walk
      → fold_checked (push_step passes amount) flows walk ≡ Ok new → IsPushed flows walk amount new
  IsPushed-fold [] flows new each e =
      subst (λ (k : List ℚ). IsPushed flows [] amount k) (same_Ok flows new e)
      (record { count = refl; flow = λ k. plus_zero_times (number_at flows k) amount })
  IsPushed-fold (step ∷ walk) flows new each e =
      let w : (mid : List ℚ) × (push_step passes amount flows step ≡ Ok mid) × (fold_checked (push_step passes amount) mid walk ≡ Ok new) =
      bind-ok (push_step passes amount flows step) (λ mid. fold_checked (push_step passes amount) mid walk) new e in
      let z : (z : ℚ) × (checked passes (op_of step.forward) (number_at flows step.link) amount ≡ Ok z) × (◌≡◌ {A = Checked (List ℚ)} (Ok (set flows step.link z)) (Ok w.0)) =
      bind-ok (checked passes (op_of step.forward) (number_at flows step.link) amount) (λ z. Ok (set flows step.link z)) w.0 w.1 in
      let mid_is : set flows step.link z.0 ≡ w.0 = same_Ok _ w.0 z.2 in
      let count : length w.0 ≡ length flows = ap (λ (k : List ℚ). length k) (sym mid_is) ∙ length-set flows step.link z.0 in
      let more : IsPushed w.0 walk amount new = IsPushed-fold walk w.0 new (each_same walk (length flows) (length w.0) (sym count) each.1) w.2 in
      record {
        count = more.count ∙ count;
        flow = λ k. one_more _ _ _ _ _ amount (ap (λ (l : List ℚ). number_at l k) (sym mid_is)
            ∙ after_step flows step z.0 each.0 (checked-is passes (op_of step.forward) (number_at flows step.link) amount z.0 z.1) k)
            (more.flow k);
      }
    where
      each_same : (walk : List Step) (m n : ℕ) → m ≡ n → EachStep (λ step. step.link < m) walk → EachStep (λ step. step.link < n) walk
      each_same walk m n e h = subst (λ (k : ℕ). EachStep (λ step. step.link < k) walk) e h

  pub IsPushed-list : (walk : List Step) (flows new : List ℚ) → EachStep (λ step. step.link < length flows) walk
      → push_list passes walk amount flows ≡ Ok new → IsPushed flows walk amount new
  unfolding push_list
  IsPushed-list walk flows new each e = IsPushed-fold walk flows new each e

-- ---- the room
-- At most the bound known so far.
abbrev pub IsWithin : Option ℚ → ℚ → Type 0
IsWithin None r = Unit {0}
IsWithin (Some least) r = r ≤ℚ least

abbrev pub IsAboveNone : Option ℚ → Type 0
IsAboveNone None = Unit {0}
IsAboveNone (Some least) = 0ℚ <ℚ least

-- The greatest amount that has room on a walk and is at most the bound known so far.
pub record IsRoomOf (net : Network) (flows : List ℚ) (walk : List Step) (least : Option ℚ) (room : ℚ) : Type 0 where
  pub within : IsWithin least room
  pub has_room : HasRoomOn net flows room walk
  pub greatest : (other : ℚ) → IsWithin least other → HasRoomOn net flows other walk → other ≤ℚ room
  pub some : 0ℚ <ℚ room

pub can_go_each : (net : Network) (flows : List ℚ) (walk : List Step) (v w : ℕ) → IsResidualWalk net flows walk v w
    → EachStep (λ step. (link : Link) × IsLink net step.link link × (can_go step.forward link.capacity (number_at flows step.link) ≡ true)) walk
can_go_each net flows [] v w p = tt
can_go_each net flows (step ∷ walk) v w p = ((p.1.link, p.1.is_link, p.1.goes), can_go_each net flows walk p.0 w p.2)

-- A step has room for exactly this amount, or for any amount.
pub data OneRoom (net : Network) (flows : List ℚ) (least : Option ℚ) (step : Step) (mid : Option ℚ) : Type 0 where
  is_free : (link : Link) → IsLink net step.link link → step.forward ≡ true → link.capacity ≡ None → mid ≡ least → OneRoom net flows least step mid
  is_limited : (m : ℚ) → mid ≡ Some m → IsWithin least m → ((a : ℚ) → a ≤ℚ m → HasRoom net flows a step) → ((a : ℚ) → IsWithin least a → HasRoom net flows a step → a ≤ℚ m) → 0ℚ <ℚ m
      → OneRoom net flows least step mid

lesser-within : (least : Option ℚ) (x : ℚ) → IsWithin least (lesser least x)
lesser-within None x = tt
lesser-within (Some l) x = min_left l x

pub lesser-most : (least : Option ℚ) (x : ℚ) → lesser least x ≤ℚ x
lesser-most None x = ≤ℚ_refl x
lesser-most (Some l) x = min_right l x

lesser-greatest : (least : Option ℚ) (x a : ℚ) → IsWithin least a → a ≤ℚ x → a ≤ℚ lesser least x
lesser-greatest None x a h k = k
lesser-greatest (Some l) x a h k = min_keeps (λ z. a ≤ℚ z) l x h k

lesser-above : (least : Option ℚ) (x : ℚ) → IsAboveNone least → 0ℚ <ℚ x → 0ℚ <ℚ lesser least x
lesser-above None x h k = k
lesser-above (Some l) x h k = min_keeps (λ z. 0ℚ <ℚ z) l x h k

left_room : (c x a m : ℚ) → m ≤ℚ c -ℚ x → a ≤ℚ m → x +ℚ a ≤ℚ c
left_room c x a m h k = linear_le (c ∷ x ∷ a ∷ m ∷ []) (le h ∷ le k ∷ []) (search reading_of) tt

room_left : (c x a : ℚ) → x +ℚ a ≤ℚ c → a ≤ℚ c -ℚ x
room_left c x a h = linear_le (c ∷ x ∷ a ∷ []) (le h ∷ []) (search reading_of) tt

module _ (passes : Passing) (net : Network) (flows : List ℚ) where
  capacity_is : (step : Step) (link : Link) → IsLink net step.link link → capacity_of net step.link ≡ link.capacity
  capacity_is step link p = ap (λ (o : Option Link). unwrap_or (option_map (λ (l : Link). l.capacity) o) None) p

  same_link : (e : ℕ) (k l : Link) → IsLink net e k → IsLink net e l → k ≡ l
  same_link e k l p q = cc

  -- A statement on one link of this number holds for each link of the number.
  for_each : (step : Step) (link : Link) (a : ℚ) → IsLink net step.link link → HasRoomAlong step.forward link.capacity (number_at flows step.link) a → HasRoom net flows a step
  for_each step link a p r l q = subst (λ (k : Link). HasRoomAlong step.forward k.capacity (number_at flows step.link) a) (same_link step.link link l p q) r

  by_way : (d : Bool) (capacity : Option ℚ) (x : ℚ) (least mid : Option ℚ) → IsAboveNone least → can_go d capacity x ≡ true → room_along passes d capacity x least ≡ Ok mid
      → ((d ≡ true) × (capacity ≡ None) × (mid ≡ least)) ⊎ ((m : ℚ) × (mid ≡ Some m) × IsWithin least m × ((a : ℚ) → a ≤ℚ m → HasRoomAlong d capacity x a)
      × ((a : ℚ) → IsWithin least a → HasRoomAlong d capacity x a → a ≤ℚ m) × (0ℚ <ℚ m))
  by_way true None x least mid above goes e = inl (refl, refl, sym (same_Ok least mid e))
  by_way true (Some c) x least mid above goes e =
      let z : (z : ℚ) × (checked passes Difference c x ≡ Ok z) × (◌≡◌ {A = Checked (Option ℚ)} (Ok (Some (lesser least z))) (Ok mid)) =
      bind-ok (checked passes Difference c x) (λ z. Ok (Some (lesser least z))) mid e in
      let is : z.0 ≡ c -ℚ x = checked-is passes Difference c x z.0 z.1 in
      let bound : lesser least z.0 ≤ℚ c -ℚ x = subst (λ (y : ℚ). lesser least z.0 ≤ℚ y) is (lesser-most least z.0) in
      inr (
        lesser least z.0,
        sym (same_Ok _ mid z.2),
        lesser-within least z.0,
        (λ a h. left_room c x a _ bound h),
        (λ a h r. lesser-greatest least z.0 a h (subst (λ (y : ℚ). a ≤ℚ y) (sym is) (room_left c x a r))),
        lesser-above least z.0 above (subst (λ (y : ℚ). 0ℚ <ℚ y) (sym is) (less_ps x c (less_of_test x c goes))),
      )
  by_way false capacity x least mid above goes e =
      inr (
        lesser least x,
        sym (same_Ok _ mid e),
        lesser-within least x,
        (λ a h. ≤ℚ_trans _ _ _ h (lesser-most least x)),
        (λ a h r. lesser-greatest least x a h r),
        lesser-above least x above (less_of_test 0ℚ x goes),
      )

  one_room : (least mid : Option ℚ) (step : Step) (link : Link) → IsAboveNone least → IsLink net step.link link → can_go step.forward link.capacity (number_at flows step.link) ≡ true
      → room_after passes net flows least step ≡ Ok mid → OneRoom net flows least step mid
  one_room least mid step link above p goes e = ⊎_elim
      (λ (f : (step.forward ≡ true) × (link.capacity ≡ None) × (mid ≡ least)). is_free link p f.0 f.1 f.2)
      (λ (b : (m : ℚ) × (mid ≡ Some m) × IsWithin least m × ((a : ℚ) → a ≤ℚ m → HasRoomAlong step.forward link.capacity (number_at flows step.link) a)
      × ((a : ℚ) → IsWithin least a → HasRoomAlong step.forward link.capacity (number_at flows step.link) a → a ≤ℚ m) × (0ℚ <ℚ m)).
      is_limited b.0 b.1 b.2 (λ a h. for_each step link a p (b.3 a h)) (λ a h r. b.4 a h (r link p)) b.5)
      (by_way step.forward link.capacity (number_at flows step.link) least mid above goes
      (ap (λ (c : Option ℚ). room_along passes step.forward c (number_at flows step.link) least) (sym (capacity_is step link p)) ∙ e))

  -- all steps go along unbounded links
  abbrev IsFree : Step → Type 0
  IsFree step = (link : Link) × IsLink net step.link link × (step.forward ≡ true) × (link.capacity ≡ None)

  abbrev pub RoomFound : List Step → Option ℚ → Option ℚ → Type 0
  RoomFound walk least None = (least ≡ None) × EachStep (λ step. (link : Link) × IsLink net step.link link × (step.forward ≡ true) × (link.capacity ≡ None)) walk
  RoomFound walk least (Some r) = IsRoomOf net flows walk least r

  within_less : (least : Option ℚ) (m r : ℚ) → IsWithin least m → r ≤ℚ m → IsWithin least r
  within_less None m r h k = tt
  within_less (Some l) m r h k = ≤ℚ_trans _ _ _ k h

  at_end : (least : Option ℚ) → IsAboveNone least → RoomFound [] least least
  at_end None a = (refl, tt)
  at_end (Some l) a = record { within = ≤ℚ_refl l; has_room = tt; greatest = λ other h _. h; some = a }

  add_free : (step : Step) (walk : List Step) (least result : Option ℚ) → IsFree step → RoomFound walk least result → RoomFound (step ∷ walk) least result
  add_free step walk least None f r = (r.0, (f, r.1))
  add_free step walk least (Some m) f r = record {
    within = r.within;
    has_room = (for_each step f.0 m f.1 (free_room step.forward f.0.capacity (number_at flows step.link) m f.2 f.3), r.has_room);
    greatest = λ other h k. r.greatest other h k.1;
    some = r.some;
  }
    where
      free_room : (d : Bool) (capacity : Option ℚ) (x a : ℚ) → d ≡ true → capacity ≡ None → HasRoomAlong d capacity x a
      free_room true None x a e f = tt
      free_room true (Some c) x a e f = absurd (cc)
      free_room false capacity x a e f = absurd (cc)

  add_limited : (step : Step) (walk : List Step) (least : Option ℚ) (m : ℚ) (result : Option ℚ) → IsWithin least m → ((a : ℚ) → a ≤ℚ m → HasRoom net flows a step)
      → ((a : ℚ) → IsWithin least a → HasRoom net flows a step → a ≤ℚ m) → RoomFound walk (Some m) result → RoomFound (step ∷ walk) least result
  add_limited step walk least m None h f g r = absurd (some_none m r.0)
    where
      some_none : (m : ℚ) → Some m ≡ None → ⊥
      some_none m e = cc
  add_limited step walk least m (Some s) h f g r = record {
    within = within_less least m s h r.within;
    has_room = (f s r.within, r.has_room);
    greatest = λ other k l. r.greatest other (g other k l.0) l.1;
    some = r.some;
  }

  pub RoomFound-fold : (walk : List Step) (least result : Option ℚ) → IsAboveNone least
      → EachStep (λ step. (link : Link) × IsLink net step.link link × (can_go step.forward link.capacity (number_at flows step.link) ≡ true)) walk
      → fold_checked (room_after passes net flows) least walk ≡ Ok result → RoomFound walk least result
  RoomFound-fold [] least result a each e = subst (λ (o : Option ℚ). RoomFound [] least o) (same_Ok least result e) (at_end least a)
  RoomFound-fold (step ∷ walk) least result a each e =
      let w : (mid : Option ℚ) × (room_after passes net flows least step ≡ Ok mid) × (fold_checked (room_after passes net flows) mid walk ≡ Ok result) =
      bind-ok (room_after passes net flows least step) (λ mid. fold_checked (room_after passes net flows) mid walk) result e in
      add_one (one_room least w.0 step each.0.0 a each.0.1 each.0.2 w.1) (λ above. RoomFound-fold walk w.0 result above each.1 w.2)
    where
      add_one : {mid : Option ℚ} → OneRoom net flows least step mid → (IsAboveNone mid → RoomFound walk mid result) → RoomFound (step ∷ walk) least result
      add_one {mid} (is_free link p f u m) more = add_free step walk least result (link, p, f, u)
          (subst (λ (o : Option ℚ). RoomFound walk o result) m (more (subst IsAboveNone (sym m) a)))
      add_one {mid} (is_limited m is h f g some) more = add_limited step walk least m result h f g
          (subst (λ (o : Option ℚ). RoomFound walk o result) is (more (subst IsAboveNone (sym is) some)))

-- a residual walk along unbounded links is a walk of unbounded links
pub unbounded_walk : (net : Network) (flows : List ℚ) (walk : List Step) (v w : ℕ) → IsResidualWalk net flows walk v w
    → EachStep (λ step. (link : Link) × IsLink net step.link link × (step.forward ≡ true) × (link.capacity ≡ None)) walk → (links : List ℕ) × IsUnboundedWalk net links v w
unbounded_walk net flows [] v w p each = ([], p)
unbounded_walk net flows (step ∷ walk) v w p each =
    let more : (links : List ℕ) × IsUnboundedWalk net links p.0 w = unbounded_walk net flows walk p.0 w p.2 each.1 in
    let same : p.1.link ≡ each.0.0 = one_link step.link p.1.link each.0.0 p.1.is_link each.0.1 in (
      step.link ∷ more.0,
      (
        each.0.0,
        each.0.1,
        each.0.3,
        sym (ap (λ (l : Link). l.tail) same) ∙ sym (ap (λ (d : Bool). begin_of d p.1.link) each.0.2) ∙ p.1.begins,
        subst (λ (k : ℕ). IsUnboundedWalk net more.0 k w) (sym p.1.ends ∙ ap (λ (d : Bool). end_of d p.1.link) each.0.2 ∙ ap (λ (l : Link). l.head) same) more.1,
      ),
    )
  where
    one_link : (e : ℕ) (k l : Link) → IsLink net e k → IsLink net e l → k ≡ l
    one_link e k l p q = cc
