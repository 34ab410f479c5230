-- Cancelling one cycle: the flows stay a thin flow with the same slopes, no link becomes interior, and at least one link stops being
-- interior.
use Rattle.std.proofs.Common.{◌≡◌, ◌≢◌, ℕ, ◌+◌, ◌<◌, ◌≤◌, List, [], ◌∷◌, length, ◌⊎◌, inl, inr, ⊎_elim, Bool, true, false, if◌then◌else◌, eqb, Option, Some}
use Rattle.std.proofs.Common.{None, slice_get, unwrap_or, sym, ap, subst, refl, ◌∙◌, arith, Contains, Ok}
use Rattle.nf_complete_laws.proofs.Common.{enumerate_from, same_Some, slice_get_within, eqb_tells, ℚ, 0ℚ, 1ℚ, ◌+ℚ◌, ◌-ℚ◌, ◌*ℚ◌, ◌≤ℚ◌, ◌<ℚ◌, reading_of}
use Rattle.nf_complete_laws.proofs.Common.{≤ℚ_of_same, ≤ℚ_of_lt, not_both_ℚ, less_ps, le, eq, eq_times, linear_le, linear_eq, ≤ℚ_refl, Passing, checked}
use Rattle.nf_complete_laws.proofs.Common.{each, number_at, Has, Hop, Link, Network, IsLink, IsNetwork, hops, sum_in, sum_out, Sets, surplus, IsThinFlow}
use Rattle.nf_complete_laws.proofs.Common.{IsTrail, AllDiffer, IsLink-unique, link_at, number_at-is, sum_in-same, sum_out-same, sum_in-line, sum_out-line}
use Rattle.nf_complete_laws.proofs.Common.{HoldNoCycle, IsActiveWalk, entry, same_Ok, entry_beyond, number_at-beyond, IsInterior, links_of, turn_of}
use Rattle.nf_complete_laws.proofs.Common.{IsCycle, bind_ok, Sum, Difference, Product, checked-is, full_on, full_at, room_on, room_at, least_room}
use Rattle.nf_complete_laws.proofs.Common.{change_on, change_at}
use Rattle.nf_complete_def.specs.Cancelling.{fulls_list, cancel_list}
use Rattle.nf_complete_laws.proofs.Trails.{signed, carried_by, turn-first, turn-contains, trail-allowed, carried-closed}
use Rattle.nf_complete_laws.proofs.Eachs.{each-at, each-length}
use Rattle.nf_complete_laws.proofs.Rooms.{least-some, least-bound, Taken, least-taken}
use Rattle.nf_complete_laws.proofs.Changing.{IsLevel, IsThinFlow-changed}
use Rattle.nf_complete_laws.proofs.Levels.{interior-level}

-- ---- computations that end with a value
some_not_none : {A : Type 0} (x : A) → Some x ≡ None → ⊥
some_not_none x e = cc

-- ---- the result of a link of the sequence
full-some : (passes : Passing) (c t : ℚ) (y : Option ℚ) → full_on passes true (Some c) t ≡ Ok y → y ≡ Some (c *ℚ t)
full-some passes c t y h = let b = bind_ok (checked passes Product c t) (λ full. Ok (Some full)) y h in
    sym (same_Ok (Some b.0) y b.2) ∙ ap (λ (z : ℚ). Some z) (checked-is passes Product c t b.0 b.1)

full-none : (passes : Passing) (b : Bool) (t : ℚ) (y : Option ℚ) → full_on passes b None t ≡ Ok y → y ≡ None
full-none passes true t y h = sym (same_Ok None y h)
full-none passes false t y h = sym (same_Ok None y h)

room-back : (passes : Passing) (full : Option ℚ) (x : ℚ) (r : Option ℚ) → room_on passes (Some false) full x ≡ Ok r → r ≡ Some x
room-back passes None x r h = sym (same_Ok (Some x) r h)
room-back passes (Some f) x r h = sym (same_Ok (Some x) r h)

room-forth : (passes : Passing) (f x : ℚ) (r : Option ℚ) → room_on passes (Some true) (Some f) x ≡ Ok r → r ≡ Some (f -ℚ x)
room-forth passes f x r h = let b = bind_ok (checked passes Difference f x) (λ room. Ok (Some room)) r h in
    sym (same_Ok (Some b.0) r b.2) ∙ ap (λ (z : ℚ). Some z) (checked-is passes Difference f x b.0 b.1)

room-free : (passes : Passing) (x : ℚ) (r : Option ℚ) → room_on passes (Some true) None x ≡ Ok r → r ≡ None
room-free passes x r h = sym (same_Ok None r h)

room-none : (passes : Passing) (full : Option ℚ) (x : ℚ) (r : Option ℚ) → room_on passes None full x ≡ Ok r → r ≡ None
room-none passes None x r h = sym (same_Ok None r h)
room-none passes (Some f) x r h = sym (same_Ok None r h)

change-is : (passes : Passing) (o : Option Bool) (a x y : ℚ) → change_on passes o a x ≡ Ok y → y ≡ x +ℚ signed o *ℚ a
change-is passes None a x y h = same (same_Ok x y h)
  where
    same : x ≡ y → y ≡ x +ℚ 0ℚ *ℚ a
    same e = linear_eq (x ∷ y ∷ a ∷ []) (eq e ∷ []) (search reading_of) tt tt
change-is passes (Some true) a x y h = more (checked-is passes Sum x a y h)
  where
    more : y ≡ x +ℚ a → y ≡ x +ℚ 1ℚ *ℚ a
    more e = linear_eq (x ∷ y ∷ a ∷ []) (eq e ∷ []) (search reading_of) tt tt
change-is passes (Some false) a x y h = less (checked-is passes Difference x a y h)
  where
    less : y ≡ x -ℚ a → y ≡ x +ℚ (0ℚ -ℚ 1ℚ) *ℚ a
    less e = linear_eq (x ∷ y ∷ a ∷ []) (eq e ∷ []) (search reading_of) tt tt

-- ---- numbers
plus_none : (x a : ℚ) → x +ℚ 0ℚ *ℚ a ≡ x
plus_none x a = linear_eq (x ∷ a ∷ []) [] (search reading_of) tt tt

grown_nn : (x a y : ℚ) → y ≡ x +ℚ 1ℚ *ℚ a → 0ℚ ≤ℚ x → 0ℚ ≤ℚ a → 0ℚ ≤ℚ y
grown_nn x a y e h k = linear_le (x ∷ a ∷ y ∷ []) (eq e ∷ le h ∷ le k ∷ []) (search reading_of) tt

shrunk_nn : (x a y : ℚ) → y ≡ x +ℚ (0ℚ -ℚ 1ℚ) *ℚ a → a ≤ℚ x → 0ℚ ≤ℚ y
shrunk_nn x a y e h = linear_le (x ∷ a ∷ y ∷ []) (eq e ∷ le h ∷ []) (search reading_of) tt

grown_most : (x a y f : ℚ) → y ≡ x +ℚ 1ℚ *ℚ a → a ≤ℚ f -ℚ x → y ≤ℚ f
grown_most x a y f e h = linear_le (x ∷ a ∷ y ∷ f ∷ []) (eq e ∷ le h ∷ []) (search reading_of) tt

shrunk_most : (x a y f : ℚ) → y ≡ x +ℚ (0ℚ -ℚ 1ℚ) *ℚ a → 0ℚ ≤ℚ a → x ≤ℚ f → y ≤ℚ f
shrunk_most x a y f e h k = linear_le (x ∷ a ∷ y ∷ f ∷ []) (eq e ∷ le h ∷ le k ∷ []) (search reading_of) tt

emptied : (x a y : ℚ) → y ≡ x +ℚ (0ℚ -ℚ 1ℚ) *ℚ a → x ≡ a → y ≡ 0ℚ
emptied x a y e f = linear_eq (x ∷ a ∷ y ∷ []) (eq e ∷ eq f ∷ []) (search reading_of) tt tt

filled : (x a y f : ℚ) → y ≡ x +ℚ 1ℚ *ℚ a → f -ℚ x ≡ a → y ≡ f
filled x a y f e g = linear_eq (x ∷ a ∷ y ∷ f ∷ []) (eq e ∷ eq g ∷ []) (search reading_of) tt tt

-- ---- a closed trail uses some link backward, since active links hold no cycle
module _ (net : Network) (sets : Sets) (slopes flows : List ℚ) where
  abbrev Backward : List (ℕ × Bool) → Type 0
  Backward steps = (e : ℕ) × (turn_of steps e ≡ Some false)

  backward-or : (steps : List (ℕ × Bool)) (v w : ℕ) → IsTrail (hops net) (IsInterior net sets slopes flows) steps v w → AllDiffer (links_of steps)
      → Backward steps ⊎ IsActiveWalk net sets (links_of steps) v w
  backward-or [] v w t d = inr t
  backward-or ((e, false) ∷ steps) v w t d = inl (e, turn-first e false steps)
  backward-or ((e, true) ∷ steps) v w t d = ⊎_elim
      (λ (b : Backward steps). inl (b.0, later b.0 b.1))
      (λ (k : IsActiveWalk net sets (links_of steps) t.0.head w). inr (walk k))
      (backward-or steps t.0.head w t.4 d.1)
    where
      later : (k : ℕ) → turn_of steps k ≡ Some false → turn_of ((e, true) ∷ steps) k ≡ Some false
      later k h = ⊎_elim
          (λ (c : (eqb e k ≡ true) × (e ≡ k)). absurd (d.0 (subst (λ (j : ℕ). Contains (links_of steps) j) (sym c.1) (turn-contains steps k false h))))
          (λ (c : (eqb e k ≡ false) × (e ≢ k)). ap (λ (b : Bool). if b then Some true else turn_of steps k) c.0 ∙ h)
          (eqb_tells e k)

      walk : IsActiveWalk net sets (links_of steps) t.0.head w → IsActiveWalk net sets (e ∷ links_of steps) v w
      walk k = let l = link_at net e t.0 t.1 in
          (l.0, l.1, t.2.needs.0, ap (λ (h : Hop). h.tail) l.2 ∙ sym t.3, subst (λ (j : ℕ). IsActiveWalk net sets (links_of steps) j w) (sym (ap (λ (h : Hop). h.head) l.2)) k)

  pub cycle-backward : HoldNoCycle net sets → (steps : List (ℕ × Bool)) → IsCycle net sets slopes flows steps → Backward steps
  cycle-backward acyclic steps c = ⊎_elim
      (λ (b : Backward steps). b)
      (λ (k : IsActiveWalk net sets (links_of steps) c.start c.start). absurd (acyclic c.first.0 (links_of c.rest) c.start
      (subst (λ (s : List (ℕ × Bool)). IsActiveWalk net sets (links_of s) c.start c.start) c.steps_are k)))
      (backward-or steps c.start c.start c.trail c.differ)

-- ---- one cycle
module _ (passes : Passing) (net : Network) (sets : Sets) (rate : ℚ) (flows slopes : List ℚ) (good : IsNetwork net) (acyclic : HoldNoCycle net sets)
    (thin : IsThinFlow net sets rate flows slopes)
    (fulls : List (Option ℚ)) (fulls_ok : fulls_list passes net sets slopes ≡ Ok fulls) (steps : List (ℕ × Bool)) (cycle : IsCycle net sets slopes flows steps)
    (new : List ℚ) (ok : cancel_list passes steps fulls flows ≡ Ok new) where
  abbrev amount_of : List (Option ℚ) → ℚ
  amount_of rooms = unwrap_or (least_room rooms) 0ℚ

  abbrev Parts : Type 0
  Parts = (rooms : List (Option ℚ)) × (each (room_at passes steps fulls) (enumerate_from 0 flows) ≡ Ok rooms)
      × (each (change_at passes steps (amount_of rooms)) (enumerate_from 0 flows) ≡ Ok new)

  parts : Parts
  unfolding cancel_list
  parts = bind_ok (each (room_at passes steps fulls) (enumerate_from 0 flows)) (λ rooms. each (change_at passes steps (amount_of rooms)) (enumerate_from 0 flows)) new ok

  fulls_each : each (full_at passes sets slopes) (enumerate_from 0 net.links) ≡ Ok fulls
  unfolding fulls_list
  fulls_each = fulls_ok

  abbrev rooms : List (Option ℚ)
  rooms = parts.0

  abbrev amount : ℚ
  amount = amount_of rooms

  interior : (e : ℕ) (b : Bool) → turn_of steps e ≡ Some b → IsInterior net sets slopes flows e
  interior e b h = trail-allowed (hops net) (IsInterior net sets slopes flows) steps cycle.start cycle.start e b cycle.trail h

  -- the flow that fills a link
  full_here : (e : ℕ) (link : Link) → IsLink net e link → (y : Option ℚ) × (slice_get fulls e ≡ Some y)
      × (full_on passes (unwrap_or (slice_get sets.active e) false) link.capacity (number_at slopes link.head) ≡ Ok y)
  full_here e link p = let g = each-at (full_at passes sets slopes) net.links 0 fulls fulls_each e link p in (
    g.0,
    g.1,
    subst (λ (k : ℕ). full_on passes (unwrap_or (slice_get sets.active k) false) link.capacity (number_at slopes link.head) ≡ Ok g.0)
        (let z : 0 + e ≡ e = omega arith in z) g.2,
  )

  full_bounded : (e : ℕ) (link : Link) (c : ℚ) → IsLink net e link → Has sets.active e → link.capacity ≡ Some c
      → unwrap_or (slice_get fulls e) None ≡ Some (c *ℚ number_at slopes link.head)
  full_bounded e link c p a h = let g = full_here e link p in
      ap (λ (o : Option (Option ℚ)). unwrap_or o None) g.1
      ∙ full-some passes c (number_at slopes link.head) g.0 (subst (λ (b : Bool). full_on passes b (Some c) (number_at slopes link.head) ≡ Ok g.0)
      (ap (λ (o : Option Bool). unwrap_or o false) a)
      (subst (λ (k : Option ℚ). full_on passes (unwrap_or (slice_get sets.active e) false) k (number_at slopes link.head) ≡ Ok g.0) h g.2))

  full_unbounded : (e : ℕ) (link : Link) → IsLink net e link → link.capacity ≡ None → unwrap_or (slice_get fulls e) None ≡ None
  full_unbounded e link p h = let g = full_here e link p in
      ap (λ (o : Option (Option ℚ)). unwrap_or o None) g.1
      ∙ full-none passes (unwrap_or (slice_get sets.active e) false) (number_at slopes link.head) g.0
      (subst (λ (k : Option ℚ). full_on passes (unwrap_or (slice_get sets.active e) false) k (number_at slopes link.head) ≡ Ok g.0) h g.2)

  -- the room of a link
  room_here : (e : ℕ) (x : ℚ) → slice_get flows e ≡ Some x → (r : Option ℚ) × (slice_get rooms e ≡ Some r)
      × (room_on passes (turn_of steps e) (unwrap_or (slice_get fulls e) None) x ≡ Ok r)
  room_here e x p = let g = each-at (room_at passes steps fulls) flows 0 rooms parts.1 e x p in
      (g.0, g.1, subst (λ (k : ℕ). room_on passes (turn_of steps k) (unwrap_or (slice_get fulls k) None) x ≡ Ok g.0) (let z : 0 + e ≡ e = omega arith in z) g.2)

  room_back : (e : ℕ) (x : ℚ) → slice_get flows e ≡ Some x → turn_of steps e ≡ Some false → slice_get rooms e ≡ Some (Some x)
  room_back e x p h = let g = room_here e x p in
      g.1 ∙ ap (λ (o : Option ℚ). Some o) (room-back passes (unwrap_or (slice_get fulls e) None) x g.0
      (subst (λ (o : Option Bool). room_on passes o (unwrap_or (slice_get fulls e) None) x ≡ Ok g.0) h g.2))

  room_forth : (e : ℕ) (x : ℚ) (link : Link) (c : ℚ) → slice_get flows e ≡ Some x → turn_of steps e ≡ Some true → IsLink net e link → Has sets.active e → link.capacity ≡ Some c
      → slice_get rooms e ≡ Some (Some (c *ℚ number_at slopes link.head -ℚ x))
  room_forth e x link c p h l a k = let g = room_here e x p in
      g.1 ∙ ap (λ (o : Option ℚ). Some o) (room-forth passes (c *ℚ number_at slopes link.head) x g.0
      (subst (λ (f : Option ℚ). room_on passes (Some true) f x ≡ Ok g.0) (full_bounded e link c l a k)
      (subst (λ (o : Option Bool). room_on passes o (unwrap_or (slice_get fulls e) None) x ≡ Ok g.0) h g.2)))

  room_free : (e : ℕ) (x : ℚ) (link : Link) → slice_get flows e ≡ Some x → turn_of steps e ≡ Some true → IsLink net e link → link.capacity ≡ None → slice_get rooms e ≡ Some None
  room_free e x link p h l k = let g = room_here e x p in
      g.1 ∙ ap (λ (o : Option ℚ). Some o) (room-free passes x g.0
      (subst (λ (f : Option ℚ). room_on passes (Some true) f x ≡ Ok g.0) (full_unbounded e link l k)
      (subst (λ (o : Option Bool). room_on passes o (unwrap_or (slice_get fulls e) None) x ≡ Ok g.0) h g.2)))

  room_none : (e : ℕ) (x : ℚ) → slice_get flows e ≡ Some x → turn_of steps e ≡ None → slice_get rooms e ≡ Some None
  room_none e x p h = let g = room_here e x p in
      g.1 ∙ ap (λ (o : Option ℚ). Some o) (room-none passes (unwrap_or (slice_get fulls e) None) x g.0
      (subst (λ (o : Option Bool). room_on passes o (unwrap_or (slice_get fulls e) None) x ≡ Ok g.0) h g.2))

  -- a link with a room is used forward, up to the flow that fills it, or backward, down to 0
  data Room (e : ℕ) (x y : ℚ) : Type 0 where
    back : turn_of steps e ≡ Some false → x ≡ y → Room e x y
    forth : (link : Link) (c : ℚ) → turn_of steps e ≡ Some true → IsLink net e link → link.capacity ≡ Some c → c *ℚ number_at slopes link.head -ℚ x ≡ y → Room e x y

  room-of : (e : ℕ) (x y : ℚ) → slice_get flows e ≡ Some x → slice_get rooms e ≡ Some (Some y) → Room e x y
  room-of e x y p q = by (turn_of steps e) refl
    where
      some_same : (r s : Option ℚ) → slice_get rooms e ≡ Some r → slice_get rooms e ≡ Some s → r ≡ s
      some_same r s h k = same_Some r s (sym h ∙ k)

      by_capacity : (o : Option ℚ) (i : IsInterior net sets slopes flows e) → i.link.capacity ≡ o → turn_of steps e ≡ Some true → Room e x y
      by_capacity None i k h = absurd (some_not_none y (some_same (Some y) None q (room_free e x i.link p h i.is_link k)))
      by_capacity (Some c) i k h = forth i.link c h i.is_link k (same_Some _ y (some_same _ (Some y) (room_forth e x i.link c p h i.is_link i.needs.0 k) q))

      by : (o : Option Bool) → turn_of steps e ≡ o → Room e x y
      by None h = absurd (some_not_none y (some_same (Some y) None q (room_none e x p h)))
      by (Some false) h = back h (same_Some x y (some_same (Some x) (Some y) (room_back e x p h) q))
      by (Some true) h = by_capacity (interior e true h).link.capacity (interior e true h) refl h

  interior_most : (e : ℕ) (i : IsInterior net sets slopes flows e) (link : Link) (c : ℚ) → IsLink net e link → link.capacity ≡ Some c
      → number_at flows e <ℚ c *ℚ number_at slopes link.head
  interior_most e i link c p k =
      subst (λ (l : Link). (c : ℚ) → l.capacity ≡ Some c → number_at flows e <ℚ c *ℚ number_at slopes l.head)
      (IsLink-unique net e i.link link i.is_link p) i.not_full c k

  room_positive : (e : ℕ) (x y : ℚ) → slice_get flows e ≡ Some x → Room e x y → 0ℚ <ℚ y
  room_positive e x y p (back h k) = subst (λ (z : ℚ). 0ℚ <ℚ z) (number_at-is flows e x p ∙ k) (interior e false h).some
  room_positive e x y p (forth link c h l k s) =
      subst (λ (z : ℚ). 0ℚ <ℚ z) s (less_ps x _ (subst (λ (z : ℚ). z <ℚ c *ℚ number_at slopes link.head) (number_at-is flows e x p)
      (interior_most e (interior e true h) link c l k)))

  count_rooms : length rooms ≡ length flows
  count_rooms = each-length (room_at passes steps fulls) flows 0 rooms parts.1

  flow_at : (e : ℕ) (r : Option ℚ) → slice_get rooms e ≡ Some r → (x : ℚ) × (slice_get flows e ≡ Some x)
  flow_at e r h = entry flows e (let w = slice_get_within rooms e r h in let c = count_rooms in omega arith)

  taken_positive : (a : ℚ) → Taken rooms a → 0ℚ <ℚ a
  taken_positive a t = let x = flow_at t.0 (Some a) t.1 in room_positive t.0 x.0 a x.1 (room-of t.0 x.0 a x.1 t.1)

  amount_nn : 0ℚ ≤ℚ amount
  amount_nn = by (least_room rooms) refl
    where
      by : (o : Option ℚ) → least_room rooms ≡ o → 0ℚ ≤ℚ unwrap_or o 0ℚ
      by None h = ≤ℚ_refl 0ℚ
      by (Some a) h = ≤ℚ_of_lt _ _ (taken_positive a (least-taken rooms a h))

  amount_bound : (e : ℕ) (y : ℚ) → slice_get rooms e ≡ Some (Some y) → amount ≤ℚ y
  amount_bound e y p = let s = least-some rooms e y p in subst (λ (o : Option ℚ). unwrap_or o 0ℚ ≤ℚ y) (sym s.1) (least-bound rooms s.0 s.1 e y p)

  -- ---- the new flows
  new_here : (e : ℕ) (x : ℚ) → slice_get flows e ≡ Some x → (y : ℚ) × (slice_get new e ≡ Some y) × (y ≡ x +ℚ signed (turn_of steps e) *ℚ amount)
  new_here e x p = let g = each-at (change_at passes steps amount) flows 0 new parts.2 e x p in
      (g.0, g.1, change-is passes (turn_of steps e) amount x g.0 (subst (λ (k : ℕ). change_on passes (turn_of steps k) amount x ≡ Ok g.0) (let z : 0 + e ≡ e = omega arith in z) g.2))

  new_count : length new ≡ length net.links
  new_count = each-length (change_at passes steps amount) flows 0 new parts.2 ∙ thin.flow_count

  new_is : (e : ℕ) → e < length net.links → number_at new e ≡ number_at flows e +ℚ signed (turn_of steps e) *ℚ amount
  new_is e h = let x = entry flows e (let c = thin.flow_count in omega arith) in let n = new_here e x.0 x.1 in
      number_at-is new e n.0 n.1 ∙ n.2 ∙ ap (λ (z : ℚ). z +ℚ signed (turn_of steps e) *ℚ amount) (sym (number_at-is flows e x.0 x.1))

  below : (e : ℕ) (b : Bool) → turn_of steps e ≡ Some b → e < length net.links
  below e b h = let i = interior e b h in slice_get_within net.links e i.link i.is_link

  moved_by : (e : ℕ) (b : Bool) → turn_of steps e ≡ Some b → number_at new e ≡ number_at flows e +ℚ signed (Some b) *ℚ amount
  moved_by e b h = new_is e (below e b h) ∙ ap (λ (o : Option Bool). number_at flows e +ℚ signed o *ℚ amount) h

  pub unmoved : (e : ℕ) → turn_of steps e ≡ None → number_at new e ≡ number_at flows e
  unmoved e h = by (slice_get flows e) refl
    where
      beyond : slice_get flows e ≡ None → number_at new e ≡ number_at flows e
      beyond k = let l : length flows ≤ e = by_length k in
          number_at-beyond new e (let c = new_count in let d = thin.flow_count in omega arith) ∙ sym (number_at-beyond flows e l)
        where
          by_length : slice_get flows e ≡ None → length flows ≤ e
          by_length k = entry_beyond flows e k

      by : (o : Option ℚ) → slice_get flows e ≡ o → number_at new e ≡ number_at flows e
      by None k = beyond k
      by (Some x) k = let w = slice_get_within flows e x k in
          new_is e (let c = thin.flow_count in omega arith) ∙ ap (λ (o : Option Bool). number_at flows e +ℚ signed o *ℚ amount) h ∙ plus_none (number_at flows e) amount

  turned_room : (e : ℕ) → turn_of steps e ≡ Some false → amount ≤ℚ number_at flows e
  turned_room e h = let x = entry flows e (let b = below e false h in let c = thin.flow_count in omega arith) in
      subst (λ (z : ℚ). amount ≤ℚ z) (sym (number_at-is flows e x.0 x.1)) (amount_bound e x.0 (room_back e x.0 x.1 h))

  new_nn : (e : ℕ) → 0ℚ ≤ℚ number_at new e
  new_nn e = by (turn_of steps e) refl
    where
      by : (o : Option Bool) → turn_of steps e ≡ o → 0ℚ ≤ℚ number_at new e
      by None h = subst (λ (z : ℚ). 0ℚ ≤ℚ z) (sym (unmoved e h)) (thin.no_negative_flow e)
      by (Some true) h = grown_nn (number_at flows e) amount _ (moved_by e true h) (thin.no_negative_flow e) amount_nn
      by (Some false) h = shrunk_nn (number_at flows e) amount _ (moved_by e false h) (turned_room e h)

  new_most : (e : ℕ) (b : Bool) → turn_of steps e ≡ Some b → (link : Link) (c : ℚ) → IsLink net e link → link.capacity ≡ Some c → number_at new e ≤ℚ c *ℚ number_at slopes link.head
  new_most e true h link c p k = let x = entry flows e (let b = below e true h in let n = thin.flow_count in omega arith) in
      grown_most (number_at flows e) amount _ _ (moved_by e true h)
      (subst (λ (z : ℚ). amount ≤ℚ c *ℚ number_at slopes link.head -ℚ z) (sym (number_at-is flows e x.0 x.1))
      (amount_bound e _ (room_forth e x.0 link c x.1 h p (interior e true h).needs.0 k)))
  new_most e false h link c p k = shrunk_most (number_at flows e) amount _ _ (moved_by e false h) amount_nn (≤ℚ_of_lt _ _ (interior_most e (interior e false h) link c p k))

  same_or_level : (e : ℕ) → (number_at new e ≡ number_at flows e) ⊎ (Has sets.active e × ((link : Link) → IsLink net e link → IsLevel net sets slopes e link (number_at new e)))
  same_or_level e = by (turn_of steps e) refl
    where
      by : (o : Option Bool) → turn_of steps e ≡ o → (number_at new e ≡ number_at flows e) ⊎ (Has sets.active e
          × ((link : Link) → IsLink net e link → IsLevel net sets slopes e link (number_at new e)))
      by None h = inl (unmoved e h)
      by (Some b) h = inr (
        (interior e b h).needs.0,
        λ link p. record {
          needs = (interior e b h).needs;
          level = interior-level net sets rate flows slopes good acyclic thin e (interior e b h) link p;
          at_most = λ c k. new_most e b h link c p k;
        },
      )

  node_line : (o p i j r s a : ℚ) → o ≡ p +ℚ r *ℚ a → i ≡ j +ℚ s *ℚ a → r -ℚ s ≡ 0ℚ → o -ℚ i ≡ p -ℚ j
  node_line o p i j r s a e f g = linear_eq (o ∷ p ∷ i ∷ j ∷ r ∷ s ∷ a ∷ []) (eq e ∷ eq f ∷ eq_times a g ∷ []) (search reading_of) tt tt

  same_surplus : (v : ℕ) → v < net.nodes → surplus net new v ≡ surplus net flows v
  same_surplus v h = node_line _ _ _ _ (sum_out net.links (carried_by steps) v) (sum_in net.links (carried_by steps) v) amount
      (sum_out-same net.links (number_at new) (λ e. number_at flows e +ℚ carried_by steps e *ℚ amount) v
      (λ e l p at. new_is e (slice_get_within net.links e l p)) ∙ sum_out-line net.links (number_at flows) (carried_by steps) amount v)
      (sum_in-same net.links (number_at new) (λ e. number_at flows e +ℚ carried_by steps e *ℚ amount) v
      (λ e l p at. new_is e (slice_get_within net.links e l p)) ∙ sum_in-line net.links (number_at flows) (carried_by steps) amount v)
      (carried-closed net (IsInterior net sets slopes flows) steps cycle.start cycle.trail cycle.differ v)

  pub IsThinFlow-cancelled : IsThinFlow net sets rate new slopes
  IsThinFlow-cancelled = IsThinFlow-changed net sets rate flows slopes new good thin new_count new_nn same_or_level same_surplus

  -- ---- fewer links are interior
  pub interior-before : (e : ℕ) → IsInterior net sets slopes new e → IsInterior net sets slopes flows e
  interior-before e i = by (turn_of steps e) refl
    where
      by : (o : Option Bool) → turn_of steps e ≡ o → IsInterior net sets slopes flows e
      by (Some b) h = interior e b h
      by None h = record {
        link = i.link;
        is_link = i.is_link;
        needs = i.needs;
        some = subst (λ (z : ℚ). 0ℚ <ℚ z) (unmoved e h) i.some;
        not_full = λ c k. subst (λ (z : ℚ). z <ℚ c *ℚ number_at slopes i.link.head) (unmoved e h) (i.not_full c k);
      }

  abbrev pub Ended : Type 0
  Ended = (e : ℕ) × IsInterior net sets slopes flows e × (IsInterior net sets slopes new e → ⊥)

  ended_by : (e : ℕ) (x a : ℚ) → slice_get flows e ≡ Some x → amount ≡ a → Room e x a → Ended
  ended_by e x a p s (back h k) = (
    e,
    interior e false h,
    λ i. not_both_ℚ _ _ i.some (≤ℚ_of_same _ _ (emptied (number_at flows e) amount _ (moved_by e false h)
        (number_at-is flows e x p ∙ k ∙ sym s))),
  )
  ended_by e x a p s (forth link c h l k g) = (
    e,
    interior e true h,
    λ i. not_both_ℚ _ _
        (subst (λ (m : Link). (c : ℚ) → m.capacity ≡ Some c → number_at new e <ℚ c *ℚ number_at slopes m.head) (IsLink-unique net e i.link link i.is_link l) i.not_full c k)
        (≤ℚ_of_same _ _ (sym (filled (number_at flows e) amount _ (c *ℚ number_at slopes link.head) (moved_by e true h)
        (ap (λ (z : ℚ). c *ℚ number_at slopes link.head -ℚ z) (number_at-is flows e x p) ∙ g ∙ sym s)))),
  )

  pub one-ended : Ended
  one-ended =
      let b = cycle-backward net sets slopes flows acyclic steps cycle in
      let x = entry flows b.0 (let w = below b.0 false b.1 in let c = thin.flow_count in omega arith) in
      let s = least-some rooms b.0 x.0 (room_back b.0 x.0 x.1 b.1) in
      let t = least-taken rooms s.0 s.1 in
      let y = flow_at t.0 (Some s.0) t.1 in
      ended_by t.0 y.0 s.0 y.1 (ap (λ (o : Option ℚ). unwrap_or o 0ℚ) s.1) (room-of t.0 y.0 s.0 y.1 t.1)
