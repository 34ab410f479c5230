-- Times and heights of nodes. Times fall along active links, and heights are as great as the links into the node allow.
use Rattle.std.proofs.Common.{◌≡◌, ◌≢◌, ℕ, zero, suc, ◌+◌, ◌-◌, ◌<◌, ◌≤◌, ◌⊎◌, inl, inr, ⊎_elim, true, false, eqb, ap, sym, subst, ◌∙◌, arith}
use Rattle.nf_complete_laws.proofs.Common.{eqb_tells, Has, Link, Network, IsLink, IsNetwork, Sets, Enters, HoldNoCycle, EachIsEntered}
use Rattle.nf_complete_laws.proofs.Common.{NoneEntersSource-acyclic, flag, flag-cases}
use Rattle.nf_complete_laws.proofs.LeastLinks.{least_of, least_of-either, least_of-below, least_of-taken, least_of-none, least_of-same}
use Rattle.nf_complete_laws.proofs.Recursions.{iterated, solution, solution-is}
use Rattle.nf_complete_laws.proofs.Loads.{bound}

-- The height of a node is the least that some link into it allows, and the height of the source is 0.
pub record Heights (net : Network) (sets : Sets) : Type 0 where
  pub time : ℕ → ℕ
  pub height : ℕ → ℕ
  pub some : (v : ℕ) → 1 ≤ time v
  pub falls : (v e : ℕ) (link : Link) → Enters net sets v e link → time v < time link.tail
  pub starts : height net.source ≡ 0
  pub bounds : (v e : ℕ) (link : Link) → Enters net sets v e link → height v ≤ bound (flag sets.resetting e) link.capacity (height link.tail) (time v)
  pub taken : (v : ℕ) → v < net.nodes → v ≢ net.source
      → (e : ℕ) × (link : Link) × Enters net sets v e link × (height v ≡ bound (flag sets.resetting e) link.capacity (height link.tail) (time v))

module _ (net : Network) (sets : Sets) where
  abbrev LeadsTo : ℕ → ℕ → Link → Type 0
  LeadsTo v e link = Has sets.active e × (link.head ≡ v)

  leads_or_not : (v e : ℕ) (link : Link) → LeadsTo v e link ⊎ (LeadsTo v e link → ⊥)
  leads_or_not v e link = ⊎_elim
      (λ (a : (flag sets.active e ≡ true) × Has sets.active e). ⊎_elim
      (λ (w : (eqb link.head v ≡ true) × (link.head ≡ v)). inl (a.1, w.1))
      (λ (w : (eqb link.head v ≡ false) × (link.head ≢ v)). inr (λ l. w.1 l.1))
      (eqb_tells link.head v))
      (λ (a : (flag sets.active e ≡ false) × (Has sets.active e → ⊥)). inr (λ l. a.1 l.0))
      (flag-cases sets.active e)

  enters : (v e : ℕ) (link : Link) → IsLink net e link → LeadsTo v e link → Enters net sets v e link
  enters v e link p l = record { is_link = p; active = l.0; head = l.1 }

  -- The least value on the active links into a node, or d if there is none.
  abbrev least_into : ℕ → ℕ → (ℕ → Link → ℕ) → ℕ
  least_into v d f = least_of net.links (LeadsTo v) (leads_or_not v) d f

  into-below : (v d : ℕ) (f : ℕ → Link → ℕ) (e : ℕ) (link : Link) → Enters net sets v e link → least_into v d f ≤ f e link
  into-below v d f e link n = least_of-below net.links (LeadsTo v) (leads_or_not v) d f e link n.is_link (n.active, n.head)

  into-same : (v d : ℕ) (f g : ℕ → Link → ℕ) → ((e : ℕ) (link : Link) → Enters net sets v e link → f e link ≡ g e link) → least_into v d f ≡ least_into v d g
  into-same v d f g same = least_of-same net.links (LeadsTo v) (leads_or_not v) d f g (λ e link p l. same e link (enters v e link p l))

  into-taken : (v d : ℕ) (f : ℕ → Link → ℕ) (e : ℕ) (link : Link) → Enters net sets v e link → (k : ℕ) × (other : Link) × Enters net sets v k other × (least_into v d f ≡ f k other)
  into-taken v d f e link n =
      let t = least_of-taken net.links (LeadsTo v) (leads_or_not v) d f e link n.is_link (n.active, n.head) in
      (t.0, t.1, enters v t.0 t.1 t.2 t.3, t.4)

  -- ---- times: one less than the least time of the tails
  abbrev most_time : ℕ
  most_time = suc (suc net.nodes)

  abbrev time_by : ℕ → (ℕ → ℕ) → ℕ
  time_by v f = least_into v most_time (λ e link. f link.tail - 1)

  time_by-local : (v : ℕ) (f g : ℕ → ℕ) → ((e : ℕ) (link : Link) → Enters net sets v e link → f link.tail ≡ g link.tail) → time_by v f ≡ time_by v g
  time_by-local v f g same = into-same v most_time (λ e link. f link.tail - 1) (λ e link. g link.tail - 1) (λ e link n. ap (λ (x : ℕ). x - 1) (same e link n))

  abbrev time_after : ℕ → ℕ → ℕ
  time_after k v = iterated net sets most_time time_by time_by-local k v

  abbrev time_of : ℕ → ℕ
  time_of v = solution net sets most_time time_by time_by-local v

  time_left : (k v : ℕ) → most_time ≤ time_after k v + k
  time_left zero v = omega arith
  time_left (suc k) v = least_of-either net.links (LeadsTo v) (leads_or_not v) most_time (λ e link. time_after k link.tail - 1)
      (λ x. most_time ≤ x + suc k) (omega arith) (λ e link p l. one_less _ k (time_left k link.tail))
    where
      one_less : (x k : ℕ) → most_time ≤ x + k → most_time ≤ (x - 1) + suc k
      one_less x k h = omega arith

  time-some : (v : ℕ) → 1 ≤ time_of v
  time-some v = some _ (time_left (suc net.nodes) v)
    where
      some : (x : ℕ) → most_time ≤ x + suc net.nodes → 1 ≤ x
      some x h = omega arith

  module _ (good : IsNetwork net) (acyclic : HoldNoCycle net sets) where
    time-falls : (v e : ℕ) (link : Link) → Enters net sets v e link → time_of v < time_of link.tail
    time-falls v e link n = less _ _ _ (solution-is net sets most_time time_by time_by-local good acyclic v)
        (into-below v most_time (λ k other. time_of other.tail - 1) e link n) (time-some link.tail)
      where
        less : (x y z : ℕ) → x ≡ y → y ≤ z - 1 → 1 ≤ z → x < z
        less x y z p h k = omega arith

    -- ---- heights
    abbrev height_by : ℕ → (ℕ → ℕ) → ℕ
    height_by v f = least_into v 0 (λ e link. bound (flag sets.resetting e) link.capacity (f link.tail) (time_of v))

    height_by-local : (v : ℕ) (f g : ℕ → ℕ) → ((e : ℕ) (link : Link) → Enters net sets v e link → f link.tail ≡ g link.tail) → height_by v f ≡ height_by v g
    height_by-local v f g same = into-same v 0 (λ e link. bound (flag sets.resetting e) link.capacity (f link.tail) (time_of v))
        (λ e link. bound (flag sets.resetting e) link.capacity (g link.tail) (time_of v))
        (λ e link n. ap (λ (x : ℕ). bound (flag sets.resetting e) link.capacity x (time_of v)) (same e link n))

    abbrev height_of : ℕ → ℕ
    height_of v = solution net sets 0 height_by height_by-local v

    abbrev allowed : ℕ → ℕ → Link → ℕ
    allowed v e link = bound (flag sets.resetting e) link.capacity (height_of link.tail) (time_of v)

    height-is : (v : ℕ) → height_of v ≡ least_into v 0 (allowed v)
    height-is v = solution-is net sets 0 height_by height_by-local good acyclic v

    pub heights : EachIsEntered net sets → Heights net sets
    heights entered = record {
      time = time_of;
      height = height_of;
      some = time-some;
      falls = time-falls;
      starts = height-is net.source ∙ least_of-none net.links (LeadsTo net.source) (leads_or_not net.source) 0 (allowed net.source)
          (λ e link p l. NoneEntersSource-acyclic net sets good acyclic entered e link (enters net.source e link p l));
      bounds = λ v e link n. subst (λ (x : ℕ). x ≤ allowed v e link) (sym (height-is v)) (into-below v 0 (allowed v) e link n);
      taken = λ v h other.
          let n : (e : ℕ) × (link : Link) × Enters net sets v e link = entered v h other in
          let t = into-taken v 0 (allowed v) n.0 n.1 n.2 in
          (t.0, t.1, t.2, height-is v ∙ t.3);
    }
