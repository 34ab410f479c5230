-- The existence of an oversupply. Slopes are powers of a great number, by the heights of nodes. Into each node leads a link that brings
-- more than all links out of it can carry.
use Rattle.std.proofs.Common.{◌≡◌, ℕ, zero, suc, ◌<◌, ◌≤◌, List, [], ◌∷◌, ◌⊎◌, inl, inr, ⊎_elim, Bool, true, false, eqb, if◌then◌else◌, Option, Some, None}
use Rattle.std.proofs.Common.{slice_get, unwrap_or, ap, sym, subst, refl, ◌∙◌, arith}
use Rattle.nf_complete_laws.proofs.Common.{none-some, same_Some, ℚ, 0ℚ, 1ℚ, ◌+ℚ◌, ◌*ℚ◌, ◌≤ℚ◌, ◌<ℚ◌, reading_of, ≤ℚ_of_lt, nn_plus, nn_times, le, le_times}
use Rattle.nf_complete_laws.proofs.Common.{linear_le, ≤ℚ_refl, ≤ℚ_trans, times_le, not_both, Has, Link, Network, IsLink, IsNetwork, sum_in, sum_out, Sets}
use Rattle.nf_complete_laws.proofs.Common.{Enters, NeedsState, Fills, sum_in-each, AreSets, HoldNoCycle, EachIsEntered, flag, flag-cases, Fits, demand}
use Rattle.nf_complete_laws.proofs.Common.{IsOversupply, ResetsAreBounded}
use Rattle.nf_complete_laws.proofs.Powers.{power, power-one, power-nn, power-rises, room, room-positive, rooms, rooms-nn, sum_out-within, IsWide, wide}
use Rattle.nf_complete_laws.proofs.Loads.{bound, bound-tail, Load, load}
use Rattle.nf_complete_laws.proofs.Heights.{Heights, heights}

flag-set : (flags : List Bool) (e : ℕ) → Has flags e → flag flags e ≡ true
flag-set flags e h = ap (λ (o : Option Bool). unwrap_or o false) h

flag-unset : (flags : List Bool) (e : ℕ) → (Has flags e → ⊥) → flag flags e ≡ false
flag-unset flags e n = ⊎_elim
    (λ (w : (flag flags e ≡ true) × Has flags e). absurd (n w.1))
    (λ (w : (flag flags e ≡ false) × (Has flags e → ⊥)). w.0)
    (flag-cases flags e)

-- ---- numbers: outflow o, demand b and inflow i; r is the room of a link with flow x, and c the room of all links
demand_at_most : (b : Bool) (rate : ℚ) → 0ℚ ≤ℚ rate → (if b then rate else 0ℚ) ≤ℚ rate
demand_at_most true rate n = ≤ℚ_refl rate
demand_at_most false rate n = n

enough_by : (o b i rate r x c k p : ℚ) → o ≤ℚ c *ℚ p → b ≤ℚ rate → 0ℚ ≤ℚ rate → 1ℚ ≤ℚ p → 0ℚ ≤ℚ p → c +ℚ rate ≤ℚ r *ℚ k → r *ℚ (k *ℚ p) ≤ℚ x → x ≤ℚ i → o +ℚ b ≤ℚ i
enough_by o b i rate r x c k p h j n one m w f g =
    linear_le (o ∷ b ∷ i ∷ rate ∷ r ∷ x ∷ c ∷ k ∷ p ∷ []) (le h ∷ le j ∷ le_times n one ∷ le_times m w ∷ le f ∷ le g ∷ []) (search reading_of) tt

zero_at_most : (x y : ℚ) → x ≡ 0ℚ → 0ℚ ≤ℚ y → x ≤ℚ y
zero_at_most x y e h = subst (λ (z : ℚ). z ≤ℚ y) (sym e) h

IsPositive-room : (net : Network) → IsNetwork net → (e : ℕ) (link : Link) → IsLink net e link → 0ℚ <ℚ room link.capacity
IsPositive-room net good e link p = room-positive link.capacity (λ c h. good.capacities e link c p h)

module _ (net : Network) (sets : Sets) (rate : ℚ) (good : IsNetwork net) (are : AreSets net sets) (bounded : ResetsAreBounded net sets) (nn : 0ℚ ≤ℚ rate)
    (by : Heights net sets) (k : ℚ) (one : 1ℚ ≤ℚ k) (is_wide : IsWide net.links (rooms net.links +ℚ rate) k) where
  abbrev slope_of : ℕ → ℚ
  slope_of v = power k (by.height v)

  abbrev asked : Link → ℚ
  asked link = room link.capacity *ℚ power k (by.time link.head)

  -- Properties of the flow x of a link.
  record Carries (e : ℕ) (link : Link) (x : ℚ) : Type 0 where
    no_negative : 0ℚ ≤ℚ x
    inactive : (Has sets.active e → ⊥) → x ≡ 0ℚ
    resetting : Has sets.resetting e → Fills link.capacity x (slope_of link.head)
    others : NeedsState sets e → Fits link.capacity x (slope_of link.tail) (slope_of link.head)
    most : x ≤ℚ asked link
    least : Has sets.active e → by.height link.head ≡ bound (flag sets.resetting e) link.capacity (by.height link.tail) (by.time link.head) → asked link ≤ℚ x

  nn_asked : (e : ℕ) (link : Link) → IsLink net e link → 0ℚ ≤ℚ asked link
  nn_asked e link p = nn_times (room link.capacity) _ (≤ℚ_of_lt _ _ (IsPositive-room net good e link p)) (power-nn k one (by.time link.head))

  by_load : (e : ℕ) (link : Link) → Has sets.active e → Load k (flag sets.resetting e) link.capacity (by.height link.tail) (by.height link.head)
      (by.time link.head) → (x : ℚ) × Carries e link x
  by_load e link a l = (
    l.flow,
    record {
      no_negative = l.no_negative;
      inactive = λ n. absurd (n a);
      resetting = λ r. l.fills (flag-set sets.resetting e r);
      others = λ n. l.fits (flag-unset sets.resetting e n.1);
      most = l.most;
      least = λ _ e. l.least e;
    },
  )

  load_of : (e : ℕ) (link : Link) → IsLink net e link → Has sets.active e
      → Load k (flag sets.resetting e) link.capacity (by.height link.tail) (by.height link.head) (by.time link.head)
  load_of e link p a = load k one (by.height link.tail) (by.height link.head) (by.time link.head) (flag sets.resetting e) link.capacity (λ c h. good.capacities e link c p h)
      (λ r none. bounded e link p none (resets r)) (by.bounds link.head e link (record { is_link = p; active = a; head = refl }))
    where
      resets : flag sets.resetting e ≡ true → Has sets.resetting e
      resets r = ⊎_elim
          (λ (w : (flag sets.resetting e ≡ true) × Has sets.resetting e). w.1)
          (λ (w : (flag sets.resetting e ≡ false) × (Has sets.resetting e → ⊥)). absurd (not_both _ r w.0))
          (flag-cases sets.resetting e)

  carried : (e : ℕ) (link : Link) → IsLink net e link → (x : ℚ) × Carries e link x
  carried e link p = ⊎_elim
      (λ (a : (flag sets.active e ≡ true) × Has sets.active e). by_load e link a.1 (load_of e link p a.1))
      (λ (a : (flag sets.active e ≡ false) × (Has sets.active e → ⊥)). (
        0ℚ,
        record {
          no_negative = ≤ℚ_refl 0ℚ;
          inactive = λ _. refl;
          resetting = λ r. absurd (a.1 (are.resetting e r));
          others = λ n. absurd (a.1 n.0);
          most = nn_asked e link p;
          least = λ b _. absurd (a.1 b);
        },
      ))
      (flag-cases sets.active e)

  -- ---- flows by link number
  chosen : (e : ℕ) → (x : ℚ) × (0ℚ ≤ℚ x) × ((link : Link) → IsLink net e link → Carries e link x)
  chosen e = go (slice_get net.links e) refl
    where
      go : (o : Option Link) → slice_get net.links e ≡ o → (x : ℚ) × (0ℚ ≤ℚ x) × ((link : Link) → IsLink net e link → Carries e link x)
      go None h = (0ℚ, ≤ℚ_refl 0ℚ, λ link p. absurd (none-some link (sym h ∙ p)))
      go (Some l) h = let c : (x : ℚ) × Carries e l x = carried e l h in
          (c.0, (c.1).no_negative, λ link p. subst (λ (m : Link). Carries e m c.0) (same_Some l link (sym h ∙ p)) c.1)

  abbrev flow_of : ℕ → ℚ
  flow_of e = (chosen e).0

  carries : (e : ℕ) (link : Link) → IsLink net e link → Carries e link (flow_of e)
  carries e link p = (chosen e).2 link p

  -- ---- at a node other than the source
  abbrev Led : ℕ → Type 0
  Led v = (e : ℕ) × (link : Link) × Enters net sets v e link × (by.height v ≡ bound (flag sets.resetting e) link.capacity (by.height link.tail) (by.time v))

  -- The link by which the node is entered brings all that it has room for.
  brings : (v : ℕ) (l : Led v) → room l.1.capacity *ℚ power k (by.time v) ≤ℚ flow_of l.0
  brings v (e, link, n, at) = subst (λ (u : ℕ). room link.capacity *ℚ power k (by.time u) ≤ℚ flow_of e) n.head
      ((carries e link n.is_link).least n.active
      (subst (λ (u : ℕ). by.height u ≡ bound (flag sets.resetting e) link.capacity (by.height link.tail) (by.time u)) (sym n.head) at))

  -- A link out of the node carries less, by a factor of k.
  takes : (v m : ℕ) → by.time v ≡ suc m → (e : ℕ) (link : Link) → IsLink net e link → link.tail ≡ v → flow_of e ≤ℚ room link.capacity *ℚ power k m
  takes v m t e link p at = ⊎_elim
      (λ (a : (flag sets.active e ≡ true) × Has sets.active e). ≤ℚ_trans _ _ _ (carries e link p).most
      (times_le (room link.capacity) _ _ low (power-rises k one (by.time link.head) m (earlier (by.falls link.head e link (record { is_link = p; active = a.1; head = refl }))))))
      (λ (a : (flag sets.active e ≡ false) × (Has sets.active e → ⊥)). zero_at_most _ _ ((carries e link p).inactive a.1) (nn_times (room link.capacity) _ low (power-nn k one m)))
      (flag-cases sets.active e)
    where
      low : 0ℚ ≤ℚ room link.capacity
      low = ≤ℚ_of_lt _ _ (IsPositive-room net good e link p)

      earlier : by.time link.head < by.time link.tail → by.time link.head ≤ m
      earlier h = let s : by.time link.tail ≡ suc m = ap by.time at ∙ t in below _ _ h s
        where
          below : (x y : ℕ) → x < y → y ≡ suc m → x ≤ m
          below x y h s = omega arith

  enough_at : (v m : ℕ) → by.time v ≡ suc m → Led v → sum_out net.links flow_of v +ℚ demand net rate v ≤ℚ sum_in net.links flow_of v
  enough_at v m t l = enough_by (sum_out net.links flow_of v) (demand net rate v) (sum_in net.links flow_of v) rate (room l.1.capacity) (flow_of l.0) (rooms net.links) k (power k m)
      (sum_out-within net.links flow_of v (power k m) (power-nn k one m) (IsPositive-room net good) (takes v m t))
      (demand_at_most (eqb v net.sink) rate nn) nn (power-one k one m) (power-nn k one m) (is_wide l.0 l.1 l.2.is_link)
      (subst (λ (u : ℕ). room l.1.capacity *ℚ power k u ≤ℚ flow_of l.0) t (brings v l))
      (sum_in-each net.links flow_of v (λ e. (chosen e).1) l.0 l.1 l.2.is_link l.2.head)

  before : (n : ℕ) → 1 ≤ n → (m : ℕ) × (n ≡ suc m)
  before zero h = absurd (omega arith)
  before (suc m) h = (m, refl)

  led_at : (v : ℕ) (l : Led v) → Has sets.resetting l.0 ⊎ (slope_of l.1.tail ≤ℚ slope_of l.1.head)
  led_at v (e, link, n, at) = ⊎_elim
      (λ (w : (flag sets.resetting e ≡ true) × Has sets.resetting e). inl w.1)
      (λ (w : (flag sets.resetting e ≡ false) × (Has sets.resetting e → ⊥)). inr (power-rises k one (by.height link.tail) (by.height link.head) (above w.0)))
      (flag-cases sets.resetting e)
    where
      above : flag sets.resetting e ≡ false → by.height link.tail ≤ by.height link.head
      above f = subst (λ (u : ℕ). by.height link.tail ≤ by.height u) (sym n.head)
          (subst (λ (x : ℕ). by.height link.tail ≤ x) (sym at)
          (subst (λ (b : Bool). by.height link.tail ≤ bound b link.capacity (by.height link.tail) (by.time v)) (sym f) (bound-tail link.capacity (by.height link.tail) (by.time v))))

  IsOversupply-heights : IsOversupply net sets rate flow_of slope_of
  IsOversupply-heights = record {
    starts = ap (power k) by.starts;
    no_negative_slope = λ v _. power-nn k one (by.height v);
    inactive = λ e link p n. (carries e link p).inactive n;
    resetting = λ e link p r. (carries e link p).resetting r;
    others = λ e link p n. (carries e link p).others n;
    led = λ v h other. let l : Led v = by.taken v h other in (l.0, l.1, l.2, led_at v l);
    enough = λ v h other. let m : (m : ℕ) × (by.time v ≡ suc m) = before (by.time v) (by.some v) in enough_at v m.0 m.1 (by.taken v h other);
  }

  supplied : (flows : ℕ → ℚ) × (slopes : ℕ → ℚ) × IsOversupply net sets rate flows slopes
  supplied = (flow_of, slope_of, IsOversupply-heights)

pub IsOversupply-some : (net : Network) (sets : Sets) (rate : ℚ) → IsNetwork net → AreSets net sets → HoldNoCycle net sets → EachIsEntered net sets → ResetsAreBounded net sets
    → 0ℚ ≤ℚ rate → (flows : ℕ → ℚ) × (slopes : ℕ → ℚ) × IsOversupply net sets rate flows slopes
IsOversupply-some net sets rate good are acyclic entered bounded nn =
    let positive : (e : ℕ) (link : Link) → IsLink net e link → 0ℚ <ℚ room link.capacity = IsPositive-room net good in
    let w : (k : ℚ) × (1ℚ ≤ℚ k) × IsWide net.links (rooms net.links +ℚ rate) k = wide net.links (rooms net.links +ℚ rate) (nn_plus _ _ (rooms-nn net.links positive) nn) positive in
    supplied net sets rate good are bounded nn (heights net sets good acyclic entered) w.0 w.1 w.2
