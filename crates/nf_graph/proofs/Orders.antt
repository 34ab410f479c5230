-- An order that grows node by node.
use Rattle.std.proofs.Common.{◌≡◌, ℕ, zero, suc, ◌+◌, ◌<◌, ◌≤◌, List, [], ◌∷◌, ◌++◌, length, set, true, false, Bool, Option, Some, None, slice_get}
use Rattle.std.proofs.Common.{replicate, ◌⊎◌, inl, inr, ⊎_elim, sym, subst, refl, ◌∙◌, ap, arith}
use Rattle.nf_graph.proofs.Common.{length-set, slice_get_within, Has, Hop, IsHop, IsWalk, AreBelow, IsAt, IsOrder, IsReady, IsChosenCycle}
use Rattle.nf_graph.proofs.Flags.{free, free-set, not_set, Has-set_same, Has-set_other, Has-set_cases, Has-replicate, Has-within}

-- the nodes placed stand in the order, each once, and every chosen link into one of them comes from an earlier one
pub record ArePlaced (nodes : ℕ) (hops : List Hop) (chosen placed : List Bool) (order : List ℕ) : Type 0 where
  pub count : length placed ≡ nodes
  pub sum : length order + free placed ≡ nodes
  pub placed_at : (v : ℕ) → Has placed v → (i : ℕ) × IsAt order i v
  pub at_placed : (i v : ℕ) → IsAt order i v → Has placed v
  pub once : (i j v : ℕ) → IsAt order i v → IsAt order j v → i ≡ j
  pub earlier : (e j : ℕ) (hop : Hop) → IsHop hops e hop → Has chosen e → IsAt order j hop.head → (i : ℕ) × (i < j) × IsAt order i hop.tail

at_front : (order : List ℕ) (v i q : ℕ) → IsAt order i q → IsAt (order ++ v ∷ []) i q
at_front [] v i q h = absurd (cc)
at_front (x ∷ order) v zero q h = h
at_front (x ∷ order) v (suc i) q h = at_front order v i q h

at_end : (order : List ℕ) (v : ℕ) → IsAt (order ++ v ∷ []) (length order) v
at_end [] v = refl
at_end (x ∷ order) v = at_end order v

at_cases : (order : List ℕ) (v i q : ℕ) → IsAt (order ++ v ∷ []) i q → IsAt order i q ⊎ ((i ≡ length order) × (q ≡ v))
at_cases [] v zero q h = inr (refl, same v q h)
  where
    same : (a b : ℕ) → Some a ≡ Some b → b ≡ a
    same a b e = cc
at_cases [] v (suc i) q h = absurd (cc)
at_cases (x ∷ order) v zero q h = inl h
at_cases (x ∷ order) v (suc i) q h = ⊎_elim
    (λ (p : IsAt order i q). inl p)
    (λ (p : (i ≡ length order) × (q ≡ v)). inr (ap suc p.0, p.1)) (at_cases order v i q h)

length_end : (order : List ℕ) (v : ℕ) → length (order ++ v ∷ []) ≡ suc (length order)
length_end [] v = refl
length_end (x ∷ order) v = ap suc (length_end order v)

module _ (nodes : ℕ) (hops : List Hop) (chosen placed : List Bool) (order : List ℕ) (h : ArePlaced nodes hops chosen placed order) where
  sum_more : (v : ℕ) → slice_get placed v ≡ Some false → length (order ++ v ∷ []) + free (set placed v true) ≡ nodes
  sum_more v e = let a : suc (free (set placed v true)) ≡ free placed = free-set placed v e in let b : length (order ++ v ∷ []) ≡ suc (length order) = length_end order v in
      let s : length order + free placed ≡ nodes = h.sum in omega arith

  placed_more : (v : ℕ) (w : ℕ) → Has (set placed v true) w → (i : ℕ) × IsAt (order ++ v ∷ []) i w
  placed_more v w s = ⊎_elim
      (λ (e : w ≡ v). (length order, subst (λ (n : ℕ). IsAt (order ++ v ∷ []) (length order) n) (sym e) (at_end order v)))
      (λ (k : Has placed w). let p : (i : ℕ) × IsAt order i w = h.placed_at w k in (p.0, at_front order v p.0 w p.1)) (Has-set_cases placed v w s)

  at_more : (v i w : ℕ) → v < length placed → IsAt (order ++ v ∷ []) i w → Has (set placed v true) w
  at_more v i w b p = ⊎_elim
      (λ (q : IsAt order i w). Has-set_other placed v w (h.at_placed i w q))
      (λ (q : (i ≡ length order) × (w ≡ v)). subst (λ (n : ℕ). Has (set placed v true) n) (sym q.1) (Has-set_same placed v b)) (at_cases order v i w p)

  once_more : (v i j w : ℕ) → (Has placed v → ⊥) → IsAt (order ++ v ∷ []) i w → IsAt (order ++ v ∷ []) j w → i ≡ j
  once_more v i j w k p q = ⊎_elim
      (λ (a : IsAt order i w). ⊎_elim
      (λ (b : IsAt order j w). h.once i j w a b)
      (λ (b : (j ≡ length order) × (w ≡ v)). absurd (k (subst (λ (n : ℕ). Has placed n) b.1 (h.at_placed i w a)))) (at_cases order v j w q))
      (λ (a : (i ≡ length order) × (w ≡ v)). ⊎_elim
      (λ (b : IsAt order j w). absurd (k (subst (λ (n : ℕ). Has placed n) a.1 (h.at_placed j w b))))
      (λ (b : (j ≡ length order) × (w ≡ v)). a.0 ∙ sym b.0) (at_cases order v j w q)) (at_cases order v i w p)

  -- the tail of a chosen link into a node that may be placed next is placed
  tail_placed : (v e : ℕ) (hop : Hop) → IsReady hops chosen placed v → IsHop hops e hop → Has chosen e → hop.head ≡ v → hop.tail < length placed → Has placed hop.tail
  tail_placed v e hop ready p s t b = by_flag (slice_get placed hop.tail) refl
    where
      by_flag : (f : Option Bool) → slice_get placed hop.tail ≡ f → Has placed hop.tail
      by_flag None q = absurd (past placed hop.tail b q)
        where
          past : (fs : List Bool) (i : ℕ) → i < length fs → slice_get fs i ≡ None → ⊥
          past [] i l n = omega arith
          past (f ∷ fs) zero l n = cc
          past (f ∷ fs) (suc i) l n = past fs i (omega arith) n
      by_flag (Some true) q = q
      by_flag (Some false) q = absurd (ready.none e (record { hop = hop; is_hop = p; chosen_too = s; head = t; free = λ x. absurd (cc) }))

  earlier_more : (v e j : ℕ) (hop : Hop) → IsReady hops chosen placed v → hop.tail < length placed → IsHop hops e hop → Has chosen e → IsAt (order ++ v ∷ []) j hop.head
      → (i : ℕ) × (i < j) × IsAt (order ++ v ∷ []) i hop.tail
  earlier_more v e j hop ready b p s q = ⊎_elim
      (λ (a : IsAt order j hop.head). let r : (i : ℕ) × (i < j) × IsAt order i hop.tail = h.earlier e j hop p s a in (r.0, r.1, at_front order v r.0 hop.tail r.2))
      (λ (a : (j ≡ length order) × (hop.head ≡ v)). let r : (i : ℕ) × IsAt order i hop.tail = h.placed_at hop.tail (tail_placed v e hop ready p s a.1 b) in
      (r.0, subst (λ (n : ℕ). r.0 < n) (sym a.0) (slice_get_within order r.0 hop.tail r.1), at_front order v r.0 hop.tail r.1)) (at_cases order v j hop.head q)

pub placed_first : (nodes : ℕ) (hops : List Hop) (chosen placed : List Bool) (order : List ℕ) → placed ≡ replicate nodes false → order ≡ [] → ArePlaced nodes hops chosen placed order
placed_first nodes hops chosen placed order e f =
    subst (λ (o : List ℕ). ArePlaced nodes hops chosen placed o) (sym f) (subst (λ (p : List Bool). ArePlaced nodes hops chosen p []) (sym e) (record {
      count = length-replicate nodes;
      sum = free-replicate nodes;
      placed_at = λ v s. absurd (Has-replicate nodes v s);
      at_placed = λ i v p. absurd (cc);
      once = λ i j v p q. absurd (cc);
      earlier = λ e j hop p s q. absurd (cc);
    }))
  where
    length-replicate : (n : ℕ) → length (replicate n false) ≡ n
    length-replicate zero = refl
    length-replicate (suc n) = ap suc (length-replicate n)

    free-replicate : (n : ℕ) → 0 + free (replicate n false) ≡ n
    free-replicate zero = refl
    free-replicate (suc n) = let h : 0 + free (replicate n false) ≡ n = free-replicate n in omega arith

pub placed_next : (nodes : ℕ) (hops : List Hop) (chosen placed : List Bool) (order : List ℕ) (v i : ℕ) → AreBelow nodes hops → i ≡ v → IsReady hops chosen placed v
    → ArePlaced nodes hops chosen placed order → ArePlaced nodes hops chosen (set placed i true) (order ++ v ∷ [])
placed_next nodes hops chosen placed order v i below n ready h = subst (λ (k : ℕ). ArePlaced nodes hops chosen (set placed k true) (order ++ v ∷ [])) (sym n) (record {
  count = length-set placed v true ∙ h.count;
  sum = sum_more nodes hops chosen placed order h v (not_set placed v ready.below ready.free);
  placed_at = placed_more nodes hops chosen placed order h v;
  at_placed = λ k w p. at_more nodes hops chosen placed order h v k w ready.below p;
  once = λ k j w p q. once_more nodes hops chosen placed order h v k j w ready.free p q;
  earlier = λ e j hop p s q. earlier_more nodes hops chosen placed order h v e j hop ready (subst (λ (k : ℕ). hop.tail < k) (sym h.count) (below.tails e hop p)) p s q;
})

none_free : (placed : List Bool) → ((v : ℕ) → v < length placed → Has placed v) → free placed ≡ 0
none_free [] h = refl
none_free (true ∷ placed) h = none_free placed (λ v l. h (suc v) (omega arith))
none_free (false ∷ placed) h = let p : Has (false ∷ placed) 0 = h 0 (omega arith) in absurd (cc)

pub order_all : (nodes : ℕ) (hops : List Hop) (chosen placed : List Bool) (order : List ℕ) → ArePlaced nodes hops chosen placed order → ((v : ℕ) → v < length placed → Has placed v)
    → IsOrder nodes hops chosen order
order_all nodes hops chosen placed order h full = record {
  count = let s : length order + free placed ≡ nodes = h.sum in let z : free placed ≡ 0 = none_free placed full in omega arith;
  nodes_only = λ i v p. subst (λ (n : ℕ). v < n) h.count (Has-within placed v (h.at_placed i v p));
  each = λ v l. h.placed_at v (full v (subst (λ (n : ℕ). v < n) (sym h.count) l));
  once = h.once;
  later = λ e i j hop p s q r. let w : (k : ℕ) × (k < j) × IsAt order k hop.tail = h.earlier e j hop p s r in subst (λ (k : ℕ). k < j) (h.once w.0 i hop.tail w.2 q) w.1;
}

-- ---- an order holds no cycle
along_order : (nodes : ℕ) (hops : List Hop) (chosen : List Bool) (order : List ℕ) (walk : List ℕ) (v w i j : ℕ) → IsOrder nodes hops chosen order → IsWalk hops walk v w
    → ((k e : ℕ) → slice_get walk k ≡ Some e → Has chosen e) → AreBelow nodes hops → IsAt order i v → IsAt order j w → i ≤ j
along_order nodes hops chosen order [] v w i j o h c b p q =
    let e : i ≡ j = o.once i j w (subst (λ (n : ℕ). IsAt order i n) h p) q in omega arith
along_order nodes hops chosen order (e ∷ walk) v w i j o h c b p q =
    let k : (k : ℕ) × IsAt order k h.0.head = o.each h.0.head (b.heads e h.0 h.1) in
    let first : i < k.0 = o.later e i k.0 h.0 h.1 (c 0 e refl) (subst (λ (n : ℕ). IsAt order i n) (sym h.2) p) k.1 in
    let rest : k.0 ≤ j = along_order nodes hops chosen order walk h.0.head w k.0 j o h.3 (λ m f r. c (suc m) f r) b k.1 q in
    omega arith

round_order : (nodes : ℕ) (hops : List Hop) (chosen : List Bool) (order : List ℕ) (walk : List ℕ) (v : ℕ) → AreBelow nodes hops
    → IsOrder nodes hops chosen order → 0 < length walk → IsWalk hops walk v v
    → ((k e : ℕ) → slice_get walk k ≡ Some e → Has chosen e) → ⊥
round_order nodes hops chosen order [] v b o s h c = omega arith
round_order nodes hops chosen order (e ∷ walk) v b o s h c =
    let i : (i : ℕ) × IsAt order i v = o.each v (subst (λ (n : ℕ). n < nodes) h.2 (b.tails e h.0 h.1)) in
    let k : (k : ℕ) × IsAt order k h.0.head = o.each h.0.head (b.heads e h.0 h.1) in
    let first : i.0 < k.0 = o.later e i.0 k.0 h.0 h.1 (c 0 e refl) (subst (λ (n : ℕ). IsAt order i.0 n) (sym h.2) i.1) k.1 in
    let rest : k.0 ≤ i.0 = along_order nodes hops chosen order walk h.0.head v k.0 i.0 o h.3 (λ m f r. c (suc m) f r) b k.1 i.1 in
    omega arith

pub IsOrder-no_cycle : (nodes : ℕ) (hops : List Hop) (chosen : List Bool) (order cycle : List ℕ) → AreBelow nodes hops → IsOrder nodes hops chosen order
    → IsChosenCycle hops chosen cycle → ⊥
IsOrder-no_cycle nodes hops chosen order cycle b o c = round_order nodes hops chosen order cycle c.node b o c.some c.closed c.allowed
