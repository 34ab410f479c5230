-- Going back along chosen links until a node comes for the second time; that closes a cycle.
use Rattle.std.proofs.Common.{◌≡◌, ℕ, zero, suc, ◌<◌, List, [], ◌∷◌, length, set, take, insert, replicate, true, false, Bool, Some, slice_get, ⊎_elim, sym}
use Rattle.std.proofs.Common.{subst, refl, ◌∙◌, ap}
use Rattle.nf_graph.proofs.Common.{length-set, Has, Hop, IsHop, IsWalk, AreBelow, EntersFromUnplaced, Turns, IsChosenCycle}
use Rattle.nf_graph.proofs.Flags.{Has-replicate, Has-set_cases, Has-within}
use Rattle.nf_graph.proofs.Walks.{IsHop-unique, IsWalk-take, take-at, take_some}

-- a walk of chosen links leads from the node to the start, and passes each node visited
pub record IsBack (hops : List Hop) (chosen placed : List Bool) (start : ℕ) (visited : List Bool) (walk : List ℕ) (node : ℕ) : Type 0 where
  pub count : length visited ≡ length placed
  pub below : node < length placed
  pub free : Has placed node → ⊥
  pub way : IsWalk hops walk node start
  pub along : (i e : ℕ) → slice_get walk i ≡ Some e → Has chosen e
  pub seen : (v : ℕ) → Has visited v → (count : ℕ) × Turns hops walk v count

pub back_first : (hops : List Hop) (chosen placed : List Bool) (start n : ℕ) (visited : List Bool) (walk : List ℕ) → start < length placed
    → (Has placed start → ⊥) → visited ≡ replicate n false
    → length visited ≡ length placed → walk ≡ [] → IsBack hops chosen placed start visited walk start
back_first hops chosen placed start n visited walk h k e l w = record {
  count = l;
  below = h;
  free = k;
  way = subst (λ (ws : List ℕ). IsWalk hops ws start start) (sym w) refl;
  along = λ i f p. let none : slice_get walk i ≡ slice_get [] i = ap (λ (ws : List ℕ). slice_get ws i) w in absurd (cc);
  seen = λ v s. absurd (Has-replicate n v (subst (λ (f : List Bool). Has f v) e s));
}

turns_later : (hops : List Hop) (walk : List ℕ) (e v : ℕ) → (count : ℕ) × Turns hops walk v count → (count : ℕ) × Turns hops (e ∷ walk) v count
turns_later hops walk e v t =
    (suc t.0, record { place = suc t.1.place; number = t.1.number; hop = t.1.hop; at_place = t.1.at_place; is_hop = t.1.is_hop; head = t.1.head; is_count = ap suc t.1.is_count })

along_more : (chosen : List Bool) (walk : List ℕ) (e : ℕ) → Has chosen e → ((i f : ℕ) → slice_get walk i ≡ Some f → Has chosen f)
    → (i f : ℕ) → slice_get (e ∷ walk) i ≡ Some f → Has chosen f
along_more chosen walk e h k zero f p = subst (λ (n : ℕ). Has chosen n) (same e f p) h
  where
    same : (a b : ℕ) → Some a ≡ Some b → a ≡ b
    same a b q = cc
along_more chosen walk e h k (suc i) f p = k i f p

pub insert-first : (walk : List ℕ) (e : ℕ) → insert walk 0 e ≡ e ∷ walk
insert-first walk e = refl

pub back_more : (hops : List Hop) (chosen placed : List Bool) (start : ℕ) (visited : List Bool) (walk : List ℕ) (node e tail i : ℕ) (hop : Hop) → AreBelow (length placed) hops
    → IsBack hops chosen placed start visited walk node → EntersFromUnplaced hops chosen placed e node → IsHop hops e hop → tail ≡ hop.tail → i ≡ node
    → IsBack hops chosen placed start (set visited i true) (e ∷ walk) tail
back_more hops chosen placed start visited walk node e tail i hop below b enters p t n =
    let same : enters.hop ≡ hop = IsHop-unique hops e enters.hop hop enters.is_hop p in
    record {
      count = length-set visited i true ∙ b.count;
      below = subst (λ (v : ℕ). v < length placed) (sym t) (below.tails e hop p);
      free = subst (λ (v : ℕ). Has placed v → ⊥) (ap (λ (h : Hop). h.tail) same ∙ sym t) enters.free;
      way = (hop, p, sym t, subst (λ (v : ℕ). IsWalk hops walk v start) (sym enters.head ∙ ap (λ (h : Hop). h.head) same) b.way);
      along = along_more chosen walk e enters.chosen_too b.along;
      seen = λ v s. ⊎_elim
          (λ (q : v ≡ i). (
            1,
            record {
              place = 0;
              number = e;
              hop = hop;
              at_place = refl;
              is_hop = p;
              head = sym (ap (λ (h : Hop). h.head) same)
                  ∙ enters.head ∙ sym n ∙ sym q;
              is_count = refl;
            },
          ))
          (λ (k : Has visited v). turns_later hops walk e v (b.seen v k)) (Has-set_cases visited i v s);
    }

pub back_within : (hops : List Hop) (chosen placed : List Bool) (start : ℕ) (visited : List Bool) (walk : List ℕ) (node : ℕ) → length chosen ≡ length hops
    → IsBack hops chosen placed start visited walk node → (i e : ℕ) → slice_get walk i ≡ Some e → e < length hops
back_within hops chosen placed start visited walk node h b i e p = subst (λ (n : ℕ). e < n) h (Has-within chosen e (b.along i e p))

pub back_cycle : (hops : List Hop) (chosen placed : List Bool) (start : ℕ) (visited : List Bool) (walk : List ℕ) (node count : ℕ)
    → IsBack hops chosen placed start visited walk node → Turns hops walk node count → IsChosenCycle hops chosen (take count walk)
back_cycle hops chosen placed start visited walk node count b t = subst (λ (n : ℕ). IsChosenCycle hops chosen (take n walk)) (sym t.is_count) (record {
  node = node;
  some = take_some walk t.place t.number t.at_place;
  closed = subst (λ (v : ℕ). IsWalk hops (take (suc t.place) walk) node v) t.head (IsWalk-take hops walk node start t.place t.number t.hop b.way t.at_place t.is_hop);
  allowed = λ i e p. b.along i e (take-at walk (suc t.place) i e p);
})
