-- Active links that hold no cycle.
use Rattle.std.proofs.Common.{◌≡◌, ℕ, zero, suc, Bool, List, [], ◌∷◌, sym, subst, arith, ◌↔◌, Option, Some, IsNone, slice_get}
use Rattle.nf_thin.proofs.Common.{none-some, same_Some, Hop, Network, hops, Sets, IsActiveWalk, HoldNoCycle}
use Rattle.nf_model.specs.Entries.{Has}
use Rattle.nf_graph.specs.Order.{IsChosenCycle}
use Rattle.nf_thin_laws.proofs.ActiveLinks.{IsWalk-active}

all_active : (net : Network) (sets : Sets) (walk : List ℕ) (v w : ℕ) → IsActiveWalk net sets walk v w → (i e : ℕ) → slice_get walk i ≡ Some e → Has sets.active e
all_active net sets [] v w s i e h = absurd (none-some e h)
all_active net sets (x ∷ walk) v w s zero e h = subst (Has sets.active) (same_Some x e h) s.2
all_active net sets (x ∷ walk) v w s (suc i) e h = all_active net sets walk (s.0).head w s.4 i e h

pub none_round : (net : Network) (sets : Sets) → ((cycle : List ℕ) → IsChosenCycle (hops net) sets.active cycle → ⊥) → HoldNoCycle net sets
none_round net sets none e walk v s = none (e ∷ walk) (record {
  node = v;
  some = omega arith;
  closed = IsWalk-active net sets (e ∷ walk) v v s;
  allowed = all_active net sets (e ∷ walk) v v s;
})

-- So an order of the nodes along these links excludes cycles.
pub ordered_round : {A : Type 0} (net : Network) (sets : Sets) (given : List Hop) (active : List Bool) (found : Option A) (order : A) → given ≡ hops net
    → active ≡ sets.active → found ≡ Some order
    → (IsNone found ↔ ((cycle : List ℕ) × IsChosenCycle given active cycle)) → HoldNoCycle net sets
ordered_round {A = A} net sets given active found order same_hops same_flags is none =
    none_round net sets (λ cycle chosen. no (subst (λ (o : Option A). IsNone o) is
    (none.1 (cycle, subst (λ (l : List Hop). IsChosenCycle l active cycle) (sym same_hops) (subst (λ (f : List Bool). IsChosenCycle (hops net) f cycle) (sym same_flags) chosen)))))
  where
    no : IsNone (Some order) → ⊥
    no e = cc
