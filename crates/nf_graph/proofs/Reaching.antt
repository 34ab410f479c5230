-- One more node that a walk reaches.
use Rattle.std.proofs.Common.{◌≡◌, ℕ, suc, ◌<◌, List, [], ◌∷◌, ◌++◌, length, set, true, Bool, ⊎_elim, sym, subst, ◌∙◌, arith}
use Rattle.nf_graph.proofs.Common.{length-set, Has, Hop, IsWalk, AreBelow, Leaves, IsClosed, AreReached, IsWalk-append}
use Rattle.nf_graph.proofs.Flags.{free, free-set, not_set, Has-set_same, Has-set_other, Has-set_cases}
use Rattle.nf_graph.proofs.Walks.{IsClosed-walk}

pub record AreWalked (nodes : ℕ) (hops : List Hop) (from : ℕ) (flags : List Bool) : Type 0 where
  pub count : length flags ≡ nodes
  pub start : Has flags from
  pub walks : (v : ℕ) → Has flags v → (walk : List ℕ) × IsWalk hops walk from v

pub Leaves-below : (nodes : ℕ) (hops : List Hop) (flags : List Bool) (v : ℕ) → AreBelow nodes hops → Leaves hops flags v → v < nodes
Leaves-below nodes hops flags v b l = subst (λ (n : ℕ). n < nodes) l.head (b.heads l.number l.hop l.is_hop)

Leaves-walk : (hops : List Hop) (flags : List Bool) (from v : ℕ) → ((v : ℕ) → Has flags v → (walk : List ℕ) × IsWalk hops walk from v) → Leaves hops flags v
    → (walk : List ℕ) × IsWalk hops walk from v
Leaves-walk hops flags from v walks l =
    let w : (walk : List ℕ) × IsWalk hops walk from l.hop.tail = walks l.hop.tail l.tail in
    (w.0 ++ l.number ∷ [], subst (λ (n : ℕ). IsWalk hops (w.0 ++ l.number ∷ []) from n) l.head (IsWalk-append hops w.0 from l.number l.hop w.1 l.is_hop))

pub walked_more : (nodes : ℕ) (hops : List Hop) (from : ℕ) (flags : List Bool) (v i : ℕ) → i ≡ v → Leaves hops flags v → AreWalked nodes hops from flags
    → AreWalked nodes hops from (set flags i true)
walked_more nodes hops from flags v i e l h = record {
  count = length-set flags i true ∙ h.count;
  start = Has-set_other flags i from h.start;
  walks = λ w s. ⊎_elim
      (λ (p : w ≡ i). subst (λ (n : ℕ). (walk : List ℕ) × IsWalk hops walk from n) (sym (p ∙ e)) (Leaves-walk hops flags from v h.walks l))
      (λ (k : Has flags w). h.walks w k) (Has-set_cases flags i w s);
}

pub fewer_free : (flags : List Bool) (i : ℕ) → i < length flags → (Has flags i → ⊥) → free (set flags i true) < free flags
fewer_free flags i h k = let e : suc (free (set flags i true)) ≡ free flags = free-set flags i (not_set flags i h k) in omega arith

pub reached_all : (nodes : ℕ) (hops : List Hop) (from : ℕ) (flags : List Bool) → AreWalked nodes hops from flags → IsClosed hops flags → AreReached nodes hops from flags
reached_all nodes hops from flags h c = record {
  count = h.count;
  each = λ v. (h.walks v, λ w. IsClosed-walk hops flags w.0 from v c h.start w.1);
}

pub walked_first : (nodes : ℕ) (hops : List Hop) (from i : ℕ) (flags : List Bool) → length flags ≡ nodes → ((v : ℕ) → Has flags v → ⊥) → from < nodes
    → i ≡ from → AreWalked nodes hops from (set flags i true)
walked_first nodes hops from i flags l none h e = record {
  count = length-set flags i true ∙ l;
  start = subst (λ (n : ℕ). Has (set flags n true) from) (sym e) (Has-set_same flags from (subst (λ (n : ℕ). from < n) (sym l) h));
  walks = λ w s. ⊎_elim
      (λ (p : w ≡ i). ([], sym (p ∙ e)))
      (λ (k : Has flags w). absurd (none w k)) (Has-set_cases flags i w s);
}
