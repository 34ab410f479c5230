-- Numbers up to which the links that enter a node were searched.
use Rattle.std.proofs.Common.{◌≡◌, ◌≢◌, ℕ, zero, suc, ◌+◌, ◌<◌, ◌≤◌, List, length, set, replicate, true, false, Bool, Some, slice_get, ⊎_elim, eqb, sym}
use Rattle.std.proofs.Common.{subst, ◌∙◌, arith}
use Rattle.nf_graph.proofs.Common.{length-set, slice_get_within, eqb_tells, Hop, set_cases, EntersFromUnplaced, NoneEnters, AreSearched}
use Rattle.nf_graph.proofs.Flags.{Has-set_other}

module _ (hops : List Hop) (chosen placed : List Bool) where
  pub none_more : (v e : ℕ) → NoneEnters hops chosen placed v e → (EntersFromUnplaced hops chosen placed e v → ⊥) → NoneEnters hops chosen placed v (e + 1)
  none_more v e h n k l x = ⊎_elim
      (λ (w : (eqb k e ≡ true) × (k ≡ e)). n (subst (λ (j : ℕ). EntersFromUnplaced hops chosen placed j v) w.1 x))
      (λ (w : (eqb k e ≡ false) × (k ≢ e)). h k (let apart : k ≢ e = w.1 in omega arith) x)
      (eqb_tells k e)

  pub none_within : (v count : ℕ) → length hops ≤ count → NoneEnters hops chosen placed v count → NoneEnters hops chosen placed v (length hops)
  none_within v count l h e b = h e (omega arith)

  pub none_enters : (v : ℕ) → NoneEnters hops chosen placed v (length hops) → (e : ℕ) → EntersFromUnplaced hops chosen placed e v → ⊥
  none_enters v h e x = h e (slice_get_within hops e x.hop x.is_hop) x

  pub searched_first : (nodes : ℕ) (searched : List ℕ) → searched ≡ replicate nodes 0 → length searched ≡ length placed → AreSearched hops chosen placed searched
  searched_first nodes searched z l = record {
    count = l;
    none = λ v start p e b _. let none_yet : start ≡ 0 = at_zero nodes v start (subst (λ (ns : List ℕ). slice_get ns v ≡ Some start) z p) in let l : e < start = b in omega arith;
  }
    where
      at_zero : (n v start : ℕ) → slice_get (replicate n 0) v ≡ Some start → start ≡ 0
      at_zero zero v start p = absurd (cc)
      at_zero (suc n) zero start p = cc
      at_zero (suc n) (suc v) start p = at_zero n v start p

  pub searched_set : (searched : List ℕ) (v start : ℕ) → NoneEnters hops chosen placed v start → AreSearched hops chosen placed searched
      → AreSearched hops chosen placed (set searched v start)
  searched_set searched v start n h = record {
    count = length-set searched v start ∙ h.count;
    none = λ w s p. ⊎_elim
        (λ (e : (w ≡ v) × (s ≡ start)). subst (λ (k : ℕ). NoneEnters hops chosen placed k s) (sym e.0) (subst (λ (k : ℕ). NoneEnters hops chosen placed v k) (sym e.1) n))
        (λ (k : slice_get searched w ≡ Some s). h.none w s k)
        (set_cases searched v w start s p);
  }

  -- a node that is placed enters no node any longer
  pub searched_placed : (searched : List ℕ) (i : ℕ) → AreSearched hops chosen placed searched → AreSearched hops chosen (set placed i true) searched
  searched_placed searched i h = record {
    count = h.count ∙ sym (length-set placed i true);
    none = λ v s p e l x. h.none v s p e l (record {
      hop = x.hop;
      is_hop = x.is_hop;
      chosen_too = x.chosen_too;
      head = x.head;
      free =
          λ f. x.free (Has-set_other placed i x.hop.tail f);
    });
  }
