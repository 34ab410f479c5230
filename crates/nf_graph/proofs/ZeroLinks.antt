-- Cycles along the links of zero transit.
use Rattle.std.proofs.Common.{◌≡◌, ℕ, zero, suc, List, [], ◌∷◌, Bool, true, Option, Some, None, slice_get, option_map, map, sym, ap, subst, refl, ◌∙◌}
use Rattle.nf_graph.proofs.Common.{slice_get-map, 0ℚ, Has, Hop, IsHop, IsWalk, transit_of, transit_of-hop, IsChosenCycle, IsZeroCycle}
use Rattle.nf_frac.specs.Order.{same_ℚ}
use Rattle.nf_frac.specs.Total.{same_decides}

abbrev pub zero_flags : List Hop → List Bool
zero_flags hops = map (λ hop. same_ℚ hop.transit 0ℚ) hops

zero_of_flag : (hops : List Hop) (e : ℕ) → Has (zero_flags hops) e → transit_of hops e ≡ 0ℚ
zero_of_flag hops e h = found (slice_get hops e) refl (sym (slice_get-map (λ (hop : Hop). same_ℚ hop.transit 0ℚ) hops e) ∙ h)
  where
    same : (a b : Bool) → Some a ≡ Some b → a ≡ b
    same a b p = cc

    found : (o : Option Hop) → slice_get hops e ≡ o → option_map (λ (hop : Hop). same_ℚ hop.transit 0ℚ) o ≡ Some true → transit_of hops e ≡ 0ℚ
    found None p q = absurd (cc)
    found (Some hop) p q = transit_of-hop hops e hop p ∙ (same_decides hop.transit 0ℚ).0 (same _ _ q)

flag_of_zero : (hops : List Hop) (e : ℕ) (hop : Hop) → IsHop hops e hop → transit_of hops e ≡ 0ℚ → Has (zero_flags hops) e
flag_of_zero hops e hop p z = slice_get-map (λ (hop : Hop). same_ℚ hop.transit 0ℚ) hops e ∙ ap (option_map (λ (hop : Hop). same_ℚ hop.transit 0ℚ)) p
    ∙ ap (λ (b : Bool). Some b) ((same_decides hop.transit 0ℚ).1 (sym (transit_of-hop hops e hop p) ∙ z))

hop_of_walk : (hops : List Hop) (walk : List ℕ) (v w i e : ℕ) → IsWalk hops walk v w → slice_get walk i ≡ Some e → (hop : Hop) × IsHop hops e hop
hop_of_walk hops [] v w i e h p = absurd (cc)
hop_of_walk hops (f ∷ walk) v w zero e h p = (h.0, subst (λ (n : ℕ). IsHop hops n h.0) (same f e p) h.1)
  where
    same : (a b : ℕ) → Some a ≡ Some b → a ≡ b
    same a b q = cc
hop_of_walk hops (f ∷ walk) v w (suc i) e h p = hop_of_walk hops walk h.0.head w i e h.3 p

pub zero_of_chosen : (hops : List Hop) (flags : List Bool) (walk : List ℕ) → flags ≡ zero_flags hops → IsChosenCycle hops flags walk → IsZeroCycle hops walk
zero_of_chosen hops flags walk e c = record {
  node = c.node;
  some = c.some;
  closed = c.closed;
  allowed = λ i f p. zero_of_flag hops f (subst (λ (fs : List Bool). Has fs f) e (c.allowed i f p));
}

pub chosen_of_zero : (hops : List Hop) (flags : List Bool) (walk : List ℕ) → flags ≡ zero_flags hops → IsZeroCycle hops walk → IsChosenCycle hops flags walk
chosen_of_zero hops flags walk e c = record {
  node = c.node;
  some = c.some;
  closed = c.closed;
  allowed = λ i f p. let h : (hop : Hop) × IsHop hops f hop = hop_of_walk hops walk c.node c.node i f c.closed p in
      subst (λ (fs : List Bool). Has fs f) (sym e) (flag_of_zero hops f h.0 h.1 (c.allowed i f p));
}
