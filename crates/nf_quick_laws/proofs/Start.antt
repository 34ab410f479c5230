-- The flow 0 is sound, and each walk of the network is a residual walk for it.
use Rattle.std.proofs.Common.{◌≡◌, ℕ, List, [], ◌∷◌, length, Bool, true, false, Option, Some, None, replicate, sym, ap, subst, refl, ◌∙◌}
use Rattle.nf_quick_laws.proofs.Common.{number_at-zeros, length-replicate, ℚ, 0ℚ, ◌≤ℚ◌, ◌<ℚ◌, ≤ℚ_of_lt, ≤ℚ_of_same, nn_plus, less_of_test, test_of_less}
use Rattle.nf_quick_laws.proofs.Common.{number_at, Hop, IsWalk, transit_of, Link, Network, IsLink, IsNetwork, hops, hop_of, sum_out, sum_in-same}
use Rattle.nf_quick_laws.proofs.Common.{sum_out-same, sum_in-none, sum_out-none, transit_of-is, link_at, Step, directed, is_below, can_go, IsResidualWalk}
use Rattle.nf_quick_laws.proofs.Common.{walk_length, IsSound, flow_value, cost_of, ≤ℚ_refl, zero_not_above}
use Rattle.nf_quick_laws.proofs.Crossings.{cost_from-none}

module _ (net : Network) (good : IsNetwork net) where
  abbrev zeros : List ℚ
  zeros = replicate (length net.links) 0ℚ

  none : (e : ℕ) → number_at zeros e ≡ 0ℚ
  none e = number_at-zeros (length net.links) e

  no_way_back : (d : Bool) (capacity : Option ℚ) (x : ℚ) → x ≡ 0ℚ → can_go d capacity x ≡ true → d ≡ true
  no_way_back true capacity x e g = refl
  no_way_back false capacity x e g = absurd (zero_not_above x e (less_of_test 0ℚ x g))

  pub walk_nn : (walk : List Step) (v w : ℕ) → IsResidualWalk net zeros walk v w → 0ℚ ≤ℚ walk_length net walk
  walk_nn [] v w p = ≤ℚ_refl 0ℚ
  walk_nn (step ∷ walk) v w p = nn_plus _ _
      (subst (λ (d : Bool). 0ℚ ≤ℚ directed d (transit_of (hops net) step.link)) (sym (no_way_back step.forward p.1.link.capacity (number_at zeros step.link) (none step.link) p.1.goes))
      (subst (λ (r : ℚ). 0ℚ ≤ℚ r) (sym (transit_of-is net step.link p.1.link p.1.is_link)) (good.transits step.link p.1.link p.1.is_link)))
      (walk_nn walk p.0 w p.2)

  sum_out-zeros : (v : ℕ) → sum_out net.links (number_at zeros) v ≡ 0ℚ
  sum_out-zeros v = sum_out-same net.links (number_at zeros) (λ _. 0ℚ) v (λ e _ _ _. none e) ∙ sum_out-none net.links v

  pub IsSound-zeros : IsSound net zeros
  IsSound-zeros = record {
    flow = record {
      count = length-replicate (length net.links) 0ℚ;
      at_least = λ e. ≤ℚ_of_same _ _ (sym (none e));
      at_most = λ e link c p q. subst (λ (x : ℚ). x ≤ℚ c) (sym (none e)) (≤ℚ_of_lt _ _ (good.capacities e link c p q));
      inner = λ v h s t. sum_out-zeros v ∙ sym (sum_in-same net.links (number_at zeros) (λ _. 0ℚ) v (λ e _ _ _. none e) ∙ sum_in-none net.links v);
    };
    closed = λ walk v p. walk_nn walk v v p;
    into_source = λ e link p h. none e;
    out_of_sink = λ e link p h. none e;
  }

  pub flow_value-zeros : flow_value net zeros ≡ 0ℚ
  flow_value-zeros = sum_out-zeros net.source

  pub cost_of-zeros : cost_of net zeros ≡ 0ℚ
  cost_of-zeros = cost_from-none net.links (number_at zeros) none

  -- Each link has a forward step.
  goes : (capacity : Option ℚ) (x : ℚ) → x ≡ 0ℚ → ((c : ℚ) → capacity ≡ Some c → 0ℚ <ℚ c) → is_below capacity x ≡ true
  goes None x e some = refl
  goes (Some c) x e some = test_of_less x c (subst (λ (y : ℚ). y <ℚ c) (sym e) (some c refl))

  pub residual_walk : (walk : List ℕ) (v w : ℕ) → IsWalk (hops net) walk v w → (steps : List Step) × IsResidualWalk net zeros steps v w
  residual_walk [] v w p = ([], p)
  residual_walk (e ∷ walk) v w p =
      let l : (link : Link) × IsLink net e link × (hop_of link ≡ p.0) = link_at net e p.0 p.1 in
      let r : (steps : List Step) × IsResidualWalk net zeros steps p.0.head w = residual_walk walk p.0.head w p.3 in (
        record { link = e; forward = true } ∷ r.0,
        (
          p.0.head,
          record {
            link = l.0;
            is_link = l.1;
            begins = ap (λ (h : Hop). h.tail) l.2 ∙ p.2;
            ends = ap (λ (h : Hop). h.head) l.2;
            goes = goes l.0.capacity (number_at zeros e) (none e) (λ c q. good.capacities e l.0 c l.1 q);
          },
          r.1,
        ),
      )
