-- A feasible flow delivers at most the value of a cut: the balances of all nodes, each at the time of the node, are summed.
use Rattle.std.proofs.Common.{◌≡◌, ◌≢◌, ℕ, suc, ◌<◌, List, [], ◌∷◌, length, ⊎_elim, true, false, eqb, Some, slice_get, sym, subst, refl, ◌∙◌}
use Rattle.nf_quick_laws.proofs.Common.{slice_get_within, eqb_tells, ℚ, 0ℚ, ◌-ℚ◌, ◌≤ℚ◌, reading_of, ≤ℚ_of_same, less_nn, eq, linear_le, number_at, Link}
use Rattle.nf_quick_laws.proofs.Common.{Network, IsNetwork, IsFeasible, delivered, IsCut, let_through, cut_sum, cut_value, sum_in-same, sum_out-same}
use Rattle.nf_quick_laws.proofs.Common.{sum_in-none, sum_out-none, sum_to, ≤ℚ_refl, ≤ℚ_trans, sum_le}
use Rattle.nf_quick_laws.proofs.NodeSums.{in_less_out, across, sum_to-across, sum_to-each}
use Rattle.nf_quick_laws.proofs.Amounts.{link_bound}

-- link by link
pub across-le : (links : List Link) (f g : ℕ → ℕ → ℚ) (cut : List ℚ)
    → ((e : ℕ) (link : Link) → slice_get links e ≡ Some link → f e link.head -ℚ g e link.tail ≤ℚ let_through link.capacity link.transit
    (number_at cut link.tail) (number_at cut link.head))
    → across links f g ≤ℚ cut_sum links cut
across-le [] f g cut h = ≤ℚ_refl 0ℚ
across-le (link ∷ links) f g cut h = sum_le _ _ _ _ (h 0 link refl) (across-le links (λ e. f (suc e)) (λ e. g (suc e)) cut (λ e l p. h (suc e) l p))

both_none : (a b : ℚ) → a ≡ 0ℚ → b ≡ 0ℚ → 0ℚ ≤ℚ a -ℚ b
both_none a b e f = linear_le (a ∷ b ∷ []) (eq e ∷ eq f ∷ []) (search reading_of) tt

module _ (net : Network) (entered left : ℕ → ℚ → ℚ) (time : ℚ) (cut : List ℚ) (good : IsNetwork net) (feasible : IsFeasible net entered left) (is_cut : IsCut net time cut) where
  abbrev out_at : ℕ → ℕ → ℚ
  out_at e v = left e (number_at cut v)

  abbrev in_at : ℕ → ℕ → ℚ
  in_at e v = entered e (number_at cut v)

  within : (e : ℕ) (link : Link) → slice_get net.links e ≡ Some link → e < length net.links
  within e link p = slice_get_within net.links e link p

  -- At the source, at time 0, nothing has entered or left.
  at_source : 0ℚ ≤ℚ in_less_out net.links out_at in_at net.source
  at_source =
      let begins : number_at cut net.source ≤ℚ 0ℚ = ≤ℚ_of_same _ _ is_cut.source in
      both_none _ _
      (sum_in-same net.links (λ e. out_at e net.source) (λ _. 0ℚ) net.source
      (λ e link p _. (feasible.amounts_left e (within e link p)).before (number_at cut net.source) begins) ∙ sum_in-none net.links net.source)
      (sum_out-same net.links (λ e. in_at e net.source) (λ _. 0ℚ) net.source
      (λ e link p _. (feasible.amounts_entered e (within e link p)).before (number_at cut net.source) begins) ∙ sum_out-none net.links net.source)

  at_node : (v : ℕ) → v < net.nodes → 0ℚ ≤ℚ in_less_out net.links out_at in_at v
  at_node v h = ⊎_elim
      (λ (w : (eqb v net.source ≡ true) × (v ≡ net.source)). subst (λ (k : ℕ). 0ℚ ≤ℚ in_less_out net.links out_at in_at k) (sym w.1) at_source)
      (λ (w : (eqb v net.source ≡ false) × (v ≢ net.source)). less_nn _ _ (feasible.nodes v (number_at cut v) h w.1))
      (eqb_tells v net.source)

  by_link : (e : ℕ) (link : Link) → slice_get net.links e ≡ Some link
      → out_at e link.head -ℚ in_at e link.tail ≤ℚ let_through link.capacity link.transit (number_at cut link.tail) (number_at cut link.head)
  by_link e link p = link_bound (entered e) (left e) link.transit link.capacity (number_at cut link.tail) (number_at cut link.head)
      (feasible.amounts_entered e (within e link p)) (feasible.amounts_left e (within e link p))
      (λ t. feasible.transit e link t p) (λ rate earlier later c l. feasible.capacity e link rate earlier later p c l)
      (λ rate c. good.capacities e link rate p c) (is_cut.unbounded e link p)

  pub delivered-le : delivered net entered left time ≤ℚ cut_value net cut
  delivered-le = ≤ℚ_trans _ _ _
      (subst (λ (t : ℚ). delivered net entered left t ≤ℚ sum_to net.nodes (in_less_out net.links out_at in_at)) is_cut.sink
      (sum_to-each net.nodes net.sink (in_less_out net.links out_at in_at) at_node good.sink))
      (≤ℚ_trans _ _ _ (≤ℚ_of_same _ _ (sum_to-across net.nodes net.links out_at in_at (λ e link p. (good.tails e link p, good.heads e link p))))
      (across-le net.links out_at in_at cut by_link))
