-- A least oversupply whose nodes with excess are closed is a thin flow. Otherwise the slopes of these nodes could be lowered.
use Rattle.std.proofs.Common.{ℕ, List, length}
use Rattle.nf_complete_laws.proofs.Common.{ℚ, 0ℚ, ◌≤ℚ◌, not_both_ℚ, ≤ℚ_refl, Network, IsNetwork, Sets, IsThinFlow, AreSets, HoldNoCycle, EachIsEntered}
use Rattle.nf_complete_laws.proofs.Common.{IsOversupply, OversupplyExists, ThinFlowExists}
use Rattle.nf_complete_laws.proofs.Oversupplies.{grow_least, lower}
use Rattle.nf_complete_laws.proofs.Numbers.{numbers}
use Rattle.nf_complete_laws.proofs.Balanced.{IsThinFlow-balanced}
use Rattle.nf_complete_laws.proofs.Assigned.{least_oversupply}

module _ (net : Network) (sets : Sets) (rate : ℚ) (good : IsNetwork net) (are : AreSets net sets) (acyclic : HoldNoCycle net sets)
    (entered : EachIsEntered net sets) (rate_nn : 0ℚ ≤ℚ rate) where
  abbrev SomeThinFlow : Type 0
  SomeThinFlow = (flows : List ℚ) × (slopes : List ℚ) × IsThinFlow net sets rate flows slopes

  -- so an oversupply leads to a thin flow
  pub thin_from : (flows slopes : ℕ → ℚ) → IsOversupply net sets rate flows slopes → SomeThinFlow
  thin_from flows slopes over =
      let m = least_oversupply net sets rate good flows slopes over in
      let g = grow_least net sets rate m.1 good acyclic entered m.0
      (record { over = m.2.over; least = λ other o. m.2.flows_least other m.1 o (≤ℚ_refl _) }) in (
        numbers (length net.links) g.0,
        numbers net.nodes m.1,
        IsThinFlow-balanced net sets rate g.0 m.1 good are g.1.over (λ v l s.
            let w = lower net sets rate m.1 good acyclic are rate_nn g.0 g.1.over g.2 v l s in not_both_ℚ _ _ w.3 (m.2.slopes_least w.0 w.1 w.2)),
      )

pub thin_exists : OversupplyExists → ThinFlowExists
thin_exists start net sets rate good are acyclic entered bounded rate_nn =
    let w : (flows : ℕ → ℚ) × (slopes : ℕ → ℚ) × IsOversupply net sets rate flows slopes = start net sets rate good are acyclic entered bounded rate_nn in
    thin_from net sets rate good are acyclic entered rate_nn w.0 w.1 w.2
