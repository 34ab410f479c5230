-- Theorem on equilibria and the invariant of phases.
use Rattle.nf_model.specs.Network.{Network, IsNetwork}
use Rattle.nf_model.specs.Equilibrium.{Flow, label, inflow, outflow, queue, Equilibrium}
use Rattle.nf_phase_laws.specs.Invariant.{HoldsUpTo}
use Rattle.nf_phase_laws.specs.Description.{DescribesLinks}

-- Any equilibrium satisfies the invariant of phases up to the departure that it reached, and describes its links.
pub record EquilibriumHasInvariant : Type 0 where
  pub holds : (net : Network) (flow : Flow) → IsNetwork net → Equilibrium net flow → HoldsUpTo net (inflow flow) (label flow) flow.reached
  pub describes : (net : Network) (flow : Flow) → IsNetwork net → Equilibrium net flow
      → DescribesLinks net (inflow flow) (label flow) (outflow flow) (queue flow) flow.reached
