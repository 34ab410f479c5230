use Rattle.nf_phase_laws.proofs.Still.{leaves_none, comes_none}
use Rattle.nf_phase_laws.proofs.still_nodes_carry_no_flow.Goals as goal

pub returns : goal.returns
returns c = record { leaves = leaves_none; comes = comes_none }
