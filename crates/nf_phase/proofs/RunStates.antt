-- What every reachable run state satisfies.
use Rattle.nf_phase.proofs.Common.{Passing, Network, IsNetwork, Standing, Reaches, IsRunState}
use Rattle.nf_phase.proofs.ShortReached.{short_reached, keeps_reached}
use Rattle.nf_phase.proofs.Stepped.{equilibrium_reached, ends_reached}

pub state_reached : (passes : Passing) (net : Network) (good : IsNetwork net) (s : Standing) → Reaches passes net s → IsRunState passes net s
state_reached passes net good s reaches = record {
  reaches = reaches;
  equilibrium = equilibrium_reached passes net good s reaches;
  short = short_reached passes net good s reaches;
  ends = ends_reached passes net good s reaches;
  labels = keeps_reached passes net good s reaches;
}
