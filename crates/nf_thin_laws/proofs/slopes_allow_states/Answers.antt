use Rattle.nf_thin_laws.proofs.States.{slopes-same, AllowState-thin}
use Rattle.nf_thin_laws.proofs.slopes_allow_states.Goals as goal

pub returns : goal.returns
returns c = record {
  same = λ net sets rate thin_flows thin_slopes pattern flows slopes good are acyclic thin listed solves meets.
      slopes-same net sets rate thin_flows thin_slopes pattern good are acyclic thin listed flows slopes solves meets;
  states = λ net sets rate thin_flows thin_slopes pattern good are acyclic thin listed solvable e link state p h.
      AllowState-thin net sets rate thin_flows thin_slopes pattern good are acyclic thin listed solvable e link state p h;
}
