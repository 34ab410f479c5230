-- Parser states of a network.
use Rattle.std.specs.Prelude.{◌≡◌, length}
use Rattle.nf_net_def.specs.Named.{Named}
use Rattle.nf_complete_def.specs.FlowsFile.{FlowsDraft}

-- the state has an index for each link and each node
pub record HasPlaces (n : Named) (draft : FlowsDraft) : Type 0 where
  pub links : length draft.flows ≡ length n.link_names
  pub nodes : length draft.slopes ≡ length n.node_names
