-- The slopes and flows of a pattern.
use Rattle.std.specs.Prelude.{◌≡◌, length}
use Rattle.nf_model.specs.Network.{Network}
use Rattle.nf_thin_guess.specs.declared.values.Values.{Values}

-- One slope for each node, and one flow for each link.
pub record AreComplete (net : Network) (values : Values) : Type 0 where
  pub slopes : length values.slopes.items ≡ net.nodes
  pub flows : length values.flows.items ≡ length net.links
