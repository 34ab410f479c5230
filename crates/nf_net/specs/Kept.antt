-- The stored parts of a network.
use Rattle.std.specs.Prelude.{◌≡◌, ℕ, List, length, map}
use Rattle.nf_model.specs.Walk.{Hop}
use Rattle.nf_model.specs.Network.{Link, Piece, hop_of}
use Rattle.nf_net_def.specs.Names.{Name}
use Rattle.nf_net_def.specs.Named.{NamedLink, Named}
use Rattle.nf_net_def.specs.WellNamed.{IsNamed}

-- the network of these parts; source and sink are its first two nodes
abbrev pub with_parts : ℕ → List Name → List Name → List Link → List Piece → List Name → List NamedLink → Named
with_parts version node_names link_names links pieces idle_nodes idle_links = record {
  version = version;
  net = record { nodes = length node_names; source = 0; sink = 1; links = links; pieces = pieces };
  node_names = node_names;
  link_names = link_names;
  idle_nodes = idle_nodes;
  idle_links = idle_links;
}

-- the network is that of an accepted file, and the stored hops are its links without capacities
pub record IsOfFile (n : Named) (kept : List Hop) : Type 0 where
  pub named : IsNamed n
  pub hops : kept ≡ map hop_of n.net.links
