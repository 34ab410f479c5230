-- The parts of the network that a draft stands for.
use Rattle.std.specs.Prelude.{◌≡◌, not, Bool, List, [], ◌∷◌, map}
use Rattle.nf_net_def.specs.Names.{Name, with_names, without}
use Rattle.nf_net_def.specs.Named.{NamedLink, Named, numbered, hops_among, ends, names_of}
use Rattle.nf_net_def.specs.NetLines.{Draft}
use Rattle.nf_net_def.specs.NetClosing.{source_name, sink_name, marked, StandsFor}
use Rattle.nf_net.specs.declared.building.SortedLinks.{SortedLinks}
use Rattle.nf_net.specs.declared.building.SortedNodes.{SortedNodes}
use Rattle.nf_net.specs.declared.building.Tables.{Tables}
use Rattle.nf_net.specs.declared.building.Parts.{Parts}
use Rattle.nf_net.specs.Kept.{with_parts, IsOfFile}
use Rattle.nf_net_file.specs.Closing.{tail_flags}

-- the lists hold the links of a draft, divided by the flags of their tails
pub record AreDivided (draft : Draft) (flags : List Bool) (links : SortedLinks) : Type 0 where
  pub active : links.active.items ≡ marked (tail_flags draft.nodes flags draft.links) draft.links
  pub idle : links.idle.items ≡ marked (map not (tail_flags draft.nodes flags draft.links)) draft.links

-- `active` holds the source, the sink and the ends of active links; `idle` holds the nodes that occur in idle links only
pub record AreNodesOf (draft : Draft) (links : SortedLinks) (nodes : SortedNodes) : Type 0 where
  pub active : nodes.active ≡ with_names (with_names [] (source_name draft ∷ sink_name draft ∷ [])) (ends links.active.items)
  pub idle : nodes.idle.items ≡ without nodes.active (with_names [] (ends links.idle.items))

-- the tables hold the names of nodes and links, the links with the numbers of their ends, and these links without capacities
pub record AreTablesOf (nodes : List Name) (named : List NamedLink) (tables : Tables) : Type 0 where
  pub node_names : tables.node_names.items ≡ nodes
  pub link_names : tables.link_names.items ≡ names_of named
  pub links : tables.links.items ≡ map (numbered nodes) named
  pub hops : tables.hops.items ≡ hops_among nodes named

abbrev pub net_of : Draft → Parts → Named
net_of draft parts = with_parts draft.version parts.tables.node_names.items parts.tables.link_names.items parts.tables.links.items
    draft.pieces parts.nodes.idle.items parts.links.idle.items

-- the draft stands for the network with these parts
pub record ArePartsOf (draft : Draft) (parts : Parts) : Type 0 where
  pub kept : IsOfFile (net_of draft parts) parts.tables.hops.items
  pub stands : StandsFor draft (net_of draft parts)
