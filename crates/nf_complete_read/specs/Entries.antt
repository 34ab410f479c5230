-- Entries, as values of the definitions.
use Rattle.std.specs.Prelude.{◌<◌, length}
use Rattle.nf_net_def.specs.Named.{Named}
use Rattle.nf_complete_def.specs.FlowsFile as file
use Rattle.nf_complete_read.specs.declared.entry.Entry.{Entry}
use Rattle.nf_complete_read.specs.declared.entry.Entry.TheVariants.{Flow, Slope, End}

abbrev pub seen_entry : Entry → file.FlowsEntry
seen_entry (Flow link flow) = file.FlowOf link flow
seen_entry (Slope node slope) = file.SlopeOf node slope
seen_entry End = file.End

-- the link or node of the entry is one of the network
abbrev pub IsOf : Named → file.FlowsEntry → Type 0
IsOf n (file.FlowOf link flow) = link < length n.link_names
IsOf n (file.SlopeOf node slope) = node < length n.node_names
IsOf n file.End = Unit {0}
