-- The content of a flows file.
use Rattle.nf_complete_def.specs.FlowsFile.{GivenFlows}
use Rattle.nf_complete_read.specs.declared.flows.Flows.{Flows}

abbrev pub given_of : Flows → GivenFlows
given_of f = record { flows = f.flows.items; slopes = f.slopes.items }
