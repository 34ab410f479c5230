use Rattle.nf_net_laws.proofs.ReadBack.{plain_lines_from, no_fault_from}
use Rattle.nf_net_laws.proofs.plain_lines_read_back.Goals as goal

pub returns : goal.returns
returns c = record { read = plain_lines_from 1; no_fault = no_fault_from 1 }
