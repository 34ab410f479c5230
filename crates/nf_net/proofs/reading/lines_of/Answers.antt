use Rattle.nf_net.proofs.Closes.{text_refused}
use Rattle.nf_net.proofs.reading.lines_of.Goals as goal

pub returns-in-Err-clause-fault : goal.returns-in-Err-clause-fault
returns-in-Err-clause-fault c = text_refused c.args.text.now c.in-Err.fault c.in_file.result c.in_file.ensures c.in-Err.ensures.fault
