use Rattle.nf_report_read.proofs.Common.{first_fault_of}
use Rattle.nf_report_read.proofs.LineByLine.{text_refused}
use Rattle.nf_report_read.proofs.reading.next_line.Goals as goal

pub returns-in-Err-clause-fault : goal.returns-in-Err-clause-fault
returns-in-Err-clause-fault c = text_refused (first_fault_of c.args.cursor.now) c.in-Err.fault c.in_file.result c.in_file.ensures c.in-Err.ensures.fault
