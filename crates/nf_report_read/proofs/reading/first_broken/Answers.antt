use Rattle.nf_report_read.proofs.Common.{first_fault_of}
use Rattle.nf_report_read.proofs.LineByLine.{broken_more, fault_breaks}
use Rattle.nf_report_read.proofs.reading.first_broken.Goals as goal

pub returns-in-Err : goal.returns-in-Err
returns-in-Err c = λ read h. broken_more _ _ _ (λ broken e. fault_breaks (first_fault_of c.args.cursor.now) broken read e) c.in-Err.ensures.fault
