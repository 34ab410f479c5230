use Rattle.nf_report_read.proofs.Accepted.{formed, its_text, all_read}
use Rattle.nf_report_read.proofs.reading.parse_report.Goals as goal

pub returns-clause-formed : goal.returns-clause-formed
returns-clause-formed c = formed c.args.net.now c.args.text.now c.recall.ensures c.read_report.result c.read_report.ensures

pub returns-clause-text : goal.returns-clause-text
returns-clause-text c = its_text c.args.net.now c.args.text.now c.recall.ensures c.read_report.result c.read_report.ensures

pub returns-clause-all : goal.returns-clause-all
returns-clause-all c = all_read c.args.net.now c.args.text.now c.recall.ensures c.read_report.result c.read_report.ensures
