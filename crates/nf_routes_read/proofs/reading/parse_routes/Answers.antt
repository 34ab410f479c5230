use Rattle.nf_routes_read.proofs.Meaning.{reads_so, kept_so, walks_so, circle_so}
use Rattle.nf_routes_read.proofs.reading.parse_routes.Goals as goal

pub returns-clause-reads : goal.returns-clause-reads
returns-clause-reads c = reads_so c.args.net.now c.args.text.now c.read_routes.result c.read_routes.ensures

pub returns-clause-kept : goal.returns-clause-kept
returns-clause-kept c = kept_so c.args.net.now c.args.text.now c.read_routes.result c.read_routes.ensures

pub returns-clause-walks : goal.returns-clause-walks
returns-clause-walks c = walks_so c.args.net.now c.args.text.now c.read_routes.result c.read_routes.ensures

pub returns-clause-circle : goal.returns-clause-circle
returns-clause-circle c = circle_so c.args.net.now c.args.text.now c.read_routes.result c.read_routes.ensures
