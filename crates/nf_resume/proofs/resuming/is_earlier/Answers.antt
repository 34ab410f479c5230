use Rattle.nf_resume.proofs.Resumed.{below_or_not}
use Rattle.nf_resume.proofs.resuming.is_earlier.Goals as goal

pub returns : goal.returns
returns c = below_or_not c.is_below.result c.args.horizon c.args.reached c.is_below.ensures
