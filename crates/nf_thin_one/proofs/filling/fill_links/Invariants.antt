use Rattle.nf_thin_one.proofs.LinkRows.{HasLinksTo}
use Rattle.nf_thin_one.proofs.filling.fill_links.Given as goal

abbrev pub invariant-loop-e : goal.invariant-loop-e
invariant-loop-e g l = HasLinksTo l.net.net l.sets l.pattern (g.T.System.rows_of l.fn.table) (g.T.System.rows_of l.table) l.e l.row
