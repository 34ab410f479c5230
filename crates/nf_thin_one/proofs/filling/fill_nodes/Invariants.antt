use Rattle.nf_thin_one.proofs.NodeRows.{HasFlowsTo}
use Rattle.nf_thin_one.proofs.filling.fill_nodes.Given as goal

abbrev pub invariant-loop-e : goal.invariant-loop-e
invariant-loop-e g l = HasFlowsTo l.net.net l.sets (g.T.System.rows_of l.fn.table) (g.T.System.rows_of l.table) l.e l.column
