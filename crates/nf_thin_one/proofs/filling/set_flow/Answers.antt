use Rattle.std.proofs.Common.{not, eqb, sym, ap, subst, ◌∙◌}
use Rattle.nf_thin_one.proofs.Common.{neg_ℚ, Link, SetsAt}
use Rattle.nf_thin_one.proofs.NodeRows.{flow_added, none_added}
use Rattle.nf_thin_one.proofs.filling.set_flow.Goals as goal

pub returns-then-ne : goal.returns-then-ne
returns-then-ne g c =
    flow_added c.args.sink c.args.column c.args.link (g.T.System.rows_of c.args.table.now)
    (g.T.System.rows_of c.set_at_node.new.table) (g.T.System.rows_of c.set_at_node-then-ne.new.table) c.one.result c.negated.result
    (ap (λ (l : Link). not (eqb l.tail l.head)) (sym c.link.view_is) ∙ (sym c.ne.ensures ∙ c.if-ne.true))
    c.one.ensures (c.negated.ensures ∙ ap neg_ℚ c.one-then-ne.ensures)
    (subst (λ (l : Link). SetsAt c.args.sink l.tail c.args.column c.one.result (g.T.System.rows_of c.args.table.now) (g.T.System.rows_of c.set_at_node.new.table))
    c.link.view_is c.set_at_node.ensures)
    (subst (λ (l : Link). SetsAt c.args.sink l.head c.args.column c.negated.result
    (g.T.System.rows_of c.set_at_node.new.table) (g.T.System.rows_of c.set_at_node-then-ne.new.table)) c.link.view_is c.set_at_node-then-ne.ensures)

pub returns-else-ne : goal.returns-else-ne
returns-else-ne g c =
    none_added c.args.sink c.args.column c.args.link (g.T.System.rows_of c.args.table.now)
    (ap (λ (l : Link). not (eqb l.tail l.head)) (sym c.link.view_is) ∙ (sym c.ne.ensures ∙ c.if-ne.false))
