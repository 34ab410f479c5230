use Rattle.std.proofs.Common.{rules, not, eqb, sym, ap, ◌∙◌}
use Rattle.nf_thin_one.proofs.Common.{neg_ℚ, Link}
use Rattle.nf_thin_one.proofs.Cells.{still_inside}
use Rattle.nf_thin_one.proofs.LinkChanges.{tight_changes}
use Rattle.nf_thin_one.proofs.Held.{held_as}
use Rattle.nf_thin_one.proofs.filling.fill_tight.Goals as goal

pub set-requires-then-ne-clause-row : goal.set-requires-then-ne-clause-row
set-requires-then-ne-clause-row g c =
    still_inside (g.T.System.rows_of c.args.table.now) (g.T.System.rows_of c.set.new.self) c.args.row c.args.row _ c.requires.row c.set.ensures

pub returns-then-ne : goal.returns-then-ne
returns-then-ne g c =
    tight_changes (g.T.System.rows_of c.args.table.now) (g.T.System.rows_of c.set.new.self) (g.T.System.rows_of c.set-then-ne.new.self) c.args.row c.args.link _ _ _ _ c.requires.row
    (ap (λ (l : Link). not (eqb l.head l.tail)) (sym c.link.view_is) ∙ (sym c.ne.ensures ∙ c.if-ne.true)) (search rules) (search rules)
    c.one.ensures (c.negated.ensures ∙ ap neg_ℚ c.one-then-ne.ensures) c.set.ensures c.set-then-ne.ensures

pub set-requires-clause-takes : goal.set-requires-clause-takes
set-requires-clause-takes g c = held_as g.T.System.takes _ _ c.one.ensures g.met.T.System.takes_units.one

pub set-requires-then-ne-clause-takes : goal.set-requires-then-ne-clause-takes
set-requires-then-ne-clause-takes g c = held_as g.T.System.takes _ _ (c.negated.ensures ∙ ap neg_ℚ c.one-then-ne.ensures) g.met.T.System.takes_units.minus_one
