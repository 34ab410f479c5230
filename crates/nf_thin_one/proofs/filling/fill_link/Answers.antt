use Rattle.std.proofs.Common.{◌≡◌, rules, Option, Some, subst}
use Rattle.nf_thin_one.proofs.Common.{State, Zero, row_at, ChangesRow, with_entries, link_entries}
use Rattle.nf_thin_one.proofs.LinkChanges.{zero_changes}
use Rattle.nf_thin_one.proofs.Held.{held_as}
use Rattle.nf_thin_one.proofs.filling.fill_link.Goals as goal

pub returns-in-Some-Zero : goal.returns-in-Some-Zero
returns-in-Some-Zero g c =
    subst (λ (s : Option State). ChangesRow (g.T.System.rows_of c.args.table.now) (g.T.System.rows_of c.set.new.self) c.args.row
    (with_entries (row_at (g.T.System.rows_of c.args.table.now) c.args.row) (link_entries c.args.row c.args.link s)))
    (let is : Some Zero ≡ c.args.state = search rules in is)
    (zero_changes (g.T.System.rows_of c.args.table.now) (g.T.System.rows_of c.set.new.self) c.args.row _ c.requires.row c.one.ensures c.set.ensures)

pub set-requires-clause-takes : goal.set-requires-clause-takes
set-requires-clause-takes g c = held_as g.T.System.takes _ _ c.one.ensures g.met.T.System.takes_units.one
