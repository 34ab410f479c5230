use Rattle.std.proofs.Common.{rules}
use Rattle.nf_thin_one.proofs.Cells.{still_inside}
use Rattle.nf_thin_one.proofs.LinkChanges.{full_changes}
use Rattle.nf_thin_one.proofs.Held.{held_as}
use Rattle.nf_thin_one.proofs.filling.fill_full.Goals as goal

pub set-requires-2-clause-row : goal.set-requires-2-clause-row
set-requires-2-clause-row g c =
    still_inside (g.T.System.rows_of c.args.table.now) (g.T.System.rows_of c.set.new.self) c.args.row c.args.row _ c.requires.row c.set.ensures

pub set-requires-2-clause-column : goal.set-requires-2-clause-column
set-requires-2-clause-column g c =
    still_inside (g.T.System.rows_of c.args.table.now) (g.T.System.rows_of c.set.new.self) c.args.row c.args.row _ c.requires.row c.set.ensures

pub returns : goal.returns
returns g c =
    full_changes (g.T.System.rows_of c.args.table.now) (g.T.System.rows_of c.set.new.self) (g.T.System.rows_of c.set-2.new.self) c.args.row c.args.link _ _ _ c.requires.row
    c.set.ensures c.set-2.ensures c.full_factor.ensures c.one.ensures (search rules)

pub set-requires-clause-takes : goal.set-requires-clause-takes
set-requires-clause-takes g c = held_as g.T.System.takes _ _ c.full_factor.ensures c.requires.capacity

pub set-requires-2-clause-takes : goal.set-requires-2-clause-takes
set-requires-2-clause-takes g c = held_as g.T.System.takes _ _ c.one.ensures g.met.T.System.takes_units.one
