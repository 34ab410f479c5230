use Rattle.std.proofs.Common.{ℕ, length, set, ap, ◌∙◌}
use Rattle.nf_thin_one.proofs.Common.{ℚ, row_at}
use Rattle.nf_thin_one.proofs.SourceRow.{source_inside, source_filled, source_long}
use Rattle.nf_thin_one.proofs.Held.{held_as}
use Rattle.nf_thin_one.proofs.filling.fill.Goals as goal

pub set-requires-clause-column : goal.set-requires-clause-column
set-requires-clause-column g c = source_inside c.args.net.now.net c.args.sets.now c.hops.ensures.named.network.source
    c.hops.ensures.named.network.sink c.requires.sets (g.T.System.rows_of c.args.table.now) c.requires.zero
    c.set.inside.0 (c.set.view_is ∙ c.source.ensures.value)

pub fill_nodes-requires-clause-first : goal.fill_nodes-requires-clause-first
fill_nodes-requires-clause-first g c = source_filled c.args.net.now.net c.args.sets.now c.hops.ensures.named.network.source
    c.hops.ensures.named.network.sink c.requires.sets (g.T.System.rows_of c.args.table.now) c.requires.zero
    (g.T.System.rows_of c.set-2.new.self) (g.T.System.rows_of c.set_right.new.self)
    (c.set-2.ensures ∙ (ap (λ (j : ℕ). set (g.T.System.rows_of c.args.table.now) 0 (set (row_at (g.T.System.rows_of c.args.table.now) 0) j c.one.result))
    (c.set.view_is ∙ c.source.ensures.value)
    ∙ ap (λ (x : ℚ). set (g.T.System.rows_of c.args.table.now) 0 (set (row_at (g.T.System.rows_of c.args.table.now) 0) c.args.net.now.net.source x)) c.one.ensures))
    (c.set_right.ensures ∙ ap (λ (x : ℚ). set (g.T.System.rows_of c.set-2.new.self) 0
    (set (row_at (g.T.System.rows_of c.set-2.new.self) 0) (length (g.T.System.rows_of c.set-2.new.self)) x)) c.one-2.ensures)
    c.args.rate

pub fill_links-requires-clause-size : goal.fill_links-requires-clause-size
fill_links-requires-clause-size g c = c.fill_nodes.ensures.size ∙ source_long c.args.net.now.net c.args.sets.now c.hops.ensures.named.network.source
    c.hops.ensures.named.network.sink c.requires.sets (g.T.System.rows_of c.args.table.now) c.requires.zero
    (g.T.System.rows_of c.set-2.new.self) (g.T.System.rows_of c.set_right.new.self)
    (c.set-2.ensures ∙ (ap (λ (j : ℕ). set (g.T.System.rows_of c.args.table.now) 0 (set (row_at (g.T.System.rows_of c.args.table.now) 0) j c.one.result))
    (c.set.view_is ∙ c.source.ensures.value)
    ∙ ap (λ (x : ℚ). set (g.T.System.rows_of c.args.table.now) 0 (set (row_at (g.T.System.rows_of c.args.table.now) 0) c.args.net.now.net.source x)) c.one.ensures))
    (c.set_right.ensures ∙ ap (λ (x : ℚ). set (g.T.System.rows_of c.set-2.new.self) 0
    (set (row_at (g.T.System.rows_of c.set-2.new.self) 0) (length (g.T.System.rows_of c.set-2.new.self)) x)) c.one-2.ensures)

pub returns : goal.returns
returns g c = c.fill_links.ensures c.args.rate (c.fill_nodes.ensures.nodes c.args.pattern.now)

pub set-requires-clause-takes : goal.set-requires-clause-takes
set-requires-clause-takes g c = held_as g.T.System.takes _ _ c.one.ensures g.met.T.System.takes_units.one

pub set_right-requires-clause-takes : goal.set_right-requires-clause-takes
set_right-requires-clause-takes g c = held_as g.T.System.takes _ _ c.one-2.ensures g.met.T.System.takes_units.one

pub fill_nodes-requires-clause-takes : goal.fill_nodes-requires-clause-takes
fill_nodes-requires-clause-takes g c = c.requires.numbers.supply

pub fill_links-requires-clause-capacities : goal.fill_links-requires-clause-capacities
fill_links-requires-clause-capacities g c = c.requires.numbers.capacities
