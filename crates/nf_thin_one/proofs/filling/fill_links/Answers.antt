use Rattle.std.proofs.Common.{◌≤◌, arith}
use Rattle.nf_thin_one.proofs.Common.{most_unknowns}
use Rattle.nf_thin_one.proofs.LinkRows.{links_first, next_inside, end_inside, link_more, idle_skipped, links_done}
use Rattle.nf_thin_one.proofs.Sizes.{few_columns}
use Rattle.nf_thin_one.proofs.filling.fill_links.Goals as goal
use Rattle.nf_thin_one.proofs.filling.fill_links.Goals.{then-active, else-active}

pub loop-e-init : goal.loop-e-init
loop-e-init g c = rw c.node_count-row.ensures (links_first c.args.net.now.net c.args.sets.now c.args.pattern.now (g.T.System.rows_of c.args.table.now))

pub fill_link-requires-clause-row : goal.fill_link-requires-clause-row
fill_link-requires-clause-row g c =
    next_inside c.args.net.now.net c.args.sets.now c.args.pattern.now (g.T.System.rows_of c.args.table.now)
    (g.T.System.rows_of c.loop-e.table) c.loop-e.e c.loop-e.row c.loop-e.invariant c.requires.size c.if-active.ensures.flag

pub fill_link-requires-clause-tail : goal.fill_link-requires-clause-tail
fill_link-requires-clause-tail g c =
    end_inside c.args.net.now.net c.args.sets.now c.args.pattern.now (g.T.System.rows_of c.args.table.now)
    (g.T.System.rows_of c.loop-e.table) c.loop-e.e c.loop-e.row c.loop-e.invariant c.requires.size c.if-active.ensures.flag
    c.link.result.tail (c.link.ensures.named.network.tails c.loop-e.e c.link.result c.link.ensures.link)

pub fill_link-requires-clause-head : goal.fill_link-requires-clause-head
fill_link-requires-clause-head g c =
    end_inside c.args.net.now.net c.args.sets.now c.args.pattern.now (g.T.System.rows_of c.args.table.now)
    (g.T.System.rows_of c.loop-e.table) c.loop-e.e c.loop-e.row c.loop-e.invariant c.requires.size c.if-active.ensures.flag
    c.link.result.head (c.link.ensures.named.network.heads c.loop-e.e c.link.result c.link.ensures.link)

pub overflow_add-row : goal.overflow_add-row
overflow_add-row g c =
    let few : c.loop-e.row ≤ most_unknowns = few_columns c.args.net.now c.link.ensures.named c.args.sets.now.active c.loop-e.e c.loop-e.row (omega arith) c.loop-e.invariant.place in omega arith

pub loop-e-preserved : goal.loop-e-preserved
loop-e-preserved g c = elim c.if-active.branch [
  | then-active w ↦ rw (w.table-is, w.row-is) (link_more c.args.net.now.net c.args.sets.now c.args.pattern.now (g.T.System.rows_of c.args.table.now)
      (g.T.System.rows_of c.loop-e.table) c.loop-e.e c.loop-e.row c.loop-e.invariant
      c.requires.size w.if-active.ensures.flag w.link.ensures.named.network c.requires.sets w.link.result w.link.ensures.link w.state.result w.state.ensures
      (g.T.System.rows_of w.fill_link.new.table) w.fill_link.ensures)
  | else-active w ↦ rw (w.table-is, w.row-is) (idle_skipped c.args.net.now.net c.args.sets.now c.args.pattern.now (g.T.System.rows_of c.args.table.now)
      (g.T.System.rows_of c.loop-e.table) c.loop-e.e c.loop-e.row c.loop-e.invariant w.if-active.ensures.flag)
]

pub returns : goal.returns
returns g c =
    λ rate f. links_done c.args.net.now.net c.args.sets.now c.args.pattern.now (g.T.System.rows_of c.args.table.now)
    (g.T.System.rows_of c.loop-e.table) c.loop-e.e c.loop-e.row c.loop-e.invariant (omega arith) c.requires.size rate f

pub fill_link-requires-clause-capacity : goal.fill_link-requires-clause-capacity
fill_link-requires-clause-capacity g c = c.requires.capacities c.loop-e.e c.link.result c.link.ensures.link
