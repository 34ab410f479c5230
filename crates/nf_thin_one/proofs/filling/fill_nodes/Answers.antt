use Rattle.std.proofs.Common.{◌≤◌, ℕ, sym, subst, arith}
use Rattle.nf_thin_one.proofs.Common.{most_unknowns, IsRowOf, AddsFlow}
use Rattle.nf_thin_one.proofs.NodeRows.{node_inside, flows_first, end_inside, column_inside, flow_more, flow_same, nodes_done, size_kept}
use Rattle.nf_thin_one.proofs.Sizes.{few_columns}
use Rattle.nf_thin_one.proofs.filling.fill_nodes.Goals as goal
use Rattle.nf_thin_one.proofs.filling.fill_nodes.Goals.{then-active, else-active}

pub loop-e-init : goal.loop-e-init
loop-e-init g c = rw c.node_count-column.ensures (flows_first c.args.net.now.net c.args.sets.now c.args.rate (g.T.System.rows_of c.args.table.now)
    (node_inside c.sink-sink.result c.args.net.now.net.sink c.args.net.now.net.nodes c.sink-sink.ensures.value c.sink-sink.ensures.node)
    c.requires.sets c.requires.first)

pub set_flow-requires-clause-sink : goal.set_flow-requires-clause-sink
set_flow-requires-clause-sink g c =
    end_inside c.args.net.now.net c.args.sets.now c.args.rate (g.T.System.rows_of c.args.table.now)
    (node_inside c.sink-sink.result c.args.net.now.net.sink c.args.net.now.net.nodes c.sink-sink.ensures.value c.sink-sink.ensures.node)
    c.requires.sets c.requires.first (g.T.System.rows_of c.loop-e.table) c.loop-e.e c.loop-e.column c.loop-e.invariant
    c.sink-sink.result c.sink-sink.ensures.node

pub set_flow-requires-clause-tail : goal.set_flow-requires-clause-tail
set_flow-requires-clause-tail g c =
    end_inside c.args.net.now.net c.args.sets.now c.args.rate (g.T.System.rows_of c.args.table.now)
    (node_inside c.sink-sink.result c.args.net.now.net.sink c.args.net.now.net.nodes c.sink-sink.ensures.value c.sink-sink.ensures.node)
    c.requires.sets c.requires.first (g.T.System.rows_of c.loop-e.table) c.loop-e.e c.loop-e.column c.loop-e.invariant
    c.link.result.tail (c.link.ensures.named.network.tails c.loop-e.e c.link.result c.link.ensures.link)

pub set_flow-requires-clause-head : goal.set_flow-requires-clause-head
set_flow-requires-clause-head g c =
    end_inside c.args.net.now.net c.args.sets.now c.args.rate (g.T.System.rows_of c.args.table.now)
    (node_inside c.sink-sink.result c.args.net.now.net.sink c.args.net.now.net.nodes c.sink-sink.ensures.value c.sink-sink.ensures.node)
    c.requires.sets c.requires.first (g.T.System.rows_of c.loop-e.table) c.loop-e.e c.loop-e.column c.loop-e.invariant
    c.link.result.head (c.link.ensures.named.network.heads c.loop-e.e c.link.result c.link.ensures.link)

pub set_flow-requires-clause-column : goal.set_flow-requires-clause-column
set_flow-requires-clause-column g c =
    column_inside c.args.net.now.net c.args.sets.now c.args.rate (g.T.System.rows_of c.args.table.now)
    (node_inside c.sink-sink.result c.args.net.now.net.sink c.args.net.now.net.nodes c.sink-sink.ensures.value c.sink-sink.ensures.node)
    c.requires.sets c.requires.first (g.T.System.rows_of c.loop-e.table) c.loop-e.e c.loop-e.column c.loop-e.invariant c.if-active.ensures.flag

pub overflow_add-column : goal.overflow_add-column
overflow_add-column g c =
    let few : c.loop-e.column ≤ most_unknowns =
    few_columns c.args.net.now c.link.ensures.named c.args.sets.now.active c.loop-e.e c.loop-e.column (omega arith) c.loop-e.invariant.next in
    omega arith

pub loop-e-preserved : goal.loop-e-preserved
loop-e-preserved g c = elim c.if-active.branch [
  | then-active w ↦ rw (w.table-is, w.column-is) (flow_more c.args.net.now.net c.args.sets.now c.args.rate (g.T.System.rows_of c.args.table.now)
      (node_inside c.sink-sink.result c.args.net.now.net.sink c.args.net.now.net.nodes c.sink-sink.ensures.value c.sink-sink.ensures.node)
      c.requires.sets c.requires.first
      (g.T.System.rows_of c.loop-e.table) c.loop-e.e c.loop-e.column c.loop-e.invariant (g.T.System.rows_of w.set_flow.new.table) w.link.result
      w.if-active.ensures.flag w.link.ensures.link (w.link.ensures.named.network.tails c.loop-e.e w.link.result w.link.ensures.link)
      (w.link.ensures.named.network.heads c.loop-e.e w.link.result w.link.ensures.link)
      (subst (λ (s : ℕ). AddsFlow s c.loop-e.column w.link.result (g.T.System.rows_of c.loop-e.table) (g.T.System.rows_of w.set_flow.new.table))
      c.sink-sink.ensures.value w.set_flow.ensures))
  | else-active w ↦ rw (w.table-is, w.column-is) (flow_same c.args.net.now.net c.args.sets.now c.args.rate (g.T.System.rows_of c.args.table.now)
      (node_inside c.sink-sink.result c.args.net.now.net.sink c.args.net.now.net.nodes c.sink-sink.ensures.value c.sink-sink.ensures.node)
      c.requires.sets c.requires.first
      (g.T.System.rows_of c.loop-e.table) c.loop-e.e c.loop-e.column c.loop-e.invariant w.if-active.ensures.flag)
]

pub set_supply-requires-clause-sink : goal.set_supply-requires-clause-sink
set_supply-requires-clause-sink g c =
    end_inside c.args.net.now.net c.args.sets.now c.args.rate (g.T.System.rows_of c.args.table.now)
    (node_inside c.sink-sink.result c.args.net.now.net.sink c.args.net.now.net.nodes c.sink-sink.ensures.value c.sink-sink.ensures.node)
    c.requires.sets c.requires.first (g.T.System.rows_of c.loop-e.table) c.loop-e.e c.loop-e.column c.loop-e.invariant
    c.sink-sink.result c.sink-sink.ensures.node

pub set_supply-requires-clause-source : goal.set_supply-requires-clause-source
set_supply-requires-clause-source g c =
    end_inside c.args.net.now.net c.args.sets.now c.args.rate (g.T.System.rows_of c.args.table.now)
    (node_inside c.sink-sink.result c.args.net.now.net.sink c.args.net.now.net.nodes c.sink-sink.ensures.value c.sink-sink.ensures.node)
    c.requires.sets c.requires.first (g.T.System.rows_of c.loop-e.table) c.loop-e.e c.loop-e.column c.loop-e.invariant c.source.result c.source.ensures.node

pub returns-clause-nodes : goal.returns-clause-nodes
returns-clause-nodes g c =
    nodes_done c.args.net.now.net c.args.sets.now c.args.rate (g.T.System.rows_of c.args.table.now)
    (node_inside c.sink-sink.result c.args.net.now.net.sink c.args.net.now.net.nodes c.sink-sink.ensures.value c.sink-sink.ensures.node)
    c.requires.sets c.requires.first (g.T.System.rows_of c.loop-e.table) c.loop-e.e c.loop-e.column c.loop-e.invariant
    (g.T.System.rows_of c.set_supply.new.table) (omega arith)
    (node_inside c.source.result c.args.net.now.net.source c.args.net.now.net.nodes c.source.ensures.value c.source.ensures.node)
    c.recall.ensures.network.apart
    (λ row r. c.set_supply.ensures row (subst (λ (s : ℕ). IsRowOf s c.source.result row) (sym c.sink-sink.ensures.value)
    (subst (λ (v : ℕ). IsRowOf c.args.net.now.net.sink v row) (sym c.source.ensures.value) r)))

pub returns-clause-size : goal.returns-clause-size
returns-clause-size g c =
    size_kept c.args.net.now.net c.args.sets.now c.args.rate (g.T.System.rows_of c.args.table.now)
    (node_inside c.sink-sink.result c.args.net.now.net.sink c.args.net.now.net.nodes c.sink-sink.ensures.value c.sink-sink.ensures.node)
    c.requires.sets c.requires.first (g.T.System.rows_of c.loop-e.table) c.loop-e.e c.loop-e.column c.loop-e.invariant
    (g.T.System.rows_of c.set_supply.new.table) (omega arith)
    (node_inside c.source.result c.args.net.now.net.source c.args.net.now.net.nodes c.source.ensures.value c.source.ensures.node)
    c.recall.ensures.network.apart
    (λ row r. c.set_supply.ensures row (subst (λ (s : ℕ). IsRowOf s c.source.result row) (sym c.sink-sink.ensures.value)
    (subst (λ (v : ℕ). IsRowOf c.args.net.now.net.sink v row) (sym c.source.ensures.value) r)))
