use Rattle.std.proofs.Common.{◌≤◌, length, arith}
use Rattle.nf_residual.proofs.Common.{passes_Q}
use Rattle.nf_residual.proofs.NodeByNode.{nodes_first, known_here, nodes_more, nodes_skip, nodes_all, nodes_settled}
use Rattle.nf_residual.proofs.rounds.round_by_nodes.Goals.{in-Some+in_ok-offer_from, in_default}
use Rattle.nf_residual.proofs.rounds.round_by_nodes.Goals as goal

pub loop-node-init : goal.loop-node-init
loop-node-init c = nodes_first passes_Q c.args.arcs.now.legs.items c.args.fresh c.args.ways.now c.args.before.now c.args.places.now.items c.requires.same c.requires.settled

pub loop-node-preserved : goal.loop-node-preserved
loop-node-preserved c = elim c.match-fresh_at.branch [
  | in-Some+in_ok-offer_from w ↦ rw (w.ways-is, w.places-is) (nodes_more passes_Q c.args.arcs.now.legs.items c.args.fresh c.args.ways.now c.args.before.now
      c.loop-node.ways c.loop-node.places.items c.loop-node.node
      c.loop-node.invariant c.requires.tree c.requires.within w.in-Some.way w.in-Some.ensures.way c.requires.legs w.offer_from.new.ways w.offer_from.new.places.items
      (w.in_ok-offer_from.ensures.list _ (known_here passes_Q c.args.arcs.now.legs.items c.args.fresh c.args.ways.now c.args.before.now c.loop-node.ways
      c.loop-node.places.items c.loop-node.node
      c.loop-node.invariant c.requires.tree c.requires.within w.in-Some.way w.in-Some.ensures.way)) w.in_ok-offer_from.ensures.grows)
  | in_default w ↦ rw (w.ways-is, w.places-is) (nodes_skip passes_Q c.args.arcs.now.legs.items c.args.fresh c.args.ways.now c.args.before.now
      c.loop-node.ways c.loop-node.places.items c.loop-node.node
      c.loop-node.invariant (c.fresh_at.ensures.old w.in_default.is))
]

pub returns-clause-list : goal.returns-clause-list
returns-clause-list c =
    let past : length c.args.before.now ≤ c.loop-node.node = omega arith in
    nodes_all passes_Q c.args.arcs.now.legs.items c.args.fresh c.args.ways.now c.args.before.now c.loop-node.ways c.loop-node.places.items c.loop-node.node
    c.loop-node.invariant c.requires.legs past

pub returns-clause-settled : goal.returns-clause-settled
returns-clause-settled c =
    let past : length c.args.before.now ≤ c.loop-node.node = omega arith in
    nodes_settled passes_Q c.args.arcs.now.legs.items c.args.fresh c.args.ways.now c.args.before.now c.loop-node.ways c.loop-node.places.items
    c.loop-node.node c.loop-node.invariant c.requires.legs past c.requires.tree
