use Rattle.std.proofs.Common.{◌+◌, ◌<◌, ◌≤◌, length, arith}
use Rattle.nf_residual.proofs.Common.{passes_Q, IsNextOut}
use Rattle.nf_residual.proofs.NodeByNode.{after_arc, offers_more}
use Rattle.nf_residual.proofs.rounds.offer_from.Goals as goal

pub loop-arc-smaller : goal.loop-arc-smaller
loop-arc-smaller c =
    let b : c.loop-arc.arc < length c.args.arcs.now.legs.items = omega (arith, c.len.ensures, c.loop-arc-test.true) in
    let next : IsNextOut c.args.arcs.now.legs.items c.index.result.now.begin (c.loop-arc.arc + 1) c.after-arc.result =
    after_arc passes_Q c.args.arcs.now.legs.items c.args.node c.args.way c.args.ways.now c.args.places.now.items c.loop-arc.ways c.loop-arc.places.items
    c.loop-arc.arc c.loop-arc.invariant
    c.index.result.now b c.index.ensures c.requires.chains c.after-arc.result c.after-arc.ensures in
    let later : c.loop-arc.arc + 1 ≤ c.after-arc.result = next.later in
    omega arith

pub loop-arc-preserved : goal.loop-arc-preserved
loop-arc-preserved c =
    let b : c.loop-arc.arc < length c.args.arcs.now.legs.items = omega (arith, c.len.ensures, c.loop-arc-test.true) in
    let next : IsNextOut c.args.arcs.now.legs.items c.index.result.now.begin (c.loop-arc.arc + 1) c.after-arc.result =
    after_arc passes_Q c.args.arcs.now.legs.items c.args.node c.args.way c.args.ways.now c.args.places.now.items c.loop-arc.ways c.loop-arc.places.items
    c.loop-arc.arc c.loop-arc.invariant
    c.index.result.now b c.index.ensures c.requires.chains c.after-arc.result c.after-arc.ensures in
    offers_more passes_Q c.args.arcs.now.legs.items c.args.node c.args.way c.args.ways.now c.args.places.now.items c.loop-arc.ways c.loop-arc.places.items
    c.loop-arc.arc c.loop-arc.invariant
    c.index.result.now b c.index.ensures c.in_ok-offer.ensures.tree c.requires.way c.offer.new.ways c.offer.new.places.items c.in_ok-offer.ensures.list
    c.in_ok-offer.ensures.grows c.after-arc.result next
