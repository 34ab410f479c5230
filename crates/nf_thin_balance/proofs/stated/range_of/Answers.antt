use Rattle.std.proofs.Common.{arith}
use Rattle.nf_thin_balance.proofs.Common.{entry, number_at}
use Rattle.nf_thin_balance.proofs.Conserving.{meets_state}
use Rattle.nf_thin_balance.proofs.stated.range_of.Goals as goal

pub range_at-most-requires : goal.range_at-most-requires
range_at-most-requires c = let n = c.requires.stated.full in let l = c.requires.link in omega arith

pub state-requires : goal.state-requires
state-requires c = let n = c.requires.stated.states in let l = c.requires.link in omega arith

pub resetting-requires : goal.resetting-requires
resetting-requires c = let n = c.requires.stated.sets in let l = c.requires.link in omega arith

pub returns : goal.returns
returns c scale rate flows can =
    let here = entry c.args.stated.now.net.now.net.links c.args.link c.requires.link in
    c.flow_range.ensures scale (here.0).capacity (number_at flows c.args.link) (number_at can.slopes (here.0).tail) (number_at can.slopes (here.0).head)
    (meets_state scale c.args.stated.now.net.now.net c.args.stated.now.sets.now rate c.args.stated.now.pattern.now c.args.stated.now.full.now flows can
    c.args.link here.0 c.state.result c.resetting.result c.range_at-most.result
    here.1 c.state.ensures c.resetting.ensures.flag c.range_at-most.ensures)
