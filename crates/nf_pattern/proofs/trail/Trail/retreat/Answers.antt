use Rattle.std.proofs.Common.{refl, arith}
use Rattle.nf_pattern.proofs.Following.{way_same, way_on, calmed}
use Rattle.nf_pattern.proofs.trail.Trail.retreat.Goals as goal

pub loop-self-init : goal.loop-self-init
loop-self-init c = record { left = c.requires.left; kept = λ source resetting p stated follows. follows; way = way_same c.args.self.now }

pub pass_back-requires-clause-stated : goal.pass_back-requires-clause-stated
pass_back-requires-clause-stated c = let left = c.loop-self.invariant.left in (left.2, left.3)

pub leave-requires-clause-left : goal.leave-requires-clause-left
leave-requires-clause-left c =
    let left = c.loop-self.invariant.left in (left.0, left.1, left.2, c.pass_back.ensures.kept left.0 c.args.hops.now left.1 left.2 left.3 left.4)

pub loop-self-preserved : goal.loop-self-preserved
loop-self-preserved c =
    let left = c.loop-self.invariant.left in record {
      left = (left.0, left.1, left.2, left.3, c.leave.ensures.kept left.0 left.1 left.2 (c.pass_back.ensures.kept left.0 c.args.hops.now left.1 left.2 left.3 left.4));
      kept = λ source resetting p stated follows. c.leave.ensures.kept source resetting p
          (c.pass_back.ensures.kept source c.args.hops.now resetting p stated (c.loop-self.invariant.kept source resetting p stated follows));
      way = way_on (way_on c.loop-self.invariant.way c.pass_back.ensures.way) c.leave.ensures.way;
    }

pub returns-clause-kept : goal.returns-clause-kept
returns-clause-kept c = λ source resetting p stated follows.
    let on = c.loop-self.invariant.kept source resetting p stated follows in
    calmed source c.args.hops.now resetting p on refl (c.retreat.ensures c.args.hops.now p c.loop-self.self.depth (let end = c.loop-self-test.false in omega arith) on.calm)

pub returns-clause-way : goal.returns-clause-way
returns-clause-way c = let way = c.loop-self.invariant.way in record { nodes = way.nodes; ends = way.ends; lost = way.lost }
