use Rattle.std.proofs.Common.{arith}
use Rattle.nf_complete_conditions.proofs.Common.{interior_flags}
use Rattle.nf_pattern.proofs.Each.{take_pushed}
use Rattle.nf_complete_conditions.proofs.Interiors.{test_at, flags_whole}
use Rattle.nf_complete_conditions.proofs.interior_flags.interior.Goals as goal

pub loop-e-preserved : goal.loop-e-preserved
loop-e-preserved c = take_pushed (interior_flags c.args.sets.now c.args.fulls.now c.args.flows.now) c.loop-e.flags.items c.push.new.self.items c.loop-e.e c.is_interior.result
    (test_at c.args.sets.now c.args.fulls.now c.args.flows.now c.loop-e.e c.is_interior.result (omega arith) c.is_interior.ensures) c.loop-e.invariant c.in_ok-push.ensures.items

pub returns : goal.returns
returns c = flags_whole c.args.sets.now c.args.fulls.now c.args.flows.now c.loop-e.e c.loop-e.flags.items (omega arith) c.loop-e.invariant
