use Rattle.std.proofs.Common.{arith}
use Rattle.nf_thin_one.proofs.Held.{none_held, one_more_held, all_numbers_held}
use Rattle.nf_thin_one.proofs.small_numbers.has_small_numbers.Goals as goal

pub loop-e-init : goal.loop-e-init
loop-e-init c = none_held c.args.net.now.net

pub loop-e-preserved : goal.loop-e-preserved
loop-e-preserved c = one_more_held c.args.net.now.net c.loop-e.e c.link.result c.loop-e.invariant c.link.ensures.link (c.has_small_capacity.ensures c.if-not-has_small_capacity.false)

pub returns : goal.returns
returns c = λ yes. all_numbers_held c.args.net.now.net c.args.rate c.loop-e.e (omega arith) c.loop-e.invariant (c.is_small.ensures yes)
