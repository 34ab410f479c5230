use Rattle.std.proofs.Common.{arith}
use Rattle.nf_pattern.proofs.Common.{slice_get_within}
use Rattle.nf_pattern.proofs.Entries.{none_more}
use Rattle.nf_pattern.proofs.entered.is_lost.Goals as goal

pub loop-v-init : goal.loop-v-init
loop-v-init c w less other lost = absurd (omega arith)

pub loop-v-preserved : goal.loop-v-preserved
loop-v-preserved c = none_more c.args.source c.loop-v.v c.args.ends.now c.loop-v.invariant c.if-is_lost_at.ensures

pub returns : goal.returns
returns c v other lost = c.loop-v.invariant v (let within = slice_get_within c.args.ends.now v 0 lost in let end = c.loop-v-test.false in omega arith) other lost
