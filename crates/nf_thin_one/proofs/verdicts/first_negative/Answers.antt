use Rattle.nf_thin_one.proofs.Common.{number_at, negative_of, not_negative_of}
use Rattle.nf_thin_one.proofs.Inequalities.{one_more_not_negative}
use Rattle.nf_thin_one.proofs.verdicts.first_negative.Goals as goal

pub returns-then-is_negative_at : goal.returns-then-is_negative_at
returns-then-is_negative_at c = record {
  negative = negative_of (number_at c.args.slopes.now c.loop-v.v) c.is_negative_at.result c.is_negative_at.ensures c.if-is_negative_at.true;
  first = c.loop-v.invariant;
}

pub loop-v-preserved : goal.loop-v-preserved
loop-v-preserved c = one_more_not_negative c.args.slopes.now c.loop-v.v c.loop-v.invariant
    (not_negative_of (number_at c.args.slopes.now c.loop-v.v) c.is_negative_at.result c.is_negative_at.ensures c.if-is_negative_at.false)
