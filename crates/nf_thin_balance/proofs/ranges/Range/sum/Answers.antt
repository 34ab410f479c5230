use Rattle.nf_thin_balance.proofs.Within.{from_sum, up_to_sum}
use Rattle.nf_thin_balance.proofs.ranges.Range.sum.Goals as goal

pub returns : goal.returns
returns c x y h k = record {
  from = from_sum c.args.self.least c.args.other.least c.end_of_sum.result x y c.end_of_sum.ensures h.from k.from;
  up_to = up_to_sum c.args.self.greatest c.args.other.greatest c.end_of_sum-2.result x y c.end_of_sum-2.ensures h.up_to k.up_to;
}
