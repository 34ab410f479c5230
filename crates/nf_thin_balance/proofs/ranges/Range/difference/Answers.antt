use Rattle.nf_thin_balance.proofs.Within.{from_difference, up_to_difference}
use Rattle.nf_thin_balance.proofs.ranges.Range.difference.Goals as goal

pub returns : goal.returns
returns c x y h k = record {
  from = from_difference c.args.self.least c.args.other.greatest c.end_of_difference.result x y c.end_of_difference.ensures h.from k.up_to;
  up_to = up_to_difference c.args.self.greatest c.args.other.least c.end_of_difference-2.result x y c.end_of_difference-2.ensures h.up_to k.from;
}
