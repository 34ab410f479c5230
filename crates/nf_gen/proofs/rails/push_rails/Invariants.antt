use Rattle.std.proofs.Common.{◌-◌, flat_map}
use Rattle.nf_gen.proofs.Common.{range_with_len, rails_on, WritesLinks}
use Rattle.nf_gen.proofs.rails.push_rails.Given as goal

abbrev pub invariant-loop-index : goal.invariant-loop-index
invariant-loop-index l = WritesLinks (flat_map rails_on (range_with_len 1 (l.index - 1))) l.initial.out.items l.out.items l.initial.draws l.draws
