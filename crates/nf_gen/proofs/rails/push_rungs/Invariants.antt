use Rattle.std.proofs.Common.{◌-◌, map}
use Rattle.nf_gen.proofs.Common.{range_with_len, rung_at, WritesLinks}
use Rattle.nf_gen.proofs.rails.push_rungs.Given as goal

abbrev pub invariant-loop-index : goal.invariant-loop-index
invariant-loop-index l = WritesLinks (map rung_at (range_with_len 1 (l.index - 1))) l.initial.out.items l.out.items l.initial.draws l.draws
