use Rattle.std.proofs.Common.{◌≡◌, length}
use Rattle.nf_thin_narrow.proofs.Common.{AreSole}
use Rattle.nf_thin_narrow.proofs.sole.sole_flags.Given as goal

-- the flags so far
abbrev pub invariant-loop-e : goal.invariant-loop-e
invariant-loop-e l = record { count : length l.flags.items ≡ l.e; sole : AreSole l.source l.hops l.sets l.flags.items }
