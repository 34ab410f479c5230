use Rattle.std.proofs.Common.{◌≡◌, length}
use Rattle.nf_thin_narrow.proofs.Common.{unforced_of}
use Rattle.nf_thin_narrow.proofs.Entries.{AreFilled}
use Rattle.nf_thin_narrow.proofs.filling.left_pattern.Given as goal

-- the links so far are filled
abbrev pub invariant-loop-e : goal.invariant-loop-e
invariant-loop-e l = record { count : length l.left ≡ l.links; so_far : AreFilled (unforced_of l.forced l.pattern) l.left l.e }
