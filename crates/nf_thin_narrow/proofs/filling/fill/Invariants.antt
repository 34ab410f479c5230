use Rattle.std.proofs.Common.{◌≡◌, length}
use Rattle.nf_thin_narrow.proofs.Common.{filled}
use Rattle.nf_thin_narrow.proofs.Entries.{AreFilled}
use Rattle.nf_thin_narrow.proofs.filling.fill.Given as goal

-- the links so far are filled
abbrev pub invariant-loop-e : goal.invariant-loop-e
invariant-loop-e l = record { count : length l.pattern ≡ l.links; so_far : AreFilled (filled l.forced l.part) l.pattern l.e }
