use Rattle.std.proofs.Common.{◌≡◌, length}
use Rattle.nf_thin_narrow.proofs.Common.{forced_by}
use Rattle.nf_thin_narrow.proofs.Entries.{AreFilled}
use Rattle.nf_thin_narrow.proofs.forcing.forced_by.Given as goal

-- the links so far have their states
abbrev pub invariant-loop-e : goal.invariant-loop-e
invariant-loop-e l = record { count : length l.forced ≡ length l.net.net.links; so_far : AreFilled (forced_by l.net.net l.slopes l.base) l.forced l.e }
