use Rattle.std.proofs.Common.{◌≡◌, length}
use Rattle.nf_thin_balance.proofs.Common.{AreFull}
use Rattle.nf_thin_balance.proofs.scaled.full_flows.Given as goal

-- the ranges of the links so far
abbrev pub invariant-loop-e : goal.invariant-loop-e
invariant-loop-e l = record { count : length l.full.items ≡ l.e; are : AreFull l.scale l.net.net l.slopes l.full.items }
