use Rattle.std.proofs.Common.{◌≡◌, length}
use Rattle.nf_thin_rank.proofs.Common.{EachEntry}
use Rattle.nf_thin_rank.proofs.Keepers.{IsFirmBy}
use Rattle.nf_thin_rank.proofs.firming.firm_states.Given as goal

abbrev pub invariant-loop-e : goal.invariant-loop-e
invariant-loop-e l = record { count : length l.firm.items ≡ l.e; each : EachEntry (IsFirmBy l.ranking.net.now.net l.listed l.keepers l.out) l.firm.items }
