use Rattle.std.proofs.Common.{◌≡◌, ◌-◌, length, drop}
use Rattle.nf_complete_cycles.proofs.Common.{least_room}
use Rattle.nf_complete_cycles.proofs.cancelling.least.Given as goal

-- the least of the last rooms
abbrev pub invariant-loop-done : goal.invariant-loop-done
invariant-loop-done l = l.least ≡ least_room (drop (length l.rooms - l.done) l.rooms)
