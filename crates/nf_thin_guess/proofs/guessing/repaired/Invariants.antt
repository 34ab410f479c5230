use Rattle.std.proofs.Common.{◌≡◌, length}
use Rattle.nf_thin_guess.proofs.Common.{IsPatternIn}
use Rattle.nf_thin_guess.proofs.guessing.repaired.Given as goal

-- The pattern is still a pattern, as is the one that the repairs have met.
abbrev pub invariant-loop : goal.invariant-loop
invariant-loop l = record {
  pattern : IsPatternIn l.net.net l.sets l.pattern;
  met : length l.rounds.met ≡ length l.net.net.links;
}
