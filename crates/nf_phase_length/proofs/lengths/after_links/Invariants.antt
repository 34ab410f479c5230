use Rattle.nf_phase_length.proofs.Common.{passes_Q}
use Rattle.nf_phase_length.proofs.Looping.{SoFar}
use Rattle.nf_phase_length.proofs.lengths.after_links.Given as goal

abbrev pub invariant-loop-e : goal.invariant-loop-e
invariant-loop-e l = SoFar passes_Q l.net.net l.slacks l.slopes l.least l.e
