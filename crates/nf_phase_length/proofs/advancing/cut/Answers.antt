use Rattle.nf_phase_length.proofs.advancing.cut.Goals as goal

pub returns-in-Some : goal.returns-in-Some
returns-in-Some c = rw c.in-Some.is c.lesser.ensures
