use Rattle.nf_linear.proofs.elimination.clear_one.Goals as goal

pub clear-requires-clause-own : goal.clear-requires-clause-own
clear-requires-clause-own g c = c.requires.own
