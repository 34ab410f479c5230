use Rattle.nf_thin_guess.proofs.mending.cut_cycles.Goals as goal

pub loop-e-init : goal.loop-e-init
loop-e-init c = λ sets is. is

pub keep_or_loosen-requires-clause-pattern : goal.keep_or_loosen-requires-clause-pattern
keep_or_loosen-requires-clause-pattern c = (c.requires.0, c.loop-e.invariant c.requires.0 c.requires.1)

pub loop-e-preserved : goal.loop-e-preserved
loop-e-preserved c = λ sets is. c.keep_or_loosen.ensures sets (c.loop-e.invariant sets is)

pub returns : goal.returns
returns c = c.loop-e.invariant
