use Rattle.nf_thin_guess.proofs.mending.enter_nodes.Goals as goal

pub loop-e-init : goal.loop-e-init
loop-e-init c = λ sets is. is

pub enter_head-requires-clause-pattern : goal.enter_head-requires-clause-pattern
enter_head-requires-clause-pattern c = (c.requires.0, c.loop-e.invariant c.requires.0 c.requires.1)

pub returns : goal.returns
returns c = c.loop-e.invariant

pub loop-e-preserved : goal.loop-e-preserved
loop-e-preserved c = λ sets is. c.enter_head.ensures sets (c.loop-e.invariant sets is)
