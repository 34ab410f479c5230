use Rattle.nf_thin_guess.proofs.mending.enter_head.Goals as goal

pub returns-then-is_noted : goal.returns-then-is_noted
returns-then-is_noted c = λ sets is. is

pub returns-then-enter_by : goal.returns-then-enter_by
returns-then-enter_by c = c.enter_by.ensures

pub returns-else-enter_by : goal.returns-else-enter_by
returns-else-enter_by c = c.enter_by.ensures
