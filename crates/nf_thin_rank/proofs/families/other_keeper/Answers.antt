use Rattle.nf_thin_rank.proofs.families.other_keeper.Goals as goal

pub returns-then-may_replace : goal.returns-then-may_replace
returns-then-may_replace c = (c.may_replace.ensures.differs c.if-may_replace.true, c.may_replace.ensures.keeps c.if-may_replace.true)
