use Rattle.nf_thin_one.proofs.trying.judge.Goals as goal

pub returns-in-Meets : goal.returns-in-Meets
returns-in-Meets c = rw c.in-Meets.is at c.in_ok-verdict.ensures
