use Rattle.std.proofs.Common.{◌+◌, ◌-◌, refl, arith}
use Rattle.nf_pattern.proofs.Passing.{passed_back}
use Rattle.nf_pattern.proofs.trail.Trail.pass_back.Goals as goal

pub overflow_add-self : goal.overflow_add-self
overflow_add-self c = let l = (c.up_to.ensures c.requires.stated.0 c.requires.stated.1).0 in omega arith

pub returns-clause-kept : goal.returns-clause-kept
returns-clause-kept c = λ source hops resetting p stated follows.
    let last = c.up_to.ensures p stated in let some = c.requires.some in let l = last.0 in
    passed_back source hops resetting p c.args.self.now (c.args.self.now.depth - (c.up_to.result + 1)) (c.up_to.result + 1) follows (omega arith)
    (λ e from less. last.1 e (omega arith) (omega arith))

pub returns-clause-way : goal.returns-clause-way
returns-clause-way c = record { nodes = refl; ends = refl; lost = refl }

pub returns-clause-back : goal.returns-clause-back
returns-clause-back c = let l = (c.up_to.ensures c.requires.stated.0 c.requires.stated.1).0 in let some = c.requires.some in omega arith
