use Rattle.std.proofs.Common.{◌-◌, refl, arith}
use Rattle.nf_pattern.proofs.Passing.{passed_on}
use Rattle.nf_pattern.proofs.trail.Trail.pass.Goals as goal

pub returns-clause-kept : goal.returns-clause-kept
returns-clause-kept c = λ source resetting p stated count carry follows.
    let next = c.from-self.ensures p stated (let few = follows.depth in omega arith) in (
      passed_on source c.args.hops.now resetting p c.args.self.now (c.from-self.result - c.args.self.now.depth) c.from-self.result follows carry
          (let l = next.0 in omega arith) (let l = next.1 in omega arith) next.2,
      next.0,
    )

pub returns-clause-way : goal.returns-clause-way
returns-clause-way c = record { nodes = refl; ends = refl; lost = refl }
