use Rattle.std.proofs.Common.{◌≤◌, rules, arith}
use Rattle.nf_thin_one.proofs.solving.solve_pattern.Goals as goal

pub solve_on-requires-clause-size : goal.solve_on-requires-clause-size
solve_on-requires-clause-size c = let small : c.args.count ≤ 4 = omega arith in (search rules, small)
