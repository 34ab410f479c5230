use Rattle.std.proofs.Common.{lit<}
use Rattle.nf_quick_walks.proofs.Common.{0ℚ, passes_Q}
use Rattle.nf_rational_laws.proofs.Quotient.{ps_apart}
use Rattle.nf_rational_laws.proofs.Order.{≤ℚ_of_lt}
use Rattle.nf_quick_walks.proofs.OnePush.{some_sum}
use Rattle.nf_quick_walks.proofs.pushes.time_with.Goals as goal

pub quotient-requires : goal.quotient-requires
quotient-requires c = (lit< tt, ps_apart c.in_ok-all.all (some_sum passes_Q c.args.rate_so_far c.args.rate c.in_ok-all.all c.requires.so_far c.requires.some c.in_ok-all.ensures))

pub returns-5-clause-rate : goal.returns-5-clause-rate
returns-5-clause-rate c = ≤ℚ_of_lt 0ℚ c.in_ok-all.all (some_sum passes_Q c.args.rate_so_far c.args.rate c.in_ok-all.all c.requires.so_far c.requires.some c.in_ok-all.ensures)
