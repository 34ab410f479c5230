use Rattle.std.proofs.Common.{◌≡◌, ◌++◌, drop, map, Some}
use Rattle.nf_net.proofs.labels.given_sums.Given as goal

abbrev pub invariant-loop-sum : goal.invariant-loop-sum
invariant-loop-sum l = map (λ q. Some q) l.numbers.items ++ drop l.sum-index l.sums ≡ l.sums
