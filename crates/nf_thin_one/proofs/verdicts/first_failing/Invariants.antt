use Rattle.std.proofs.Common.{◌≡◌, drop, None}
use Rattle.nf_thin_one.proofs.Common.{enumerate_from, passes_Q, fold_checked, broken_after}
use Rattle.nf_thin_one.proofs.verdicts.first_failing.Given as goal

-- what is found so far goes on over the links that are left
abbrev pub invariant-loop-e : goal.invariant-loop-e
invariant-loop-e l = fold_checked (broken_after passes_Q l.pattern l.flows l.slopes) None (enumerate_from 0 l.net.net.links)
    ≡ fold_checked (broken_after passes_Q l.pattern l.flows l.slopes) l.found (drop l.e (enumerate_from 0 l.net.net.links))
