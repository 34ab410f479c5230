use Rattle.std.proofs.Common.{sym, subst, option_copied, Some}
use Rattle.nf_thin_rank.proofs.Common.{Pattern, Enumerates}
use Rattle.nf_thin_rank.proofs.near.copy_next.Goals as goal

pub returns-in_ok-pattern-in-Some : goal.returns-in_ok-pattern-in-Some
returns-in_ok-pattern-in-Some c =
    subst (λ (p : Pattern). Enumerates c.args.patterns.now (Some p) c.next.follows.lender-at-none) (sym c.in_ok-pattern-in-Some.ensures)
    (subst (λ r. Enumerates c.args.patterns.now (option_copied r) c.next.follows.lender-at-none) c.in-Some.is c.next.follows.holds-at-none)
