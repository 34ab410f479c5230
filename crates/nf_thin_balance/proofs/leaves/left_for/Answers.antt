use Rattle.std.proofs.Common.{◌≡◌, Bool, subst, MatchBool}
use Rattle.nf_thin_balance.proofs.Common.{◌+ℚ◌, ◌-ℚ◌, IsInRange}
use Rattle.nf_thin_balance.proofs.Closing.{left_leaving, left_entering}
use Rattle.nf_thin_balance.proofs.leaves.left_for.Goals as goal

pub returns-then-leaves : goal.returns-then-leaves
returns-then-leaves c x s n others needed told = subst (IsInRange c.difference.result)
    (left_leaving x s n (subst (λ (b : Bool). MatchBool b (s +ℚ x ≡ n) (s -ℚ x ≡ n)) c.if-leaves.true told))
    (c.difference.ensures n s needed others)

pub returns-else-leaves : goal.returns-else-leaves
returns-else-leaves c x s n others needed told = subst (IsInRange c.difference-else-leaves.result)
    (left_entering x s n (subst (λ (b : Bool). MatchBool b (s +ℚ x ≡ n) (s -ℚ x ≡ n)) c.if-leaves.false told))
    (c.difference-else-leaves.ensures s n others needed)
