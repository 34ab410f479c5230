use Rattle.std.proofs.Common.{◌∙◌, arith}
use Rattle.nf_frac.proofs.Common.{IsGcd-from_zero, IsGcd-from_mod, same_from_IsGcd, IsGcd-gcd}
use Rattle.nf_frac.proofs.whole.gcd_long.Goals as goal

pub loop-y-preserved : goal.loop-y-preserved
loop-y-preserved c g h = c.loop-y.invariant g (IsGcd-from_mod _ _ g h)

pub returns-then-y-eq0 : goal.returns-then-y-eq0
returns-then-y-eq0 c = same_from_IsGcd _ _ _ _ (c.loop-y.invariant _ (IsGcd-from_zero _ _ (omega arith))) (IsGcd-gcd _ _)

pub returns-else-y-eq0 : goal.returns-else-y-eq0
returns-else-y-eq0 c =
    c.gcd_short.ensures ∙ same_from_IsGcd _ _ _ _ (c.loop-y.invariant _ (IsGcd-from_mod _ _ _ (IsGcd-gcd _ _))) (IsGcd-gcd _ _)
