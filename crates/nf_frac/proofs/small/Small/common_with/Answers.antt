use Rattle.std.proofs.Common.{sym, ap, nat_abs, ◌∙◌}
use Rattle.nf_frac.proofs.Common.{le_trans, gcd}
use mathlib.Core.Path.{ap₂}
use Rattle.nf_frac.proofs.SmallParts.{short_parts, short_num, own_factor}
use Rattle.nf_frac.proofs.small.Small.common_with.Goals as goal

pub returns-then-self-other-clause-value : goal.returns-then-self-other-clause-value
returns-then-self-other-clause-value c =
    own_factor c.args.self c.args.other _ _ (short_parts c.self.invariant c.self.view_is).den (short_parts c.other.invariant c.other.view_is).den c.if-self-other.true

pub returns-else-self-other-clause-value : goal.returns-else-self-other-clause-value
returns-else-self-other-clause-value c =
    c.common_factor.ensures.value
    ∙ ap₂ gcd (c.unsigned_abs.ensures.value ∙ ap nat_abs (short_num c.self.invariant c.self.view_is)) (sym (short_parts c.other.invariant c.other.view_is).den)

pub returns-else-self-other-clause-positive : goal.returns-else-self-other-clause-positive
returns-else-self-other-clause-positive c = c.common_factor.ensures.positive c.other.invariant.positive

pub returns-else-self-other-clause-small : goal.returns-else-self-other-clause-small
returns-else-self-other-clause-small c = le_trans (c.common_factor.ensures.small c.other.invariant.positive) c.other.invariant.small_den
