use Rattle.std.proofs.Common.{ℤ, ◌*ℤ◌, nat_abs, ◌≤◌, subst, SomeIff}
use mathlib.Core.Path.{ap₂}
use Rattle.nf_frac.proofs.Bits.{cast_plain}
use Rattle.nf_frac.proofs.Form.{num_plain}
use Rattle.nf_frac.proofs.lowest.Lowest.scaled.Goals as goal

pub returns : goal.returns
returns c =
    subst (λ (z : ℤ). SomeIff c.multiplied.result (nat_abs z ≤ c.args.limit) z)
    (ap₂ ◌*ℤ◌ (num_plain c.self.invariant c.self.view_is) (cast_plain c.args.factor c.requires.bounded)) c.multiplied.ensures
