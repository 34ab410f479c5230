use Rattle.std.proofs.Common.{◌≤◌, ℤ, nat_abs, sym, ◌∙◌, ap, subst}
use Rattle.nf_frac.proofs.Common.{ℚ, bound_of}
use Rattle.nf_frac.proofs.Bits.{plain}
use Rattle.nf_frac.proofs.fraction.Frac.numer.Goals as goal

pub returns-clause-value : goal.returns-clause-value
returns-clause-value g c = plain c.numer.result c.numer.ensures.small ∙ c.numer.ensures.value ∙ ap (λ (q : ℚ). q.num) c.self.view_is

pub returns-clause-small : goal.returns-clause-small
returns-clause-small g c =
    subst (λ (z : ℤ). nat_abs z ≤ bound_of g.row.BITS) (sym (plain c.numer.result c.numer.ensures.small ∙ c.numer.ensures.value)) c.self.invariant.small
