use Rattle.std.proofs.Common.{subst}
use Rattle.nf_frac.proofs.Common.{ℚ, bound_of, IsWithin, narrow_in}
use Rattle.nf_frac.proofs.fraction.Frac.recall.Goals as goal

pub returns : goal.returns
returns g c =
    narrow_in (bound_of g.row.BITS) c.args.self.now (subst (λ (q : ℚ). IsWithin (bound_of g.row.BITS) q) c.self.view_is c.self.invariant)
