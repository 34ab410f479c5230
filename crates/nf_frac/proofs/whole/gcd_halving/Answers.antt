use Rattle.std.proofs.Common.{ℕ, sym, subst}
use Rattle.nf_frac.proofs.Common.{IsGcd, IsGcd-gcd}
use Rattle.nf_frac.proofs.Halving.{whole_gcd, shifted_back}
use Rattle.nf_frac.proofs.whole.gcd_halving.Goals as goal

pub returns : goal.returns
returns c =
    let found = subst (λ (m : ℕ). IsGcd c.odd_part.result c.odd_part-2.result m) (sym c.gcd_odd.ensures) (IsGcd-gcd c.odd_part.result c.odd_part-2.result) in
    shifted_back c.args.a c.args.b _ _ c.gcd_odd.result c.min-twos.ensures
    (whole_gcd c.args.a c.args.b _ _ c.odd_part.result c.odd_part-2.result c.gcd_odd.result c.odd_part.ensures.power c.odd_part-2.ensures.power
    c.odd_part.ensures.odd c.odd_part-2.ensures.odd found)
    c.requires.right c.ranges.b.fits
