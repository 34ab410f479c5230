use mir.Syntax.{w64}
use Rattle.nf_frac.proofs.SmallParts.{short_parts, fits_64}
use Rattle.nf_frac.proofs.Same.{same_num, other_num}
use Rattle.nf_frac.proofs.small.Small.is_same.Goals as goal

pub returns-then-self-right : goal.returns-then-self-right
returns-then-self-right c =
    same_num w64 c.args.self c.args.right _ _ _ _ (short_parts c.self.invariant c.self.view_is) (short_parts c.right.invariant c.right.view_is)
    (fits_64 _ c.self.invariant.small) (fits_64 _ c.right.invariant.small) c.if-self-right.true

pub returns-else-self-right : goal.returns-else-self-right
returns-else-self-right c =
    other_num w64 c.args.self c.args.right _ _ _ _ (short_parts c.self.invariant c.self.view_is) (short_parts c.right.invariant c.right.view_is)
    (fits_64 _ c.self.invariant.small) (fits_64 _ c.right.invariant.small) c.if-self-right.false
