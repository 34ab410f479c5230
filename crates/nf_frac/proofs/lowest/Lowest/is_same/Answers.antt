use mir.Syntax.{w128}
use Rattle.nf_frac.proofs.Bits.{fits_128}
use Rattle.nf_frac.proofs.Form.{parts_of}
use Rattle.nf_frac.proofs.Same.{same_num, other_num}
use Rattle.nf_frac.proofs.lowest.Lowest.is_same.Goals as goal

pub returns-then-self-right : goal.returns-then-self-right
returns-then-self-right c =
    same_num w128 c.args.self c.args.right _ _ _ _ (parts_of c.self.invariant c.self.view_is) (parts_of c.right.invariant c.right.view_is)
    (fits_128 _ c.self.invariant.small) (fits_128 _ c.right.invariant.small) c.if-self-right.true

pub returns-else-self-right : goal.returns-else-self-right
returns-else-self-right c =
    other_num w128 c.args.self c.args.right _ _ _ _ (parts_of c.self.invariant c.self.view_is) (parts_of c.right.invariant c.right.view_is)
    (fits_128 _ c.self.invariant.small) (fits_128 _ c.right.invariant.small) c.if-self-right.false
