use Rattle.nf_curve.proofs.walk.sides_at.Goals as goal

pub sides_with-requires-clause-kept : goal.sides_with-requires-clause-kept
sides_with-requires-clause-kept c = c.none.ensures c.args.left.now c.args.right.now
