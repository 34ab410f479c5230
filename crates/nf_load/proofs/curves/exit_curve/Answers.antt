use Rattle.nf_load.proofs.Leaves.{exit_slopes}
use Rattle.nf_load.proofs.curves.exit_curve.Goals as goal

pub known_short-requires-clause-slopes : goal.known_short-requires-clause-slopes
known_short-requires-clause-slopes c =
    rw (c.deref.ensures.value, c.deref-2.ensures.value, c.in_ok-points.ensures, c.in_ok-slopes.ensures)
    (exit_slopes c.args.all.now c.args.leaving.now c.requires.leaving)
