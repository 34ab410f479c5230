use Rattle.nf_load.proofs.Common.{Load, passes_Q, checked_short, was_ok}
use Rattle.nf_curve_laws.proofs.Short.{checked_short-is}
use Rattle.nf_load.proofs.curves.known_short.Goals as goal

pub of_points-requires : goal.of_points-requires
of_points-requires c = (checked_short-is passes_Q c.args.points.now c.in_ok-short.short.items c.requires.curve
    (was_ok Load (checked_short passes_Q c.args.points.now) c.in_ok-short.short.items c.in_ok-short.ensures)).curve
