use Rattle.nf_curve.proofs.Placing.{curve-rises}
use Rattle.nf_curve.proofs.places.place_near.Goals as goal

pub place_down-down-requires-clause-rise : goal.place_down-down-requires-clause-rise
place_down-down-requires-clause-rise c = curve-rises c.args.points.now c.requires.curve

pub place_up-requires-clause-rise : goal.place_up-requires-clause-rise
place_up-requires-clause-rise c = curve-rises c.args.points.now c.requires.curve
