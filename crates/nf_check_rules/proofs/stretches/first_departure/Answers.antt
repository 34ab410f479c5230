use Rattle.std.proofs.Common.{sym, arith}
use Rattle.nf_check_rules.proofs.Common.{passes_Q, ≤ℚ_of_same}
use Rattle.nf_curve.proofs.Points.{points_there}
use Rattle.nf_check_rules.proofs.Stretching.{no_sides, first_amount}
use Rattle.nf_check_rules.proofs.stretches.first_departure.Goals as goal

pub point-taken-requires : goal.point-taken-requires
point-taken-requires c = points_there c.args.sent.now.taken.points c.requires.taken

pub places_near-requires : goal.places_near-requires
places_near-requires c = record { taken = omega arith; exits = omega arith; labels = omega arith }

pub returns-clause-there : goal.returns-clause-there
returns-clause-there c = record {
  from_zero = ≤ℚ_of_same _ _ (sym c.zero-time.ensures);
  places = c.places_near.ensures.places;
  within = c.places_near.ensures.within;
  taken = first_amount passes_Q c.args.sent.now.taken.points _ c.zero-time.result c.requires.taken c.point-taken.ensures c.zero-time.ensures;
  sides = λ sides e. no_sides sides e;
}
