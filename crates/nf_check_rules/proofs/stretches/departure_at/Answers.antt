use Rattle.std.proofs.Common.{sym}
use Rattle.nf_check_rules.proofs.Common.{Check, passes_Q, checked_value, was_ok}
use Rattle.nf_check_rules.proofs.Stretching.{no_sides, places-within}
use Rattle.nf_check_rules.proofs.stretches.departure_at.Goals as goal

pub returns-clause-there : goal.returns-clause-there
returns-clause-there c = record {
  from_zero = c.requires.time;
  places = c.requires.places;
  within = places-within c.args.sent.now c.args.places c.args.time c.requires.places;
  taken = was_ok Check (checked_value passes_Q c.args.sent.now.taken.points c.args.time) c.in_ok-taken.taken (sym (rw c.as_points-points.ensures.points at c.in_ok-taken.ensures.value));
  sides = λ sides e. no_sides sides e;
}

pub value_with-requires-clause-kept : goal.value_with-requires-clause-kept
value_with-requires-clause-kept c = rw c.as_points-points.ensures.points c.requires.kept.taken

pub returns-in_err-taken-clause-kept : goal.returns-in_err-taken-clause-kept
returns-in_err-taken-clause-kept c =
    record { taken = rw c.as_points-points.ensures.points at c.in_err-taken.ensures.kept; exits = c.requires.kept.exits; labels = c.requires.kept.labels }

pub returns-clause-kept : goal.returns-clause-kept
returns-clause-kept c = record { taken = rw c.as_points-points.ensures.points at c.in_ok-taken.ensures.kept; exits = c.requires.kept.exits; labels = c.requires.kept.labels }
