-- Three curves of a link, by departure.
use Rattle.std.specs.Prelude.{◌≡◌, ◌≤◌, List, length, slice_get, Option, option_map, Ok}
use Rattle.nf_rational.specs.Rational.{ℚ}
use Rattle.nf_frac_def.specs.Passing.{Passing, passes_Q}
use Rattle.nf_frac_def.specs.Checked.{Checked, ◌>>=◌}
use Rattle.nf_model.specs.Curve.{Point, IsCurve}
use Rattle.nf_curve_def.specs.Lines.{Sides}
use Rattle.nf_curve_def.specs.Short.{checked_short}
use Rattle.nf_curve_def.specs.Composed.{checked_composed}
use Rattle.nf_check_def.specs.Routes.{three_times, all_stretches, detour_list}
use Rattle.nf_curve_def.specs.Times.{merged, times_of}
use Rattle.nf_curve.specs.Places.{count_until, points_after, earlier_of}
use Rattle.nf_curve.specs.Slopes.{KeepsSlope}
use Rattle.nf_check_rules.specs.declared.link_curves.LinkCurves.{LinkCurves}
use Rattle.nf_check_rules.specs.declared.sent.Sent.{Sent}
use Rattle.nf_check_rules.specs.declared.sent.Places.{Places}
use Rattle.nf_check_rules.specs.declared.sent.SentSlopes.{SentSlopes}

pub record AreSentCurves (sent : Sent) : Type 0 where
  pub taken : IsCurve sent.taken.points
  pub exits : IsCurve sent.exits.points
  pub labels : IsCurve sent.labels.points

-- the number of points of each of the three curves at or before a departure
pub record ArePlaces (sent : Sent) (time : ℚ) (places : Places) : Type 0 where
  pub taken : places.taken ≡ count_until time sent.taken.points
  pub exits : places.exits ≡ count_until time sent.exits.points
  pub labels : places.labels ≡ count_until time sent.labels.points

-- point counts that do not exceed the curves' lengths
pub record ArePlacesWithin (sent : Sent) (places : Places) : Type 0 where
  pub taken : places.taken ≤ length sent.taken.points
  pub exits : places.exits ≤ length sent.exits.points
  pub labels : places.labels ≤ length sent.labels.points

-- the slopes kept of the three curves
pub record KeepSlopes (sent : Sent) (kept : SentSlopes) : Type 0 where
  pub taken : KeepsSlope sent.taken.points kept.taken
  pub exits : KeepsSlope sent.exits.points kept.exits
  pub labels : KeepsSlope sent.labels.points kept.labels

-- the earliest time of the points at these counts
abbrev pub first_time : Sent → Places → Option ℚ
first_time sent places = earlier_of
    (earlier_of (option_map (λ p. p.0) (slice_get sent.taken.points places.taken)) (option_map (λ p. p.0) (slice_get sent.exits.points places.exits)))
    (option_map (λ p. p.0) (slice_get sent.labels.points places.labels))

-- the times of the points of three curves after a time, in rising order
abbrev pub three_after : ℚ → List Point → List Point → List Point → List ℚ
three_after time taken exits labels = merged (merged (times_of (points_after time taken)) (times_of (points_after time exits))) (times_of (points_after time labels))

-- the test of the three curves
abbrev pub stretches_of : Sent → Checked (Option Sides)
stretches_of sent = all_stretches passes_Q sent.taken.points sent.exits.points sent.labels.points
    (three_times sent.taken.points sent.exits.points sent.labels.points)

abbrev pub points_in : Sent → List Point × List Point × List Point
points_in sent = (sent.taken.points, sent.exits.points, sent.labels.points)

-- the exits of a link by departure up to `last`, from its exits by entry and its tail's label
abbrev pub short_exits : Passing → List Point → List Point → ℚ → Checked (List Point)
short_exits passes exit tail_label last = do
  exits ← checked_composed passes exit tail_label last
  checked_short passes exits

-- the three curves of a link up to the departure `last`, from its inflow, its exits and the labels of its ends
unfoldable pub sent_list : Passing → List Point → List Point → List Point → List Point → ℚ → Checked (List Point × List Point × List Point)
sent_list passes inflow exit tail_label head_label last = do
  taken ← checked_composed passes inflow tail_label last
  exits ← checked_composed passes exit tail_label last
  short_taken ← checked_short passes taken
  short_exits ← checked_short passes exits
  short_labels ← checked_short passes head_label
  Ok (short_taken, short_exits, short_labels)

-- the three curves, from exits by departure in short form
unfoldable pub known_list : Passing → List Point → List Point → List Point → List Point → ℚ → Checked (List Point × List Point × List Point)
known_list passes inflow exits tail_label head_label last = do
  taken ← checked_composed passes inflow tail_label last
  short_taken ← checked_short passes taken
  short_labels ← checked_short passes head_label
  Ok (short_taken, exits, short_labels)

-- the same of the curves of a link
abbrev pub sent_on_link : LinkCurves → Checked (List Point × List Point × List Point)
sent_on_link link = sent_list passes_Q link.inflow.now.points link.exit.now.points link.tail_label.now.points link.head_label.now.points link.last

abbrev pub known_on_link : LinkCurves → List Point → Checked (List Point × List Point × List Point)
known_on_link link exits = known_list passes_Q link.inflow.now.points exits link.tail_label.now.points link.head_label.now.points link.last

abbrev pub exits_of : LinkCurves → Checked (List Point)
exits_of link = short_exits passes_Q link.exit.now.points link.tail_label.now.points link.last

-- the test of a link
abbrev pub detours_of : LinkCurves → Checked (Option Sides)
detours_of link = detour_list passes_Q link.inflow.now.points link.exit.now.points link.tail_label.now.points link.head_label.now.points link.last
