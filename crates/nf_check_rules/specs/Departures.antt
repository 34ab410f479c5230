-- A tested departure.
use Rattle.std.specs.Prelude.{◌≡◌, Some, Ok}
use Rattle.nf_rational.specs.Operations.{0ℚ}
use Rattle.nf_rational.specs.Order.{◌≤ℚ◌}
use Rattle.nf_frac_def.specs.Passing.{passes_Q}
use Rattle.nf_curve_def.specs.Values.{checked_value}
use Rattle.nf_curve_def.specs.Sums.{sides_at}
use Rattle.nf_curve.specs.Differences.{difference_of}
use Rattle.nf_curve.specs.declared.curve.Difference.{Difference}
use Rattle.nf_check_rules.specs.Sent.{ArePlaces, ArePlacesWithin}
use Rattle.nf_check_rules.specs.declared.sent.Sent.{Sent}
use Rattle.nf_check_rules.specs.declared.stretches.Departure.{Departure}

-- the point counts of the departure, the amount entered by then, and exit and head label there if they are known
pub record IsSentDeparture (sent : Sent) (departure : Departure) : Type 0 where
  pub from_zero : 0ℚ ≤ℚ departure.time
  pub places : ArePlaces sent departure.time departure.places
  pub within : ArePlacesWithin sent departure.places
  pub taken : checked_value passes_Q sent.taken.points departure.time ≡ Ok departure.taken
  pub sides : (sides : Difference) → departure.sides ≡ Some sides
      → sides_at passes_Q sent.exits.points sent.labels.points departure.time ≡ Ok (difference_of sides)
