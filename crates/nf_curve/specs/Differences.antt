-- Converts a `Difference` to the `Sides` of the operation sequences.
use Rattle.nf_curve_def.specs.Lines.{Sides}
use Rattle.nf_curve.specs.declared.curve.Difference.{Difference}

abbrev pub difference_of : Difference → Sides
difference_of d = record { time = d.time; left = d.left; right = d.right }
