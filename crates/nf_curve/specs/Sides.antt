-- Converts the code's `Sides` to those of the operation sequences.
use Rattle.nf_curve_def.specs.Lines as lists
use Rattle.nf_curve.specs.declared.lines.Sides.{Sides}

abbrev pub sides_of : Sides → lists.Sides
sides_of s = record { time = s.time; left = s.left; right = s.right }
