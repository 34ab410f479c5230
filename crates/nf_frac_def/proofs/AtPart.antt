-- A computation, and the same one with the part of the work in which an operation passes.
use Rattle.std.specs.Prelude.{◌≡◌, Result, Ok, Err}
use Rattle.nf_rational.specs.Rational.{ℚ}
use Rattle.nf_frac_def.specs.declared.Part.{Part}
use Rattle.nf_frac_def.specs.declared.Passed.{Passed}
use Rattle.nf_frac_def.specs.Checked.{at_part}

-- Both have the same value.
pub part_ok : {A : Type 0} (part : Part) (r : Result A (Passed ℚ)) (x : A) → Ok x ≡ at_part part r → r ≡ Ok x
part_ok part (Ok y) x e = cc
part_ok part (Err q) x e = absurd (cc)
