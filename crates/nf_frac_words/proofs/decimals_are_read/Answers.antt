use Rattle.std.proofs.Common.{refl, ap}
use Rattle.std.specs.Prelude.{Ok}
use Rattle.nf_rational.specs.Rational.{same_parts, ratio}
use Rattle.nf_rational.specs.Gcd.{gcd}
use Rattle.nf_frac_words.specs.Numbers.{decimal_of, decimal_parts_of, parts_of}
use Rattle.nf_frac_words.proofs.decimals_are_read.Goals as goal

pub returns : goal.returns
unfolding decimal_of decimal_parts_of parts_of ratio gcd
returns c = record {
  half = ap Ok (same_parts _ _ refl refl);
  negative = ap Ok (same_parts _ _ refl refl);
  fraction = ap Ok (same_parts _ _ refl refl);
  nothing_before = refl;
  nothing_after = refl;
  point_and_slash = refl;
  two_points = refl;
}
