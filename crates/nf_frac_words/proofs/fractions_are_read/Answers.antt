use Rattle.std.proofs.Common.{refl, ap}
use Rattle.std.specs.Prelude.{Ok}
use Rattle.nf_rational.specs.Rational.{same_parts, ratio}
use Rattle.nf_rational.specs.Gcd.{gcd}
use Rattle.nf_frac_words.specs.Numbers.{number_of, parts_of}
use Rattle.nf_frac_words.proofs.fractions_are_read.Goals as goal

pub returns : goal.returns
unfolding number_of parts_of ratio gcd
returns c = record {
  reduced = ap Ok (same_parts _ _ refl refl);
  negative_zero = ap Ok (same_parts _ _ refl refl);
  leading_zeros = ap Ok (same_parts _ _ refl refl);
  empty = refl;
  empty_denominator = refl;
  plus = refl;
  with_point = refl;
  zero_denominator = refl;
  within = refl;
  beyond = refl;
}
