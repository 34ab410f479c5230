use Rattle.nf_rational_laws.proofs.Field.{+ℚ_assoc, +ℚ_comm, +ℚ_idl, -ℚ_is, *ℚ_assoc, *ℚ_comm, one-*ℚ, *ℚ-+ℚ, whole-plus, whole-times}
use Rattle.nf_rational_laws.proofs.Facts.{less_itself}
use Rattle.nf_rational_laws.proofs.ring_laws.Goals as goal

pub returns : goal.returns
returns c = record {
  plus_assoc = +ℚ_assoc;
  plus_comm = +ℚ_comm;
  zero_plus = +ℚ_idl;
  minus_self = less_itself;
  minus_is = -ℚ_is;
  times_assoc = *ℚ_assoc;
  times_comm = *ℚ_comm;
  one_times = one-*ℚ;
  times_plus = *ℚ-+ℚ;
  whole_plus = whole-plus;
  whole_times = whole-times;
}
