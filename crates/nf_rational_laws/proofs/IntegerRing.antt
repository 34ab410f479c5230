-- The integers as a ring.
use Rattle.std.proofs.Common.{refl}
use lib.IntN.{ℤ, pos, ◌+ℤ◌, ◌-ℤ◌, ◌*ℤ◌, neg_ℤ, +ℤ_assoc, +ℤ_comm, +ℤ_idl, *ℤ_comm, zero-*ℤ}
use Rattle.nf_rational_laws.proofs.Ints.{*ℤ_assoc, *ℤ-+ℤ, one-*ℤ, neg_ℤ-is, same_from-sub}
use Rattle.nf_rational_laws.proofs.Polynomial.{Ring}

abbrev pub ints_ring : Ring
ints_ring = record {
  carrier = ℤ;
  nil = pos 0;
  unit = pos 1;
  plus = ◌+ℤ◌;
  times = ◌*ℤ◌;
  minus = neg_ℤ;
  less = ◌-ℤ◌;
  of = λ z. z;
  plus_assoc = +ℤ_assoc;
  plus_comm = +ℤ_comm;
  nil_plus = +ℤ_idl;
  times_assoc = *ℤ_assoc;
  times_comm = *ℤ_comm;
  unit_times = one-*ℤ;
  nil_times = zero-*ℤ;
  times_plus = *ℤ-+ℤ;
  of_nil = refl;
  of_unit = refl;
  of_plus = λ a b. refl;
  of_times = λ a b. refl;
  minus_is = neg_ℤ-is;
  less_is = λ a b. refl;
  same = same_from-sub;
}
