-- The names that most proofs of this crate cite, passed on from one place. Declares nothing.
pub use Rattle.nf_frac.specs.Narrow.{narrow_in, narrow_out, neither, none_of, not_lower}
pub use Rattle.nf_frac.specs.Order.{same_ℚ}
pub use Rattle.nf_frac.specs.Parts.{InForm, IsMade, IsWithin, SumFits, greatest, signed}
pub use Rattle.nf_frac.specs.Short.{AreShortParts, AreSmall, short, short_back}
pub use Rattle.nf_frac.specs.Total.{cmp_matches_same, ranks_ℚ, same_decides}
pub use Rattle.nf_frac_def.specs.Passing.{bound_of, is_wide, passes_Q, sum_is_wide}
pub use Rattle.nf_rational.proofs.Lowest.{den-ratio, num-ratio, over_one, parts_ratio, quot_one}
pub use Rattle.nf_rational.specs.Gcd.{IsGcd-gcd, IsGcd-scaled, gcd}
pub use Rattle.nf_rational.specs.Operations.{0ℚ, inv_ℚ, neg_ℚ, signed_as, ◌*ℚ◌, ◌+ℚ◌, ◌/ℚ◌}
pub use Rattle.nf_rational.specs.Order.{cmp_ℚ, le_ℚ, ◌<ℚ◌}
pub use Rattle.nf_rational.specs.Rational.{abs_quot, gcd_pos, part_pos, parts_reduced, ratio, ℚ}
pub use Rattle.nf_rational_laws.proofs.Ints.{abs-mul, abs-neg, le-times, lt-times, pos_in}
pub use Rattle.nf_rational_laws.proofs.Lowest.{gcd-le, plus_over_lcm}
pub use Rattle.nf_rational_laws.proofs.Order.{times_one, ≤ℚ_of_lt, ≤ℚ_of_same}
pub use Rattle.nf_rational_laws.proofs.Products.{abs-product, apart_parts, apart_product, den_times, divides, lowest_parts, num_times, split_dvd}
pub use Rattle.nf_rational_laws.proofs.Quotient.{/ℚ-unique, abs_positive, num_zero}
pub use Rattle.std.proofs.Math.Nat.{div_self, le_refl, le_trans, mod-eq_of_lt, pow-suc}
pub use Rattle.std.proofs.lemmas.Nat.{mul-le, pow-add}
pub use Rattle.std.proofs.lemmas.Nat.Gcd.{IsGcd-from_mod, IsGcd-from_sub, IsGcd-from_zero, IsGcd-swap, dvd_of_mod-eq-zero, dvd_refl, same_from_IsGcd}
pub use Rattle.std.specs.Bool.{Decides, one_answer}
pub use Rattle.std.specs.Cmp.{int_cmp_is, int_ranks, signed_Decides}
pub use Rattle.std.specs.Int.{IsGcd, bit_at, trailing_zeros}
pub use Rattle.std.specs.Ordering.{MatchOrdering, int_cmp, int_eq, is_eq, is_ge, is_gt, is_le, is_lt, is_some_and, nat_cmp, partial_le, partial_lt}
pub use Rattle.std.specs.declared.cmp.Ordering.{Ordering}
