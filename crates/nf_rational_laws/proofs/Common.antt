-- The names that most proofs of this crate cite, passed on from one place. Declares nothing.
pub use Rattle.nf_rational.proofs.Lowest.{den-ratio, num-ratio, parts_ratio}
pub use Rattle.nf_rational.specs.Gcd.{IsGcd-gcd, IsGcd-scaled, gcd}
pub use Rattle.nf_rational.specs.Operations.{0ℚ, 1ℚ, inv_ℚ, neg_ℚ, signed_as, whole, ◌*ℚ◌, ◌+ℚ◌, ◌-ℚ◌}
pub use Rattle.nf_rational.specs.Order.{le_ℚ, lt_ℚ, max_ℚ, min_ℚ, ◌<ℚ◌, ◌≤ℚ◌}
pub use Rattle.nf_rational.specs.Rational.{abs_quot, part_pos, parts_reduced, ratio, same_parts, ℚ}
pub use Rattle.std.proofs.lemmas.Bool.{and_from, and_parts, not-false, not-true}
pub use Rattle.std.proofs.lemmas.Nat.Gcd.{IsGcd-swap, same_from_IsGcd}
pub use Rattle.std.specs.Int.{IsGcd}
