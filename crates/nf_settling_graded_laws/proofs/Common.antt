-- The names that most proofs of this crate cite, passed on from one place. Declares nothing.
pub use Rattle.nf_complete_laws.proofs.Bare.{same_node}
pub use Rattle.nf_complete_laws.proofs.Deciding.{Decided, both}
pub use Rattle.nf_complete_laws.proofs.ExistsDeciding.{not_so, unless}
pub use Rattle.nf_complete_laws.proofs.Fitting.{IsAtMost-none, IsAtMost, fits_used}
pub use Rattle.nf_complete_laws.proofs.LinkSums.{sum_in-not_negative}
pub use Rattle.nf_complete_laws.proofs.Pushing.{in-pushed, pushed, pushed-cases, spare-else, spare-head, spare-tail}
pub use Rattle.nf_complete_laws.proofs.Serving.{Serves}
pub use Rattle.nf_complete_laws.proofs.Spare.{HasSpare, spare}
pub use Rattle.nf_complete_laws.specs.Oversupply.{Fits, demand}
pub use Rattle.nf_model.specs.Network.{IsLink, IsNetwork, Link, Network, hops, sum_in, sum_out}
pub use Rattle.nf_model_laws.proofs.Potential.{only_at, only_at-else, only_at-here, out_less_in, sum_to, sum_to-nn}
pub use Rattle.nf_model_laws.proofs.Sums.{HasIn, sum_in-none, sum_in-order, sum_out-none, sum_out-same}
pub use Rattle.nf_model_laws.specs.Capacity.{IsPositive}
pub use Rattle.nf_rational.specs.Operations.{0ℚ, 1ℚ, ◌*ℚ◌, ◌+ℚ◌, ◌-ℚ◌, ◌/ℚ◌}
pub use Rattle.nf_rational.specs.Order.{lt_ℚ, ◌<ℚ◌, ◌≤ℚ◌}
pub use Rattle.nf_rational.specs.Rational.{ℚ}
pub use Rattle.nf_rational_laws.proofs.Chains.{≤ℚ_refl, ≤ℚ_trans}
pub use Rattle.nf_rational_laws.proofs.Facts.{nn_of_one, zero_not_above}
pub use Rattle.nf_rational_laws.proofs.Linear.{eq, eq_times, le, le_times, linear_le, linear_lt, lt}
pub use Rattle.nf_rational_laws.proofs.Order.{<ℚ_irrefl, less_nn, lt_or_le_ℚ, nn_plus, nn_times, not_both_ℚ, ≤ℚ_antisymm, ≤ℚ_of_lt, ≤ℚ_of_same}
pub use Rattle.nf_rational_laws.proofs.Polynomial.{reading_of}
