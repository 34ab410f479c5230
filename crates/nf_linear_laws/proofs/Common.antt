-- The names that most proofs of this crate cite, passed on from one place. Declares nothing.
pub use Rattle.nf_frac_def.specs.Checked.{Checked, ◌>>=◌}
pub use Rattle.nf_frac_def.specs.Passing.{Passing, never}
pub use Rattle.nf_frac_def.specs.declared.Op.TheVariants.{Difference, Product, Quotient}
pub use Rattle.nf_linear_def.specs.Table.{Eliminated, Row, clear_rows, clear_unless, cleared_row, eliminate_at, eliminate_from, entries_less, if_some}
pub use Rattle.nf_linear_def.specs.Table.{less_unless, pivot_from, pivot_of, row_at, solution_from, solution_of, table_list}
pub use Rattle.nf_linear_laws.specs.Solution.{IsOnlySolution, IsSquare, SolvesRows, left_side}
pub use Rattle.nf_linear_laws.specs.Systems.{AtMost, Form, HoldsAt, MeetsAll, form_value}
pub use Rattle.nf_model.specs.Entries.{number_at}
pub use Rattle.nf_rational.specs.Operations.{0ℚ, 1ℚ, inv_ℚ, ◌*ℚ◌, ◌+ℚ◌, ◌-ℚ◌, ◌/ℚ◌}
pub use Rattle.nf_rational.specs.Order.{◌<ℚ◌, ◌≤ℚ◌}
pub use Rattle.nf_rational.specs.Rational.{ℚ}
pub use Rattle.nf_rational.specs.Signs.{is_zero}
pub use Rattle.nf_rational_laws.proofs.Chains.{≤ℚ_refl, ≤ℚ_trans}
pub use Rattle.nf_rational_laws.proofs.Facts.{both_are_zero, negated_ps, same_terms, second_is_zero, sum_of_sum, times_first_zero, times_second_zero}
pub use Rattle.nf_rational_laws.proofs.Facts.{zero_of_times_zero}
pub use Rattle.nf_rational_laws.proofs.Field.{*ℚ_comm, +ℚ_idl, rationals, zero-*ℚ}
pub use Rattle.nf_rational_laws.proofs.Linear.{eq, eq_times, le, le_times, linear_eq, linear_le, linear_lt}
pub use Rattle.nf_rational_laws.proofs.Order.{lt_or_le_ℚ, not_both_ℚ, ps_whole, ≤ℚ_antisymm, ≤ℚ_of_lt, ≤ℚ_of_same}
pub use Rattle.nf_rational_laws.proofs.Polynomial.{reading, reading_of, ring}
pub use Rattle.nf_rational_laws.proofs.Quotient.{/ℚ-times, /ℚ-unique, ps_apart, ps_inv, ps_times_inv}
pub use Rattle.nf_rational_laws.proofs.SignTests.{zero_of_test}
pub use Rattle.nf_rational_laws.proofs.Signs.{first_is_zero, times_one, times_zero}
pub use Rattle.std.proofs.lemmas.Bool.{eq-eqb, eqb-true, ne_eqb}
pub use Rattle.std.proofs.lemmas.Bool.Decides.{eqb_tells, leb_tells}
