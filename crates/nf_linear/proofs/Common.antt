-- The names that most proofs of this crate cite, passed on from one place. Declares nothing.
pub use Rattle.nf_frac_def.proofs.AtPart.{part_ok}
pub use Rattle.nf_frac_def.proofs.Each.{fold_ok, with_front}
pub use Rattle.nf_frac_def.specs.Checked.{Checked, Gives, Stops, at_part, checked, checked_at, fold_checked, seen, seen_passed_at, ◌>>=◌}
pub use Rattle.nf_frac_def.specs.Passing.{Passing, never, passes_Q}
pub use Rattle.nf_frac_def.specs.declared.Halt.{Halt}
pub use Rattle.nf_frac_def.specs.declared.Op.TheVariants.{Quotient}
pub use Rattle.nf_frac_def.specs.declared.Part.{Part}
pub use Rattle.nf_frac_def.specs.declared.PassedAt.{PassedAt}
pub use Rattle.nf_linear.specs.Grids.{IsTrueWith, values_if}
pub use Rattle.nf_linear.specs.Marks.{AreSameUnless, AreZeroUnless, Covers, IsFree, IsSubset, IsZeroUnless, spread}
pub use Rattle.nf_linear.specs.Pivots.{AreTaken, HasPivots, eliminated}
pub use Rattle.nf_linear.specs.Rows.{clear_each, clear_row, clear_unless, entry_less, meant, some_from}
pub use Rattle.nf_linear.specs.Solved.{IsTrueOf, values_of}
pub use Rattle.nf_linear.specs.declared.solution.Eliminated.{Eliminated}
pub use Rattle.nf_linear_def.specs.Table.{Row, clear_rows, cleared_row, eliminate_at, eliminate_column, eliminate_from, entries_less, if_some, less_unless}
pub use Rattle.nf_linear_def.specs.Table.{pivot_from, pivot_of, row_at, solution_from, solution_of, table_list}
pub use Rattle.nf_linear_laws.proofs.Exact.{rows_as, table_list_under}
pub use Rattle.nf_linear_laws.proofs.Pivots.{IsPivot, is_pivot, is_zero-at, some_tested}
pub use Rattle.nf_linear_laws.specs.Solution.{IsOnlySolution, IsSquare}
pub use Rattle.nf_model.specs.Entries.{number_at}
pub use Rattle.nf_rational.specs.Operations.{0ℚ}
pub use Rattle.nf_rational.specs.Rational.{ℚ}
pub use Rattle.nf_rational.specs.Signs.{is_zero}
pub use Rattle.nf_rational_laws.proofs.Results.{same_Ok}
pub use Rattle.std.proofs.Math.Bool.{or-false, or-true}
pub use Rattle.std.proofs.Math.ListN.{drop_of_length-le, length-map, length-set}
pub use Rattle.std.proofs.Math.Nat.{eq-or-lt_of_le, le-max_left, le-max_right, lt_of_lt_of_le, min-eq_right}
pub use Rattle.std.proofs.Math.Seq.{drop-cons, take-append_seam}
pub use Rattle.std.proofs.lemmas.Bool.{cases_eq, cases_lt, false≢true}
pub use Rattle.std.proofs.lemmas.List.{append-nil, drop_more, get_or-replicate, get_or-set_other, get_or-set_same, length-replicate, map-append, map-id}
pub use Rattle.std.proofs.lemmas.List.{map-set, take_all, take_at, take_more_set}
pub use Rattle.std.proofs.lemmas.Nat.Bits.{bit_at-lt, bit_at-trailing_zeros, bit_at-zero, bit_at_and, bit_at_cat_high, bit_at_ones, bit_at_or}
pub use Rattle.std.proofs.lemmas.Nat.Bits.{bit_at_set_same}
pub use Rattle.std.proofs.lemmas.Result.{IfOk-from_err, err_from_is_err_and}
pub use Rattle.std.specs.Int.{bit_at, rotate_right, trailing_zeros, w64}
pub use Rattle.std.specs.Int.RustNames.{bit_or}
pub use Rattle.std.specs.List.{AllByRecursion, list_any}
