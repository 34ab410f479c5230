-- The names that most proofs of this crate cite, passed on from one place. Declares nothing.
pub use Rattle.nf_frac_def.proofs.AtPart.{part_ok}
pub use Rattle.nf_frac_def.specs.Checked.{Checked, at_part, checked, fold_checked, ◌>>=◌}
pub use Rattle.nf_frac_def.specs.Passing.{Passing, passes_Q}
pub use Rattle.nf_frac_def.specs.declared.Part.TheVariants.{Advance, Extend}
pub use Rattle.nf_frac_def.specs.declared.PassedAt.{PassedAt}
pub use Rattle.nf_model.specs.Network.{ArePieces, IsLink, Link, Network, next_change}
pub use Rattle.nf_model.specs.Phases.{IsExtension, IsUnending}
pub use Rattle.nf_phase_def.specs.ToEnd.{end_after}
pub use Rattle.nf_phase_length.specs.Lengths.{after_all}
pub use Rattle.nf_rational.specs.Rational.{ℚ}
pub use Rattle.nf_thin_def.specs.Advance.{label_after}
pub use Rattle.nf_thin_def.specs.Extend.{extend_list, least_after, until_change}
pub use Rattle.nf_thin_laws.proofs.Numbered.{SoFar, all_done, one_more, one_passes}
pub use Rattle.std.proofs.lemmas.Option.{slice_get_read}
pub use Rattle.std.proofs.lemmas.Result.{err_from_is_err_and}
