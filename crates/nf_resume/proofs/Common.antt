-- The names that most proofs of this crate cite, passed on from one place. Declares nothing.
pub use Rattle.nf_curve.proofs.Exits.{after_err, after_ok, each_ends, each_goes, each_stops, front_ends, front_err, front_more, stops_on, was_ok}
pub use Rattle.nf_curve.specs.Flows.{seen_flow, seen_trace}
pub use Rattle.nf_curve.specs.Points.{Grown}
pub use Rattle.nf_curve.specs.declared.flow.Trace.{Trace}
pub use Rattle.nf_curve_def.specs.Short.{checked_short, checked_slopes}
pub use Rattle.nf_frac_def.proofs.Each.{each_length, no_front, with_front}
pub use Rattle.nf_frac_def.specs.Checked.{Checked, Stops, at_part, each, ◌>>=◌}
pub use Rattle.nf_frac_def.specs.Passing.{Passing, passes_Q}
pub use Rattle.nf_frac_def.specs.declared.Halt.{Halt}
pub use Rattle.nf_frac_def.specs.declared.Part.{Part}
pub use Rattle.nf_frac_def.specs.declared.PassedAt.{PassedAt}
pub use Rattle.nf_model.specs.Curve.{Point}
pub use Rattle.nf_model.specs.Equilibrium.{Equilibrium, Flow, points_at}
pub use Rattle.nf_model.specs.Network.{IsNetwork, Link, Network}
pub use Rattle.nf_model.specs.Pattern.{Pattern}
pub use Rattle.nf_phase.specs.Solution.{IsFinished, bounds_of, solution_report}
pub use Rattle.nf_phase_def.specs.Restoring.{NoneFull, restore_list, value_at_end}
pub use Rattle.nf_rational.specs.Operations.{0ℚ}
pub use Rattle.nf_rational.specs.Order.{lt_ℚ, ◌<ℚ◌, ◌≤ℚ◌}
pub use Rattle.nf_rational.specs.Rational.{ℚ}
pub use Rattle.nf_rational_laws.proofs.Entries.{drop_next, entry, slice_get-image}
pub use Rattle.nf_report_read.specs.Files.{seen_report}
pub use Rattle.nf_resume.specs.Cuts.{AreLists, cut_ends, cut_in, points_of_each}
pub use Rattle.nf_resume.specs.Faults.{IsCauseAtAnyHorizon, IsRefusedReport, IsResumeFault, of_halt}
pub use Rattle.nf_resume.specs.declared.links.CutLink.{CutLink}
pub use Rattle.nf_resume_def.specs.Resuming.{OfLink, Stands, after_check, cut_flow, cut_flow_of, cut_link, cut_short, cut_trace, links_with}
pub use Rattle.nf_resume_laws.proofs.CutFlow.{cut_flow-is, end-nn, links_with-at, links_with-length, of_link}
pub use Rattle.nf_thin_def.specs.PhaseRun.{Bounds, Standing}
pub use Rattle.std.proofs.lemmas.List.{drop_all, length-map, map-append}
pub use Rattle.std.proofs.lemmas.Result.{err_from_is_err_and}
