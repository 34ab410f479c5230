-- The names that most proofs of this crate cite, passed on from one place. Declares nothing.
pub use Rattle.nf_check.specs.Given.{AreWhole, IsGivenFlow}
pub use Rattle.nf_check_def.specs.CheckList.{arrivals, inflow_rule, label_cut, link_rates, loading, trial}
pub use Rattle.nf_check_def.specs.PointRules.{negative_point}
pub use Rattle.nf_check_def.specs.Rules.{Checks, numbers_of_links, numbers_of_nodes}
pub use Rattle.nf_check_def.specs.Trial.{Breaks, Passes, Trial, answer_of, unless}
pub use Rattle.nf_check_def.specs.declared.CheckRule.TheVariants.{C1, C3}
pub use Rattle.nf_check_def.specs.declared.Subject.TheVariants.{Node}
pub use Rattle.nf_check_rules.proofs.ByNumber.{curves_more, next_curve, next_trace}
pub use Rattle.nf_check_rules.proofs.Known.{inflows_known, label_cut_whole, labels_in_number, worked_known}
pub use Rattle.nf_check_rules.proofs.Looping.{FrontBelow, LeftBut, but_ends, but_goes, but_skips, is_one, is_other, kept_ends, kept_first, kept_goes}
pub use Rattle.nf_check_rules.proofs.Looping.{kept_last, link_there}
pub use Rattle.nf_check_rules.proofs.Testing.{arrivals-is, labels_end, tested-is}
pub use Rattle.nf_check_rules.proofs.Trying.{ends, ends_as, goes_on, part_goes, part_stops, tries_as, tries_map}
pub use Rattle.nf_check_rules.specs.Kept.{loadings_of, points_of_each}
pub use Rattle.nf_check_rules.specs.Steps.{arrivals_list, balances_list, compared_by, compared_list, tested_list, told_list, worked_list}
pub use Rattle.nf_check_rules.specs.Trials.{done}
pub use Rattle.nf_check_rules.specs.Views.{flow_in, in_view, labels_in, loaded_in}
pub use Rattle.nf_curve.specs.Flows.{seen_flow, seen_trace}
pub use Rattle.nf_curve.specs.Points.{Grown}
pub use Rattle.nf_curve_def.specs.Values.{checked_cut}
pub use Rattle.nf_frac_def.specs.Checked.{Gives, each}
pub use Rattle.nf_frac_def.specs.Passing.{Passing, passes_Q}
pub use Rattle.nf_frac_def.specs.declared.Part.TheVariants.{Check}
pub use Rattle.nf_load.specs.declared.loading.Loaded.{Loaded}
pub use Rattle.nf_model.specs.Curve.{IsCurve, Point}
pub use Rattle.nf_model.specs.Equilibrium.{AreCurves, Flow, points_at, points_of}
pub use Rattle.nf_rational.specs.Operations.{0ℚ}
pub use Rattle.nf_rational.specs.Order.{lt_ℚ, ◌≤ℚ◌}
pub use Rattle.nf_rational.specs.Rational.{ℚ}
pub use Rattle.std.proofs.lemmas.List.{at_drop_all, length-map, map-append, take_all}
pub use Rattle.std.proofs.lemmas.Result.{err_from_is_err_and}
