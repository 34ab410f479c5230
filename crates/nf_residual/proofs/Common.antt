-- The names that most proofs of this crate cite, passed on from one place. Declares nothing.
pub use Rattle.nf_frac.proofs.Bits.{bits_of, cast_plain, plain}
pub use Rattle.nf_frac.proofs.Comparisons.{gt-cmp, lt-cmp}
pub use Rattle.nf_frac_def.proofs.AtPart.{part_ok}
pub use Rattle.nf_frac_def.proofs.Binding.{bind_ok, bind_same}
pub use Rattle.nf_frac_def.proofs.Each.{fold_ok}
pub use Rattle.nf_frac_def.specs.Checked.{Checked, Gives, Stops, at_part, checked, checked_at, fold_checked, seen_passed_at, ◌>>=◌}
pub use Rattle.nf_frac_def.specs.Passing.{Passing, bound_of, passes_Q}
pub use Rattle.nf_frac_def.specs.declared.Halt.{Halt}
pub use Rattle.nf_frac_def.specs.declared.Part.{Part}
pub use Rattle.nf_frac_def.specs.declared.PassedAt.{PassedAt}
pub use Rattle.nf_model.specs.Entries.{number_at}
pub use Rattle.nf_model.specs.Network.{IsNetwork, Link, Network}
pub use Rattle.nf_quick_def.specs.Answers.{AreLeastLengths, IsShortest, IsShortestWalk}
pub use Rattle.nf_quick_def.specs.Flows.{IsSound}
pub use Rattle.nf_quick_def.specs.Order.{AreFewerOrFirst, AreFirst, IsAtMost, Reach, are_before, are_fewer_or_before, is_better}
pub use Rattle.nf_quick_def.specs.Pushes.{push_step}
pub use Rattle.nf_quick_def.specs.Rounds.{Known, Walk, along, along_step, better_of, first_known, known_at, offered, op_of, reaches_list, room_after}
pub use Rattle.nf_quick_def.specs.Rounds.{round_list, rounds_list, steps_from, with_room}
pub use Rattle.nf_quick_def.specs.Steps.{IsLimited, IsResidualWalk, Step, begin_of, can_go, end_of, place}
pub use Rattle.nf_quick_laws.proofs.Offers.{better-old, known_at-set}
pub use Rattle.nf_quick_laws.proofs.Orders.{IsAtMost-refl, IsAtMost-trans, is_better-false, is_better-true, lt_tells}
pub use Rattle.nf_quick_laws.proofs.Pushes.{IsPush-list, links_within}
pub use Rattle.nf_quick_laws.specs.ResidualLaws.{IsFoundAt, IsPush}
pub use Rattle.nf_rational.specs.Operations.{0ℚ, neg_ℚ, whole, ◌+ℚ◌, ◌/ℚ◌}
pub use Rattle.nf_rational.specs.Order.{cmp_ℚ, lt_ℚ, ◌<ℚ◌, ◌≤ℚ◌}
pub use Rattle.nf_rational.specs.Rational.{same_parts, ℚ}
pub use Rattle.nf_rational_laws.proofs.Order.{times_one, zero_den, zero_num}
pub use Rattle.nf_rational_laws.proofs.Results.{not_both, same_Ok}
pub use Rattle.nf_residual.specs.Chains.{AreChains, IsNextOut, legs_out}
pub use Rattle.nf_residual.specs.Legs.{AreLegs, AreSettled, GivesBy, StopsBy, along_leg, leg_of, legs_from}
pub use Rattle.nf_residual.specs.Lengths.{IsExactStep, IsHeldWhole, along_by, longest_whole, measured}
pub use Rattle.nf_residual.specs.Ways.{ArePathsBelow, Grows, IsPathTree, Places, extended_by, first_places, first_twig, gains, known_by, one_before}
pub use Rattle.nf_residual.specs.Ways.{place_at, steps_back, twig_after, twig_at, way_at}
pub use Rattle.nf_residual.specs.declared.legs.Leg.{Leg}
pub use Rattle.nf_residual.specs.declared.ways.Twig.{Twig}
pub use Rattle.std.proofs.lemmas.Bool.Decides.{eqb_tells}
pub use Rattle.std.proofs.lemmas.List.{drop_all, drop_more, get_or-replicate, get_or-set_other, get_or-set_same, length-map, length-replicate, length-set}
pub use Rattle.std.proofs.lemmas.List.{length_push, map-append, map-set, reverse-append, take_all, take_more}
pub use Rattle.std.proofs.lemmas.Option.{get_or_from_slice_get, slice_get_read, slice_get_within, unwrap_or-slice_get}
pub use Rattle.std.proofs.lemmas.Result.{IfOk-from_err, err_from_is_err_and}
pub use Rattle.std.specs.List.{AllByRecursion}
pub use Rattle.std.specs.Ordering.{int_cmp, is_gt, is_lt, partial_lt}
