-- The names that most proofs of this crate cite, passed on from one place. Declares nothing.
pub use Rattle.nf_graph.proofs.Flags.{Has-not_unset, Has-replicate, Has-set_cases, Has-set_other, Has-set_same}
pub use Rattle.nf_graph.proofs.Walks.{IsHop-read, IsHop-unique, apart_from_test, same_from_test}
pub use Rattle.nf_graph.specs.Graph.{AreBelow}
pub use Rattle.nf_model.specs.Entries.{Has}
pub use Rattle.nf_model.specs.Pattern.{AllDiffer, HasState, IsBase, IsBefore, IsEarlier, IsFirstInto, IsForest, IsPattern, IsTrail, NeedsState, Pattern}
pub use Rattle.nf_model.specs.Pattern.{changes, rank}
pub use Rattle.nf_model.specs.ThinFlow.{Sets}
pub use Rattle.nf_model.specs.Walk.{Hop, IsHop}
pub use Rattle.nf_model.specs.declared.State.{State}
pub use Rattle.nf_model.specs.declared.State.TheVariants.{Full, Tight, Zero}
pub use Rattle.nf_pattern.specs.Base.{AreBarred, AreEntered, Bars, IsBaseState}
pub use Rattle.nf_pattern.specs.Entered.{AreChained, AreEnds, AreEndsBefore, AreLastInto, CanCarry, DoEndsCarry, EnteredBefore, EntersBy, IsEndBefore}
pub use Rattle.nf_pattern.specs.Entered.{IsEntered, IsLastInto, IsLost, KeepsEntered, LeadsTo, MayCarry, Strands}
pub use Rattle.nf_pattern.specs.Firm.{AreCalm, AreJointlyAcyclic, FirmBefore}
pub use Rattle.nf_pattern.specs.Forest.{AreJoined, Closes, LeadsBack, NoneCloses, TightBefore}
pub use Rattle.nf_pattern.specs.Front.{AreGiven, GivenAreFronts, IsListingOf}
pub use Rattle.nf_pattern.specs.Given.{AtStart, Enumerates, Given, IsBarren, IsFirstFrom, IsFrom, IsListedBy, IsNext, IsQuestion, Last, NoneFrom, NoneLeft}
pub use Rattle.nf_pattern.specs.Given.{Question, UpTo, next_place}
pub use Rattle.nf_pattern.specs.Sole.{AllEnterAlone, AreSpared, EntersAlone}
pub use Rattle.nf_pattern.specs.Stands.{IsPlaced, IsStanding, last_of}
pub use Rattle.nf_pattern.specs.Stated.{AreIdle, AreStated, IsLastTo, IsNextFrom}
pub use Rattle.nf_pattern.specs.Successor.{IsAssignment, IsIn, IsQuiet, IsSameBefore, RaisesAt, Spares, before_all, change, choices, earliest, first_good}
pub use Rattle.nf_pattern.specs.Successor.{fits_count, free, later, may_raise, next_assignment, or_else, raised, raised_at, with_rest}
pub use Rattle.nf_pattern.specs.Trail.{Follows, IsLeftBy, IsOnWay, IsTrailOf}
pub use Rattle.nf_pattern.specs.Walking.{GoesBy, IsPlace, IsTightStack, IsWalkable, Path, across, ends_at, ends_by, is_tight, last_at, other_end}
pub use Rattle.nf_pattern.specs.declared.assignments.Quiet.{Quiet}
pub use Rattle.nf_pattern.specs.declared.firm.FirmLinks.{FirmLinks}
pub use Rattle.nf_pattern.specs.declared.question.Stand.TheVariants.{End, Listed, Start}
pub use Rattle.nf_pattern.specs.declared.stated.StatedLinks.{StatedLinks}
pub use Rattle.nf_pattern.specs.declared.trail.Trail.{Trail}
pub use Rattle.nf_rational.specs.Operations.{0ℚ}
pub use Rattle.nf_rational_laws.proofs.Entries.{slice_get-replicate, take_set}
pub use Rattle.nf_rational_laws.proofs.Naturals.{before_or_at, compared}
pub use Rattle.nf_thin_laws.proofs.BaseFirst.{changes-self, none_before}
pub use Rattle.nf_thin_laws.proofs.Bases.{has_or_not, state_is}
pub use Rattle.nf_thin_laws.proofs.ForcedOrder.{changes_first}
pub use Rattle.nf_thin_laws.proofs.Listings.{IsBefore-asymmetric, IsBefore-transitive, ordered_by_place}
pub use Rattle.nf_thin_laws.proofs.Sorted.{InOrder, StandsIn}
pub use Rattle.nf_thin_laws.proofs.Unranking.{same_rank}
pub use Rattle.std.proofs.Math.ListN.{drop_of_length-le, length-set}
pub use Rattle.std.proofs.lemmas.Bool.{and_parts, cases_eq, ne_eqb}
pub use Rattle.std.proofs.lemmas.Bool.Decides.{eqb_tells, leb_tells}
pub use Rattle.std.proofs.lemmas.List.{append-nil, drop-drop, length-replicate, length-take-le, take-take, take_all, take_rest, with_items_is}
pub use Rattle.std.proofs.lemmas.Option.{none-some, same_Some, slice_get-get_or, slice_get_read, slice_get_within}
