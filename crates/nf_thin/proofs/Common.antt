-- The names that most proofs of this crate cite, passed on from one place. Declares nothing.
pub use Rattle.nf_frac_def.specs.Passing.{Passing, passes_Q}
pub use Rattle.nf_graph.proofs.NetworkHops.{below_nodes, hops_length, unbounded_length}
pub use Rattle.nf_model.specs.Network.{IsNetwork, Network, hops, unbounded}
pub use Rattle.nf_model.specs.Pattern.{IsBefore, IsListedIn, IsPattern, IsSolution, IsSolvable, Pattern}
pub use Rattle.nf_model.specs.ThinFlow.{IsThinFlow, Sets}
pub use Rattle.nf_model.specs.Walk.{Hop}
pub use Rattle.nf_pattern.proofs.Deciding.{has_listing}
pub use Rattle.nf_pattern.specs.Front.{IsListingOf}
pub use Rattle.nf_pattern.specs.Given.{AtStart, Enumerates, Given, IsLater, IsListedBy, IsNext, IsQuestion, Last, NoneLeft, Question, UpTo}
pub use Rattle.nf_rational.specs.Rational.{ℚ}
pub use Rattle.nf_rational_laws.proofs.Naturals.{before_or_at}
pub use Rattle.nf_thin.specs.Finding.{Finds, FindsAt, FindsBy, NarrowFinds}
pub use Rattle.nf_thin.specs.FirstPassing.{or_first, search_fault}
pub use Rattle.nf_thin.specs.Knowing.{IsKnown}
pub use Rattle.nf_thin.specs.Searching.{InVain, IsFound, Noted, Searches, SlopesAreOnly, TriesNext}
pub use Rattle.nf_thin.specs.Sifting.{Guides, SiftsNext}
pub use Rattle.nf_thin.specs.Slopes.{AreSlopesOfListed, AreThinSlopes}
pub use Rattle.nf_thin.specs.declared.fault.SearchFault.{SearchFault}
pub use Rattle.nf_thin.specs.declared.vain.Vain.{Vain}
pub use Rattle.nf_thin_balance.specs.Scaled.{IsScaled}
pub use Rattle.nf_thin_def.specs.Accepted.{IsAccepted, pattern_lists}
pub use Rattle.nf_thin_def.specs.Search.{Answers, Found, IsFirstPassing, IsInVain, IsOverBudget, IsSearch, NoPattern, NoneAcceptedBefore, OverBudget}
pub use Rattle.nf_thin_def.specs.Search.{PassesAt, SearchAnswer}
pub use Rattle.nf_thin_equation_laws.specs.Equations.{IsPatternIn}
pub use Rattle.nf_thin_laws.proofs.Accepted.{IsThinFlow-accepted}
pub use Rattle.nf_thin_laws.proofs.Forced.{filled_listed, flags_count, left_count, left_pattern, sets_count}
pub use Rattle.nf_thin_laws.specs.ActiveLinks.{AreSets, HoldNoCycle, IsActiveWalk}
pub use Rattle.nf_thin_laws.specs.Forcing.{HasForced, IsForcing, filled, forced_by}
pub use Rattle.nf_thin_laws.specs.NarrowLaws.{Narrows, NoneFilledBefore}
pub use Rattle.nf_thin_narrow.proofs.Places.{given_all, given_next}
pub use Rattle.nf_thin_narrow.specs.Asking.{GivenUpTo, StandsAt, StandsWithin, question_left}
pub use Rattle.nf_thin_one.specs.Trying.{IsCopy, TriesOne}
pub use Rattle.nf_thin_one.specs.declared.thin.ThinFlow.{ThinFlow}
pub use Rattle.nf_thin_rank.proofs.Posed.{posed_pattern, posed_question}
pub use Rattle.nf_thin_rank.specs.Keeping.{IsInStep, StaysBehind, TellsStanding, walk_of}
pub use Rattle.nf_thin_rank.specs.Questions.{AreSetsOf, AsksOf, question_of}
pub use Rattle.std.proofs.lemmas.Option.{none-some, same_Some, slice_get_within}
pub use Rattle.std.proofs.lemmas.Result.{err_from_is_err_and}
