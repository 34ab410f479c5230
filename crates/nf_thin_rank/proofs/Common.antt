-- The names that most proofs of this crate cite, passed on from one place. Declares nothing.
pub use Rattle.nf_graph.proofs.NetworkHops.{below_nodes, hops_length, unbounded_length}
pub use Rattle.nf_model.specs.Network.{IsNetwork, Link, Network, hop_of, hops, unbounded}
pub use Rattle.nf_model.specs.Pattern.{HasState, IsListed, IsListedIn, IsPattern, Pattern, rank}
pub use Rattle.nf_model.specs.ThinFlow.{Sets}
pub use Rattle.nf_model.specs.Walk.{Hop, IsHop}
pub use Rattle.nf_model.specs.declared.State.{State}
pub use Rattle.nf_model.specs.declared.State.TheVariants.{Full, Tight, Zero}
pub use Rattle.nf_net.proofs.Limits.{few_hops, few_nodes}
pub use Rattle.nf_pattern.proofs.Each.{EachEntry, each_pushed, length_pushed, take_front, take_pushed}
pub use Rattle.nf_pattern.specs.Front.{IsListingOf}
pub use Rattle.nf_pattern.specs.Given.{Enumerates, Given, IsListedBy, IsQuestion, Question}
pub use Rattle.nf_rational_laws.proofs.Entries.{entry, slice_get-image}
pub use Rattle.nf_thin_def.specs.Listing.{HasPlace, IsListing}
pub use Rattle.nf_thin_equation_laws.specs.Equations.{IsPatternIn}
pub use Rattle.nf_thin_guess.proofs.Flags.{none_flag}
pub use Rattle.nf_thin_laws.specs.Firm.{AllAscend, IsKeeper, choices_by, firm_before, if_allowed, is_in}
pub use Rattle.nf_thin_laws.specs.Ways.{AreIn, AreSole, Choices, IsIn, choices_of, ways_before}
pub use Rattle.nf_thin_narrow.proofs.Going.{from_start}
pub use Rattle.nf_thin_narrow.specs.Asking.{IsBehind, StandsAt, StandsWithin}
pub use Rattle.nf_thin_narrow.specs.Rows.{most}
pub use Rattle.nf_thin_narrow.specs.declared.firm.Firm.{Firm}
pub use Rattle.nf_thin_rank.specs.Families.{CountsBefore, CountsOther, IsByOther, IsSpare}
pub use Rattle.nf_thin_rank.specs.Firming.{AreFirmBy, AreKeepers, HaveFirm, IsFirmOf, MayKeep}
pub use Rattle.nf_thin_rank.specs.Posing.{IsPosed, question_in}
pub use Rattle.nf_thin_rank.specs.Questions.{AreSetsOf, AsksOf, question_of}
pub use Rattle.std.proofs.lemmas.Bool.{false≢true, true≢false}
pub use Rattle.std.proofs.lemmas.Bool.Decides.{eqb_tells, leb_tells}
pub use Rattle.std.proofs.lemmas.Option.{get_or_from_slice_get, none-some, same_Some, slice_get-map, slice_get_within}
pub use Rattle.std.proofs.lemmas.Result.{IfOk-weaker}
