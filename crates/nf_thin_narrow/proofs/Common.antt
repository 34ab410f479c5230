-- The names that most proofs of this crate cite, passed on from one place. Declares nothing.
pub use Rattle.nf_model.specs.Entries.{Has, number_at}
pub use Rattle.nf_model.specs.Pattern.{IsBefore, IsPattern, Pattern, changes, rank}
pub use Rattle.nf_model.specs.ThinFlow.{Sets}
pub use Rattle.nf_model.specs.Walk.{Hop, IsHop}
pub use Rattle.nf_model.specs.declared.State.{State}
pub use Rattle.nf_pattern.proofs.Counting.{few_changes}
pub use Rattle.nf_pattern.proofs.Each.{entry_pushed, length_pushed, take_pushed}
pub use Rattle.nf_pattern.specs.Front.{IsListingOf}
pub use Rattle.nf_pattern.specs.Given.{AtStart, Enumerates, Given, IsLater, IsListedBy, IsNext, IsQuestion, Last, NoneLeft, Question, UpTo}
pub use Rattle.nf_rational_laws.proofs.Entries.{drop_entry, entry}
pub use Rattle.nf_rational_laws.proofs.Naturals.{before_or_at, compared}
pub use Rattle.nf_thin_def.specs.Listing.{HasPlace}
pub use Rattle.nf_thin_laws.proofs.Bases.{same_entries}
pub use Rattle.nf_thin_laws.proofs.Entrywise.{entrywise-at, entrywise-length}
pub use Rattle.nf_thin_laws.proofs.Forced.{flags_count, left_active, left_pattern, sets_count}
pub use Rattle.nf_thin_laws.proofs.Listings.{IsBefore-asymmetric}
pub use Rattle.nf_thin_laws.specs.Firm.{firm_earlier, is_in}
pub use Rattle.nf_thin_laws.specs.Forcing.{change, entrywise, filled, forced_at, forced_by, forced_state, free_state, given_state, now_resetting, sets_left}
pub use Rattle.nf_thin_laws.specs.Forcing.{still_active, unforced_of}
pub use Rattle.nf_thin_laws.specs.Ways.{AreSole, Choices, IsSole, choices_of, left_ways, states_of, ways, ways_below, ways_by, ways_earlier, ways_fewer}
pub use Rattle.nf_thin_narrow.specs.Asking.{GivenUpTo, GoesThrough, IsBehind, StandsAt}
pub use Rattle.nf_thin_narrow.specs.Firming.{firm_choices, states_of_firm}
pub use Rattle.nf_thin_narrow.specs.Rows.{CountsCapped, count_at, first_ways, most}
pub use Rattle.nf_thin_narrow.specs.declared.firm.Firm.{Firm}
pub use Rattle.std.proofs.lemmas.List.{append-nil, get_or_read, take_all}
pub use Rattle.std.proofs.lemmas.Option.{same_Some, slice_get-get_or, slice_get_within, unwrap_or-slice_get}
