-- The names that most proofs of this crate cite, passed on from one place. Declares nothing.
pub use Rattle.nf_model.specs.Entries.{Has}
pub use Rattle.nf_model.specs.Network.{IsLink, Link, Network, unbounded}
pub use Rattle.nf_model.specs.Pattern.{HasState, IsPattern, NeedsState, Pattern}
pub use Rattle.nf_model.specs.ThinFlow.{Sets}
pub use Rattle.nf_model.specs.declared.State.{State}
pub use Rattle.nf_model.specs.declared.State.TheVariants.{Full}
pub use Rattle.nf_rational.specs.Rational.{ℚ}
pub use Rattle.nf_thin_equation_laws.specs.Equations.{IsPatternIn}
pub use Rattle.std.proofs.lemmas.List.{length-replicate, length-set}
pub use Rattle.std.proofs.lemmas.Option.{none-some, same_Some, slice_get-map, slice_get_within}
pub use Rattle.std.specs.Option.{option_map}
