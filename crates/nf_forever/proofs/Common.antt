-- The names that most proofs of this crate cite, passed on from one place. Declares nothing.
pub use Rattle.nf_edge.specs.Writing.{state_of}
pub use Rattle.nf_edge.specs.declared.SinkFault.{SinkFault}
pub use Rattle.nf_forever.specs.Ends.{end_in}
pub use Rattle.nf_forever.specs.Seen.{forever_in, tail_in}
pub use Rattle.nf_forever_def.specs.ForeverRun.{End, Forever, IsForever, IsForeverRun, NeverEnds, RunsForever, Stops, at_phases, fails, forever_of, goes}
pub use Rattle.nf_forever_def.specs.ForeverRun.{never_ends}
pub use Rattle.nf_forever_def.specs.ForeverText.{HasForm, flow_line, forever_lines, slope_line, tail_lines}
pub use Rattle.nf_frac_def.specs.Passing.{Passing, passes_Q}
pub use Rattle.nf_frac_words.specs.Printed.{printed}
pub use Rattle.nf_model.specs.Entries.{number_at}
pub use Rattle.nf_model.specs.Equilibrium.{Equilibrium, Flow}
pub use Rattle.nf_model.specs.Network.{IsNetwork, Network}
pub use Rattle.nf_model.specs.Pattern.{IsListedIn, Pattern}
pub use Rattle.nf_net_def.specs.Names.{name_at}
pub use Rattle.nf_net_def.specs.Report.{for_each, state_lines}
pub use Rattle.nf_net_def.specs.declared.Cause.{Cause}
pub use Rattle.nf_phase.specs.Stepping.{IsCauseOn, Reaches, starts, tail_by}
pub use Rattle.nf_phase_def.specs.ToEnd.{FailsOn, GoesForever, GoesToEnd, Tail}
pub use Rattle.nf_rational.specs.Rational.{ℚ}
pub use Rattle.nf_report_pages.proofs.Gathering.{gathered_failed, gathered_next, gathered_nil, gathered_refused, gathered_then_failed, gathered_written}
pub use Rattle.nf_report_pages.proofs.Gathering.{right_first, same_gathered}
pub use Rattle.nf_report_pages.proofs.Parts.{each_all, each_left, each_next}
pub use Rattle.nf_report_pages.specs.Pages.{GatheredLines}
pub use Rattle.nf_report_pages.specs.Written.{Line, flow_lines}
pub use Rattle.nf_thin_def.specs.PhaseRun.{IsStart, Standing, flow_of}
pub use Rattle.std.specs.List.{range_with_len}
pub use Rattle.std.specs.Option.{option_copied}
