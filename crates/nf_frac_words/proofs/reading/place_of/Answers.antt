use Rattle.std.proofs.Common.{ℕ, length, ap, ◌∙◌}
use Rattle.std.specs.Prelude.{Option}
use Rattle.std.specs.Option.{unwrap_or}
use Rattle.nf_frac_words.proofs.Fields.{place_from_position}
use Rattle.nf_frac_words.proofs.reading.place_of.Goals as goal

pub returns-clause-place : goal.returns-clause-place
returns-clause-place c =
    c.unwrap_or.ensures ∙ ap (λ (o : Option ℕ). unwrap_or o (length c.args.word.now)) c.position_of.ensures ∙ place_from_position _ c.args.word.now
