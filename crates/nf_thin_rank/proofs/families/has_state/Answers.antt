use Rattle.std.proofs.Common.{sym, ap, ◌∙◌, Option, Some}
use Rattle.nf_thin_rank.proofs.Common.{State}
use Rattle.nf_thin_rank.proofs.Keepers.{some_state}
use Rattle.nf_thin_rank.proofs.families.has_state.Goals as goal

pub returns : goal.returns
returns c told = let w = some_state c.state.result (sym c.is_some.ensures ∙ told) in (w.0, c.state.ensures ∙ ap (λ (o : Option State). Some o) w.1)
