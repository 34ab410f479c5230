use Rattle.std.proofs.Common.{ap, ◌∙◌}
use Rattle.nf_phase.proofs.Common.{lt_ℚ, Standing}
use Rattle.nf_phase.proofs.Going.{at_or_below}
use Rattle.nf_phase.proofs.run.Run.is_at.Goals as goal

pub returns : goal.returns
returns c =
    at_or_below c.is_below.result c.args.self.now.time c.args.horizon (c.is_below.ensures ∙ ap (λ (s : Standing). lt_ℚ s.time c.args.horizon) c.self.view_is)
