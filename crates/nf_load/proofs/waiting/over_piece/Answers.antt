use Rattle.std.proofs.Common.{sym, subst}
use Rattle.nf_load.proofs.Common.{IsPaced, Over}
use Rattle.nf_load.proofs.Pacing.{level_paced}
use Rattle.nf_load.proofs.waiting.over_piece.Goals as goal

pub returns-in-None-clause-pace : goal.returns-in-None-clause-pace
returns-in-None-clause-pace c =
    subst (λ (o : Over). IsPaced c.args.capacity.now c.args.before.now o) (sym c.empty_at.ensures.over)
    (level_paced c.args.capacity.now c.args.before.now c.args.end.now c.rate_if_empty.result c.requires.later
    (c.rate_if_empty.ensures.rate _ _ c.requires.known) c.rate_if_empty.ensures.empty)
