use Rattle.std.proofs.Common.{List, ap, ◌∙◌}
use Rattle.nf_rational.specs.Rational.{ℚ}
use Rattle.nf_model.specs.ThinFlow.{Sets, sets_of}
use Rattle.library_callers.proofs.Slacks.{queue_is_slack}
use Rattle.library_callers.proofs.sets.has_queue.Goals as goal

pub returns : goal.returns
returns c =
    queue_is_slack c.args.links.now c.args.labels.now c.args.link c.in_ok-flags.flags.resetting c.resetting.result
    (ap (λ (s : Sets). s.resetting) c.in_ok-flags.ensures ∙ ap (λ (slacks : List ℚ). (sets_of slacks).resetting) (c.deref.ensures.value ∙ c.in_ok-found.ensures.slacks))
    c.resetting.ensures.flag
