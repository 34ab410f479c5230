use Rattle.std.proofs.Common.{◌∙◌}
use Rattle.nf_thin_guess.proofs.guessing.repaired.Goals as goal

pub loop-init : goal.loop-init
loop-init c = record {
  pattern = c.requires;
  met = c.in_ok-rounds.ensures ∙ (c.requires.pattern_is.count ∙ c.requires.sets_are.count);
}

pub come_back-requires-clause-met : goal.come_back-requires-clause-met
come_back-requires-clause-met c = c.loop.invariant.met

pub come_back-requires-clause-pattern : goal.come_back-requires-clause-pattern
come_back-requires-clause-pattern c = c.repair.ensures.pattern_is.count ∙ c.repair.ensures.sets_are.count

pub loop-preserved : goal.loop-preserved
loop-preserved c = record { pattern = c.repair.ensures; met = c.in_ok-come_back.ensures }
