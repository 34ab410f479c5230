use Rattle.nf_complete_conditions.proofs.proper.is_proper.Goals as goal

pub carries_on_active-requires-clause-sets : goal.carries_on_active-requires-clause-sets
carries_on_active-requires-clause-sets c = c.requires.sets

pub carries_on_active-requires-clause-flows : goal.carries_on_active-requires-clause-flows
carries_on_active-requires-clause-flows c = c.requires.flows

pub starts-requires : goal.starts-requires
starts-requires c = c.requires.slopes

pub each_is_taken-requires-clause-sets : goal.each_is_taken-requires-clause-sets
each_is_taken-requires-clause-sets c = c.requires.sets

pub each_is_taken-requires-clause-flows : goal.each_is_taken-requires-clause-flows
each_is_taken-requires-clause-flows c = c.requires.flows

pub each_is_taken-requires-clause-slopes : goal.each_is_taken-requires-clause-slopes
each_is_taken-requires-clause-slopes c = c.requires.slopes

pub returns-then-not-none_negative : goal.returns-then-not-none_negative
returns-then-not-none_negative c = λ proper. c.if-not-none_negative.ensures proper.no_negative_flow

pub returns-then-not-none_negative-2 : goal.returns-then-not-none_negative-2
returns-then-not-none_negative-2 c = λ proper. c.if-not-none_negative-2.ensures proper.no_negative_slope

pub returns-then-not-carries_on_active : goal.returns-then-not-carries_on_active
returns-then-not-carries_on_active c = λ proper. c.if-not-carries_on_active.ensures proper.active_only

pub returns-then-not-starts : goal.returns-then-not-starts
returns-then-not-starts c = λ proper. c.if-not-starts.ensures proper.starts
