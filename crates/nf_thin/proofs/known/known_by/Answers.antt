use Rattle.std.proofs.Common.{Ok}
use Rattle.nf_thin.proofs.Common.{passes_Q}
use Rattle.nf_thin_one.proofs.Outcomes.{values_count, tried_values}
use Rattle.nf_thin.proofs.LedSlopes.{judged_known, judged_thin}
use Rattle.nf_thin.proofs.known.known_by.Goals as goal

pub judge_values-requires-clause-values : goal.judge_values-requires-clause-values
judge_values-requires-clause-values c =
    values_count passes_Q c.args.problem.now.ranking.net.now.net c.args.problem.now.ranking.sets.now c.args.problem.now.rate c.args.last.pattern
    c.requires.pattern_in c.args.last.values.items c.requires.values_are

pub returns-in-Ok-clause-known : goal.returns-in-Ok-clause-known
returns-in-Ok-clause-known c =
    judged_known passes_Q c.args.problem.now.ranking.net.now.net c.args.problem.now.ranking.sets.now c.args.problem.now.rate c.args.last.pattern
    c.requires.pattern_in c.in-Ok.found
    (tried_values passes_Q c.args.problem.now.ranking.net.now.net c.args.problem.now.ranking.sets.now c.args.problem.now.rate c.args.last.pattern
    c.requires.pattern_in c.args.last.values.items c.requires.values_are (Ok c.in-Ok.found) c.in-Ok.ensures)

pub returns-in-Ok-clause-thin : goal.returns-in-Ok-clause-thin
returns-in-Ok-clause-thin c =
    judged_thin passes_Q c.args.problem.now.ranking.net.now.net c.args.problem.now.ranking.sets.now c.args.problem.now.rate c.args.last.pattern
    c.requires.pattern_in (c.each_is_led.ensures c.if-not-each_is_led.false) c.in-Ok.found
    (tried_values passes_Q c.args.problem.now.ranking.net.now.net c.args.problem.now.ranking.sets.now c.args.problem.now.rate c.args.last.pattern
    c.requires.pattern_in c.args.last.values.items c.requires.values_are (Ok c.in-Ok.found) c.in-Ok.ensures)
