use Rattle.std.proofs.Common.{Ok, sym, ap, ◌∙◌}
use Rattle.nf_thin_one.proofs.Common.{err_from_is_err_and, passes_Q}
use Rattle.nf_linear.specs.Grids.{values_if}
use Rattle.nf_thin_one.proofs.Outcomes.{into_err, into_values, tried_none, values_count}
use Rattle.nf_thin_one.proofs.PatternIn.{pattern_in}
use Rattle.nf_thin_one.proofs.trying.try_pattern.Goals as goal

pub returns-in_err-solve_pattern : goal.returns-in_err-solve_pattern
returns-in_err-solve_pattern c =
    let q = err_from_is_err_and c.from_residual.result c.from_residual.ensures.1 in
    rw (q.1, q.2) (into_err passes_Q c.args.net.now.net c.args.sets.now c.args.rate c.args.pattern.now
    (pattern_in c.args.net.now c.args.sets.now c.args.pattern.now c.recall.ensures c.requires.sets c.requires.bounded c.requires.pattern)
    c.in_err-solve_pattern.field-0.0 c.in_err-solve_pattern.ensures)

pub judge_into-requires-clause-values : goal.judge_into-requires-clause-values
judge_into-requires-clause-values c =
    values_count passes_Q c.args.net.now.net c.args.sets.now c.args.rate c.args.pattern.now
    (pattern_in c.args.net.now c.args.sets.now c.args.pattern.now c.recall.ensures c.requires.sets c.requires.bounded c.requires.pattern)
    c.solve_pattern.new.values
    (sym c.in_ok-solve_pattern.ensures ∙ ap (λ f. Ok (values_if f c.solve_pattern.new.values)) c.in-One.is)

pub returns-in-One : goal.returns-in-One
returns-in-One c =
    into_values passes_Q c.args.net.now.net c.args.sets.now c.args.rate c.args.pattern.now
    (pattern_in c.args.net.now c.args.sets.now c.args.pattern.now c.recall.ensures c.requires.sets c.requires.bounded c.requires.pattern)
    c.solve_pattern.new.values
    c.judge_into.new.flows c.judge_into.new.slopes
    (sym c.in_ok-solve_pattern.ensures ∙ ap (λ f. Ok (values_if f c.solve_pattern.new.values)) c.in-One.is)
    c.judge_into.ensures.flows c.judge_into.ensures.slopes c.judge_into.result c.judge_into.ensures.judged

pub returns-in-NotOne : goal.returns-in-NotOne
returns-in-NotOne c =
    tried_none passes_Q c.args.net.now.net c.args.sets.now c.args.rate c.args.pattern.now
    (pattern_in c.args.net.now c.args.sets.now c.args.pattern.now c.recall.ensures c.requires.sets c.requires.bounded c.requires.pattern)
    (sym c.in_ok-solve_pattern.ensures ∙ ap (λ f. Ok (values_if f c.solve_pattern.new.values)) c.in-NotOne.is)

pub judge_into-requires-clause-flows : goal.judge_into-requires-clause-flows
judge_into-requires-clause-flows c = c.requires.flows

pub judge_into-requires-clause-slopes : goal.judge_into-requires-clause-slopes
judge_into-requires-clause-slopes c = c.requires.labels

pub judge_into-requires-clause-pattern : goal.judge_into-requires-clause-pattern
judge_into-requires-clause-pattern c = pattern_in c.args.net.now c.args.sets.now c.args.pattern.now c.recall.ensures c.requires.sets c.requires.bounded c.requires.pattern

pub solve_pattern-requires-clause-pattern : goal.solve_pattern-requires-clause-pattern
solve_pattern-requires-clause-pattern c = pattern_in c.args.net.now c.args.sets.now c.args.pattern.now c.recall.ensures c.requires.sets c.requires.bounded c.requires.pattern

pub unknown_count-count-requires : goal.unknown_count-count-requires
unknown_count-count-requires c = c.requires.sets.count
