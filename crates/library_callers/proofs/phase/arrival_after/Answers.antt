use Rattle.std.proofs.Common.{◌≡◌, Bool, false, true, refl, sym, ◌∙◌}
use Rattle.std.specs.Prelude.{Option, Some, None, is_some}
use Rattle.nf_rational.specs.Rational.{ℚ}
use Rattle.nf_net_def.specs.declared.Cause.{Cause}
use Rattle.std.proofs.lemmas.List.{length-map}
use Rattle.nf_phase.specs.Solution.{IsRunSolution, bounds_of, solution_report}
use Rattle.library_callers.proofs.Arriving.{arrives, stops}
use Rattle.library_callers.proofs.phase.arrival_after.Goals as goal

none_there : (stopped : Option (Cause ℚ)) → is_some stopped ≡ false → stopped ≡ None
none_there (Some cause) e = absurd (cc)
none_there None e = refl

pub returns-then-is_some-clause-stops : goal.returns-then-is_some-clause-stops
returns-then-is_some-clause-stops c = λ _.
    let s = c.in_ok-solution.solution in
    stops c.args.net.now.net (bounds_of c.args.departure c.args.budgets) s.phases (solution_report c.args.departure s) c.in_ok-solution.ensures.solution
    (sym c.is_some.ensures ∙ c.if-is_some.true)

pub sink_label-requires-clause-labels : goal.sink_label-requires-clause-labels
sink_label-requires-clause-labels c =
    sym (length-map c.in_ok-solution.solution.flow.labels.items (λ curve. curve.points)) ∙ c.in_ok-solution.ensures.solution.well_formed.shape.labels.count

pub returns-clause-arrives : goal.returns-clause-arrives
returns-clause-arrives c =
    let s = c.in_ok-solution.solution in
    arrives c.args.net.now.net (bounds_of c.args.departure c.args.budgets) s.phases (solution_report c.args.departure s) c.in_ok-time.time c.in_ok-solution.ensures.solution
    (none_there s.stopped (sym c.is_some.ensures ∙ c.if-is_some.false)) c.in_ok-time.ensures
