use Rattle.std.proofs.Common.{ℕ, List, arith, ap, sym, ◌∙◌}
use Rattle.nf_rational.specs.Rational.{ℚ}
use Rattle.nf_model.specs.Entries.{number_at}
use Rattle.library_callers.proofs.thin.sink_slope.Goals as goal

pub returns-clause-some : goal.returns-clause-some
returns-clause-some c = (c.in_ok-thin.thin.flows.items, c.in_ok-thin.thin.slopes.items, c.in_ok-thin.ensures.thin)

pub returns-clause-all : goal.returns-clause-all
returns-clause-all c = λ flows slopes is.
    ap (λ (l : List ℚ). number_at l c.args.net.now.net.sink) (c.in_ok-thin.ensures.only c.requires.acyclic flows slopes is)
    ∙ ap (number_at c.in_ok-thin.thin.slopes.items) (sym c.sink.ensures.value) ∙ ap (λ (l : List ℚ). number_at l c.sink.result) (sym c.deref.ensures.value) ∙ sym c.slope_of.ensures
