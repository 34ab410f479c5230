use Rattle.std.proofs.Common.{◌≡◌, ℕ, List, MatchBool, subst, sym}
use Rattle.nf_edge.specs.Taken.{with_more, TookFront}
use Rattle.library_callers.proofs.report.pass_on.Goals as goal

pub returns-in-Ok-clause-taken : goal.returns-in-Ok-clause-taken
returns-in-Ok-clause-taken g c =
    subst (λ (text : List ℕ). MatchBool c.write_whole.result (g.O.Sink.took c.write_whole.new.out ≡ with_more (g.O.Sink.took c.args.out.now) text)
    (TookFront (g.O.Sink.took c.args.out.now) (g.O.Sink.took c.write_whole.new.out) text)) (sym c.in-Ok.ensures.text) c.write_whole.ensures
