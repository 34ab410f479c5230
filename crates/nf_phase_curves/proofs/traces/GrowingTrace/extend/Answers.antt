use Rattle.std.proofs.Common.{◌∙◌, sym, ap, subst}
use Rattle.nf_phase_curves.proofs.Common.{◌<ℚ◌, Trace, time_of_last, trace_with, Roomy, rates_by}
use Rattle.nf_phase_curves.proofs.Corners.{trace-with}
use Rattle.nf_phase_curves.proofs.traces.GrowingTrace.extend.Goals as goal

pub returns : goal.returns
returns c =
    trace-with c.keeps_slope-kept.result c.self.inside.rates.items c.close_unless.new.rates.items c.self.inside.curve.grown c.extend.new.self.grown
    c.args.rate (c.args.time, c.args.amount)
    c.self.invariant c.keeps_slope-kept.ensures (c.close_unless.ensures ∙ ap (rates_by c.keeps_slope-kept.result c.self.inside.rates.items) c.slope-last.ensures) c.extend.ensures
    ∙ ap (λ (t : Roomy Trace). trace_with t.grown (c.args.time, c.args.amount) c.args.rate) c.self.view_is

pub extend-requires-clause-later : goal.extend-requires-clause-later
extend-requires-clause-later c = subst (λ (r : Roomy Trace). time_of_last r.grown.points <ℚ c.args.time) (sym c.self.view_is) c.requires.later
