use Rattle.std.proofs.Common.{sym, ◌∙◌}
use Rattle.nf_thin_balance.proofs.Common.{passes_Q}
use Rattle.nf_thin_balance.proofs.Conserving.{full_known, full_unknown}
use Rattle.nf_thin_balance.proofs.scaled.full_range.Goals as goal

pub returns-in-Some : goal.returns-in-Some
returns-in-Some c =
    full_known passes_Q c.args.scale c.args.capacity c.args.head_slope c.in-Some.flow c.scaled_range.result
    (sym c.full_flow.ensures ∙ c.in-Some.is) c.scaled_range.ensures

pub returns-in-None : goal.returns-in-None
returns-in-None c = full_unknown c.args.scale c.args.capacity c.args.head_slope c.any-in-None.result c.any-in-None.ensures.least c.any-in-None.ensures.greatest

pub returns-then-not-active : goal.returns-then-not-active
returns-then-not-active c = full_unknown c.args.scale c.args.capacity c.args.head_slope c.any.result c.any.ensures.least c.any.ensures.greatest
