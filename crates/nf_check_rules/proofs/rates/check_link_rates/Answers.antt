use Rattle.std.proofs.Common.{List, map, slice_get, sym, ap, ◌∙◌}
use Rattle.nf_check_rules.proofs.Common.{Trace, seen_trace}
use Rattle.nf_check_rules.proofs.rates.check_link_rates.Goals as goal

pub check_trace-requires : goal.check_trace-requires
check_trace-requires c =
    c.requires.inflow_rates c.args.link (seen_trace c.trace_at.result.now) (ap (λ (l : List Trace). slice_get (map seen_trace l) c.args.link)
    (sym c.deref.ensures.value) ∙ c.trace_at.ensures.there)

pub check_trace-requires-2 : goal.check_trace-requires-2
check_trace-requires-2 c =
    c.requires.outflow_rates c.args.link (seen_trace c.trace_at-2.result.now)
    (ap (λ (l : List Trace). slice_get (map seen_trace l) c.args.link) (sym c.deref-2.ensures.value) ∙ c.trace_at-2.ensures.there)
