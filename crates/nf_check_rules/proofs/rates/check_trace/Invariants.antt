use Rattle.std.proofs.Common.{◌≡◌, drop}
use Rattle.nf_check_rules.proofs.Common.{passes_Q, rates_list}
use Rattle.nf_check_def.specs.declared.Subject.TheVariants.{Link as OfLink}
use Rattle.nf_check_rules.proofs.rates.check_trace.Given as goal

abbrev pub invariant-loop-i : goal.invariant-loop-i
invariant-loop-i l =
    rates_list passes_Q (OfLink l.link) (drop l.i l.trace.curve.points) (drop l.i l.trace.rates.items) ≡ rates_list passes_Q
    (OfLink l.link) l.trace.curve.points l.trace.rates.items
