use Rattle.std.proofs.Common.{List, length, sym, ap, subst, ◌≤◌, ◌∙◌, replicate, Option, None, arith}
use Rattle.nf_report_lines.proofs.Common.{length-replicate, Trace, as_many_names, curve_keys}
use Rattle.nf_report_lines.proofs.DraftSteps.{nothing_read, no_curves}
use Rattle.nf_report_lines.proofs.draft.Draft.new.Goals as goal

pub returns-clause-draft : goal.returns-clause-draft
returns-clause-draft c =
    nothing_read c.args.net.now c.zero.result c.zero-2.result c.new.result.items c.in_ok-none.field-0 c.zero.ensures c.zero-2.ensures c.new.ensures.items
    (c.in_ok-none.ensures ∙ ap (λ k. replicate k None) (c.link_count.ensures ∙ sym (as_many_names c.args.net.now c.recall.ensures)))

pub returns-clause-within : goal.returns-clause-within
returns-clause-within c = record {
  curves = subst (λ (done : List (Option Trace)). length done ≤ length (curve_keys c.args.net.now)) (sym c.new.ensures.items) (omega arith);
  idle = no_curves c.args.net.now c.new.result.items c.new.ensures.items;
  states = ap length c.in_ok-none.ensures ∙ length-replicate c.link_count.result None ∙ c.link_count.ensures;
}
