use Rattle.std.proofs.Common.{sym, ◌∙◌}
use Rattle.nf_frac_words.proofs.Fields.{minus_some}
use Rattle.nf_frac_words.proofs.reading.without_minus.Goals as goal

pub slice_bounds-result-count : goal.slice_bounds-result-count
slice_bounds-result-count c = minus_some c.args.field.now (sym c.is_negative.ensures ∙ c.if-is_negative.true)

pub slice_bounds-result-start : goal.slice_bounds-result-start
slice_bounds-result-start c = minus_some c.args.field.now (sym c.is_negative.ensures ∙ c.if-is_negative.true)
