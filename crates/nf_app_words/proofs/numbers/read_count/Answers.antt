use Rattle.std.proofs.Common.{◌≡◌, ◌∙◌, ap, sym, true}
use Rattle.nf_app_words.proofs.Common.{is_whole}
use Rattle.nf_app_words.proofs.Counts.{not_whole, count_read, not_between, too_wide}
use Rattle.nf_app_words.proofs.numbers.read_count.Goals as goal

pub returns-then-not-is_whole-clause-value : goal.returns-then-not-is_whole-clause-value
returns-then-not-is_whole-clause-value c =
    not_whole c.args.least c.args.most c.args.word.now (ap is_whole (sym c.as_bytes.ensures.value) ∙ sym c.is_whole.ensures ∙ c.if-not-is_whole.true)

pub returns-in-Ok-clause-value : goal.returns-in-Ok-clause-value
returns-in-Ok-clause-value c =
    let whole : is_whole c.args.word.now ≡ true = ap is_whole (sym c.as_bytes.ensures.value) ∙ sym c.is_whole.ensures ∙ c.if-not-is_whole.false in
    count_read c.args.least c.args.most c.args.word.now whole c.in-Ok.count c.in-Ok.ensures.value.0 (sym c.is_between.ensures ∙ c.if-is_between.true)

pub returns-in_default-clause-value : goal.returns-in_default-clause-value
returns-in_default-clause-value c =
    let whole : is_whole c.args.word.now ≡ true = ap is_whole (sym c.as_bytes.ensures.value) ∙ sym c.is_whole.ensures ∙ c.if-not-is_whole.false in
    not_between c.args.least c.args.most c.args.word.now whole c.in-Ok.count c.in-Ok.ensures.value.0 (sym c.is_between.ensures ∙ c.if-is_between.false)

pub returns-in_default-2-clause-value : goal.returns-in_default-2-clause-value
returns-in_default-2-clause-value c =
    let whole : is_whole c.args.word.now ≡ true = ap is_whole (sym c.as_bytes.ensures.value) ∙ sym c.is_whole.ensures ∙ c.if-not-is_whole.false in
    too_wide c.args.least c.args.most c.args.word.now whole c.ranges.most.fits c.in_default.ensures.value.0
