use Rattle.std.proofs.Common.{◌∙◌, ap}
use Rattle.std.specs.Fmt.{signed_decimal}
use Rattle.std.proofs.Math.Facts.{to_z-of_z}
use Rattle.nf_frac_words.proofs.Printing.{whole_written, ratio_written}
use Rattle.nf_frac_words.proofs.text.write_parts.Goals as goal

pub returns-then-den-ne1 : goal.returns-then-den-ne1
returns-then-den-ne1 c =
    ratio_written c.args.num c.args.den _ _ _ _ _ _ c.requires.num c.requires.den c.if-den-ne1.true
    c.clear.ensures c.push.ensures c.push-then-den-ne1.ensures c.push-then-den-ne1-2.ensures
    (c.as_bytes.ensures.value ∙ c.format.ensures.text ∙ ap signed_decimal (to_z-of_z c.ranges.num))
    (c.as_bytes-then-den-ne1.ensures.value ∙ c.format-then-den-ne1.ensures.text)

pub returns-else-den-ne1 : goal.returns-else-den-ne1
returns-else-den-ne1 c =
    whole_written c.args.num c.args.den _ _ _ c.requires.num c.if-den-ne1.false c.clear.ensures c.push.ensures
    (c.as_bytes.ensures.value ∙ c.format.ensures.text ∙ ap signed_decimal (to_z-of_z c.ranges.num))
