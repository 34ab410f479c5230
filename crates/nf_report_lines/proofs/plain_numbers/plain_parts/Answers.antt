use Rattle.std.proofs.Common.{rules, sym, ap, ◌∙◌, ℤ, ◌<◌, length}
use Rattle.nf_report_lines.proofs.Common.{w128, to_z-of_z, printed_parts}
use Rattle.nf_report_lines.proofs.PlainNumbers.{negative_is}
use Rattle.nf_report_lines.proofs.plain_numbers.plain_parts.Goals as goal

pub returns : goal.returns
returns c =
    let some : 0 < length c.args.word.now = search rules in
    negative_is c.args.word.now c.behind.result.now c.in_ok-magnitude.magnitude c.in_ok-magnitude.den some c.if-word-ne45.false c.behind.ensures
    c.in_ok-magnitude.ensures c.in_ok-num-2.ensures.some
    ∙ ap (λ (n : ℤ). printed_parts n c.in_ok-magnitude.den) (sym (to_z-of_z {w = w128} {z = c.in_ok-num-2.num} (search rules) ∙ c.in_ok-num-2.ensures.value))
