use Rattle.std.proofs.Common.{rules, sym, ap, ◌∙◌, ℕ, ◌+◌, ◌*◌}
use Rattle.nf_report_lines.proofs.PlainNumbers.{digits_on, value_on}
use Rattle.nf_report_lines.proofs.plain_numbers.leading_number.Goals as goal

pub loop-place-preserved : goal.loop-place-preserved
loop-place-preserved c = record {
  digits = digits_on c.args.bytes.now c.loop-place.place c.loop-place-test.true c.loop-place.invariant.digits (search rules);
  number =
      value_on c.args.bytes.now c.loop-place.place c.loop-place.number c.loop-place-test.true c.loop-place.invariant.number
      ∙ ap (λ (digit : ℕ). 10 * c.loop-place.number + digit) (sym c.from.ensures);
}
