use Rattle.std.proofs.Common.{◌∙◌, rules}
use Rattle.std.specs.Int.{w128}
use Rattle.std.proofs.Math.Facts.{to_z-of_z}
use Rattle.nf_frac_words.proofs.Faults.{AreFields, decimal_given}
use Rattle.nf_frac_words.proofs.reading.decimal.Goals as goal

pub returns : goal.returns
returns c =
    let checked = c.in_ok-check_fields.ensures in
    let are : AreFields c.without_minus-digits.result.now c.args.right.now =
    record { some_left = checked.some_left; some_right = checked.some_right; left = checked.left; right = checked.right } in
    let num = c.in-Some-Some.ensures in
    let den = c.in-Some-Some.ensures' in
    decimal_given c.args.bound c.args.left.now c.without_minus-digits.result.now c.args.right.now c.in-Some-Some.num c.in-Some-Some.den _
    c.without_minus-digits.ensures are num.0 num.1 den.0 den.1 (to_z-of_z {w = w128} {z = c.signed.result} (search rules) ∙ c.signed.ensures.sign)
