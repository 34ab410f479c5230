use Rattle.std.proofs.Common.{rules, ◌≡◌, sym, ap, ◌∙◌, to_z}
use Rattle.nf_report_lines.proofs.Common.{w128, to_z-of_z}
use Rattle.nf_report_lines.proofs.PlainNumbers.{number_from}
use Rattle.nf_report_lines.proofs.plain_numbers.plain_number.Goals as goal

pub returns-then-denom-from : goal.returns-then-denom-from
returns-then-denom-from c =
    let same_num : c.numer.result ≡ c.in_ok-num.num =
    sym (to_z-of_z {w = w128} {z = c.numer.result} (search rules)) ∙ ap (to_z w128) c.if-numer-num.true ∙ to_z-of_z {w = w128} {z = c.in_ok-num.num} (search rules) in
    let same_den : c.denom.result ≡ c.from-then-numer-num.result =
    sym (to_z-of_z {w = w128} {z = c.denom.result} (search rules)) ∙ ap (to_z w128) c.if-denom-from.true ∙ to_z-of_z {w = w128} {z = c.from-then-numer-num.result} (search rules) in
    number_from c.args.word.now c.in_ok-num.num c.numer.result c.denom.result c.from-then-numer-num.result c.in_ok-num.den c.in_ok-number.number c.in_ok-num.ensures
    c.numer.ensures.value same_num c.numer.ensures.small c.denom.ensures.value c.from-then-numer-num.ensures same_den c.denom.ensures.small
